-- What an island is in code: a jump to its end, and the veneers between.
use Rattle.std.specs.Prelude.{◌≡◌, ℕ, ◌+◌, ◌*◌, ◌^◌, ◌≤◌, ◌⊎◌, List, slice_index, Some, ℤ, pos, ◌+ℤ◌, ◌*ℤ◌, ◌-ℤ◌}
use Rattle.rv_base.specs.declared.flags.IsaFlags.{IsaFlags}
use Rattle.rv_machine.specs.declared.ops.MOp.TheVariants.{Base}
use Rattle.rv_machine.specs.declared.ops.BaseOp.TheVariants.{Auipc, Jal, Jalr}
use Rattle.rv_machine.specs.Decode.{int_decode}
use Rattle.rv_encode.specs.Operations.{decoded}

-- the word that stands in bytes at an offset, the least byte first
abbrev pub word_in : List ℕ → ℕ → ℕ
word_in bytes at = slice_index bytes at + slice_index bytes (at + 1) * 2 ^ 8 + slice_index bytes (at + 2) * 2 ^ 16 + slice_index bytes (at + 3) * 2 ^ 24

-- a veneer stands at an offset: auipc and jalr with x31, which go on to another offset
pub record GoesOn (flags : IsaFlags) (bytes : List ℕ) (at to : ℕ) : Type 0 where
  pub upper : ℤ
  pub lower : ℤ
  pub first : int_decode flags (word_in bytes at) ≡ Some (decoded (Base Auipc) 31 0 0 upper)
  pub second : int_decode flags (word_in bytes (at + 4)) ≡ Some (decoded (Base Jalr) 0 31 0 lower)
  pub sum : (upper *ℤ pos 4096) +ℤ lower ≡ pos to -ℤ pos at

-- an island stands between two offsets: it begins with a jump to its end, straight or by a veneer
pub record IsIsland (flags : IsaFlags) (bytes : List ℕ) (start end : ℕ) : Type 0 where
  pub longer : start + 4 ≤ end
  pub target : ℕ
  pub jump : int_decode flags (word_in bytes start) ≡ Some (decoded (Base Jal) 0 0 0 (pos target -ℤ pos start))
  pub leads : (target ≡ end) ⊎ GoesOn flags bytes target end
