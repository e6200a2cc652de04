-- What patched windows decode to.
use Rattle.std.specs.Prelude.{◌≡◌, ℕ, ◌%◌, ◌^◌, ◌<◌, ◌⊎◌, nat_eq, false, Some, List, drop, ℤ, pos, ◌+ℤ◌, ◌*ℤ◌}
use Rattle.std.specs.Option.{option_map}
use Rattle.rv_base.specs.declared.flags.IsaFlags.{IsaFlags}
use Rattle.rv_machine.specs.declared.decoding.Decoded.{Decoded}
use Rattle.rv_machine.specs.declared.ops.MOp.TheVariants.{Base}
use Rattle.rv_machine.specs.declared.ops.BaseOp.TheVariants.{Jal}
use Rattle.rv_machine.specs.Layout.{word_opcode, word_funct3, u_imm, i_imm, compressed}
use Rattle.rv_machine.specs.Compressed.{decode_half}
use Rattle.rv_machine.specs.Opcodes.{JALR, OP_IMM}
use Rattle.rv_machine.specs.Decode.{decode}
use Rattle.rv_inst.specs.LabelUseWords.{word_at}

-- an operation with another immediate
abbrev pub with_immediate : ℤ → Decoded → Decoded
with_immediate d r = record r { imm = d }

-- the word of a jalr, or of an addi
abbrev pub TakesLowerPart : ℕ → Type 0
TakesLowerPart word = (word_opcode word ≡ JALR) ⊎ ((word_opcode word ≡ OP_IMM) × (word_funct3 word ≡ 0))

-- the two words of a window decode as before, with the upper and the lower immediate that they hold, which sum to a distance
pub record PairDecodes (flags : IsaFlags) (old new : List ℕ) (d : ℤ) : Type 0 where
  pub upper : ℤ
  pub lower : ℤ
  pub upper_is : upper ≡ u_imm (word_at new)
  pub lower_is : lower ≡ i_imm (word_at (drop 4 new))
  pub first : decode flags (word_at new) ≡ option_map (with_immediate upper) (decode flags (word_at old))
  pub second : decode flags (word_at (drop 4 new)) ≡ option_map (with_immediate lower) (decode flags (word_at (drop 4 old)))
  pub sum : (upper *ℤ pos 4096) +ℤ lower ≡ d

-- a halfword is a jump by a distance, and no word begins with it
pub record HalfJumps (flags : IsaFlags) (half : ℕ) (d : ℤ) : Type 0 where
  pub decodes : decode_half flags half ≡ Some (compressed (Base Jal) 0 0 0 d)
  pub narrow : nat_eq (half % 4) 3 ≡ false
  pub fits : half < 2 ^ 16
