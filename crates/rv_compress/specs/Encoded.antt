-- The instruction that was chosen to stand for an operation, one of sixteen bits or of thirty-two: links of the proof.
use Rattle.std.specs.Prelude.{◌≡◌, ⊤, ℕ, ◌*◌, ◌%◌, ◌≤◌, nat_eq, false, Option, Some, None, ℤ, pos, true}
use Rattle.rv_base.specs.declared.flags.IsaFlags.{IsaFlags}
use Rattle.rv_machine.specs.declared.decoding.Decoded.{Decoded}
use Rattle.rv_machine.specs.declared.ops.AluOp.{AluOp}
use Rattle.rv_machine.specs.declared.ops.AluOp.TheVariants.{Int, Bit}
use Rattle.rv_machine.specs.declared.ops.IntOp.TheVariants as int
use Rattle.rv_machine.specs.declared.ops.BitOp.TheVariants as bit
use Rattle.rv_machine.specs.Compressed.{decode_half}
use Rattle.rv_machine.specs.Decode.{decode}
use Rattle.rv_inst.specs.Forms.{is_six_bits, is_scaled}
use Rattle.rv_ops.specs.declared.compressed.CbOp.{CbOp}
use Rattle.rv_ops.specs.declared.compressed.CbOp.TheVariants.{CSrli, CSrai, CAndi}
use Rattle.rv_ops.specs.declared.compressed.ZcbMemOp.{ZcbMemOp}
use Rattle.rv_ops.specs.declared.compressed.ZcbMemOp.TheVariants.{CLbu, CLhu, CLh, CSb, CSh}
use Rattle.rv_ops.specs.declared.memory.LoadOP.{LoadOP}
use Rattle.rv_ops.specs.declared.memory.LoadOP.TheVariants as loads
use Rattle.rv_ops.specs.declared.memory.StoreOP.{StoreOP}
use Rattle.rv_ops.specs.declared.memory.StoreOP.TheVariants as stores
use Rattle.rv_ops.specs.declared.compressed.CsznOp.{CsznOp}
use Rattle.rv_ops.specs.declared.compressed.CsznOp.TheVariants.{CNot, CZextb, CZexth, CZextw, CSextb, CSexth}
use Rattle.rv_compress.specs.declared.compressed.Encoded.{Encoded}
use Rattle.rv_compress.specs.declared.compressed.Encoded.TheVariants.{Half, Word}

-- an instruction of sixteen bits is this operation
pub record IsHalf (flags : IsaFlags) (half : ℕ) (d : Decoded) : Type 0 where
  pub narrow : nat_eq (half % 4) 3 ≡ false
  pub decodes : decode_half flags half ≡ Some d
  pub long : d.len ≡ 2

-- one of thirty-two is
pub record IsWord (flags : IsaFlags) (word : ℕ) (d : Decoded) : Type 0 where
  pub decodes : decode flags word ≡ Some d
  pub long : d.len ≡ 4

abbrev pub Holds : IsaFlags → Encoded → Decoded → Type 0
Holds flags (Half half) d = IsHalf flags half d
Holds flags (Word word) d = IsWord flags word d

-- what holds of one of sixteen bits
abbrev pub WhereHalf : Encoded → (ℕ → Type 0) → Type 0
WhereHalf (Half half) P = P half
WhereHalf (Word word) P = ⊤

-- an instruction of sixteen bits was chosen exactly where there is a form, and is that form
abbrev pub IsForm : IsaFlags → Option ℕ → Option Decoded → Type 0
IsForm flags None None = ⊤
IsForm flags None (Some d) = ⊥
IsForm flags (Some half) None = ⊥
IsForm flags (Some half) (Some d) = IsHalf flags half d

-- an immediate of six bits, which is this value
pub record IsSixBits (value imm : ℤ) : Type 0 where
  pub fits : is_six_bits value ≡ true
  pub same : imm ≡ value

-- the operation of a shift to the right
abbrev pub right_shift : CbOp → Option AluOp
right_shift CSrli = Some (Int int.Srli)
right_shift CSrai = Some (Int int.Srai)
right_shift CAndi = None

-- the operation of one source that extends it
abbrev pub extension : CsznOp → Option AluOp
extension CNot = None
extension CZextb = None
extension CZexth = Some (Bit bit.ZextH)
extension CZextw = None
extension CSextb = Some (Bit bit.SextB)
extension CSexth = Some (Bit bit.SextH)

-- an offset is so many sizes, at most a greatest number
pub record IsScaledBy (size most : ℕ) (offset : ℤ) (number : ℕ) : Type 0 where
  pub is : is_scaled size most offset ≡ true
  pub small : number ≤ most
  pub same : offset ≡ pos (size * number)

-- what a load or a store of Zcb moves, and how many of those its offset is at most
abbrev pub narrow_size : ZcbMemOp → ℕ
narrow_size CLbu = 1
narrow_size CLhu = 2
narrow_size CLh = 2
narrow_size CSb = 1
narrow_size CSh = 2

abbrev pub narrow_most : ZcbMemOp → ℕ
narrow_most CLbu = 3
narrow_most CLhu = 1
narrow_most CLh = 1
narrow_most CSb = 3
narrow_most CSh = 1

abbrev pub narrow_load : ZcbMemOp → Option LoadOP
narrow_load CLbu = Some loads.Lbu
narrow_load CLhu = Some loads.Lhu
narrow_load CLh = Some loads.Lh
narrow_load CSb = None
narrow_load CSh = None

abbrev pub narrow_store : ZcbMemOp → Option StoreOP
narrow_store CLbu = None
narrow_store CLhu = None
narrow_store CLh = None
narrow_store CSb = Some stores.Sb
narrow_store CSh = Some stores.Sh
