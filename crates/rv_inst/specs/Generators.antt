-- The instructions that put a constant into a register, those that jump by an offset, and those that move registers.
use Rattle.std.specs.Prelude.{◌≡◌, ℕ, ◌==◌, Bool, false, if◌then◌else◌, List, [], ◌∷◌, Option, Some, None, ℤ, pos, negsuc}
use Rattle.std.proofs.Common.{lit<, refl}
use Rattle.std.specs.Int.{cast_signed, w64}
use Rattle.rv_base.specs.declared.ir_type.IrType.{IrType}
use Rattle.rv_base.specs.declared.ir_type.IrType.TheVariants.{I64, F64, Vector as VectorOf}
use Rattle.rv_base.specs.declared.ir_type.LaneType.TheVariants as lane
use Rattle.rv_base.specs.declared.regs.Reg.{Reg}
use Rattle.rv_base.specs.declared.regs.RegClass.{RegClass}
use Rattle.rv_base.specs.declared.regs.RegClass.TheVariants.{Int, Float, Vector}
use Rattle.rv_base.specs.declared.regs.Writable.{Writable}
use Rattle.rv_base.specs.Regs.{class_of, int_reg}
use Rattle.rv_imms.specs.declared.imm12.Imm12.{Imm12}
use Rattle.rv_imms.specs.declared.imm20.Imm20.{Imm20}
use Rattle.rv_imms.specs.Splitting.{IsSplittable}
use Rattle.rv_ops.specs.declared.alu.AluOPRRI.TheVariants.{Addi}
use Rattle.rv_inst.specs.Immediates.{upper_of, lower_of}
use Rattle.rv_inst.specs.declared.inst.Inst.{Inst}
use Rattle.rv_inst.specs.declared.inst.Inst.TheVariants.{Lui, Auipc, AluRRImm12, Jalr, Mov, LoadInlineConst}

-- x0, which reads 0
abbrev pub zero_register : Reg
zero_register = int_reg 0 (lit< tt)

abbrev pub addi_of : Writable Reg → Reg → Imm12 → Inst
addi_of rd rs imm = AluRRImm12 Addi rd rs imm

abbrev pub is_zero : ℤ → Bool
is_zero (pos n) = n == 0
is_zero (negsuc n) = false

-- addi of the lower immediate to what lui made of the upper one; no lui where the upper one is 0, and after lui no addi where
-- the lower one is 0
abbrev pub split_insts : Writable Reg → Imm20 → Imm12 → List Inst
split_insts rd upper lower =
    if is_zero upper.value then addi_of rd zero_register lower ∷
    [] else Lui rd upper ∷
    (if is_zero lower.value then [] else addi_of rd rd.reg lower ∷ [])

-- the instructions of a number's own two immediates
pub record AreSplit (rd : Writable Reg) (z : ℤ) (insts : List Inst) : Type 0 where
  pub upper : Imm20
  pub lower : Imm12
  pub upper_part : upper.value ≡ upper_of z
  pub lower_part : lower.value ≡ lower_of z
  pub in_parts : insts ≡ split_insts rd upper lower

-- The instructions of a constant, given as 64 bits: those of its two immediates, where two make it; any other stands among the
-- code, as an integer of this type.
pub record AreConstant (ty : IrType) (rd : Writable Reg) (value : ℕ) (insts : List Inst) : Type 0 where
  pub split : IsSplittable (cast_signed w64 value) → AreSplit rd (cast_signed w64 value) insts
  pub inline : ¬ (IsSplittable (cast_signed w64 value)) → insts ≡ LoadInlineConst rd ty value ∷ []

-- where a jump leaves the address after it: in x0, so nowhere, where no register is named
abbrev pub link_or_zero : Option (Writable Reg) → Writable Reg
link_or_zero None = record { reg = zero_register }
link_or_zero (Some link) = link

-- auipc and jalr with an offset's own two immediates
pub record AreJump (link : Option (Writable Reg)) (tmp : Writable Reg) (offset : ℤ) (insts : List Inst) : Type 0 where
  pub upper : Imm20
  pub lower : Imm12
  pub upper_part : upper.value ≡ upper_of offset
  pub lower_part : lower.value ≡ lower_of offset
  pub in_parts : insts ≡ Auipc tmp upper ∷ Jalr (link_or_zero link) tmp.reg lower ∷ []

-- the type of whole registers of a class
abbrev pub canonical_type : RegClass → IrType
canonical_type Int = I64
canonical_type Float = F64
canonical_type Vector = VectorOf (record { lane = lane.I8; lanes = 16; counted = refl })

abbrev pub move_of : Writable Reg → Reg → Inst
move_of rd rm = Mov rd rm (canonical_type (class_of rd.reg))

-- a move for each pair, in order
abbrev pub moves_of : List (Writable Reg) → List Reg → List Inst
moves_of [] src = []
moves_of (rd ∷ rds) [] = []
moves_of (rd ∷ rds) (rm ∷ src) = move_of rd rm ∷ moves_of rds src
