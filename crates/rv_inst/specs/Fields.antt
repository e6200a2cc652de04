-- A part of a register, so many bits from a bit on that another register gives: the instructions that take it out, clear it and put other
-- bits there, and what they leave.
use Rattle.std.specs.Prelude.{◌≡◌, ◌≢◌, ℕ, ◌+◌, ◌*◌, ◌/◌, ◌%◌, ◌^◌, ◌<◌, ◌==◌, Bool, false, if◌then◌else◌, List, [], ◌∷◌, ◌++◌, length, bit_or, pos, negsuc}
use lib.Signed.{le_z_yes}
use Rattle.rv_base.specs.declared.ir_type.IrType.{IrType}
use Rattle.rv_base.specs.declared.regs.Reg.{Reg}
use Rattle.rv_base.specs.declared.regs.Writable.{Writable}
use Rattle.rv_base.specs.IrType.{bits_of}
use Rattle.rv_base.specs.Regs.{number_of}
use Rattle.rv_imms.specs.declared.imm12.Imm12.{Imm12}
use Rattle.rv_machine.specs.State.{Values, AreValues, reg, set_reg, wrap}
use Rattle.rv_ops.specs.declared.alu.AluOPRRI.TheVariants.{Xori}
use Rattle.rv_ops.specs.declared.alu.AluOPRRR.TheVariants.{And, Or, Sll, Srl}
use Rattle.rv_inst.specs.declared.inst.Inst.{Inst}
use Rattle.rv_inst.specs.declared.inst.Inst.TheVariants.{AluRRImm12, AluRRR, Extend}
use Rattle.rv_inst.specs.Bits.{extended}
use Rattle.rv_inst.specs.Generators.{zero_register, addi_of}
use Rattle.rv_inst.specs.Meaning.{Environment, Next}
use Rattle.rv_inst.specs.Sequences.{insts_effect, insts_exit}

-- ---- numbers

-- a number whose so many bits from bit o on are 0
abbrev pub without_part : ℕ → ℕ → ℕ → ℕ
without_part o bits n = n % 2 ^ o + n / 2 ^ (o + bits) * 2 ^ (o + bits)

-- a number whose so many bits from bit o on are the low ones of x
abbrev pub with_part : ℕ → ℕ → ℕ → ℕ → ℕ
with_part o bits x n = n % 2 ^ o + x % 2 ^ bits * 2 ^ o + n / 2 ^ (o + bits) * 2 ^ (o + bits)

-- ---- instructions

abbrev pub minus_one : Imm12
minus_one = record { value = negsuc 0; low = le_z_yes tt; high = le_z_yes tt }

abbrev pub byte_mask : Imm12
byte_mask = record { value = pos 255; low = le_z_yes tt; high = le_z_yes tt }

-- each bit inverted
abbrev pub not_of : Writable Reg → Reg → Inst
not_of rd rs = AluRRImm12 Xori rd rs minus_one

-- as many low bits as a type has, sign-extended or zero-extended
abbrev pub extend_of : Bool → IrType → Writable Reg → Reg → Inst
extend_of signed ty rd rn = Extend rd rn signed (bits_of ty) 64

-- as many ones as a type has bits: 255 for 8 bits, and else -1, of which only the low bits are taken for less than 64
abbrev pub mask_insts : Writable Reg → IrType → List Inst
mask_insts rd ty =
    if bits_of ty == 8 then addi_of rd zero_register byte_mask ∷
    [] else addi_of rd zero_register minus_one ∷
    (if bits_of ty == 64 then [] else extend_of false ty rd rd.reg ∷ [])

abbrev pub extract_insts : Bool → Writable Reg → Reg → Reg → IrType → List Inst
extract_insts signed rd offset rs ty = AluRRR Srl rd rs offset ∷ extend_of signed ty rd rd.reg ∷ []

abbrev pub unset_insts : Writable Reg → Writable Reg → Reg → IrType → List Inst
unset_insts rd tmp offset ty = mask_insts tmp ty ++ AluRRR Sll tmp tmp.reg offset ∷ not_of tmp tmp.reg ∷ AluRRR And rd rd.reg tmp.reg ∷ []

abbrev pub set_insts : Writable Reg → Writable Reg → Reg → Reg → IrType → List Inst
set_insts rd tmp offset rs ty = extend_of false ty tmp rs ∷ AluRRR Sll tmp tmp.reg offset ∷ AluRRR Or rd rd.reg tmp.reg ∷ []

abbrev pub merge_insts : Writable Reg → Writable Reg → Reg → Reg → IrType → List Inst
merge_insts rd tmp offset rs ty = unset_insts rd tmp offset ty ++ set_insts rd tmp offset rs ty

-- ---- what they leave

-- where the part begins: the low 6 bits of the offset's register
abbrev pub part_start : Reg → Values → ℕ
part_start offset v = reg v (number_of offset) % 64

-- Whatever the 31 registers and the memory hold, a number that these give is put into a register, by its number, and nothing else changes;
-- x0 drops it. Then the next instruction runs.
pub record SetsRegisterTo (insts : List Inst) (register : ℕ) (n : Values → ℕ) : Type 0 where
  pub effect : (at : ℕ → Environment) (v : Values) → length v.regs ≡ 31 → insts_effect at insts v ≡ set_reg v register (n v)
  pub onward : (at : ℕ → Environment) (v : Values) → insts_exit at insts v ≡ Next

-- The same, where each register and byte is in its range, but that a temporary is left with some number, too.
pub record SetsRegisterBy (insts : List Inst) (tmp register : ℕ) (n : Values → ℕ) : Type 0 where
  pub left : Values → ℕ
  pub effect : (at : ℕ → Environment) (v : Values) → AreValues v → insts_effect at insts v ≡ set_reg (set_reg v tmp (left v)) register (n v)
  pub onward : (at : ℕ → Environment) (v : Values) → insts_exit at insts v ≡ Next

-- a register that is none of these
abbrev pub IsNoneOf : Reg → List Reg → Type 0
IsNoneOf r [] = Unit {0}
IsNoneOf r (other ∷ others) = (number_of r ≢ number_of other) × IsNoneOf r others

-- the part is taken out, sign-extended or zero-extended
abbrev pub Extracts : Bool → Writable Reg → Reg → Reg → IrType → List Inst → Type 0
Extracts signed rd offset rs ty insts = SetsRegisterTo insts (number_of rd.reg) (λ v. extended signed (bits_of ty) (reg v (number_of rs) / 2 ^ part_start offset v))

-- It is cleared, also where it ends above the register. The temporary is another register than these, and x0.
abbrev pub Unsets : Writable Reg → Writable Reg → Reg → IrType → List Inst → Type 0
Unsets rd tmp offset ty insts =
    0 < number_of tmp.reg →
    IsNoneOf tmp.reg (rd.reg ∷ offset ∷ []) →
    SetsRegisterBy insts (number_of tmp.reg) (number_of rd.reg) (λ v. without_part (part_start offset v) (bits_of ty) (reg v (number_of rd.reg)))

-- The low bits of a register are put over it, or'd with what stands there, as many as there is room for below bit 64.
abbrev pub Sets : Writable Reg → Writable Reg → Reg → Reg → IrType → List Inst → Type 0
Sets rd tmp offset rs ty insts =
    0 < number_of tmp.reg →
    IsNoneOf tmp.reg (rd.reg ∷ offset ∷ []) →
    SetsRegisterBy insts (number_of tmp.reg) (number_of rd.reg) (λ v. bit_or (reg v (number_of rd.reg)) (wrap (reg v (number_of rs) % 2 ^ bits_of ty * 2 ^ part_start offset v)))

-- The low bits of a register are put in its place, as many as there is room for. That register and the offset's are still read once the
-- others are written, and so are none of them.
abbrev pub Merges : Writable Reg → Writable Reg → Reg → Reg → IrType → List Inst → Type 0
Merges rd tmp offset rs ty insts =
    0 < number_of tmp.reg →
    IsNoneOf tmp.reg (rd.reg ∷ offset ∷ rs ∷ []) →
    IsNoneOf rd.reg (offset ∷ rs ∷ []) →
    SetsRegisterBy insts (number_of tmp.reg) (number_of rd.reg) (λ v. wrap (with_part (part_start offset v) (bits_of ty) (reg v (number_of rs)) (reg v (number_of rd.reg))))
