-- Instructions that follow one another: what they make of the values, and how the last of them is left.
use Rattle.std.specs.Prelude.{◌≡◌, ℕ, suc, ◌+◌, ◌*◌, ◌/◌, ◌^◌, ◌<◌, if◌then◌else◌, List, [], ◌∷◌, length, Option, ℤ}
use Rattle.std.specs.Int.{cast_signed, w64}
use Rattle.rv_base.specs.declared.ir_type.IrType.{IrType}
use Rattle.rv_base.specs.declared.regs.Reg.{Reg}
use Rattle.rv_base.specs.declared.regs.Writable.{Writable}
use Rattle.rv_base.specs.Regs.{number_of}
use Rattle.rv_machine.specs.State.{Values, set_reg, wrap, low64}
use Rattle.rv_inst.specs.declared.inst.Inst.{Inst}
use Rattle.rv_inst.specs.Addresses.{is_splittable}
use Rattle.rv_inst.specs.Generators.{link_or_zero}
use Rattle.rv_inst.specs.Immediates.{upper_of}
use Rattle.rv_inst.specs.Meaning.{Environment, constant_of, inst_effect, inst_exit, Exit, Next, Leave}

-- what they make of the values, each read in the environment of its number
abbrev pub insts_effect : (ℕ → Environment) → List Inst → Values → Values
insts_effect at [] v = v
insts_effect at (inst ∷ insts) v = insts_effect (λ k. at (suc k)) insts (inst_effect (at 0) inst v)

-- how they are left, where each but the last is left to the next
abbrev pub insts_exit : (ℕ → Environment) → List Inst → Values → Exit
insts_exit at [] v = Next
insts_exit at (inst ∷ []) v = inst_exit (at 0) inst v
insts_exit at (inst ∷ next ∷ insts) v = insts_exit (λ k. at (suc k)) (next ∷ insts) (inst_effect (at 0) inst v)

-- ---- a constant

-- whatever the 31 registers and the memory hold, they put a number into a register, by its number, and change nothing else; x0 drops
-- it. Then the next instruction runs
pub record SetsRegister (insts : List Inst) (register n : ℕ) : Type 0 where
  pub effect : (at : ℕ → Environment) (v : Values) → length v.regs ≡ 31 → insts_effect at insts v ≡ set_reg v register n
  pub onward : (at : ℕ → Environment) (v : Values) → insts_exit at insts v ≡ Next

-- what is put for a constant, given as 64 bits: all of them, where its two immediates make it; else what one of this type among the
-- code is
abbrev pub left_of : IrType → ℕ → ℕ
left_of ty value = if is_splittable (cast_signed w64 value) then value else constant_of ty value

-- ---- a jump

-- From the address of the first of them on they jump so many bytes, to an even address. The temporary, which isn't x0, has the
-- upper part of that sum; the link the address after the last of them.
pub record JumpsBy (link : Option (Writable Reg)) (tmp : Writable Reg) (offset : ℤ) (insts : List Inst) : Type 0 where
  pub goes :
      (at : ℕ → Environment) (v : Values) →
      length v.regs ≡ 31 →
      0 < number_of tmp.reg →
      insts_exit at insts v ≡ Leave (wrap ((at 0).start + low64 offset) / 2 * 2)
  pub leaves :
      (at : ℕ → Environment) (v : Values) →
      insts_effect at insts v ≡ set_reg (set_reg v (number_of tmp.reg) (wrap ((at 0).start + low64 (upper_of offset) * 2 ^ 12))) (number_of (link_or_zero link).reg) (at 1).after
