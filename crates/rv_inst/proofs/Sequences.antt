-- What the instructions of a constant and those of a jump make of the values.
use Rattle.std.proofs.Common.{◌≡◌, ℕ, zero, suc, ◌+◌, ◌*◌, ◌/◌, ◌^◌, ◌<◌, Bool, true, false, List, [], ◌∷◌, length, Option, ℤ, pos, negsuc, refl, sym, ap, ◌∙◌, subst, arith, lit<, eqb-true}
use Rattle.std.specs.Prelude.{if◌then◌else◌, Result, Ok, Err, IfOk}
use Rattle.std.specs.Int.{cast_signed, w64}
use Rattle.std.proofs.lemmas.Int.{of_z-to_z}
use Rattle.std.proofs.lemmas.Grind.{get_or-set_at}
use Rattle.std.proofs.lemmas.List.{set-set}
use Rattle.rv_base.specs.declared.ir_type.IrType.{IrType}
use Rattle.rv_base.specs.declared.ir_type.IrType.TheVariants.{I64}
use Rattle.rv_base.specs.declared.regs.Reg.{Reg}
use Rattle.rv_base.specs.declared.regs.Reg.TheVariants.{Real, Virtual}
use Rattle.rv_base.specs.declared.regs.Writable.{Writable}
use Rattle.rv_base.specs.Regs.{number_of}
use Rattle.rv_imms.specs.declared.imm12.Imm12.{Imm12}
use Rattle.rv_imms.specs.declared.imm20.Imm20.{Imm20}
use Rattle.rv_imms.specs.Splitting.{IsSplittable}
use Rattle.rv_machine.specs.State.{Values, reg, set_reg, wrap, low64}
use Rattle.rv_inst.specs.declared.inst.Inst.{Inst}
use Rattle.rv_inst.specs.declared.inst.Inst.TheVariants.{Lui, Auipc, Jalr}
use Rattle.rv_inst.specs.Addresses.{is_splittable}
use Rattle.rv_inst.specs.Generators.{zero_register, addi_of, is_zero, split_insts, AreSplit, AreConstant, link_or_zero, AreJump}
use Rattle.rv_inst.specs.Immediates.{upper_of}
use Rattle.rv_inst.specs.Meaning.{Environment, constant_of, Leave}
use Rattle.rv_inst.specs.Sequences.{insts_effect, insts_exit, SetsRegister, left_of, JumpsBy}
use Rattle.rv_inst.proofs.Immediates.{splits_all, splittable}
use Rattle.rv_inst.proofs.ImmediateSums.{offset_sums, address_sums}

-- ---- registers

pub number_below : (r : Reg) → number_of r < 32
number_below (Real p) = p.in_file
number_below (Virtual class index) = lit< tt

-- what is written twice is written last
pub set_twice : (v : Values) (n x y : ℕ) → set_reg (set_reg v n x) n y ≡ set_reg v n y
set_twice v zero x y = refl
set_twice v (suc n) x y = λ i. record { regs = set-set v.regs n x y i; mem = v.mem }

-- what was written is read
pub reads_set : (v : Values) (n x : ℕ) → length v.regs ≡ 31 → 0 < n → n < 32 → reg (set_reg v n x) n ≡ x
reads_set v zero x count some lt = absurd (omega arith)
reads_set v (suc n) x count some lt = get_or-set_at v.regs n n x 0 refl (omega (arith, count))

-- a number added to what a register was set to
added : (v : Values) (n a b : ℕ) → length v.regs ≡ 31 → n < 32 → set_reg (set_reg v n a) n (wrap (reg (set_reg v n a) n + b)) ≡ set_reg v n (wrap (a + b))
added v zero a b count lt = refl
added v (suc n) a b count lt =
    set_twice v (suc n) a (wrap (reg (set_reg v (suc n) a) (suc n) + b)) ∙ ap (λ x. set_reg v (suc n) (wrap (x + b))) (reads_set v (suc n) a count (omega arith) lt)

-- ---- a constant

-- 64 bits, by the number that they are in two's complement
pub bits_back : (n : ℕ) → n < 2 ^ 64 → wrap (low64 (cast_signed w64 n)) ≡ n
bits_back n lt = let same = of_z-to_z w64 n lt in omega arith

zero_is : (z : ℤ) → is_zero z ≡ true → low64 z ≡ 0
zero_is (pos n) h = eqb-true n 0 h
zero_is (negsuc n) h = absurd (cc)

-- of two immediates that sum to a number
parts_set : (rd : Writable Reg) (upper : Imm20) (lower : Imm12) (n : ℕ) → wrap (wrap (low64 upper.value * 2 ^ 12) + low64 lower.value) ≡ n → SetsRegister (split_insts rd upper lower) (number_of rd.reg) n
parts_set rd upper lower n sum = on (is_zero upper.value) refl
  where
    lower_alone : low64 upper.value ≡ 0 → wrap (0 + low64 lower.value) ≡ n
    lower_alone none = let s = sum in omega (arith, none, s)

    upper_alone : low64 lower.value ≡ 0 → wrap (low64 upper.value * 2 ^ 12) ≡ n
    upper_alone none = let s = sum in omega (arith, none, s)

    more : (b : Bool) → is_zero lower.value ≡ b → SetsRegister (Lui rd upper ∷ (if b then [] else addi_of rd rd.reg lower ∷ [])) (number_of rd.reg) n
    more true h = record { effect = λ at v count. ap (set_reg v (number_of rd.reg)) (upper_alone (zero_is lower.value h)); onward = λ at v. refl }
    more false h = record {
      effect = λ at v count. added v (number_of rd.reg) (wrap (low64 upper.value * 2 ^ 12)) (low64 lower.value) count (number_below rd.reg) ∙ ap (set_reg v (number_of rd.reg)) sum;
      onward = λ at v. refl;
    }

    on : (b : Bool) → is_zero upper.value ≡ b → SetsRegister (if b then addi_of rd zero_register lower ∷ [] else Lui rd upper ∷ (if is_zero lower.value then [] else addi_of rd rd.reg lower ∷ [])) (number_of rd.reg) n
    on true h = record { effect = λ at v count. ap (set_reg v (number_of rd.reg)) (lower_alone (zero_is upper.value h)); onward = λ at v. refl }
    on false h = more (is_zero lower.value) refl

-- of a constant's own two immediates
split_sets : (rd : Writable Reg) (value : ℕ) (insts : List Inst) → value < 2 ^ 64 → is_splittable (cast_signed w64 value) ≡ true → AreSplit rd (cast_signed w64 value) insts → SetsRegister insts (number_of rd.reg) value
split_sets rd value insts fits splits s =
    let sum : wrap (wrap (low64 s.upper.value * 2 ^ 12) + low64 s.lower.value) ≡ value =
    (λ i. wrap (wrap (low64 (s.upper_part i) * 2 ^ 12) + low64 (s.lower_part i))) ∙ offset_sums (cast_signed w64 value) splits ∙ bits_back value fits in
    subst (λ is. SetsRegister is (number_of rd.reg) value) (sym s.in_parts) (parts_set rd s.upper s.lower value sum)

pub constant_sets : (ty : IrType) (rd : Writable Reg) (value : ℕ) (insts : List Inst) → value < 2 ^ 64 → AreConstant ty rd value insts → SetsRegister insts (number_of rd.reg) (left_of ty value)
constant_sets ty rd value insts fits c = on (is_splittable (cast_signed w64 value)) refl
  where
    z : ℤ
    z = cast_signed w64 value

    on : (b : Bool) → is_splittable z ≡ b → SetsRegister insts (number_of rd.reg) (if b then value else constant_of ty value)
    on true h = split_sets rd value insts fits h (c.split (splittable z h))
    on false h =
        let other : ¬ (IsSplittable z) = λ fits. let e = splits_all z fits in absurd (cc) in
        subst (λ is. SetsRegister is (number_of rd.reg) (constant_of ty value)) (sym (c.inline other)) (record { effect = λ at v count. refl; onward = λ at v. refl })

-- of one of 64 bits that is all of them
long_left : (value : ℕ) → value < 2 ^ 64 → left_of I64 value ≡ value
long_left value fits = on (is_splittable (cast_signed w64 value))
  where
    on : (b : Bool) → (if b then value else wrap value) ≡ value
    on true = refl
    on false = omega arith

pub long_constant_sets : (rd : Writable Reg) (value : ℕ) (insts : List Inst) → value < 2 ^ 64 → AreConstant I64 rd value insts → SetsRegister insts (number_of rd.reg) value
long_constant_sets rd value insts fits c = subst (SetsRegister insts (number_of rd.reg)) (long_left value fits) (constant_sets I64 rd value insts fits c)

-- ---- a jump

pub jumps_by : (link : Option (Writable Reg)) (tmp : Writable Reg) (offset : ℤ) (insts : List Inst) → IsSplittable offset → AreJump link tmp offset insts → JumpsBy link tmp offset insts
jumps_by link tmp offset insts fits j = subst (JumpsBy link tmp offset) (sym j.in_parts) (record { goes = goes; leaves = leaves })
  where
    both : List Inst
    both = Auipc tmp j.upper ∷ Jalr (link_or_zero link) tmp.reg j.lower ∷ []

    goes : (at : ℕ → Environment) (v : Values) → length v.regs ≡ 31 → 0 < number_of tmp.reg → insts_exit at both v ≡ Leave (wrap ((at 0).start + low64 offset) / 2 * 2)
    goes at v count some =
        (λ i. Leave (wrap (reads_set v (number_of tmp.reg) (wrap ((at 0).start + low64 j.upper.value * 2 ^ 12)) count some (number_below tmp.reg) i + low64 j.lower.value) / 2 * 2))
        ∙ (λ i. Leave (wrap (wrap ((at 0).start + low64 (j.upper_part i) * 2 ^ 12) + low64 (j.lower_part i)) / 2 * 2))
        ∙ ap (λ a. Leave (a / 2 * 2)) (address_sums (at 0).start offset (splits_all offset fits))

    leaves : (at : ℕ → Environment) (v : Values) → insts_effect at both v ≡ set_reg (set_reg v (number_of tmp.reg) (wrap ((at 0).start + low64 (upper_of offset) * 2 ^ 12))) (number_of (link_or_zero link).reg) (at 1).after
    leaves at v = λ i. set_reg (set_reg v (number_of tmp.reg) (wrap ((at 0).start + low64 (j.upper_part i) * 2 ^ 12))) (number_of (link_or_zero link).reg) (at 1).after

-- ---- a result

pub ok_instead : {T E : Type 0} (r : Result T E) (P Q : T → Type 0) → ((x : T) → P x → Q x) → IfOk r P → IfOk r Q
ok_instead (Ok x) P Q f h = f x h
ok_instead (Err e) P Q f h = h
