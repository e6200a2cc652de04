-- What an instruction that breaks no rule keeps.
use Rattle.std.proofs.Common.{◌≡◌, ℕ, zero, suc, Bool, true, false, cond, List, [], ◌∷◌, Some, None, refl, subst}
use Rattle.std.specs.Prelude.{slice_get}
use Rattle.std.specs.List.{find}
use Rattle.rv_inst.specs.declared.inst.Inst.{Inst}
use Rattle.rv_inst.specs.declared.error.Rule.{Rule}
use Rattle.rv_inst.specs.declared.error.Rule.TheVariants.{Virtual, Class, Reserved, Zero, Clash, BadType, Range, Rounding, Width, Constant, EmptyTable, NoTarget, Label, TailArgs, DataSize}
use Rattle.rv_inst.specs.Context.{Context}
use Rattle.rv_inst.specs.Rules.{every_rule, breaks, inst_rule}

none_passes : {A : Type 0} (p : A → Bool) (xs : List A) → find p xs ≡ None → (k : ℕ) (x : A) → slice_get xs k ≡ Some x → p x ≡ false
none_passes p [] e k x h = absurd (cc)
none_passes {A} p (y ∷ ys) e k x h = on (p y) refl e k h (none_passes p ys)
  where
    on : (t : Bool) → p y ≡ t → cond t (Some y) (find p ys) ≡ None → (k : ℕ) → slice_get (y ∷ ys) k ≡ Some x → (find p ys ≡ None → (k : ℕ) (x : A) → slice_get ys k ≡ Some x → p x ≡ false) → p x ≡ false
    on true passes found k h later = absurd (cc)
    on false fails found zero h later = let same : y ≡ x = cc in subst (λ z. p z ≡ false) same fails
    on false fails found (suc k) h later = later found k x h

-- it breaks none of them
pub breaks_none : (context : Context) (inst : Inst) → inst_rule context inst ≡ None → (rule : Rule) → breaks context inst rule ≡ false
unfolding every_rule
breaks_none context inst e Virtual = none_passes (breaks context inst) every_rule e 0 Virtual refl
breaks_none context inst e Class = none_passes (breaks context inst) every_rule e 1 Class refl
breaks_none context inst e Reserved = none_passes (breaks context inst) every_rule e 2 Reserved refl
breaks_none context inst e Zero = none_passes (breaks context inst) every_rule e 3 Zero refl
breaks_none context inst e Clash = none_passes (breaks context inst) every_rule e 4 Clash refl
breaks_none context inst e BadType = none_passes (breaks context inst) every_rule e 5 BadType refl
breaks_none context inst e Range = none_passes (breaks context inst) every_rule e 6 Range refl
breaks_none context inst e Rounding = none_passes (breaks context inst) every_rule e 7 Rounding refl
breaks_none context inst e Width = none_passes (breaks context inst) every_rule e 8 Width refl
breaks_none context inst e Constant = none_passes (breaks context inst) every_rule e 9 Constant refl
breaks_none context inst e EmptyTable = none_passes (breaks context inst) every_rule e 10 EmptyTable refl
breaks_none context inst e NoTarget = none_passes (breaks context inst) every_rule e 11 NoTarget refl
breaks_none context inst e Label = none_passes (breaks context inst) every_rule e 12 Label refl
breaks_none context inst e TailArgs = none_passes (breaks context inst) every_rule e 13 TailArgs refl
breaks_none context inst e DataSize = none_passes (breaks context inst) every_rule e 14 DataSize refl
