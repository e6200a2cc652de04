-- What is put is what an instruction emits, also with the map that is given to it.
use Rattle.rv_emit.proofs.Terms.{◌≡◌, Result, sym, subst, OnOk, Option, refl, ap, ◌∙◌, on_ok_weaker, Inst, UserStackMap, Context, family_of, request_of, Family, Calls, EmitVState, EmitsIn, Emits, EmitsGiven, Buffer, CanEmit, IsBounded, with_map, map_given}
use Rattle.rv_inst.specs.declared.inst.Inst.TheVariants.{Call, CallInd}

-- ---- what a call puts

-- what holds where a call puts something holds of the instruction that is that one
pub put_as : {T E P : Type 0} {inst was : Inst} (r : Result T E) (X : Inst → Type 0) → inst ≡ was → (P → X was) → OnOk r P → OnOk r (X inst)
put_as r X is f p = subst (λ i. OnOk r (X i)) (sym is) (on_ok_weaker r f p)

-- ---- the map that is given

-- one of another family takes none
abbrev pub IsOther : Family → Type 0
IsOther Calls = ⊥
IsOther _ = Unit {0}

pub other_given : (map : Option UserStackMap) (inst : Inst) → IsOther (family_of inst) → with_map map inst ≡ inst
other_given map (Call info) other = absurd other
other_given map (CallInd info) other = absurd other
other_given map inst other = refl

pub emits_given : (map : Option UserStackMap) (context : Context) (inst : Inst) (family : Family) → family_of inst ≡ family → IsOther family → (old new : Buffer) → Emits context inst old new → Emits context (with_map map inst) old new
emits_given map context inst family is other old new e = subst (λ i. Emits context i old new) (sym (other_given map inst (subst IsOther (sym is) other))) e

pub space_given : (map : Option UserStackMap) (context : Context) (inst : Inst) → request_of context (with_map map inst) ≡ request_of context inst
space_given map context (Call info) = refl
space_given map context (CallInd info) = refl
space_given map context inst = refl

pub can_given : (map : Option UserStackMap) (context : Context) (inst : Inst) (b : Buffer) → CanEmit context inst b → CanEmit context (with_map map inst) b
can_given map context (Call info) b e = record { rule = e.rule; frame = e.frame; restores = e.restores; sound = e.sound; calm = e.calm; few = e.few; room = e.room }
can_given map context (CallInd info) b e = record { rule = e.rule; frame = e.frame; restores = e.restores; sound = e.sound; calm = e.calm; few = e.few; room = e.room }
can_given map context inst b e = e

pub bounded_given : (map : Option UserStackMap) (context : Context) (inst : Inst) (old new : Buffer) → IsBounded context (with_map map inst) old new → IsBounded context inst old new
bounded_given map context (Call info) old new b = record { before = b.before; after = b.after; first = b.first; rest = b.rest; starts = b.starts; island = b.island; ends = b.ends; most = b.most; added = b.added; keeps = b.keeps; adds = b.adds; few = b.few; late = b.late }
bounded_given map context (CallInd info) old new b = record { before = b.before; after = b.after; first = b.first; rest = b.rest; starts = b.starts; island = b.island; ends = b.ends; most = b.most; added = b.added; keeps = b.keeps; adds = b.adds; few = b.few; late = b.late }
bounded_given map context inst old new b = b

-- the map that an instruction takes is the one that counts
pub taken_given : (map : Option UserStackMap) (inst : Inst) → with_map (map_given inst map) inst ≡ with_map map inst
taken_given map (Call info) = refl
taken_given map (CallInd info) = refl
taken_given map inst = refl

pub emits_taken : (context : Context) (setting : EmitVState) (map pending : Option UserStackMap) (inst : Inst) (old new : Buffer) → map ≡ map_given inst pending → Emits context (with_map map inst) old new → EmitsGiven context setting pending inst old new
emits_taken context setting map pending inst old new taken e = subst (λ i. EmitsIn context setting i old new) (ap (λ m. with_map m inst) taken ∙ taken_given pending inst) (e setting)
