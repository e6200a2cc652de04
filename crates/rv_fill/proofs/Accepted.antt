-- Relocations that aren't refused.
use Rattle.std.proofs.Common.{◌≡◌, ℕ, zero, suc, ◌+◌, ◌^◌, ◌<◌, ◌≤◌, ◌⊎◌, inl, inr, ⊎_elim, Bool, true, false, not, ◌&&◌, ◌||◌, List, [], ◌∷◌, length, take, Option, Some, None, refl, sym, ap, subst, ◌∙◌, arith, if◌then◌else◌, nat_lt}
use Rattle.std.specs.Prelude.{slice_get, find, cond}
use Rattle.std.specs.List.{list_any}
use Rattle.std.specs.Option.{option_map}
use Rattle.std.proofs.lemmas.Option.{same_Some}
use Rattle.std.proofs.lemmas.Bool.{ltb-false}
use Rattle.mach_records.specs.declared.records.MachReloc.{MachReloc}
use Rattle.mach_records.specs.declared.records.FinalizedRelocTarget.{FinalizedRelocTarget}
use Rattle.mach_records.specs.declared.records.FinalizedRelocTarget.TheVariants.{ExternalName as Named, Func}
use Rattle.mach_uses.specs.Windows.{IsApart}
use Rattle.rv_base.specs.declared.external_name.ExternalName.{ExternalName}
use Rattle.rv_base.specs.declared.reloc.Reloc.{Reloc}
use Rattle.rv_base.specs.declared.reloc.Reloc.TheVariants.{RiscvCallPlt, RiscvGotHi20, RiscvPCRelHi20, RiscvPCRelLo12I, Abs8}
use Rattle.rv_inst.specs.Relocations.{field_size}
use Rattle.rv_fill.specs.Filled.{Table, goal_in, is_upper, is_upper_at, course_to, course_of_upper, course_by, course_of}
use Rattle.rv_fill.specs.Refusal.{is_bad_base, meets, is_bad_target, is_bad_record, is_far, refusal_to, target_refusal, record_refusal, first_of, records_refusal, refusal}
use Rattle.rv_fill.specs.declared.error.PlaceError.{PlaceError}
use Rattle.rv_fill.specs.declared.error.PlaceError.TheVariants.{BadBase, BadRecord}

-- ---- tests

passed : (b : Bool) (error : PlaceError) (next : Option PlaceError) → (if b then Some error else next) ≡ None → (b ≡ false) × (next ≡ None)
passed true error next e = absurd (cc)
passed false error next e = (refl, e)

both_none : (a b : Option PlaceError) → first_of a b ≡ None → (a ≡ None) × (b ≡ None)
both_none None b e = (refl, e)
both_none (Some error) b e = absurd (cc)

neither : (a b : Bool) → (a || b) ≡ false → (a ≡ false) × (b ≡ false)
neither true b e = absurd (cc)
neither false b e = (refl, e)

not_both : (a b : Bool) → (a && b) ≡ false → (a ≡ false) ⊎ (b ≡ false)
not_both true b e = inr e
not_both false b e = inl refl

not_false : (a : Bool) → not a ≡ false → a ≡ true
not_false true e = refl
not_false false e = absurd (cc)

none_before : (p : MachReloc → Bool) (rs : List MachReloc) (i j : ℕ) (s : MachReloc) → list_any p (take i rs) ≡ false → j < i → slice_get rs j ≡ Some s → p s ≡ false
none_before p [] i j s none lt e = absurd (cc)
none_before p (r ∷ rs) zero j s none lt e = absurd (omega arith)
none_before p (r ∷ rs) (suc i) zero s none lt e = subst (λ (x : MachReloc). p x ≡ false) (same_Some r s e) (neither (p r) _ none).0
none_before p (r ∷ rs) (suc i) (suc j) s none lt e = none_before p rs i j s (neither (p r) _ none).1 (omega arith) e

-- the first element that passes a test, where there is one
pub record Found (p : MachReloc → Bool) (rs : List MachReloc) : Type 0 where
  pub index : ℕ
  pub item : MachReloc
  pub there : slice_get rs index ≡ Some item
  pub first : find p rs ≡ Some item
  pub passes : p item ≡ true

found_first : (p : MachReloc → Bool) (r : MachReloc) (rs : List MachReloc) (b : Bool) → p r ≡ b → (b || list_any p rs) ≡ true → (list_any p rs ≡ true → Found p rs) → Found p (r ∷ rs)
found_first p r rs true is h rest = record { index = 0; item = r; there = refl; first = ap (λ b. cond b (Some r) (find p rs)) is; passes = is }
found_first p r rs false is h rest = let f = rest h in record { index = suc f.index; item = f.item; there = f.there; first = ap (λ b. cond b (Some r) (find p rs)) is ∙ f.first; passes = f.passes }

pub found : (p : MachReloc → Bool) (rs : List MachReloc) → list_any p rs ≡ true → Found p rs
found p [] h = absurd (cc)
found p (r ∷ rs) h = found_first p r rs (p r) refl h (found p rs)

apart_by : (a b c d : ℕ) → (nat_lt a b ≡ false) ⊎ (nat_lt c d ≡ false) → (d ≤ c) ⊎ (b ≤ a)
apart_by a b c d h = ⊎_elim (λ e. inr (ltb-false a b e)) (λ e. inl (ltb-false c d e)) h

are_apart : (r s : MachReloc) → meets r s ≡ false → IsApart r.offset (field_size r.kind) s.offset (field_size s.kind)
are_apart r s e = apart_by r.offset (s.offset + field_size s.kind) s.offset (r.offset + field_size r.kind) (not_both _ _ e)

-- ---- one relocation

-- each of them is accepted
each_accepted : (count : ℕ) (relocs : List MachReloc) (base : ℕ) (symbols slots : Table) (index : ℕ) (rs : List MachReloc) → records_refusal count relocs base symbols slots index rs ≡ None → (k : ℕ) (r : MachReloc) → slice_get rs k ≡ Some r → record_refusal count relocs base symbols slots (index + k) r ≡ None
each_accepted count relocs base symbols slots index [] none k r e = absurd (cc)
each_accepted count relocs base symbols slots index (x ∷ rs) none zero r e =
    let here : index ≡ index + 0 = omega arith in
    subst (λ n. record_refusal count relocs base symbols slots n r ≡ None) here (subst (λ (y : MachReloc). record_refusal count relocs base symbols slots index y ≡ None) (same_Some x r e) (both_none (record_refusal count relocs base symbols slots index x) _ none).0)
each_accepted count relocs base symbols slots index (x ∷ rs) none (suc k) r e =
    let same : suc index + k ≡ index + suc k = omega arith in
    subst (λ n. record_refusal count relocs base symbols slots n r ≡ None) same (each_accepted count relocs base symbols slots (suc index) rs (both_none (record_refusal count relocs base symbols slots index x) _ none).1 k r e)

-- a relocation that is accepted stands within the bytes, apart from earlier ones, and has a course
pub record IsFine (count : ℕ) (relocs : List MachReloc) (base : ℕ) (symbols slots : Table) (index : ℕ) (r : MachReloc) : Type 0 where
  pub within : r.offset + field_size r.kind ≤ count
  pub apart : (j : ℕ) (s : MachReloc) → j < index → slice_get relocs j ≡ Some s → IsApart r.offset (field_size r.kind) s.offset (field_size s.kind)
  pub aimed : is_bad_target relocs r.kind r.target ≡ false
  pub reached : target_refusal base symbols slots index r r.target ≡ None

module _ (count : ℕ) (relocs : List MachReloc) (base : ℕ) (symbols slots : Table) (accepted : refusal count relocs base symbols slots ≡ None) where
  pub base_fine : is_bad_base base count ≡ false
  unfolding refusal
  base_fine = (passed (is_bad_base base count) BadBase _ accepted).0

  all_accepted : records_refusal count relocs base symbols slots 0 relocs ≡ None
  unfolding refusal
  all_accepted = (passed (is_bad_base base count) BadBase _ accepted).1

  pub each_fine : (k : ℕ) (r : MachReloc) → slice_get relocs k ≡ Some r → IsFine count relocs base symbols slots k r
  each_fine k r e =
      let here : 0 + k ≡ k = omega arith in
      let one : record_refusal count relocs base symbols slots k r ≡ None = subst (λ n. record_refusal count relocs base symbols slots n r ≡ None) here (each_accepted count relocs base symbols slots 0 relocs all_accepted k r e) in
      let both = passed (is_bad_record count relocs k r) (BadRecord k) _ one in
      let first = neither (nat_lt count (r.offset + field_size r.kind) || list_any (meets r) (take k relocs)) (is_bad_target relocs r.kind r.target) both.0 in
      let second = neither (nat_lt count (r.offset + field_size r.kind)) (list_any (meets r) (take k relocs)) first.0 in
      record {
        within = ltb-false count (r.offset + field_size r.kind) second.0;
        apart = λ j s lt f. are_apart r s (none_before (meets r) relocs k j s second.1 lt f);
        aimed = first.1;
        reached = both.1;
      }

  -- ---- courses

  abbrev HasCourse : MachReloc → Type 0
  HasCourse r = (c : ℕ × ℕ) × (course_of relocs symbols slots r ≡ Some c)

  goal_there : (index : ℕ) (r : MachReloc) (o : Option ℕ) → refusal_to base index r o ≡ None → (to : ℕ) × (o ≡ Some to)
  goal_there index r None e = absurd (cc)
  goal_there index r (Some to) e = (to, refl)

  -- a relocation of a name has one
  course_there : (index : ℕ) (r : MachReloc) (target : FinalizedRelocTarget) (name : ExternalName) → target ≡ Named name → target_refusal base symbols slots index r target ≡ None → (c : ℕ × ℕ) × (course_to symbols slots r target ≡ Some c)
  course_there index r (Func at) name is e = absurd (cc)
  course_there index r (Named other) name is e =
      let g = goal_there index r (goal_in symbols slots r.kind other.number r.addend) e in
      ((r.offset, g.0), ap (option_map (λ to. (r.offset, to))) g.1)

  -- an upper part is of a name
  upper_named : (kind : Reloc) (target : FinalizedRelocTarget) → is_upper kind ≡ true → is_bad_target relocs kind target ≡ false → (name : ExternalName) × (target ≡ Named name)
  upper_named RiscvCallPlt target upper fine = absurd (cc)
  upper_named RiscvGotHi20 (Named name) upper fine = (name, refl)
  upper_named RiscvGotHi20 (Func at) upper fine = absurd (cc)
  upper_named RiscvPCRelHi20 (Named name) upper fine = (name, refl)
  upper_named RiscvPCRelHi20 (Func at) upper fine = absurd (cc)
  upper_named RiscvPCRelLo12I target upper fine = absurd (cc)
  upper_named Abs8 target upper fine = absurd (cc)

  -- what names a place names that of an upper part
  pub upper_there : (kind : Reloc) (at : ℕ) → is_bad_target relocs kind (Func at) ≡ false → list_any (is_upper_at at) relocs ≡ true
  upper_there RiscvCallPlt at fine = absurd (cc)
  upper_there RiscvGotHi20 at fine = absurd (cc)
  upper_there RiscvPCRelHi20 at fine = absurd (cc)
  upper_there RiscvPCRelLo12I at fine = not_false (list_any (is_upper_at at) relocs) fine
  upper_there Abs8 at fine = absurd (cc)

  first_true : (a b : Bool) → (a && b) ≡ true → a ≡ true
  first_true true b e = refl
  first_true false b e = absurd (cc)

  course_by_target : (index : ℕ) (r : MachReloc) (target : FinalizedRelocTarget) → is_bad_target relocs r.kind target ≡ false → target_refusal base symbols slots index r target ≡ None → (c : ℕ × ℕ) × (course_by relocs symbols slots r target ≡ Some c)
  course_by_target index r (Named name) fine e = course_there index r (Named name) name refl e
  course_by_target index r (Func at) fine e =
      let f = found (is_upper_at at) relocs (upper_there r.kind at fine) in
      let u = each_fine f.index f.item f.there in
      let named = upper_named f.item.kind f.item.target (first_true (is_upper f.item.kind) _ f.passes) u.aimed in
      let c = course_there f.index f.item f.item.target named.0 named.1 u.reached in
      (c.0, ap (course_of_upper symbols slots) f.first ∙ c.1)

  -- each relocation has one
  pub each_course : (k : ℕ) (r : MachReloc) → slice_get relocs k ≡ Some r → HasCourse r
  each_course k r e = let fine = each_fine k r e in course_by_target k r r.target fine.aimed fine.reached
