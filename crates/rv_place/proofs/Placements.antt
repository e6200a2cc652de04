-- Code is placed where its image stands.
use Rattle.std.proofs.Common.{◌≡◌, ℕ, zero, suc, ◌+◌, ◌%◌, ◌^◌, ◌<◌, ◌≤◌, ◌⊎◌, inl, inr, ⊎_elim, Bool, true, false, not, ◌||◌, List, [], ◌∷◌, ◌++◌, length, take, drop, slice_index, Option, Some, None, refl, sym, ap, subst, ◌∙◌, arith, get_or-drop}
use Rattle.std.specs.Prelude.{ℤ, pos, ◌-ℤ◌, slice_get, find, nat_lt, ◌==◌, cond}
use Rattle.std.specs.Int.{to_le_bytes, w64}
use Rattle.std.specs.Option.{option_map}
use Rattle.std.proofs.lemmas.Bool.{and_parts, cases_order, ltb-false}
use Rattle.std.proofs.lemmas.Bool.Decides.{nat_tests}
use Rattle.std.proofs.lemmas.Grind.{same_number_lists, common_steps}
use Rattle.std.proofs.lemmas.List.{get_or-take}
use Rattle.std.proofs.lemmas.Option.{same_Some, slice_get_within, some_pair_parts}
use Rattle.mach_records.specs.declared.records.FinalizedRelocTarget.{FinalizedRelocTarget}
use Rattle.mach_records.specs.declared.records.FinalizedRelocTarget.TheVariants.{ExternalName as Named, Func}
use Rattle.mach_records.specs.declared.records.MachReloc.{MachReloc}
use Rattle.mach_uses.specs.Windows.{window, IsApart}
use Rattle.rv_base.specs.declared.external_name.ExternalName.{ExternalName}
use Rattle.rv_base.specs.declared.reloc.Reloc.{Reloc}
use Rattle.rv_base.specs.declared.reloc.Reloc.TheVariants.{RiscvCallPlt, RiscvGotHi20, RiscvPCRelHi20, RiscvPCRelLo12I, Abs8}
use Rattle.rv_machine.specs.State.{Memory, byte, wrap}
use Rattle.rv_inst.specs.Addresses.{is_splittable}
use Rattle.rv_inst.specs.LabelUseWords.{AreBytes}
use Rattle.rv_inst.specs.Relocations.{field_size, IsOutside}
use Rattle.rv_inst.specs.declared.code.Code.{Code}
use Rattle.rv_inst.specs.declared.label_use.LabelUse.TheVariants.{PCRelLo12I}
use Rattle.rv_fill.specs.Filled.{Table, goal_in, distance, is_upper, is_upper_at, course_to, course_of_upper, course_by, course_of, filled_field, IsFieldOf, IsFilled}
use Rattle.rv_fill.specs.Refusal.{is_bad_base, is_bad_target, is_far, refusal_to, target_refusal, refusal}
use Rattle.rv_fill.specs.declared.error.PlaceError.{PlaceError}
use Rattle.rv_fill.proofs.Accepted.{Found, found, IsFine, base_fine, each_fine, upper_there}
use Rattle.rv_place.specs.Images.{StandAt}
use Rattle.rv_asm.specs.Placed.{Addresses, goal_of, bytes_from, distance_to, Holds, FilledBy, IsFilledAt, IsPlaced}
use Rattle.rv_place.proofs.Parts.{holds_upper, holds_lower, holds_pair}

-- ---- bytes

from_byte : (mem : Memory) (a n k : ℕ) → k < n → slice_index (bytes_from mem a n) k ≡ byte mem (a + k)
from_byte mem a zero k lt = absurd (omega arith)
from_byte mem a (suc n) zero lt = let e : a ≡ a + 0 = omega arith in ap (byte mem) e
from_byte mem a (suc n) (suc k) lt = let e : a + 1 + k ≡ a + suc k = omega arith in from_byte mem (a + 1) n k (omega arith) ∙ ap (byte mem) e

from_long : (mem : Memory) (a n : ℕ) → length (bytes_from mem a n) ≡ n
from_long mem a zero = refl
from_long mem a (suc n) = ap suc (from_long mem (a + 1) n)

window_byte : (s : List ℕ) (o n k : ℕ) → k < n → slice_index (window s o n) k ≡ slice_index s (o + k)
window_byte s o n k lt = get_or-take n (drop o s) k 0 lt ∙ get_or-drop o s k 0

window_long : (s : List ℕ) (o n : ℕ) → o + n ≤ length s → length (window s o n) ≡ n
window_long s o n le = grind (arith, common_steps)

-- a window of an image stands in the memory
window_stands : (mem : Memory) (base : ℕ) (image : List ℕ) (o n : ℕ) → StandAt base image mem → o + n ≤ length image → bytes_from mem (base + o) n ≡ window image o n
window_stands mem base image o n stand le =
    let long = from_long mem (base + o) n in
    let long' = window_long image o n le in
    same_number_lists (bytes_from mem (base + o) n) (window image o n) (long ∙ sym long')
    (λ k lt.
    let short : k < n = omega arith in
    let e : base + o + k ≡ base + (o + k) = omega arith in
    from_byte mem (base + o) n k short ∙ ap (byte mem) e ∙ stand (o + k) (omega arith) ∙ sym (window_byte image o n k short))

-- all bytes of a window are bytes
window_bytes : (s : List ℕ) (o n k : ℕ) → ((i : ℕ) → slice_index s i < 256) → k + 4 ≤ n → AreBytes (drop k (window s o n))
window_bytes s o n k all le =
    record {
      first = at 0 (omega arith);
      second = at 1 (omega arith);
      third = at 2 (omega arith);
      fourth = at 3 (omega arith);
    }
  where
    at : (i : ℕ) → i < 4 → slice_index (drop k (window s o n)) i < 256
    at i lt = subst (λ (b : ℕ). b < 256) (sym (get_or-drop k (window s o n) i 0 ∙ window_byte s o n (k + i) (omega arith))) (all (o + (k + i)))

-- ---- one field

-- where a relocation of a name leads, in the words of what is placed
goal_same : (symbols slots : Table) (kind : Reloc) (name : ExternalName) (addend : ℤ) → goal_in symbols slots kind name.number addend ≡ goal_of symbols slots kind (Named name) addend
goal_same symbols slots RiscvCallPlt name addend = refl
goal_same symbols slots RiscvGotHi20 name addend = refl
goal_same symbols slots RiscvPCRelHi20 name addend = refl
goal_same symbols slots RiscvPCRelLo12I name addend = refl
goal_same symbols slots Abs8 name addend = refl

near : (b : Bool) (error : PlaceError) → (cond b (Some error) None) ≡ None → b ≡ false
near true error e = absurd (cc)
near false error e = refl

not_far : (d : ℤ) → not (is_splittable d) ≡ false → is_splittable d ≡ true
not_far d e = by (is_splittable d) e
  where
    by : (b : Bool) → not b ≡ false → b ≡ true
    by true e = refl
    by false e = absurd (cc)

filled_by : (kind : Reloc) (at to : ℕ) (old : List ℕ) → AreBytes old → (kind ≡ RiscvCallPlt → AreBytes (drop 4 old)) → is_far kind at to ≡ false → FilledBy kind at to old (filled_field kind (distance at to) to old)
filled_by RiscvCallPlt at to old b c near = let h = not_far (distance at to) near in (h, holds_pair (distance at to) old b (c refl) h)
filled_by RiscvGotHi20 at to old b c near = (not_far (distance at to) near, holds_upper (distance at to) old b)
filled_by RiscvPCRelHi20 at to old b c near = (not_far (distance at to) near, holds_upper (distance at to) old b)
filled_by RiscvPCRelLo12I at to old b c near = tt
filled_by Abs8 at to old b c near = refl

-- a course is of its own place and of where the name leads
course_parts : (offset from to : ℕ) (o : Option ℕ) → option_map {U = ℕ × ℕ} (λ (t : ℕ). (offset, t)) o ≡ Some (from, to) → (from ≡ offset) × (o ≡ Some to)
course_parts offset from to None e = absurd (cc)
course_parts offset from to (Some t) e = let p = some_pair_parts offset from t to e in (sym p.0, ap (λ (n : ℕ). Some n) p.1)

record CourseTo (symbols slots : Table) (u : MachReloc) (target : FinalizedRelocTarget) (from to : ℕ) : Type 0 where
  place : from ≡ u.offset
  goal : goal_of symbols slots u.kind target u.addend ≡ Some to

course_to_parts : (symbols slots : Table) (u : MachReloc) (target : FinalizedRelocTarget) (from to : ℕ) → course_to symbols slots u target ≡ Some (from, to) → CourseTo symbols slots u target from to
course_to_parts symbols slots u (Func at) from to e = absurd (cc)
course_to_parts symbols slots u (Named name) from to e = let p = course_parts u.offset from to (goal_in symbols slots u.kind name.number u.addend) e in record { place = p.0; goal = sym (goal_same symbols slots u.kind name u.addend) ∙ p.1 }

near_goal : (base index : ℕ) (r : MachReloc) (o : Option ℕ) (to : ℕ) → o ≡ Some to → refusal_to base index r o ≡ None → is_far r.kind (wrap (base + r.offset)) to ≡ false
near_goal base index r None to is e = absurd (cc)
near_goal base index r (Some t) to is e = subst (λ (n : ℕ). is_far r.kind (wrap (base + r.offset)) n ≡ false) (same_Some t to is) (near (is_far r.kind (wrap (base + r.offset)) t) _ e)

-- only a lower part names a place
lower_kind : (relocs : List MachReloc) (kind : Reloc) (at : ℕ) → is_bad_target relocs kind (Func at) ≡ false → kind ≡ RiscvPCRelLo12I
lower_kind relocs RiscvCallPlt at e = absurd (cc)
lower_kind relocs RiscvGotHi20 at e = absurd (cc)
lower_kind relocs RiscvPCRelHi20 at e = absurd (cc)
lower_kind relocs RiscvPCRelLo12I at e = refl
lower_kind relocs Abs8 at e = absurd (cc)

field_some : (kind : Reloc) → 4 ≤ field_size kind
field_some RiscvCallPlt = omega arith
field_some RiscvGotHi20 = omega arith
field_some RiscvPCRelHi20 = omega arith
field_some RiscvPCRelLo12I = omega arith
field_some Abs8 = omega arith

same_place : (a b : MachReloc) → a.offset ≡ b.offset → IsApart a.offset (field_size a.kind) b.offset (field_size b.kind) → ⊥
same_place a b e (inl h) = let s = field_some a.kind in absurd (omega arith)
same_place a b e (inr h) = let s = field_some b.kind in absurd (omega arith)

at_place : (at n : ℕ) → (n == at) ≡ true → n ≡ at
at_place at n e = grind (arith, nat_tests)

base_parts : (base count : ℕ) → is_bad_base base count ≡ false → (base % 4 ≡ 0) × (base + count ≤ 2 ^ 64)
base_parts base count e = (grind (arith, nat_tests), grind (arith, nat_tests))

module _ (code : Code) (base : ℕ) (symbols slots : Table) (accepted : refusal (length code.bytes) code.relocs base symbols slots ≡ None) (bytes : (k : ℕ) → slice_index code.bytes k < 256) where
  fine : (k : ℕ) (r : MachReloc) → slice_get code.relocs k ≡ Some r → IsFine (length code.bytes) code.relocs base symbols slots k r
  fine = each_fine (length code.bytes) code.relocs base symbols slots accepted

  -- two relocations that stand at one place are one
  one_there : (j k : ℕ) (a b : MachReloc) → slice_get code.relocs j ≡ Some a → slice_get code.relocs k ≡ Some b → a.offset ≡ b.offset → a ≡ b
  one_there j k a b e g same = ⊎_elim
      (λ is. same_Some a b (sym e ∙ ap (slice_get code.relocs) is ∙ g))
      (λ h. ⊎_elim
      (λ before. absurd (same_place b a (sym same) ((fine k b g).apart j a before e)))
      (λ after. absurd (same_place a b same ((fine j a e).apart k b after g)))
      h)
      (cases_order j k)

  old_bytes : (r : MachReloc) → AreBytes (window code.bytes r.offset (field_size r.kind))
  old_bytes r = window_bytes code.bytes r.offset (field_size r.kind) 0 bytes (field_some r.kind)

  pair_bytes : (r : MachReloc) → r.kind ≡ RiscvCallPlt → AreBytes (drop 4 (window code.bytes r.offset (field_size r.kind)))
  pair_bytes r is = let long : field_size r.kind ≡ 8 = ap field_size is in window_bytes code.bytes r.offset (field_size r.kind) 4 bytes (omega (arith, long))

  field_of : (k : ℕ) (r : MachReloc) (target : FinalizedRelocTarget) (from to : ℕ) (new : List ℕ) → course_by code.relocs symbols slots r target ≡ Some (from, to) → is_bad_target code.relocs r.kind target ≡ false → target_refusal base symbols slots k r target ≡ None →
      new ≡ filled_field r.kind (distance (wrap (base + from)) to) to (window code.bytes r.offset (field_size r.kind)) → IsFilledAt code base symbols slots r target (window code.bytes r.offset (field_size r.kind)) new
  field_of k r (Named name) from to new course aimed reached is =
      let old = window code.bytes r.offset (field_size r.kind) in
      let p = course_parts r.offset from to (goal_in symbols slots r.kind name.number r.addend) course in
      let far = near_goal base k r (goal_in symbols slots r.kind name.number r.addend) to p.1 reached in
      let new_is : filled_field r.kind (distance (wrap (base + r.offset)) to) to old ≡ new = ap (λ (n : ℕ). filled_field r.kind (distance (wrap (base + n)) to) to old) (sym p.0) ∙ sym is in
      (to, sym (goal_same symbols slots r.kind name r.addend) ∙ p.1, subst (FilledBy r.kind (wrap (base + r.offset)) to old) new_is (filled_by r.kind (wrap (base + r.offset)) to old (old_bytes r) (pair_bytes r) far))
  field_of k r (Func at) from to new course aimed reached is = λ j upper to' there place goal.
      let old = window code.bytes r.offset (field_size r.kind) in
      let f = found (is_upper_at at) code.relocs (upper_there (length code.bytes) code.relocs base symbols slots accepted r.kind at aimed) in
      let stands : f.item.offset ≡ at = at_place at f.item.offset (and_parts (is_upper f.item.kind) _ f.passes).1 in
      let c = course_to_parts symbols slots f.item f.item.target from to (sym (ap (course_of_upper symbols slots) f.first) ∙ course) in
      let same : f.item ≡ upper = one_there f.index j f.item upper f.there there (stands ∙ sym place) in
      let same_goal : to ≡ to' = same_Some to to' (sym c.goal ∙ ap (λ (u : MachReloc). goal_of symbols slots u.kind u.target u.addend) same ∙ goal) in
      let lower : r.kind ≡ RiscvPCRelLo12I = lower_kind code.relocs r.kind at aimed in
      let from_at : from ≡ at = c.place ∙ stands in
      let d = distance_to (wrap (base + at)) to' in
      let new_is : filled_field RiscvPCRelLo12I d to' old ≡ new =
      sym (λ i. filled_field (lower i) (distance (wrap (base + from_at i)) (same_goal i)) (same_goal i) old) ∙ sym is in
      subst (Holds PCRelLo12I (d -ℤ pos 4) old) new_is (holds_lower d old (old_bytes r))

  -- every memory in which the image stands has the code placed
  module _ (image : List ℕ) (filled : IsFilled code.bytes code.relocs base symbols slots image) (image_bytes : (k : ℕ) → slice_index image k < 256) (mem : Memory) (stand : StandAt base image mem) where
    long : length image ≡ length code.bytes
    long = filled.long

    in_image : (k : ℕ) → k < length code.bytes → k < length image
    in_image k lt = let l = long in omega arith

    placed_field : (j : ℕ) (r : MachReloc) → slice_get code.relocs j ≡ Some r → IsFilledAt code base symbols slots r r.target (window code.bytes r.offset (field_size r.kind)) (bytes_from mem (base + r.offset) (field_size r.kind))
    placed_field j r e =
        let f = fine j r e in
        let h = filled.filled j r e in
        let within : r.offset + field_size r.kind ≤ length image = let w = f.within in let l = long in omega arith in
        let seen = window_stands mem base image r.offset (field_size r.kind) stand within in
        field_of j r r.target h.from h.to (bytes_from mem (base + r.offset) (field_size r.kind)) h.course f.aimed f.reached (seen ∙ h.field)

    pub placed : IsPlaced code base symbols slots mem
    placed =
        let b = base_parts base (length code.bytes) (base_fine (length code.bytes) code.relocs base symbols slots accepted) in
        record {
          aligned = b.0;
          room = b.1;
          bytes = λ k lt. subst (λ (n : ℕ). n < 256) (sym (stand k (in_image k lt))) (image_bytes k);
          there = λ k lt outside. stand k (in_image k lt) ∙ filled.kept k lt outside;
          filled = placed_field;
        }
