-- The fields of relocations, filled one after the other, make the image.
use Rattle.std.proofs.Common.{◌≡◌, ℕ, zero, suc, ◌+◌, ◌-◌, ◌^◌, ◌<◌, ◌≤◌, ◌⊎◌, inl, inr, ⊎_elim, List, [], ◌∷◌, ◌++◌, length, take, drop, slice_index, Option, Some, None, refl, sym, ap, subst, ◌∙◌, arith}
use Rattle.std.specs.Prelude.{slice_get, ℤ}
use Rattle.std.proofs.lemmas.Option.{same_Some, slice_get_within}
use Rattle.std.proofs.lemmas.Bool.{cases_order, cases_lt}
use Rattle.std.proofs.Math.Seq.{drop-cons}
use Rattle.std.proofs.lemmas.List.{length-append, length-drop, drop-drop, length-take-le, take_at, drop_at, take-take, drop-take}
use Rattle.mach_records.specs.declared.records.MachReloc.{MachReloc}
use Rattle.mach_uses.specs.Windows.{window, IsApart}
use Rattle.rv_base.specs.declared.reloc.Reloc.{Reloc}
use Rattle.rv_base.specs.declared.reloc.Reloc.TheVariants.{RiscvCallPlt, RiscvGotHi20, RiscvPCRelHi20, RiscvPCRelLo12I, Abs8}
use Rattle.rv_machine.specs.State.{wrap}
use Rattle.rv_inst.specs.Relocations.{field_size, IsOutside}
use Rattle.rv_fill.specs.Filled.{Table, course_of, distance, filled_field, IsFieldOf, IsFilled}
use Rattle.rv_fill.specs.Refusal.{refusal}
use Rattle.rv_fill.specs.Steps.{put, put_course, put_field, put_fields}
use Rattle.rv_fill.proofs.Accepted.{IsFine, each_fine, each_course}

-- ---- other bytes at an offset

put_length : (o n : ℕ) (field image : List ℕ) → length field ≡ n → o + n ≤ length image → length (put o field n image) ≡ length image
put_length o n field image long within = omega (arith, length-append (take o image) (field ++ drop (o + n) image), length-append field (drop (o + n) image), length-take-le o image (omega arith), length-drop (o + n) image)

put_front : (o n : ℕ) (field image : List ℕ) → o ≤ length image → take o (put o field n image) ≡ take o image
put_front o n field image within = take_at (take o image) (field ++ drop (o + n) image) o (length-take-le o image within)

put_back : (o n : ℕ) (field image : List ℕ) → length field ≡ n → o + n ≤ length image → drop (o + n) (put o field n image) ≡ drop (o + n) image
put_back o n field image long within =
    let rest = drop (o + n) image in
    sym (drop-drop n o (put o field n image)) ∙ ap (drop n) (drop_at (take o image) (field ++ rest) o (length-take-le o image (omega arith))) ∙ drop_at field rest n long

-- they stand there
put_there : (o n : ℕ) (field image : List ℕ) → length field ≡ n → o ≤ length image → window (put o field n image) o n ≡ field
put_there o n field image long within =
    let rest = drop (o + n) image in
    ap (take n) (drop_at (take o image) (field ++ rest) o (length-take-le o image within)) ∙ take_at field rest n long

-- and all else is as it was
put_apart : (o n : ℕ) (field image : List ℕ) (p m : ℕ) → length field ≡ n → o + n ≤ length image → IsApart p m o n → window (put o field n image) p m ≡ window image p m
put_apart o n field image p m long within (inl h) =
    let new = put o field n image in
    sym (drop-take p m new) ∙ ap (drop p) (sym (take-take (p + m) o new h) ∙ ap (take (p + m)) (put_front o n field image (omega arith)) ∙ take-take (p + m) o image h) ∙ drop-take p m image
put_apart o n field image p m long within (inr h) =
    let new = put o field n image in
    let split : o + n + (p - (o + n)) ≡ p = omega arith in
    ap (take m) (ap (λ k. drop k new) (sym split) ∙ sym (drop-drop (p - (o + n)) (o + n) new) ∙ ap (drop (p - (o + n))) (put_back o n field image long within) ∙ drop-drop (p - (o + n)) (o + n) image ∙ ap (λ k. drop k image) split)

-- ---- a field has its length

field_long : (kind : Reloc) (d : ℤ) (to : ℕ) (old : List ℕ) → length (filled_field kind d to old) ≡ field_size kind
field_long RiscvCallPlt d to old = refl
field_long RiscvGotHi20 d to old = refl
field_long RiscvPCRelHi20 d to old = refl
field_long RiscvPCRelLo12I d to old = refl
field_long Abs8 d to old = refl

turned : (p m q n : ℕ) → IsApart p m q n → IsApart q n p m
turned p m q n h = ⊎_elim inr inl h

-- a window of one byte
one_byte : (s t : List ℕ) (k : ℕ) → k < length s → k < length t → window s k 1 ≡ window t k 1 → slice_index s k ≡ slice_index t k
one_byte s t k in_s in_t e =
    let both : ◌≡◌ {A = List ℕ} (slice_index s k ∷ []) (slice_index t k ∷ []) = sym (ap (take 1) (drop-cons s k 0 in_s)) ∙ e ∙ ap (take 1) (drop-cons t k 0 in_t) in
    cc

module _ (bytes : List ℕ) (relocs : List MachReloc) (base : ℕ) (symbols slots : Table) (accepted : refusal (length bytes) relocs base symbols slots ≡ None) where
  fine : (k : ℕ) (r : MachReloc) → slice_get relocs k ≡ Some r → IsFine (length bytes) relocs base symbols slots k r
  fine = each_fine (length bytes) relocs base symbols slots accepted

  -- the first so many relocations are filled, and all else is as in the code
  record Partly (i : ℕ) (image : List ℕ) : Type 0 where
    long : length image ≡ length bytes
    others : (p m : ℕ) → ((j : ℕ) (r : MachReloc) → j < i → slice_get relocs j ≡ Some r → IsApart p m r.offset (field_size r.kind)) → window image p m ≡ window bytes p m
    filled : (j : ℕ) (r : MachReloc) → j < i → slice_get relocs j ≡ Some r → IsFieldOf relocs base symbols slots r (window bytes r.offset (field_size r.kind)) (window image r.offset (field_size r.kind))

  put_is : (r : MachReloc) (c : ℕ × ℕ) (image : List ℕ) → course_of relocs symbols slots r ≡ Some c → put_field relocs base symbols slots r image ≡ put r.offset (filled_field r.kind (distance (wrap (base + c.0)) c.1) c.1 (window image r.offset (field_size r.kind))) (field_size r.kind) image
  unfolding put_field
  put_is r c image e = ap (λ o. put_course base r o image) e

  one_more : (i : ℕ) (r : MachReloc) (image : List ℕ) → slice_get relocs i ≡ Some r → Partly i image → Partly (suc i) (put_field relocs base symbols slots r image)
  one_more i r image e h =
      let f = fine i r e in
      let course = each_course (length bytes) relocs base symbols slots accepted i r e in
      let n = field_size r.kind in
      let old = window image r.offset n in
      let as_before : window image r.offset n ≡ window bytes r.offset n = h.others r.offset n (λ j s lt g. f.apart j s lt g) in
      let field = filled_field r.kind (distance (wrap (base + course.0.0)) course.0.1) course.0.1 old in
      let size : length field ≡ n = field_long r.kind _ _ old in
      let within : r.offset + n ≤ length image = let w = f.within in let l = h.long in omega arith in
      let new = put r.offset field n image in
      let here : IsFieldOf relocs base symbols slots r (window bytes r.offset n) (window new r.offset n) = record { from = course.0.0; to = course.0.1; course = course.1; field = put_there r.offset n field image size (omega arith) ∙ ap (filled_field r.kind _ _) as_before } in
      let fields : (j : ℕ) (s : MachReloc) → j < suc i → slice_get relocs j ≡ Some s → IsFieldOf relocs base symbols slots s (window bytes s.offset (field_size s.kind)) (window new s.offset (field_size s.kind)) = λ j s lt g. ⊎_elim
      (λ before. subst (IsFieldOf relocs base symbols slots s (window bytes s.offset (field_size s.kind))) (sym (put_apart r.offset n field image s.offset (field_size s.kind) size within (turned _ _ _ _ (f.apart j s before g)))) (h.filled j s before g))
      (λ le.
      let same : j ≡ i = omega arith in
      let is : r ≡ s = same_Some r s (sym e ∙ ap (slice_get relocs) (sym same) ∙ g) in
      subst (λ (s : MachReloc). IsFieldOf relocs base symbols slots s (window bytes s.offset (field_size s.kind)) (window new s.offset (field_size s.kind))) is here)
      (cases_lt j i) in
      subst (Partly (suc i)) (sym (put_is r course.0 image course.1)) (record {
        long = put_length r.offset n field image size within ∙ h.long;
        others = λ p m apart. put_apart r.offset n field image p m size within (apart i r (omega arith) e) ∙ h.others p m (λ j s lt g. apart j s (omega arith) g);
        filled = fields;
      })

  put_all : (i : ℕ) (rs : List MachReloc) (image : List ℕ) → i + length rs ≡ length relocs → ((k : ℕ) (r : MachReloc) → slice_get rs k ≡ Some r → slice_get relocs (i + k) ≡ Some r) → Partly i image → Partly (length relocs) (put_fields relocs base symbols slots rs image)
  put_all i [] image long there h = let same : i ≡ length relocs = omega (arith, long) in subst (λ n. Partly n image) same h
  put_all i (r ∷ rs) image long there h =
      let here : i + 0 ≡ i = omega arith in
      put_all (suc i) rs (put_field relocs base symbols slots r image) (omega (arith, long)) (λ k s e. let same : i + suc k ≡ suc i + k = omega arith in ap (slice_get relocs) (sym same) ∙ there (suc k) s e) (one_more i r image (ap (slice_get relocs) (sym here) ∙ there 0 r refl) h)

  nothing : Partly 0 bytes
  nothing = record { long = refl; others = λ p m apart. refl; filled = λ j r lt e. absurd (omega arith) }

  pub filled_image : IsFilled bytes relocs base symbols slots (put_fields relocs base symbols slots relocs bytes)
  filled_image =
      let all = put_all 0 relocs bytes (omega arith) (λ k r e. let same : k ≡ 0 + k = omega arith in ap (slice_get relocs) (sym same) ∙ e) nothing in
      record {
        long = all.long;
        kept = λ k lt outside. let l = all.long in one_byte _ bytes k (omega arith) lt (all.others k 1 (λ j r le e. outside j r e));
        filled = λ j r e. all.filled j r (slice_get_within relocs j r e) e;
      }
