-- Windows of bytes, and patches one after the other.
use Rattle.std.proofs.Common.{[], ◌≡◌, ℕ, ◌+◌, ◌-◌, ◌≤◌, List, ◌∷◌, ◌++◌, ◌⊎◌, length, take, drop, ap, sym, subst, ◌∙◌, arith, inl, inr, ◌≢◌, ◌<◌, Some, ⊎_elim, pos, ◌-ℤ◌}
use Rattle.mach_buffer.proofs.Words.{get_or-take, drop-take, take-take, take_at, take_rest, drop-drop, drop_at, length-append, length-take-le, slice_get_within, same_Some, cases_lt, IsFreshFrom, SameOutside, SameOutsideFrom, Kinds, window, ChangesOnly, CanPatch, CanPatchAll, KeepsOthers, slice_get, Patch, common_steps}
use borrow.Rule.Slice.PartMut.{put_mid}

-- to be fresh asks for the bytes of the marks alone
pub fresh_in_prefix : (marks : List ℕ) (i m n : ℕ) (s : List ℕ) → i + length marks ≤ m → i + length marks ≤ n → IsFreshFrom i marks (take m s) → IsFreshFrom i marks (take n s)
fresh_in_prefix [] i m n s h k f = tt
fresh_in_prefix (x ∷ marks) i m n s h k f = grind (arith, get_or-take, fresh_in_prefix marks (i + 1) m n s)

-- and so does a comparison outside them
pub same_in_prefix : (marks : List ℕ) (i m : ℕ) (s t : List ℕ) → i + length marks ≤ m → SameOutsideFrom i marks s t → SameOutsideFrom i marks (take m s) (take m t)
same_in_prefix [] i m s t h f = tt
same_in_prefix (x ∷ marks) i m s t h f = grind (arith, get_or-take, same_in_prefix marks (i + 1) m s t)

-- a write to all bytes from a place on
written : (old part : List ℕ) (o : ℕ) → o ≤ length old → put_mid o (length old - o) old part ≡ take o old ++ part
written old part o le = grind (arith, common_steps)

pub changes_part : (old part : List ℕ) (o n : ℕ) → o + n ≤ length old → length part ≡ length old - o → drop n part ≡ drop n (take (length old - o) (drop o old)) →
    ChangesOnly old (put_mid o (length old - o) old part) o n
changes_part old part o n h l e =
    let size = length-take-le o old (omega arith) in
    rw (written old part o (omega arith)) (record {
      before = take_at (take o old) part o size;
      after = sym (drop-drop n o (take o old ++ part)) ∙ ap (drop n) (drop_at (take o old) part o size) ∙ (rw take_rest at e) ∙ drop-drop n o old;
      same_length = omega (arith, length-append (take o old) part, size);
    })

-- what a window keeps in such a write
pub kept_in_part : (marks old part : List ℕ) (o n : ℕ) → length marks ≤ n → o + n ≤ length old → length part ≡ length old - o → SameOutside marks (take (length old - o) (drop o old)) part →
    SameOutside marks (window old o n) (window (put_mid o (length old - o) old part) o n)
kept_in_part marks old part o n m h l s =
    rw (written old part o (omega arith), drop_at (take o old) part o (length-take-le o old (omega arith))) (rw take_rest at (same_in_prefix marks 0 n (take (length old - o) (drop o old)) part (omega arith) s))

-- a window apart from the one that changes stays
pub window_apart : (old new : List ℕ) (place size p m : ℕ) → ChangesOnly old new place size → (p + m ≤ place) ⊎ (place + size ≤ p) → window new p m ≡ window old p m
window_apart old new place size p m c (inl h) =
    sym (drop-take p m new) ∙ ap (drop p) (sym (take-take (p + m) place new h) ∙ ap (take (p + m)) c.before ∙ take-take (p + m) place old h) ∙ drop-take p m old
window_apart old new place size p m c (inr h) =
    let split : place + size + (p - (place + size)) ≡ p = omega arith in
    ap (take m) (ap (λ k. drop k new) (sym split) ∙ sym (drop-drop (p - (place + size)) (place + size) new) ∙ ap (drop (p - (place + size))) c.after ∙ drop-drop (p - (place + size)) (place + size) old ∙ ap (λ k. drop k old) split)

-- ---- patches

-- a window aims at its target, and keeps its bits outside the fields
abbrev pub IsDone : {L : Type 0} → Kinds L → List ℕ → List ℕ → Patch L → Type 0
IsDone kinds first now u = kinds.aims u.kind (window now u.offset (length (kinds.fields u.kind))) (pos u.target -ℤ pos u.offset)
    × SameOutside (kinds.fields u.kind) (window first u.offset (length (kinds.fields u.kind))) (window now u.offset (length (kinds.fields u.kind)))

-- after the first i uses: they are done, the windows of the others are as they were, and so are all other bytes
pub record Progress {L : Type 0} (kinds : Kinds L) (first now : List ℕ) (uses : List (Patch L)) (i : ℕ) : Type 0 where
  pub done : (j : ℕ) (u : Patch L) → j < i → slice_get uses j ≡ Some u → IsDone kinds first now u
  pub left : (j : ℕ) (u : Patch L) → i ≤ j → slice_get uses j ≡ Some u → window now u.offset (length (kinds.fields u.kind)) ≡ window first u.offset (length (kinds.fields u.kind))
  pub others : KeepsOthers kinds first now uses

module _ {L : Type 0} {kinds : Kinds L} {first now : List ℕ} {uses : List (Patch L)} {i : ℕ} where
  -- the next window can still be patched
  pub progress_can : (p : Progress kinds first now uses i) (can : CanPatchAll kinds first uses) (u : Patch L) →
      slice_get uses i ≡ Some u → length now ≡ length first → CanPatch kinds now u
  progress_can p can u h same =
      let c = can.each i u h in
      let left = p.left i u (omega arith) h in
      grind arith

  -- one more window is patched
  pub progress_patched : (p : Progress kinds first now uses i) (can : CanPatchAll kinds first uses) (u : Patch L) (new : List ℕ) →
      slice_get uses i ≡ Some u → ChangesOnly now new u.offset (length (kinds.fields u.kind)) →
      SameOutside (kinds.fields u.kind) (window now u.offset (length (kinds.fields u.kind))) (window new u.offset (length (kinds.fields u.kind))) →
      kinds.aims u.kind (window new u.offset (length (kinds.fields u.kind))) (pos u.target -ℤ pos u.offset) → Progress kinds first new uses (i + 1)
  progress_patched p can u new h c kept a =
      let stays : (j : ℕ) (v : Patch L) → j ≢ i → slice_get uses j ≡ Some v → window new v.offset (length (kinds.fields v.kind)) ≡ window now v.offset (length (kinds.fields v.kind)) =
      λ j v ne k. window_apart now new u.offset (length (kinds.fields u.kind)) v.offset (length (kinds.fields v.kind)) c (can.apart j i v u ne k h) in
      let here : IsDone kinds first new u = (a, rw (← p.left i u (omega arith) h) kept) in
      record {
        done = λ j v lt k. ⊎_elim (λ below. rw (stays j v (omega arith) k) (p.done j v below k)) (λ above. subst (IsDone kinds first new) (let at : i ≡ j = omega arith in same_Some _ _ (sym h ∙ ap (slice_get uses) at ∙ k)) here) (cases_lt j i);
        left = λ j v le k. stays j v (omega arith) k ∙ p.left j v (omega arith) k;
        others = λ q m apart. window_apart now new u.offset (length (kinds.fields u.kind)) q m c (apart i u h) ∙ p.others q m apart;
      }

  -- at the end all are done
  pub progress_done : (p : Progress kinds first now uses i) → length uses ≤ i → (j : ℕ) (u : Patch L) → slice_get uses j ≡ Some u → IsDone kinds first now u
  progress_done p h j u k = p.done j u (let within = slice_get_within uses j u k in omega arith) k
