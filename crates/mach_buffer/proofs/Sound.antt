-- A sound buffer, as calls are made.
use Rattle.std.proofs.Common.{[], Bool, inl, inr, ◌<◌, ◌≡◌, ℕ, ◌+◌, ◌%◌, ◌≤◌, List, ◌∷◌, ◌++◌, length, Some, None, sym, subst, arith, ⊎_elim}
use Rattle.mach_buffer.proofs.Words.{cases_eq, length-append, slice_get, Kinds, MachLabel, Constant, VCodeConstant, Use, Pending, Shape, with_bytes, with_use, with_label, with_allocated, with_named, with_registered, name_more, placed, inner_count, IsKnown, IsUsable, IsOrdered, AreNoted, is_pending, due_by, pending_in, AreKept, HoldNone, Inside, AreSound, IsWhole, nat_tests, AreOrdered}
use Rattle.mach_buffer.proofs.ConstantOrder.{placed_other, ordered_named}
use Rattle.mach_uses.proofs.QueueContents.{kept_none, kept_fewer}
use Rattle.mach_buffer.proofs.Links.{linked_bytes, linked_use}
use Rattle.mach_uses.proofs.Lists.{append_each, slice_get-append}
use Rattle.mach_uses.proofs.Slack.{bound_pending, due_fewer}

-- a buffer in which nothing is
abbrev pub empty : {L : Type 0} → Shape L
empty = record { bytes = []; uses = []; place = λ label. None; labels = []; allocated = 0; records = []; registered = []; named = []; constants = [] }

pub sound_none : {L : Type 0} (kinds : Kinds L) (p : Inside) → HoldNone p.pending → p.seen ≡ [] → AreSound kinds empty p
sound_none {L} kinds p none seen =
    let kept = kept_none {L = L} kinds (λ label. None) [] p.pending none (λ j u h. absurd (cc)) in
    grind (arith, nat_tests)

-- a label is bound
pub whole_label : {L : Type 0} {kinds : Kinds L} {s : Shape L} → IsWhole kinds s → (label : MachLabel) → IsKnown label.number s.allocated → IsWhole kinds (with_label label s)
whole_label {L} {kinds} {s} h label known =
    let usable : IsUsable s label.number = inl known in
    let places : (other at : ℕ) → placed s.place label.number (length s.bytes) other ≡ Some at → (at ≤ length s.bytes) × (at % 2 ≡ 0) × IsUsable s other = λ other at e. ⊎_elim
    (λ same. (grind (arith, nat_tests), grind (arith, nat_tests, h.even), subst (IsUsable s) (sym same) usable))
    (λ ne. h.places other at (grind (arith, nat_tests)))
    (cases_eq other label.number) in
    let ordered : AreOrdered s.allocated (placed s.place label.number (length s.bytes)) s.registered s.named s.constants = grind (arith, nat_tests) in
    assumption

-- fewer uses are due once a label is bound
pub label_fewer : {L : Type 0} (kinds : Kinds L) (s : Shape L) (label : MachLabel) → s.place label.number ≡ None → (t : Shape L) → t ≡ with_label label s → (end : ℕ) → due_by end (pending_in kinds t) ≤ due_by end (pending_in kinds s)
label_fewer kinds s label none t e end = rw e (due_fewer (is_pending kinds s.place) (is_pending kinds (placed s.place label.number (length s.bytes))) kinds end s.uses (bound_pending kinds s.place _ label.number none (placed_other s.place label.number (length s.bytes))))

module _ {L : Type 0} {kinds : Kinds L} {s : Shape L} {p : Inside} where
  -- more labels may be named
  sound_known : AreSound kinds s p → (allocated : ℕ) (registered : List Constant) (named : List VCodeConstant) (seen : List Bool) →
      let t : Shape L = record s { allocated = allocated; registered = registered; named = named } in
      ((label : ℕ) → IsUsable s label → IsUsable t label) → IsOrdered t → AreNoted registered named seen → AreSound kinds t (record { pending = p.pending; seen = seen })
  sound_known h allocated registered named seen more ordered noted =
      let w = h.whole in
      record {
        whole = record { linked = w.linked; even = w.even; places = λ label at e. let q = w.places label at e in (q.0, q.1, more label q.2); known = λ j u e. more u.label.number (w.known j u e); ordered = ordered };
        kept = h.kept;
        noted = noted;
      }

  pub sound_allocated : AreSound kinds s p → s.allocated < inner_count → AreSound kinds (with_allocated s) p
  sound_allocated h few = sound_known h (s.allocated + 1) s.registered s.named p.seen (λ label u. grind arith) (let o = h.whole.ordered in grind arith) h.noted

  -- a constant is named
  pub sound_named : AreSound kinds s p → (k : VCodeConstant) → k.number < length s.registered → (seen : List Bool) → AreNoted s.registered (name_more k s.named) seen → AreSound kinds (with_named k s) (record { pending = p.pending; seen = seen })
  sound_named h k known seen noted = sound_known h s.allocated s.registered (name_more k s.named) seen (λ label u. ⊎_elim (λ known. inl known) (λ c. inr (record { index = c.index; constant = c.constant; there = slice_get-append _ _ c.index c.constant c.there; is = c.is })) u) (ordered_named s k known (λ label at e. (h.whole.places label at e).2) h.whole.ordered) noted

  -- constants become known
  pub sound_registered : AreSound kinds s p → (constants : List Constant) → s.registered ≡ [] → length constants ≤ inner_count → (seen : List Bool) → AreNoted constants s.named seen → AreSound kinds (with_registered constants s) (record { pending = p.pending; seen = seen })
  sound_registered h constants none few seen noted = sound_known h s.allocated constants s.named seen (λ label u. u) (let o = h.whole.ordered in grind (arith, nat_tests)) noted

  pub sound_label : AreSound kinds s p → (label : MachLabel) → IsKnown label.number s.allocated → s.place label.number ≡ None → AreSound kinds (with_label label s) p
  sound_label h label known none =
      let whole = whole_label h.whole label known in
      let kept = kept_fewer (placed s.place label.number (length s.bytes)) (bound_pending kinds s.place _ label.number none (placed_other s.place label.number (length s.bytes))) h.kept in
      assumption

  -- an even number of bytes is put
  pub sound_bytes : AreSound kinds s p → (more : List ℕ) → length more % 2 ≡ 0 → (new : Pending) → AreKept kinds s.place s.uses new → AreSound kinds (with_bytes more s) (record { pending = new; seen = p.seen })
  sound_bytes h more even new kept =
      let long = length-append s.bytes more in
      let linked = linked_bytes h.whole.linked more in
      let places : (label at : ℕ) → s.place label ≡ Some at → (at ≤ length (s.bytes ++ more)) × (at % 2 ≡ 0) × IsUsable s label = λ label at e. let q = h.whole.places label at e in (omega arith, q.1, q.2) in
      grind (arith, h.whole.even)

  -- a use is recorded
  pub sound_use : AreSound kinds s p → (u : Use L) → u.veneer ≡ None → u.offset ≤ length s.bytes → IsUsable s u.label.number → (new : Pending) → AreKept kinds s.place (s.uses ++ u ∷ []) new → AreSound kinds (with_use u s) (record { pending = new; seen = p.seen })
  sound_use h u bare there known new kept =
      let linked = linked_use h.whole.linked u bare there in
      let all_known = append_each (λ x. IsUsable s x.label.number) s.uses u known h.whole.known in
      assumption
