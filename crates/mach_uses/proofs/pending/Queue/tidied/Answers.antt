use Rattle.std.proofs.Common.{[], ◌+◌, ◌++◌, ◌∷◌, ◌≡◌, ap, take, length, arith, get_or, ℕ}
use Rattle.mach_uses.proofs.Words.{append-nil, filter-append, nat_tests, take_more, take_all}
use Rattle.mach_uses.proofs.QueueContents.{tidy_take, tidy_end}
use Rattle.mach_uses.proofs.pending.Queue.tidied.Goals.{in-Some+in_ok-push-in-Some, in-None}
use Rattle.mach_uses.proofs.pending.Queue.tidied.Goals as goal

pub loop-number-preserved : goal.loop-number-preserved
loop-number-preserved g c =
    let all = c.args.self.now.numbers.items in
    let items = c.deref-number-items.result.now in
    let i = c.loop-number.number-index in
    let next : take (i + 1) all ≡ take i all ++ get_or items i 0 ∷ [] = rw c.deref-number-items.ensures.value (take_more all i 0 (rw c.deref-number-items.ensures.value at c.loop-number-test.true)) in
    elim c.match-queued_deadline.branch [
      | in-Some+in_ok-push-in-Some w ↦ rw (next, w.tidied-is, w.in_ok-push-in-Some.ensures.numbers, w.in_ok-push-in-Some.ensures.slack) (tidy_take (get_or items i 0) w.in-Some.last w.in-Some.ensures c.loop-number.invariant)
      | in-None w ↦ rw (next, w.tidied-is) (grind (arith, nat_tests, filter-append, append-nil))
    ]

pub returns : goal.returns
returns g c = tidy_end c.requires (rw (take_all c.loop-number.number-index c.args.self.now.numbers.items (omega (arith, c.loop-number-test.false, c.deref-number-items.ensures.len, ap (length {A = ℕ}) c.deref-number-items.ensures.value))) at c.loop-number.invariant)
