use Rattle.std.proofs.Common.{◌≡◌, ◌++◌, take}
use Rattle.mach_uses.proofs.Words.{place_in, is_other_queued, keys_where}
use Rattle.mach_uses.proofs.pending.Queue.collect.Given as goal

abbrev pub invariant-loop-number : goal.invariant-loop-number
invariant-loop-number g l =
    let K = g.L.MachInstLabelUse in
    let found = keys_where K.kinds (is_other_queued K.kinds (place_in l.labels) l.queue l.after_island) l.uses in
    l.keys.items ≡ l.initial.keys.items ++ found (take l.number-index l.self.numbers.items)
