use Rattle.std.proofs.Common.{take}
use Rattle.mach_uses.proofs.Words.{place_in, is_queued}
use Rattle.mach_uses.proofs.QueueContents.{Tidied}
use Rattle.mach_uses.proofs.pending.Queue.tidied.Given as goal

abbrev pub invariant-loop-number : goal.invariant-loop-number
invariant-loop-number g l = let K = g.L.MachInstLabelUse in Tidied K.kinds (is_queued K.kinds (place_in l.labels) l.queue) l.uses l.tidied.numbers.items l.tidied.slack (take l.number-index l.self.numbers.items)
