use Rattle.mach_uses.proofs.Words.{place_in, is_pending, deadlines}
use Rattle.mach_uses.proofs.QueueContents.{IsBound}
use Rattle.mach_uses.proofs.pending.Pending.is_tight_by_count.Given as goal

abbrev pub invariant-fewer : goal.invariant-fewer
invariant-fewer g l = IsBound l.start l.count (deadlines (is_pending g.L.MachInstLabelUse.kinds (place_in l.labels)) g.L.MachInstLabelUse.kinds l.uses)

abbrev pub decreases-fewer : goal.decreases-fewer
decreases-fewer g l = l.count
