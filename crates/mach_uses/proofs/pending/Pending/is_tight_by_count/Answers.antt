use Rattle.std.proofs.Common.{◌+◌, ◌-◌, ◌*◌, sym, arith}
use Rattle.mach_uses.proofs.Words.{place_in, is_pending, deadlines}
use Rattle.mach_uses.proofs.QueueContents.{bound_many}
use Rattle.mach_uses.proofs.pending.Pending.is_tight_by_count.Goals as goal

pub returns-then-due-count : goal.returns-then-due-count
returns-then-due-count g c =
    let margin = c.requires.margin in
    let some = c.fewer-test.true in
    let ds = deadlines (is_pending g.L.MachInstLabelUse.kinds (place_in c.args.labels.now)) g.L.MachInstLabelUse.kinds c.args.uses.now in
    sym (bound_many c.args.start c.fewer.count c.count_due-due.result (c.args.start + 8 * c.fewer.count - 1) ds margin (omega arith) (omega arith) c.count_due-due.ensures (omega (arith, c.if-due-count.true)))
