use Rattle.std.proofs.Common.{◌≡◌, ◌∙◌, sym, true, false}
use Rattle.mach_uses.proofs.Words.{place_in, is_queued}
use Rattle.mach_uses.proofs.QueueContents.{keeps_skip, keeps_push}
use Rattle.mach_uses.proofs.pending.Queue.add.Goals as goal

pub returns-then-not-is_queued : goal.returns-then-not-is_queued
returns-then-not-is_queued g c =
    let fails : is_queued g.L.MachInstLabelUse.kinds (place_in c.args.labels.now) c.args.queue c.args.u.now ≡ false = sym c.is_queued.ensures ∙ c.if-not-is_queued.true in
    keeps_skip c.args.u.now fails c.requires

pub returns : goal.returns
returns g c =
    let e = c.in_ok-push.ensures in
    let holds : is_queued g.L.MachInstLabelUse.kinds (place_in c.args.labels.now) c.args.queue c.args.u.now ≡ true = sym c.is_queued.ensures ∙ c.if-not-is_queued.false in
    rw (e.numbers, e.slack, c.deadline.ensures.value) (keeps_push c.args.u.now holds c.requires)
