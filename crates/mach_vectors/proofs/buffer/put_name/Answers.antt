use Rattle.mach_buffer.proofs.Kept.{kept_named, named_met, slack_named}
use Rattle.mach_vectors.proofs.buffer.put_name.Goals as goal

pub put_window-requires-clause-kept : goal.put_window-requires-clause-kept
put_window-requires-clause-kept g c =
    let e = c.in_ok-label.ensures in
    kept_named c.in_ok-emit_due_island.ensures.kept c.get_label_for_constant.new.self c.args.constant e.sound e.named.2

pub put_window-requires-clause-met : goal.put_window-requires-clause-met
put_window-requires-clause-met g c =
    let K = g.L.MachInstLabelUse in
    let e = c.in_ok-label.ensures in
    named_met K.kinds c.get_label_for_constant.new.self c.in_ok-label.label c.args.constant e.sound e.label e.usable

pub put_window-requires-clause-slack : goal.put_window-requires-clause-slack
put_window-requires-clause-slack g c =
    let K = g.L.MachInstLabelUse in
    let e = c.in_ok-label.ensures in
    slack_named K.kinds c.emit_due_island.new.buffer c.get_label_for_constant.new.self c.args.constant 2 30 e.named.2 c.in_ok-emit_due_island.ensures.slack
