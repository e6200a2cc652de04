use Rattle.std.proofs.Common.{rules, ◌≡◌, false, length}
use Rattle.mach_buffer.specs.Buffer.{bytes_of, pending_of}
use Rattle.mach_uses.specs.Reach.{is_needed}
use Rattle.mach_buffer.proofs.Laws.{slack_not_needed}
use Rattle.mach_vectors.proofs.buffer.emit_due_island.Goals as goal

pub returns-then-not-island_needed-clause-slack : goal.returns-then-not-island_needed-clause-slack
returns-then-not-island_needed-clause-slack g c =
    let K = g.L.MachInstLabelUse in
    let b = c.args.buffer.now in
    let idle : is_needed (length (bytes_of b)) c.args.distance (pending_of K.kinds b) ≡ false = search rules in
    slack_not_needed (length (bytes_of b)) c.args.distance (pending_of K.kinds b) idle
