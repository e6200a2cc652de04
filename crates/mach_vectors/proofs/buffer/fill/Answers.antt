use Rattle.std.proofs.Common.{ap, ◌∙◌}
use Rattle.mach_buffer.specs.Shape.{Shape}
use Rattle.mach_buffer.proofs.Kept.{kept_front}
use Rattle.mach_vectors.proofs.buffer.fill.Goals as goal

pub returns : goal.returns
returns g c =
    let m = c.in_ok-emit_due_island.ensures in
    let p = c.in_ok-put_data.ensures in
    record { kept = kept_front m.kept c.put_data.new.self c.args.count _ p.sound p.put.2 m.slack; registered = ap (λ (x : Shape g.row.L.Denot). x.registered) p.put.2 ∙ m.registered }
