use Rattle.std.proofs.Common.{ap, ◌∙◌}
use Rattle.mach_buffer.specs.Shape.{Shape}
use Rattle.mach_buffer.proofs.Kept.{kept_none}
use Rattle.mach_vectors.proofs.buffer.empty.Goals as goal

pub returns-clause-kept : goal.returns-clause-kept
returns-clause-kept g c =
    let n = c.new-buffer.ensures in
    let e = c.in_ok-register_constants.ensures in
    let same = e.registered.2 in
    kept_none 4 c.register_constants.new.self e.sound (ap (λ (x : Shape g.row.L.Denot). x.bytes) same ∙ n.bytes) (ap (λ (x : Shape g.row.L.Denot). x.uses) same ∙ n.uses) (ap (λ (x : Shape g.row.L.Denot). x.constants) same ∙ n.constants)
