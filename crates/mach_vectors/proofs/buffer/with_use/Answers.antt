use Rattle.std.proofs.Common.{ap, ◌∙◌}
use Rattle.mach_buffer.specs.Shape.{Shape}
use Rattle.mach_vectors.specs.declared.toy.Toy.{Toy}
use Rattle.mach_vectors.proofs.buffer.with_use.Goals as goal

pub returns-clause-unbound : goal.returns-clause-unbound
returns-clause-unbound c =
    let n = c.args.label.number in
    ap (λ (x : Shape Toy). x.place n) c.in_ok-use_label_at_offset.ensures.recorded.2 ∙ ap (λ (x : Shape Toy). x.place n) c.in_ok-register_constants.ensures.registered.2 ∙ c.new-buffer.ensures.places n
