use Rattle.std.proofs.Common.{ap, ◌∙◌}
use Rattle.mach_buffer.specs.Shape.{Shape}
use Rattle.mach_vectors.specs.declared.toy.Toy.{Toy}
use Rattle.mach_vectors.proofs.buffer.with_use_and_bytes.Goals as goal

pub returns-clause-unbound : goal.returns-clause-unbound
returns-clause-unbound c =
    let n = c.args.label.number in
    ap (λ (x : Shape Toy). x.place n) (c.in_ok-put_data.ensures.put.2) ∙ ap (λ (x : Shape Toy). x.place n) (c.in_ok-put8.ensures.put.2) ∙ ap (λ (x : Shape Toy). x.place n) (c.in_ok-put4.ensures.put.2) ∙ ap (λ (x : Shape Toy). x.place n) (c.in_ok-put2.ensures.put.2) ∙ c.in_ok-buffer.ensures.unbound
