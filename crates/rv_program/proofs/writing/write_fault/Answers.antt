use Rattle.std.proofs.Common.{◌∙◌, ◌++◌, List, ℕ, ap₂, subst}
use Rattle.rv_program.specs.Endings.{stream, Writes}
use Rattle.rv_program.proofs.Streams.{joined}
use Rattle.rv_program.proofs.writing.write_fault.Goals as goal

pub returns : goal.returns
returns g c = λ before faults notes first.
    let s = stream before (g.E.Sink.taken c.write_on.new.sink) faults (g.E.Sink.faults c.write_on.new.sink) in
    let named = c.write_on-named.ensures before faults notes first in
    let both = joined s notes _ _ c.write_on.result (c.write_on.ensures before faults _ named) in
    let text = ap₂ (λ (xs ys : List ℕ). xs ++ ys) c.as_bytes.ensures.value (c.as_bytes-2.ensures.value ∙ c.fault_text.ensures) in
    subst (λ (t : List ℕ). Writes s (notes ++ t) c.write_on.result) text both
