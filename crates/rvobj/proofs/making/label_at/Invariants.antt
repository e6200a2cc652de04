use Rattle.std.proofs.Common.{◌≡◌, ◌==◌, drop}
use Rattle.std.specs.Prelude.{find}
use Rattle.rvobj.proofs.making.label_at.Given as goal

abbrev pub invariant-loop-label : goal.invariant-loop-label
invariant-loop-label l = find (λ p. p.label.number == l.number) (drop l.label-index l.labels) ≡ find (λ p. p.label.number == l.number) l.labels
