use Rattle.std.proofs.Common.{◌≡◌, drop}
use Rattle.std.specs.Prelude.{find}
use Rattle.rv_fill.specs.Filled.{is_upper_at}
use Rattle.rv_fill.proofs.addresses.upper_at.Given as goal

abbrev pub invariant-loop-upper : goal.invariant-loop-upper
invariant-loop-upper l = find (is_upper_at l.at) (drop l.upper-index l.relocs) ≡ find (is_upper_at l.at) l.relocs
