use Rattle.std.proofs.Common.{◌-◌, ◌≤◌, length}
use Rattle.std.specs.Io.KnownBytes.{Consumes}
use Rattle.rv_stream.proofs.whole.read_on.Given as goal

abbrev pub invariant-reading : goal.invariant-reading
invariant-reading g l = Consumes (g.S.Source.left l.fn.source) (g.S.Source.left l.source) l.text.items × (g.S.Source.faults l.fn.source ≤ g.S.Source.faults l.source)

abbrev pub decreases-reading : goal.decreases-reading
decreases-reading g l = 16777217 - length l.text.items
