use Rattle.std.proofs.Common.{◌≡◌, drop, []}
use Rattle.rvobj.specs.Making.{symbols_from}
use Rattle.rvobj.proofs.making.symbols_of.Given as goal

abbrev pub invariant-loop-export : goal.invariant-loop-export
invariant-loop-export l = symbols_from l.labels l.symbols (drop l.export-index l.exports) ≡ symbols_from l.labels [] l.exports
