use Rattle.std.proofs.Common.{drop}
use Rattle.std.specs.List.{AllByRecursion}
use Rattle.rv_full.specs.Units.{StoredFits}
use Rattle.rv_full.proofs.answer_ranges.stored_fit.Given as goal

abbrev pub invariant-loop-byte : goal.invariant-loop-byte
invariant-loop-byte l = AllByRecursion StoredFits (drop l.byte-index l.bytes) → AllByRecursion StoredFits l.bytes
