use Rattle.std.proofs.Common.{drop}
use Rattle.std.specs.List.{AllByRecursion}
use Rattle.rv_full.specs.Units.{RegisterFits}
use Rattle.rv_full.proofs.answer_ranges.registers_fit.Given as goal

abbrev pub invariant-loop-register : goal.invariant-loop-register
invariant-loop-register l = AllByRecursion RegisterFits (drop l.register-index l.registers) → AllByRecursion RegisterFits l.registers
