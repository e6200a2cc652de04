use Rattle.std.proofs.Common.{◌≡◌, drop}
use Rattle.rv_inst.specs.Rules.{results_clash}
use Rattle.rv_inst.proofs.results.results_clash.Given as goal

abbrev pub invariant-loop-index : goal.invariant-loop-index
invariant-loop-index l = results_clash l.defs ≡ results_clash (drop l.index l.defs)
