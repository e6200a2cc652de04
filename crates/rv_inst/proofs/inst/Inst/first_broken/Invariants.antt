use Rattle.std.proofs.Common.{◌≡◌, drop}
use Rattle.std.specs.List.{find}
use Rattle.rv_inst.specs.Rules.{breaks}
use Rattle.rv_inst.proofs.inst.Inst.first_broken.Given as goal

abbrev pub invariant-loop-rule : goal.invariant-loop-rule
invariant-loop-rule l = find (breaks l.context l.self) (drop l.rule-index l.rules) ≡ find (breaks l.context l.self) l.rules
