use Rattle.std.proofs.Common.{◌≡◌, drop}
use Rattle.std.specs.List.{list_any}
use Rattle.rv_inst.specs.Operands.{use_registers}
use Rattle.rv_inst.specs.RegisterTests.{test_of}
use Rattle.rv_inst.proofs.registers.any_of_uses.Given as goal

abbrev pub invariant-loop-pair : goal.invariant-loop-pair
invariant-loop-pair l = list_any (test_of l.test) (use_registers (drop l.pair-index l.pairs)) ≡ list_any (test_of l.test) (use_registers l.pairs)
