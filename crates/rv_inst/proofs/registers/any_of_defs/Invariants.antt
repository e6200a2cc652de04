use Rattle.std.proofs.Common.{◌≡◌, drop}
use Rattle.std.specs.List.{list_any}
use Rattle.rv_inst.specs.Operands.{def_registers}
use Rattle.rv_inst.specs.RegisterTests.{test_of}
use Rattle.rv_inst.proofs.registers.any_of_defs.Given as goal

abbrev pub invariant-loop-def : goal.invariant-loop-def
invariant-loop-def l = list_any (test_of l.test) (def_registers (drop l.def-index l.defs)) ≡ list_any (test_of l.test) (def_registers l.defs)
