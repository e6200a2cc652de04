use Rattle.std.proofs.Common.{◌≡◌, drop, map}
use Rattle.std.specs.List.{list_any}
use Rattle.rv_inst.specs.Operands.{handler_label}
use Rattle.rv_inst.specs.Rules.{is_buffer_label}
use Rattle.rv_inst.proofs.check.any_handler_is_inner.Given as goal

abbrev pub invariant-loop-handler : goal.invariant-loop-handler
invariant-loop-handler l = list_any is_buffer_label (map handler_label (drop l.handler-index l.handlers)) ≡ list_any is_buffer_label (map handler_label l.handlers)
