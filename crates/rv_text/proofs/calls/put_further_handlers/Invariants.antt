use Rattle.std.proofs.Common.{◌≡◌, ◌++◌, take, string_bytes}
use Rattle.std.specs.List.{flat_map}
use Rattle.rv_text.specs.Operands.{after_comma, handler_text}
use Rattle.rv_text.proofs.calls.put_further_handlers.Given as goal

abbrev pub invariant-loop-handler : goal.invariant-loop-handler
invariant-loop-handler l = string_bytes l.out ≡ string_bytes l.fn.out ++ flat_map (after_comma handler_text) (take l.handler-index l.handlers)
