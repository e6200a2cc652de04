use Rattle.std.proofs.Common.{◌≡◌, ◌++◌, take}
use Rattle.std.specs.List.{flat_map}
use Rattle.rv_listing.specs.Report.{handler_text}
use Rattle.rv_listing.proofs.code_report.put_handlers.Given as goal

abbrev pub invariant-loop-h : goal.invariant-loop-h
invariant-loop-h l = l.out.items ≡ l.fn.out.items ++ flat_map handler_text (take l.h-index l.handlers)
