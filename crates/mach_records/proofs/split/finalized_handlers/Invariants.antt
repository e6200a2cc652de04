use Rattle.std.proofs.Common.{◌≡◌, map, take}
use Rattle.std.specs.List.{AllByRecursion}
use Rattle.mach_records.specs.Ranges.{HandlerFits}
use Rattle.mach_records.specs.Records.{finalized_handler, offset_or_zero}
use Rattle.mach_labels.specs.Table.{entry_of}
use Rattle.mach_records.proofs.split.finalized_handlers.Given as goal

abbrev pub invariant-loop-handler : goal.invariant-loop-handler
invariant-loop-handler l = record { finalized : l.found.items ≡ map (finalized_handler (offset_or_zero (entry_of l.places))) (take l.handler-index l.handlers); fits : AllByRecursion HandlerFits l.found.items }
