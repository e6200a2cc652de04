use Rattle.std.proofs.Common.{◌≡◌, take}
use Rattle.std.specs.List.{AllByRecursion}
use Rattle.mach_records.specs.Ranges.{EntryFits}
use Rattle.mach_records.proofs.split.copy_of_map.Given as goal

abbrev pub invariant-loop-entry : goal.invariant-loop-entry
invariant-loop-entry l = record { copy : l.entries.items ≡ take l.entry-index l.map.entries; fits : AllByRecursion EntryFits l.entries.items }
