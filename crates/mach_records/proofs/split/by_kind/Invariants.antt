use Rattle.std.proofs.Common.{◌≡◌, take}
use Rattle.mach_labels.specs.Table.{entry_of}
use Rattle.mach_records.specs.Collected.{collected}
use Rattle.mach_records.specs.Ranges.{RecordedFits}
use Rattle.mach_records.specs.Records as records_of
use Rattle.mach_records.proofs.split.by_kind.Given as goal

abbrev pub invariant-loop-r : goal.invariant-loop-r
invariant-loop-r l = record { found : collected l.found ≡ records_of.by_kind (entry_of l.places) (take l.r-index l.records); fits : RecordedFits (collected l.found) }
