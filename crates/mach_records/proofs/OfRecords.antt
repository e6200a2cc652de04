-- What one record reports, for proofs above that go by one kind.
use Rattle.std.specs.Prelude.{List}
use Rattle.mach_records.specs.declared.records.MachRecord.{MachRecord}
use Rattle.mach_records.specs.declared.records.MachTrap.{MachTrap}
use Rattle.mach_records.specs.declared.records.MachReloc.{MachReloc}
use Rattle.mach_records.specs.declared.records.MachUnwind.{MachUnwind}
use Rattle.mach_records.specs.Records.{event_recorded, no_offsets}

abbrev pub record_traps : MachRecord → List MachTrap
record_traps r = (event_recorded no_offsets r.offset r.event).traps

abbrev pub record_relocs : MachRecord → List MachReloc
record_relocs r = (event_recorded no_offsets r.offset r.event).relocs

abbrev pub record_unwinds : MachRecord → List MachUnwind
record_unwinds r = (event_recorded no_offsets r.offset r.event).unwinds
