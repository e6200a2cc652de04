-- Records as `by_kind` collects them, one after another: for its proof, and no public clause cites it.
use Rattle.std.specs.Prelude.{ℕ, Option, ◌++◌}
use Rattle.mach_records.specs.declared.records.MachRecord.{MachRecord}
use Rattle.mach_records.specs.declared.records.Recorded.{Recorded}
use Rattle.mach_records.specs.declared.split.Collected.{Collected}
use Rattle.mach_records.specs.Records.{event_recorded, offset_or_zero}

-- what is collected, as lists
abbrev pub collected : Collected → Recorded
collected c = record {
  relocs = c.relocs.items;
  traps = c.traps.items;
  call_sites = c.call_sites.items;
  try_call_sites = c.try_call_sites.items;
  patchable_call_sites = c.patchable_call_sites.items;
  stack_maps = c.stack_maps.items;
  unwinds = c.unwinds.items;
}

-- each kind's list, and then that of what comes after
abbrev pub both : Recorded → Recorded → Recorded
both a b = record {
  relocs = a.relocs ++ b.relocs;
  traps = a.traps ++ b.traps;
  call_sites = a.call_sites ++ b.call_sites;
  try_call_sites = a.try_call_sites ++ b.try_call_sites;
  patchable_call_sites = a.patchable_call_sites ++ b.patchable_call_sites;
  stack_maps = a.stack_maps ++ b.stack_maps;
  unwinds = a.unwinds ++ b.unwinds;
}

-- what a record reports, by the places of labels
abbrev pub reported : (ℕ → Option ℕ) → MachRecord → Recorded
reported place r = event_recorded (offset_or_zero place) r.offset r.event
