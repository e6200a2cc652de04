-- For callers: records, by what they report.
use Rattle.std.specs.Prelude.{ℕ, List, [], ◌∷◌, map, Option, unwrap_or}
use Rattle.std.specs.List.{flat_map}
use Rattle.rv_base.specs.declared.reloc.RelocTarget.{RelocTarget}
use Rattle.rv_base.specs.declared.reloc.RelocTarget.TheVariants.{Name, Label}
use Rattle.rv_base.specs.declared.call.TryCallHandler.{TryCallHandler}
use Rattle.rv_base.specs.declared.call.TryCallHandler.TheVariants.{Tag, Default}
use Rattle.mach_records.specs.declared.records.Event.{Event}
use Rattle.mach_records.specs.declared.records.Event.TheVariants.{Trap, Reloc, Unwind, CallSite, TryCallSite, PatchableCallSite, StackMap}
use Rattle.mach_records.specs.declared.records.FinalizedMachExceptionHandler.{FinalizedMachExceptionHandler}
use Rattle.mach_records.specs.declared.records.FinalizedMachExceptionHandler.TheVariants as handler
use Rattle.mach_records.specs.declared.records.FinalizedRelocTarget.{FinalizedRelocTarget}
use Rattle.mach_records.specs.declared.records.FinalizedRelocTarget.TheVariants.{ExternalName, Func}
use Rattle.mach_records.specs.declared.records.MachRecord.{MachRecord}
use Rattle.mach_records.specs.declared.records.MachTrap.{MachTrap}
use Rattle.mach_records.specs.declared.records.MachReloc.{MachReloc}
use Rattle.mach_records.specs.declared.records.MachUnwind.{MachUnwind}
use Rattle.mach_records.specs.declared.records.MachPatchable.{MachPatchable}
use Rattle.mach_records.specs.declared.records.MachTryCallSite.{MachTryCallSite}
use Rattle.mach_records.specs.declared.records.MachStackMap.{MachStackMap}
use Rattle.mach_records.specs.declared.records.Recorded.{Recorded}

-- nothing that is reported
abbrev pub nothing : Recorded
nothing = record { relocs = []; traps = []; call_sites = []; try_call_sites = []; patchable_call_sites = []; stack_maps = []; unwinds = [] }

-- a handler's label by its offset
abbrev pub finalized_handler : (ℕ → ℕ) → TryCallHandler → FinalizedMachExceptionHandler
finalized_handler at (Tag tag label) = handler.Tag tag (at label.number)
finalized_handler at (Default label) = handler.Default (at label.number)

-- what an event at an offset reports, by the offsets of labels
abbrev pub event_recorded : (ℕ → ℕ) → ℕ → Event → Recorded
event_recorded at offset (Trap code) = record nothing { traps = record { offset = offset; code = code } ∷ [] }
event_recorded at offset (Reloc kind target addend) = record nothing { relocs = record { offset = offset; kind = kind; target = target; addend = addend } ∷ [] }
event_recorded at offset (Unwind inst) = record nothing { unwinds = record { offset = offset; inst = inst } ∷ [] }
event_recorded at offset CallSite = record nothing { call_sites = offset ∷ [] }
event_recorded at offset (TryCallSite frame handlers) =
    record nothing {
      try_call_sites = record { offset = offset; frame_offset = frame; handlers = map (finalized_handler at) handlers } ∷ [];
    }
event_recorded at offset (PatchableCallSite len) = record nothing { patchable_call_sites = record { offset = offset; len = len } ∷ [] }
event_recorded at offset (StackMap span entries) = record nothing { stack_maps = record { offset = offset; span = span; map = entries } ∷ [] }

-- for what is reported without labels: only handlers have some
abbrev pub no_offsets : ℕ → ℕ
no_offsets label = 0

-- those among records, in the order in which they were recorded
abbrev pub traps_in : List MachRecord → List MachTrap
traps_in records = flat_map (λ r. (event_recorded no_offsets r.offset r.event).traps) records

abbrev pub relocs_in : List MachRecord → List MachReloc
relocs_in records = flat_map (λ r. (event_recorded no_offsets r.offset r.event).relocs) records

abbrev pub unwinds_in : List MachRecord → List MachUnwind
unwinds_in records = flat_map (λ r. (event_recorded no_offsets r.offset r.event).unwinds) records

abbrev pub calls_in : List MachRecord → List ℕ
calls_in records = flat_map (λ r. (event_recorded no_offsets r.offset r.event).call_sites) records

abbrev pub patches_in : List MachRecord → List MachPatchable
patches_in records = flat_map (λ r. (event_recorded no_offsets r.offset r.event).patchable_call_sites) records

abbrev pub tries_in : (ℕ → ℕ) → List MachRecord → List MachTryCallSite
tries_in at records = flat_map (λ r. (event_recorded at r.offset r.event).try_call_sites) records

abbrev pub maps_in : List MachRecord → List MachStackMap
maps_in records = flat_map (λ r. (event_recorded no_offsets r.offset r.event).stack_maps) records

-- a label's offset, or 0 where it has none
abbrev pub offset_or_zero : (ℕ → Option ℕ) → ℕ → ℕ
offset_or_zero place label = unwrap_or (place label) 0

-- a relocation's target: a label by its place, or by 0 where it has none
abbrev pub finalized : (ℕ → Option ℕ) → RelocTarget → FinalizedRelocTarget
finalized place (Name name) = ExternalName name
finalized place (Label label) = Func (offset_or_zero place label.number)

-- all records by what they report, by the places of labels
abbrev pub by_kind : (ℕ → Option ℕ) → List MachRecord → Recorded
by_kind place records = record {
  relocs = relocs_in records;
  traps = traps_in records;
  call_sites = calls_in records;
  try_call_sites = tries_in (offset_or_zero place) records;
  patchable_call_sites = patches_in records;
  stack_maps = maps_in records;
  unwinds = unwinds_in records;
}
