-- What an instruction records.
use Rattle.std.specs.Prelude.{◌≡◌, Bool, true, false, ℕ, ◌+◌, List, [], ◌∷◌, ◌++◌, ◌-◌, Option, Some, None, slice_get, ℤ, pos}
use Rattle.rv_base.specs.declared.call.TryCallInfo.{TryCallInfo}
use Rattle.rv_base.specs.declared.call.UserStackMap.{UserStackMap}
use Rattle.rv_base.specs.declared.external_name.ExternalName.{ExternalName}
use Rattle.rv_base.specs.declared.frame.FrameLayout.{FrameLayout}
use Rattle.rv_base.specs.Frame.{sp_to_fp_of}
use Rattle.rv_base.specs.declared.reloc.Reloc.{Reloc}
use Rattle.rv_base.specs.declared.reloc.Reloc.TheVariants.{RiscvGotHi20, RiscvPCRelHi20, RiscvPCRelLo12I, Abs8}
use Rattle.rv_base.specs.declared.trap.TrapCode.{TrapCode}
use Rattle.mach_records.specs.declared.records.Event.{Event}
use Rattle.mach_records.specs.declared.records.Event.TheVariants as event
use Rattle.mach_records.specs.declared.records.FinalizedRelocTarget.TheVariants.{ExternalName as ToName, Func as ToPlace}
use Rattle.mach_records.specs.declared.records.MachRecord.{MachRecord}
use Rattle.mach_records.specs.declared.records.MachTrap.{MachTrap}

-- one event at an offset
abbrev pub noted : ℕ → Event → List MachRecord
noted at e = record { offset = at; event = e } ∷ []

-- the trap of an access, where it may trap, at the offset of its own instruction
abbrev pub access_records : ℕ → Option TrapCode → List MachRecord
access_records at None = []
access_records at (Some code) = noted at (event.Trap code)

-- a distance in two parts: the upper is that to a symbol, or to its slot, and the lower is of the distance whose upper part stands
-- at the start
abbrev pub part_records : ℕ → Reloc → ExternalName → ℤ → List MachRecord
part_records start upper name addend =
    noted start (event.Reloc upper (ToName name) addend) ++ noted (start + 4) (event.Reloc RiscvPCRelLo12I (ToPlace start) (pos 0))

-- what an instruction records whose description gives its code: nothing; a trap, so many bytes after its start; the distance to the slot of
-- a symbol, or to a symbol plus an offset, in two parts at its start; or the address of a symbol plus an offset, in its last eight bytes
pub data Recorded : Type 0 where
  Nothing : Recorded
  TrapAfter : ℕ → TrapCode → Recorded
  SlotInParts : ExternalName → Recorded
  AddressInParts : ExternalName → ℤ → Recorded
  AddressLast : ExternalName → ℤ → Recorded

-- by the offsets where its bytes begin and end
abbrev pub recorded : Recorded → ℕ → ℕ → List MachRecord
recorded Nothing start end = []
recorded (TrapAfter bytes code) start end = noted (start + bytes) (event.Trap code)
recorded (SlotInParts name) start end = part_records start RiscvGotHi20 name (pos 0)
recorded (AddressInParts name addend) start end = part_records start RiscvPCRelHi20 name addend
recorded (AddressLast name addend) start end = noted (end - 8) (event.Reloc Abs8 (ToName name) addend)

-- a call that may be patched, where it is one, of so many bytes, which end at an offset
abbrev pub patch_records : Bool → ℕ → ℕ → List MachRecord
patch_records false end size = []
patch_records true end size = noted end (event.PatchableCallSite size)

-- the values on the stack, where a call that returns to an offset has a map of them; it tells of the frame up to its pointer
abbrev pub map_records : FrameLayout → ℕ → Option UserStackMap → List MachRecord
map_records frame at None = []
map_records frame at (Some entries) = noted at (event.StackMap (sp_to_fp_of frame) entries)

-- a call site; of a call that ends its block, with its handlers
abbrev pub site_event : FrameLayout → Option TryCallInfo → Event
site_event frame None = event.CallSite
site_event frame (Some t) = event.TryCallSite (Some (sp_to_fp_of frame)) t.handlers

-- where a call returns
abbrev pub return_records : FrameLayout → ℕ → Option UserStackMap → Option TryCallInfo → List MachRecord
return_records frame at entries t = map_records frame at entries ++ noted at (site_event frame t)

-- a trap of a cause is reported at an offset
pub record IsTrapAt (traps : List MachTrap) (at : ℕ) (code : TrapCode) : Type 0 where
  pub index : ℕ
  pub there : slice_get traps index ≡ Some (record { offset = at; code = code })

-- an event is recorded at an offset
pub record IsRecorded (records : List MachRecord) (at : ℕ) (event : Event) : Type 0 where
  pub index : ℕ
  pub there : slice_get records index ≡ Some (record { offset = at; event = event })
