-- For callers: the numbers of what is recorded are those of their types.
use Rattle.std.specs.Prelude.{ℕ, Option, Some, None, ◌<◌, ◌^◌, pos, negsuc, ◌-◌, ◌≤ℤ◌}
use Rattle.std.specs.List.{AllByRecursion}
use Rattle.rv_base.specs.declared.ir_type.IrType.{IrType}
use Rattle.rv_base.specs.declared.unwind.UnwindInst.{UnwindInst}
use Rattle.rv_base.specs.declared.unwind.UnwindInst.TheVariants.{PushFrameRegs, DefineNewFrame, StackAlloc, SaveReg}
use Rattle.mach_records.specs.declared.records.FinalizedRelocTarget.{FinalizedRelocTarget}
use Rattle.mach_records.specs.declared.records.FinalizedRelocTarget.TheVariants.{ExternalName, Func}
use Rattle.mach_records.specs.declared.records.MachReloc.{MachReloc}
use Rattle.mach_records.specs.declared.records.MachTrap.{MachTrap}
use Rattle.mach_records.specs.declared.records.MachPatchable.{MachPatchable}
use Rattle.mach_records.specs.declared.records.MachUnwind.{MachUnwind}
use Rattle.mach_records.specs.declared.records.FinalizedMachExceptionHandler.{FinalizedMachExceptionHandler}
use Rattle.mach_records.specs.declared.records.FinalizedMachExceptionHandler.TheVariants.{Tag, Default}
use Rattle.mach_records.specs.declared.records.MachTryCallSite.{MachTryCallSite}
use Rattle.mach_records.specs.declared.records.MachStackMap.{MachStackMap}
use Rattle.mach_records.specs.declared.records.Recorded.{Recorded}

abbrev pub TargetFits : FinalizedRelocTarget → Type 0
TargetFits (ExternalName name) = name.number < 2 ^ 32
TargetFits (Func offset) = offset < 2 ^ 32

pub record RelocFits (r : MachReloc) : Type 0 where
  pub offset : r.offset < 2 ^ 32
  pub target : TargetFits r.target
  pub low : negsuc (2 ^ 63 - 1) ≤ℤ r.addend
  pub high : r.addend ≤ℤ pos (2 ^ 63 - 1)

-- a cause has its range in its type
pub record TrapFits (t : MachTrap) : Type 0 where
  pub offset : t.offset < 2 ^ 32

-- an offset
abbrev pub CallFits : ℕ → Type 0
CallFits offset = offset < 2 ^ 32

abbrev pub FrameFits : Option ℕ → Type 0
FrameFits None = Unit {0}
FrameFits (Some offset) = offset < 2 ^ 32

abbrev pub HandlerFits : FinalizedMachExceptionHandler → Type 0
HandlerFits (Tag tag offset) = (tag < 2 ^ 32) × (offset < 2 ^ 32)
HandlerFits (Default offset) = offset < 2 ^ 32

pub record TryFits (t : MachTryCallSite) : Type 0 where
  pub offset : t.offset < 2 ^ 32
  pub frame : FrameFits t.frame_offset
  pub handlers : AllByRecursion HandlerFits t.handlers

-- a type has its range in itself
abbrev pub EntryFits : IrType × ℕ → Type 0
EntryFits e = e.1 < 2 ^ 32

pub record MapFits (m : MachStackMap) : Type 0 where
  pub offset : m.offset < 2 ^ 32
  pub span : m.span < 2 ^ 32
  pub entries : AllByRecursion EntryFits m.map.entries

pub record PatchFits (p : MachPatchable) : Type 0 where
  pub offset : p.offset < 2 ^ 32
  pub len : p.len < 2 ^ 32

-- a register, which may be virtual, is no number
abbrev pub StepRanged : UnwindInst → Type 0
StepRanged (PushFrameRegs to_caller) = to_caller < 2 ^ 32
StepRanged (DefineNewFrame to_caller to_saved) = (to_caller < 2 ^ 32) × (to_saved < 2 ^ 32)
StepRanged (StackAlloc size) = size < 2 ^ 32
StepRanged (SaveReg above reg) = above < 2 ^ 32

pub record UnwindRanged (u : MachUnwind) : Type 0 where
  pub offset : u.offset < 2 ^ 32
  pub step : StepRanged u.inst

pub record RecordedFits (r : Recorded) : Type 0 where
  pub relocs : AllByRecursion RelocFits r.relocs
  pub traps : AllByRecursion TrapFits r.traps
  pub call_sites : AllByRecursion CallFits r.call_sites
  pub try_call_sites : AllByRecursion TryFits r.try_call_sites
  pub patchable_call_sites : AllByRecursion PatchFits r.patchable_call_sites
  pub stack_maps : AllByRecursion MapFits r.stack_maps
  pub unwinds : AllByRecursion UnwindRanged r.unwinds
