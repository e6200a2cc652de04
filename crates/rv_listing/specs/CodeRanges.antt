-- The numbers of a code are those of their types.
use Rattle.std.specs.Prelude.{◌<◌, ◌^◌}
use Rattle.std.specs.List.{AllByRecursion}
use Rattle.rv_inst.specs.declared.code.LineSpan.{LineSpan}
use Rattle.rv_inst.specs.declared.code.CallReturn.{CallReturn}
use Rattle.mach_uses.specs.declared.uses.LabelPlace.{LabelPlace}
use Rattle.mach_records.specs.declared.records.ConstPlace.{ConstPlace}
use Rattle.mach_records.specs.declared.records.MachUnwind.{MachUnwind}
use Rattle.rv_base.specs.declared.regs.Reg.{Reg}
use Rattle.rv_base.specs.declared.regs.Reg.TheVariants.{Real, Virtual}
use Rattle.rv_base.specs.declared.unwind.UnwindInst.{UnwindInst}
use Rattle.rv_base.specs.declared.unwind.UnwindInst.TheVariants.{PushFrameRegs, DefineNewFrame, StackAlloc, SaveReg}
use Rattle.rv_inst.specs.declared.code.Code.{Code}
pub use Rattle.mach_records.specs.Ranges.{TargetFits, RelocFits, TrapFits, CallFits, FrameFits, HandlerFits, TryFits, EntryFits, MapFits, PatchFits}

pub record SpanFits (l : LineSpan) : Type 0 where
  pub index : l.index < 2 ^ 64
  pub start : l.start < 2 ^ 32
  pub «end» : l.end < 2 ^ 32

pub record ReturnFits (r : CallReturn) : Type 0 where
  pub index : r.index < 2 ^ 64
  pub offset : r.offset < 2 ^ 32

pub record LabelFits (l : LabelPlace) : Type 0 where
  pub label : l.label.number < 2 ^ 32
  pub offset : l.offset < 2 ^ 32

pub record ConstFits (c : ConstPlace) : Type 0 where
  pub constant : c.constant.number < 2 ^ 32
  pub offset : c.offset < 2 ^ 32

-- A register of the machine, which has its range in its type. Virtual ones of two classes may have one name.
abbrev pub IsOfMachine : Reg → Type 0
IsOfMachine (Real p) = Unit {0}
IsOfMachine (Virtual class index) = ⊥

abbrev pub StepFits : UnwindInst → Type 0
StepFits (PushFrameRegs to_caller) = to_caller < 2 ^ 32
StepFits (DefineNewFrame to_caller to_saved) = (to_caller < 2 ^ 32) × (to_saved < 2 ^ 32)
StepFits (StackAlloc size) = size < 2 ^ 32
StepFits (SaveReg above reg) = (above < 2 ^ 32) × IsOfMachine reg

pub record UnwindFits (u : MachUnwind) : Type 0 where
  pub offset : u.offset < 2 ^ 32
  pub step : StepFits u.inst

pub record CodeFits (c : Code) : Type 0 where
  pub bytes : AllByRecursion (λ b. b < 256) c.bytes
  pub lines : AllByRecursion SpanFits c.lines
  pub returns : AllByRecursion ReturnFits c.returns
  pub labels : AllByRecursion LabelFits c.labels
  pub constants : AllByRecursion ConstFits c.constants
  pub relocs : AllByRecursion RelocFits c.relocs
  pub traps : AllByRecursion TrapFits c.traps
  pub call_sites : AllByRecursion CallFits c.call_sites
  pub try_call_sites : AllByRecursion TryFits c.try_call_sites
  pub patchable_call_sites : AllByRecursion PatchFits c.patchable_call_sites
  pub stack_maps : AllByRecursion MapFits c.stack_maps
  pub unwinds : AllByRecursion UnwindFits c.unwinds
  pub «end» : c.end < 2 ^ 32
