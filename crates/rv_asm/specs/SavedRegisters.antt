-- The registers that steps in the making of a frame save are the machine's: a link of the proof.
use Rattle.rv_base.specs.declared.unwind.UnwindInst.{UnwindInst}
use Rattle.rv_base.specs.declared.unwind.UnwindInst.TheVariants.{PushFrameRegs, DefineNewFrame, StackAlloc, SaveReg}
use Rattle.mach_records.specs.declared.records.MachUnwind.{MachUnwind}
use Rattle.rv_listing.specs.CodeRanges.{IsOfMachine}

abbrev pub StepSaves : UnwindInst → Type 0
StepSaves (PushFrameRegs to_caller) = Unit {0}
StepSaves (DefineNewFrame to_caller to_saved) = Unit {0}
StepSaves (StackAlloc size) = Unit {0}
StepSaves (SaveReg above reg) = IsOfMachine reg

abbrev pub SavesReal : MachUnwind → Type 0
SavesReal u = StepSaves u.inst
