-- What the words of an instruction ask of its registers, labels and numbers.
use Rattle.std.specs.Prelude.{◌^◌, ◌≡◌, ◌<◌, ◌≤◌, true, List, [], ◌∷◌, length, Option, Some, None, IsSome, unwrap_or}
use Rattle.std.specs.List.{AllByRecursion}
use Rattle.rv_base.specs.declared.amode.AMode.{AMode}
use Rattle.rv_base.specs.declared.call.CallRetPair.{CallRetPair}
use Rattle.rv_base.specs.declared.call.RetLocation.{RetLocation}
use Rattle.rv_base.specs.declared.call.RetLocation.TheVariants.{Reg as InReg, Stack as OnStack}
use Rattle.rv_base.specs.declared.call.TryCallInfo.{TryCallInfo}
use Rattle.rv_base.specs.declared.constant.Constant.{Constant}
use Rattle.rv_base.specs.declared.flags.IsaFlags.{IsaFlags}
use Rattle.rv_base.specs.declared.frame.FrameLayout.{FrameLayout}
use Rattle.rv_base.specs.declared.amode.AMode.TheVariants.{RegOffset, SPOffset, FPOffset, SlotOffset, IncomingArg, Const, Label as ToLabel}
use Rattle.rv_base.specs.AMode.{IsNear}
use Rattle.rv_base.specs.declared.ir_type.IrType.{IrType}
use Rattle.rv_base.specs.declared.regs.Reg.{Reg}
use Rattle.rv_base.specs.Regs.{class_of, number_of}
use Rattle.rv_base.specs.declared.regs.Writable.{Writable}
use Rattle.rv_base.specs.declared.value_regs.ValueRegs.{ValueRegs}
use Rattle.rv_base.specs.ValueRegs.{count_of}
use Rattle.rv_base.specs.declared.label.MachLabel.{MachLabel}
use Rattle.mach_labels.specs.Table.{first_inner}
use Rattle.rv_ops.specs.declared.compare.IntegerCompare.{IntegerCompare}
use Rattle.rv_encode.specs.Registers.{IsIntRegister, IsRealRegister}
use Rattle.rv_inst.specs.Context.{context_by}
use Rattle.rv_inst.specs.declared.inst.Inst.{Inst}
use Rattle.rv_inst.specs.AtomicLoops.{loop_inputs}
use Rattle.rv_inst.specs.declared.atomic_loop.AtomicLoop.{AtomicLoop}
use Rattle.rv_inst.specs.Fields.{IsNoneOf}
use Rattle.rv_inst.specs.declared.sequence.Sequence.{Sequence}
use Rattle.rv_inst.specs.Generators.{canonical_type}
use Rattle.rv_inst.specs.Operands.{all_of, written_in}
use Rattle.rv_inst.specs.Returns.{result_load}
use Rattle.rv_inst.specs.Rules.{inst_rule, is_int_type, is_movable}
use Rattle.rv_inst.specs.declared.inst.CondBrTarget.{CondBrTarget}
use Rattle.rv_inst.specs.declared.inst.CondBrTarget.TheVariants.{Label, Fallthrough}

-- an integer register below x30
abbrev pub IsUsable : Reg → Type 0
IsUsable r = IsIntRegister r × (number_of r < 30)

abbrev pub AreUsable : List Reg → Type 0
AreUsable rs = AllByRecursion IsUsable rs

-- a label of a listing
abbrev pub IsListed : MachLabel → Type 0
IsListed label = label.number < first_inner

abbrev pub AreListed : List MachLabel → Type 0
AreListed [] = Unit {0}
AreListed (l ∷ labels) = IsListed l × AreListed labels

abbrev pub IsFineTarget : CondBrTarget → Type 0
IsFineTarget (Label label) = IsListed label
IsFineTarget Fallthrough = Unit {0}

-- a call goes on to a label of a listing
abbrev pub IsFineTry : Option TryCallInfo → Type 0
IsFineTry None = Unit {0}
IsFineTry (Some t) = IsListed t.continuation

-- a result on the stack is loaded, by its type, into a register of the machine, from at most 2^30 bytes above the stack pointer
abbrev pub IsFineResult : Reg → RetLocation → Type 0
IsFineResult r (InReg s) = Unit {0}
IsFineResult r (OnStack offset type) = IsRealRegister r × IsSome (result_load type) × offset ≤ 2 ^ 30

abbrev pub AreFineResults : List CallRetPair → Type 0
AreFineResults [] = Unit {0}
AreFineResults (d ∷ defs) = IsFineResult d.vreg.reg d.location × AreFineResults defs

abbrev pub IsFineBranch : IntegerCompare → CondBrTarget → CondBrTarget → Type 0
IsFineBranch kind taken not_taken = IsIntRegister kind.rs1 × IsIntRegister kind.rs2 × IsFineTarget taken × IsFineTarget not_taken

-- an integer register below x30, an offset whose sums with a frame's sizes stay within 64 bits, one of these constants, a label
-- of a listing
abbrev pub IsFineAddress : List Constant → AMode → Type 0
IsFineAddress constants (RegOffset r o) = IsUsable r × IsNear o
IsFineAddress constants (SPOffset o) = IsNear o
IsFineAddress constants (FPOffset o) = IsNear o
IsFineAddress constants (SlotOffset o) = IsNear o
IsFineAddress constants (IncomingArg o) = IsNear o
IsFineAddress constants (Const k) = k.number < length constants
IsFineAddress constants (ToLabel l) = IsListed l

-- one register that is moved to another of its class, as one of a type
pub record IsMove (rd rm : Reg) (type : IrType) : Type 0 where
  pub to : IsRealRegister rd
  pub from : IsRealRegister rm
  pub class : class_of rm ≡ class_of rd
  pub typed : is_movable (class_of rd) type ≡ true

-- whole registers, each to its own
abbrev pub AreMoves : List Reg → List Reg → Type 0
AreMoves [] sources = Unit {0}
AreMoves (rd ∷ rds) [] = Unit {0}
AreMoves (rd ∷ rds) (rs ∷ sources) = IsMove rd rs (canonical_type (class_of rd)) × AreMoves rds sources

-- values in as many registers, and a comparison of integer registers
pub record IsFineChoice (to : ValueRegs (Writable Reg)) (condition : IntegerCompare) (first second : ValueRegs Reg) : Type 0 where
  pub rs1 : IsIntRegister condition.rs1
  pub rs2 : IsIntRegister condition.rs2
  pub x : AreMoves (written_in to) (all_of first)
  pub y : AreMoves (written_in to) (all_of second)
  pub x_count : count_of to ≡ count_of first
  pub y_count : count_of to ≡ count_of second

-- integer registers, and an integer of at most 64 bits
pub record IsFineSequence (s : Sequence) : Type 0 where
  pub rs : IsIntRegister s.rs
  pub tmp1 : IsIntRegister s.tmp1.reg
  pub tmp2 : IsIntRegister s.tmp2.reg
  pub tmp3 : IsIntRegister (unwrap_or s.tmp3 s.tmp2).reg
  pub rd : IsIntRegister s.rd.reg
  pub typed : is_int_type s.ty ≡ true

-- integer registers below x30, of which the loop writes two others than x0 and than all that it reads; and an integer of at most 64 bits
pub record IsFineAtomicLoop (l : AtomicLoop) : Type 0 where
  pub inputs : AreUsable (loop_inputs l)
  pub t0 : IsUsable l.t0.reg
  pub dst : IsUsable l.dst.reg
  pub some_t0 : 0 < number_of l.t0.reg
  pub some_dst : 0 < number_of l.dst.reg
  pub t0_apart : IsNoneOf l.t0.reg (l.dst.reg ∷ loop_inputs l)
  pub dst_apart : IsNoneOf l.dst.reg (loop_inputs l)
  pub typed : is_int_type l.ty ≡ true

-- an instruction breaks no rule in some context of these constants
pub record KeepsRules (constants : List Constant) (inst : Inst) : Type 0 where
  pub flags : IsaFlags
  pub frame : FrameLayout
  pub rule : inst_rule (context_by flags frame constants) inst ≡ None
