-- Registers that meet what an instruction asks of a register allocator, and the rules on registers that they then keep.
use Rattle.std.specs.Prelude.{◌≡◌, ◌≢◌, false, List, [], ◌∷◌, take, drop, map, Option, Some, None}
use Rattle.std.specs.List.{flat_map, list_any}
use Rattle.rv_base.specs.declared.constraint.Constraint.{Constraint}
use Rattle.rv_base.specs.declared.constraint.Constraint.TheVariants.{RegUse, RegLateUse, RegFixedUse, RegFixedLateUse, RegDef, RegEarlyDef, RegFixedDef, RegReuseDef, AnyDef, RegClobbers}
use Rattle.rv_base.specs.declared.regs.Reg.{Reg}
use Rattle.rv_base.specs.declared.regs.RegClass.{RegClass}
use Rattle.rv_base.specs.Operands.{registers_of}
use Rattle.rv_base.specs.Regs.{class_of}
use Rattle.rv_inst.specs.declared.inst.Inst.{Inst}
use Rattle.rv_inst.specs.Operands.{inst_registers}
use Rattle.rv_inst.specs.Faults.{is_misplaced, has_zero, has_clash}
use Rattle.rv_inst.specs.Rules.{is_virtual, is_zero, is_stack, is_real_x, is_reserved}
use Rattle.rv_operands.specs.Operand.{Access, Reads, ReadsLate, ReadsIn, Writes, WritesEarly, Scratches, WritesIn, WritesAnywhere, Operand}
use Rattle.rv_operands.specs.Operands.{row_of, operands_of, constraints_of}

-- ---- the registers of requests, by what is asked of them

-- the register that is written
abbrev pub written_by : Constraint → List Reg
written_by (RegUse r) = []
written_by (RegLateUse r) = []
written_by (RegFixedUse r fixed) = []
written_by (RegFixedLateUse r fixed) = []
written_by (RegDef w) = w.reg ∷ []
written_by (RegEarlyDef w) = w.reg ∷ []
written_by (RegFixedDef w fixed) = w.reg ∷ []
written_by (RegReuseDef w index) = w.reg ∷ []
written_by (AnyDef w) = w.reg ∷ []
written_by (RegClobbers set) = []

-- the register that is written early
abbrev pub written_early_by : Constraint → List Reg
written_early_by (RegUse r) = []
written_early_by (RegLateUse r) = []
written_early_by (RegFixedUse r fixed) = []
written_early_by (RegFixedLateUse r fixed) = []
written_early_by (RegDef w) = []
written_early_by (RegEarlyDef w) = w.reg ∷ []
written_early_by (RegFixedDef w fixed) = []
written_early_by (RegReuseDef w index) = []
written_early_by (AnyDef w) = []
written_early_by (RegClobbers set) = []

-- the register that is read
abbrev pub read_by : Constraint → List Reg
read_by (RegUse r) = r ∷ []
read_by (RegLateUse r) = r ∷ []
read_by (RegFixedUse r fixed) = r ∷ []
read_by (RegFixedLateUse r fixed) = r ∷ []
read_by (RegDef w) = []
read_by (RegEarlyDef w) = []
read_by (RegFixedDef w fixed) = []
read_by (RegReuseDef w index) = []
read_by (AnyDef w) = []
read_by (RegClobbers set) = []

-- the register that is read until the instruction ends
abbrev pub read_late_by : Constraint → List Reg
read_late_by (RegUse r) = []
read_late_by (RegLateUse r) = r ∷ []
read_late_by (RegFixedUse r fixed) = []
read_late_by (RegFixedLateUse r fixed) = r ∷ []
read_late_by (RegDef w) = []
read_late_by (RegEarlyDef w) = []
read_late_by (RegFixedDef w fixed) = []
read_late_by (RegReuseDef w index) = []
read_late_by (AnyDef w) = []
read_late_by (RegClobbers set) = []

abbrev pub definitions : List Constraint → List Reg
definitions requests = flat_map written_by requests

abbrev pub early_definitions : List Constraint → List Reg
early_definitions requests = flat_map written_early_by requests

abbrev pub uses : List Constraint → List Reg
uses requests = flat_map read_by requests

abbrev pub late_uses : List Constraint → List Reg
late_uses requests = flat_map read_late_by requests

-- ---- registers that meet them

-- a register is none of these
abbrev pub IsApart : Reg → List Reg → Type 0
IsApart r [] = Unit {0}
IsApart r (s ∷ rs) = (r ≢ s) × IsApart r rs

abbrev pub AreApart : List Reg → List Reg → Type 0
AreApart [] others = Unit {0}
AreApart (r ∷ rs) others = IsApart r others × AreApart rs others

-- no two of them are the same
abbrev pub AreDistinct : List Reg → Type 0
AreDistinct [] = Unit {0}
AreDistinct (r ∷ rs) = IsApart r rs × AreDistinct rs

-- a fixed register is the one that it has to be, and one that is reused is that of the request of its index
abbrev pub IsPlaced : List Constraint → Constraint → Type 0
IsPlaced all (RegUse r) = Unit {0}
IsPlaced all (RegLateUse r) = Unit {0}
IsPlaced all (RegFixedUse r fixed) = r ≡ fixed
IsPlaced all (RegFixedLateUse r fixed) = r ≡ fixed
IsPlaced all (RegDef w) = Unit {0}
IsPlaced all (RegEarlyDef w) = Unit {0}
IsPlaced all (RegFixedDef w fixed) = w.reg ≡ fixed
IsPlaced all (RegReuseDef w index) = registers_of (take 1 (drop index all)) ≡ w.reg ∷ []
IsPlaced all (AnyDef w) = Unit {0}
IsPlaced all (RegClobbers set) = Unit {0}

abbrev pub ArePlaced : List Constraint → List Constraint → Type 0
ArePlaced all [] = Unit {0}
ArePlaced all (request ∷ requests) = IsPlaced all request × ArePlaced all requests

-- Each is where it has to be; no two are written into one register; none is written early into one that is read, nor at all into one that
-- is read until the end.
pub record AreMet (requests : List Constraint) : Type 0 where
  pub placed : ArePlaced requests requests
  pub distinct : AreDistinct (definitions requests)
  pub early : AreApart (early_definitions requests) (uses requests)
  pub late : AreApart (definitions requests) (late_uses requests)

-- ---- registers that an allocator may choose

-- one of the machine's, and neither x30 nor x31
pub record IsUsable (r : Reg) : Type 0 where
  pub real : is_virtual r ≡ false
  pub not_reserved : is_reserved r ≡ false

abbrev pub AreUsable : List Reg → Type 0
AreUsable [] = Unit {0}
AreUsable (r ∷ rs) = IsUsable r × AreUsable rs

-- neither x0, nor the stack or the frame pointer
pub record IsFree (r : Reg) : Type 0 where
  pub not_zero : is_zero r ≡ false
  pub not_stack : is_stack r ≡ false
  pub not_frame : is_real_x 8 r ≡ false

abbrev pub AreFree : List Reg → Type 0
AreFree [] = Unit {0}
AreFree (r ∷ rs) = IsFree r × AreFree rs

-- of the class that its place asks
abbrev pub IsOfClass : Option RegClass → Reg → Type 0
IsOfClass None r = Unit {0}
IsOfClass (Some class) r = class_of r ≡ class

abbrev pub AreOfClasses : List Operand → Type 0
AreOfClasses [] = Unit {0}
AreOfClasses (o ∷ operands) = IsOfClass o.class o.register × AreOfClasses operands

-- the registers of operands
abbrev pub chosen : List Operand → List Reg
chosen operands = map (λ (o : Operand). o.register) operands

-- the registers of an instruction that are chosen, and those of its own
pub record HasUsable (inst : Inst) : Type 0 where
  pub operands : AreUsable (chosen (operands_of inst))
  pub own : AreUsable (chosen (row_of inst).own)

pub record HasClasses (inst : Inst) : Type 0 where
  pub operands : AreOfClasses (operands_of inst)
  pub own : AreOfClasses (row_of inst).own

-- what is written, and temporaries of its own
pub record HasFree (inst : Inst) : Type 0 where
  pub written : AreFree (definitions (constraints_of inst))
  pub own : AreFree (chosen (row_of inst).own)

-- ---- the rules that they keep

-- Of the five rules on registers, an instruction whose registers meet what it asks breaks only what no choice of registers mends: those on
-- virtual and on reserved registers where they are usable, that on classes where each has its place's, and those on x0 and on clashes where
-- what it writes is free.
pub record KeepsRules (inst : Inst) : Type 0 where
  pub virtual : HasUsable inst → list_any is_virtual (inst_registers inst) ≡ list_any is_virtual (row_of inst).named
  pub class : HasClasses inst → is_misplaced inst ≡ (row_of inst).misnamed
  pub reserved : HasUsable inst → list_any is_reserved (inst_registers inst) ≡ list_any is_reserved (row_of inst).named
  pub zero : HasFree inst → has_zero inst ≡ false
  pub clash : HasFree inst → has_clash inst ≡ (row_of inst).uneven

-- ---- temporaries

-- the register of an operand that is a temporary
abbrev pub scratched_by : Access → Reg → List Reg
scratched_by Reads r = []
scratched_by ReadsLate r = []
scratched_by (ReadsIn fixed) r = []
scratched_by Writes r = []
scratched_by WritesEarly r = []
scratched_by Scratches r = r ∷ []
scratched_by (WritesIn fixed) r = []
scratched_by WritesAnywhere r = []

abbrev pub scratched_in : List Operand → List Reg
scratched_in operands = flat_map (λ (o : Operand). scratched_by o.access o.register) operands
