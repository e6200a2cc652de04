-- An operand of an instruction: a register that is chosen for it, the class that its place asks, and how the instruction uses it.
use Rattle.std.specs.Prelude.{Option, Some, None}
use Rattle.rv_base.specs.declared.regs.Reg.{Reg}
use Rattle.rv_base.specs.declared.regs.RegClass.{RegClass}
use Rattle.rv_base.specs.declared.regs.RegClass.TheVariants.{Int}
use Rattle.rv_base.specs.declared.regs.Writable.{Writable}
use Rattle.rv_base.specs.declared.constraint.Constraint.{Constraint}
use Rattle.rv_base.specs.declared.constraint.Constraint.TheVariants.{RegUse, RegLateUse, RegFixedUse, RegDef, RegEarlyDef, RegFixedDef, AnyDef}
use Rattle.rv_inst.specs.declared.units.PlacedReg.{PlacedReg}

-- read as the instruction begins, or until it ends, or read in this register; written as it ends, or before all others are read; written
-- so, and of no use after it, as a temporary is; written in this register; or written to a register or to memory
pub data Access : Type 0 where
  Reads : Access
  ReadsLate : Access
  ReadsIn : Reg → Access
  Writes : Access
  WritesEarly : Access
  Scratches : Access
  WritesIn : Reg → Access
  WritesAnywhere : Access

-- a class only where the place asks one
pub record Operand : Type 0 where
  pub register : Reg
  pub class : Option RegClass
  pub access : Access

abbrev pub of_any : Reg → Access → Operand
of_any r access = record { register = r; class = None; access = access }

-- ---- operands that are integers, as most are

abbrev pub of_int : Reg → Access → Operand
of_int r access = record { register = r; class = Some Int; access = access }

abbrev pub reads : Reg → Operand
reads r = of_int r Reads

abbrev pub reads_late : Reg → Operand
reads_late r = of_int r ReadsLate

abbrev pub writes : Writable Reg → Operand
writes w = of_int w.reg Writes

abbrev pub writes_early : Writable Reg → Operand
writes_early w = of_int w.reg WritesEarly

abbrev pub scratches : Writable Reg → Operand
scratches w = of_int w.reg Scratches

-- ---- operands of the class that their place asks

abbrev pub at_place : Access → PlacedReg → Operand
at_place access place = record { register = place.reg; class = Some place.class; access = access }

abbrev pub reads_at : PlacedReg → Operand
reads_at place = at_place Reads place

abbrev pub writes_at : PlacedReg → Operand
writes_at place = at_place Writes place

-- ---- what is asked of a register allocator

abbrev pub asks : Access → Reg → Constraint
asks Reads r = RegUse r
asks ReadsLate r = RegLateUse r
asks (ReadsIn fixed) r = RegFixedUse r fixed
asks Writes r = RegDef (record { reg = r })
asks WritesEarly r = RegEarlyDef (record { reg = r })
asks Scratches r = RegEarlyDef (record { reg = r })
asks (WritesIn fixed) r = RegFixedDef (record { reg = r }) fixed
asks WritesAnywhere r = AnyDef (record { reg = r })

abbrev pub constraint_of : Operand → Constraint
constraint_of o = asks o.access o.register
