-- In which form an assembler writes the operands of an instruction.
use Rattle.rv_machine.specs.declared.ops.MOp.{MOp}
use Rattle.rv_machine.specs.declared.ops.MOp.TheVariants.{Base, Load, Store, Alu, Carry, Atomic, Csr, FloatLoad, FloatStore, Float, VecMem, Vec}
use Rattle.rv_machine.specs.declared.ops.BaseOp.{BaseOp}
use Rattle.rv_machine.specs.declared.ops.BaseOp.TheVariants as base
use Rattle.rv_disasm.specs.declared.layouts.Field.TheVariants.{Rd, Rs2}
use Rattle.rv_disasm.specs.declared.layouts.File.TheVariants.{X, F}
use Rattle.rv_trace.specs.declared.operands.Operands.{Operands}
use Rattle.rv_trace.specs.declared.operands.Operands.TheVariants.{Fields, Upper, Based, Sets}

abbrev pub base_operands : BaseOp → Operands
base_operands base.Lui = Upper
base_operands base.Auipc = Upper
base_operands base.Jal = Fields
base_operands base.Jalr = Based (Rd X)
base_operands base.Beq = Fields
base_operands base.Bne = Fields
base_operands base.Blt = Fields
base_operands base.Bge = Fields
base_operands base.Bltu = Fields
base_operands base.Bgeu = Fields
base_operands base.Fence = Sets
base_operands base.Ebreak = Fields

-- a load and a store have their address in parentheses, as jalr has; all that isn't named here has its fields in the order of the manual's
-- listings
abbrev pub operands_of : MOp → Operands
operands_of (Base op) = base_operands op
operands_of (Load op) = Based (Rd X)
operands_of (Store op) = Based (Rs2 X)
operands_of (Alu op) = Fields
operands_of (Carry op) = Fields
operands_of (Atomic op width) = Fields
operands_of (Csr op) = Fields
operands_of (FloatLoad format) = Based (Rd F)
operands_of (FloatStore format) = Based (Rs2 F)
operands_of (Float format op) = Fields
operands_of (VecMem op) = Fields
operands_of (Vec funct6 funct3) = Fields
