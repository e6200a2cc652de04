-- Loads and stores of integer registers (chapter "RV32I Base Integer Instruction Set", "Load and Store Instructions", and
-- that of RV64I) and of floating-point registers (chapters "F" and "D", "Single-Precision" and "Double-Precision Load and Store
-- Instructions", and "Zfhmin"): their mnemonics, which registers and how many bytes they move, their opcode and their funct3.
use Rattle.std.specs.Prelude.{ℕ, Bool, is_some, if◌then◌else◌, Option, Some, None, List, codes}
use Rattle.rv_base.specs.declared.ir_type.IrType.{IrType}
use Rattle.rv_base.specs.declared.ir_type.IrType.TheVariants.{I8, I16, I32, I64, I128, F16, F32, F64, F128, Vector}
use Rattle.rv_base.specs.declared.regs.RegClass.{RegClass}
use Rattle.rv_base.specs.declared.regs.RegClass.TheVariants.{Int, Float}
use Rattle.rv_ops.specs.declared.memory.LoadOP.{LoadOP}
use Rattle.rv_ops.specs.declared.memory.LoadOP.TheVariants.{Lb, Lh, Lw, Lbu, Lhu, Lwu, Ld, Flh, Flw, Fld}
use Rattle.rv_ops.specs.declared.memory.StoreOP.{StoreOP}
use Rattle.rv_ops.specs.declared.memory.StoreOP.TheVariants.{Sb, Sh, Sw, Sd, Fsh, Fsw, Fsd}
use Rattle.rv_machine.specs.declared.ops.FloatFormat.{FloatFormat}
use Rattle.rv_machine.specs.declared.ops.FloatFormat.TheVariants.{H, S, D}
use Rattle.rv_machine.specs.declared.ops.StoreOp.{StoreOp}
use Rattle.rv_machine.specs.declared.ops.StoreOp.TheVariants as store
use Rattle.rv_machine.specs.Memory.{store_width}
use Rattle.rv_machine.specs.Opcodes.{LOAD, LOAD_FP, STORE, STORE_FP}

-- the load of an integer type, signed where it is narrower than a register, or of half, single or double precision, and the store; none
-- for other types
abbrev pub load_of : IrType → Option LoadOP
load_of I8 = Some Lb
load_of I16 = Some Lh
load_of I32 = Some Lw
load_of I64 = Some Ld
load_of I128 = None
load_of F16 = Some Flh
load_of F32 = Some Flw
load_of F64 = Some Fld
load_of F128 = None
load_of (Vector v) = None

abbrev pub store_of : IrType → Option StoreOP
store_of I8 = Some Sb
store_of I16 = Some Sh
store_of I32 = Some Sw
store_of I64 = Some Sd
store_of I128 = None
store_of F16 = Some Fsh
store_of F32 = Some Fsw
store_of F64 = Some Fsd
store_of F128 = None
store_of (Vector v) = None

-- ---- loads

-- the format of the number that a load of a floating-point register reads
abbrev pub load_format : LoadOP → Option FloatFormat
load_format Lb = None
load_format Lh = None
load_format Lw = None
load_format Ld = None
load_format Lbu = None
load_format Lhu = None
load_format Lwu = None
load_format Flh = Some H
load_format Flw = Some S
load_format Fld = Some D

abbrev pub is_float_load : LoadOP → Bool
is_float_load op = is_some (load_format op)

-- the file of the register that is loaded
abbrev pub load_class : LoadOP → RegClass
load_class op = if is_float_load op then Float else Int

abbrev pub load_opcode : LoadOP → ℕ
load_opcode op = if is_float_load op then LOAD_FP else LOAD

abbrev pub load_funct3 : LoadOP → ℕ
load_funct3 Lb = 0
load_funct3 Lh = 1
load_funct3 Lw = 2
load_funct3 Ld = 3
load_funct3 Lbu = 4
load_funct3 Lhu = 5
load_funct3 Lwu = 6
load_funct3 Flh = 1
load_funct3 Flw = 2
load_funct3 Fld = 3

abbrev pub load_size : LoadOP → ℕ
load_size Lb = 1
load_size Lh = 2
load_size Lw = 4
load_size Ld = 8
load_size Lbu = 1
load_size Lhu = 2
load_size Lwu = 4
load_size Flh = 2
load_size Flw = 4
load_size Fld = 8

abbrev pub load_name : LoadOP → List ℕ
load_name Lb = codes "lb"
load_name Lh = codes "lh"
load_name Lw = codes "lw"
load_name Ld = codes "ld"
load_name Lbu = codes "lbu"
load_name Lhu = codes "lhu"
load_name Lwu = codes "lwu"
load_name Flh = codes "flh"
load_name Flw = codes "flw"
load_name Fld = codes "fld"

-- ---- stores

-- the format of the number that a store of a floating-point register writes
abbrev pub store_format : StoreOP → Option FloatFormat
store_format Sb = None
store_format Sh = None
store_format Sw = None
store_format Sd = None
store_format Fsh = Some H
store_format Fsw = Some S
store_format Fsd = Some D

abbrev pub is_float_store : StoreOP → Bool
is_float_store op = is_some (store_format op)

-- the file of the register that is stored
abbrev pub store_class : StoreOP → RegClass
store_class op = if is_float_store op then Float else Int

abbrev pub store_opcode : StoreOP → ℕ
store_opcode op = if is_float_store op then STORE_FP else STORE

-- the machine's store of an integer register to the same bytes, which of an integer register is itself
abbrev pub store_op : StoreOP → StoreOp
store_op Sb = store.Sb
store_op Sh = store.Sh
store_op Sw = store.Sw
store_op Sd = store.Sd
store_op Fsh = store.Sh
store_op Fsw = store.Sw
store_op Fsd = store.Sd

abbrev pub store_funct3 : StoreOP → ℕ
store_funct3 Sb = 0
store_funct3 Sh = 1
store_funct3 Sw = 2
store_funct3 Sd = 3
store_funct3 Fsh = 1
store_funct3 Fsw = 2
store_funct3 Fsd = 3

-- how many bytes are written
abbrev pub store_size : StoreOP → ℕ
store_size op = store_width (store_op op)

abbrev pub store_name : StoreOP → List ℕ
store_name Sb = codes "sb"
store_name Sh = codes "sh"
store_name Sw = codes "sw"
store_name Sd = codes "sd"
store_name Fsh = codes "fsh"
store_name Fsw = codes "fsw"
store_name Fsd = codes "fsd"
