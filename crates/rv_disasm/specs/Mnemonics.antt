-- The mnemonics of the manual's instructions of 32 bits, in its order.
use Rattle.std.specs.Prelude.{ℕ, List, ◌++◌, codes}
use Rattle.rv_machine.specs.declared.ops.MOp.{MOp}
use Rattle.rv_machine.specs.declared.ops.MOp.TheVariants.{Base, Load, Store, Alu, Carry, Atomic, Csr, FloatLoad, FloatStore, Float, VecMem, Vec}
use Rattle.rv_machine.specs.declared.ops.AluOp.{AluOp}
use Rattle.rv_machine.specs.declared.ops.AluOp.TheVariants.{Int, Mul, Bit}
use Rattle.rv_machine.specs.declared.ops.BaseOp.{BaseOp}
use Rattle.rv_machine.specs.declared.ops.BaseOp.TheVariants as base
use Rattle.rv_machine.specs.declared.ops.LoadOp.{LoadOp}
use Rattle.rv_machine.specs.declared.ops.LoadOp.TheVariants as load
use Rattle.rv_machine.specs.declared.ops.StoreOp.{StoreOp}
use Rattle.rv_machine.specs.declared.ops.StoreOp.TheVariants as store
use Rattle.rv_machine.specs.declared.ops.IntOp.{IntOp}
use Rattle.rv_machine.specs.declared.ops.IntOp.TheVariants as int
use Rattle.rv_machine.specs.declared.ops.MulOp.{MulOp}
use Rattle.rv_machine.specs.declared.ops.MulOp.TheVariants as mul
use Rattle.rv_machine.specs.declared.ops.BitOp.{BitOp}
use Rattle.rv_machine.specs.declared.ops.BitOp.TheVariants as bit
use Rattle.rv_machine.specs.declared.ops.CarryOp.{CarryOp}
use Rattle.rv_machine.specs.declared.ops.CarryOp.TheVariants as carry
use Rattle.rv_machine.specs.declared.ops.AtomicOp.{AtomicOp}
use Rattle.rv_machine.specs.declared.ops.AtomicOp.TheVariants as atomic
use Rattle.rv_machine.specs.declared.ops.AtomicWidth.{AtomicWidth}
use Rattle.rv_machine.specs.declared.ops.AtomicWidth.TheVariants as width
use Rattle.rv_machine.specs.declared.ops.CsrOp.{CsrOp}
use Rattle.rv_machine.specs.declared.ops.CsrOp.TheVariants as csr
use Rattle.rv_machine.specs.declared.ops.FloatFormat.{FloatFormat}
use Rattle.rv_machine.specs.declared.ops.FloatFormat.TheVariants as format
use Rattle.rv_machine.specs.declared.ops.FloatOp.{FloatOp}
use Rattle.rv_machine.specs.declared.ops.FloatOp.TheVariants as float
use Rattle.rv_machine.specs.declared.ops.VecMemOp.{VecMemOp}
use Rattle.rv_machine.specs.declared.ops.VecMemOp.TheVariants as vector

-- RV64I, but for what only computes, and its loads and stores
abbrev pub base_name : BaseOp → List ℕ
base_name base.Lui = codes "lui"
base_name base.Auipc = codes "auipc"
base_name base.Jal = codes "jal"
base_name base.Jalr = codes "jalr"
base_name base.Beq = codes "beq"
base_name base.Bne = codes "bne"
base_name base.Blt = codes "blt"
base_name base.Bge = codes "bge"
base_name base.Bltu = codes "bltu"
base_name base.Bgeu = codes "bgeu"
base_name base.Fence = codes "fence"
base_name base.Ebreak = codes "ebreak"

-- RV64I, loads and stores
abbrev pub load_name : LoadOp → List ℕ
load_name load.Lb = codes "lb"
load_name load.Lh = codes "lh"
load_name load.Lw = codes "lw"
load_name load.Lbu = codes "lbu"
load_name load.Lhu = codes "lhu"
load_name load.Lwu = codes "lwu"
load_name load.Ld = codes "ld"

abbrev pub store_name : StoreOp → List ℕ
store_name store.Sb = codes "sb"
store_name store.Sh = codes "sh"
store_name store.Sw = codes "sw"
store_name store.Sd = codes "sd"

-- RV64I and Zicond, what only computes
abbrev pub int_name : IntOp → List ℕ
int_name int.Addi = codes "addi"
int_name int.Slti = codes "slti"
int_name int.Sltiu = codes "sltiu"
int_name int.Xori = codes "xori"
int_name int.Ori = codes "ori"
int_name int.Andi = codes "andi"
int_name int.Slli = codes "slli"
int_name int.Srli = codes "srli"
int_name int.Srai = codes "srai"
int_name int.Add = codes "add"
int_name int.Sub = codes "sub"
int_name int.Sll = codes "sll"
int_name int.Slt = codes "slt"
int_name int.Sltu = codes "sltu"
int_name int.Xor = codes "xor"
int_name int.Srl = codes "srl"
int_name int.Sra = codes "sra"
int_name int.Or = codes "or"
int_name int.And = codes "and"
int_name int.Addiw = codes "addiw"
int_name int.Slliw = codes "slliw"
int_name int.Srliw = codes "srliw"
int_name int.Sraiw = codes "sraiw"
int_name int.Addw = codes "addw"
int_name int.Subw = codes "subw"
int_name int.Sllw = codes "sllw"
int_name int.Srlw = codes "srlw"
int_name int.Sraw = codes "sraw"
int_name int.CzeroEqz = codes "czero.eqz"
int_name int.CzeroNez = codes "czero.nez"

-- M
abbrev pub mul_name : MulOp → List ℕ
mul_name mul.Mul = codes "mul"
mul_name mul.Mulh = codes "mulh"
mul_name mul.Mulhsu = codes "mulhsu"
mul_name mul.Mulhu = codes "mulhu"
mul_name mul.Div = codes "div"
mul_name mul.Divu = codes "divu"
mul_name mul.Rem = codes "rem"
mul_name mul.Remu = codes "remu"
mul_name mul.Mulw = codes "mulw"
mul_name mul.Divw = codes "divw"
mul_name mul.Divuw = codes "divuw"
mul_name mul.Remw = codes "remw"
mul_name mul.Remuw = codes "remuw"

-- Zba, Zbb and Zbs
abbrev pub bit_name : BitOp → List ℕ
bit_name bit.AddUw = codes "add.uw"
bit_name bit.Sh1add = codes "sh1add"
bit_name bit.Sh1addUw = codes "sh1add.uw"
bit_name bit.Sh2add = codes "sh2add"
bit_name bit.Sh2addUw = codes "sh2add.uw"
bit_name bit.Sh3add = codes "sh3add"
bit_name bit.Sh3addUw = codes "sh3add.uw"
bit_name bit.SlliUw = codes "slli.uw"
bit_name bit.Andn = codes "andn"
bit_name bit.Orn = codes "orn"
bit_name bit.Xnor = codes "xnor"
bit_name bit.Clz = codes "clz"
bit_name bit.Clzw = codes "clzw"
bit_name bit.Ctz = codes "ctz"
bit_name bit.Ctzw = codes "ctzw"
bit_name bit.Cpop = codes "cpop"
bit_name bit.Cpopw = codes "cpopw"
bit_name bit.Max = codes "max"
bit_name bit.Maxu = codes "maxu"
bit_name bit.Min = codes "min"
bit_name bit.Minu = codes "minu"
bit_name bit.SextB = codes "sext.b"
bit_name bit.SextH = codes "sext.h"
bit_name bit.ZextH = codes "zext.h"
bit_name bit.Rol = codes "rol"
bit_name bit.Rolw = codes "rolw"
bit_name bit.Ror = codes "ror"
bit_name bit.Rori = codes "rori"
bit_name bit.Roriw = codes "roriw"
bit_name bit.Rorw = codes "rorw"
bit_name bit.OrcB = codes "orc.b"
bit_name bit.Rev8 = codes "rev8"
bit_name bit.Bclr = codes "bclr"
bit_name bit.Bclri = codes "bclri"
bit_name bit.Bext = codes "bext"
bit_name bit.Bexti = codes "bexti"
bit_name bit.Binv = codes "binv"
bit_name bit.Binvi = codes "binvi"
bit_name bit.Bset = codes "bset"
bit_name bit.Bseti = codes "bseti"

abbrev pub alu_name : AluOp → List ℕ
alu_name (Int op) = int_name op
alu_name (Mul op) = mul_name op
alu_name (Bit op) = bit_name op

-- Zbc and Zbkb
abbrev pub carry_name : CarryOp → List ℕ
carry_name carry.Clmul = codes "clmul"
carry_name carry.Clmulh = codes "clmulh"
carry_name carry.Clmulr = codes "clmulr"
carry_name carry.Pack = codes "pack"
carry_name carry.Packh = codes "packh"
carry_name carry.Packw = codes "packw"
carry_name carry.Brev8 = codes "brev8"

-- A, without the width
abbrev pub atomic_stem : AtomicOp → List ℕ
atomic_stem atomic.Lr = codes "lr."
atomic_stem atomic.Sc = codes "sc."
atomic_stem atomic.Amoswap = codes "amoswap."
atomic_stem atomic.Amoadd = codes "amoadd."
atomic_stem atomic.Amoxor = codes "amoxor."
atomic_stem atomic.Amoand = codes "amoand."
atomic_stem atomic.Amoor = codes "amoor."
atomic_stem atomic.Amomin = codes "amomin."
atomic_stem atomic.Amomax = codes "amomax."
atomic_stem atomic.Amominu = codes "amominu."
atomic_stem atomic.Amomaxu = codes "amomaxu."

abbrev pub width_letter : AtomicWidth → List ℕ
width_letter width.W = codes "w"
width_letter width.D = codes "d"

abbrev pub atomic_name : AtomicOp → AtomicWidth → List ℕ
atomic_name op width = atomic_stem op ++ width_letter width

-- Zicsr
abbrev pub csr_name : CsrOp → List ℕ
csr_name csr.Csrrw = codes "csrrw"
csr_name csr.Csrrs = codes "csrrs"
csr_name csr.Csrrc = codes "csrrc"
csr_name csr.Csrrwi = codes "csrrwi"
csr_name csr.Csrrsi = codes "csrrsi"
csr_name csr.Csrrci = codes "csrrci"

-- F, D and Zfh: a number's format
abbrev pub format_letter : FloatFormat → List ℕ
format_letter format.H = codes "h"
format_letter format.S = codes "s"
format_letter format.D = codes "d"

-- its bits, as fmv.x and fmv name them
abbrev pub bits_letter : FloatFormat → List ℕ
bits_letter format.H = codes "h"
bits_letter format.S = codes "w"
bits_letter format.D = codes "d"

abbrev pub float_load_name : FloatFormat → List ℕ
float_load_name format.H = codes "flh"
float_load_name format.S = codes "flw"
float_load_name format.D = codes "fld"

abbrev pub float_store_name : FloatFormat → List ℕ
float_store_name format.H = codes "fsh"
float_store_name format.S = codes "fsw"
float_store_name format.D = codes "fsd"

-- F, D, Zfh and Zfa
abbrev pub float_name : FloatFormat → FloatOp → List ℕ
float_name f float.Fmadd = codes "fmadd." ++ format_letter f
float_name f float.Fmsub = codes "fmsub." ++ format_letter f
float_name f float.Fnmsub = codes "fnmsub." ++ format_letter f
float_name f float.Fnmadd = codes "fnmadd." ++ format_letter f
float_name f float.Fadd = codes "fadd." ++ format_letter f
float_name f float.Fsub = codes "fsub." ++ format_letter f
float_name f float.Fmul = codes "fmul." ++ format_letter f
float_name f float.Fdiv = codes "fdiv." ++ format_letter f
float_name f float.Fsqrt = codes "fsqrt." ++ format_letter f
float_name f float.Fsgnj = codes "fsgnj." ++ format_letter f
float_name f float.Fsgnjn = codes "fsgnjn." ++ format_letter f
float_name f float.Fsgnjx = codes "fsgnjx." ++ format_letter f
float_name f float.Fmin = codes "fmin." ++ format_letter f
float_name f float.Fmax = codes "fmax." ++ format_letter f
float_name f float.FcvtToW = codes "fcvt.w." ++ format_letter f
float_name f float.FcvtToWu = codes "fcvt.wu." ++ format_letter f
float_name f float.FcvtToL = codes "fcvt.l." ++ format_letter f
float_name f float.FcvtToLu = codes "fcvt.lu." ++ format_letter f
float_name f float.FmvToX = codes "fmv.x." ++ bits_letter f
float_name f float.Feq = codes "feq." ++ format_letter f
float_name f float.Flt = codes "flt." ++ format_letter f
float_name f float.Fle = codes "fle." ++ format_letter f
float_name f float.Fclass = codes "fclass." ++ format_letter f
float_name f float.FcvtFromW = codes "fcvt." ++ format_letter f ++ codes ".w"
float_name f float.FcvtFromWu = codes "fcvt." ++ format_letter f ++ codes ".wu"
float_name f float.FcvtFromL = codes "fcvt." ++ format_letter f ++ codes ".l"
float_name f float.FcvtFromLu = codes "fcvt." ++ format_letter f ++ codes ".lu"
float_name f float.FmvFromX = codes "fmv." ++ bits_letter f ++ codes ".x"
float_name f float.FcvtFromH = codes "fcvt." ++ format_letter f ++ codes ".h"
float_name f float.FcvtFromS = codes "fcvt." ++ format_letter f ++ codes ".s"
float_name f float.FcvtFromD = codes "fcvt." ++ format_letter f ++ codes ".d"
float_name f float.Fli = codes "fli." ++ format_letter f
float_name f float.Fminm = codes "fminm." ++ format_letter f
float_name f float.Fmaxm = codes "fmaxm." ++ format_letter f
float_name f float.Fround = codes "fround." ++ format_letter f

-- V, but for arithmetic
abbrev pub vector_memory_name : VecMemOp → List ℕ
vector_memory_name vector.Vsetivli = codes "vsetivli"
vector_memory_name vector.Vle8 = codes "vle8.v"
vector_memory_name vector.Vle16 = codes "vle16.v"
vector_memory_name vector.Vle32 = codes "vle32.v"
vector_memory_name vector.Vle64 = codes "vle64.v"
vector_memory_name vector.Vse8 = codes "vse8.v"
vector_memory_name vector.Vse16 = codes "vse16.v"
vector_memory_name vector.Vse32 = codes "vse32.v"
vector_memory_name vector.Vse64 = codes "vse64.v"

-- vector arithmetic goes by its fields
abbrev pub mnemonic : MOp → List ℕ
mnemonic (Base op) = base_name op
mnemonic (Load op) = load_name op
mnemonic (Store op) = store_name op
mnemonic (Alu op) = alu_name op
mnemonic (Carry op) = carry_name op
mnemonic (Atomic op width) = atomic_name op width
mnemonic (Csr op) = csr_name op
mnemonic (FloatLoad format) = float_load_name format
mnemonic (FloatStore format) = float_store_name format
mnemonic (Float format op) = float_name format op
mnemonic (VecMem op) = vector_memory_name op
mnemonic (Vec funct6 funct3) = codes "vec"
