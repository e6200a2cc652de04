-- The bits that an operation's row fixes, and where each field of its row stands in the word. This only links the reader to its
-- proof: no public clause reaches it.
use Rattle.std.specs.Prelude.{ℕ, ◌+◌, ◌*◌, ◌^◌}
use Rattle.rv_machine.specs.declared.ops.MOp.{MOp}
use Rattle.rv_machine.specs.declared.ops.MOp.TheVariants.{Base, Load, Store, Alu, Carry, Atomic, Csr, FloatLoad, FloatStore, Float, VecMem, Vec}
use Rattle.rv_machine.specs.declared.ops.AluOp.{AluOp}
use Rattle.rv_machine.specs.declared.ops.AluOp.TheVariants.{Int, Mul, Bit}
use Rattle.rv_machine.specs.declared.ops.BaseOp.{BaseOp}
use Rattle.rv_machine.specs.declared.ops.BaseOp.TheVariants as base
use Rattle.rv_machine.specs.declared.ops.LoadOp.{LoadOp}
use Rattle.rv_machine.specs.declared.ops.LoadOp.TheVariants as load
use Rattle.rv_machine.specs.declared.ops.StoreOp.{StoreOp}
use Rattle.rv_machine.specs.declared.ops.StoreOp.TheVariants as store
use Rattle.rv_machine.specs.declared.ops.IntOp.{IntOp}
use Rattle.rv_machine.specs.declared.ops.IntOp.TheVariants as int
use Rattle.rv_machine.specs.declared.ops.MulOp.{MulOp}
use Rattle.rv_machine.specs.declared.ops.MulOp.TheVariants as mul
use Rattle.rv_machine.specs.declared.ops.BitOp.{BitOp}
use Rattle.rv_machine.specs.declared.ops.BitOp.TheVariants as bit
use Rattle.rv_machine.specs.declared.ops.CarryOp.{CarryOp}
use Rattle.rv_machine.specs.declared.ops.CarryOp.TheVariants as carry
use Rattle.rv_machine.specs.declared.ops.AtomicOp.{AtomicOp}
use Rattle.rv_machine.specs.declared.ops.AtomicOp.TheVariants as atomic
use Rattle.rv_machine.specs.declared.ops.AtomicWidth.{AtomicWidth}
use Rattle.rv_machine.specs.declared.ops.AtomicWidth.TheVariants as width
use Rattle.rv_machine.specs.declared.ops.CsrOp.{CsrOp}
use Rattle.rv_machine.specs.declared.ops.CsrOp.TheVariants as csr
use Rattle.rv_machine.specs.declared.ops.FloatFormat.{FloatFormat}
use Rattle.rv_machine.specs.declared.ops.FloatFormat.TheVariants as format
use Rattle.rv_machine.specs.declared.ops.FloatOp.{FloatOp}
use Rattle.rv_machine.specs.declared.ops.FloatOp.TheVariants as float
use Rattle.rv_machine.specs.declared.ops.VecMemOp.{VecMemOp}
use Rattle.rv_machine.specs.declared.ops.VecMemOp.TheVariants as vector
use Rattle.rv_machine.specs.Opcodes.{LOAD_FP, STORE_FP, OP_V}
use Rattle.rv_disasm.specs.declared.halfwords.HalfOp.{HalfOp}
use Rattle.rv_disasm.specs.declared.halfwords.HalfOp.TheVariants as half

abbrev pub base_fixed : BaseOp → ℕ
base_fixed base.Lui = 0x00000037
base_fixed base.Auipc = 0x00000017
base_fixed base.Jal = 0x0000006f
base_fixed base.Jalr = 0x00000067
base_fixed base.Beq = 0x00000063
base_fixed base.Bne = 0x00001063
base_fixed base.Blt = 0x00004063
base_fixed base.Bge = 0x00005063
base_fixed base.Bltu = 0x00006063
base_fixed base.Bgeu = 0x00007063
base_fixed base.Fence = 0x0000000f
base_fixed base.Ebreak = 0x00100073

abbrev pub load_fixed : LoadOp → ℕ
load_fixed load.Lb = 0x00000003
load_fixed load.Lh = 0x00001003
load_fixed load.Lw = 0x00002003
load_fixed load.Lbu = 0x00004003
load_fixed load.Lhu = 0x00005003
load_fixed load.Lwu = 0x00006003
load_fixed load.Ld = 0x00003003

abbrev pub store_fixed : StoreOp → ℕ
store_fixed store.Sb = 0x00000023
store_fixed store.Sh = 0x00001023
store_fixed store.Sw = 0x00002023
store_fixed store.Sd = 0x00003023

abbrev pub int_fixed : IntOp → ℕ
int_fixed int.Addi = 0x00000013
int_fixed int.Slti = 0x00002013
int_fixed int.Sltiu = 0x00003013
int_fixed int.Xori = 0x00004013
int_fixed int.Ori = 0x00006013
int_fixed int.Andi = 0x00007013
int_fixed int.Slli = 0x00001013
int_fixed int.Srli = 0x00005013
int_fixed int.Srai = 0x40005013
int_fixed int.Add = 0x00000033
int_fixed int.Sub = 0x40000033
int_fixed int.Sll = 0x00001033
int_fixed int.Slt = 0x00002033
int_fixed int.Sltu = 0x00003033
int_fixed int.Xor = 0x00004033
int_fixed int.Srl = 0x00005033
int_fixed int.Sra = 0x40005033
int_fixed int.Or = 0x00006033
int_fixed int.And = 0x00007033
int_fixed int.Addiw = 0x0000001b
int_fixed int.Slliw = 0x0000101b
int_fixed int.Srliw = 0x0000501b
int_fixed int.Sraiw = 0x4000501b
int_fixed int.Addw = 0x0000003b
int_fixed int.Subw = 0x4000003b
int_fixed int.Sllw = 0x0000103b
int_fixed int.Srlw = 0x0000503b
int_fixed int.Sraw = 0x4000503b
int_fixed int.CzeroEqz = 0x0e005033
int_fixed int.CzeroNez = 0x0e007033

abbrev pub mul_fixed : MulOp → ℕ
mul_fixed mul.Mul = 0x02000033
mul_fixed mul.Mulh = 0x02001033
mul_fixed mul.Mulhsu = 0x02002033
mul_fixed mul.Mulhu = 0x02003033
mul_fixed mul.Div = 0x02004033
mul_fixed mul.Divu = 0x02005033
mul_fixed mul.Rem = 0x02006033
mul_fixed mul.Remu = 0x02007033
mul_fixed mul.Mulw = 0x0200003b
mul_fixed mul.Divw = 0x0200403b
mul_fixed mul.Divuw = 0x0200503b
mul_fixed mul.Remw = 0x0200603b
mul_fixed mul.Remuw = 0x0200703b

abbrev pub bit_fixed : BitOp → ℕ
bit_fixed bit.AddUw = 0x0800003b
bit_fixed bit.Sh1add = 0x20002033
bit_fixed bit.Sh1addUw = 0x2000203b
bit_fixed bit.Sh2add = 0x20004033
bit_fixed bit.Sh2addUw = 0x2000403b
bit_fixed bit.Sh3add = 0x20006033
bit_fixed bit.Sh3addUw = 0x2000603b
bit_fixed bit.SlliUw = 0x0800101b
bit_fixed bit.Andn = 0x40007033
bit_fixed bit.Orn = 0x40006033
bit_fixed bit.Xnor = 0x40004033
bit_fixed bit.Clz = 0x60001013
bit_fixed bit.Clzw = 0x6000101b
bit_fixed bit.Ctz = 0x60101013
bit_fixed bit.Ctzw = 0x6010101b
bit_fixed bit.Cpop = 0x60201013
bit_fixed bit.Cpopw = 0x6020101b
bit_fixed bit.Max = 0x0a006033
bit_fixed bit.Maxu = 0x0a007033
bit_fixed bit.Min = 0x0a004033
bit_fixed bit.Minu = 0x0a005033
bit_fixed bit.SextB = 0x60401013
bit_fixed bit.SextH = 0x60501013
bit_fixed bit.ZextH = 0x0800403b
bit_fixed bit.Rol = 0x60001033
bit_fixed bit.Rolw = 0x6000103b
bit_fixed bit.Ror = 0x60005033
bit_fixed bit.Rori = 0x60005013
bit_fixed bit.Roriw = 0x6000501b
bit_fixed bit.Rorw = 0x6000503b
bit_fixed bit.OrcB = 0x28705013
bit_fixed bit.Rev8 = 0x6b805013
bit_fixed bit.Bclr = 0x48001033
bit_fixed bit.Bclri = 0x48001013
bit_fixed bit.Bext = 0x48005033
bit_fixed bit.Bexti = 0x48005013
bit_fixed bit.Binv = 0x68001033
bit_fixed bit.Binvi = 0x68001013
bit_fixed bit.Bset = 0x28001033
bit_fixed bit.Bseti = 0x28001013

abbrev pub alu_fixed : AluOp → ℕ
alu_fixed (Int op) = int_fixed op
alu_fixed (Mul op) = mul_fixed op
alu_fixed (Bit op) = bit_fixed op

abbrev pub carry_fixed : CarryOp → ℕ
carry_fixed carry.Clmul = 0x0a001033
carry_fixed carry.Clmulh = 0x0a003033
carry_fixed carry.Clmulr = 0x0a002033
carry_fixed carry.Pack = 0x08004033
carry_fixed carry.Packh = 0x08007033
carry_fixed carry.Packw = 0x0800403b
carry_fixed carry.Brev8 = 0x68705013

abbrev pub atomic_fixed : AtomicOp → ℕ
atomic_fixed atomic.Lr = 0x1000002f
atomic_fixed atomic.Sc = 0x1800002f
atomic_fixed atomic.Amoswap = 0x0800002f
atomic_fixed atomic.Amoadd = 0x0000002f
atomic_fixed atomic.Amoxor = 0x2000002f
atomic_fixed atomic.Amoand = 0x6000002f
atomic_fixed atomic.Amoor = 0x4000002f
atomic_fixed atomic.Amomin = 0x8000002f
atomic_fixed atomic.Amomax = 0xa000002f
atomic_fixed atomic.Amominu = 0xc000002f
atomic_fixed atomic.Amomaxu = 0xe000002f

abbrev pub csr_fixed : CsrOp → ℕ
csr_fixed csr.Csrrw = 0x00201073
csr_fixed csr.Csrrs = 0x00202073
csr_fixed csr.Csrrc = 0x00203073
csr_fixed csr.Csrrwi = 0x00205073
csr_fixed csr.Csrrsi = 0x00206073
csr_fixed csr.Csrrci = 0x00207073

abbrev pub float_fixed : FloatOp → ℕ
float_fixed float.Fmadd = 0x00000043
float_fixed float.Fmsub = 0x00000047
float_fixed float.Fnmsub = 0x0000004b
float_fixed float.Fnmadd = 0x0000004f
float_fixed float.Fadd = 0x00000053
float_fixed float.Fsub = 0x08000053
float_fixed float.Fmul = 0x10000053
float_fixed float.Fdiv = 0x18000053
float_fixed float.Fsqrt = 0x58000053
float_fixed float.Fsgnj = 0x20000053
float_fixed float.Fsgnjn = 0x20001053
float_fixed float.Fsgnjx = 0x20002053
float_fixed float.Fmin = 0x28000053
float_fixed float.Fmax = 0x28001053
float_fixed float.FcvtToW = 0xc0000053
float_fixed float.FcvtToWu = 0xc0100053
float_fixed float.FcvtToL = 0xc0200053
float_fixed float.FcvtToLu = 0xc0300053
float_fixed float.FmvToX = 0xe0000053
float_fixed float.Feq = 0xa0002053
float_fixed float.Flt = 0xa0001053
float_fixed float.Fle = 0xa0000053
float_fixed float.Fclass = 0xe0001053
float_fixed float.FcvtFromW = 0xd0000053
float_fixed float.FcvtFromWu = 0xd0100053
float_fixed float.FcvtFromL = 0xd0200053
float_fixed float.FcvtFromLu = 0xd0300053
float_fixed float.FmvFromX = 0xf0000053
float_fixed float.FcvtFromH = 0x40200053
float_fixed float.FcvtFromS = 0x40000053
float_fixed float.FcvtFromD = 0x40100053
float_fixed float.Fli = 0xf0100053
float_fixed float.Fminm = 0x28002053
float_fixed float.Fmaxm = 0x28003053
float_fixed float.Fround = 0x40400053

abbrev pub vector_memory_fixed : VecMemOp → ℕ
vector_memory_fixed vector.Vsetivli = 0xc0007057
vector_memory_fixed vector.Vle8 = 0x00000007
vector_memory_fixed vector.Vle16 = 0x00005007
vector_memory_fixed vector.Vle32 = 0x00006007
vector_memory_fixed vector.Vle64 = 0x00007007
vector_memory_fixed vector.Vse8 = 0x00000027
vector_memory_fixed vector.Vse16 = 0x00005027
vector_memory_fixed vector.Vse32 = 0x00006027
vector_memory_fixed vector.Vse64 = 0x00007027

-- funct3 of an atomic operation
abbrev pub width_field : AtomicWidth → ℕ
width_field width.W = 2
width_field width.D = 3

-- funct3 of a load or a store of a floating-point register
abbrev pub memory_field : FloatFormat → ℕ
memory_field format.H = 1
memory_field format.S = 2
memory_field format.D = 3

-- the field fmt
abbrev pub format_field : FloatFormat → ℕ
format_field format.H = 2
format_field format.S = 0
format_field format.D = 1

abbrev pub fixed_of : MOp → ℕ
fixed_of (Base op) = base_fixed op
fixed_of (Load op) = load_fixed op
fixed_of (Store op) = store_fixed op
fixed_of (Alu op) = alu_fixed op
fixed_of (Carry op) = carry_fixed op
fixed_of (Atomic op width) = atomic_fixed op + width_field width * 2 ^ 12
fixed_of (Csr op) = csr_fixed op
fixed_of (FloatLoad format) = LOAD_FP + memory_field format * 2 ^ 12
fixed_of (FloatStore format) = STORE_FP + memory_field format * 2 ^ 12
fixed_of (Float format op) = float_fixed op + format_field format * 2 ^ 25
fixed_of (VecMem op) = vector_memory_fixed op
fixed_of (Vec funct6 funct3) = OP_V

abbrev pub half_fixed : HalfOp → ℕ
half_fixed half.Addi4spn = 0x0000
half_fixed half.Fld = 0x2000
half_fixed half.Lw = 0x4000
half_fixed half.Ld = 0x6000
half_fixed half.Lbu = 0x8000
half_fixed half.Lhu = 0x8400
half_fixed half.Lh = 0x8440
half_fixed half.Sb = 0x8800
half_fixed half.Sh = 0x8c00
half_fixed half.Fsd = 0xa000
half_fixed half.Sw = 0xc000
half_fixed half.Sd = 0xe000
half_fixed half.Addi = 0x0001
half_fixed half.Addiw = 0x2001
half_fixed half.Li = 0x4001
half_fixed half.Addi16sp = 0x6101
half_fixed half.Lui = 0x6001
half_fixed half.Srli = 0x8001
half_fixed half.Srai = 0x8401
half_fixed half.Andi = 0x8801
half_fixed half.Sub = 0x8c01
half_fixed half.Xor = 0x8c21
half_fixed half.Or = 0x8c41
half_fixed half.And = 0x8c61
half_fixed half.Subw = 0x9c01
half_fixed half.Addw = 0x9c21
half_fixed half.Mul = 0x9c41
half_fixed half.ZextB = 0x9c61
half_fixed half.SextB = 0x9c65
half_fixed half.ZextH = 0x9c69
half_fixed half.SextH = 0x9c6d
half_fixed half.ZextW = 0x9c71
half_fixed half.Not = 0x9c75
half_fixed half.J = 0xa001
half_fixed half.Slli = 0x0002
half_fixed half.Fldsp = 0x2002
half_fixed half.Lwsp = 0x4002
half_fixed half.Ldsp = 0x6002
half_fixed half.Jr = 0x8002
half_fixed half.Mv = 0x8002
half_fixed half.Ebreak = 0x9002
half_fixed half.Jalr = 0x9002
half_fixed half.Add = 0x9002
half_fixed half.Fsdsp = 0xa002
half_fixed half.Swsp = 0xc002
half_fixed half.Sdsp = 0xe002
