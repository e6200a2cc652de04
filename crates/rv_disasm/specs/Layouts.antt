-- Which fields a row of the manual's listings leaves free, in the order in which a text has them: rd, rs1, rs2, rs3, immediate,
-- rounding field, ordering bits, mask bit, predecessor and successor set. Vector arithmetic has its functs first, and vs2 before vs1.
use Rattle.std.specs.Prelude.{List, [], ◌∷◌}
use Rattle.rv_machine.specs.declared.ops.MOp.{MOp}
use Rattle.rv_machine.specs.declared.ops.MOp.TheVariants.{Base, Load, Store, Alu, Carry, Atomic, Csr, FloatLoad, FloatStore, Float, VecMem, Vec}
use Rattle.rv_machine.specs.declared.ops.AluOp.{AluOp}
use Rattle.rv_machine.specs.declared.ops.AluOp.TheVariants.{Int, Mul, Bit}
use Rattle.rv_machine.specs.declared.ops.BaseOp.{BaseOp}
use Rattle.rv_machine.specs.declared.ops.BaseOp.TheVariants as base
use Rattle.rv_machine.specs.declared.ops.IntOp.{IntOp}
use Rattle.rv_machine.specs.declared.ops.IntOp.TheVariants as int
use Rattle.rv_machine.specs.declared.ops.BitOp.{BitOp}
use Rattle.rv_machine.specs.declared.ops.BitOp.TheVariants as bit
use Rattle.rv_machine.specs.declared.ops.CarryOp.{CarryOp}
use Rattle.rv_machine.specs.declared.ops.CarryOp.TheVariants as carry
use Rattle.rv_machine.specs.declared.ops.AtomicOp.{AtomicOp}
use Rattle.rv_machine.specs.declared.ops.AtomicOp.TheVariants as atomic
use Rattle.rv_machine.specs.declared.ops.CsrOp.{CsrOp}
use Rattle.rv_machine.specs.declared.ops.CsrOp.TheVariants as csr
use Rattle.rv_machine.specs.declared.ops.FloatOp.{FloatOp}
use Rattle.rv_machine.specs.declared.ops.FloatOp.TheVariants as float
use Rattle.rv_machine.specs.declared.ops.VecMemOp.{VecMemOp}
use Rattle.rv_machine.specs.declared.ops.VecMemOp.TheVariants as vector
use Rattle.rv_disasm.specs.declared.layouts.File.TheVariants.{X, F, V, Number}
use Rattle.rv_disasm.specs.declared.layouts.Field.{Field}
use Rattle.rv_disasm.specs.declared.layouts.Field.TheVariants.{Rd, Rs1, Rs2, Rs3, Imm, Rounding, Ordering, Mask, Pred, Succ, Funct6, Funct3}
use Rattle.rv_disasm.specs.declared.layouts.Layout.{Layout}
use Rattle.rv_disasm.specs.declared.layouts.Layout.TheVariants as layout

abbrev pub fields_of : Layout → List Field
fields_of layout.Upper = Rd X ∷ Imm ∷ []
fields_of layout.Immediate = Rd X ∷ Rs1 X ∷ Imm ∷ []
fields_of layout.Stored = Rs1 X ∷ Rs2 X ∷ Imm ∷ []
fields_of layout.Sets = Pred ∷ Succ ∷ []
fields_of layout.None = []
fields_of layout.Registers = Rd X ∷ Rs1 X ∷ Rs2 X ∷ []
fields_of layout.Source = Rd X ∷ Rs1 X ∷ []
fields_of layout.CsrNumber = Rd X ∷ Rs1 Number ∷ []
fields_of layout.Reserved = Rd X ∷ Rs1 X ∷ Ordering ∷ []
fields_of layout.Atomic = Rd X ∷ Rs1 X ∷ Rs2 X ∷ Ordering ∷ []
fields_of layout.FloatLoad = Rd F ∷ Rs1 X ∷ Imm ∷ []
fields_of layout.FloatStore = Rs1 X ∷ Rs2 F ∷ Imm ∷ []
fields_of layout.Fused = Rd F ∷ Rs1 F ∷ Rs2 F ∷ Rs3 F ∷ Rounding ∷ []
fields_of layout.Rounded = Rd F ∷ Rs1 F ∷ Rs2 F ∷ Rounding ∷ []
fields_of layout.RoundedSource = Rd F ∷ Rs1 F ∷ Rounding ∷ []
fields_of layout.Floats = Rd F ∷ Rs1 F ∷ Rs2 F ∷ []
fields_of layout.ToInteger = Rd X ∷ Rs1 F ∷ Rounding ∷ []
fields_of layout.FromInteger = Rd F ∷ Rs1 X ∷ Rounding ∷ []
fields_of layout.BitsOfFloat = Rd X ∷ Rs1 F ∷ []
fields_of layout.FloatOfBits = Rd F ∷ Rs1 X ∷ []
fields_of layout.Compared = Rd X ∷ Rs1 F ∷ Rs2 F ∷ []
fields_of layout.Constant = Rd F ∷ Rs1 Number ∷ []
fields_of layout.Length = Rd X ∷ Rs1 Number ∷ Imm ∷ []
fields_of layout.VectorMemory = Rd V ∷ Rs1 X ∷ Mask ∷ []
fields_of layout.Vector = Funct6 ∷ Funct3 ∷ Rd Number ∷ Rs2 Number ∷ Rs1 Number ∷ Mask ∷ []
fields_of layout.Distance = Imm ∷ []
fields_of layout.Two = Rd X ∷ Rs2 X ∷ []
fields_of layout.One = Rd X ∷ []
fields_of layout.Target = Rs1 X ∷ []
fields_of layout.FloatUpper = Rd F ∷ Imm ∷ []
fields_of layout.StackStore = Rs2 X ∷ Imm ∷ []
fields_of layout.FloatStackStore = Rs2 F ∷ Imm ∷ []

-- RV64I, but for what only computes, and its loads and stores
abbrev pub base_layout : BaseOp → Layout
base_layout base.Lui = layout.Upper
base_layout base.Auipc = layout.Upper
base_layout base.Jal = layout.Upper
base_layout base.Jalr = layout.Immediate
base_layout base.Beq = layout.Stored
base_layout base.Bne = layout.Stored
base_layout base.Blt = layout.Stored
base_layout base.Bge = layout.Stored
base_layout base.Bltu = layout.Stored
base_layout base.Bgeu = layout.Stored
base_layout base.Fence = layout.Sets
base_layout base.Ebreak = layout.None

-- RV64I and Zicond, what only computes
abbrev pub int_layout : IntOp → Layout
int_layout int.Addi = layout.Immediate
int_layout int.Slti = layout.Immediate
int_layout int.Sltiu = layout.Immediate
int_layout int.Xori = layout.Immediate
int_layout int.Ori = layout.Immediate
int_layout int.Andi = layout.Immediate
int_layout int.Slli = layout.Immediate
int_layout int.Srli = layout.Immediate
int_layout int.Srai = layout.Immediate
int_layout int.Add = layout.Registers
int_layout int.Sub = layout.Registers
int_layout int.Sll = layout.Registers
int_layout int.Slt = layout.Registers
int_layout int.Sltu = layout.Registers
int_layout int.Xor = layout.Registers
int_layout int.Srl = layout.Registers
int_layout int.Sra = layout.Registers
int_layout int.Or = layout.Registers
int_layout int.And = layout.Registers
int_layout int.Addiw = layout.Immediate
int_layout int.Slliw = layout.Immediate
int_layout int.Srliw = layout.Immediate
int_layout int.Sraiw = layout.Immediate
int_layout int.Addw = layout.Registers
int_layout int.Subw = layout.Registers
int_layout int.Sllw = layout.Registers
int_layout int.Srlw = layout.Registers
int_layout int.Sraw = layout.Registers
int_layout int.CzeroEqz = layout.Registers
int_layout int.CzeroNez = layout.Registers

-- Zba, Zbb and Zbs
abbrev pub bit_layout : BitOp → Layout
bit_layout bit.AddUw = layout.Registers
bit_layout bit.Sh1add = layout.Registers
bit_layout bit.Sh1addUw = layout.Registers
bit_layout bit.Sh2add = layout.Registers
bit_layout bit.Sh2addUw = layout.Registers
bit_layout bit.Sh3add = layout.Registers
bit_layout bit.Sh3addUw = layout.Registers
bit_layout bit.SlliUw = layout.Immediate
bit_layout bit.Andn = layout.Registers
bit_layout bit.Orn = layout.Registers
bit_layout bit.Xnor = layout.Registers
bit_layout bit.Clz = layout.Source
bit_layout bit.Clzw = layout.Source
bit_layout bit.Ctz = layout.Source
bit_layout bit.Ctzw = layout.Source
bit_layout bit.Cpop = layout.Source
bit_layout bit.Cpopw = layout.Source
bit_layout bit.Max = layout.Registers
bit_layout bit.Maxu = layout.Registers
bit_layout bit.Min = layout.Registers
bit_layout bit.Minu = layout.Registers
bit_layout bit.SextB = layout.Source
bit_layout bit.SextH = layout.Source
bit_layout bit.ZextH = layout.Source
bit_layout bit.Rol = layout.Registers
bit_layout bit.Rolw = layout.Registers
bit_layout bit.Ror = layout.Registers
bit_layout bit.Rori = layout.Immediate
bit_layout bit.Roriw = layout.Immediate
bit_layout bit.Rorw = layout.Registers
bit_layout bit.OrcB = layout.Source
bit_layout bit.Rev8 = layout.Source
bit_layout bit.Bclr = layout.Registers
bit_layout bit.Bclri = layout.Immediate
bit_layout bit.Bext = layout.Registers
bit_layout bit.Bexti = layout.Immediate
bit_layout bit.Binv = layout.Registers
bit_layout bit.Binvi = layout.Immediate
bit_layout bit.Bset = layout.Registers
bit_layout bit.Bseti = layout.Immediate

-- every operation of M takes three registers
abbrev pub alu_layout : AluOp → Layout
alu_layout (Int op) = int_layout op
alu_layout (Mul op) = layout.Registers
alu_layout (Bit op) = bit_layout op

-- Zbc and Zbkb
abbrev pub carry_layout : CarryOp → Layout
carry_layout carry.Clmul = layout.Registers
carry_layout carry.Clmulh = layout.Registers
carry_layout carry.Clmulr = layout.Registers
carry_layout carry.Pack = layout.Registers
carry_layout carry.Packh = layout.Registers
carry_layout carry.Packw = layout.Registers
carry_layout carry.Brev8 = layout.Source

-- A
abbrev pub atomic_layout : AtomicOp → Layout
atomic_layout atomic.Lr = layout.Reserved
atomic_layout atomic.Sc = layout.Atomic
atomic_layout atomic.Amoswap = layout.Atomic
atomic_layout atomic.Amoadd = layout.Atomic
atomic_layout atomic.Amoxor = layout.Atomic
atomic_layout atomic.Amoand = layout.Atomic
atomic_layout atomic.Amoor = layout.Atomic
atomic_layout atomic.Amomin = layout.Atomic
atomic_layout atomic.Amomax = layout.Atomic
atomic_layout atomic.Amominu = layout.Atomic
atomic_layout atomic.Amomaxu = layout.Atomic

-- Zicsr, on frm
abbrev pub csr_layout : CsrOp → Layout
csr_layout csr.Csrrw = layout.Source
csr_layout csr.Csrrs = layout.Source
csr_layout csr.Csrrc = layout.Source
csr_layout csr.Csrrwi = layout.CsrNumber
csr_layout csr.Csrrsi = layout.CsrNumber
csr_layout csr.Csrrci = layout.CsrNumber

-- F, D, Zfh and Zfa
abbrev pub float_layout : FloatOp → Layout
float_layout float.Fmadd = layout.Fused
float_layout float.Fmsub = layout.Fused
float_layout float.Fnmsub = layout.Fused
float_layout float.Fnmadd = layout.Fused
float_layout float.Fadd = layout.Rounded
float_layout float.Fsub = layout.Rounded
float_layout float.Fmul = layout.Rounded
float_layout float.Fdiv = layout.Rounded
float_layout float.Fsqrt = layout.RoundedSource
float_layout float.Fsgnj = layout.Floats
float_layout float.Fsgnjn = layout.Floats
float_layout float.Fsgnjx = layout.Floats
float_layout float.Fmin = layout.Floats
float_layout float.Fmax = layout.Floats
float_layout float.FcvtToW = layout.ToInteger
float_layout float.FcvtToWu = layout.ToInteger
float_layout float.FcvtToL = layout.ToInteger
float_layout float.FcvtToLu = layout.ToInteger
float_layout float.FmvToX = layout.BitsOfFloat
float_layout float.Feq = layout.Compared
float_layout float.Flt = layout.Compared
float_layout float.Fle = layout.Compared
float_layout float.Fclass = layout.BitsOfFloat
float_layout float.FcvtFromW = layout.FromInteger
float_layout float.FcvtFromWu = layout.FromInteger
float_layout float.FcvtFromL = layout.FromInteger
float_layout float.FcvtFromLu = layout.FromInteger
float_layout float.FmvFromX = layout.FloatOfBits
float_layout float.FcvtFromH = layout.RoundedSource
float_layout float.FcvtFromS = layout.RoundedSource
float_layout float.FcvtFromD = layout.RoundedSource
float_layout float.Fli = layout.Constant
float_layout float.Fminm = layout.Floats
float_layout float.Fmaxm = layout.Floats
float_layout float.Fround = layout.RoundedSource

-- V, but for arithmetic
abbrev pub vector_memory_layout : VecMemOp → Layout
vector_memory_layout vector.Vsetivli = layout.Length
vector_memory_layout vector.Vle8 = layout.VectorMemory
vector_memory_layout vector.Vle16 = layout.VectorMemory
vector_memory_layout vector.Vle32 = layout.VectorMemory
vector_memory_layout vector.Vle64 = layout.VectorMemory
vector_memory_layout vector.Vse8 = layout.VectorMemory
vector_memory_layout vector.Vse16 = layout.VectorMemory
vector_memory_layout vector.Vse32 = layout.VectorMemory
vector_memory_layout vector.Vse64 = layout.VectorMemory

abbrev pub layout_of : MOp → Layout
layout_of (Base op) = base_layout op
layout_of (Load op) = layout.Immediate
layout_of (Store op) = layout.Stored
layout_of (Alu op) = alu_layout op
layout_of (Carry op) = carry_layout op
layout_of (Atomic op width) = atomic_layout op
layout_of (Csr op) = csr_layout op
layout_of (FloatLoad format) = layout.FloatLoad
layout_of (FloatStore format) = layout.FloatStore
layout_of (Float format op) = float_layout op
layout_of (VecMem op) = vector_memory_layout op
layout_of (Vec funct6 funct3) = layout.Vector
