-- Each row is found by its mnemonic.
use Rattle.std.proofs.Common.{◌≡◌, ℕ, true, Some, refl}
use Rattle.rv_machine.specs.declared.ops.MOp.{MOp}
use Rattle.rv_machine.specs.declared.ops.MOp.TheVariants.{Base, Load, Store, Alu, Carry, Atomic, Csr, FloatLoad, FloatStore, Float, VecMem, Vec}
use Rattle.rv_machine.specs.declared.ops.AluOp.{AluOp}
use Rattle.rv_machine.specs.declared.ops.AluOp.TheVariants.{Int, Mul, Bit}
use Rattle.rv_machine.specs.declared.ops.BaseOp.{BaseOp}
use Rattle.rv_machine.specs.declared.ops.BaseOp.TheVariants as base
use Rattle.rv_machine.specs.declared.ops.LoadOp.{LoadOp}
use Rattle.rv_machine.specs.declared.ops.LoadOp.TheVariants as load
use Rattle.rv_machine.specs.declared.ops.StoreOp.{StoreOp}
use Rattle.rv_machine.specs.declared.ops.StoreOp.TheVariants as store
use Rattle.rv_machine.specs.declared.ops.IntOp.{IntOp}
use Rattle.rv_machine.specs.declared.ops.IntOp.TheVariants as int
use Rattle.rv_machine.specs.declared.ops.MulOp.{MulOp}
use Rattle.rv_machine.specs.declared.ops.MulOp.TheVariants as mul
use Rattle.rv_machine.specs.declared.ops.BitOp.{BitOp}
use Rattle.rv_machine.specs.declared.ops.BitOp.TheVariants as bit
use Rattle.rv_machine.specs.declared.ops.CarryOp.{CarryOp}
use Rattle.rv_machine.specs.declared.ops.CarryOp.TheVariants as carry
use Rattle.rv_machine.specs.declared.ops.AtomicOp.{AtomicOp}
use Rattle.rv_machine.specs.declared.ops.AtomicOp.TheVariants as atomic
use Rattle.rv_machine.specs.declared.ops.AtomicWidth.{AtomicWidth}
use Rattle.rv_machine.specs.declared.ops.AtomicWidth.TheVariants as width
use Rattle.rv_machine.specs.declared.ops.CsrOp.{CsrOp}
use Rattle.rv_machine.specs.declared.ops.CsrOp.TheVariants as csr
use Rattle.rv_machine.specs.declared.ops.FloatFormat.{FloatFormat}
use Rattle.rv_machine.specs.declared.ops.FloatFormat.TheVariants as format
use Rattle.rv_machine.specs.declared.ops.FloatOp.{FloatOp}
use Rattle.rv_machine.specs.declared.ops.FloatOp.TheVariants as float
use Rattle.rv_machine.specs.declared.ops.VecMemOp.{VecMemOp}
use Rattle.rv_machine.specs.declared.ops.VecMemOp.TheVariants as vector
use Rattle.rv_disasm.specs.declared.halfwords.HalfOp.{HalfOp}
use Rattle.rv_disasm.specs.declared.halfwords.HalfOp.TheVariants as half
use Rattle.rv_disasm.specs.declared.forms.Form.{Form}
use Rattle.rv_disasm.specs.declared.forms.Form.TheVariants as form
use Rattle.rv_disasm.specs.Text.{form_name}
use Rattle.rv_disasm.specs.Reading.{form_named, plain, lacks}

-- found by its mnemonic, in which no space stands
abbrev pub IsFound : Form → Type 0
IsFound f = (form_named (form_name f) ≡ Some (plain f)) × (lacks 32 (form_name f) ≡ true)

base_found : (op : BaseOp) → IsFound (form.Word (Base op))
unfolding form_named
base_found base.Lui = (refl, refl)
base_found base.Auipc = (refl, refl)
base_found base.Jal = (refl, refl)
base_found base.Jalr = (refl, refl)
base_found base.Beq = (refl, refl)
base_found base.Bne = (refl, refl)
base_found base.Blt = (refl, refl)
base_found base.Bge = (refl, refl)
base_found base.Bltu = (refl, refl)
base_found base.Bgeu = (refl, refl)
base_found base.Fence = (refl, refl)
base_found base.Ebreak = (refl, refl)

load_found : (op : LoadOp) → IsFound (form.Word (Load op))
unfolding form_named
load_found load.Lb = (refl, refl)
load_found load.Lh = (refl, refl)
load_found load.Lw = (refl, refl)
load_found load.Lbu = (refl, refl)
load_found load.Lhu = (refl, refl)
load_found load.Lwu = (refl, refl)
load_found load.Ld = (refl, refl)

store_found : (op : StoreOp) → IsFound (form.Word (Store op))
unfolding form_named
store_found store.Sb = (refl, refl)
store_found store.Sh = (refl, refl)
store_found store.Sw = (refl, refl)
store_found store.Sd = (refl, refl)

int_found : (op : IntOp) → IsFound (form.Word (Alu (Int op)))
unfolding form_named
int_found int.Addi = (refl, refl)
int_found int.Slti = (refl, refl)
int_found int.Sltiu = (refl, refl)
int_found int.Xori = (refl, refl)
int_found int.Ori = (refl, refl)
int_found int.Andi = (refl, refl)
int_found int.Slli = (refl, refl)
int_found int.Srli = (refl, refl)
int_found int.Srai = (refl, refl)
int_found int.Add = (refl, refl)
int_found int.Sub = (refl, refl)
int_found int.Sll = (refl, refl)
int_found int.Slt = (refl, refl)
int_found int.Sltu = (refl, refl)
int_found int.Xor = (refl, refl)
int_found int.Srl = (refl, refl)
int_found int.Sra = (refl, refl)
int_found int.Or = (refl, refl)
int_found int.And = (refl, refl)
int_found int.Addiw = (refl, refl)
int_found int.Slliw = (refl, refl)
int_found int.Srliw = (refl, refl)
int_found int.Sraiw = (refl, refl)
int_found int.Addw = (refl, refl)
int_found int.Subw = (refl, refl)
int_found int.Sllw = (refl, refl)
int_found int.Srlw = (refl, refl)
int_found int.Sraw = (refl, refl)
int_found int.CzeroEqz = (refl, refl)
int_found int.CzeroNez = (refl, refl)

mul_found : (op : MulOp) → IsFound (form.Word (Alu (Mul op)))
unfolding form_named
mul_found mul.Mul = (refl, refl)
mul_found mul.Mulh = (refl, refl)
mul_found mul.Mulhsu = (refl, refl)
mul_found mul.Mulhu = (refl, refl)
mul_found mul.Div = (refl, refl)
mul_found mul.Divu = (refl, refl)
mul_found mul.Rem = (refl, refl)
mul_found mul.Remu = (refl, refl)
mul_found mul.Mulw = (refl, refl)
mul_found mul.Divw = (refl, refl)
mul_found mul.Divuw = (refl, refl)
mul_found mul.Remw = (refl, refl)
mul_found mul.Remuw = (refl, refl)

bit_found : (op : BitOp) → IsFound (form.Word (Alu (Bit op)))
unfolding form_named
bit_found bit.AddUw = (refl, refl)
bit_found bit.Sh1add = (refl, refl)
bit_found bit.Sh1addUw = (refl, refl)
bit_found bit.Sh2add = (refl, refl)
bit_found bit.Sh2addUw = (refl, refl)
bit_found bit.Sh3add = (refl, refl)
bit_found bit.Sh3addUw = (refl, refl)
bit_found bit.SlliUw = (refl, refl)
bit_found bit.Andn = (refl, refl)
bit_found bit.Orn = (refl, refl)
bit_found bit.Xnor = (refl, refl)
bit_found bit.Clz = (refl, refl)
bit_found bit.Clzw = (refl, refl)
bit_found bit.Ctz = (refl, refl)
bit_found bit.Ctzw = (refl, refl)
bit_found bit.Cpop = (refl, refl)
bit_found bit.Cpopw = (refl, refl)
bit_found bit.Max = (refl, refl)
bit_found bit.Maxu = (refl, refl)
bit_found bit.Min = (refl, refl)
bit_found bit.Minu = (refl, refl)
bit_found bit.SextB = (refl, refl)
bit_found bit.SextH = (refl, refl)
bit_found bit.ZextH = (refl, refl)
bit_found bit.Rol = (refl, refl)
bit_found bit.Rolw = (refl, refl)
bit_found bit.Ror = (refl, refl)
bit_found bit.Rori = (refl, refl)
bit_found bit.Roriw = (refl, refl)
bit_found bit.Rorw = (refl, refl)
bit_found bit.OrcB = (refl, refl)
bit_found bit.Rev8 = (refl, refl)
bit_found bit.Bclr = (refl, refl)
bit_found bit.Bclri = (refl, refl)
bit_found bit.Bext = (refl, refl)
bit_found bit.Bexti = (refl, refl)
bit_found bit.Binv = (refl, refl)
bit_found bit.Binvi = (refl, refl)
bit_found bit.Bset = (refl, refl)
bit_found bit.Bseti = (refl, refl)

carry_found : (op : CarryOp) → IsFound (form.Word (Carry op))
unfolding form_named
carry_found carry.Clmul = (refl, refl)
carry_found carry.Clmulh = (refl, refl)
carry_found carry.Clmulr = (refl, refl)
carry_found carry.Pack = (refl, refl)
carry_found carry.Packh = (refl, refl)
carry_found carry.Packw = (refl, refl)
carry_found carry.Brev8 = (refl, refl)

atomic_found_w : (op : AtomicOp) → IsFound (form.Word (Atomic op width.W))
unfolding form_named
atomic_found_w atomic.Lr = (refl, refl)
atomic_found_w atomic.Sc = (refl, refl)
atomic_found_w atomic.Amoswap = (refl, refl)
atomic_found_w atomic.Amoadd = (refl, refl)
atomic_found_w atomic.Amoxor = (refl, refl)
atomic_found_w atomic.Amoand = (refl, refl)
atomic_found_w atomic.Amoor = (refl, refl)
atomic_found_w atomic.Amomin = (refl, refl)
atomic_found_w atomic.Amomax = (refl, refl)
atomic_found_w atomic.Amominu = (refl, refl)
atomic_found_w atomic.Amomaxu = (refl, refl)

atomic_found_d : (op : AtomicOp) → IsFound (form.Word (Atomic op width.D))
unfolding form_named
atomic_found_d atomic.Lr = (refl, refl)
atomic_found_d atomic.Sc = (refl, refl)
atomic_found_d atomic.Amoswap = (refl, refl)
atomic_found_d atomic.Amoadd = (refl, refl)
atomic_found_d atomic.Amoxor = (refl, refl)
atomic_found_d atomic.Amoand = (refl, refl)
atomic_found_d atomic.Amoor = (refl, refl)
atomic_found_d atomic.Amomin = (refl, refl)
atomic_found_d atomic.Amomax = (refl, refl)
atomic_found_d atomic.Amominu = (refl, refl)
atomic_found_d atomic.Amomaxu = (refl, refl)

csr_found : (op : CsrOp) → IsFound (form.Word (Csr op))
unfolding form_named
csr_found csr.Csrrw = (refl, refl)
csr_found csr.Csrrs = (refl, refl)
csr_found csr.Csrrc = (refl, refl)
csr_found csr.Csrrwi = (refl, refl)
csr_found csr.Csrrsi = (refl, refl)
csr_found csr.Csrrci = (refl, refl)

float_load_found : (f : FloatFormat) → IsFound (form.Word (FloatLoad f))
unfolding form_named
float_load_found format.H = (refl, refl)
float_load_found format.S = (refl, refl)
float_load_found format.D = (refl, refl)

float_store_found : (f : FloatFormat) → IsFound (form.Word (FloatStore f))
unfolding form_named
float_store_found format.H = (refl, refl)
float_store_found format.S = (refl, refl)
float_store_found format.D = (refl, refl)

float_found_h : (op : FloatOp) → IsFound (form.Word (Float format.H op))
unfolding form_named
float_found_h float.Fmadd = (refl, refl)
float_found_h float.Fmsub = (refl, refl)
float_found_h float.Fnmsub = (refl, refl)
float_found_h float.Fnmadd = (refl, refl)
float_found_h float.Fadd = (refl, refl)
float_found_h float.Fsub = (refl, refl)
float_found_h float.Fmul = (refl, refl)
float_found_h float.Fdiv = (refl, refl)
float_found_h float.Fsqrt = (refl, refl)
float_found_h float.Fsgnj = (refl, refl)
float_found_h float.Fsgnjn = (refl, refl)
float_found_h float.Fsgnjx = (refl, refl)
float_found_h float.Fmin = (refl, refl)
float_found_h float.Fmax = (refl, refl)
float_found_h float.FcvtToW = (refl, refl)
float_found_h float.FcvtToWu = (refl, refl)
float_found_h float.FcvtToL = (refl, refl)
float_found_h float.FcvtToLu = (refl, refl)
float_found_h float.FmvToX = (refl, refl)
float_found_h float.Feq = (refl, refl)
float_found_h float.Flt = (refl, refl)
float_found_h float.Fle = (refl, refl)
float_found_h float.Fclass = (refl, refl)
float_found_h float.FcvtFromW = (refl, refl)
float_found_h float.FcvtFromWu = (refl, refl)
float_found_h float.FcvtFromL = (refl, refl)
float_found_h float.FcvtFromLu = (refl, refl)
float_found_h float.FmvFromX = (refl, refl)
float_found_h float.FcvtFromH = (refl, refl)
float_found_h float.FcvtFromS = (refl, refl)
float_found_h float.FcvtFromD = (refl, refl)
float_found_h float.Fli = (refl, refl)
float_found_h float.Fminm = (refl, refl)
float_found_h float.Fmaxm = (refl, refl)
float_found_h float.Fround = (refl, refl)

float_found_s : (op : FloatOp) → IsFound (form.Word (Float format.S op))
unfolding form_named
float_found_s float.Fmadd = (refl, refl)
float_found_s float.Fmsub = (refl, refl)
float_found_s float.Fnmsub = (refl, refl)
float_found_s float.Fnmadd = (refl, refl)
float_found_s float.Fadd = (refl, refl)
float_found_s float.Fsub = (refl, refl)
float_found_s float.Fmul = (refl, refl)
float_found_s float.Fdiv = (refl, refl)
float_found_s float.Fsqrt = (refl, refl)
float_found_s float.Fsgnj = (refl, refl)
float_found_s float.Fsgnjn = (refl, refl)
float_found_s float.Fsgnjx = (refl, refl)
float_found_s float.Fmin = (refl, refl)
float_found_s float.Fmax = (refl, refl)
float_found_s float.FcvtToW = (refl, refl)
float_found_s float.FcvtToWu = (refl, refl)
float_found_s float.FcvtToL = (refl, refl)
float_found_s float.FcvtToLu = (refl, refl)
float_found_s float.FmvToX = (refl, refl)
float_found_s float.Feq = (refl, refl)
float_found_s float.Flt = (refl, refl)
float_found_s float.Fle = (refl, refl)
float_found_s float.Fclass = (refl, refl)
float_found_s float.FcvtFromW = (refl, refl)
float_found_s float.FcvtFromWu = (refl, refl)
float_found_s float.FcvtFromL = (refl, refl)
float_found_s float.FcvtFromLu = (refl, refl)
float_found_s float.FmvFromX = (refl, refl)
float_found_s float.FcvtFromH = (refl, refl)
float_found_s float.FcvtFromS = (refl, refl)
float_found_s float.FcvtFromD = (refl, refl)
float_found_s float.Fli = (refl, refl)
float_found_s float.Fminm = (refl, refl)
float_found_s float.Fmaxm = (refl, refl)
float_found_s float.Fround = (refl, refl)

float_found_d : (op : FloatOp) → IsFound (form.Word (Float format.D op))
unfolding form_named
float_found_d float.Fmadd = (refl, refl)
float_found_d float.Fmsub = (refl, refl)
float_found_d float.Fnmsub = (refl, refl)
float_found_d float.Fnmadd = (refl, refl)
float_found_d float.Fadd = (refl, refl)
float_found_d float.Fsub = (refl, refl)
float_found_d float.Fmul = (refl, refl)
float_found_d float.Fdiv = (refl, refl)
float_found_d float.Fsqrt = (refl, refl)
float_found_d float.Fsgnj = (refl, refl)
float_found_d float.Fsgnjn = (refl, refl)
float_found_d float.Fsgnjx = (refl, refl)
float_found_d float.Fmin = (refl, refl)
float_found_d float.Fmax = (refl, refl)
float_found_d float.FcvtToW = (refl, refl)
float_found_d float.FcvtToWu = (refl, refl)
float_found_d float.FcvtToL = (refl, refl)
float_found_d float.FcvtToLu = (refl, refl)
float_found_d float.FmvToX = (refl, refl)
float_found_d float.Feq = (refl, refl)
float_found_d float.Flt = (refl, refl)
float_found_d float.Fle = (refl, refl)
float_found_d float.Fclass = (refl, refl)
float_found_d float.FcvtFromW = (refl, refl)
float_found_d float.FcvtFromWu = (refl, refl)
float_found_d float.FcvtFromL = (refl, refl)
float_found_d float.FcvtFromLu = (refl, refl)
float_found_d float.FmvFromX = (refl, refl)
float_found_d float.FcvtFromH = (refl, refl)
float_found_d float.FcvtFromS = (refl, refl)
float_found_d float.FcvtFromD = (refl, refl)
float_found_d float.Fli = (refl, refl)
float_found_d float.Fminm = (refl, refl)
float_found_d float.Fmaxm = (refl, refl)
float_found_d float.Fround = (refl, refl)

vector_memory_found : (op : VecMemOp) → IsFound (form.Word (VecMem op))
unfolding form_named
vector_memory_found vector.Vsetivli = (refl, refl)
vector_memory_found vector.Vle8 = (refl, refl)
vector_memory_found vector.Vle16 = (refl, refl)
vector_memory_found vector.Vle32 = (refl, refl)
vector_memory_found vector.Vle64 = (refl, refl)
vector_memory_found vector.Vse8 = (refl, refl)
vector_memory_found vector.Vse16 = (refl, refl)
vector_memory_found vector.Vse32 = (refl, refl)
vector_memory_found vector.Vse64 = (refl, refl)

half_found : (op : HalfOp) → IsFound (form.Half op)
unfolding form_named
half_found half.Addi4spn = (refl, refl)
half_found half.Fld = (refl, refl)
half_found half.Lw = (refl, refl)
half_found half.Ld = (refl, refl)
half_found half.Lbu = (refl, refl)
half_found half.Lhu = (refl, refl)
half_found half.Lh = (refl, refl)
half_found half.Sb = (refl, refl)
half_found half.Sh = (refl, refl)
half_found half.Fsd = (refl, refl)
half_found half.Sw = (refl, refl)
half_found half.Sd = (refl, refl)
half_found half.Addi = (refl, refl)
half_found half.Addiw = (refl, refl)
half_found half.Li = (refl, refl)
half_found half.Addi16sp = (refl, refl)
half_found half.Lui = (refl, refl)
half_found half.Srli = (refl, refl)
half_found half.Srai = (refl, refl)
half_found half.Andi = (refl, refl)
half_found half.Sub = (refl, refl)
half_found half.Xor = (refl, refl)
half_found half.Or = (refl, refl)
half_found half.And = (refl, refl)
half_found half.Subw = (refl, refl)
half_found half.Addw = (refl, refl)
half_found half.Mul = (refl, refl)
half_found half.ZextB = (refl, refl)
half_found half.SextB = (refl, refl)
half_found half.ZextH = (refl, refl)
half_found half.SextH = (refl, refl)
half_found half.ZextW = (refl, refl)
half_found half.Not = (refl, refl)
half_found half.J = (refl, refl)
half_found half.Slli = (refl, refl)
half_found half.Fldsp = (refl, refl)
half_found half.Lwsp = (refl, refl)
half_found half.Ldsp = (refl, refl)
half_found half.Jr = (refl, refl)
half_found half.Mv = (refl, refl)
half_found half.Ebreak = (refl, refl)
half_found half.Jalr = (refl, refl)
half_found half.Add = (refl, refl)
half_found half.Fsdsp = (refl, refl)
half_found half.Swsp = (refl, refl)
half_found half.Sdsp = (refl, refl)

vector_found : (funct6 funct3 : ℕ) → IsFound (form.Word (Vec funct6 funct3))
unfolding form_named
vector_found funct6 funct3 = (refl, refl)

alu_found : (op : AluOp) → IsFound (form.Word (Alu op))
alu_found (Int op) = int_found op
alu_found (Mul op) = mul_found op
alu_found (Bit op) = bit_found op

atomic_found : (op : AtomicOp) (w : AtomicWidth) → IsFound (form.Word (Atomic op w))
atomic_found op width.W = atomic_found_w op
atomic_found op width.D = atomic_found_d op

float_found : (f : FloatFormat) (op : FloatOp) → IsFound (form.Word (Float f op))
float_found format.H op = float_found_h op
float_found format.S op = float_found_s op
float_found format.D op = float_found_d op

word_found : (op : MOp) → IsFound (form.Word op)
word_found (Base op) = base_found op
word_found (Load op) = load_found op
word_found (Store op) = store_found op
word_found (Alu op) = alu_found op
word_found (Carry op) = carry_found op
word_found (Atomic op w) = atomic_found op w
word_found (Csr op) = csr_found op
word_found (FloatLoad f) = float_load_found f
word_found (FloatStore f) = float_store_found f
word_found (Float f op) = float_found f op
word_found (VecMem op) = vector_memory_found op
word_found (Vec funct6 funct3) = vector_found funct6 funct3

pub form_found : (f : Form) → IsFound f
form_found (form.Word op) = word_found op
form_found (form.Half op) = half_found op
