-- The listings of the chapters "A", "Zicsr", "F", "D", "Zfh", "Zfa", "V", "Zbc" and "Zbkb": the operation of a unit that the funct
-- fields of a word name, one a line, each extension's in the manual's order.
use Rattle.std.specs.Prelude.{ℕ, ◌==◌, ◌&&◌, if◌then◌else◌, Bool, Option, Some, None}
use Rattle.rv_machine.specs.declared.ops.CarryOp.{CarryOp}
use Rattle.rv_machine.specs.declared.ops.CarryOp.TheVariants.{Clmul, Clmulh, Clmulr, Pack, Packh, Packw, Brev8}
use Rattle.rv_machine.specs.declared.ops.AtomicOp.{AtomicOp}
use Rattle.rv_machine.specs.declared.ops.AtomicOp.TheVariants.{Lr, Sc, Amoswap, Amoadd, Amoxor, Amoand, Amoor, Amomin, Amomax, Amominu, Amomaxu}
use Rattle.rv_machine.specs.declared.ops.AtomicWidth.{AtomicWidth}
use Rattle.rv_machine.specs.declared.ops.AtomicWidth.TheVariants as width
use Rattle.rv_machine.specs.declared.ops.CsrOp.{CsrOp}
use Rattle.rv_machine.specs.declared.ops.CsrOp.TheVariants.{Csrrw, Csrrs, Csrrc, Csrrwi, Csrrsi, Csrrci}
use Rattle.rv_machine.specs.declared.ops.FloatFormat.{FloatFormat}
use Rattle.rv_machine.specs.declared.ops.FloatFormat.TheVariants.{H, S, D}
use Rattle.rv_machine.specs.declared.ops.FloatOp.{FloatOp}
use Rattle.rv_machine.specs.declared.ops.FloatOp.TheVariants.{Fmadd, Fmsub, Fnmsub, Fnmadd, Fadd, Fsub, Fmul, Fdiv, Fsqrt, Fsgnj, Fsgnjn, Fsgnjx, Fmin, Fmax, FcvtToW, FcvtToWu, FcvtToL, FcvtToLu, FmvToX, Feq, Flt, Fle, Fclass, FcvtFromW, FcvtFromWu, FcvtFromL, FcvtFromLu, FmvFromX, FcvtFromH, FcvtFromS, FcvtFromD, Fli, Fminm, Fmaxm, Fround}
use Rattle.rv_machine.specs.declared.ops.VecMemOp.{VecMemOp}
use Rattle.rv_machine.specs.declared.ops.VecMemOp.TheVariants.{Vle8, Vle16, Vle32, Vle64, Vse8, Vse16, Vse32, Vse64}
use Rattle.rv_machine.specs.Opcodes.{MADD, MSUB, NMSUB, NMADD}

-- SYSTEM, of Zicsr
abbrev pub csr_entry : ℕ → Option CsrOp
csr_entry funct3 =
    if funct3 == 1 then Some Csrrw else
    if funct3 == 2 then Some Csrrs else
    if funct3 == 3 then Some Csrrc else
    if funct3 == 5 then Some Csrrwi else
    if funct3 == 6 then Some Csrrsi else
    if funct3 == 7 then Some Csrrci else
    None

-- OP-IMM, of Zbkb
abbrev pub carry_unary_entry : ℕ → ℕ → Option CarryOp
carry_unary_entry funct12 funct3 =
    if (funct12 == 0x687) && (funct3 == 5) then Some Brev8 else
    None

-- OP, of Zbc and Zbkb
abbrev pub carry_entry : ℕ → ℕ → Option CarryOp
carry_entry funct7 funct3 =
    if (funct7 == 0x05) && (funct3 == 1) then Some Clmul else
    if (funct7 == 0x05) && (funct3 == 3) then Some Clmulh else
    if (funct7 == 0x05) && (funct3 == 2) then Some Clmulr else
    if (funct7 == 0x04) && (funct3 == 4) then Some Pack else
    if (funct7 == 0x04) && (funct3 == 7) then Some Packh else
    None

-- OP-32, of Zbkb
abbrev pub carry_32_entry : ℕ → ℕ → Option CarryOp
carry_32_entry funct7 funct3 =
    if (funct7 == 0x04) && (funct3 == 4) then Some Packw else
    None

-- AMO
abbrev pub atomic_entry : ℕ → Option AtomicOp
atomic_entry funct5 =
    if funct5 == 0x02 then Some Lr else
    if funct5 == 0x03 then Some Sc else
    if funct5 == 0x01 then Some Amoswap else
    if funct5 == 0x00 then Some Amoadd else
    if funct5 == 0x04 then Some Amoxor else
    if funct5 == 0x0c then Some Amoand else
    if funct5 == 0x08 then Some Amoor else
    if funct5 == 0x10 then Some Amomin else
    if funct5 == 0x14 then Some Amomax else
    if funct5 == 0x18 then Some Amominu else
    if funct5 == 0x1c then Some Amomaxu else
    None

-- AMO, by the width
abbrev pub atomic_width_entry : ℕ → Option AtomicWidth
atomic_width_entry funct3 =
    if funct3 == 2 then Some width.W else
    if funct3 == 3 then Some width.D else
    None

-- The format that the field at 26:25 names
abbrev pub format_entry : ℕ → Option FloatFormat
format_entry fmt =
    if fmt == 0 then Some S else
    if fmt == 1 then Some D else
    if fmt == 2 then Some H else
    None

-- LOAD-FP and STORE-FP, by the width of a number
abbrev pub width_entry : ℕ → Option FloatFormat
width_entry funct3 =
    if funct3 == 1 then Some H else
    if funct3 == 2 then Some S else
    if funct3 == 3 then Some D else
    None

-- OP-FP, of two sources, with a rounding mode
abbrev pub rounded_entry : ℕ → Option FloatOp
rounded_entry funct5 =
    if funct5 == 0x00 then Some Fadd else
    if funct5 == 0x01 then Some Fsub else
    if funct5 == 0x02 then Some Fmul else
    if funct5 == 0x03 then Some Fdiv else
    None

-- OP-FP, of one source, with a rounding mode
abbrev pub rounded_unary_entry : ℕ → ℕ → Option FloatOp
rounded_unary_entry funct5 selector =
    if (funct5 == 0x0b) && (selector == 0) then Some Fsqrt else
    if (funct5 == 0x18) && (selector == 0) then Some FcvtToW else
    if (funct5 == 0x18) && (selector == 1) then Some FcvtToWu else
    if (funct5 == 0x18) && (selector == 2) then Some FcvtToL else
    if (funct5 == 0x18) && (selector == 3) then Some FcvtToLu else
    if (funct5 == 0x1a) && (selector == 0) then Some FcvtFromW else
    if (funct5 == 0x1a) && (selector == 1) then Some FcvtFromWu else
    if (funct5 == 0x1a) && (selector == 2) then Some FcvtFromL else
    if (funct5 == 0x1a) && (selector == 3) then Some FcvtFromLu else
    if (funct5 == 0x08) && (selector == 2) then Some FcvtFromH else
    if (funct5 == 0x08) && (selector == 0) then Some FcvtFromS else
    if (funct5 == 0x08) && (selector == 1) then Some FcvtFromD else
    if (funct5 == 0x08) && (selector == 4) then Some Fround else
    None

-- OP-FP, of two sources, without one
abbrev pub fixed_entry : ℕ → ℕ → Option FloatOp
fixed_entry funct5 funct3 =
    if (funct5 == 0x04) && (funct3 == 0) then Some Fsgnj else
    if (funct5 == 0x04) && (funct3 == 1) then Some Fsgnjn else
    if (funct5 == 0x04) && (funct3 == 2) then Some Fsgnjx else
    if (funct5 == 0x05) && (funct3 == 0) then Some Fmin else
    if (funct5 == 0x05) && (funct3 == 1) then Some Fmax else
    if (funct5 == 0x14) && (funct3 == 2) then Some Feq else
    if (funct5 == 0x14) && (funct3 == 1) then Some Flt else
    if (funct5 == 0x14) && (funct3 == 0) then Some Fle else
    if (funct5 == 0x05) && (funct3 == 2) then Some Fminm else
    if (funct5 == 0x05) && (funct3 == 3) then Some Fmaxm else
    None

-- OP-FP, of one source or a constant, without one
abbrev pub fixed_unary_entry : ℕ → ℕ → ℕ → Option FloatOp
fixed_unary_entry funct5 selector funct3 =
    if (funct5 == 0x1c) && (selector == 0) && (funct3 == 0) then Some FmvToX else
    if (funct5 == 0x1c) && (selector == 0) && (funct3 == 1) then Some Fclass else
    if (funct5 == 0x1e) && (selector == 0) && (funct3 == 0) then Some FmvFromX else
    if (funct5 == 0x1e) && (selector == 1) && (funct3 == 0) then Some Fli else
    None

-- MADD, MSUB, NMSUB and NMADD, by the opcode
abbrev pub fused_entry : ℕ → Option FloatOp
fused_entry opcode =
    if opcode == MADD then Some Fmadd else
    if opcode == MSUB then Some Fmsub else
    if opcode == NMSUB then Some Fnmsub else
    if opcode == NMADD then Some Fnmadd else
    None

-- a conversion from the format itself is none
abbrev pub is_own_format : FloatFormat → ℕ → ℕ → Bool
is_own_format S funct5 selector = (funct5 == 0x08) && (selector == 0)
is_own_format D funct5 selector = (funct5 == 0x08) && (selector == 1)
is_own_format H funct5 selector = (funct5 == 0x08) && (selector == 2)

-- LOAD-FP, by the width of a vector's elements
abbrev pub vector_load_entry : ℕ → Option VecMemOp
vector_load_entry funct3 =
    if funct3 == 0 then Some Vle8 else
    if funct3 == 5 then Some Vle16 else
    if funct3 == 6 then Some Vle32 else
    if funct3 == 7 then Some Vle64 else
    None

-- STORE-FP, by the width of a vector's elements
abbrev pub vector_store_entry : ℕ → Option VecMemOp
vector_store_entry funct3 =
    if funct3 == 0 then Some Vse8 else
    if funct3 == 5 then Some Vse16 else
    if funct3 == 6 then Some Vse32 else
    if funct3 == 7 then Some Vse64 else
    None
