-- Floating-point operations (chapters "F", "D", "Zfh" and "Zfa"): the fixed fields of their words, the machine's operation of
-- each, the files of their registers, and their names.
use Rattle.std.specs.Prelude.{ℕ, ◌+◌, ◌*◌, ◌^◌, ◌==◌, Bool, true, false, List, ◌++◌, codes}
use Rattle.rv_base.specs.declared.regs.RegClass.{RegClass}
use Rattle.rv_base.specs.declared.regs.RegClass.TheVariants.{Int, Float}
use Rattle.rv_machine.specs.declared.ops.FloatOp.{FloatOp}
use Rattle.rv_machine.specs.declared.ops.FloatOp.TheVariants as float
use Rattle.rv_machine.specs.Opcodes.{MADD, MSUB, NMSUB, NMADD}
use Rattle.rv_ops.specs.declared.float_fields.FpuOPWidth.{FpuOPWidth}
use Rattle.rv_ops.specs.declared.float_fields.FpuOPWidth.TheVariants.{H, S, D}
use Rattle.rv_ops.specs.declared.fpu_rr.FpuOPRR.{FpuOPRR}
use Rattle.rv_ops.specs.declared.fpu_rr.FpuOPRR.TheVariants as rr
use Rattle.rv_ops.specs.declared.fpu.FpuOPRRRR.{FpuOPRRRR}
use Rattle.rv_ops.specs.declared.fpu.FpuOPRRRR.TheVariants as rrrr
use Rattle.rv_ops.specs.declared.fpu.FpuOPRRR.{FpuOPRRR}
use Rattle.rv_ops.specs.declared.fpu.FpuOPRRR.TheVariants as rrr
use Rattle.rv_ops.specs.FloatFields.{width_name, move_name, width_bits, is_width, Rounding, Mode, Own}

-- funct5 and fmt, bits 31 to 25
abbrev pub with_width : ℕ → FpuOPWidth → ℕ
with_width funct5 width = funct5 * 2 ^ 2 + width_bits width

-- an operation's name and its format's
abbrev pub name_with_width : List ℕ → FpuOPWidth → List ℕ
name_with_width name width = name ++ codes "." ++ width_name width

-- ---- of two sources

pub record TwoSourceNumbers : Type 0 where
  pub funct5 : ℕ
  pub rounding : Rounding

abbrev pub rounds : ℕ → TwoSourceNumbers
rounds funct5 = record { funct5 = funct5; rounding = Mode }

abbrev pub fixed : ℕ → ℕ → TwoSourceNumbers
fixed funct5 number = record { funct5 = funct5; rounding = Own number }

abbrev pub fpu_rrr_numbers : FpuOPRRR → TwoSourceNumbers
fpu_rrr_numbers rrr.Fadd = rounds 0x00
fpu_rrr_numbers rrr.Fsub = rounds 0x01
fpu_rrr_numbers rrr.Fmul = rounds 0x02
fpu_rrr_numbers rrr.Fdiv = rounds 0x03
fpu_rrr_numbers rrr.Fsgnj = fixed 0x04 0
fpu_rrr_numbers rrr.Fsgnjn = fixed 0x04 1
fpu_rrr_numbers rrr.Fsgnjx = fixed 0x04 2
fpu_rrr_numbers rrr.Fmin = fixed 0x05 0
fpu_rrr_numbers rrr.Fmax = fixed 0x05 1
fpu_rrr_numbers rrr.Feq = fixed 0x14 2
fpu_rrr_numbers rrr.Flt = fixed 0x14 1
fpu_rrr_numbers rrr.Fle = fixed 0x14 0
fpu_rrr_numbers rrr.Fminm = fixed 0x05 2
fpu_rrr_numbers rrr.Fmaxm = fixed 0x05 3

abbrev pub fpu_rrr_op : FpuOPRRR → FloatOp
fpu_rrr_op rrr.Fadd = float.Fadd
fpu_rrr_op rrr.Fsub = float.Fsub
fpu_rrr_op rrr.Fmul = float.Fmul
fpu_rrr_op rrr.Fdiv = float.Fdiv
fpu_rrr_op rrr.Fsgnj = float.Fsgnj
fpu_rrr_op rrr.Fsgnjn = float.Fsgnjn
fpu_rrr_op rrr.Fsgnjx = float.Fsgnjx
fpu_rrr_op rrr.Fmin = float.Fmin
fpu_rrr_op rrr.Fmax = float.Fmax
fpu_rrr_op rrr.Feq = float.Feq
fpu_rrr_op rrr.Flt = float.Flt
fpu_rrr_op rrr.Fle = float.Fle
fpu_rrr_op rrr.Fminm = float.Fminm
fpu_rrr_op rrr.Fmaxm = float.Fmaxm

-- whether its text shows the mode's field; that of fminm and fmaxm does, though they don't round
abbrev pub fpu_rrr_shows_frm : FpuOPRRR → Bool
fpu_rrr_shows_frm rrr.Fadd = true
fpu_rrr_shows_frm rrr.Fsub = true
fpu_rrr_shows_frm rrr.Fmul = true
fpu_rrr_shows_frm rrr.Fdiv = true
fpu_rrr_shows_frm rrr.Fsgnj = false
fpu_rrr_shows_frm rrr.Fsgnjn = false
fpu_rrr_shows_frm rrr.Fsgnjx = false
fpu_rrr_shows_frm rrr.Fmin = false
fpu_rrr_shows_frm rrr.Fmax = false
fpu_rrr_shows_frm rrr.Feq = false
fpu_rrr_shows_frm rrr.Flt = false
fpu_rrr_shows_frm rrr.Fle = false
fpu_rrr_shows_frm rrr.Fminm = true
fpu_rrr_shows_frm rrr.Fmaxm = true

-- the file of its result; its sources are floating-point registers
abbrev pub fpu_rrr_result : FpuOPRRR → RegClass
fpu_rrr_result rrr.Fadd = Float
fpu_rrr_result rrr.Fsub = Float
fpu_rrr_result rrr.Fmul = Float
fpu_rrr_result rrr.Fdiv = Float
fpu_rrr_result rrr.Fsgnj = Float
fpu_rrr_result rrr.Fsgnjn = Float
fpu_rrr_result rrr.Fsgnjx = Float
fpu_rrr_result rrr.Fmin = Float
fpu_rrr_result rrr.Fmax = Float
fpu_rrr_result rrr.Feq = Int
fpu_rrr_result rrr.Flt = Int
fpu_rrr_result rrr.Fle = Int
fpu_rrr_result rrr.Fminm = Float
fpu_rrr_result rrr.Fmaxm = Float

-- the name in a listing, which has the format in a token of its own
abbrev pub fpu_rrr_listed : FpuOPRRR → List ℕ
fpu_rrr_listed rrr.Fadd = codes "Fadd"
fpu_rrr_listed rrr.Fsub = codes "Fsub"
fpu_rrr_listed rrr.Fmul = codes "Fmul"
fpu_rrr_listed rrr.Fdiv = codes "Fdiv"
fpu_rrr_listed rrr.Fsgnj = codes "Fsgnj"
fpu_rrr_listed rrr.Fsgnjn = codes "Fsgnjn"
fpu_rrr_listed rrr.Fsgnjx = codes "Fsgnjx"
fpu_rrr_listed rrr.Fmin = codes "Fmin"
fpu_rrr_listed rrr.Fmax = codes "Fmax"
fpu_rrr_listed rrr.Feq = codes "Feq"
fpu_rrr_listed rrr.Flt = codes "Flt"
fpu_rrr_listed rrr.Fle = codes "Fle"
fpu_rrr_listed rrr.Fminm = codes "Fminm"
fpu_rrr_listed rrr.Fmaxm = codes "Fmaxm"

-- the mnemonic, without its format
abbrev pub fpu_rrr_stem : FpuOPRRR → List ℕ
fpu_rrr_stem rrr.Fadd = codes "fadd"
fpu_rrr_stem rrr.Fsub = codes "fsub"
fpu_rrr_stem rrr.Fmul = codes "fmul"
fpu_rrr_stem rrr.Fdiv = codes "fdiv"
fpu_rrr_stem rrr.Fsgnj = codes "fsgnj"
fpu_rrr_stem rrr.Fsgnjn = codes "fsgnjn"
fpu_rrr_stem rrr.Fsgnjx = codes "fsgnjx"
fpu_rrr_stem rrr.Fmin = codes "fmin"
fpu_rrr_stem rrr.Fmax = codes "fmax"
fpu_rrr_stem rrr.Feq = codes "feq"
fpu_rrr_stem rrr.Flt = codes "flt"
fpu_rrr_stem rrr.Fle = codes "fle"
fpu_rrr_stem rrr.Fminm = codes "fminm"
fpu_rrr_stem rrr.Fmaxm = codes "fmaxm"

-- ---- of one source

-- bits 24 to 20 are a selector of the operation
pub record OneSourceNumbers : Type 0 where
  pub funct5 : ℕ
  pub selector : ℕ
  pub rounding : Rounding

abbrev pub rounds_one : ℕ → ℕ → OneSourceNumbers
rounds_one funct5 selector = record { funct5 = funct5; selector = selector; rounding = Mode }

abbrev pub fixed_one : ℕ → ℕ → ℕ → OneSourceNumbers
fixed_one funct5 selector number = record { funct5 = funct5; selector = selector; rounding = Own number }

abbrev pub fpu_rr_numbers : FpuOPRR → OneSourceNumbers
fpu_rr_numbers rr.Fsqrt = rounds_one 0x0b 0
fpu_rr_numbers rr.Fround = rounds_one 0x08 4
fpu_rr_numbers rr.Fclass = fixed_one 0x1c 0 1
fpu_rr_numbers rr.FcvtWFmt = rounds_one 0x18 0
fpu_rr_numbers rr.FcvtWuFmt = rounds_one 0x18 1
fpu_rr_numbers rr.FcvtLFmt = rounds_one 0x18 2
fpu_rr_numbers rr.FcvtLuFmt = rounds_one 0x18 3
fpu_rr_numbers rr.FcvtFmtW = rounds_one 0x1a 0
fpu_rr_numbers rr.FcvtFmtWu = rounds_one 0x1a 1
fpu_rr_numbers rr.FcvtFmtL = rounds_one 0x1a 2
fpu_rr_numbers rr.FcvtFmtLu = rounds_one 0x1a 3
fpu_rr_numbers rr.FmvXFmt = fixed_one 0x1c 0 0
fpu_rr_numbers rr.FmvFmtX = fixed_one 0x1e 0 0
fpu_rr_numbers rr.FcvtSH = rounds_one 0x08 2
fpu_rr_numbers rr.FcvtHS = rounds_one 0x08 0
fpu_rr_numbers rr.FcvtSD = rounds_one 0x08 1
fpu_rr_numbers rr.FcvtDS = rounds_one 0x08 0
fpu_rr_numbers rr.FcvtDH = rounds_one 0x08 2
fpu_rr_numbers rr.FcvtHD = rounds_one 0x08 1

-- fli, which loads a constant, has the funct5 of the move of bits to a floating-point register
abbrev pub fli_funct5 : ℕ
fli_funct5 = (fpu_rr_numbers rr.FmvFmtX).funct5

-- a conversion between formats is named by that of its source, and has that of its result
abbrev pub fpu_rr_op : FpuOPRR → FloatOp
fpu_rr_op rr.Fsqrt = float.Fsqrt
fpu_rr_op rr.Fround = float.Fround
fpu_rr_op rr.Fclass = float.Fclass
fpu_rr_op rr.FcvtWFmt = float.FcvtToW
fpu_rr_op rr.FcvtWuFmt = float.FcvtToWu
fpu_rr_op rr.FcvtLFmt = float.FcvtToL
fpu_rr_op rr.FcvtLuFmt = float.FcvtToLu
fpu_rr_op rr.FcvtFmtW = float.FcvtFromW
fpu_rr_op rr.FcvtFmtWu = float.FcvtFromWu
fpu_rr_op rr.FcvtFmtL = float.FcvtFromL
fpu_rr_op rr.FcvtFmtLu = float.FcvtFromLu
fpu_rr_op rr.FmvXFmt = float.FmvToX
fpu_rr_op rr.FmvFmtX = float.FmvFromX
fpu_rr_op rr.FcvtSH = float.FcvtFromH
fpu_rr_op rr.FcvtHS = float.FcvtFromS
fpu_rr_op rr.FcvtSD = float.FcvtFromD
fpu_rr_op rr.FcvtDS = float.FcvtFromS
fpu_rr_op rr.FcvtDH = float.FcvtFromH
fpu_rr_op rr.FcvtHD = float.FcvtFromD

-- rule Width: a conversion between formats has that of its result, any other operation each that the machine has
pub data Widths : Type 0 where
  Each : Widths
  Only : FpuOPWidth → Widths

abbrev pub fpu_rr_widths : FpuOPRR → Widths
fpu_rr_widths rr.Fsqrt = Each
fpu_rr_widths rr.Fround = Each
fpu_rr_widths rr.Fclass = Each
fpu_rr_widths rr.FcvtWFmt = Each
fpu_rr_widths rr.FcvtWuFmt = Each
fpu_rr_widths rr.FcvtLFmt = Each
fpu_rr_widths rr.FcvtLuFmt = Each
fpu_rr_widths rr.FcvtFmtW = Each
fpu_rr_widths rr.FcvtFmtWu = Each
fpu_rr_widths rr.FcvtFmtL = Each
fpu_rr_widths rr.FcvtFmtLu = Each
fpu_rr_widths rr.FmvXFmt = Each
fpu_rr_widths rr.FmvFmtX = Each
fpu_rr_widths rr.FcvtSH = Only S
fpu_rr_widths rr.FcvtHS = Only H
fpu_rr_widths rr.FcvtSD = Only S
fpu_rr_widths rr.FcvtDS = Only D
fpu_rr_widths rr.FcvtDH = Only D
fpu_rr_widths rr.FcvtHD = Only H

abbrev pub takes_width : Widths → FpuOPWidth → Bool
takes_width Each width = is_width width
takes_width (Only own) width = width_bits width == width_bits own

-- a conversion to an integer, which records a trap
abbrev pub is_to_integer : FpuOPRR → Bool
is_to_integer rr.Fsqrt = false
is_to_integer rr.Fround = false
is_to_integer rr.Fclass = false
is_to_integer rr.FcvtWFmt = true
is_to_integer rr.FcvtWuFmt = true
is_to_integer rr.FcvtLFmt = true
is_to_integer rr.FcvtLuFmt = true
is_to_integer rr.FcvtFmtW = false
is_to_integer rr.FcvtFmtWu = false
is_to_integer rr.FcvtFmtL = false
is_to_integer rr.FcvtFmtLu = false
is_to_integer rr.FmvXFmt = false
is_to_integer rr.FmvFmtX = false
is_to_integer rr.FcvtSH = false
is_to_integer rr.FcvtHS = false
is_to_integer rr.FcvtSD = false
is_to_integer rr.FcvtDS = false
is_to_integer rr.FcvtDH = false
is_to_integer rr.FcvtHD = false

-- whether its text shows the rounding mode
abbrev pub fpu_rr_shows_frm : FpuOPRR → Bool
fpu_rr_shows_frm rr.Fsqrt = true
fpu_rr_shows_frm rr.Fround = true
fpu_rr_shows_frm rr.Fclass = false
fpu_rr_shows_frm rr.FcvtWFmt = true
fpu_rr_shows_frm rr.FcvtWuFmt = true
fpu_rr_shows_frm rr.FcvtLFmt = true
fpu_rr_shows_frm rr.FcvtLuFmt = true
fpu_rr_shows_frm rr.FcvtFmtW = true
fpu_rr_shows_frm rr.FcvtFmtWu = true
fpu_rr_shows_frm rr.FcvtFmtL = true
fpu_rr_shows_frm rr.FcvtFmtLu = true
fpu_rr_shows_frm rr.FmvXFmt = false
fpu_rr_shows_frm rr.FmvFmtX = false
fpu_rr_shows_frm rr.FcvtSH = true
fpu_rr_shows_frm rr.FcvtHS = true
fpu_rr_shows_frm rr.FcvtSD = true
fpu_rr_shows_frm rr.FcvtDS = true
fpu_rr_shows_frm rr.FcvtDH = true
fpu_rr_shows_frm rr.FcvtHD = true

-- the files of its result and of its source
pub record Files : Type 0 where
  pub result : RegClass
  pub source : RegClass

abbrev pub files : RegClass → RegClass → Files
files result source = record { result = result; source = source }

abbrev pub fpu_rr_files : FpuOPRR → Files
fpu_rr_files rr.Fsqrt = files Float Float
fpu_rr_files rr.Fround = files Float Float
fpu_rr_files rr.Fclass = files Int Float
fpu_rr_files rr.FcvtWFmt = files Int Float
fpu_rr_files rr.FcvtWuFmt = files Int Float
fpu_rr_files rr.FcvtLFmt = files Int Float
fpu_rr_files rr.FcvtLuFmt = files Int Float
fpu_rr_files rr.FcvtFmtW = files Float Int
fpu_rr_files rr.FcvtFmtWu = files Float Int
fpu_rr_files rr.FcvtFmtL = files Float Int
fpu_rr_files rr.FcvtFmtLu = files Float Int
fpu_rr_files rr.FmvXFmt = files Int Float
fpu_rr_files rr.FmvFmtX = files Float Int
fpu_rr_files rr.FcvtSH = files Float Float
fpu_rr_files rr.FcvtHS = files Float Float
fpu_rr_files rr.FcvtSD = files Float Float
fpu_rr_files rr.FcvtDS = files Float Float
fpu_rr_files rr.FcvtDH = files Float Float
fpu_rr_files rr.FcvtHD = files Float Float

abbrev pub fpu_rr_listed : FpuOPRR → List ℕ
fpu_rr_listed rr.Fsqrt = codes "Fsqrt"
fpu_rr_listed rr.Fround = codes "Fround"
fpu_rr_listed rr.Fclass = codes "Fclass"
fpu_rr_listed rr.FcvtWFmt = codes "FcvtWFmt"
fpu_rr_listed rr.FcvtWuFmt = codes "FcvtWuFmt"
fpu_rr_listed rr.FcvtLFmt = codes "FcvtLFmt"
fpu_rr_listed rr.FcvtLuFmt = codes "FcvtLuFmt"
fpu_rr_listed rr.FcvtFmtW = codes "FcvtFmtW"
fpu_rr_listed rr.FcvtFmtWu = codes "FcvtFmtWu"
fpu_rr_listed rr.FcvtFmtL = codes "FcvtFmtL"
fpu_rr_listed rr.FcvtFmtLu = codes "FcvtFmtLu"
fpu_rr_listed rr.FmvXFmt = codes "FmvXFmt"
fpu_rr_listed rr.FmvFmtX = codes "FmvFmtX"
fpu_rr_listed rr.FcvtSH = codes "FcvtSH"
fpu_rr_listed rr.FcvtHS = codes "FcvtHS"
fpu_rr_listed rr.FcvtSD = codes "FcvtSD"
fpu_rr_listed rr.FcvtDS = codes "FcvtDS"
fpu_rr_listed rr.FcvtDH = codes "FcvtDH"
fpu_rr_listed rr.FcvtHD = codes "FcvtHD"

-- the mnemonic with its format; moves of bits name that of 32 bits w, as the manual does
abbrev pub fpu_rr_name : FpuOPRR → FpuOPWidth → List ℕ
fpu_rr_name rr.Fsqrt width = codes "fsqrt." ++ width_name width
fpu_rr_name rr.Fround width = codes "fround." ++ width_name width
fpu_rr_name rr.Fclass width = codes "fclass." ++ width_name width
fpu_rr_name rr.FcvtWFmt width = codes "fcvt.w." ++ width_name width
fpu_rr_name rr.FcvtWuFmt width = codes "fcvt.wu." ++ width_name width
fpu_rr_name rr.FcvtLFmt width = codes "fcvt.l." ++ width_name width
fpu_rr_name rr.FcvtLuFmt width = codes "fcvt.lu." ++ width_name width
fpu_rr_name rr.FcvtFmtW width = codes "fcvt." ++ width_name width ++ codes ".w"
fpu_rr_name rr.FcvtFmtWu width = codes "fcvt." ++ width_name width ++ codes ".wu"
fpu_rr_name rr.FcvtFmtL width = codes "fcvt." ++ width_name width ++ codes ".l"
fpu_rr_name rr.FcvtFmtLu width = codes "fcvt." ++ width_name width ++ codes ".lu"
fpu_rr_name rr.FmvXFmt width = codes "fmv.x." ++ move_name width
fpu_rr_name rr.FmvFmtX width = codes "fmv." ++ move_name width ++ codes ".x"
fpu_rr_name rr.FcvtSH width = codes "fcvt.s.h"
fpu_rr_name rr.FcvtHS width = codes "fcvt.h.s"
fpu_rr_name rr.FcvtSD width = codes "fcvt.s.d"
fpu_rr_name rr.FcvtDS width = codes "fcvt.d.s"
fpu_rr_name rr.FcvtDH width = codes "fcvt.d.h"
fpu_rr_name rr.FcvtHD width = codes "fcvt.h.d"

-- ---- of three sources, one of them at 31 to 27: fused multiplications, which all round and have an opcode each

abbrev pub fpu_rrrr_opcode : FpuOPRRRR → ℕ
fpu_rrrr_opcode rrrr.Fmadd = MADD
fpu_rrrr_opcode rrrr.Fmsub = MSUB
fpu_rrrr_opcode rrrr.Fnmsub = NMSUB
fpu_rrrr_opcode rrrr.Fnmadd = NMADD

abbrev pub fpu_rrrr_op : FpuOPRRRR → FloatOp
fpu_rrrr_op rrrr.Fmadd = float.Fmadd
fpu_rrrr_op rrrr.Fmsub = float.Fmsub
fpu_rrrr_op rrrr.Fnmsub = float.Fnmsub
fpu_rrrr_op rrrr.Fnmadd = float.Fnmadd

abbrev pub fpu_rrrr_listed : FpuOPRRRR → List ℕ
fpu_rrrr_listed rrrr.Fmadd = codes "Fmadd"
fpu_rrrr_listed rrrr.Fmsub = codes "Fmsub"
fpu_rrrr_listed rrrr.Fnmsub = codes "Fnmsub"
fpu_rrrr_listed rrrr.Fnmadd = codes "Fnmadd"

abbrev pub fpu_rrrr_stem : FpuOPRRRR → List ℕ
fpu_rrrr_stem rrrr.Fmadd = codes "fmadd"
fpu_rrrr_stem rrrr.Fmsub = codes "fmsub"
fpu_rrrr_stem rrrr.Fnmsub = codes "fnmsub"
fpu_rrrr_stem rrrr.Fnmadd = codes "fnmadd"
