-- Compressed operations, by the layout of their halfword (chapters "C" and "Zcb", "RVC Instruction Set Listings"): their
-- quadrant, which is bits 1 to 0, and their other fixed fields; a row an operation.
use Rattle.std.specs.Prelude.{ℕ}
use Rattle.rv_ops.specs.declared.compressed.COpcodeSpace.{COpcodeSpace}
use Rattle.rv_ops.specs.declared.compressed.COpcodeSpace.TheVariants.{C0, C1, C2}
use Rattle.rv_ops.specs.declared.compressed.CrOp.{CrOp}
use Rattle.rv_ops.specs.declared.compressed.CrOp.TheVariants.{CMv, CAdd, CJr, CJalr, CEbreak}
use Rattle.rv_ops.specs.declared.compressed.CaOp.{CaOp}
use Rattle.rv_ops.specs.declared.compressed.CaOp.TheVariants.{CAnd, COr, CXor, CSub, CAddw, CSubw, CMul}
use Rattle.rv_ops.specs.declared.compressed.CjOp.{CjOp}
use Rattle.rv_ops.specs.declared.compressed.CjOp.TheVariants.{CJ}
use Rattle.rv_ops.specs.declared.compressed.CiOp.{CiOp}
use Rattle.rv_ops.specs.declared.compressed.CiOp.TheVariants.{CAddi, CAddiw, CAddi16sp, CSlli, CLi, CLui, CLwsp, CLdsp}
use Rattle.rv_ops.specs.declared.compressed.CiwOp.{CiwOp}
use Rattle.rv_ops.specs.declared.compressed.CiwOp.TheVariants.{CAddi4spn}
use Rattle.rv_ops.specs.declared.compressed.CbOp.{CbOp}
use Rattle.rv_ops.specs.declared.compressed.CbOp.TheVariants.{CSrli, CSrai, CAndi}
use Rattle.rv_ops.specs.declared.compressed.CssOp.{CssOp}
use Rattle.rv_ops.specs.declared.compressed.CssOp.TheVariants.{CSwsp, CSdsp}
use Rattle.rv_ops.specs.declared.compressed.CsOp.{CsOp}
use Rattle.rv_ops.specs.declared.compressed.CsOp.TheVariants.{CSw, CSd}
use Rattle.rv_ops.specs.declared.compressed.ClOp.{ClOp}
use Rattle.rv_ops.specs.declared.compressed.ClOp.TheVariants.{CLw, CLd}
use Rattle.rv_ops.specs.declared.compressed.CFloatOp.{CFloatOp}
use Rattle.rv_ops.specs.declared.compressed.CFloatOp.TheVariants.{CFld, CFsd, CFldsp, CFsdsp}
use Rattle.rv_ops.specs.declared.compressed.CsznOp.{CsznOp}
use Rattle.rv_ops.specs.declared.compressed.CsznOp.TheVariants.{CNot, CZextb, CZexth, CZextw, CSextb, CSexth}
use Rattle.rv_ops.specs.declared.compressed.ZcbMemOp.{ZcbMemOp}
use Rattle.rv_ops.specs.declared.compressed.ZcbMemOp.TheVariants.{CLbu, CLhu, CLh, CSb, CSh}

abbrev pub space_bits : COpcodeSpace → ℕ
space_bits C0 = 0
space_bits C1 = 1
space_bits C2 = 2

-- ---- funct3, bits 15 to 13, alone: CJ, CI, CIW, CSS, CS and CL

pub record Funct3Numbers : Type 0 where
  pub space : COpcodeSpace
  pub funct3 : ℕ

abbrev pub in_c0 : ℕ → Funct3Numbers
in_c0 funct3 = record { space = C0; funct3 = funct3 }

abbrev pub in_c1 : ℕ → Funct3Numbers
in_c1 funct3 = record { space = C1; funct3 = funct3 }

abbrev pub in_c2 : ℕ → Funct3Numbers
in_c2 funct3 = record { space = C2; funct3 = funct3 }

abbrev pub cj_numbers : CjOp → Funct3Numbers
cj_numbers CJ = in_c1 0b101

abbrev pub ci_numbers : CiOp → Funct3Numbers
ci_numbers CAddi = in_c1 0b000
ci_numbers CAddiw = in_c1 0b001
ci_numbers CLi = in_c1 0b010
ci_numbers CAddi16sp = in_c1 0b011
ci_numbers CLui = in_c1 0b011
ci_numbers CSlli = in_c2 0b000
ci_numbers CLwsp = in_c2 0b010
ci_numbers CLdsp = in_c2 0b011

abbrev pub ciw_numbers : CiwOp → Funct3Numbers
ciw_numbers CAddi4spn = in_c0 0b000

abbrev pub css_numbers : CssOp → Funct3Numbers
css_numbers CSwsp = in_c2 0b110
css_numbers CSdsp = in_c2 0b111

abbrev pub cs_numbers : CsOp → Funct3Numbers
cs_numbers CSw = in_c0 0b110
cs_numbers CSd = in_c0 0b111

abbrev pub cl_numbers : ClOp → Funct3Numbers
cl_numbers CLw = in_c0 0b010
cl_numbers CLd = in_c0 0b011

-- loads and stores of floating-point registers
abbrev pub c_float_numbers : CFloatOp → Funct3Numbers
c_float_numbers CFld = in_c0 0b001
c_float_numbers CFsd = in_c0 0b101
c_float_numbers CFldsp = in_c2 0b001
c_float_numbers CFsdsp = in_c2 0b101

-- ---- CR

pub record CrNumbers : Type 0 where
  pub space : COpcodeSpace
  pub funct4 : ℕ

abbrev pub cr : ℕ → CrNumbers
cr funct4 = record { space = C2; funct4 = funct4 }

abbrev pub cr_numbers : CrOp → CrNumbers
cr_numbers CJr = cr 0b1000
cr_numbers CMv = cr 0b1000
cr_numbers CEbreak = cr 0b1001
cr_numbers CJalr = cr 0b1001
cr_numbers CAdd = cr 0b1001

-- ---- CA

pub record CaNumbers : Type 0 where
  pub space : COpcodeSpace
  pub funct6 : ℕ
  pub funct2 : ℕ

abbrev pub ca : ℕ → ℕ → CaNumbers
ca funct6 funct2 = record { space = C1; funct6 = funct6; funct2 = funct2 }

abbrev pub ca_numbers : CaOp → CaNumbers
ca_numbers CSub = ca 0b100011 0b00
ca_numbers CXor = ca 0b100011 0b01
ca_numbers COr = ca 0b100011 0b10
ca_numbers CAnd = ca 0b100011 0b11
ca_numbers CSubw = ca 0b100111 0b00
ca_numbers CAddw = ca 0b100111 0b01
ca_numbers CMul = ca 0b100111 0b10

-- ---- CB

pub record CbNumbers : Type 0 where
  pub space : COpcodeSpace
  pub funct3 : ℕ
  pub funct2 : ℕ

abbrev pub cb : ℕ → ℕ → CbNumbers
cb funct3 funct2 = record { space = C1; funct3 = funct3; funct2 = funct2 }

abbrev pub cb_numbers : CbOp → CbNumbers
cb_numbers CSrli = cb 0b100 0b00
cb_numbers CSrai = cb 0b100 0b01
cb_numbers CAndi = cb 0b100 0b10

-- ---- Zcb, of one register

pub record CsznNumbers : Type 0 where
  pub space : COpcodeSpace
  pub funct6 : ℕ
  pub funct5 : ℕ

abbrev pub cszn : ℕ → ℕ → CsznNumbers
cszn funct6 funct5 = record { space = C1; funct6 = funct6; funct5 = funct5 }

abbrev pub cszn_numbers : CsznOp → CsznNumbers
cszn_numbers CZextb = cszn 0b100111 0b11000
cszn_numbers CSextb = cszn 0b100111 0b11001
cszn_numbers CZexth = cszn 0b100111 0b11010
cszn_numbers CSexth = cszn 0b100111 0b11011
cszn_numbers CZextw = cszn 0b100111 0b11100
cszn_numbers CNot = cszn 0b100111 0b11101

-- ---- Zcb, loads and stores

-- imm_bits: how many bits the immediate has; a byte's counts bytes, a halfword's halfwords
pub record ZcbNumbers : Type 0 where
  pub space : COpcodeSpace
  pub funct6 : ℕ
  pub imm_bits : ℕ

abbrev pub zcb : ℕ → ℕ → ZcbNumbers
zcb funct6 imm_bits = record { space = C0; funct6 = funct6; imm_bits = imm_bits }

abbrev pub zcb_numbers : ZcbMemOp → ZcbNumbers
zcb_numbers CLbu = zcb 0b100000 2
zcb_numbers CLhu = zcb 0b100001 1
zcb_numbers CLh = zcb 0b100001 1
zcb_numbers CSb = zcb 0b100010 2
zcb_numbers CSh = zcb 0b100011 1
