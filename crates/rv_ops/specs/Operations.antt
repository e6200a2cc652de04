-- Integer operations: the machine's operation of each, what it takes of its sources or its immediate, and in which way it may stand in sixteen bits.
use Rattle.std.specs.Prelude.{ℕ, ◌%◌, ◌^◌, ◌==◌, ◌&&◌, not, if◌then◌else◌, ℤ, pos, Bool, true, false, Option, Some, None}
use Rattle.rv_imms.specs.Bits.{low_bits}
use Rattle.rv_ops.specs.declared.alu.AluOPRRR.{AluOPRRR}
use Rattle.rv_ops.specs.declared.alu.AluOPRRR.TheVariants as rrr
use Rattle.rv_ops.specs.declared.alu.AluOPRRI.{AluOPRRI}
use Rattle.rv_ops.specs.declared.alu.AluOPRRI.TheVariants as rri
use Rattle.rv_machine.specs.declared.ops.AluOp.{AluOp}
use Rattle.rv_machine.specs.declared.ops.AluOp.TheVariants.{Int, Mul, Bit}
use Rattle.rv_machine.specs.declared.ops.IntOp.TheVariants as int
use Rattle.rv_machine.specs.declared.ops.MulOp.TheVariants as mul
use Rattle.rv_machine.specs.declared.ops.BitOp.TheVariants as bit
use Rattle.rv_machine.specs.declared.ops.CarryOp.{CarryOp}
use Rattle.rv_machine.specs.declared.ops.CarryOp.TheVariants as carry
use Rattle.rv_machine.specs.declared.ops.MOp.{MOp}
use Rattle.rv_machine.specs.declared.ops.MOp.TheVariants.{Alu, Carry}

-- ---- what operations compute

-- an operation of the integer machine, or one of Zbc or Zbkb
pub data Computation : Type 0 where
  OfIntegers : AluOp → Computation
  OfCarry : CarryOp → Computation

abbrev pub row_of : Computation → MOp
row_of (OfIntegers op) = Alu op
row_of (OfCarry op) = Carry op

abbrev pub is_of_carry : Computation → Bool
is_of_carry (OfIntegers op) = false
is_of_carry (OfCarry op) = true

-- The operation of the integer machine. Of Zbc and Zbkb one line alone has one, which is packw of x0: what others have means nothing.
abbrev pub integer_op : Computation → AluOp
integer_op (OfIntegers op) = op
integer_op (OfCarry op) = Bit bit.ZextH

-- ---- two registers

-- The ways in which operations of two registers stand in sixteen bits: as c.add; as c.and, c.or, c.xor and c.addw, whose destination is
-- either source; as c.sub and c.subw, whose destination is the first; as c.mul, whose destination is either, under flags of its own; and
-- as c.zext.w.
pub data RegisterForm : Type 0 where
  AddForm : RegisterForm
  EitherForm : RegisterForm
  FirstForm : RegisterForm
  MulForm : RegisterForm
  ZextWForm : RegisterForm

-- the machine's operation, whether it takes the two sources exchanged, and in which way it may stand in sixteen bits
pub record RegisterOperation : Type 0 where
  pub does : Computation
  pub is_exchanged : Bool
  pub short : Option RegisterForm

abbrev pub straight : AluOp → RegisterOperation
straight op = record { does = OfIntegers op; is_exchanged = false; short = None }

abbrev pub exchanged : AluOp → RegisterOperation
exchanged op = record { does = OfIntegers op; is_exchanged = true; short = None }

abbrev pub of_carry : CarryOp → RegisterOperation
of_carry op = record { does = OfCarry op; is_exchanged = false; short = None }

-- sgt and sgtu are slt and sltu with the sources exchanged
abbrev pub rrr_operation : AluOPRRR → RegisterOperation
rrr_operation rrr.Add = record (straight (Int int.Add)) { short = Some AddForm }
rrr_operation rrr.Sub = record (straight (Int int.Sub)) { short = Some FirstForm }
rrr_operation rrr.Sll = straight (Int int.Sll)
rrr_operation rrr.Slt = straight (Int int.Slt)
rrr_operation rrr.Sgt = exchanged (Int int.Slt)
rrr_operation rrr.SltU = straight (Int int.Sltu)
rrr_operation rrr.Sgtu = exchanged (Int int.Sltu)
rrr_operation rrr.Xor = record (straight (Int int.Xor)) { short = Some EitherForm }
rrr_operation rrr.Srl = straight (Int int.Srl)
rrr_operation rrr.Sra = straight (Int int.Sra)
rrr_operation rrr.Or = record (straight (Int int.Or)) { short = Some EitherForm }
rrr_operation rrr.And = record (straight (Int int.And)) { short = Some EitherForm }
rrr_operation rrr.Addw = record (straight (Int int.Addw)) { short = Some EitherForm }
rrr_operation rrr.Subw = record (straight (Int int.Subw)) { short = Some FirstForm }
rrr_operation rrr.Sllw = straight (Int int.Sllw)
rrr_operation rrr.Srlw = straight (Int int.Srlw)
rrr_operation rrr.Sraw = straight (Int int.Sraw)
rrr_operation rrr.Mul = record (straight (Mul mul.Mul)) { short = Some MulForm }
rrr_operation rrr.Mulh = straight (Mul mul.Mulh)
rrr_operation rrr.Mulhsu = straight (Mul mul.Mulhsu)
rrr_operation rrr.Mulhu = straight (Mul mul.Mulhu)
rrr_operation rrr.Div = straight (Mul mul.Div)
rrr_operation rrr.DivU = straight (Mul mul.Divu)
rrr_operation rrr.Rem = straight (Mul mul.Rem)
rrr_operation rrr.RemU = straight (Mul mul.Remu)
rrr_operation rrr.Mulw = straight (Mul mul.Mulw)
rrr_operation rrr.Divw = straight (Mul mul.Divw)
rrr_operation rrr.Divuw = straight (Mul mul.Divuw)
rrr_operation rrr.Remw = straight (Mul mul.Remw)
rrr_operation rrr.Remuw = straight (Mul mul.Remuw)
rrr_operation rrr.Adduw = record (straight (Bit bit.AddUw)) { short = Some ZextWForm }
rrr_operation rrr.Andn = straight (Bit bit.Andn)
rrr_operation rrr.Bclr = straight (Bit bit.Bclr)
rrr_operation rrr.Bext = straight (Bit bit.Bext)
rrr_operation rrr.Binv = straight (Bit bit.Binv)
rrr_operation rrr.Bset = straight (Bit bit.Bset)
rrr_operation rrr.Max = straight (Bit bit.Max)
rrr_operation rrr.Maxu = straight (Bit bit.Maxu)
rrr_operation rrr.Min = straight (Bit bit.Min)
rrr_operation rrr.Minu = straight (Bit bit.Minu)
rrr_operation rrr.Orn = straight (Bit bit.Orn)
rrr_operation rrr.Rol = straight (Bit bit.Rol)
rrr_operation rrr.Rolw = straight (Bit bit.Rolw)
rrr_operation rrr.Ror = straight (Bit bit.Ror)
rrr_operation rrr.Rorw = straight (Bit bit.Rorw)
rrr_operation rrr.Sh1add = straight (Bit bit.Sh1add)
rrr_operation rrr.Sh1adduw = straight (Bit bit.Sh1addUw)
rrr_operation rrr.Sh2add = straight (Bit bit.Sh2add)
rrr_operation rrr.Sh2adduw = straight (Bit bit.Sh2addUw)
rrr_operation rrr.Sh3add = straight (Bit bit.Sh3add)
rrr_operation rrr.Sh3adduw = straight (Bit bit.Sh3addUw)
rrr_operation rrr.Xnor = straight (Bit bit.Xnor)
rrr_operation rrr.CzeroEqz = straight (Int int.CzeroEqz)
rrr_operation rrr.CzeroNez = straight (Int int.CzeroNez)
rrr_operation rrr.Clmul = of_carry carry.Clmul
rrr_operation rrr.Clmulh = of_carry carry.Clmulh
rrr_operation rrr.Clmulr = of_carry carry.Clmulr
rrr_operation rrr.Pack = of_carry carry.Pack
rrr_operation rrr.Packw = of_carry carry.Packw
rrr_operation rrr.Packh = of_carry carry.Packh

abbrev pub rrr_op : AluOPRRR → AluOp
rrr_op operation = integer_op (rrr_operation operation).does

-- whether it is one of Zbc or Zbkb
abbrev pub is_carry : AluOPRRR → Bool
is_carry operation = is_of_carry (rrr_operation operation).does

abbrev pub is_packw : Computation → Bool
is_packw (OfIntegers op) = false
is_packw (OfCarry carry.Clmul) = false
is_packw (OfCarry carry.Clmulh) = false
is_packw (OfCarry carry.Clmulr) = false
is_packw (OfCarry carry.Pack) = false
is_packw (OfCarry carry.Packh) = false
is_packw (OfCarry carry.Packw) = true
is_packw (OfCarry carry.Brev8) = false

-- whether it is one with this second source: packw of x0 is zext.h, which is one of the integer machine
abbrev pub is_carry_line : AluOPRRR → ℕ → Bool
is_carry_line operation rs2 = is_carry operation && not (is_packw (rrr_operation operation).does && (rs2 == 0))

-- the machine's operation, with this second source
abbrev pub rrr_row : AluOPRRR → ℕ → MOp
rrr_row operation rs2 = if is_carry_line operation rs2 then row_of (rrr_operation operation).does else Alu (rrr_op operation)

abbrev pub is_exchanged : AluOPRRR → Bool
is_exchanged operation = (rrr_operation operation).is_exchanged

-- ---- a register and an immediate

-- what an operation takes of an immediate
pub data Immediate : Type 0 where
  -- all of it
  Whole : Immediate
  -- so many low bits: a shift amount, or a bit's index
  Amount : ℕ → Immediate
  -- nothing: it has one source
  Without : Immediate

-- The ways in which operations of a register and an immediate stand in sixteen bits: as c.mv, c.addi16sp, c.addi4spn, c.li or c.addi; as
-- c.mv alone; as c.addiw; as c.slli; as c.srli or c.srai; as c.zext.b or c.andi; as c.not; and as c.sext.b, c.sext.h or c.zext.h.
pub data ImmediateForm : Type 0 where
  AddiForm : ImmediateForm
  OriForm : ImmediateForm
  AddiwForm : ImmediateForm
  SlliForm : ImmediateForm
  RightShiftForm : ImmediateForm
  AndiForm : ImmediateForm
  NotForm : ImmediateForm
  ExtendForm : ImmediateForm

-- the machine's operation, what it takes of an immediate, and in which way it may stand in sixteen bits
pub record ImmediateOperation : Type 0 where
  pub does : Computation
  pub immediate : Immediate
  pub short : Option ImmediateForm

abbrev pub whole : AluOp → ImmediateOperation
whole op = record { does = OfIntegers op; immediate = Whole; short = None }

abbrev pub amount : ℕ → AluOp → ImmediateOperation
amount bits op = record { does = OfIntegers op; immediate = Amount bits; short = None }

abbrev pub alone : AluOp → ImmediateOperation
alone op = record { does = OfIntegers op; immediate = Without; short = None }

abbrev pub alone_of_carry : CarryOp → ImmediateOperation
alone_of_carry op = record { does = OfCarry op; immediate = Without; short = None }

abbrev pub rri_operation : AluOPRRI → ImmediateOperation
rri_operation rri.Addi = record (whole (Int int.Addi)) { short = Some AddiForm }
rri_operation rri.Slti = whole (Int int.Slti)
rri_operation rri.SltiU = whole (Int int.Sltiu)
rri_operation rri.Xori = record (whole (Int int.Xori)) { short = Some NotForm }
rri_operation rri.Ori = record (whole (Int int.Ori)) { short = Some OriForm }
rri_operation rri.Andi = record (whole (Int int.Andi)) { short = Some AndiForm }
rri_operation rri.Slli = record (amount 6 (Int int.Slli)) { short = Some SlliForm }
rri_operation rri.Srli = record (amount 6 (Int int.Srli)) { short = Some RightShiftForm }
rri_operation rri.Srai = record (amount 6 (Int int.Srai)) { short = Some RightShiftForm }
rri_operation rri.Addiw = record (whole (Int int.Addiw)) { short = Some AddiwForm }
rri_operation rri.Slliw = amount 5 (Int int.Slliw)
rri_operation rri.SrliW = amount 5 (Int int.Srliw)
rri_operation rri.Sraiw = amount 5 (Int int.Sraiw)
rri_operation rri.Bclri = amount 6 (Bit bit.Bclri)
rri_operation rri.Bexti = amount 6 (Bit bit.Bexti)
rri_operation rri.Binvi = amount 6 (Bit bit.Binvi)
rri_operation rri.Bseti = amount 6 (Bit bit.Bseti)
rri_operation rri.Rori = amount 6 (Bit bit.Rori)
rri_operation rri.Roriw = amount 5 (Bit bit.Roriw)
rri_operation rri.SlliUw = amount 6 (Bit bit.SlliUw)
rri_operation rri.Clz = alone (Bit bit.Clz)
rri_operation rri.Clzw = alone (Bit bit.Clzw)
rri_operation rri.Cpop = alone (Bit bit.Cpop)
rri_operation rri.Cpopw = alone (Bit bit.Cpopw)
rri_operation rri.Ctz = alone (Bit bit.Ctz)
rri_operation rri.Ctzw = alone (Bit bit.Ctzw)
rri_operation rri.Rev8 = alone (Bit bit.Rev8)
rri_operation rri.Sextb = record (alone (Bit bit.SextB)) { short = Some ExtendForm }
rri_operation rri.Sexth = record (alone (Bit bit.SextH)) { short = Some ExtendForm }
rri_operation rri.Zexth = record (alone (Bit bit.ZextH)) { short = Some ExtendForm }
rri_operation rri.Orcb = alone (Bit bit.OrcB)
rri_operation rri.Brev8 = alone_of_carry carry.Brev8

abbrev pub rri_op : AluOPRRI → AluOp
rri_op operation = integer_op (rri_operation operation).does

-- whether it is one of Zbkb
abbrev pub is_carry_unary : AluOPRRI → Bool
is_carry_unary operation = is_of_carry (rri_operation operation).does

abbrev pub rri_row : AluOPRRI → MOp
rri_row operation = row_of (rri_operation operation).does

abbrev pub immediate_of : AluOPRRI → Immediate
immediate_of operation = (rri_operation operation).immediate

-- what a word keeps of an immediate
abbrev pub kept_bits : Immediate → ℤ → ℤ
kept_bits Whole imm = imm
kept_bits (Amount bits) imm = pos (low_bits (2 ^ 12) imm % 2 ^ bits)
kept_bits Without imm = pos 0

-- one more than the largest immediate that an operation takes, where that is a shift amount or a bit's index
abbrev pub shift_limit : Immediate → Option ℕ
shift_limit Whole = None
shift_limit (Amount bits) = Some (2 ^ bits)
shift_limit Without = None
