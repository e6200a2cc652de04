-- The listing of a program: an operation loads what it names from their places, and stores its value in its own. A link of the proof: no
-- promise speaks of it.
use Rattle.std.specs.Prelude.{ℕ, suc, ◌+◌, ◌-◌, ◌*◌, ◌%◌, List, [], ◌∷◌, ◌++◌, length, None, ℤ, negsuc}
use Rattle.std.proofs.Common.{lit<, lit≤}
use Rattle.std.proofs.Math.Nat.{mod-lt, add-lt-add_of_le_of_lt}
use Rattle.rv_base.specs.declared.amode.AMode.TheVariants.{SPOffset}
use Rattle.rv_base.specs.declared.condcodes.IntCC.TheVariants.{NotEqual}
use Rattle.rv_base.specs.declared.ir_type.IrType.TheVariants.{I64}
use Rattle.rv_base.specs.declared.mem_flags.MemFlagsData.{MemFlagsData}
use Rattle.rv_base.specs.declared.regs.Reg.{Reg}
use Rattle.rv_base.specs.declared.regs.Writable.{Writable}
use Rattle.rv_base.specs.declared.value_regs.ValueRegs.TheVariants.{One}
use Rattle.rv_ops.specs.declared.alu.AluOPRRR.{AluOPRRR}
use Rattle.rv_ops.specs.declared.alu.AluOPRRR.TheVariants as rrr
use Rattle.rv_ops.specs.declared.compare.IntegerCompare.{IntegerCompare}
use Rattle.rv_ops.specs.declared.memory.LoadOP.TheVariants.{Ld}
use Rattle.rv_ops.specs.declared.memory.StoreOP.TheVariants.{Sd}
use Rattle.rv_inst.specs.declared.inst.Inst.TheVariants.{Load, Store, LoadInlineConst, AluRRR, Select, Ret}
use Rattle.rv_inst.specs.declared.inst.Line.{Line}
use Rattle.rv_inst.specs.declared.inst.Line.TheVariants.{Inst as Put}
use Rattle.rv_asm.specs.Users.{int_reg}
use Rattle.rv_expr.specs.declared.ops.BinOp.{BinOp}
use Rattle.rv_expr.specs.declared.ops.BinOp.TheVariants.{Add, Sub, Mul, And, Or, Xor, Shl, Shr, Sar, DivU, RemU, Ltu}
use Rattle.rv_expr.specs.declared.ops.ExprOp.{ExprOp}
use Rattle.rv_expr.specs.declared.ops.ExprOp.TheVariants.{Const, Arg, Bin, Pick}

-- ---- registers and places

abbrev pub zero : Reg
zero = int_reg 0 (lit< tt)

abbrev pub t0 : Reg
t0 = int_reg 5 (lit< tt)

abbrev pub t1 : Reg
t1 = int_reg 6 (lit< tt)

abbrev pub t2 : Reg
t2 = int_reg 7 (lit< tt)

abbrev pub a0 : Reg
a0 = int_reg 10 (lit< tt)

-- one of a0 to a7, by the number of an argument
abbrev pub argument : ℕ → Reg
argument k = int_reg (10 + k % 8) (add-lt-add_of_le_of_lt {a = 10} {b = 24} {c = k % 8} {d = 8} (lit≤ tt) (mod-lt k (lit< tt)))

abbrev pub written : Reg → Writable Reg
written r = record { reg = r }

-- how far the place of an operation is from the stack pointer, which is above it
abbrev pub place_offset : ℕ → ℤ
place_offset i = negsuc (8 * i + 7)

abbrev pub no_trap : MemFlagsData
no_trap = record { trap = None }

-- ---- lines

abbrev pub load_from : Reg → ℕ → Line
load_from r i = Put (Load (written r) Ld no_trap (SPOffset (place_offset i)))

abbrev pub store_to : Reg → ℕ → Line
store_to r i = Put (Store r Sd no_trap (SPOffset (place_offset i)))

abbrev pub constant : ℕ → Line
constant n = Put (LoadInlineConst (written t0) I64 n)

abbrev pub alu_of : BinOp → AluOPRRR
alu_of Add = rrr.Add
alu_of Sub = rrr.Sub
alu_of Mul = rrr.Mul
alu_of And = rrr.And
alu_of Or = rrr.Or
alu_of Xor = rrr.Xor
alu_of Shl = rrr.Sll
alu_of Shr = rrr.Srl
alu_of Sar = rrr.Sra
alu_of DivU = rrr.DivU
alu_of RemU = rrr.RemU
alu_of Ltu = rrr.SltU

abbrev pub alu : BinOp → Line
alu op = Put (AluRRR (alu_of op) (written t0) t0 t1)

abbrev pub not_zero : IntegerCompare
not_zero = record { kind = NotEqual; rs1 = t0; rs2 = zero }

-- t1 stays, or becomes t2 where t0 is 0
abbrev pub choice : Line
choice = Put (Select (record { dst = One (written t1); condition = not_zero; x = One t1; y = One t2 }))

-- ---- programs

abbrev pub op_lines : ℕ → ExprOp → List Line
op_lines i (Const n) = constant n ∷ store_to t0 i ∷ []
op_lines i (Arg k) = store_to (argument k) i ∷ []
op_lines i (Bin op x y) = load_from t0 x ∷ load_from t1 y ∷ alu op ∷ store_to t0 i ∷ []
op_lines i (Pick c x y) = load_from t0 c ∷ load_from t1 x ∷ load_from t2 y ∷ choice ∷ store_to t1 i ∷ []

-- the lines of operations, the first of which has a number
abbrev pub lines_from : ℕ → List ExprOp → List Line
lines_from i [] = []
lines_from i (op ∷ ops) = op_lines i op ++ lines_from (suc i) ops

-- the value of an operation is returned
abbrev pub end_lines : ℕ → List Line
end_lines i = load_from a0 i ∷ Put Ret ∷ []

abbrev pub listing : List ExprOp → List Line
listing ops = lines_from 0 ops ++ end_lines (length ops - 1)
