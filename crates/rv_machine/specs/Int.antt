-- "2.4 Integer Computational Instructions" of RV32I and "4.2 Integer Computational Instructions" of RV64I, and "Zicond": what
-- the operations compute of rs1, rs2 and their immediate.
use Rattle.std.specs.Prelude.{ℕ, ◌+◌, ◌-◌, ◌*◌, ◌/◌, ◌%◌, ◌^◌, ◌==◌, nat_lt, if◌then◌else◌, bit_and, bit_or, bit_xor}
use Rattle.std.specs.Int.{from_bool, int_shr}
use Rattle.rv_machine.specs.declared.ops.IntOp.{IntOp}
use Rattle.rv_machine.specs.declared.ops.IntOp.TheVariants.{Addi, Slti, Sltiu, Xori, Ori, Andi, Slli, Srli, Srai, Add, Sub, Sll, Slt, Sltu, Xor, Srl, Sra, Or, And, Addiw, Slliw, Srliw, Sraiw, Addw, Subw, Sllw, Srlw, Sraw, CzeroEqz, CzeroNez}
use Rattle.rv_machine.specs.State.{wrap, low64}
use Rattle.rv_machine.specs.Arithmetic.{signed_below, signed64, signed32, low_word, extend_word}

abbrev pub int_result : IntOp → ℕ → ℕ → ℕ → ℕ
int_result Addi x y imm = wrap (x + imm)
int_result Slti x y imm = from_bool (signed_below x imm)
int_result Sltiu x y imm = from_bool (nat_lt x imm)
int_result Xori x y imm = bit_xor x imm
int_result Ori x y imm = bit_or x imm
int_result Andi x y imm = bit_and x imm
int_result Slli x y imm = wrap (x * 2 ^ (imm % 64))
int_result Srli x y imm = x / 2 ^ (imm % 64)
int_result Srai x y imm = low64 (int_shr (signed64 x) (imm % 64))
int_result Add x y imm = wrap (x + y)
int_result Sub x y imm = wrap (x + (2 ^ 64 - y))
int_result Sll x y imm = wrap (x * 2 ^ (y % 64))
int_result Slt x y imm = from_bool (signed_below x y)
int_result Sltu x y imm = from_bool (nat_lt x y)
int_result Xor x y imm = bit_xor x y
int_result Srl x y imm = x / 2 ^ (y % 64)
int_result Sra x y imm = low64 (int_shr (signed64 x) (y % 64))
int_result Or x y imm = bit_or x y
int_result And x y imm = bit_and x y
int_result Addiw x y imm = extend_word (x + imm)
int_result Slliw x y imm = extend_word (x * 2 ^ (imm % 32))
int_result Srliw x y imm = extend_word (low_word x / 2 ^ (imm % 32))
int_result Sraiw x y imm = low64 (int_shr (signed32 x) (imm % 32))
int_result Addw x y imm = extend_word (x + y)
int_result Subw x y imm = extend_word (x + (2 ^ 64 - y))
int_result Sllw x y imm = extend_word (x * 2 ^ (y % 32))
int_result Srlw x y imm = extend_word (low_word x / 2 ^ (y % 32))
int_result Sraw x y imm = low64 (int_shr (signed32 x) (y % 32))
int_result CzeroEqz x y imm = if y == 0 then 0 else x
int_result CzeroNez x y imm = if y == 0 then x else 0
