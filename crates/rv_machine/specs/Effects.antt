-- What each operation does, in the manual's terms: registers hold 64 bits, and sums wrap.
use Rattle.std.specs.Prelude.{ℕ, ◌+◌, ◌*◌, ◌/◌, ◌^◌, nat_eq, nat_lt, if◌then◌else◌, Bool, not, List, Option, Some, None}
use Rattle.rv_machine.specs.declared.decoding.Decoded.{Decoded}
use Rattle.rv_machine.specs.declared.ops.MOp.{MOp}
use Rattle.rv_machine.specs.declared.ops.MOp.TheVariants.{Base, Load, Store, Alu, Carry, Atomic, Csr, FloatLoad, FloatStore, Float, VecMem, Vec}
use Rattle.rv_machine.specs.declared.ops.BaseOp.{BaseOp}
use Rattle.rv_machine.specs.declared.ops.BaseOp.TheVariants.{Lui, Auipc, Jal, Jalr, Beq, Bne, Blt, Bge, Bltu, Bgeu, Fence, Ebreak}
use Rattle.rv_machine.specs.declared.ops.AluOp.{AluOp}
use Rattle.rv_machine.specs.declared.ops.AluOp.TheVariants.{Int, Mul, Bit}
use Rattle.rv_machine.specs.State.{State, reg, set_reg, at, store, wrap, low64}
use Rattle.rv_machine.specs.Arithmetic.{signed_below}
use Rattle.rv_machine.specs.Int.{int_result}
use Rattle.rv_machine.specs.MulDiv.{mul_result}
use Rattle.rv_machine.specs.Bits.{bit_result}
use Rattle.rv_machine.specs.Memory.{load_result, store_bytes}

-- ---- what operations read and write

-- the value of rs1
abbrev pub x_of : Decoded → State → ℕ
x_of d s = reg s.values d.rs1

-- the value of rs2
abbrev pub y_of : Decoded → State → ℕ
y_of d s = reg s.values d.rs2

-- the immediate, modulo 2 ^ 64
abbrev pub imm_of : Decoded → ℕ
imm_of d = low64 d.imm

-- the address after the word
abbrev pub next_of : Decoded → State → ℕ
next_of d s = wrap (s.pc + d.len)

-- a value goes to rd
abbrev pub puts : Decoded → State → ℕ → State
puts d s n = at (next_of d s) (set_reg s.values d.rd n)

-- the address of a load or a store
abbrev pub address_of : Decoded → State → ℕ
address_of d s = wrap (x_of d s + imm_of d)

-- bytes go to the address
abbrev pub writes : Decoded → State → List ℕ → State
writes d s bytes = at (next_of d s) (record { regs = s.values.regs; mem = store s.values.mem (address_of d s) bytes })

-- the address after the word goes to rd, and the machine to an address
abbrev pub links : Decoded → State → ℕ → State
links d s target = at target (set_reg s.values d.rd (next_of d s))

-- the machine goes by the immediate where the test holds
abbrev pub branches : Decoded → State → Bool → State
branches d s taken = at (if taken then wrap (s.pc + imm_of d) else next_of d s) s.values

-- ---- by family

-- what an operation computes of rs1, rs2 and its immediate, all below 2 ^ 64
abbrev pub alu_result : AluOp → ℕ → ℕ → ℕ → ℕ
alu_result (Int op) x y imm = int_result op x y imm
alu_result (Mul op) x y imm = mul_result op x y
alu_result (Bit op) x y imm = bit_result op x y imm

-- what the other operations of RV64I do; ebreak has no step
abbrev pub base_act : BaseOp → Decoded → State → Option State
base_act Lui d s = Some (puts d s (wrap (imm_of d * 2 ^ 12)))
base_act Auipc d s = Some (puts d s (wrap (s.pc + imm_of d * 2 ^ 12)))
base_act Jal d s = Some (links d s (wrap (s.pc + imm_of d)))
base_act Jalr d s = Some (links d s (wrap (x_of d s + imm_of d) / 2 * 2))
base_act Beq d s = Some (branches d s (nat_eq (x_of d s) (y_of d s)))
base_act Bne d s = Some (branches d s (not (nat_eq (x_of d s) (y_of d s))))
base_act Blt d s = Some (branches d s (signed_below (x_of d s) (y_of d s)))
base_act Bge d s = Some (branches d s (not (signed_below (x_of d s) (y_of d s))))
base_act Bltu d s = Some (branches d s (nat_lt (x_of d s) (y_of d s)))
base_act Bgeu d s = Some (branches d s (not (nat_lt (x_of d s) (y_of d s))))
base_act Fence d s = Some (at (next_of d s) s.values)
base_act Ebreak d s = None

-- the units' operations are none of this machine's
abbrev pub act_on : MOp → Decoded → State → Option State
act_on (Base op) d s = base_act op d s
act_on (Load op) d s = Some (puts d s (load_result op s.values.mem (address_of d s)))
act_on (Store op) d s = Some (writes d s (store_bytes op (y_of d s)))
act_on (Alu op) d s = Some (puts d s (alu_result op (x_of d s) (y_of d s) (imm_of d)))
act_on (Carry op) d s = None
act_on (Atomic op width) d s = None
act_on (Csr op) d s = None
act_on (FloatLoad format) d s = None
act_on (FloatStore format) d s = None
act_on (Float format op) d s = None
act_on (VecMem op) d s = None
act_on (Vec funct6 funct3) d s = None

-- the state after an operation, where it has a step
abbrev pub act : Decoded → State → Option State
act d s = act_on d.op d s
