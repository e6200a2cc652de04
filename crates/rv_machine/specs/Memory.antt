-- "2.6 Load and Store Instructions" of RV32I and "4.3 Load and Store Instructions" of RV64I: the bytes that a load reads and
-- what it makes of them, and the bytes that a store writes, at any alignment.
use Rattle.std.specs.Prelude.{ℕ, zero, suc, ◌+◌, ◌*◌, ◌^◌, List, take}
use Rattle.std.specs.Int.{cast_signed, to_le_bytes}
use mir.Syntax.{Width, w8, w16, w32, w64}
use Rattle.rv_machine.specs.declared.ops.LoadOp.{LoadOp}
use Rattle.rv_machine.specs.declared.ops.LoadOp.TheVariants.{Lb, Lh, Lw, Lbu, Lhu, Lwu, Ld}
use Rattle.rv_machine.specs.declared.ops.StoreOp.{StoreOp}
use Rattle.rv_machine.specs.declared.ops.StoreOp.TheVariants.{Sb, Sh, Sw, Sd}
use Rattle.rv_machine.specs.State.{Memory, byte, wrap, low64}

-- the value of the n bytes from an address on, the lowest first; the address of each wraps
abbrev pub load_bytes : Memory → ℕ → ℕ → ℕ
load_bytes mem at zero = 0
load_bytes mem at (suc n) = load_bytes mem at n + byte mem (wrap (at + n)) * 2 ^ (8 * n)

-- a value of some width, sign-extended to 64 bits
abbrev pub sign_extend : Width → ℕ → ℕ
sign_extend w n = low64 (cast_signed w n)

-- what a load from an address puts in rd; what isn't sign-extended is zero-extended
abbrev pub load_result : LoadOp → Memory → ℕ → ℕ
load_result Lb mem at = sign_extend w8 (load_bytes mem at 1)
load_result Lh mem at = sign_extend w16 (load_bytes mem at 2)
load_result Lw mem at = sign_extend w32 (load_bytes mem at 4)
load_result Lbu mem at = load_bytes mem at 1
load_result Lhu mem at = load_bytes mem at 2
load_result Lwu mem at = load_bytes mem at 4
load_result Ld mem at = load_bytes mem at 8

-- how many bytes a store writes
abbrev pub store_width : StoreOp → ℕ
store_width Sb = 1
store_width Sh = 2
store_width Sw = 4
store_width Sd = 8

-- the low bytes of a register that a store writes, the lowest first
abbrev pub store_bytes : StoreOp → ℕ → List ℕ
store_bytes op x = take (store_width op) (to_le_bytes w64 x)
