-- What an atomic loop makes of the number at its address: it changes a field of it, so many bits from a bit on.
use Rattle.std.specs.Prelude.{ℕ, ◌+◌, ◌-◌, ◌/◌, ◌%◌, ◌^◌, ◌&&◌, ◌<◌, nat_le, nat_lt, Bool, true, false, if◌then◌else◌, List, [], ◌∷◌, bit_and, bit_or, bit_xor}
use Rattle.rv_base.specs.declared.regs.Reg.{Reg}
use Rattle.rv_base.specs.IrType.{bits_of}
use Rattle.rv_base.specs.Regs.{number_of}
use Rattle.rv_machine.specs.Arithmetic.{signed_below}
use Rattle.rv_machine.specs.State.{Values, reg, wrap}
use Rattle.rv_ops.specs.declared.atomic.AtomicRmwOp.{AtomicRmwOp}
use Rattle.rv_ops.specs.declared.atomic.AtomicRmwOp.TheVariants.{Add, Sub, And, Nand, Or, Xor, Xchg, Umin, Umax, Smin, Smax}
use Rattle.rv_inst.specs.declared.atomic_loop.AtomicLoop.{AtomicLoop}
use Rattle.rv_inst.specs.declared.atomic_loop.Change.{Change}
use Rattle.rv_inst.specs.declared.atomic_loop.Change.TheVariants.{Combines, Swaps}
use Rattle.rv_inst.specs.Bits.{extended}
use Rattle.rv_inst.specs.Fields.{with_part}

-- ---- registers

abbrev pub expected_in : Change → List Reg
expected_in (Combines op) = []
expected_in (Swaps expected) = expected ∷ []

-- those that it reads
abbrev pub loop_inputs : AtomicLoop → List Reg
loop_inputs l = l.offset ∷ l.address ∷ l.operand ∷ expected_in l.change

-- ---- the field

abbrev pub is_nand : AtomicRmwOp → Bool
is_nand Add = false
is_nand Sub = false
is_nand And = false
is_nand Nand = true
is_nand Or = false
is_nand Xor = false
is_nand Xchg = false
is_nand Umin = false
is_nand Umax = false
is_nand Smin = false
is_nand Smax = false

-- the two signed choices compare the field sign-extended
abbrev pub takes_signed : AtomicRmwOp → Bool
takes_signed Add = false
takes_signed Sub = false
takes_signed And = false
takes_signed Nand = false
takes_signed Or = false
takes_signed Xor = false
takes_signed Xchg = false
takes_signed Umin = false
takes_signed Umax = false
takes_signed Smin = true
takes_signed Smax = true

-- a field of 32 or 64 bits is the whole number where it is swapped, and where it is combined by nand: the offset isn't read
abbrev pub is_wide : ℕ → Bool
is_wide bits = nat_le 32 bits

abbrev pub is_whole : Change → ℕ → Bool
is_whole (Combines op) bits = is_nand op && is_wide bits
is_whole (Swaps expected) bits = is_wide bits

-- else it begins at the bit that the low 6 bits of the offset's register say
abbrev pub field_start : AtomicLoop → Values → ℕ
field_start l v = if is_whole l.change (bits_of l.ty) then 0 else reg v (number_of l.offset) % 64

-- what it holds, of a number of which a word is sign-extended: nand of a whole word takes it so, and all others the field alone
abbrev pub held : Change → ℕ → ℕ → ℕ → ℕ
held (Combines op) bits o n = if is_whole (Combines op) bits then n else extended (takes_signed op) bits (n / 2 ^ o)
held (Swaps expected) bits o n = extended false bits (n / 2 ^ o)

-- what it is combined to with an operand, in 64 bits
abbrev pub combined : AtomicRmwOp → ℕ → ℕ → ℕ
combined Add old x = wrap (old + x)
combined Sub old x = wrap (old + (2 ^ 64 - x))
combined And old x = bit_and old x
combined Nand old x = bit_xor (bit_and x old) (2 ^ 64 - 1)
combined Or old x = bit_or old x
combined Xor old x = bit_xor old x
combined Xchg old x = x
combined Umin old x = if nat_lt old x then old else x
combined Umax old x = if nat_lt x old then old else x
combined Smin old x = if signed_below old x then old else x
combined Smax old x = if signed_below x old then old else x

abbrev pub changed_to : Change → ℕ → ℕ → ℕ
changed_to (Combines op) old x = combined op old x
changed_to (Swaps expected) old x = x

-- the number of which the low bytes are stored, four of a word and eight of a doubleword: the field is changed to the low bits of that, as
-- far as it is below bit 64
abbrev pub changed_number : Change → ℕ → ℕ → ℕ → ℕ → ℕ
changed_number change bits o n x =
    if is_whole change bits then changed_to change (held change bits o n) x else wrap (with_part o bits (changed_to change (held change bits o n) x) n)
