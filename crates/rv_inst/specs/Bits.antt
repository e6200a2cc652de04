-- What instructions compute of the low bits of a register.
use Rattle.std.specs.Prelude.{ℕ, zero, suc, ◌+◌, ◌-◌, ◌*◌, ◌/◌, ◌%◌, ◌^◌, ◌==◌, Bool, true, false, if◌then◌else◌}
use Rattle.std.specs.Int.{bit_at}
use Rattle.rv_machine.specs.State.{signed, low64}
use Rattle.rv_inst.specs.declared.sequence.Computation.{Computation}
use Rattle.rv_inst.specs.declared.sequence.Computation.TheVariants.{Ones, Zeros, ReversedBytes}

-- so many low bits, sign-extended to 64 or zero-extended
abbrev pub extended : Bool → ℕ → ℕ → ℕ
extended true bits n = low64 (signed (2 ^ (bits - 1)) (n % 2 ^ bits))
extended false bits n = n % 2 ^ bits

-- how many of so many low bits are ones
abbrev pub ones : ℕ → ℕ → ℕ
ones zero n = 0
ones (suc bits) n = n % 2 + ones bits (n / 2)

-- how many zeros stand above the highest one of so many low bits: all of them, where none is one
abbrev pub leading_zeros : ℕ → ℕ → ℕ
leading_zeros zero n = 0
leading_zeros (suc bits) n = if bit_at n bits == 1 then 0 else suc (leading_zeros bits n)

-- how many zeros stand below the lowest one of so many low bits: all of them, where none is one
abbrev pub trailing_zeros : ℕ → ℕ → ℕ
trailing_zeros zero n = 0
trailing_zeros (suc bits) n = if n % 2 == 1 then 0 else suc (trailing_zeros bits (n / 2))

-- the ones or the others
abbrev pub zeros : Bool → ℕ → ℕ → ℕ
zeros true bits n = leading_zeros bits n
zeros false bits n = trailing_zeros bits n

-- so many low bits in reverse order
abbrev pub reversed_bits : ℕ → ℕ → ℕ
reversed_bits zero n = 0
reversed_bits (suc bits) n = n % 2 * 2 ^ bits + reversed_bits bits (n / 2)

-- so many low bytes, the bits of each in reverse order
abbrev pub reversed_bytes : ℕ → ℕ → ℕ
reversed_bytes zero n = 0
reversed_bytes (suc bytes) n = reversed_bits 8 n + 2 ^ 8 * reversed_bytes bytes (n / 2 ^ 8)

-- what a sequence computes of so many low bits
abbrev pub computed : Computation → ℕ → ℕ → ℕ
computed Ones bits n = ones bits n
computed (Zeros leading) bits n = zeros leading bits n
computed ReversedBytes bits n = reversed_bytes (bits / 8) n
