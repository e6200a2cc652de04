-- The upper and the lower immediate of a number.
use Rattle.std.specs.Prelude.{◌+◌, ◌/◌, ◌%◌, ◌^◌, ℤ}
use Rattle.rv_machine.specs.State.{low64, signed}

-- the lower immediate of a number: its low twelve bits, signed
abbrev pub lower_of : ℤ → ℤ
lower_of o = signed (2 ^ 11) (low64 o % 2 ^ 12)

-- the upper immediate: so many 4096s as the lower one leaves, as bits 31 to 12, signed
abbrev pub upper_of : ℤ → ℤ
upper_of o = signed (2 ^ 19) ((low64 o + 2 ^ 11) / 2 ^ 12 % 2 ^ 20)
