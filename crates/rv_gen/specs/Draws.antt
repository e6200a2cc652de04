-- The numbers that a job is generated from, drawn one after another.
use Rattle.std.specs.Prelude.{ℕ, ◌+◌, ◌*◌, ◌/◌, ◌%◌, ◌^◌}
use Rattle.rv_gen.specs.declared.draws.FourDraws.{FourDraws}

-- the state after a draw, of 64 bits
abbrev pub next : ℕ → ℕ
next s = (s * 6364136223846793005 % 2 ^ 64 + 1442695040888963407) % 2 ^ 64

-- what is drawn: the state after it, without its low 33 bits
abbrev pub drawn : ℕ → ℕ
drawn s = next s / 2 ^ 33

-- the four draws of an instruction, and the state after them
abbrev pub draws : ℕ → FourDraws
draws s = record { k = drawn s; p = drawn (next s); q = drawn (next (next s)); r = drawn (next (next (next s))) }

abbrev pub after_draws : ℕ → ℕ
after_draws s = next (next (next (next s)))
