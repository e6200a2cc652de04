-- How many lanes a vector type may have.
use Rattle.std.specs.Prelude.{ℕ, Bool, nat_eq, [], ◌∷◌}
use Rattle.std.specs.List.{list_any}

-- a power of two from 2 to 256
abbrev pub is_lane_count : ℕ → Bool
is_lane_count n = list_any (nat_eq n) (2 ∷ 4 ∷ 8 ∷ 16 ∷ 32 ∷ 64 ∷ 128 ∷ 256 ∷ [])
