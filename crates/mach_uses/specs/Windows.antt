-- For callers: windows of code, where those of uses stand.
use Rattle.std.specs.Prelude.{ℕ, ◌+◌, ◌≤◌, ◌⊎◌, List, take, drop}

-- the bytes of a window
abbrev pub window : List ℕ → ℕ → ℕ → List ℕ
window bytes place size = take size (drop place bytes)

-- two windows share no byte
abbrev pub IsApart : ℕ → ℕ → ℕ → ℕ → Type 0
IsApart p m q n = (p + m ≤ q) ⊎ (q + n ≤ p)
