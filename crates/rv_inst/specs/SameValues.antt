-- Values that emission takes as the same.
use Rattle.std.specs.Prelude.{◌≡◌, ℕ, ◌<◌, Bool, false, ◌||◌, nat_eq, List, [], ◌∷◌}
use Rattle.rv_machine.specs.State.{Values, byte, reg}

-- x1 to x29 and the memories are equal; x30 and x31 may hold anything
pub record Same (v w : Values) : Type 0 where
  pub regs : (n : ℕ) → n < 30 → reg v n ≡ reg w n
  pub mem : (a : ℕ) → byte v.mem a ≡ byte w.mem a

-- whether a register is among those of these numbers
abbrev pub is_among : List ℕ → ℕ → Bool
is_among [] n = false
is_among (m ∷ ms) n = nat_eq m n || is_among ms n

-- the same, but for registers that may hold anything
pub record SameBut (free : List ℕ) (v w : Values) : Type 0 where
  pub regs : (n : ℕ) → n < 30 → is_among free n ≡ false → reg v n ≡ reg w n
  pub mem : (a : ℕ) → byte v.mem a ≡ byte w.mem a
