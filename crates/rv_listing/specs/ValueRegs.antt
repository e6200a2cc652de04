-- The registers of a value.
use Rattle.std.specs.Prelude.{ℕ, List, [], ◌∷◌, Option, Some, None}
use Rattle.rv_base.specs.declared.value_regs.ValueRegs.{ValueRegs}
use Rattle.rv_base.specs.declared.value_regs.ValueRegs.TheVariants.{One, Two}
use Rattle.rv_listing.specs.Tokens.{◌>>=◌, parts_of}

-- one register, or two
abbrev pub held : {R : Type 0} → (List ℕ → Option R) → List (List ℕ) → Option (ValueRegs R)
held token [] = None
held token (a ∷ []) = token a >>= λ r. Some (One r)
held token (a ∷ b ∷ []) = token a >>= λ r. token b >>= λ s. Some (Two r s)
held token (a ∷ b ∷ c ∷ rest) = None

-- registers of this token, with a comma between two
abbrev pub value_regs : {R : Type 0} → (List ℕ → Option R) → List ℕ → Option (ValueRegs R)
value_regs token w = held token (parts_of 44 w)
