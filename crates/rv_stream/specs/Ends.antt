-- What counts of faults say, and what an end took.
use Rattle.std.specs.Prelude.{◌≡◌, ℕ, ◌+◌, ◌-◌, ◌^◌, ◌<◌, ◌≤◌, ◌⊎◌, min, Bool, List, length, take, Option, if◌then◌else◌}
use Rattle.std.specs.Io.KnownBytes.{Appends, Consumes}

-- The count is greater after the call, or it stands at its greatest.
abbrev pub Rose : ℕ → ℕ → Type 0
Rose before now = (before < now) ⊎ (now ≡ 2 ^ 64 - 1)

-- one more, where there is one
abbrev pub raise : ℕ → ℕ
raise n = min (n + 1) (2 ^ 64 - 1)

-- a count of faults over one call
pub record Counts (before now : ℕ) (failed : Type 0) : Type 0 where
  pub later : before ≤ now
  pub capped : now < 2 ^ 64
  pub cause : failed → Rose before now

-- the count after a call that failed or not
abbrev pub counted : ℕ → Bool → ℕ
counted before failed = if failed then raise before else before

-- the sink took a front of the text
abbrev pub TookFront : Option (List ℕ) → Option (List ℕ) → List ℕ → Type 0
TookFront old new text = (n : ℕ) × (n ≤ length text) × Appends old new (take n text)

-- the source gave bytes, where they are known, and so many that this holds
abbrev pub Gave : (ℕ → Type 0) → Option (List ℕ) → Option (List ℕ) → Type 0
Gave P old new = (bytes : List ℕ) × Consumes old new bytes × P (length bytes)
