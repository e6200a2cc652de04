-- A reader or a writer of std with a count of its failures.
use Rattle.std.specs.Prelude.{ℕ, List, Option}

-- the bytes that the reader has left, or the writer holds, where they are known, and how many calls failed
pub record Counted : Type 0 where
  pub bytes : Option (List ℕ)
  pub faults : ℕ

abbrev pub fresh : Option (List ℕ) → Counted
fresh bytes = record { bytes = bytes; faults = 0 }
