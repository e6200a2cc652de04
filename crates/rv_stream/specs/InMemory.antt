-- Ends in memory whose calls move few bytes at a time and fail by number.
use Rattle.std.specs.Prelude.{◌≡◌, ℕ, ◌++◌, min, Bool, true, false, List, length, take, drop, ◌==◌, Result, MatchResult}
use Rattle.std.specs.List.{list_any}
use Rattle.rv_stream.specs.Ends.{raise}
use Rattle.rv_stream.specs.declared.ends.Failed.{Failed}
use Rattle.rv_stream.specs.declared.ends.WriteError.{WriteError}
use Rattle.rv_stream.specs.declared.ends.WriteError.TheVariants as errors

-- the bytes that are left or were taken, how many a call moves at most, the numbers of the calls that fail, the number
-- of the next call, from 0, and how many failed
pub record Metered : Type 0 where
  pub bytes : List ℕ
  pub chunk : ℕ
  pub failing : List ℕ
  pub call : ℕ
  pub faults : ℕ

abbrev pub start : List ℕ → ℕ → List ℕ → Metered
start bytes chunk failing = record { bytes = bytes; chunk = chunk; failing = failing; call = 0; faults = 0 }

-- the next call fails
abbrev pub fails : Metered → Bool
fails end = list_any (λ k. k == end.call) end.failing

abbrev pub failed : Metered → Metered
failed end = record end { call = raise end.call; faults = raise end.faults }

abbrev pub moved : Metered → List ℕ → Metered
moved end bytes = record end { bytes = bytes; call = raise end.call }

-- A read gives as many bytes as there are room, bytes and leave for, unless it fails.
abbrev pub Gives : Metered → Metered → List ℕ → Result ℕ Failed → Type 0
Gives old new buf result = MatchResult result
    (λ n. (fails old ≡ false) × (n ≡ min (min (length buf) (length old.bytes)) old.chunk) × (take n buf ≡ take n old.bytes) × (new ≡ moved old (drop n old.bytes)))
    (λ _. (fails old ≡ true) × (new ≡ failed old))

-- A write takes as many bytes as there are and it has leave for, unless it fails or runs out of memory.
abbrev pub TakesIn : Metered → Metered → List ℕ → Result ℕ WriteError → Type 0
TakesIn old new piece result = MatchResult result
    (λ n. (fails old ≡ false) × (n ≡ min (length piece) old.chunk) × (new ≡ moved old (old.bytes ++ take n piece)))
    (λ error. after error)
  where
    after : WriteError → Type 0
    after errors.Failed = (fails old ≡ true) × (new ≡ failed old)
    after errors.OutOfMemory = (fails old ≡ false) × (new ≡ moved old old.bytes)
