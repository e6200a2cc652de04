-- The constants that stand in a buffer, and those that come to stand: links of the proof.
use Rattle.std.specs.Prelude.{◌≡◌, ◌⊎◌, ℕ, ◌+◌, ◌<◌, ◌≤◌, length, Some, slice_get}
use Rattle.rv_base.specs.declared.constant.Constant.{Constant}
use Rattle.mach_records.specs.declared.records.ConstPlace.{ConstPlace}
use Rattle.mach_buffer.specs.Shape.{Shape}

-- each constant ends before the next one begins, and within the bytes
pub record StandInTurn {L : Type 0} (s : Shape L) : Type 0 where
  pub ascend :
      (i j : ℕ) (c d : ConstPlace) (k : Constant) →
      i < j →
      slice_get s.constants i ≡ Some c →
      slice_get s.constants j ≡ Some d →
      slice_get s.registered c.constant.number ≡ Some k →
      c.offset + length k.bytes ≤ d.offset
  pub within :
      (j : ℕ) (c : ConstPlace) (k : Constant) →
      slice_get s.constants j ≡ Some c →
      slice_get s.registered c.constant.number ≡ Some k →
      c.offset + length k.bytes ≤ length s.bytes

-- bytes were put, and perhaps constants: each constant stood before, or begins after all bytes that stood; constants stay in
-- turn; and the same ones are registered
pub record AddsConstants {L : Type 0} (s t : Shape L) : Type 0 where
  pub longer : length s.bytes ≤ length t.bytes
  pub fresh : (j : ℕ) (c : ConstPlace) → slice_get t.constants j ≡ Some c → (slice_get s.constants j ≡ Some c) ⊎ (length s.bytes ≤ c.offset)
  pub in_turn : StandInTurn s → StandInTurn t
  pub registered : t.registered ≡ s.registered
