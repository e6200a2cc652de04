-- What it means that a window of bytes is fresh, that it keeps its bits outside the fields of a use, and what a veneer is.
use Rattle.std.specs.Prelude.{◌≡◌, ℕ, ◌+◌, ◌-◌, ◌%◌, ◌^◌, ◌≤◌, List, [], ◌∷◌, length, drop, ℤ, Bool, false, slice_index, bit_and}

-- from the byte at i on, a window has no bit where the marks have one
abbrev pub IsFreshFrom : ℕ → List ℕ → List ℕ → Type 0
IsFreshFrom i [] window = Unit {0}
IsFreshFrom i (m ∷ marks) window = (bit_and (slice_index window i) m ≡ 0) × IsFreshFrom (i + 1) marks window

-- a window that has no bit where the marks have one
abbrev pub IsFresh : List ℕ → List ℕ → Type 0
IsFresh marks window = IsFreshFrom 0 marks window

-- from the byte at i on, two windows have the same bits where the marks have none
abbrev pub SameOutsideFrom : ℕ → List ℕ → List ℕ → List ℕ → Type 0
SameOutsideFrom i [] old new = Unit {0}
SameOutsideFrom i (m ∷ marks) old new = (bit_and (slice_index new i) (255 - m) ≡ bit_and (slice_index old i) (255 - m)) × SameOutsideFrom (i + 1) marks old new

-- two windows with the same bits where the marks have none
abbrev pub SameOutside : List ℕ → List ℕ → List ℕ → Type 0
SameOutside marks old new = SameOutsideFrom 0 marks old new

-- the bytes of a veneer, and the place and the kind of the use among them
pub record Veneer (K : Type 0) : Type 0 where
  pub bytes : List ℕ
  pub place : ℕ
  pub kind : K

-- what a buffer of code knows of the kinds of use: whether a window encodes a distance; one byte for each byte of the window,
-- whose one bits mark the fields; how far a use reaches forward and backward, in bytes; whether it may go by a veneer, and by
-- which
pub record Kinds (K : Type 0) : Type 1 where
  pub aims : K → List ℕ → ℤ → Type 0
  pub fields : K → List ℕ
  pub forward : K → ℕ
  pub backward : K → ℕ
  pub has_veneer : K → Bool
  pub veneer : K → Veneer K

-- code is shorter than this many bytes: the upper twenty bits of an auipc and the signed lower twelve of the instruction
-- after it reach every distance below it
abbrev pub code_limit : ℕ
code_limit = 2 ^ 31 - 4096

-- eight bytes, with a fresh use at an even place that needs no veneer itself and reaches every distance below the limit
pub record IsVeneer {K : Type 0} (kinds : Kinds K) (v : Veneer K) : Type 0 where
  pub eight : length v.bytes ≡ 8
  pub place_even : v.place % 2 ≡ 0
  pub inside : v.place + length (kinds.fields v.kind) ≤ 8
  pub fresh : IsFresh (kinds.fields v.kind) (drop v.place v.bytes)
  pub final : kinds.has_veneer v.kind ≡ false
  pub far_forward : code_limit - 1 ≤ kinds.forward v.kind
  pub far_backward : code_limit - 1 ≤ kinds.backward v.kind
