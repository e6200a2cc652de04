-- For callers: windows of code, where those of uses stand, and what it means to patch them.
use Rattle.std.specs.Prelude.{map, Option, None, unwrap_or, ◌≡◌, ◌≢◌, ℕ, ◌+◌, ◌%◌, ◌≤◌, List, length, take, drop, pos, ◌-ℤ◌, ◌⊎◌, Some, slice_get}
use Rattle.rv_base.specs.LabelUse.{IsFresh, SameOutside}
use Rattle.rv_base.specs.LabelUse.{Kinds}
use Rattle.mach_buffer.specs.declared.patches.Patch.{Patch}
use Rattle.mach_uses.specs.declared.uses.Use.{Use}
use Rattle.mach_uses.specs.Windows.{window, IsApart}
use Rattle.mach_buffer.specs.Shape.{Shape, veneer_use}

-- the windows of uses stand in the bytes at even places, are fresh, and share no byte with one another; veneers stand in the
-- bytes; and no window but that of a veneer's own use shares a byte with the veneer
pub record AreWindows {L : Type 0} (kinds : Kinds L) (bytes : List ℕ) (uses : List (Use L)) : Type 0 where
  pub even : (j : ℕ) (u : Use L) → slice_get uses j ≡ Some u → u.offset % 2 ≡ 0
  pub inside : (j : ℕ) (u : Use L) → slice_get uses j ≡ Some u → u.offset + length (kinds.fields u.kind) ≤ length bytes
  pub fresh : (j : ℕ) (u : Use L) → slice_get uses j ≡ Some u → IsFresh (kinds.fields u.kind) (window bytes u.offset (length (kinds.fields u.kind)))
  pub apart :
      (j k : ℕ) (u v : Use L) →
      j ≢ k →
      slice_get uses j ≡ Some u →
      slice_get uses k ≡ Some v →
      IsApart u.offset (length (kinds.fields u.kind)) v.offset (length (kinds.fields v.kind))
  pub veneers : (j : ℕ) (u : Use L) (at : ℕ) → slice_get uses j ≡ Some u → u.veneer ≡ Some at → at + 8 ≤ length bytes
  pub clear :
      (j k : ℕ) (u v : Use L) (at : ℕ) →
      slice_get uses j ≡ Some u →
      u.veneer ≡ Some at →
      slice_get uses k ≡ Some v →
      (v ≡ veneer_use (kinds.veneer u.kind) at u.label) ⊎ IsApart v.offset (length (kinds.fields v.kind)) at 8

-- each use's window ends in the bytes
abbrev pub AllEnd : {L : Type 0} → Kinds L → Shape L → Type 0
AllEnd {L} kinds s = (j : ℕ) (u : Use L) → slice_get s.uses j ≡ Some u → u.offset + length (kinds.fields u.kind) ≤ length s.bytes

-- a window can be patched
pub record CanPatch {L : Type 0} (kinds : Kinds L) (bytes : List ℕ) (u : Patch L) : Type 0 where
  pub forward_in : u.target ≤ u.offset + kinds.forward u.kind
  pub backward_in : u.offset ≤ u.target + kinds.backward u.kind
  pub place_even : u.offset % 2 ≡ 0
  pub target_even : u.target % 2 ≡ 0
  pub inside : u.offset + length (kinds.fields u.kind) ≤ length bytes
  pub fresh : IsFresh (kinds.fields u.kind) (window bytes u.offset (length (kinds.fields u.kind)))

-- the bytes outside a window stay
pub record ChangesOnly (old new : List ℕ) (place size : ℕ) : Type 0 where
  pub before : take place new ≡ take place old
  pub after : drop (place + size) new ≡ drop (place + size) old
  pub same_length : length new ≡ length old

-- each window can be patched, and no two share a byte
pub record CanPatchAll {L : Type 0} (kinds : Kinds L) (bytes : List ℕ) (patches : List (Patch L)) : Type 0 where
  pub each : (j : ℕ) (u : Patch L) → slice_get patches j ≡ Some u → CanPatch kinds bytes u
  pub apart :
      (j k : ℕ) (u v : Patch L) →
      j ≢ k →
      slice_get patches j ≡ Some u →
      slice_get patches k ≡ Some v →
      IsApart u.offset (length (kinds.fields u.kind)) v.offset (length (kinds.fields v.kind))

-- each window aims at its target
abbrev pub AllAim : {L : Type 0} → Kinds L → List ℕ → List (Patch L) → Type 0
AllAim {L} kinds bytes patches =
    (j : ℕ) (u : Patch L) →
    slice_get patches j ≡ Some u →
    kinds.aims u.kind (window bytes u.offset (length (kinds.fields u.kind))) (pos u.target -ℤ pos u.offset)

-- each window keeps its bits outside the fields
abbrev pub AllKept : {L : Type 0} → Kinds L → List ℕ → List ℕ → List (Patch L) → Type 0
AllKept {L} kinds old new patches =
    (j : ℕ) (u : Patch L) →
    slice_get patches j ≡ Some u →
    SameOutside (kinds.fields u.kind) (window old u.offset (length (kinds.fields u.kind))) (window new u.offset (length (kinds.fields u.kind)))

-- bytes that stand in no window stay
abbrev pub KeepsOthers : {L : Type 0} → Kinds L → List ℕ → List ℕ → List (Patch L) → Type 0
KeepsOthers {L} kinds old new patches =
    (p m : ℕ) →
    ((j : ℕ) (u : Patch L) → slice_get patches j ≡ Some u → IsApart p m u.offset (length (kinds.fields u.kind))) →
    window new p m ≡ window old p m

-- where a use is to go: to its veneer, or else to its label's place
abbrev pub or_place : Option ℕ → Option ℕ → Option ℕ
or_place (Some at) place = Some at
or_place None place = place

abbrev pub target_of : {L : Type 0} → (ℕ → Option ℕ) → Use L → Option ℕ
target_of place u = or_place u.veneer (place u.label.number)

-- its patch
abbrev pub patch_of : {L : Type 0} → (ℕ → Option ℕ) → Use L → Patch L
patch_of place u = record { offset = u.offset; kind = u.kind; target = unwrap_or (target_of place u) 0 }

abbrev pub patches_of : {L : Type 0} → (ℕ → Option ℕ) → List (Use L) → List (Patch L)
patches_of place uses = map (patch_of place) uses
