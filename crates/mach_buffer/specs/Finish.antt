-- For callers: the end, with the last veneers and the patches.
use Rattle.std.specs.Prelude.{◌≡◌, ℕ, zero, suc, ◌+◌, ◌*◌, ◌%◌, ◌<◌, ◌≤◌, ◌⊎◌, true, false, cond, nat_eq, List, ◌++◌, length, map, take, drop, Option, Some, None, is_some, ◌-◌, slice_get, pos, ◌-ℤ◌}
use Rattle.rv_base.specs.LabelUse.{code_limit, Kinds, Veneer, SameOutside}
use Rattle.mach_labels.specs.Table.{first_constant}
use Rattle.mach_records.specs.declared.records.ConstPlace.{ConstPlace}
use Rattle.mach_uses.specs.declared.uses.Use.{Use}
use Rattle.mach_buffer.specs.Shape.{Shape, IsConstantLabel}
use Rattle.mach_buffer.specs.Windows.{AreWindows, AllKept, KeepsOthers, patches_of}
use Rattle.mach_uses.specs.Windows.{window}
use Rattle.mach_uses.specs.Reach.{is_reached, is_pending, deadlines, VeneersReach}
use Rattle.mach_buffer.specs.Links.{IsLinked}
use Rattle.mach_buffer.specs.Veneers.{put_all}
use Rattle.mach_uses.specs.Order.{IsOrder}
use Rattle.mach_buffer.specs.Growth.{Grows}
use Rattle.mach_buffer.specs.Islands.{padding, padded, is_far}
use Rattle.mach_buffer.specs.Constants.{end_after, put_constants, offset_in, AllStand, HasConstants}

-- a use goes by a veneer that stands at `at`: its window aims there, the eight bytes there are the veneer's outside the
-- fields of the veneer's own use, and the window of that use aims at the label's place
pub record IsVia {L : Type 0} (kinds : Kinds L) (v : Veneer L) (bytes : List ℕ) (u : Use L) (to : ℕ) : Type 0 where
  pub at : ℕ
  pub there : kinds.aims u.kind (window bytes u.offset (length (kinds.fields u.kind))) (pos at -ℤ pos u.offset)
  pub even : at % 2 ≡ 0
  pub inside : at + 8 ≤ length bytes
  pub front : window bytes at v.place ≡ take v.place v.bytes
  pub own :
      SameOutside (kinds.fields v.kind) (take (length (kinds.fields v.kind)) (drop v.place v.bytes)) (window bytes (at + v.place) (length (kinds.fields v.kind)))
  pub back :
      window bytes (at + (v.place + length (kinds.fields v.kind))) (8 - (v.place + length (kinds.fields v.kind))) ≡ drop (v.place + length (kinds.fields v.kind)) v.bytes
  pub on : kinds.aims v.kind (window bytes (at + v.place) (length (kinds.fields v.kind))) (pos to -ℤ pos (at + v.place))

-- where a use goes: straight to its label's place where it has no veneer, and else by its own veneer
abbrev pub Arrives : {L : Type 0} → Kinds L → List ℕ → Use L → ℕ → Option ℕ → Type 0
Arrives kinds bytes u to None = kinds.aims u.kind (window bytes u.offset (length (kinds.fields u.kind))) (pos to -ℤ pos u.offset)
Arrives kinds bytes u to (Some at) = (via : IsVia kinds (kinds.veneer u.kind) bytes u to) × (via.at ≡ at)

-- each use does
abbrev pub AllArrive : {L : Type 0} → Kinds L → List ℕ → (ℕ → Option ℕ) → List (Use L) → Type 0
AllArrive {L} kinds bytes place uses =
    (j : ℕ) (u : Use L) (to : ℕ) → slice_get uses j ≡ Some u → place u.label.number ≡ Some to → Arrives kinds bytes u to u.veneer

-- the bytes before the last veneers: with zero bytes to a multiple of four where some use is pending
abbrev pub before_last : List ℕ → ℕ → List ℕ
before_last bytes count = cond (nat_eq count 0) bytes (bytes ++ padding (length bytes))

-- a buffer before so many last veneers
abbrev pub padded_for : {L : Type 0} → ℕ → Shape L → Shape L
padded_for zero s = s
padded_for (suc n) s = padded s

-- the deadlines of the pending uses
abbrev pub pending_in : {L : Type 0} → Kinds L → Shape L → List ℕ
pending_in kinds s = deadlines (is_pending kinds s.place) kinds s.uses

-- where the last veneers end
abbrev pub last_end : {L : Type 0} → Kinds L → Shape L → ℕ
last_end kinds s = length (before_last s.bytes (length (pending_in kinds s))) + 8 * length (pending_in kinds s)

-- what the end asks: each label that is used is bound, or a constant's; each pending use reaches its veneer; each use that
-- supports none reaches its label, or all code; the windows and the constants stand; and there is room
pub record CanFinish {L : Type 0} (kinds : Kinds L) (s : Shape L) : Type 0 where
  pub windows : AreWindows kinds s.bytes s.uses
  pub bound : (j : ℕ) (u : Use L) → slice_get s.uses j ≡ Some u → (is_some (s.place u.label.number) ≡ true) ⊎ IsConstantLabel s.named u.label.number
  pub direct :
      (j : ℕ) (u : Use L) →
      slice_get s.uses j ≡ Some u →
      kinds.has_veneer u.kind ≡ false →
      is_far kinds u ≡ false →
      is_reached kinds (s.place u.label.number) u ≡ true
  pub reach : VeneersReach (length (before_last s.bytes (length (pending_in kinds s)))) (pending_in kinds s)
  pub short : end_after s (last_end kinds s) < code_limit
  pub constants : AllStand kinds s

-- what it brings: a veneer for each pending use, in order, after zero bytes to a multiple of four where there is one; then the
-- constants that don't stand yet; and then each window is patched, and all other bytes stay, so each constant has its bytes
pub record Finishes {L : Type 0} (kinds : Kinds L) (s : Shape L) (bytes : List ℕ) : Type 0 where
  pub order : List ℕ
  pub in_order : IsOrder kinds (is_pending kinds s.place) s.uses order
  pub put : Shape L
  pub whole : put ≡ put_constants (put_all kinds order (padded_for (length order) s))
  pub long : length put.bytes ≡ end_after s (last_end kinds s)
  pub grows : Grows s.bytes s.uses s.place put.bytes put.uses put.place
  pub places : (label at : ℕ) → put.place label ≡ Some at → (at ≤ length put.bytes) × (at % 2 ≡ 0)
  pub linked : IsLinked kinds put.bytes put.uses
  pub bound : (j : ℕ) (u : Use L) → slice_get put.uses j ≡ Some u → is_some (put.place u.label.number) ≡ true
  pub same_length : length bytes ≡ length put.bytes
  pub arrive : AllArrive kinds bytes put.place put.uses
  pub kept : AllKept kinds put.bytes bytes (patches_of put.place put.uses)
  pub others : KeepsOthers kinds put.bytes bytes (patches_of put.place put.uses)
  pub constants : HasConstants s.registered bytes put.constants
  pub listed : map (λ (c : ConstPlace). c.constant) put.constants ≡ s.named
  pub offsets : (number : ℕ) → put.place (first_constant + number) ≡ offset_in put.constants number
