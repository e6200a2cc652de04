-- This crate's inside: what a buffer doesn't show, and what holds of a sound one.
use Rattle.std.specs.Prelude.{◌≡◌, ◌≢◌, ℕ, ◌%◌, ◌<◌, ◌≤◌, List, length, map, take, Option, Some, None, slice_get, Bool}
use Rattle.rv_base.specs.LabelUse.{Kinds}
use Rattle.rv_base.specs.declared.constant.Constant.{Constant}
use Rattle.rv_base.specs.declared.constant.VCodeConstant.{VCodeConstant}
use Rattle.mach_uses.specs.declared.uses.Use.{Use}
use Rattle.mach_records.specs.declared.records.ConstPlace.{ConstPlace}
use Rattle.mach_uses.specs.declared.pending.Pending.{Pending}
use Rattle.mach_buffer.specs.declared.buffer.MachBuffer.{MachBuffer}
use Rattle.mach_buffer.specs.Shape.{Shape, IsUsable}
use Rattle.mach_uses.specs.Labels.{is_named}
use Rattle.mach_uses.specs.Labels.{inner_count, constant_label}
use Rattle.mach_buffer.specs.Links.{IsLinked}
use Rattle.mach_uses.specs.Queues.{AreKept}

-- its queues, and which constants were named
pub record Inside : Type 0 where
  pub pending : Pending
  pub seen : List Bool

abbrev pub inside_of : {L : Type 0} → MachBuffer L → Inside
inside_of b = record { pending = b.pending; seen = b.constants.seen.items }

-- ---- constants

-- those that were named are registered, each once; the first of them stand where their labels are bound, and the others' labels
-- are not bound
pub record AreOrdered (allocated : ℕ) (place : ℕ → Option ℕ) (registered : List Constant) (named : List VCodeConstant) (constants : List ConstPlace) : Type 0 where
  pub few : allocated ≤ inner_count
  pub count : length registered ≤ inner_count
  pub known : (i : ℕ) (k : VCodeConstant) → slice_get named i ≡ Some k → k.number < length registered
  pub once : (i j : ℕ) (k l : VCodeConstant) → i ≢ j → slice_get named i ≡ Some k → slice_get named j ≡ Some l → k.number ≢ l.number
  pub first : map (λ (c : ConstPlace). c.constant) constants ≡ take (length constants) named
  pub bound : (j : ℕ) (c : ConstPlace) → slice_get constants j ≡ Some c → place (constant_label c.constant).number ≡ Some c.offset
  pub free : (i : ℕ) (k : VCodeConstant) → length constants ≤ i → slice_get named i ≡ Some k → place (constant_label k).number ≡ None

abbrev pub IsOrdered : {L : Type 0} → Shape L → Type 0
IsOrdered s = AreOrdered s.allocated s.place s.registered s.named s.constants

-- a table says of each registered constant whether it was named
pub record AreNoted (registered : List Constant) (named : List VCodeConstant) (seen : List Bool) : Type 0 where
  pub long : length seen ≡ length registered
  pub each : (number : ℕ) → number < length registered → slice_get seen number ≡ Some (is_named named number)

-- ---- all of it

-- what holds of what a sound buffer shows
pub record IsWhole {L : Type 0} (kinds : Kinds L) (s : Shape L) : Type 0 where
  pub linked : IsLinked kinds s.bytes s.uses
  pub even : length s.bytes % 2 ≡ 0
  pub places : (label at : ℕ) → s.place label ≡ Some at → (at ≤ length s.bytes) × (at % 2 ≡ 0) × IsUsable s label
  pub known : (j : ℕ) (u : Use L) → slice_get s.uses j ≡ Some u → IsUsable s u.label.number
  pub ordered : IsOrdered s

-- and of what it doesn't
pub record AreSound {L : Type 0} (kinds : Kinds L) (s : Shape L) (inside : Inside) : Type 0 where
  pub whole : IsWhole kinds s
  pub kept : AreKept kinds s.place s.uses inside.pending
  pub noted : AreNoted s.registered s.named inside.seen
