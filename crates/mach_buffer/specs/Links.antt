-- For callers: veneers that stand, and the uses that go by them.
use Rattle.std.specs.Prelude.{◌≡◌, ℕ, ◌+◌, ◌%◌, ◌≤◌, List, length, Some, slice_get, true}
use Rattle.rv_base.specs.LabelUse.{Kinds}
use Rattle.mach_uses.specs.declared.uses.Use.{Use}
use Rattle.mach_buffer.specs.Shape.{veneer_use}
use Rattle.mach_uses.specs.Windows.{window}
use Rattle.mach_uses.specs.Reach.{deadline}

-- a use's veneer stands at an even place after the use and in its reach, and the veneer's own use is among the uses
pub record HasVeneer {L : Type 0} (kinds : Kinds L) (bytes : List ℕ) (uses : List (Use L)) (u : Use L) (at : ℕ) : Type 0 where
  pub inside : at + 8 ≤ length bytes
  pub code : window bytes at 8 ≡ (kinds.veneer u.kind).bytes
  pub index : ℕ
  pub own : slice_get uses index ≡ Some (veneer_use (kinds.veneer u.kind) at u.label)
  pub near : at ≤ deadline kinds u
  pub after : u.offset ≤ at
  pub supported : kinds.has_veneer u.kind ≡ true
  pub even : at % 2 ≡ 0

-- each use that goes by a veneer has it
pub record IsLinked {L : Type 0} (kinds : Kinds L) (bytes : List ℕ) (uses : List (Use L)) : Type 0 where
  pub each : (j : ℕ) (u : Use L) (at : ℕ) → slice_get uses j ≡ Some u → u.veneer ≡ Some at → HasVeneer kinds bytes uses u at
  pub before : (j : ℕ) (u : Use L) → slice_get uses j ≡ Some u → u.offset ≤ length bytes
