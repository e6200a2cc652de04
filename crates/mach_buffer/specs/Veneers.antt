-- For callers: veneers put one after the other.
use Rattle.std.specs.Prelude.{ℕ, List, [], ◌∷◌, ◌++◌, length, Option, Some, None, slice_get, slice_set}
use Rattle.rv_base.specs.LabelUse.{Kinds}
use Rattle.mach_uses.specs.declared.uses.Use.{Use}
use Rattle.mach_buffer.specs.Shape.{Shape, veneer_use}

-- a use gets its veneer: the veneer's bytes at the end of the code, and its own use at the end of the uses
abbrev pub put_at : {L : Type 0} → Kinds L → ℕ → Option (Use L) → Shape L → Shape L
put_at kinds index None s = s
put_at kinds index (Some u) s = record s {
  bytes = s.bytes ++ (kinds.veneer u.kind).bytes;
  uses = slice_set s.uses index (record u { veneer = Some (length s.bytes) }) ++ veneer_use (kinds.veneer u.kind) (length s.bytes) u.label ∷ [];
}

-- the use of a number does
abbrev pub put_veneer : {L : Type 0} → Kinds L → ℕ → Shape L → Shape L
put_veneer kinds index s = put_at kinds index (slice_get s.uses index) s

-- and those of several, in turn
abbrev pub put_all : {L : Type 0} → Kinds L → List ℕ → Shape L → Shape L
put_all kinds [] s = s
put_all kinds (index ∷ order) s = put_all kinds order (put_veneer kinds index s)
