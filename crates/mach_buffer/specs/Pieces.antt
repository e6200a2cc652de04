-- For callers: one piece of code with one use, in finished code.
use Rattle.std.specs.Prelude.{◌≡◌, ℕ, ◌%◌, ◌≤◌, ◌⊎◌, true, List, length, Some, None, slice_get, pos, ◌-ℤ◌}
use Rattle.rv_base.specs.LabelUse.{Kinds, SameOutside}
use Rattle.mach_uses.specs.declared.uses.Use.{Use}
use Rattle.mach_buffer.specs.Shape.{Shape}
use Rattle.mach_uses.specs.Windows.{window}
use Rattle.mach_uses.specs.Reach.{is_reached}
use Rattle.mach_buffer.specs.Links.{HasVeneer}
use Rattle.mach_buffer.specs.Finish.{IsVia}

-- a piece of code after the bytes of a shape is the window of a use, which has no veneer yet
pub record IsPiece {L : Type 0} (kinds : Kinds L) (s : Shape L) (piece : List ℕ) (u : Use L) : Type 0 where
  pub at : u.offset ≡ length s.bytes
  pub bare : u.veneer ≡ None
  pub long : length piece ≡ length (kinds.fields u.kind)

-- a use goes by its veneer, which stands at `at`, was put there before the patches, and goes to the place of the use's label
pub record ByVeneer {L : Type 0} (kinds : Kinds L) (put : Shape L) (bytes : List ℕ) (u : Use L) (at : ℕ) : Type 0 where
  pub supported : kinds.has_veneer u.kind ≡ true
  pub to : ℕ
  pub bound : put.place u.label.number ≡ Some to
  pub via : IsVia kinds (kinds.veneer u.kind) bytes u to
  pub here : via.at ≡ at
  pub stood : HasVeneer kinds put.bytes put.uses u at

-- a use whose window was `piece`, the one after those of a shape s, in the bytes that finish a shape f, of which `put` stood
-- before the patches: its window aims at a target, which is its label's place or its veneer, and keeps its bits outside the fields. The
-- target is its label's place where the use still has no veneer in f, and its label in reach
pub record UseFinished {L : Type 0} (kinds : Kinds L) (s f put : Shape L) (bytes piece : List ℕ) (u : Use L) : Type 0 where
  pub target : ℕ
  pub aimed : kinds.aims u.kind (window bytes u.offset (length (kinds.fields u.kind))) (pos target -ℤ pos u.offset)
  pub kept : SameOutside (kinds.fields u.kind) piece (window bytes u.offset (length (kinds.fields u.kind)))
  pub even : target % 2 ≡ 0
  pub inside : target ≤ length bytes
  pub goes : (put.place u.label.number ≡ Some target) ⊎ ByVeneer kinds put bytes u target
  pub straight : slice_get f.uses (length s.uses) ≡ Some u → is_reached kinds (f.place u.label.number) u ≡ true → put.place u.label.number ≡ Some target
