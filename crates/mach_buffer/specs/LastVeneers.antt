-- This crate's inside: what stands before the last patches.
use Rattle.std.specs.Prelude.{◌≡◌, ℕ, List, length}
use Rattle.rv_base.specs.LabelUse.{Kinds}
use Rattle.mach_buffer.specs.Shape.{Shape}
use Rattle.mach_uses.specs.Reach.{is_pending}
use Rattle.mach_buffer.specs.Veneers.{put_all}
use Rattle.mach_uses.specs.Order.{IsOrder}
use Rattle.mach_buffer.specs.Constants.{put_constants}
use Rattle.mach_buffer.specs.Finish.{padded_for}

-- a veneer was put for each pending use, in order, and then each constant that doesn't stand yet
pub record LastPut {L : Type 0} (kinds : Kinds L) (s put : Shape L) : Type 0 where
  pub order : List ℕ
  pub in_order : IsOrder kinds (is_pending kinds s.place) s.uses order
  pub whole : put ≡ put_constants (put_all kinds order (padded_for (length order) s))
