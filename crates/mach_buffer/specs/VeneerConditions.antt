-- This crate's inside: what is asked of uses that get their veneers.
use Rattle.std.specs.Prelude.{◌≡◌, ℕ, ◌+◌, ◌*◌, ◌%◌, ◌<◌, List, length}
use Rattle.rv_base.specs.LabelUse.{code_limit, Kinds}
use Rattle.mach_uses.specs.Order.{CanPut}
use Rattle.mach_buffer.specs.Shape.{Shape}
use Rattle.mach_buffer.specs.Links.{IsLinked}
use Rattle.mach_buffer.specs.Constants.{end_after}
use Rattle.mach_buffer.specs.Inside.{IsOrdered}

-- each of these veneers can be put, and then the constants that don't stand yet
pub record CanPutAll {L : Type 0} (kinds : Kinds L) (s : Shape L) (order : List ℕ) : Type 0 where
  pub linked : IsLinked kinds s.bytes s.uses
  pub even : length s.bytes % 2 ≡ 0
  pub ordered : IsOrdered s
  pub can : CanPut kinds s.uses (length s.bytes) order
  pub room : end_after s (length s.bytes + 8 * length order) < code_limit
