-- A machine that others write to keeps its numbers in their ranges.
use Rattle.std.proofs.Common.{◌≡◌, ℕ, zero, suc, true, false, Option, Some, None, List, [], ◌∷◌, refl, subst}
use Rattle.std.specs.Prelude.{IfSome, if◌then◌else◌}
use Rattle.std.specs.List.{AllByRecursion}
use Rattle.rv_full.proofs.RowsKeep.{reserved_set_fits}
use Rattle.rv_full.proofs.StatesKept.{step_kept}
use Rattle.rv_base.specs.declared.flags.IsaFlags.{IsaFlags}
use Rattle.rv_machine.proofs.States.{set_byte_state}
use Rattle.rv_full.specs.declared.units.Reservation.{Reservation}
use Rattle.rv_full.specs.Units.{FullState, IsFullState, IsReservation}
use Rattle.rv_full.specs.Steps.{fstep}
use Rattle.rv_full.specs.Shared.{Shared, Write, IsWrite, AreWrites, IsShared, aiter, astep, foreign, foreigns, interfere, is_reserved, left_by, shared_by, then_astep}

left_fits : (a : ℕ) (r : Option Reservation) → IfSome r IsReservation → IfSome (left_by a r) IsReservation
left_fits a None h = tt
left_fits a (Some r) h = elim (is_reserved a r) as (λ c. IfSome (if c then None else Some r) IsReservation) [ true ↦ tt | false ↦ h ]

foreign_keeps : (w : Write) (b : FullState) → IsWrite w → IsFullState b → IsFullState (foreign w b)
foreign_keeps w b fits h = record {
  state = set_byte_state b.state w.0 w.1 h.state fits.1;
  units = reserved_set_fits b.units (left_by w.0 b.units.reserved) h.units (left_fits w.0 b.units.reserved h.units.reserved_fits);
  answers = h.answers;
}

pub foreigns_keep : (ws : List Write) (b : FullState) → AreWrites ws → IsFullState b → IsFullState (foreigns ws b)
foreigns_keep [] b fits h = h
foreigns_keep (w ∷ ws) b fits h = foreigns_keep ws (foreign w b) fits.1 (foreign_keeps w b fits.0 h)

pub interfered : (later : List (List Write)) (b : FullState) → AllByRecursion AreWrites later → IsFullState b → IsShared (interfere later b)
interfered [] b fits h = record { full = h; later = tt }
interfered (ws ∷ later) b fits h = record { full = foreigns_keep ws b fits.0 h; later = fits.1 }

-- one step of the machine, and what others write after it
shared_step : (flags : IsaFlags) (a c : Shared) → IsShared a → astep flags a ≡ Some c → IsShared c
shared_step flags a c h went = after (fstep flags a.full) went (λ b is. step_kept flags a.full b h.full is)
  where
    after : (o : Option FullState) → shared_by a.later o ≡ Some c → ((b : FullState) → o ≡ Some b → IsFullState b) → IsShared c
    after None went kept = absurd (cc)
    after (Some b) went kept = let is : interfere a.later b ≡ c = cc in subst IsShared is (interfered a.later b h.later (kept b refl))

pub shared_run : (flags : IsaFlags) (n : ℕ) (a c : Shared) → IsShared a → aiter flags n a ≡ Some c → IsShared c
unfolding aiter
shared_run flags zero a c h ran = let is : a ≡ c = cc in subst IsShared is h
shared_run flags (suc n) a c h ran = after (aiter flags n a) ran (λ b first. shared_run flags n a b h first)
  where
    after : (o : Option Shared) → then_astep flags o ≡ Some c → ((b : Shared) → o ≡ Some b → IsShared b) → IsShared c
    after None last first = absurd (cc)
    after (Some b) last first = shared_step flags b c (first b refl) last
