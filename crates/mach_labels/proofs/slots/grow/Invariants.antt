use Rattle.std.proofs.Common.{◌≡◌, ◌-◌, ◌+◌, ℕ, vec_len}
use Rattle.mach_labels.specs.Slots.{slot_of}
use Rattle.mach_labels.proofs.slots.grow.Given as goal

abbrev pub invariant-fill : goal.invariant-fill
invariant-fill g l = (n : ℕ) → slot_of l.slots.items n ≡ slot_of l.initial.slots.items n

abbrev pub decreases-fill : goal.decreases-fill
decreases-fill g l = l.index + 1 - vec_len l.slots
