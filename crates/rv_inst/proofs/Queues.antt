-- Of the kinds of use that support a veneer each has a queue of its own.
use Rattle.std.proofs.Common.{◌≡◌, ◌∙◌, ℕ, zero, suc, true, refl, ap, sym}
use Rattle.mach_uses.specs.declared.uses.Use.{Use}
use Rattle.mach_uses.specs.Queues.{queue_for, queue_of}
use Rattle.rv_inst.specs.declared.label_use.LabelUse.{LabelUse}
use Rattle.rv_inst.specs.declared.label_use.LabelUse.TheVariants.{Jal20, B12, PCRel32, PCRelHi20, PCRelLo12I, RVCJump}
use Rattle.rv_inst.specs.LabelUse.{forward_of, has_veneer_of, label_kinds}

-- the kind of a queue
abbrev kind_in : ℕ → LabelUse
kind_in zero = RVCJump
kind_in (suc zero) = B12
kind_in (suc (suc queue)) = Jal20

kind_is : (kind : LabelUse) → has_veneer_of kind ≡ true → kind_in (queue_for (forward_of kind)) ≡ kind
kind_is Jal20 may = refl
kind_is B12 may = refl
kind_is PCRel32 may = absurd (cc)
kind_is PCRelHi20 may = absurd (cc)
kind_is PCRelLo12I may = absurd (cc)
kind_is RVCJump may = refl

-- so two uses in one queue are of one kind
pub own_queue : (u v : Use LabelUse) → label_kinds.has_veneer u.kind ≡ true → label_kinds.has_veneer v.kind ≡ true → queue_of label_kinds u ≡ queue_of label_kinds v → u.kind ≡ v.kind
own_queue u v may_u may_v same = sym (kind_is u.kind may_u) ∙ ap kind_in same ∙ kind_is v.kind may_v
