use Rattle.rv_inst.specs.declared.inst.Inst.TheVariants.{Fence}
use Rattle.rv_listing.specs.Forms.{form_of}
use Rattle.rv_listing.proofs.atomic_forms.atomic_line.Goals as goal

pub returns-in-Fence : goal.returns-in-Fence
unfolding form_of
returns-in-Fence c = rw c.in-Fence.is (c.put.ensures Fence (λ x i made. cc))
