use Rattle.rv_inst.specs.declared.inst.Inst.TheVariants.{Auipc, LabelAddress, LoadAddr, LoadExtNameGot, Lui, MovFromPReg}
use Rattle.rv_listing.specs.Forms.{form_of}
use Rattle.rv_listing.proofs.forms.line_of.Goals as goal

pub returns-in-Lui : goal.returns-in-Lui
unfolding form_of
returns-in-Lui c = rw c.in-Lui.is (c.put-in-Lui.ensures Lui (λ x i made. cc))

pub returns-in-Auipc : goal.returns-in-Auipc
unfolding form_of
returns-in-Auipc c = rw c.in-Auipc.is (c.put-in-Auipc.ensures Auipc (λ x i made. cc))

pub returns-in-MovFromPReg : goal.returns-in-MovFromPReg
unfolding form_of
returns-in-MovFromPReg c = rw c.in-MovFromPReg.is (c.put-in-MovFromPReg.ensures MovFromPReg (λ x i made. cc))

pub returns-in-LoadAddr : goal.returns-in-LoadAddr
unfolding form_of
returns-in-LoadAddr c = rw c.in-LoadAddr.is (c.put-in-LoadAddr.ensures LoadAddr (λ x i made. cc))

pub returns-in-LabelAddress : goal.returns-in-LabelAddress
unfolding form_of
returns-in-LabelAddress c = rw c.in-LabelAddress.is (c.put-in-LabelAddress.ensures LabelAddress (λ x i made. cc))

pub returns-in-LoadExtNameGot : goal.returns-in-LoadExtNameGot
unfolding form_of
returns-in-LoadExtNameGot c = rw c.in-LoadExtNameGot.is (c.put-in-LoadExtNameGot.ensures LoadExtNameGot (λ x i made. cc))
