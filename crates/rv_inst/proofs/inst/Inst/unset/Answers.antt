use Rattle.rv_inst.proofs.RegisterParts.{unsets}
use Rattle.rv_inst.proofs.inst.Inst.unset.Goals as goal

pub returns-clause-unsets : goal.returns-clause-unsets
returns-clause-unsets c = rw (c.in_ok-put_unset.ensures.insts, c.new-insts.ensures.items) (unsets c.args.rd c.args.tmp c.args.offset c.args.ty c.requires)
