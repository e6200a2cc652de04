use Rattle.rv_inst.proofs.RegisterParts.{sets}
use Rattle.rv_inst.proofs.inst.Inst.set.Goals as goal

pub returns-clause-sets : goal.returns-clause-sets
returns-clause-sets c = rw (c.in_ok-put_set.ensures.insts, c.new-insts.ensures.items) (sets c.args.rd c.args.tmp c.args.offset c.args.rs c.args.ty)
