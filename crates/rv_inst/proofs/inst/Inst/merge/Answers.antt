use Rattle.rv_inst.proofs.RegisterParts.{merges}
use Rattle.rv_inst.proofs.inst.Inst.merge.Goals as goal

pub returns-clause-merges : goal.returns-clause-merges
returns-clause-merges c = rw (c.in_ok-put_set.ensures.insts, c.in_ok-put_unset.ensures.insts, c.new-insts.ensures.items) (merges c.args.rd c.args.tmp c.args.offset c.args.rs c.args.ty c.requires)
