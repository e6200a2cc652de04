use Rattle.rv_inst.proofs.RegisterParts.{mask_sets}
use Rattle.rv_inst.proofs.inst.Inst.load_int_mask.Goals as goal

pub returns-clause-sets : goal.returns-clause-sets
returns-clause-sets c = rw (c.in_ok-put_int_mask.ensures.insts, c.new-insts.ensures.items) (mask_sets c.args.rd c.args.ty c.requires)
