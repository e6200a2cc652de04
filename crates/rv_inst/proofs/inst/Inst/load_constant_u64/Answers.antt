use Rattle.std.proofs.Math.Facts.{Fits-lt-pow}
use Rattle.rv_inst.proofs.Sequences.{long_constant_sets, ok_instead}
use Rattle.rv_inst.proofs.inst.Inst.load_constant_u64.Goals as goal

pub returns-clause-sets : goal.returns-clause-sets
returns-clause-sets c = ok_instead c.load_constant.result _ _ (λ insts made. long_constant_sets c.args.rd c.args.value insts.items (Fits-lt-pow c.ranges.value) made) c.load_constant.ensures.insts
