use Rattle.std.proofs.Math.Facts.{Fits-lt-pow}
use Rattle.rv_base.specs.declared.ir_type.IrType.TheVariants.{I32}
use Rattle.rv_inst.proofs.Sequences.{constant_sets, ok_instead}
use Rattle.rv_inst.proofs.inst.Inst.load_constant_u32.Goals as goal

pub returns-clause-sets : goal.returns-clause-sets
returns-clause-sets c = ok_instead c.load_constant.result _ _ (λ insts made. constant_sets I32 c.args.rd c.args.value insts.items (Fits-lt-pow c.ranges.value) made) c.load_constant.ensures.insts
