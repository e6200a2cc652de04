use Rattle.rv_gen.proofs.SameOperands.{argument_is}
use Rattle.rv_gen.proofs.generator.argument.Goals as goal

pub returns : goal.returns
returns c = argument_is c.args.p _
