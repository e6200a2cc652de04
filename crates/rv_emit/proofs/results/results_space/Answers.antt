use Rattle.rv_emit.proofs.{MostBytes.all_load, Terms.arith}
use Rattle.rv_emit.proofs.results.results_space.Goals as goal

pub returns : goal.returns
returns c = omega (arith, all_load c.args.defs.now c.requires.results, c.on_stack.ensures)
