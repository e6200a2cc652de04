use Rattle.std.proofs.Common.{arith}
use Rattle.std.proofs.lemmas.Grind.{common_steps}
use Rattle.rv_encode.proofs.AtomicDecoding.{fence_decodes}
use Rattle.rv_encode.proofs.atomic.encode_fence.Goals as goal

pub returns-clause-layout : goal.returns-clause-layout
returns-clause-layout c = grind (arith, common_steps)

pub returns-clause-decodes : goal.returns-clause-decodes
returns-clause-decodes c = λ flags. fence_decodes flags c.i_word.result c.args.pred c.args.succ c.requires.pred c.requires.succ (returns-clause-layout c)
