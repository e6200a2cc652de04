use Rattle.rv_sequences.proofs.{CodePut.{puts_next, next_few, all_put}, Terms.arith}
use Rattle.rv_sequences.proofs.code.put_code.Goals as goal

pub loop-piece-preserved : goal.loop-piece-preserved
loop-piece-preserved c =
    let k = c.loop-piece.invariant in
    let few = c.requires.few in
    let count = next_few _ _ _ _ _ c.in_ok-own.ensures.next in
    let counted = k.2 in
    (puts_next _ _ c.piece-item.is c.loop-piece-test.true (omega arith) k.0 c.in_ok-own.ensures.next c.in_ok-own.ensures.slot, c.in_ok-own.ensures.sound, omega arith)

pub returns-clause-slots : goal.returns-clause-slots
returns-clause-slots c = all_put _ _ _ _ _ c.loop-piece-test.false c.loop-piece.invariant.0 c.loop-piece.invariant.1
