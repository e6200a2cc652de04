use Rattle.rv_sequences.proofs.{SlotsPut.trap_put, Terms.refl}
use Rattle.rv_sequences.proofs.expansions.put_trap.Goals as goal

pub returns-then-flags-clause-slots : goal.returns-then-flags-clause-slots
returns-then-flags-clause-slots c = trap_put _ _ c.add_trap.new.self _ _ _ (rw c.if-flags.true refl) c.in_ok-add_trap.ensures.recorded.2 c.in_ok-put2.ensures.put.2 c.in_ok-put2.ensures.sound

pub returns-clause-slots : goal.returns-clause-slots
returns-clause-slots c = trap_put _ _ c.add_trap.new.self _ _ _ (rw c.if-flags.false refl) c.in_ok-add_trap.ensures.recorded.2 c.in_ok-put4.ensures.put.2 c.in_ok-put4.ensures.sound
