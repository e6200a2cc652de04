use Rattle.rv_sequences.proofs.Terms.{ap, ◌∙◌, canonical_type}
use Rattle.rv_sequences.proofs.code.put_whole_move.Goals as goal

pub returns-clause-slots : goal.returns-clause-slots
returns-clause-slots c = rw (c.canonical_type_for_rc-ty.ensures ∙ ap canonical_type c.class.ensures) at c.put_move.ensures.slots
