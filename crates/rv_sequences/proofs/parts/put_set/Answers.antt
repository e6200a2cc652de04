use Rattle.rv_code.specs.Choices.{extend_pieces}
use Rattle.rv_sequences.proofs.{AddressCode.pieces_then, PartsCode.{actions_plain, extend_few}, SlotsPut.both_alone, Terms.{false, number_of}}
use Rattle.rv_sequences.proofs.parts.put_set.Goals as goal

pub returns-clause-slots : goal.returns-clause-slots
returns-clause-slots c =
    pieces_then _ _ _ _ _ (actions_plain c.args.flags (extend_pieces (number_of c.args.tmp.reg) (number_of c.args.rs) false c.args.bits) (extend_few (number_of c.args.tmp.reg) (number_of c.args.rs) false c.args.bits).actions)
    c.in_ok-put_extend.ensures.slots
    (both_alone _ _ _ _ _ tt c.in_ok-put_rrr.ensures.slots c.in_ok-put_rrr-2.ensures.slots)
