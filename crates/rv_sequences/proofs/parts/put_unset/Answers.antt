use Rattle.rv_code.specs.AtomicLoops.{mask_pieces}
use Rattle.rv_sequences.proofs.{AddressCode.pieces_then, PartsCode.{actions_plain, mask_few}, SlotsPut.both_alone, Terms.{number_of}}
use Rattle.rv_sequences.proofs.parts.put_unset.Goals as goal

pub returns-clause-slots : goal.returns-clause-slots
returns-clause-slots c =
    pieces_then _ _ _ _ _ (actions_plain c.args.flags (mask_pieces (number_of c.args.tmp.reg) c.args.bits) (mask_few (number_of c.args.tmp.reg) c.args.bits).actions)
    c.in_ok-put_mask.ensures.slots
    (both_alone _ _ _ _ _ tt c.in_ok-put_rrr.ensures.slots
    (both_alone _ _ _ _ _ tt (rw c.minus_one.ensures at c.in_ok-put_rri.ensures.slots) c.in_ok-put_rrr-2.ensures.slots))
