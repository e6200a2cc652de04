use Rattle.rv_code.specs.AtomicLoops.{unset_pieces}
use Rattle.rv_sequences.proofs.{AddressCode.pieces_then, PartsCode.{actions_plain, unset_few}, Terms.{number_of}}
use Rattle.rv_sequences.proofs.parts.put_merge.Goals as goal

pub returns-clause-slots : goal.returns-clause-slots
returns-clause-slots c =
    pieces_then _ _ _ _ _ (actions_plain c.args.flags (unset_pieces (number_of c.args.rd.reg) (number_of c.args.tmp.reg) (number_of c.args.offset) c.args.bits) (unset_few (number_of c.args.rd.reg) (number_of c.args.tmp.reg) (number_of c.args.offset) c.args.bits).actions)
    c.in_ok-put_unset.ensures.slots c.in_ok-put_set.ensures.slots
