use Rattle.rv_sequences.proofs.{AddressCode.{access_then, longer}, SlotsPut.alone_sound, Terms.{arith, access_short}}
use Rattle.rv_sequences.proofs.memory.put_near_load.Goals as goal

pub put_load_word-requires : goal.put_load_word-requires
put_load_word-requires c = record { has = c.requires.has; rd = c.requires.rd; base = c.requires.base; room = omega (arith, longer _ _ _ (access_short c.args.trap) (c.in_ok-put_access.ensures.slots c.args.flags), c.requires.room); sound = alone_sound _ _ _ (c.in_ok-put_access.ensures.slots c.args.flags) }

pub returns-clause-slots : goal.returns-clause-slots
returns-clause-slots c = access_then c.args.trap _ _ _ _ (c.in_ok-put_access.ensures.slots c.args.flags) c.in_ok-put_load_word.ensures.slots
