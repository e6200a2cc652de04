use Rattle.rv_sequences.proofs.{AddressCode.{access_then, longer}, SlotsPut.alone_sound, Terms.{arith, access_short}}
use Rattle.rv_sequences.proofs.memory.put_near_store.Goals as goal

pub put_store_word-requires : goal.put_store_word-requires
put_store_word-requires c = record { has = c.requires.has; base = c.requires.base; src = c.requires.src; room = omega (arith, longer _ _ _ (access_short c.args.trap) (c.in_ok-put_access.ensures.slots c.args.flags), c.requires.room); sound = alone_sound _ _ _ (c.in_ok-put_access.ensures.slots c.args.flags) }

pub returns-clause-slots : goal.returns-clause-slots
returns-clause-slots c = access_then c.args.trap _ _ _ _ (c.in_ok-put_access.ensures.slots c.args.flags) c.in_ok-put_store_word.ensures.slots
