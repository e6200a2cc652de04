use Rattle.rv_sequences.proofs.{AddressCode.longer, SlotsPut.{bytes_put, both_alone, alone_sound}, Terms.{Ld, arith, load_over_short}}
use Rattle.rv_sequences.proofs.expansions.put_double_constant.Goals as goal

pub put8-requires : goal.put8-requires
put8-requires c = record { room = λ unspoiled. omega (arith, longer _ _ _ (load_over_short c.args.flags _ Ld 8) c.in_ok-put_load_over.ensures.slots, c.requires.room); sound = λ unspoiled. alone_sound _ _ _ c.in_ok-put_load_over.ensures.slots }

pub returns-clause-slots : goal.returns-clause-slots
returns-clause-slots c =
    both_alone _ _ _ _ _ tt c.in_ok-put_load_over.ensures.slots
    (bytes_put _ _ _ _ c.in_ok-put8.ensures.put.2 c.in_ok-put8.ensures.sound)
