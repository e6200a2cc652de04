use Rattle.rv_sequences.proofs.{SlotsPut.{both_alone, alone_long, alone_sound}, Terms.{Some, refl, ap, ◌∙◌, arith, number_of, decoded_load, has_integer_load}}
use Rattle.rv_sequences.proofs.expansions.put_load_over.Goals as goal

pub put_word-requires-2 : goal.put_word-requires-2
put_word-requires-2 c = record { room = omega (arith, alone_long _ _ _ (c.in_ok-put_word.ensures.slot c.args.flags _ refl (c.enc_auipc.ensures.decodes c.args.flags)), c.requires.room); sound = alone_sound _ _ _ (c.in_ok-put_word.ensures.slot c.args.flags _ refl (c.enc_auipc.ensures.decodes c.args.flags)) }

pub put_short_jump-requires-clause-room : goal.put_short_jump-requires-clause-room
put_short_jump-requires-clause-room c =
    let l = alone_long _ _ _ (c.in_ok-put_word.ensures.slot c.args.flags _ refl (c.enc_auipc.ensures.decodes c.args.flags)) in
    omega (arith, alone_long _ _ _ (c.in_ok-put_word-2.ensures.slot c.args.flags _ refl (c.encode_load.ensures c.args.flags (has_integer_load c.args.flags _ c.requires.integer))), c.requires.room)

pub put_short_jump-requires-clause-sound : goal.put_short_jump-requires-clause-sound
put_short_jump-requires-clause-sound c = alone_sound _ _ _ (c.in_ok-put_word-2.ensures.slot c.args.flags _ refl (c.encode_load.ensures c.args.flags (has_integer_load c.args.flags _ c.requires.integer)))

pub returns-clause-slots : goal.returns-clause-slots
returns-clause-slots c =
    let n = number_of c.args.rd.reg in
    let flags = c.args.flags in
    both_alone _ _ _ _ _ tt
    (c.in_ok-put_word.ensures.slot flags _ refl (c.enc_auipc.ensures.decodes flags))
    (both_alone _ _ _ _ _ tt
    (c.in_ok-put_word-2.ensures.slot flags _ refl (c.encode_load.ensures flags (has_integer_load flags _ c.requires.integer) ∙ ap (λ z. Some (decoded_load c.args.op n n z)) c.over_jump.ensures.value))
    (rw c.over_jump-2.ensures.value at c.in_ok-put_short_jump.ensures.slots))
