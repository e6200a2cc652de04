use Rattle.rv_sequences.proofs.{CodePut.float_width, Terms.{refl, on_ok_weaker, number_of, RNE, Fsgnj, decoded_fpu_rrr}}
use Rattle.rv_sequences.proofs.moves.put_float_move.Goals as goal

pub returns-clause-slots : goal.returns-clause-slots
returns-clause-slots c =
    let flags = c.args.flags in
    let from = number_of c.args.rm in
    let taken = rw (← c.width_for.ensures) at (float_width _ _ _ c.requires.fine c.requires.class) in
    on_ok_weaker c.put_word.result
    (λ put. rw c.width_for.ensures at (put flags (decoded_fpu_rrr Fsgnj c.width_for.result RNE (number_of c.args.rd.reg) from from) refl (c.encode_fp_rrr.ensures.decodes flags taken refl)))
    c.put_word.ensures.slot
