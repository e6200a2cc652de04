use Rattle.rv_sequences.proofs.Terms.{Some, refl, ap, ◌∙◌, number_of, moved_to_float, real_number}
use Rattle.rv_sequences.proofs.halves.word_to_float.Goals as goal

pub returns : goal.returns
returns c = λ flags. c.encode_fp_rr.ensures.decodes flags refl refl ∙ ap (λ n. Some (moved_to_float (number_of c.args.rd.reg) n)) (real_number _ _ _ c.spilltmp_reg.ensures)
