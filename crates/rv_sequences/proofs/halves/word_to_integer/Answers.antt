use Rattle.rv_sequences.proofs.Terms.{Some, refl, ap, ◌∙◌, number_of, moved_to_integer, real_number}
use Rattle.rv_sequences.proofs.halves.word_to_integer.Goals as goal

pub returns : goal.returns
returns c = λ flags. c.encode_fp_rr.ensures.decodes flags refl refl ∙ ap (λ n. Some (moved_to_integer n (number_of c.args.src))) (real_number _ _ _ c.writable_spilltmp_reg2.ensures)
