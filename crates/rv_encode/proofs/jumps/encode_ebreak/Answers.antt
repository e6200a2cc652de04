use Rattle.rv_encode.proofs.Decoding.{ebreak_decodes}
use Rattle.rv_encode.proofs.jumps.encode_ebreak.Goals as goal

pub returns : goal.returns
returns c = λ flags. ebreak_decodes flags c.i_word.result c.i_word.ensures
