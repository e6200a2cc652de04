use Rattle.std.proofs.Common.{sym, ap, ◌∙◌, Some}
use Rattle.std.proofs.lemmas.Bool.{both_ways}
use Rattle.rv_disasm.specs.Text.{word_at, word_text}
use Rattle.rv_disasm.proofs.Words.{held_word, held_text}
use Rattle.rv_disasm.proofs.reading.checked.Goals as goal

pub returns-then-is_text : goal.returns-then-is_text
returns-then-is_text c = record {
  sound = (c.args.bits, c.ranges.bits.fits, c.word_at.ensures, c.is_text.ensures.0 c.if-is_text.true);
  complete = λ word low same e. ap Some (c.word_at.ensures ∙ ap word_at same ∙ held_word word);
}

pub returns-else-is_text : goal.returns-else-is_text
returns-else-is_text c = record {
  sound = _;
  complete = λ word low same e. absurd (both_ways c.is_text.result c.if-is_text.false (c.is_text.ensures.1 (e ∙ sym (held_text c.args.flags word) ∙ ap (word_text c.args.flags) (sym same))));
}
