use Rattle.std.proofs.Common.{◌≡◌, Some, sym, ap, subst, ◌∙◌}
use Rattle.rv_disasm.specs.Text.{form_fields, fields_text}
use Rattle.rv_disasm.specs.Placing.{form_fixed}
use Rattle.rv_disasm.specs.Reading.{plain, filled, form_named}
use Rattle.rv_disasm.proofs.Candidates.{name_is, rest_is, some_form, none_form, no_form, word_cut, half_cut, no_word, no_half}
use Rattle.rv_disasm.proofs.reading.candidate.Goals as goal

pub returns-in-Some : goal.returns-in-Some
returns-in-Some c = record {
  instruction = λ f d fine e.
      let same : c.in-Some.form ≡ plain f = some_form c.in-Some.form (plain f) (sym c.in-Some.is ∙ c.form_named.ensures ∙ name_is f d c.args.text.now _ c.cut.ensures.before e) in
      subst (λ g. c.word_of.result ≡ Some (filled g (form_fields g) d (form_fixed g))) same
      (c.word_of.ensures d fine (rest_is f d c.args.text.now _ c.cut.ensures.from e ∙ ap (λ g. fields_text 32 (form_fields g) d) (sym same)));
  word = λ n low e. absurd (no_form c.in-Some.form (sym c.in-Some.is ∙ c.form_named.ensures ∙ ap form_named (c.cut.ensures.before ∙ (word_cut n c.args.text.now e).0) ∙ no_word));
  half = λ n low e. absurd (no_form c.in-Some.form (sym c.in-Some.is ∙ c.form_named.ensures ∙ ap form_named (c.cut.ensures.before ∙ (half_cut n c.args.text.now e).0) ∙ no_half));
}

pub returns-in-None : goal.returns-in-None
returns-in-None c = record {
  instruction = λ f d fine e. absurd (none_form (plain f) (sym c.in-None.is ∙ c.form_named.ensures ∙ name_is f d c.args.text.now _ c.cut.ensures.before e));
  word = λ n low e. let at = word_cut n c.args.text.now e in c.data_of.ensures.word n low (c.cut.ensures.before ∙ at.0) (c.cut.ensures.from ∙ at.1);
  half = λ n low e. let at = half_cut n c.args.text.now e in c.data_of.ensures.half n low (c.cut.ensures.before ∙ at.0) (c.cut.ensures.from ∙ at.1);
}
