use Rattle.std.proofs.Common.{w64, sym, ap, ◌∙◌, drop, ◌+◌, arith, ◌%◌, ◌^◌}
use Rattle.rv_disasm.specs.Layouts.{fields_of}
use Rattle.rv_disasm.specs.Text.{fields_text, space}
use Rattle.rv_disasm.specs.Placing.{place}
use Rattle.rv_disasm.specs.Reading.{filled}
use Rattle.rv_disasm.proofs.FieldTexts.{field_small}
use Rattle.rv_disasm.proofs.WordReads.{begins_comma, next_named, next_text_in, moved, all_read}
use Rattle.std.specs.Int.{cast_unsigned}
use Rattle.rv_disasm.proofs.Tokens.{kept_z}
use Rattle.rv_disasm.proofs.reading.word_of.Goals as goal

pub loop-field-init : goal.loop-field-init
loop-field-init c = (c.fixed-word.ensures.small, λ d fine e. record { lead = 32; text_is = e; sum = ap (filled c.args.form c.fields-fields.result.now d) c.fixed-word.ensures.value })

pub returns : goal.returns
returns c = λ d fine e.
    let same = c.fields-fields.ensures ∙ ap fields_of c.layout.ensures in
    all_read c.args.form c.fields-fields.result.now c.loop-field.field-index d c.loop-field.rest.now c.loop-field.word (c.loop-field.invariant.1 d fine (e ∙ ap (λ l. fields_text space l d) (sym same))) c.loop-field-test.false same

pub returns-in_err-number : goal.returns-in_err-number
returns-in_err-number c = λ d fine e.
    let same = c.fields-fields.ensures ∙ ap fields_of c.layout.ensures in
    let at = c.loop-field.invariant.1 d fine (e ∙ ap (λ l. fields_text space l d) (sym same)) in
    absurd (c.in_err-number.ensures at.lead _ (fields_text 44 (drop (c.loop-field.field-index + 1) c.fields-fields.result.now) d) (next_named c.file.result _ d c.file.ensures fine) (field_small _ d fine) (begins_comma (drop (c.loop-field.field-index + 1) c.fields-fields.result.now) d) (next_text_in c.file.result c.fields-fields.result.now c.loop-field.field-index _ d at.lead c.loop-field.rest.now c.file.ensures c.loop-field-test.true at.text_is))

pub loop-field-preserved : goal.loop-field-preserved
loop-field-preserved c = (
  omega arith,
  λ d fine e.
      let at = c.loop-field.invariant.1 d fine e in
      let reads = c.in_ok-number.ensures at.lead _ (fields_text 44 (drop (c.loop-field.field-index + 1) c.fields-fields.result.now) d) (next_named c.file.result _ d c.file.ensures fine) (field_small _ d fine) (begins_comma (drop (c.loop-field.field-index + 1) c.fields-fields.result.now) d) (next_text_in c.file.result c.fields-fields.result.now c.loop-field.field-index _ d at.lead c.loop-field.rest.now c.file.ensures c.loop-field-test.true at.text_is) in
      moved c.args.form c.fields-fields.result.now c.loop-field.field-index _ d c.loop-field.rest.now c.in_ok-number.after.now c.loop-field.word _ c.in_ok-number.number at c.loop-field-test.true reads.0 reads.1
      (ap (λ p. (c.loop-field.word + p) % 2 ^ 32) (c.place.ensures.value ∙ ap (place c.args.form _) (c.cast_unsigned.ensures ∙ ap (cast_unsigned w64) (kept_z c.in_ok-number.number _ (field_small _ d fine) reads.0 ∙ sym reads.0)))),
)
