use Rattle.std.proofs.Common.{◌≡◌, ◌<◌, ◌^◌}
use Rattle.rv_machine.specs.declared.decoding.Decoded.{Decoded}
use Rattle.rv_disasm.specs.Text.{fields_text, space}
use Rattle.rv_disasm.specs.Reading.{Fine}
use Rattle.rv_disasm.proofs.WordReads.{AtField}
use Rattle.rv_disasm.proofs.reading.word_of.Given as goal

abbrev pub invariant-loop-field : goal.invariant-loop-field
invariant-loop-field l = (l.word < 2 ^ 33) × ((d : Decoded) → Fine d → l.text ≡ fields_text space l.fields d → AtField l.form l.fields l.field-index d l.rest l.word)
