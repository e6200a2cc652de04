use Rattle.std.proofs.Common.{sym, ◌∙◌}
use Rattle.rv_disasm.proofs.Tokens.{signed_parsed, same_some, ok_same, not_err, ascii_utf8}
use Rattle.rv_disasm.proofs.reading.signed.Goals as goal

pub returns-in-Ok-parse : goal.returns-in-Ok-parse
returns-in-Ok-parse c = λ z small e. same_some c.in-Ok-parse.number z small (ok_same c.in-Ok-parse.number z (sym c.in-Ok-parse.is ∙ signed_parsed z c.in-Ok.text.now c.parse.result small (c.in-Ok.ensures.cases.0 ∙ e) c.parse.ensures.value.0))

pub returns-in-Err-parse : goal.returns-in-Err-parse
returns-in-Err-parse c = λ z small e. not_err z _ (sym c.in-Err-parse.is ∙ signed_parsed z c.in-Ok.text.now c.parse.result small (c.in-Ok.ensures.cases.0 ∙ e) c.parse.ensures.value.0)

pub returns-in-Err : goal.returns-in-Err
returns-in-Err c = λ z small e. absurd (c.in-Err.ensures.cases.0 (ascii_utf8 z c.args.token.now small e))
