use Rattle.rv_disasm.proofs.Fronts.{fields_on}
use Rattle.rv_disasm.proofs.stripping.strip_fields.Goals as goal

pub returns-in_ok-rest-in-len1-up : goal.returns-in_ok-rest-in-len1-up
returns-in_ok-rest-in-len1-up c = fields_on c.args.d.now c.args.fields.now _ c.args.text.now c.in_ok-strip-in-len1-up.field-0.now c.in_ok-rest-in-len1-up.rest.now c.strip_further.result c.in-len1-up.len_at_least c.in_ok-strip-in-len1-up.ensures c.in_ok-rest-in-len1-up.ensures c.strip_further.ensures
