use Rattle.std.specs.List.{flat_map}
use Rattle.rv_disasm.specs.Text.{further_text}
use Rattle.rv_disasm.proofs.Fronts.{strips_none, ends, kept}
use Rattle.rv_disasm.proofs.stripping.strip_further.Goals as goal

pub returns-in_err-rest : goal.returns-in_err-rest
returns-in_err-rest c = strips_none (flat_map (further_text c.args.d.now) c.args.fields.now) c.args.text.now c.from_residual.result c.from_residual.ensures (ends (further_text c.args.d.now) c.args.fields.now c.loop-field.field-index _ c.loop-field.rest.now _ c.loop-field-test.true c.in_err-rest.ensures c.loop-field.invariant)

pub loop-field-preserved : goal.loop-field-preserved
loop-field-preserved c = kept (further_text c.args.d.now) c.args.fields.now c.loop-field.field-index _ c.loop-field.rest.now c.in_ok-rest.rest.now _ c.loop-field-test.true c.in_ok-rest.ensures c.loop-field.invariant
