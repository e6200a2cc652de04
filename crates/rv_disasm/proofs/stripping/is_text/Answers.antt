use Rattle.rv_disasm.proofs.Fronts.{whole_text, no_text}
use Rattle.rv_disasm.proofs.stripping.is_text.Goals as goal

pub returns-in-Some : goal.returns-in-Some
returns-in-Some c = whole_text _ _ c.in-Some.rest.now c.is_empty.result c.is_empty.ensures c.in-Some.ensures

pub returns-in-None : goal.returns-in-None
returns-in-None c = no_text _ _ c.in-None.ensures
