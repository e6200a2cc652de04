use Rattle.std.proofs.lemmas.Bool.Decides.{Decides-eqb}
use Rattle.std.proofs.lemmas.Slice.Eq.{strip_prefix_is}
use Rattle.rv_disasm.proofs.Fronts.{stripped}
use Rattle.rv_disasm.proofs.stripping.strip.Goals as goal

pub returns : goal.returns
returns c = stripped c.args.piece.now c.args.text.now _ (strip_prefix_is Decides-eqb c.args.text.now c.args.piece.now _ c.strip_prefix.ensures.cases)
