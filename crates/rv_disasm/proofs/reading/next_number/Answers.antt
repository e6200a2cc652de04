use Rattle.std.proofs.Common.{sym, ap, ◌∙◌, drop}
use Rattle.rv_disasm.specs.Text.{number_text}
use Rattle.rv_disasm.proofs.Tokens.{token_cut, number_lacks, kept_z, some_z, none_z}
use Rattle.rv_disasm.proofs.reading.next_number.Goals as goal

pub returns-in-Some : goal.returns-in-Some
returns-in-Some c = λ lead z rest named small b e. let cut = token_cut 44 _ (number_text c.args.file z) rest (number_lacks c.args.file z named small) b (c.tail.ensures ∙ ap (drop 1) e) in (kept_z c.in-Some.number z small (some_z c.in-Some.number z (sym c.in-Some.is ∙ c.read.ensures z named small (c.cut.ensures.before ∙ cut.0))), c.cut.ensures.from ∙ cut.1)

pub returns-in-None : goal.returns-in-None
returns-in-None c = λ lead z rest named small b e. let cut = token_cut 44 _ (number_text c.args.file z) rest (number_lacks c.args.file z named small) b (c.tail.ensures ∙ ap (drop 1) e) in none_z z (sym c.in-None.is ∙ c.read.ensures z named small (c.cut.ensures.before ∙ cut.0))
