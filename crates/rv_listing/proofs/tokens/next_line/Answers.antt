use Rattle.std.proofs.Common.{arith}
use Rattle.std.proofs.lemmas.Grind.{common_steps}
use Rattle.rv_listing.proofs.Cuts.{lines_cut, not_nil, after_lf_short, after_lf_rest}
use Rattle.rv_listing.proofs.tokens.next_line.Goals as goal

pub returns-in-empty-clause-cut : goal.returns-in-empty-clause-cut
returns-in-empty-clause-cut c =
    rw (← after_lf_short c.split_at.result.1.now c.in-empty.len_below, c.split_at.ensures.front, c.split_at.ensures.back, c.line_end.ensures.place) (lines_cut c.args.text.now (not_nil c.args.text.now c.is_empty.result c.if-is_empty.false c.is_empty.ensures))

pub returns-in-len1-up-clause-cut : goal.returns-in-len1-up-clause-cut
returns-in-len1-up-clause-cut c =
    rw (← after_lf_rest c.split_at.result.1.now, c.split_at.ensures.front, c.split_at.ensures.back, c.line_end.ensures.place) (lines_cut c.args.text.now (not_nil c.args.text.now c.is_empty.result c.if-is_empty.false c.is_empty.ensures))

pub returns-in-len1-up-clause-shorter : goal.returns-in-len1-up-clause-shorter
returns-in-len1-up-clause-shorter c = grind (arith, common_steps)
