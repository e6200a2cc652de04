use Rattle.rv_listing.proofs.Cuts.{parts_cut}
use Rattle.rv_listing.proofs.tokens.first_part.Goals as goal

pub returns-clause-part : goal.returns-clause-part
returns-clause-part c = rw (c.split_at.ensures.front, c.split_at.ensures.back, c.index_or_len.ensures.place) (parts_cut c.args.separator c.args.w.now)
