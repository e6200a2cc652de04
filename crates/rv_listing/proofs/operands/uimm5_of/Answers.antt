use Rattle.rv_listing.proofs.Ranges.{uimm5_is}
use Rattle.rv_listing.proofs.operands.uimm5_of.Goals as goal

pub returns-then-n-lt32 : goal.returns-then-n-lt32
returns-then-n-lt32 c = uimm5_is c.args.n _
