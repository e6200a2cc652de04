use Rattle.rv_full.proofs.Products.{partial_is}
use Rattle.rv_full.proofs.carry.partial.Goals as goal

pub returns-then-y-i-eq1 : goal.returns-then-y-i-eq1
returns-then-y-i-eq1 c = partial_is c.from.result c.args.x c.args.y c.args.i c.from.ensures c.ranges.x.fits c.requires c.if-y-i-eq1.true
