use Rattle.rv_listing.proofs.Ranges.{user_is, user_high}
use Rattle.rv_listing.proofs.traps.user_of.Goals as goal

pub returns-then-number-le250 : goal.returns-then-number-le250
returns-then-number-le250 c = user_is c.args.number c.user.result c.if-number-le250.true c.user.ensures

pub returns-else-number-le250 : goal.returns-else-number-le250
returns-else-number-le250 c = user_high c.args.number c.if-number-le250.false
