use Rattle.rv_listing.proofs.Vectors.{vector_is, vector_high}
use Rattle.rv_listing.proofs.types.vector_of.Goals as goal

pub returns-then-lanes-le256 : goal.returns-then-lanes-le256
returns-then-lanes-le256 c = vector_is c.args.lane c.args.lanes c.vector.result c.vector.ensures.some c.vector.ensures.is

pub returns-else-lanes-le256 : goal.returns-else-lanes-le256
returns-else-lanes-le256 c = vector_high c.args.lane c.args.lanes c.if-lanes-le256.false
