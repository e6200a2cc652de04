use Rattle.rv_listing.proofs.Ranges.{fli_is}
use Rattle.rv_listing.proofs.floats.fli_of.Goals as goal

pub returns-then-n-lt32 : goal.returns-then-n-lt32
returns-then-n-lt32 c = fli_is c.args.n _
