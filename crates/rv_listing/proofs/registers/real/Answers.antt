use Rattle.rv_listing.proofs.Ranges.{real_is}
use Rattle.rv_listing.proofs.registers.real.Goals as goal

pub returns-then-number-lt32 : goal.returns-then-number-lt32
returns-then-number-lt32 c = real_is c.args.class c.args.number _
