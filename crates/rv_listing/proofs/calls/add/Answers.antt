use Rattle.rv_listing.proofs.RegisterSets.{with_register_is}
use Rattle.rv_listing.proofs.calls.add.Goals as goal

pub returns : goal.returns
returns c = with_register_is c.args.set.now c.add.new.self c.args.reg c.add.ensures.has c.add.ensures.others
