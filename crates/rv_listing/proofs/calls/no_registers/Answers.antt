use Rattle.rv_listing.proofs.RegisterSets.{no_registers_is}
use Rattle.rv_listing.proofs.calls.no_registers.Goals as goal

pub returns : goal.returns
returns c = no_registers_is c.new.result c.new.ensures
