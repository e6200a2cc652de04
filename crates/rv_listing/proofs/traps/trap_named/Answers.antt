use Rattle.rv_listing.proofs.TrapNames.{trap_by_name}
use Rattle.rv_listing.proofs.traps.trap_named.Goals as goal

pub returns-clause-named : goal.returns-clause-named
returns-clause-named c = trap_by_name c.args.w.now c.find.result c.find.ensures
