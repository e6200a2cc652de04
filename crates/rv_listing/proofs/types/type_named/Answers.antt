use Rattle.rv_listing.proofs.TypeNames.{type_by_name}
use Rattle.rv_listing.proofs.types.type_named.Goals as goal

pub returns-clause-named : goal.returns-clause-named
returns-clause-named c = type_by_name c.args.w.now c.find_type.result c.find_type.ensures
