use Rattle.rv_listing.proofs.SymbolNames.{symbol_by_name}
use Rattle.rv_listing.proofs.operands.symbol_named.Goals as goal

pub returns-clause-named : goal.returns-clause-named
returns-clause-named c = symbol_by_name c.args.w.now c.find_symbol.result c.find_symbol.ensures
