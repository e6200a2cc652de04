use Rattle.std.proofs.Common.{◌≡◌, drop}
use Rattle.rv_fill.specs.Filled.{table_of, address_in}
use Rattle.rv_fill.proofs.addresses.address_in.Given as goal

abbrev pub invariant-loop-other : goal.invariant-loop-other
invariant-loop-other l = address_in (table_of l.table) l.name.number ≡ address_in (table_of (drop l.other-index l.table)) l.name.number
