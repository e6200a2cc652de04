use Rattle.std.proofs.Common.{◌≡◌, drop}
use Rattle.rv_load.specs.Words.{address_of}
use Rattle.rv_load.proofs.callees.address_of.Given as goal

abbrev pub invariant-loop-symbol : goal.invariant-loop-symbol
invariant-loop-symbol l = address_of (drop l.symbol-index l.symbols) (record { number = l.number }) ≡ address_of l.symbols (record { number = l.number })
