use Rattle.std.proofs.Common.{◌≡◌, ◌++◌, take, map}
use Rattle.rv_obj.specs.Symbols.{undefined}
use Rattle.rv_obj.proofs.symbols.put_undefined.Given as goal

abbrev pub invariant-loop-number : goal.invariant-loop-number
invariant-loop-number l = l.symbols.items ≡ l.fn.symbols.items ++ map (undefined l.imports) (take l.number-index l.names)
