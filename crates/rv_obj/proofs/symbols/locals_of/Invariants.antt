use Rattle.std.proofs.Common.{◌≡◌, ◌++◌, drop, length}
use Rattle.rv_obj.specs.Symbols.{locals_from}
use Rattle.rv_obj.proofs.symbols.locals_of.Given as goal

abbrev pub invariant-loop-reloc : goal.invariant-loop-reloc
invariant-loop-reloc l = l.symbols ++ locals_from (length l.symbols) (drop l.reloc-index l.relocs) ≡ locals_from 0 l.relocs
