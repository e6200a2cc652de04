use Rattle.std.proofs.Common.{◌≡◌, drop, []}
use Rattle.rv_obj.specs.Symbols.{names_after}
use Rattle.rv_obj.proofs.symbols.names_of.Given as goal

abbrev pub invariant-loop-reloc : goal.invariant-loop-reloc
invariant-loop-reloc l = names_after l.names (drop l.reloc-index l.relocs) ≡ names_after [] l.relocs
