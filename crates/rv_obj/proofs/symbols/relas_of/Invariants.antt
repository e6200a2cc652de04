use Rattle.std.proofs.Common.{◌≡◌, ◌≤◌, ◌++◌, drop}
use Rattle.rv_obj.specs.Symbols.{relas_from}
use Rattle.rv_obj.proofs.symbols.relas_of.Given as goal

abbrev pub invariant-loop-reloc : goal.invariant-loop-reloc
invariant-loop-reloc l = record {
  relas : l.relas ++ relas_from l.defined l.names l.k (drop l.reloc-index l.relocs) ≡ relas_from l.defined l.names 0 l.relocs;
  few : l.k ≤ l.reloc-index;
}
