use Rattle.std.proofs.Common.{◌≡◌, ◌++◌, List, ℕ, take, drop, length}
use Rattle.std.specs.List.{flat_map}
use Rattle.rv_obj.specs.declared.elf.Symbol.{Symbol}
use Rattle.rv_obj.specs.Elf.{name_of, entries_from}
use Rattle.rv_obj.proofs.tables.put_symbols.Given as goal

pub record Both (entries first_entries names first_names : List ℕ) (symbols : List Symbol) (i : ℕ) : Type 0 where
  pub names_so_far : names ≡ first_names ++ flat_map name_of (take i symbols)
  pub entries_to_come : entries ++ entries_from (length names) (drop i symbols) ≡ first_entries ++ entries_from (length first_names) symbols

abbrev pub invariant-loop-symbol : goal.invariant-loop-symbol
invariant-loop-symbol l = Both l.entries.items l.fn.entries.items l.names.items l.fn.names.items l.symbols l.symbol-index
