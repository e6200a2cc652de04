use Rattle.std.proofs.Common.{◌≡◌, ◌++◌, take}
use Rattle.std.specs.List.{flat_map}
use Rattle.rv_obj.specs.Elf.{rela_entry}
use Rattle.rv_obj.proofs.tables.put_relas.Given as goal

abbrev pub invariant-loop-rela : goal.invariant-loop-rela
invariant-loop-rela l = l.out.items ≡ l.fn.out.items ++ flat_map rela_entry (take l.rela-index l.relas)
