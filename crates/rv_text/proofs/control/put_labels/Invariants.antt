use Rattle.std.proofs.Common.{◌≡◌, ◌++◌, take, string_bytes}
use Rattle.std.specs.List.{flat_map}
use Rattle.rv_text.specs.Operands.{table_label}
use Rattle.rv_text.proofs.control.put_labels.Given as goal

abbrev pub invariant-loop-label : goal.invariant-loop-label
invariant-loop-label l = string_bytes l.out ≡ string_bytes l.fn.out ++ flat_map (table_label l.last.number) (take l.label-index l.labels)
