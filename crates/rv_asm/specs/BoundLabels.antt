-- The labels that a table has.
use Rattle.std.specs.Prelude.{ℕ, Bool, is_some}
use Rattle.mach_labels.specs.declared.table.LabelTable.{LabelTable}
use Rattle.mach_labels.specs.Table.{entry_of}

-- whether a label is in the table
abbrev pub is_in : LabelTable (Unit {0}) → ℕ → Bool
is_in bound label = is_some (entry_of bound label)
