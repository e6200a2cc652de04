-- For callers: where labels stand.
use Rattle.std.specs.Prelude.{ℕ, Option}
use Rattle.mach_labels.specs.Table.{entry_of}
use Rattle.mach_uses.specs.declared.labels.Labels.{Labels}

abbrev pub place_in : Labels → ℕ → Option ℕ
place_in labels label = entry_of labels.table label
