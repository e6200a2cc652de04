use Rattle.std.proofs.Common.{◌≡◌, ◌++◌, take}
use Rattle.std.specs.List.{flat_map}
use Rattle.rv_listing.specs.Report.{entry_text}
use Rattle.rv_listing.proofs.code_report.put_entries.Given as goal

abbrev pub invariant-loop-e : goal.invariant-loop-e
invariant-loop-e l = l.out.items ≡ l.fn.out.items ++ flat_map entry_text (take l.e-index l.entries)
