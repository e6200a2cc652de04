use Rattle.std.proofs.Common.{◌≡◌, ◌++◌, take}
use Rattle.std.specs.List.{flat_map}
use Rattle.rv_listing.specs.Report.{try_line}
use Rattle.rv_listing.proofs.code_report.put_tries.Given as goal

abbrev pub invariant-loop-t : goal.invariant-loop-t
invariant-loop-t l = l.out.items ≡ l.fn.out.items ++ flat_map try_line (take l.t-index l.tries)
