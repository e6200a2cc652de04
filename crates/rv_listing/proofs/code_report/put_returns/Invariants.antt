use Rattle.std.proofs.Common.{◌≡◌, ◌++◌, take}
use Rattle.std.specs.List.{flat_map}
use Rattle.rv_listing.specs.Report.{return_line}
use Rattle.rv_listing.proofs.code_report.put_returns.Given as goal

abbrev pub invariant-loop-r : goal.invariant-loop-r
invariant-loop-r l = l.out.items ≡ l.fn.out.items ++ flat_map return_line (take l.r-index l.returns)
