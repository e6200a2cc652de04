use Rattle.std.proofs.Common.{◌≡◌, ◌++◌, take}
use Rattle.std.specs.List.{flat_map}
use Rattle.rv_listing.specs.Report.{const_line}
use Rattle.rv_listing.proofs.code_report.put_constants.Given as goal

abbrev pub invariant-loop-c : goal.invariant-loop-c
invariant-loop-c l = l.out.items ≡ l.fn.out.items ++ flat_map const_line (take l.c-index l.constants)
