use Rattle.std.proofs.Common.{◌≡◌, ◌++◌, take}
use Rattle.std.specs.List.{flat_map}
use Rattle.rv_listing.specs.Report.{patch_line}
use Rattle.rv_listing.proofs.code_report.put_patches.Given as goal

abbrev pub invariant-loop-p : goal.invariant-loop-p
invariant-loop-p l = l.out.items ≡ l.fn.out.items ++ flat_map patch_line (take l.p-index l.patches)
