use Rattle.std.proofs.Common.{◌≡◌, ◌++◌, take}
use Rattle.std.specs.List.{flat_map}
use Rattle.rv_listing.specs.Report.{map_line}
use Rattle.rv_listing.proofs.code_report.put_maps.Given as goal

abbrev pub invariant-loop-m : goal.invariant-loop-m
invariant-loop-m l = l.out.items ≡ l.fn.out.items ++ flat_map map_line (take l.m-index l.maps)
