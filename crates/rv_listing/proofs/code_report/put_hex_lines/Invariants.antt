use Rattle.std.proofs.Common.{◌≡◌, ◌-◌, ◌*◌, ◌++◌}
use Rattle.rv_listing.specs.Report.{hex_lines, all_hex_lines}
use Rattle.rv_listing.proofs.code_report.put_hex_lines.Given as goal

abbrev pub invariant-loop-k : goal.invariant-loop-k
invariant-loop-k l = l.out.items ++ hex_lines (l.count - l.k) (16 * l.k) l.rest ≡ l.fn.out.items ++ all_hex_lines l.bytes
