use Rattle.std.proofs.Common.{◌≡◌, ◌++◌, ◌*◌, take}
use Rattle.rv_listing.specs.Report.{hex_line}
use Rattle.rv_listing.proofs.HexLines.{next_hex_line}
use Rattle.rv_listing.proofs.code_report.put_hex_lines.Goals as goal

pub loop-k-preserved : goal.loop-k-preserved
loop-k-preserved c =
    let put : c.put_hex_line.new.out.items ≡ c.loop-k.out.items ++ hex_line (16 * c.loop-k.k) (take 16 c.loop-k.rest.now) = rw (← c.front.ensures.front) c.in_ok-put_hex_line.ensures in
    rw c.front.ensures.rest (next_hex_line c.loop-k.out.items c.put_hex_line.new.out.items c.loop-k.rest.now _ _ c.loop-k.k c.loop-k-test.true put c.loop-k.invariant)
