use Rattle.std.proofs.Common.{◌++◌, Some, ap, sym, ◌∙◌}
use Rattle.rv_listing.specs.Tokens.{◌>>=◌, lines_of}
use Rattle.rv_dump.specs.Dump.{further}
use Rattle.rv_dump.specs.Reading.{line_bytes}
use Rattle.rv_dump.proofs.Lines.{line_more, one_less}
use Rattle.rv_dump.proofs.reading.undump.Goals as goal

pub line-preserved : goal.line-preserved
line-preserved c =
    let at = ap (λ k. line_bytes c.args.flags (further c.args.base k) c.in-Some.line.now >>= λ more. Some (c.line.bytes ++ more)) (sym c.len.ensures) in
    (line_more c.args.flags c.args.base c.line.number c.line.bytes c.put_line.new.list c.in-Some.line.now (lines_of c.line.rest.now) (lines_of c.in-Some.after.now) _ c.in-Some.ensures.cut (at ∙ c.in-Ok.ensures) c.line.invariant.0, one_less c.line.number _ _ _ c.in-Some.ensures.shorter c.line.invariant.1)
