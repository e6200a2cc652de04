use Rattle.std.proofs.Common.{◌≡◌, refl, arith}
use Rattle.std.proofs.lemmas.Fmt.{length-decimal-le}
use Rattle.rv_listing.proofs.code_report.write_number.Goals as goal

pub write_digits-start-requires : goal.write_digits-start-requires
write_digits-start-requires c = (omega (arith, length-decimal-le 20 c.args.n (omega arith) (omega arith) c.ranges.n.fits), omega (arith, c.told-room))

pub write_byte-requires : goal.write_byte-requires
write_byte-requires c = let short = length-decimal-le 20 c.args.n (omega arith) (omega arith) c.ranges.n.fits in (omega (arith, short), omega (arith, short))

pub returns-clause-text : goal.returns-clause-text
returns-clause-text c = rw (c.write_byte.ensures.text, c.write_digits-start.ensures.written) refl

pub returns-clause-start : goal.returns-clause-start
returns-clause-start c = let short = length-decimal-le 20 c.args.n (omega arith) (omega arith) c.ranges.n.fits in (omega (arith, short), omega (arith, short))
