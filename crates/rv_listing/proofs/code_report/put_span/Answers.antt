use Rattle.std.proofs.Common.{◌≡◌, [], ◌∷◌, ◌++◌, drop, length, refl, arith}
use Rattle.std.specs.Fmt.{decimal}
use Rattle.std.proofs.lemmas.Grind.{common_steps}
use Rattle.std.proofs.lemmas.List.{drop_all}
use Rattle.rv_listing.proofs.code_report.put_span.Goals as goal

pub returns : goal.returns
returns c =
    let l = c.args.l.now in
    let text : drop c.write_byte-at-5.result c.write_byte-at-5.new.room ≡ 108 ∷ 105 ∷ 110 ∷ 101 ∷ 32 ∷ (decimal l.index ++ (32 ∷ (decimal l.start ++ (32 ∷ (decimal l.end ++ 10 ∷ []))))) =
    rw (c.write_byte-at-5.ensures.text, c.write_byte-at-4.ensures.text, c.write_byte-at-3.ensures.text, c.write_byte-at-2.ensures.text, c.write_number-at-3.ensures.text, c.write_number-at-2.ensures.text, c.write_number-at.ensures.text, c.write_byte-at.ensures.text, drop_all 68 c.args.room.now (omega (arith, c.told-room))) refl in
    grind (arith, common_steps, text)
