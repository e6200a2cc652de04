use Rattle.std.proofs.Common.{◌≡◌, ◌++◌, string_bytes, codes}
use Rattle.rv_text.specs.Operands.{three, value_text, written, compare_text}
use Rattle.rv_text.proofs.Joined.{more}
use Rattle.rv_text.proofs.integer.put_select.Goals as goal

pub returns : goal.returns
returns c =
    let old = string_bytes c.args.out.now in
    let s = c.args.select.now in
    let choice = three (codes "select") (value_text (written s.dst)) (value_text s.x) (value_text s.y) in
    let one : string_bytes c.put_choice.new.out ≡ old ++ choice = rw (← c.written.ensures) c.in_ok-put_choice.ensures in
    let two : string_bytes c.put.new.out ≡ string_bytes c.put_choice.new.out ++ codes "##condition=" = c.in_ok-put.ensures in
    let three : string_bytes c.put_compare.new.out ≡ string_bytes c.put.new.out ++ compare_text s.condition = c.in_ok-put_compare.ensures in
    more old (choice ++ codes "##condition=") (compare_text s.condition) (more old choice (codes "##condition=") one two) three
