use Rattle.std.proofs.Common.{◌≡◌, ◌++◌, string_bytes, codes}
use Rattle.rv_text.specs.Operands.{value_text}
use Rattle.rv_text.proofs.Joined.{more}
use Rattle.rv_text.proofs.integer.put_choice.Goals as goal

pub returns : goal.returns
returns c =
    let old = string_bytes c.args.out.now in
    let one : string_bytes c.put.new.out ≡ old ++ codes "select " = c.in_ok-put.ensures in
    let two : string_bytes c.put_value.new.out ≡ string_bytes c.put.new.out ++ value_text c.args.dst = c.in_ok-put_value.ensures in
    let three : string_bytes c.put-2.new.out ≡ string_bytes c.put_value.new.out ++ codes "," = c.in_ok-put-2.ensures in
    let four : string_bytes c.put_value-2.new.out ≡ string_bytes c.put-2.new.out ++ value_text c.args.x = c.in_ok-put_value-2.ensures in
    let five : string_bytes c.put-3.new.out ≡ string_bytes c.put_value-2.new.out ++ codes "," = c.in_ok-put-3.ensures in
    let six : string_bytes c.put_value-3.new.out ≡ string_bytes c.put-3.new.out ++ value_text c.args.y = c.in_ok-put_value-3.ensures in
    more old _ (value_text c.args.y) (more old _ (codes ",") (more old _ (value_text c.args.x) (more old _ (codes ",") (more old (codes "select ") (value_text c.args.dst) one two) three) four) five) six
