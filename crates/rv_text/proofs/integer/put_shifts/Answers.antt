use Rattle.std.proofs.Common.{◌≡◌, ◌++◌, string_bytes, codes}
use Rattle.std.specs.Fmt.{decimal}
use Rattle.rv_base.specs.RegNames.{name_of}
use Rattle.rv_text.specs.Operands.{three}
use Rattle.rv_text.proofs.Joined.{more}
use Rattle.rv_text.proofs.integer.put_shifts.Goals as goal

pub returns : goal.returns
returns c =
    let old = string_bytes c.args.out.now in
    let first = three (codes "slli") (name_of c.args.rd) (name_of c.args.rn) (decimal c.args.shift) in
    let second = three c.args.name.now (name_of c.args.rd) (name_of c.args.rd) (decimal c.args.shift) in
    let one : string_bytes c.put_shift.new.out ≡ old ++ first = c.in_ok-put_shift.ensures in
    let semicolon : string_bytes c.put.new.out ≡ string_bytes c.put_shift.new.out ++ codes "; " = c.in_ok-put.ensures in
    let both : string_bytes c.put_shift-2.new.out ≡ string_bytes c.put.new.out ++ second = c.in_ok-put_shift-2.ensures in
    more old (first ++ codes "; ") second (more old first (codes "; ") one semicolon) both
