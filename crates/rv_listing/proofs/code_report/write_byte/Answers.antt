use Rattle.std.proofs.Common.{◌≡◌, ◌+◌, ◌-◌, refl, arith}
use Rattle.std.proofs.lemmas.List.{drop-set}
use Rattle.rv_listing.proofs.code_report.write_byte.Goals as goal

pub returns-clause-text : goal.returns-clause-text
returns-clause-text c =
    let after : c.args.end - 1 + 1 ≡ c.args.end = omega (arith, c.requires.0) in
    rw (drop-set c.args.room.now (c.args.end - 1) c.args.byte (omega (arith, c.requires, c.told-room)), after) refl
