use Rattle.std.proofs.Common.{◌≡◌, arith, ap, ◌∙◌}
use Rattle.rv_full.specs.Carry.{product}
use Rattle.rv_full.proofs.carry.product.Goals as goal

pub returns : goal.returns
returns c =
    let whole : c.loop-i.i ≡ 64 = omega (arith, c.loop-i-test.false) in
    c.loop-i.invariant ∙ ap (product c.args.x c.args.y) whole
