use Rattle.std.proofs.Common.{rules, ap, ◌∙◌, ◌≡◌, ◌*ℤ◌, FitsSigned, w64}
use Rattle.rv_machine.specs.Arithmetic.{signed64, high64}
use Rattle.rv_machine.proofs.Products.{wide_product}
use Rattle.rv_machine.proofs.muldiv.mulh.Goals as goal

pub returns : goal.returns
returns c =
    let x : c.from.result ≡ signed64 c.args.x = search rules in
    let y : c.from-2.result ≡ signed64 c.args.y = search rules in
    let x_fits : FitsSigned w64 c.from.result = search rules in
    let y_fits : FitsSigned w64 c.from-2.result = search rules in
    c.high64.ensures ∙ ap high64 (wide_product c.from.result c.from-2.result x_fits y_fits ∙ (λ i. x i *ℤ y i))
