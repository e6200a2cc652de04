use Rattle.std.proofs.Common.{rules, ◌≡◌, ◌∷◌, Some, Err, refl}
use Rattle.std.proofs.lemmas.Result.{err_from_is_err_and}
use Rattle.rv_formula.specs.Parsing.{ending}
use Rattle.rv_formula.proofs.Closing.{put_exit}
use Rattle.rv_formula.proofs.parser.close.Goals as goal

pub returns-in_err-value-in-Some-ending : goal.returns-in_err-value-in-Some-ending
returns-in_err-value-in-Some-ending c =
    let front : c.open.pending.items ≡ c.in-Some.innermost ∷ c.pop_front.new.self.items = search rules in
    let ends : ending c.args.least c.in-Some.innermost c.open.value ≡ Some (c.in-Some-ending.op, c.in-Some-ending.column) = search rules in
    let p = err_from_is_err_and c.from_residual.result c.from_residual.ensures.1 in
    let is : c.from_residual.result ≡ Err c.in_err-value-in-Some-ending.field-0.0 = rw (p.1, p.2) refl in
    put_exit c.from_residual.result c.in_err-value-in-Some-ending.field-0.0 c.args.least c.open.ops.items c.put.new.ops.items c.put.new.ops.items c.args.ops.now.items c.open.pending.items c.pop_front.new.self.items c.pop_front.new.self.items c.args.pending.now.items c.open.value c.args.operand c.in-Some.innermost c.in-Some-ending.op c.in-Some-ending.column is c.open.invariant front ends c.in_err-value-in-Some-ending.ensures

pub returns-in_err-wait-in-None : goal.returns-in_err-wait-in-None
returns-in_err-wait-in-None c =
    let p = err_from_is_err_and c.from_residual-in_err-wait-in-None.result c.from_residual-in_err-wait-in-None.ensures.1 in
    rw (p.1, p.2) tt
