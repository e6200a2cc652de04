use Rattle.std.proofs.Common.{◌≡◌, Ok, Err, Some, None, MatchOption, rules, length, refl, sym, subst}
use Rattle.std.proofs.lemmas.Result.{err_from_is_err_and}
use Rattle.rv_formula.specs.Parsers.{parse_of}
use Rattle.rv_formula.specs.Token.{next_of, IsWithin}
use Rattle.rv_formula.proofs.Fronts.{one_more, exact_at_end, no_token_exit, wrong_token_exit, all_of}
use Rattle.rv_formula.proofs.parser.read_all.Goals as goal

pub returns-in_err-lexed-clause-exact : goal.returns-in_err-lexed-clause-exact
returns-in_err-lexed-clause-exact c =
    let p = err_from_is_err_and c.from_residual.result c.from_residual.ensures.1 in
    let is : c.from_residual.result ≡ Err c.in_err-lexed.field-0.0 = rw (p.1, p.2) refl in
    no_token_exit (λ v. v.items) c.from_residual.result c.args.text.now c.tokens.at (parse_of c.tokens.parser) c.in_err-lexed.field-0.0 is c.tokens.invariant.so_far (sym c.in_err-lexed.ensures.reads)

pub returns-in_err-take-clause-exact : goal.returns-in_err-take-clause-exact
returns-in_err-take-clause-exact c =
    let next : next_of c.args.text.now c.tokens.at ≡ Ok (Some c.in-Some.lexed) = search rules in
    let p = err_from_is_err_and c.from_residual-in_err-take.result c.from_residual-in_err-take.ensures.1 in
    let is : c.from_residual-in_err-take.result ≡ Err c.in_err-take.field-0.0 = rw (p.1, p.2) refl in
    wrong_token_exit (λ v. v.items) c.from_residual-in_err-take.result c.args.text.now c.tokens.at (parse_of c.tokens.parser) (parse_of c.take.new.self) c.in-Some.lexed c.in_err-take.field-0.0 is c.tokens.invariant.so_far next c.in_err-take.ensures

pub tokens-preserved : goal.tokens-preserved
tokens-preserved c =
    let next : next_of c.args.text.now c.tokens.at ≡ Ok (Some c.in-Some.lexed) = search rules in
    let within : IsWithin c.tokens.at (length c.args.text.now) c.in-Some.lexed = subst (λ o. MatchOption o (Unit {0}) (IsWithin c.tokens.at (length c.args.text.now))) c.in-Some.is c.in_ok-lexed.ensures.within in
    record { within = within.within; so_far = one_more c.args.text.now c.tokens.at (parse_of c.tokens.parser) (parse_of c.take.new.self) c.in-Some.lexed c.tokens.invariant.so_far next c.in_ok-take.ensures }

pub returns-clause-all : goal.returns-clause-all
returns-clause-all c =
    let none : next_of c.args.text.now c.tokens.at ≡ Ok None = search rules in
    all_of (λ v. v.items) c.finish.result c.args.text.now c.tokens.at (parse_of c.tokens.parser) c.tokens.invariant.so_far none c.finish.ensures

pub returns-clause-exact : goal.returns-clause-exact
returns-clause-exact c =
    let none : next_of c.args.text.now c.tokens.at ≡ Ok None = search rules in
    exact_at_end (λ v. v.items) c.finish.result c.args.text.now c.tokens.at None (parse_of c.tokens.parser) c.tokens.invariant.so_far none c.finish.ensures
