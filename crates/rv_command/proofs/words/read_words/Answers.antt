use Rattle.std.proofs.Common.{◌≡◌, ◌∙◌, List, Some, ap, subst, sym, map, codes}
use Rattle.std.specs.Prelude.{string_bytes, IfSome, Option}
use Rattle.clap.specs.Words.{App, Text, HasKind, IsUnsignedIn, app_of, fault_of, found_of, is_simple, is_simple_and_free, kind_of, matches_of, rows_of}
use Rattle.clap.proofs.WalkLemmas.{first_value-rows}
use Rattle.rv_command.specs.Words.{last_number, rvemit_app, asked}
use Rattle.rv_command.proofs.Parsing.{is_simple_app, is_free_app, asked_for, parsed_error}
use Rattle.rv_command.proofs.Numbers.{first_is_number}
use Rattle.rv_command.proofs.words.read_words.Goals as goal

pub request_of-requires : goal.request_of-requires
request_of-requires c =
    let found = found_of c.in-Ok-try_get_matches_from.matches in
    let Is : Option Text → Type 0 = λ o. IfSome o (IsUnsignedIn 0 last_number) in
    subst Is (first_value-rows found (codes "gen")) (first_is_number c.in-Ok.command c.in-Ok-try_get_matches_from.matches c.in-Ok-try_get_matches_from.ensures.parsed c.in-Ok.ensures)

pub returns-in-Err : goal.returns-in-Err
returns-in-Err c =
    let is_app : app_of c.in-Ok.command ≡ rvemit_app = c.in-Ok.ensures in
    let words : List Text = map string_bytes c.args.words.now in
    let Fails : App → Type 0 = λ app. HasKind (fault_of app words) c.in-Err.error in
    parsed_error words (kind_of c.in-Err.error) c.words_error.result c.words_error.ensures
    (subst Fails is_app (c.in-Err.ensures.kinds (ap is_simple_and_free is_app ∙ is_free_app)))

pub returns-in-Ok-try_get_matches_from : goal.returns-in-Ok-try_get_matches_from
returns-in-Ok-try_get_matches_from c =
    let is_app : app_of c.in-Ok.command ≡ rvemit_app = c.in-Ok.ensures in
    let words : List Text = map string_bytes c.args.words.now in
    let facts = c.in-Ok-try_get_matches_from.ensures in
    let rows : rows_of (found_of c.in-Ok-try_get_matches_from.matches) ≡ matches_of rvemit_app words =
    (facts.matches (ap is_simple is_app ∙ is_simple_app)).0 ∙ ap (λ (app : App). matches_of app words) is_app in
    let fits = ap (λ (app : App). fault_of app words) (sym is_app) ∙ facts.kinds (ap is_simple_and_free is_app ∙ is_free_app) in
    subst (λ r. asked words ≡ Some r) (sym c.request_of.ensures) (asked_for words _ fits rows)
