use Rattle.std.proofs.Common.{◌≡◌, ◌∙◌, List, [], ap, subst, map}
use Rattle.std.specs.Prelude.{string_bytes}
use Rattle.clap.specs.Words.{App, Row, Text, HasKind, app_of, fault_of, found_of, is_simple, is_simple_and_free, kind_of, matches_of, rows_of}
use Rattle.rv_load.specs.Command.{IsGiven, rvrun_app}
use Rattle.rv_load.proofs.Parsing.{is_simple_app, is_free_app, parsed_error}
use Rattle.rv_load.proofs.words.read_words.Goals as goal

pub returns-in-Err : goal.returns-in-Err
returns-in-Err c =
    let is_app : app_of c.in-Ok.command ≡ rvrun_app = c.in-Ok.ensures in
    let words : List Text = map string_bytes c.args.words.now in
    let Fails : App → Type 0 = λ app. HasKind (fault_of app words) c.in-Err.error in
    parsed_error words (kind_of c.in-Err.error) c.words_error.result c.words_error.ensures
    (subst Fails is_app (c.in-Err.ensures.kinds (ap is_simple_and_free is_app ∙ is_free_app)))

pub returns-in-Ok-given_by : goal.returns-in-Ok-given_by
returns-in-Ok-given_by c =
    let is_app : app_of c.in-Ok.command ≡ rvrun_app = c.in-Ok.ensures in
    let words : List Text = map string_bytes c.args.words.now in
    let facts = c.in-Ok-try_get_matches_from.ensures in
    let Fits : App → Type 0 = λ app. fault_of app words ≡ [] in
    let Gives : List Row → Type 0 = λ rows. IsGiven rows c.in-Ok-given_by.given in
    let rows : rows_of (found_of c.in-Ok-try_get_matches_from.matches) ≡ matches_of rvrun_app words =
    (facts.matches (ap is_simple is_app ∙ is_simple_app)).0 ∙ ap (λ (app : App). matches_of app words) is_app in
    (subst Fits is_app (facts.kinds (ap is_simple_and_free is_app ∙ is_free_app)), subst Gives rows c.in-Ok-given_by.ensures)
