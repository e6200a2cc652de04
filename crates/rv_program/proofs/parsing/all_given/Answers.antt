use Rattle.std.proofs.Common.{◌∙◌, ap, [], List, Option, ℕ}
use Rattle.std.specs.Prelude.{unwrap_or}
use Rattle.std.proofs.lemmas.Result.{IfOk-weaker}
use Rattle.clap.specs.Words.{found_of}
use Rattle.clap.proofs.WalkLemmas.{raw_values-rows}
use Rattle.rv_program.proofs.parsing.all_given.Goals as goal

pub returns : goal.returns
returns c =
    let Or : Option (List (List ℕ)) → List (List ℕ) = λ o. unwrap_or o [] in
    IfOk-weaker c.list_of.result _ _ (λ words h. h ∙ ap Or (c.get_strs.ensures ∙ raw_values-rows (found_of c.args.matches.now) c.args.name.now)) c.list_of.ensures
