use Rattle.std.proofs.Common.{◌∙◌, ap₂}
use Rattle.std.proofs.lemmas.Result.{IfOk-weaker}
use Rattle.clap.specs.Words.{with_rule}
use Rattle.rv_command.specs.Words.{rvemit_app}
use Rattle.rv_command.proofs.words.command.Goals as goal

pub returns : goal.returns
unfolding rvemit_app
returns c =
    let one = c.in_ok-c.ensures ∙ ap₂ with_rule c.opening.ensures c.text_flag.ensures.rule in
    IfOk-weaker c.with_arg-2.result _ _ (λ made h. h ∙ ap₂ with_rule one c.gen_option.ensures.rule) c.with_arg-2.ensures
