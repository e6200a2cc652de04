use Rattle.{rv_emit.proofs.{Forgetting.{asked_forgets, integers_stay, loops_forget, symbols_given}, Terms.{sym, ◌∙◌}}, rv_inst.specs.Context.context_by}
use Rattle.rv_emit.proofs.setting.forgets_setting.Goals as goal

pub returns-in-Integer : goal.returns-in-Integer
returns-in-Integer c = λ constants asks. let context = context_by c.args.flags c.args.frame.now constants in asked_forgets context c.args.inst.now c.facts_jump.result c.facts_jump.ensures (integers_stay context c.args.inst.now (sym c.family.ensures ∙ c.in-Integer.is))

pub returns-in-Loop : goal.returns-in-Loop
returns-in-Loop c = λ constants asks. loops_forget (context_by c.args.flags c.args.frame.now constants) c.args.inst.now (sym c.family.ensures ∙ c.in-Loop.is)

pub returns-in-Symbols : goal.returns-in-Symbols
returns-in-Symbols c =
    λ constants asks. asked_forgets (context_by c.args.flags c.args.frame.now constants) c.args.inst.now c.facts_jump-in-Symbols.result c.facts_jump-in-Symbols.ensures (λ none. absurd (symbols_given c.args.inst.now (sym c.family.ensures ∙ c.in-Symbols.is) none))
