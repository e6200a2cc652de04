use Rattle.std.proofs.Common.{ℕ, List, [], ◌∷◌, ◌++◌, ◌≡◌, append_assoc}
use Rattle.std.specs.Fmt.{decimal}
use Rattle.rv_command.proofs.outcome.malformed_line.Goals as goal

grouped : (number name : List ℕ) → number ++ 32 ∷ (name ++ 10 ∷ []) ≡ number ++ 32 ∷ [] ++ name ++ 10 ∷ []
grouped number name = simp append_assoc

pub returns : goal.returns
returns c = rw (← c.rule_name-name.ensures, ← grouped (decimal c.args.index) c.rule_name-name.result.now) c.in_ok-text.ensures.ok
