use Rattle.rv_asm.proofs.Words.{drop, false, is_bound, is_in, twice_from, ℕ, ◌||◌, ◌≡◌}
use Rattle.rv_asm.proofs.refusal.bind_labels.Given as goal

abbrev pub invariant-loop-line : goal.invariant-loop-line
invariant-loop-line l = record {
  once : twice_from (is_in l.bound) (drop l.line-index l.lines) ≡ twice_from (λ _. false) l.lines;
  bound : (label : ℕ) → (is_bound (drop l.line-index l.lines) label || is_in l.bound label) ≡ is_bound l.lines label;
}
