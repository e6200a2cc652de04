use Rattle.rv_asm.proofs.Words.{broken_from, drop, false, is_bound, is_in, is_unfit, lines_sum, list_any, size_limit, size_sum, twice_from, ℕ, ◌+◌, ◌||◌, ◌≡◌}
use Rattle.rv_asm.proofs.survey.survey.Given as goal

abbrev pub invariant-loop-line : goal.invariant-loop-line
invariant-loop-line l = record {
  fit : list_any (is_unfit l.context.frame) (drop l.line-index l.lines) ≡ list_any (is_unfit l.context.frame) l.lines;
  rules : broken_from l.context l.line-index (drop l.line-index l.lines) ≡ broken_from l.context 0 l.lines;
  once : twice_from (is_in l.bound) (drop l.line-index l.lines) ≡ twice_from (λ _. false) l.lines;
  labels : (label : ℕ) → (is_bound (drop l.line-index l.lines) label || is_in l.bound label) ≡ is_bound l.lines label;
  size : l.left + size_sum l.context l.lines ≡ size_limit + lines_sum l.context (drop l.line-index l.lines);
}
