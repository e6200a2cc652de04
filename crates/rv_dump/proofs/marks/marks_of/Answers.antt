use Rattle.std.proofs.Common.{rules}
use Rattle.std.proofs.lemmas.List.Sorted.{answers_always}
use Rattle.rv_dump.proofs.marks.marks_of.Goals as goal

pub returns : goal.returns
returns c =
    let sorted = c.in_ok-sort_by_key.ensures.sorted (λ m. m.offset) (answers_always _ _ _ (λ f a r g h. search rules)) in
    let stable = c.in_ok-sort_by_key.ensures.stable (λ m. m.offset) (answers_always _ _ _ (λ f a r g h. search rules)) in
    record { found = c.in_ok-marks.marks.items; all = c.in_ok-marks.ensures; same = c.in_ok-sort_by_key.ensures.permutation; sorted = sorted; stable = stable }
