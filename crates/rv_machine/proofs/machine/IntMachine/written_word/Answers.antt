use Rattle.std.proofs.Common.{ℕ, ◌+◌, ◌∷◌, List, arith, sym, ap, subst, ◌∙◌}
use Rattle.std.specs.List.{All}
use Rattle.std.specs.Ordering.{nat_cmp}
use Rattle.std.specs.declared.ops.Bound.TheVariants.{Included, Unbounded}
use Rattle.std.specs.BTreeMap.Range.{IsEntryInRange}
use Rattle.rv_machine.specs.Memory.{load_bytes}
use Rattle.rv_machine.specs.Steps.{Machine}
use Rattle.rv_machine.proofs.Memory.{word_there}
use Rattle.rv_machine.proofs.machine.IntMachine.written_word.Goals as goal

pub returns : goal.returns
returns c =
    let at : ℕ = c.args.at in
    let a : ℕ = c.in_ok-first.first in
    let b : ℕ = c.in_ok-second.second in
    let d : ℕ = c.in_ok-third.third in
    let e : ℕ = c.in_ok-fourth.fourth in
    let found =
    c.in_ok-first.ensures
    ∙ ap (λ (es : List (ℕ × ℕ)). (at, a) ∷ es) (c.in_ok-second.ensures
    ∙ ap (λ (es : List (ℕ × ℕ)). (at + 1, b) ∷ es) (c.in_ok-third.ensures
    ∙ ap (λ (es : List (ℕ × ℕ)). (at + 2, d) ∷ es) c.in_ok-fourth.ensures)) in
    let all = subst (λ (es : List (ℕ × ℕ)). All (IsEntryInRange nat_cmp (Included at) Unbounded c.self.inside.bytes) es) found (c.range-bytes.ensures.in_range tt).0 in
    c.from_le_bytes.ensures
    ∙ sym (word_there c.self.inside.bytes (Included at) at a b d e _ all (omega (arith, c.if-at.false)))
    ∙ ap (λ (m : Machine). load_bytes m.state.values.mem at 4) c.self.view_is
