use Rattle.std.proofs.Common.{◌≡◌, ℕ, ◌<◌, ◌-◌, Option, None, Some, true, false, refl, sym, ap, ◌∙◌, arith, get_or}
use Rattle.std.specs.Prelude.{nat_eq, nat_lt, if◌then◌else◌}
use Rattle.std.specs.Option.{option_or}
use Rattle.std.specs.BTreeMap.{get}
use Rattle.std.specs.Ordering.{nat_cmp}
use Rattle.std.proofs.lemmas.Bool.Decides.{nat_tests}
use Rattle.mach_labels.specs.Table.{first_inner, first_constant, entry_of, dense_of}
use Rattle.mach_labels.proofs.Entries.{inner_step}
use Rattle.mach_labels.proofs.Outcomes.{on_ok, on_err}
use Rattle.mach_labels.proofs.table.LabelTable.set_inner.Goals as goal

pub returns-then-index-room-clause-ok : goal.returns-then-index-room-clause-ok
unfolding entry_of
returns-then-index-room-clause-ok g c =
    let t = c.args.self.now in
    let label = c.args.label in
    on_ok c.put.result (λ put. λ n. ap (λ inner. option_or (if◌then◌else◌ (nat_lt n first_inner) (get_or t.own.items n None) (if◌then◌else◌ (nat_lt n first_constant) inner (get_or t.constants.items (n - first_constant) None))) (get nat_cmp t.sparse n)) (put (n - first_inner)) ∙ inner_step (nat_lt n first_inner) (nat_lt n first_constant) (nat_eq n label) (nat_eq (n - first_inner) (label - first_inner)) c.args.value _ _ _ _ (grind (arith, nat_tests)) (grind (arith, nat_tests)) (grind (arith, nat_tests))) c.put.ensures.ok

pub returns-then-index-room-clause-err : goal.returns-then-index-room-clause-err
unfolding entry_of
returns-then-index-room-clause-err g c =
    let t = c.args.self.now in
    on_err c.put.result (λ put. λ n. ap (λ inner. option_or (if◌then◌else◌ (nat_lt n first_inner) (get_or t.own.items n None) (if◌then◌else◌ (nat_lt n first_constant) inner (get_or t.constants.items (n - first_constant) None))) (get nat_cmp t.sparse n)) (put (n - first_inner))) c.put.ensures.err
