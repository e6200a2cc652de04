use Rattle.std.proofs.Common.{◌≡◌, ℕ, None, Some, true, cond, refl, ap, ◌∙◌, arith}
use Rattle.std.specs.Prelude.{nat_eq}
use Rattle.std.specs.Option.{option_or}
use Rattle.std.specs.BTreeMap.{get, is_at}
use Rattle.std.specs.Ordering.{nat_cmp}
use Rattle.std.specs.Map.{lookup}
use Rattle.std.proofs.lemmas.Bool.Decides.{nat_tests}
use Rattle.mach_labels.specs.Table.{entry_of, dense_of}
use Rattle.mach_labels.proofs.Entries.{is_at-label, sparse_step}
use Rattle.mach_labels.proofs.Outcomes.{err_holds}
use Rattle.mach_labels.proofs.table.LabelTable.set_sparse.Goals as goal

pub returns-in_err-insert-clause-err : goal.returns-in_err-insert-clause-err
unfolding entry_of
returns-in_err-insert-clause-err g c =
    let t = c.args.self.now in
    err_holds c.from_residual.result (λ n. ap (λ entries. option_or (dense_of t n) (lookup (is_at (nat_cmp n)) entries)) c.in_err-insert.ensures.err)

pub returns-clause-ok : goal.returns-clause-ok
unfolding entry_of
returns-clause-ok g c = λ n.
    let t = c.args.self.now in
    let label = c.args.label in
    let old = get nat_cmp t.sparse n in
    let there : get nat_cmp c.insert.new.self n ≡ cond (nat_eq n label) (Some c.args.value) old =
    c.in_ok-insert.ensures.updates.0 n ∙ ap (λ at. cond at (Some c.args.value) old) (is_at-label label n) in
    let none : nat_eq n label ≡ true → dense_of t n ≡ None = λ same. let e : n ≡ label = grind (arith, nat_tests) in rw e c.requires in
    ap (option_or (dense_of t n)) there ∙ sparse_step (nat_eq n label) c.args.value (dense_of t n) old none
