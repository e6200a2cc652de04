use Rattle.std.proofs.Common.{List, ℕ, ◌++◌, ap, ◌∙◌, nat_eq}
use Rattle.std.proofs.lemmas.List.Filters.{dedup_is}
use Rattle.std.specs.List.{dedup}
use Rattle.rv_run.specs.Memory.{row_lines, rows_of}
use Rattle.rv_run.proofs.memory.memory_lines.Goals as goal

pub returns : goal.returns
returns c =
    let before = c.args.before.now.state.values.mem in
    let after = c.args.after.now.state.values.mem in
    c.in_ok-put_rows.ensures
    ∙ ap (λ (lines : List ℕ). lines ++ row_lines after c.deref-2.result.now) c.new-lines.ensures.items
    ∙ ap (row_lines after)
    (c.deref-2.ensures.value
    ∙ dedup_is nat_eq _ _ c.dedup.ensures.filtered
    ∙ ap (dedup nat_eq) (c.in_ok-rows.ensures ∙ ap (rows_of before after) (c.deref.ensures.value ∙ c.in_ok-addresses.ensures)))
