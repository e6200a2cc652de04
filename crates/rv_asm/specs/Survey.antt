-- What one pass over the lines of a job finds. Only the pass itself speaks of it.
use Rattle.std.specs.Prelude.{◌≡◌, ℕ, ◌+◌, ◌≤◌, false, List, None}
use Rattle.mach_labels.specs.declared.table.LabelTable.{LabelTable}
use Rattle.rv_inst.specs.declared.inst.Line.{Line}
use Rattle.rv_inst.specs.Context.{Context}
use Rattle.rv_inst.specs.Rules.{broken_rule}
use Rattle.rv_inst.specs.Sizes.{line_size, line_sum}
use Rattle.rv_asm.specs.BoundLabels.{is_in}
use Rattle.rv_asm.specs.Refusal.{is_unfit, has_bad_frame, broken_from, is_bound, twice_from, size_sum, size_limit}

-- a line that breaks no rule, can restore any frame, and counts for what each line does
pub record IsPlainLine (context : Context) (line : Line) : Type 0 where
  pub fit : is_unfit context.frame line ≡ false
  pub rule : broken_rule context line ≡ None
  pub size : line_sum context line ≡ line_size

-- a line that breaks no rule and can restore the frame, and how many of the bytes that are left it leaves
pub record IsPassed (context : Context) (line : Line) (left rest : ℕ) : Type 0 where
  pub fit : is_unfit context.frame line ≡ false
  pub rule : broken_rule context line ≡ None
  pub size : rest + line_sum context line ≡ left

-- lines that give no cause to refuse their job, unless they name a label that isn't bound; and the labels that they bind
pub record IsSurveyed (context : Context) (lines : List Line) (bound : LabelTable (Unit {0})) : Type 0 where
  pub frame : has_bad_frame context.frame lines ≡ false
  pub rules : broken_from context 0 lines ≡ None
  pub once : twice_from (λ label. false) lines ≡ None
  pub labels : (label : ℕ) → is_in bound label ≡ is_bound lines label
  pub size : size_sum context lines ≤ size_limit
