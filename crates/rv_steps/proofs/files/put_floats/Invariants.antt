use Rattle.std.proofs.Common.{◌≡◌, ◌++◌, drop}
use Rattle.rv_steps.specs.Files.{float_text, file_changes}
use Rattle.rv_steps.specs.declared.files.Style.TheVariants as styles
use Rattle.rv_steps.proofs.files.put_floats.Given as goal

abbrev pub invariant-loop-n : goal.invariant-loop-n
invariant-loop-n l = l.out.items ++ file_changes (float_text styles.Line) l.n (drop l.n l.before) (drop l.n l.after) ≡ l.initial.out.items ++ file_changes (float_text styles.Line) 0 l.before l.after
