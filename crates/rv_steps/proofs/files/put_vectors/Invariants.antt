use Rattle.std.proofs.Common.{◌≡◌, ◌++◌, drop}
use Rattle.rv_steps.specs.Files.{vector_text, file_changes}
use Rattle.rv_steps.proofs.files.put_vectors.Given as goal

abbrev pub invariant-loop-n : goal.invariant-loop-n
invariant-loop-n l = l.out.items ++ file_changes (vector_text l.style) l.n (drop l.n l.before) (drop l.n l.after) ≡ l.initial.out.items ++ file_changes (vector_text l.style) 0 l.before l.after
