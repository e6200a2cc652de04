use Rattle.std.proofs.Common.{◌≡◌, ◌++◌, ◌-◌}
use Rattle.rv_gen.specs.Generated.{lines_from}
use Rattle.rv_gen.proofs.generator.gen_lines.Given as goal

abbrev pub invariant-loop-i : goal.invariant-loop-i
invariant-loop-i l = l.lines.items ++ lines_from (1300 - l.i) l.i l.state ≡ lines_from 1300 0 l.n
