use Rattle.std.proofs.Common.{◌≡◌, ◌++◌, length}
use Rattle.rv_dump.specs.Dump.{code_lines}
use Rattle.rv_dump.proofs.writing.put_code.Given as goal

abbrev pub invariant-code : goal.invariant-code
invariant-code l = l.out.items ++ code_lines l.flags l.at l.noted l.rest ≡ l.fn.out.items ++ code_lines l.flags l.address l.note l.bytes

abbrev pub decreases-code : goal.decreases-code
decreases-code l = length l.rest
