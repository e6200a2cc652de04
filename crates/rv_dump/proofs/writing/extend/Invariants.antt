use Rattle.std.proofs.Common.{◌≡◌, ◌++◌, take}
use Rattle.rv_dump.proofs.writing.extend.Given as goal

abbrev pub invariant-loop-byte : goal.invariant-loop-byte
invariant-loop-byte l = l.list ≡ l.initial.list ++ take l.byte-index l.bytes
