use Rattle.std.proofs.Common.{◌≡◌, ◌++◌, ◌+◌, ◌≤◌, length, map, drop}
use Rattle.rv_dump.specs.Marks.{seen}
use Rattle.rv_dump.specs.Dump.{lines_from, dump_text}
use Rattle.rv_dump.proofs.writing.put_all.Given as goal

abbrev pub invariant-loop-mark : goal.invariant-loop-mark
invariant-loop-mark l =
    (l.out.items ++ lines_from l.flags l.place (map seen (drop l.mark-index l.marks)) l.rest ≡ l.fn.out.items ++ dump_text l.flags l.base (map seen l.marks) l.bytes)
    × (l.place.at + length l.rest ≤ length l.bytes)
