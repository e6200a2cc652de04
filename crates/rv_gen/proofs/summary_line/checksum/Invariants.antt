use Rattle.std.proofs.Common.{◌≡◌, ◌+◌, ◌%◌, ◌^◌, ◌<◌, drop}
use Rattle.rv_gen.specs.Summary.{weighted, checksum}
use Rattle.rv_gen.proofs.summary_line.checksum.Given as goal

abbrev pub invariant-loop-index : goal.invariant-loop-index
invariant-loop-index l = (l.sum < 2 ^ 32) × ((l.sum + weighted (l.index + 1) (drop l.index l.bytes)) % 2 ^ 32 ≡ checksum l.bytes)
