use Rattle.std.proofs.Common.{◌≡◌, ◌+◌, take}
use Rattle.rv_machine.specs.State.{wrap}
use Rattle.rv_machine.specs.Steps.{with_bytes}
use Rattle.rv_machine.proofs.machine.IntMachine.load_image.Given as goal

abbrev pub invariant-loop-byte : goal.invariant-loop-byte
invariant-loop-byte l = record {
  image : l.self ≡ with_bytes l.fn.self l.fn.at (take l.byte-index l.fn.bytes);
  place : l.place ≡ wrap (l.fn.at + l.byte-index);
}
