use Rattle.std.proofs.Common.{◌≡◌, length, ◌++◌}
use Rattle.std.specs.Iterator.Adapters.{zip_first, zip_second}
use Rattle.std.specs.Slice.Iter.{iter_rest}
use Rattle.smallvec.specs.SmallVec.{HasRoomFor}
use Rattle.rv_inst.specs.Generators.{moves_of}
use Rattle.rv_inst.proofs.generators.put_moves.Given as goal

abbrev pub invariant-loop-dst : goal.invariant-loop-dst
invariant-loop-dst l =
    (l.insts.items ++ moves_of (iter_rest (zip_first l.dst-iterator)) (iter_rest (zip_second l.dst-iterator)) ≡ l.initial.insts.items ++ moves_of l.rd l.src)
    × HasRoomFor l.insts (length (iter_rest (zip_first l.dst-iterator)))
