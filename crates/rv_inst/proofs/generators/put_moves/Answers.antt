use Rattle.std.proofs.Common.{rules, lit<}
use Rattle.std.proofs.lemmas.Slice.Zip.{Zip-more, either_empty_from_Zip}
use Rattle.rv_inst.proofs.Moves.{one_more_move, all_moves, room_for_one, room_for_others}
use Rattle.rv_inst.proofs.generators.put_moves.Goals as goal

pub loop-dst-init : goal.loop-dst-init
loop-dst-init c = search rules

pub push_reserved-requires : goal.push_reserved-requires
push_reserved-requires c =
    let rest = Zip-more c.loop-dst.dst-iterator c.next.new.self c.next.result (c.in-Some.dst, c.in-Some.rm) c.in-Some.is c.next.ensures.steps in
    (lit< tt, room_for_one c.loop-dst.insts c.in-Some.dst.now _ _ rest.0 c.loop-dst.invariant.1)

pub loop-dst-preserved : goal.loop-dst-preserved
loop-dst-preserved c =
    let rest = Zip-more c.loop-dst.dst-iterator c.next.new.self c.next.result (c.in-Some.dst, c.in-Some.rm) c.in-Some.is c.next.ensures.steps in (
      rw c.push_reserved.ensures.items (rw c.gen_move.ensures (one_more_move c.loop-dst.insts.items _ c.in-Some.dst.now c.in-Some.rm.now _ _ _ _ rest.0 rest.1 c.loop-dst.invariant.0)),
      room_for_others c.loop-dst.insts c.push_reserved.new.self c.gen_move.result c.in-Some.dst.now _ _ rest.0 c.push_reserved.ensures.items c.push_reserved.ensures.capacity c.loop-dst.invariant.1,
    )

pub returns : goal.returns
returns c = all_moves c.loop-dst.insts.items _ _ _ (either_empty_from_Zip c.loop-dst.dst-iterator c.next.new.self c.next.result c.in-None.is c.next.ensures.steps) c.loop-dst.invariant.0
