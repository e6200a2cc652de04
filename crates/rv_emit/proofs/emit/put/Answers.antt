use Rattle.rv_emit.proofs.{InstSlots.appends, Bounds.emit_bounded, ReachAfterInst.reach_after, StackMaps.can_given, StackMaps.bounded_given}
use Rattle.rv_emit.proofs.Terms.{◌≡◌, false, Option, Some, None, refl, arith, sym, is_some, on_ok_weaker, registered_of, context_by, Unknown, keeps_rules, with_map, Request, Context, Inst, Buffer, CanEmit, Emits, Appends, UserStackMap, IsBounded, CanReach, length, bytes_of, pending}
use Rattle.rv_emit.proofs.emit.put.Goals as goal

none_asked : (request : Option Request) → false ≡ is_some request → request ≡ None
none_asked None e = refl
none_asked (Some r) e = absurd (cc)

-- what was put of an instruction with the map that is given to it
added : {context : Context} (map : Option UserStackMap) (inst : Inst) (old new : Buffer) → CanEmit context inst old → Emits context (with_map map inst) old new → Appends context (with_map map inst) old new
added {context} map inst old new c emitted = let can = can_given map context inst old c in appends context Unknown (with_map map inst) old new can.rule (omega (arith, can.room)) can.sound (emitted Unknown)

bounds : {context : Context} (map : Option UserStackMap) (inst : Inst) (old new : Buffer) → CanEmit context inst old → Emits context (with_map map inst) old new → IsBounded context inst old new
bounds {context} map inst old new c emitted = bounded_given map context inst old new (emit_bounded context (with_map map inst) old new (added map inst old new c emitted))

reach : {context : Context} (map : Option UserStackMap) (inst : Inst) (old new : Buffer) → CanEmit context inst old → Emits context (with_map map inst) old new → CanReach (length (bytes_of new)) (pending new)
reach {context} map inst old new c emitted = reach_after context (with_map map inst) old new (can_given map context inst old c) (added map inst old new c emitted)

pub returns-then-asks_for_island-clause-reach : goal.returns-then-asks_for_island-clause-reach
returns-then-asks_for_island-clause-reach c = on_ok_weaker c.put_asking.result (reach _ _ _ _ c.requires) (c.put_asking.ensures.emitted (sym (c.if-asks_for_island.ensures (context_by c.args.flags c.args.frame.now (registered_of c.args.sink.now)))))

pub returns-then-asks_for_island-clause-bounds : goal.returns-then-asks_for_island-clause-bounds
returns-then-asks_for_island-clause-bounds c = on_ok_weaker c.put_asking.result (bounds _ _ _ _ c.requires) (c.put_asking.ensures.emitted (sym (c.if-asks_for_island.ensures (context_by c.args.flags c.args.frame.now (registered_of c.args.sink.now)))))

pub forgets_setting-requires-clause-rule : goal.forgets_setting-requires-clause-rule
forgets_setting-requires-clause-rule c = (registered_of c.args.sink.now, keeps_rules (context_by c.args.flags c.args.frame.now (registered_of c.args.sink.now)) _ c.requires.rule)

pub put_sequence-requires-clause-rule : goal.put_sequence-requires-clause-rule
put_sequence-requires-clause-rule c = keeps_rules (context_by c.args.flags c.args.frame.now (registered_of c.args.sink.now)) _ c.requires.rule

pub returns-in_ok-put_sequence-clause-emitted : goal.returns-in_ok-put_sequence-clause-emitted
returns-in_ok-put_sequence-clause-emitted c =
    c.in_ok-put_sequence.ensures.parts (none_asked _ (c.if-asks_for_island.ensures (context_by c.args.flags c.args.frame.now (registered_of c.args.sink.now))))

pub returns-in_ok-put_sequence-clause-bounds : goal.returns-in_ok-put_sequence-clause-bounds
returns-in_ok-put_sequence-clause-bounds c = bounds _ _ _ _ c.requires (returns-in_ok-put_sequence-clause-emitted c)

pub returns-in_ok-put_sequence-clause-reach : goal.returns-in_ok-put_sequence-clause-reach
returns-in_ok-put_sequence-clause-reach c = reach _ _ _ _ c.requires (returns-in_ok-put_sequence-clause-emitted c)

pub returns-in_ok-put_sequence-clause-setting : goal.returns-in_ok-put_sequence-clause-setting
returns-in_ok-put_sequence-clause-setting c =
    c.forgets_setting.ensures (registered_of c.args.sink.now) (none_asked _ (c.if-asks_for_island.ensures (context_by c.args.flags c.args.frame.now (registered_of c.args.sink.now)))) c.args.sink.now
