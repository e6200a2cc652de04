use Rattle.rv_emit.proofs.{ReachAfterInst.reach_calm, TableCode.island_few, TableCode.table_emits, Islands.room_left, Islands.room_sound, CallSlots.loading_emits, CallSlots.unless_all, CallSlots.call_is, CallSlots.call_ind_is, StackMaps.space_given, Forgetting.calls_forget, Forgetting.table_forgets}
use Rattle.rv_emit.proofs.Terms.{inst_sum, line_size, no_extra, loads_unless, result_loads, ◌+◌, ◌≡◌, rules, ◌*◌, length, ap, sym, ◌∙◌, subst, refl, arith, context_by, tail_call_of, table_space, registered_of, AreListed, call_ind_kept, call_kept, call_usable, keeps_rules, kept, listed_try, table_fine, tail_kept, tail_sum, jump_sum, target_fine, is_some, with_map, family_of, setting_beyond}
use mathlib.Core.Bool.{or-false}
use Rattle.rv_emit.proofs.emit.put_asking.Goals as goal

pub emit_island_if_needed-requires-clause-reach : goal.emit_island_if_needed-requires-clause-reach
emit_island_if_needed-requires-clause-reach c = reach_calm c.args.sink.now c.requires.calm

pub emit_island_if_needed-requires-in-BrTable-clause-reach : goal.emit_island_if_needed-requires-in-BrTable-clause-reach
emit_island_if_needed-requires-in-BrTable-clause-reach c = reach_calm c.args.sink.now c.requires.calm

pub table_space-space-requires-clause-some : goal.table_space-space-requires-clause-some
table_space-space-requires-clause-some c = omega (arith, (table_fine _ _ _ _ (kept c.in-BrTable.is (keeps_rules (context_by c.args.flags c.args.frame.now (registered_of c.args.sink.now)) _ c.requires.rule))).4, c.len.ensures ∙ ap length c.as_ref-targets.ensures)

pub put_table-requires : goal.put_table-requires
put_table-requires c =
    let context = context_by c.args.flags c.args.frame.now (registered_of c.args.sink.now) in
    let fine = table_fine _ _ _ _ (kept c.in-BrTable.is (keeps_rules context c.args.inst.now c.requires.rule)) in
    let sum : inst_sum context c.args.inst.now ≡ line_size + 8 * length c.in-BrTable.targets = ap (inst_sum context) c.in-BrTable.is ∙ omega arith in
    let room = c.requires.room in
    let same = c.as_slice.ensures ∙ c.as_ref-targets.ensures in
    let long = ap length same in
    let made = c.in_ok-emit_island_if_needed-in-BrTable.ensures.made in
    let left = room_left _ (8 * length c.in-BrTable.targets) c.args.sink.now _ _ (omega arith) made in
    let more = island_few _ c.args.sink.now _ _ made in
    record {
      index = fine.0;
      tmp1 = fine.1;
      tmp2 = fine.2;
      listed = subst AreListed (sym same) fine.3;
      some = let some = fine.4 in omega arith;
      allocated = omega arith;
      room = omega arith;
      sound = room_sound _ c.args.sink.now _ _ made c.requires.sound;
    }

pub returns-in_ok-made-in-EmitIsland-clause-emitted : goal.returns-in_ok-made-in-EmitIsland-clause-emitted
returns-in_ok-made-in-EmitIsland-clause-emitted c = λ asks. rw c.in-EmitIsland.is (λ setting. (_, _, c.in_ok-made-in-EmitIsland.ensures.made, refl))

pub returns-in_ok-made-in-EmitIsland-clause-setting : goal.returns-in_ok-made-in-EmitIsland-clause-setting
returns-in_ok-made-in-EmitIsland-clause-setting c = λ asks setting. rw (c.in-EmitIsland.is, c.in_ok-made-in-EmitIsland.ensures.made.asked) (ap (λ c. setting_beyond c setting) (or-false _))

pub returns-in_ok-put_table-in-BrTable-clause-emitted : goal.returns-in_ok-put_table-in-BrTable-clause-emitted
returns-in_ok-put_table-in-BrTable-clause-emitted c =
    λ asks. table_emits (context_by c.args.flags c.args.frame.now (registered_of c.args.sink.now)) _ _ _ _ _ _ _ _ _ _ (ap (with_map c.args.stack_map.now) c.in-BrTable.is)
    (c.table_space-space.ensures ∙ ap table_space (c.len.ensures ∙ ap length c.as_ref-targets.ensures)) c.in_ok-emit_island_if_needed-in-BrTable.ensures.made _ (c.as_slice.ensures ∙ c.as_ref-targets.ensures) c.in_ok-put_table-in-BrTable.ensures.slots

pub returns-in_ok-put_table-in-BrTable-clause-setting : goal.returns-in_ok-put_table-in-BrTable-clause-setting
returns-in_ok-put_table-in-BrTable-clause-setting c =
    let context = (context_by c.args.flags c.args.frame.now (registered_of c.args.sink.now)) in
    let fine = table_fine _ _ _ _ (kept c.in-BrTable.is (keeps_rules context c.args.inst.now c.requires.rule)) in
    λ asks setting. rw c.in-BrTable.is (table_forgets context c.in-BrTable.index c.in-BrTable.tmp1 c.in-BrTable.tmp2 c.in-BrTable.targets fine.4 c.args.sink.now setting)

pub put_tail_call-requires-clause-arguments : goal.put_tail_call-requires-clause-arguments
put_tail_call-requires-clause-arguments c = rw c.as_ref-in-ReturnCall.ensures (tail_kept (context_by c.args.flags c.args.frame.now (registered_of c.args.sink.now)) _ _ (ap tail_call_of c.in-ReturnCall.is) c.requires.rule)

pub put_tail_call-requires-clause-reach : goal.put_tail_call-requires-clause-reach
put_tail_call-requires-clause-reach c = reach_calm c.args.sink.now c.requires.calm

pub put_tail_call-requires-clause-room : goal.put_tail_call-requires-clause-room
put_tail_call-requires-clause-room c = let sum = tail_sum (context_by c.args.flags c.args.frame.now (registered_of c.args.sink.now)) c.args.inst.now c.in-ReturnCall.info c.in-ReturnCall.is in let room = c.requires.room in omega arith

pub returns-in_ok-put_tail_call-in-ReturnCall-clause-emitted : goal.returns-in_ok-put_tail_call-in-ReturnCall-clause-emitted
returns-in_ok-put_tail_call-in-ReturnCall-clause-emitted c = λ asks. rw (c.in-ReturnCall.is, ← c.as_ref-in-ReturnCall.ensures) (λ setting. c.in_ok-put_tail_call-in-ReturnCall.ensures.parts)

pub returns-in_ok-put_tail_call-in-ReturnCall-clause-setting : goal.returns-in_ok-put_tail_call-in-ReturnCall-clause-setting
returns-in_ok-put_tail_call-in-ReturnCall-clause-setting c = λ asks. calls_forget (context_by c.args.flags c.args.frame.now (registered_of c.args.sink.now)) c.args.inst.now (ap family_of c.in-ReturnCall.is) c.args.sink.now

pub put_tail_jump-requires : goal.put_tail_jump-requires
put_tail_jump-requires c = record {
  frame = search rules;
  arguments = rw c.as_ref-in-ReturnCallInd.ensures (tail_kept (context_by c.args.flags c.args.frame.now (registered_of c.args.sink.now)) _ _ (ap tail_call_of c.in-ReturnCallInd.is) c.requires.rule);
  target = rw c.as_ref-in-ReturnCallInd.ensures (target_fine _ (kept c.in-ReturnCallInd.is (keeps_rules (context_by c.args.flags c.args.frame.now (registered_of c.args.sink.now)) _ c.requires.rule))).0;
  fifth = rw c.as_ref-in-ReturnCallInd.ensures (target_fine _ (kept c.in-ReturnCallInd.is (keeps_rules (context_by c.args.flags c.args.frame.now (registered_of c.args.sink.now)) _ c.requires.rule))).1;
  reach = reach_calm c.args.sink.now c.requires.calm;
  few = search rules;
  room = let sum = jump_sum (context_by c.args.flags c.args.frame.now (registered_of c.args.sink.now)) c.args.inst.now c.in-ReturnCallInd.info c.in-ReturnCallInd.is in let room = c.requires.room in omega arith;
  sound = search rules;
}

pub returns-in_ok-put_tail_jump-in-ReturnCallInd-clause-emitted : goal.returns-in_ok-put_tail_jump-in-ReturnCallInd-clause-emitted
returns-in_ok-put_tail_jump-in-ReturnCallInd-clause-emitted c = λ asks. rw (c.in-ReturnCallInd.is, ← c.as_ref-in-ReturnCallInd.ensures) (λ setting. c.in_ok-put_tail_jump-in-ReturnCallInd.ensures.parts)

pub returns-in_ok-put_tail_jump-in-ReturnCallInd-clause-setting : goal.returns-in_ok-put_tail_jump-in-ReturnCallInd-clause-setting
returns-in_ok-put_tail_jump-in-ReturnCallInd-clause-setting c = λ asks. calls_forget (context_by c.args.flags c.args.frame.now (registered_of c.args.sink.now)) c.args.inst.now (ap family_of c.in-ReturnCallInd.is) c.args.sink.now

pub put_loading_call-requires-clause-fine : goal.put_loading_call-requires-clause-fine
put_loading_call-requires-clause-fine c = rw c.as_ref.ensures (listed_try c.in-Call.info.try_call_info (kept c.in-Call.is (keeps_rules (context_by c.args.flags c.args.frame.now (registered_of c.args.sink.now)) _ c.requires.rule)).listed_try)

pub put_loading_call-requires-clause-results : goal.put_loading_call-requires-clause-results
put_loading_call-requires-clause-results c = rw c.as_ref.ensures (call_kept _ (kept c.in-Call.is (keeps_rules (context_by c.args.flags c.args.frame.now (registered_of c.args.sink.now)) _ c.requires.rule))).results

pub put_loading_call-requires-clause-room : goal.put_loading_call-requires-clause-room
put_loading_call-requires-clause-room c = rw c.as_ref.ensures (omega (arith, ap (inst_sum (context_by c.args.flags c.args.frame.now (registered_of c.args.sink.now))) c.in-Call.is, no_extra 8 (loads_unless c.in-Call.info.patchable c.in-Call.info.defs), c.requires.room))

pub returns-in_ok-put_loading_call-in-Call-clause-emitted : goal.returns-in_ok-put_loading_call-in-Call-clause-emitted
returns-in_ok-put_loading_call-in-Call-clause-emitted c =
    λ asks. loading_emits _ (result_loads c.in-Call.info.defs) _ _ (call_is (context_by c.args.flags c.args.frame.now (registered_of c.args.sink.now)) _) (ap (with_map c.args.stack_map.now) c.in-Call.is)
    (ap is_some (space_given c.args.stack_map.now (context_by c.args.flags c.args.frame.now (registered_of c.args.sink.now)) c.args.inst.now) ∙ asks) (unless_all c.in-Call.info.patchable c.in-Call.info.defs) (rw c.as_ref.ensures at c.in_ok-put_loading_call-in-Call.ensures.parts)

pub returns-in_ok-put_loading_call-in-Call-clause-setting : goal.returns-in_ok-put_loading_call-in-Call-clause-setting
returns-in_ok-put_loading_call-in-Call-clause-setting c = λ asks. calls_forget (context_by c.args.flags c.args.frame.now (registered_of c.args.sink.now)) c.args.inst.now (ap family_of c.in-Call.is) c.args.sink.now

pub put_loading_call_ind-requires-clause-fine : goal.put_loading_call_ind-requires-clause-fine
put_loading_call_ind-requires-clause-fine c = rw c.as_ref-in-CallInd.ensures (listed_try c.in-CallInd.info.try_call_info (kept c.in-CallInd.is (keeps_rules (context_by c.args.flags c.args.frame.now (registered_of c.args.sink.now)) _ c.requires.rule)).listed_try)

pub put_loading_call_ind-requires-clause-results : goal.put_loading_call_ind-requires-clause-results
put_loading_call_ind-requires-clause-results c = rw c.as_ref-in-CallInd.ensures (call_ind_kept _ (kept c.in-CallInd.is (keeps_rules (context_by c.args.flags c.args.frame.now (registered_of c.args.sink.now)) _ c.requires.rule))).results

pub put_loading_call_ind-requires-clause-room : goal.put_loading_call_ind-requires-clause-room
put_loading_call_ind-requires-clause-room c = rw c.as_ref-in-CallInd.ensures (omega (arith, ap (inst_sum (context_by c.args.flags c.args.frame.now (registered_of c.args.sink.now))) c.in-CallInd.is, no_extra 4 (result_loads c.in-CallInd.info.defs), c.requires.room))

pub returns-in_ok-put_loading_call_ind-in-CallInd-clause-emitted : goal.returns-in_ok-put_loading_call_ind-in-CallInd-clause-emitted
returns-in_ok-put_loading_call_ind-in-CallInd-clause-emitted c =
    λ asks. loading_emits _ (result_loads c.in-CallInd.info.defs) _ _ (call_ind_is (context_by c.args.flags c.args.frame.now (registered_of c.args.sink.now)) _) (ap (with_map c.args.stack_map.now) c.in-CallInd.is)
    (ap is_some (space_given c.args.stack_map.now (context_by c.args.flags c.args.frame.now (registered_of c.args.sink.now)) c.args.inst.now) ∙ asks) (λ some. refl) (rw c.as_ref-in-CallInd.ensures at c.in_ok-put_loading_call_ind-in-CallInd.ensures.parts)

pub returns-in_ok-put_loading_call_ind-in-CallInd-clause-setting : goal.returns-in_ok-put_loading_call_ind-in-CallInd-clause-setting
returns-in_ok-put_loading_call_ind-in-CallInd-clause-setting c = λ asks. calls_forget (context_by c.args.flags c.args.frame.now (registered_of c.args.sink.now)) c.args.inst.now (ap family_of c.in-CallInd.is) c.args.sink.now

pub put_loading_call_ind-requires-clause-dest : goal.put_loading_call_ind-requires-clause-dest
put_loading_call_ind-requires-clause-dest c = rw c.as_ref-in-CallInd.ensures (call_usable _ (kept c.in-CallInd.is (keeps_rules (context_by c.args.flags c.args.frame.now (registered_of c.args.sink.now)) _ c.requires.rule))).0
