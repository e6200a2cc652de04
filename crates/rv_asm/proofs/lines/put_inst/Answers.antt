use Rattle.rv_asm.proofs.Words.{arith, common_steps}
use Rattle.rv_asm.proofs.lines.put_inst.Goals as goal

pub returns-clause-put : goal.returns-clause-put
returns-clause-put c = record {
  mid = c.emit_needed_island.new.sink;
  made = c.in_ok-emit_needed_island.field-0;
  room = c.in_ok-emit_needed_island.ensures.room;
  emitted = grind (arith, common_steps);
  reach = c.in_ok-emit.ensures.reach;
  start = c.cur_offset-start.ensures;
  end = c.cur_offset-end.ensures;
}

pub returns-clause-setting : goal.returns-clause-setting
returns-clause-setting c = (c.emit_needed_island.new.sink, c.in_ok-emit_needed_island.field-0, c.in_ok-emit_needed_island.ensures.room, grind (arith, common_steps))
