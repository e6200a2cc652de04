use Rattle.rv_emit.proofs.Terms.{alone_long, length, ap, arith}
use Rattle.rv_emit.proofs.stack.return_length.Goals as goal

pub returns : goal.returns
returns c = omega (arith, ap length c.new-buffer.ensures.bytes, alone_long _ c.new-buffer.result c.put_return.new.sink c.in_ok-put_return.ensures.slots, c.cur_offset.ensures)
