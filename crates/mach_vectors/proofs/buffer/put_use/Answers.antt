use Rattle.std.proofs.Common.{arith, ◌<◌, ◌+◌, inl}
use Rattle.mach_labels.specs.Table.{first_inner}
use Rattle.mach_buffer.specs.Buffer.{allocated_of}
use Rattle.mach_vectors.proofs.buffer.put_use.Goals as goal

pub put_window-requires-clause-met : goal.put_window-requires-clause-met
put_window-requires-clause-met g c =
    let number = c.from_u32.ensures in
    let low : c.from_u32.result.number < 4 = omega (arith, number, c.if-label-ge4.false) in
    inl low

pub put_window-requires-clause-usable : goal.put_window-requires-clause-usable
put_window-requires-clause-usable g c =
    let number = c.from_u32.ensures in
    let low : c.from_u32.result.number < first_inner + allocated_of c.emit_due_island.new.buffer = omega (arith, number, c.if-label-ge4.false) in
    inl low
