use Rattle.mach_buffer.proofs.buffer.MachBuffer.emit_island.Goals as goal

pub put_island-requires-clause-ready : goal.put_island-requires-clause-ready
put_island-requires-clause-ready g c = c.requires.ready c.in_ok-check.ensures.ok
