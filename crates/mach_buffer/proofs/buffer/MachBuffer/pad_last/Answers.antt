use Rattle.mach_buffer.proofs.Words.{shape_of}
use Rattle.mach_buffer.proofs.LastVeneers.{padded_some}
use Rattle.mach_buffer.proofs.buffer.MachBuffer.pad_last.Goals as goal

pub returns : goal.returns
returns g c = record { shape = rw (padded_some c.args.count (shape_of c.args.self.now) c.if-count-eq0.false) c.pad.ensures.shape }
