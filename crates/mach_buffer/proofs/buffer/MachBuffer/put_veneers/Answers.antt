use Rattle.std.proofs.Common.{◌∙◌}
use Rattle.mach_buffer.proofs.Words.{key_number, shape_of}
use Rattle.mach_uses.proofs.Lists.{drop_mapped}
use Rattle.mach_buffer.proofs.VeneersAndConstants.{going_next}
use Rattle.mach_buffer.proofs.buffer.MachBuffer.put_veneers.Goals as goal

pub loop-key-preserved : goal.loop-key-preserved
loop-key-preserved g c =
    let p = c.in_ok-put_veneer.ensures in
    let was = c.loop-key.invariant in
    (going_next g.met.L.MachInstLabelUse.veneer_ok was.0 (drop_mapped key_number c.args.order.now c.loop-key.key-index _ c.loop-key-test.true) (shape_of c.put_veneer.new.self) p.shape, p.inside ∙ was.1, p.spoiled ∙ was.2)
