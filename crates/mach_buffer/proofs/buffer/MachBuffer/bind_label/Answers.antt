use Rattle.mach_buffer.proofs.Words.{IsSound, shape_of}
use Rattle.mach_buffer.proofs.Sound.{sound_label, label_fewer}
use Rattle.mach_buffer.proofs.buffer.MachBuffer.bind_label.Goals as goal

pub returns-in-Ok-clause-fewer : goal.returns-in-Ok-clause-fewer
unfolding IsSound
returns-in-Ok-clause-fewer g c = let ok = c.in_ok-check.ensures.ok in label_fewer g.L.MachInstLabelUse.kinds (shape_of c.args.self.now) c.args.label (c.requires.unbound ok) _ c.in-Ok.ensures.shape

pub returns-in-Ok-clause-sound : goal.returns-in-Ok-clause-sound
unfolding IsSound
returns-in-Ok-clause-sound g c =
    let ok = c.in_ok-check.ensures.ok in
    rw (c.place_label.ensures.inside, c.in-Ok.ensures.shape) (sound_label (c.requires.sound ok) c.args.label (c.requires.known ok) (c.requires.unbound ok))
