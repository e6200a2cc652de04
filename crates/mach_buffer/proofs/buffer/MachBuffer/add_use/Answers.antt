use Rattle.mach_buffer.proofs.Words.{IsSound}
use Rattle.mach_buffer.proofs.Sound.{sound_use}
use Rattle.mach_buffer.proofs.buffer.MachBuffer.add_use.Goals as goal

pub returns-clause-sound : goal.returns-clause-sound
unfolding IsSound
returns-clause-sound g c =
    let e = c.in_ok-record_use.ensures in
    rw (e.bytes, e.uses) (sound_use c.requires.sound c.args.u c.requires.bare c.requires.there c.requires.known c.push.new.self (rw (← c.deref.ensures.value) c.in_ok-push.ensures))
