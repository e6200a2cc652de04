use Rattle.std.proofs.Common.{arith}
use Rattle.mach_buffer.proofs.Words.{IsSound}
use Rattle.mach_buffer.proofs.ConstantOrder.{name_there}
use Rattle.mach_buffer.proofs.Sound.{sound_named}
use Rattle.mach_buffer.proofs.buffer.MachBuffer.get_label_for_constant.Goals as goal

pub returns-in-Ok-clause-usable : goal.returns-in-Ok-clause-usable
returns-in-Ok-clause-usable g c = grind (arith, name_there)

pub returns-in-Ok-clause-sound : goal.returns-in-Ok-clause-sound
unfolding IsSound
returns-in-Ok-clause-sound g c =
    let ok = c.in_ok-check.ensures.ok in
    let e = c.in-Ok.ensures in
    let same = c.name.ensures in
    rw (e.named, same.registered, same.placed) (sound_named (c.requires.sound ok) c.args.constant (c.requires.known ok) c.name.new.self.seen.items (rw (e.named, same.registered) at e.noted))
