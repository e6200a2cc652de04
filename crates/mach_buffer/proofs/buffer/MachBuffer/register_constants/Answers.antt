use Rattle.std.proofs.Common.{ap}
use Rattle.mach_buffer.proofs.Words.{IsSound}
use Rattle.mach_buffer.proofs.Words.{shape_of}
use Rattle.mach_buffer.proofs.ConstantOrder.{none_named}
use Rattle.mach_buffer.proofs.Sound.{sound_registered}
use Rattle.mach_buffer.proofs.buffer.MachBuffer.register_constants.Goals as goal

pub register-requires-clause-named : goal.register-requires-clause-named
unfolding IsSound
register-requires-clause-named g c = let ok = c.in_ok-check.ensures.ok in none_named (shape_of c.args.self.now) (c.requires.sound ok).whole.ordered (c.requires.none ok)

pub returns-in-Ok-clause-sound : goal.returns-in-Ok-clause-sound
unfolding IsSound
returns-in-Ok-clause-sound g c =
    let ok = c.in_ok-check.ensures.ok in
    let e = c.in-Ok.ensures in
    let same = c.register.ensures in
    rw (e.registered, same.named, same.placed) (sound_registered (c.requires.sound ok) c.args.constants.now (c.requires.none ok) (c.requires.few ok) c.register.new.self.seen.items (rw (← e.registered, ← ap (λ v. v.items) same.named) e.noted))
