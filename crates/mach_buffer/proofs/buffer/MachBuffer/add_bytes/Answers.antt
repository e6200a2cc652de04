use Rattle.std.proofs.Common.{ap, arith}
use Rattle.mach_buffer.proofs.Words.{IsSound}
use Rattle.mach_buffer.proofs.Sound.{sound_bytes}
use Rattle.mach_buffer.proofs.buffer.MachBuffer.add_bytes.Goals as goal

-- the uses are as they were
pub tidy-requires : goal.tidy-requires
unfolding IsSound
tidy-requires g c = grind arith

pub returns-clause-sound : goal.returns-clause-sound
unfolding IsSound
returns-clause-sound g c =
    let e = c.in_ok-append.ensures in
    rw (e.bytes, e.uses) (sound_bytes c.requires.sound c.args.bytes.now c.requires.even _ (rw (← ap (λ v. v.items) e.uses, ← c.deref.ensures.value) c.in_ok-tidy.ensures))
