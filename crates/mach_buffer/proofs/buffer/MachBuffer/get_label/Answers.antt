use Rattle.std.proofs.Common.{◌∙◌, ap}
use Rattle.mach_buffer.proofs.Words.{IsSound}
use Rattle.mach_buffer.proofs.Words.{shape_of}
use Rattle.mach_uses.proofs.Lists.{none_of}
use Rattle.mach_buffer.proofs.ConstantOrder.{not_next}
use Rattle.mach_buffer.proofs.Sound.{sound_allocated}
use Rattle.mach_buffer.proofs.buffer.MachBuffer.get_label.Goals as goal

pub returns-clause-unbound : goal.returns-clause-unbound
unfolding IsSound
returns-clause-unbound g c =
    let ok = c.in_ok-check.ensures.ok in
    let e = c.allocate-label.ensures in
    ap (λ p. p c.allocate-label.result.number) e.places ∙ none_of _ (λ at q. not_next (shape_of c.args.self.now) (c.requires.few ok) e.number ((c.requires.sound ok).whole.places _ at q).2)

pub returns-clause-unnamed : goal.returns-clause-unnamed
unfolding IsSound
returns-clause-unnamed g c =
    let ok = c.in_ok-check.ensures.ok in
    λ j u h q. not_next (shape_of c.args.self.now) (c.requires.few ok) (q ∙ c.allocate-label.ensures.number) ((c.requires.sound ok).whole.known j u h)

pub returns-clause-sound : goal.returns-clause-sound
unfolding IsSound
returns-clause-sound g c =
    let e = c.allocate-label.ensures in
    rw (e.places, e.bound, e.allocated) (sound_allocated (c.requires.sound c.in_ok-check.ensures.ok) (c.requires.few c.in_ok-check.ensures.ok))
