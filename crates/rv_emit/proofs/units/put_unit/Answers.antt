use Rattle.rv_emit.proofs.Terms.{kept, refl, [], ◌∷◌, ◌++◌, arith, sym, ap, ◌∙◌, no_flags, access_slots, slots_alone, Op, access_short, parts_are, unit_operation, word_fine, context_by, is_integer_family, trap_in, is_unit, longer, both_alone, alone_sound}
use Rattle.rv_emit.proofs.units.put_unit.Goals as goal

pub unit_bits-requires : goal.unit_bits-requires
unit_bits-requires c = record { fine = word_fine _ (kept refl c.requires.rule) }

pub put_word-requires : goal.put_word-requires
put_word-requires c = record { room = omega (arith, longer _ _ _ (access_short c.unit_trap.result) (c.in_ok-put_access.ensures.slots no_flags), c.requires.room); sound = alone_sound _ _ _ (c.in_ok-put_access.ensures.slots no_flags) }

pub returns-clause-parts : goal.returns-clause-parts
returns-clause-parts c = λ family flags frame constants setting.
    let u = is_unit _ (ap is_integer_family family) in
    let w = u.word in
    let both = both_alone _ _ _ _ _ (access_short c.unit_trap.result).plain (c.in_ok-put_access.ensures.slots flags) (c.in_ok-put_word.ensures.slot flags w.operation (unit_operation _ _ u.is).long (c.unit_bits.ensures.decodes w u.is flags)) in
    rw (← (ap (λ t. slots_alone (access_slots t ++ Op w.operation ∷ [])) (c.unit_trap.ensures ∙ ap trap_in u.is) ∙ sym (parts_are (context_by flags frame constants) setting _ _ u.is))) both
