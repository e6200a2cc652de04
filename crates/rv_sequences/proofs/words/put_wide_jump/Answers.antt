use Rattle.rv_sequences.proofs.{Encoded.jump_patchable, SlotsPut.aim_put_at, Terms.inl}
use Rattle.rv_sequences.proofs.words.put_wide_jump.Goals as goal

pub returns-clause-slot : goal.returns-clause-slot
returns-clause-slot c = λ flags. aim_put_at _ _ _ _ _ _ _ (jump_patchable _ _ c.jump_word.ensures) c.in_ok-put_use.ensures.added c.in_ok-put_use.ensures.sound

pub put_use-requires-clause-usable : goal.put_use-requires-clause-usable
put_use-requires-clause-usable c = inl c.requires.known
