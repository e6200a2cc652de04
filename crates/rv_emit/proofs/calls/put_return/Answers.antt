use Rattle.rv_emit.proofs.{TailCallCode.returned_put, Terms.no_flags, Terms.alone_sound}
use Rattle.rv_emit.proofs.calls.put_return.Goals as goal

pub put_site-requires-clause-sound : goal.put_site-requires-clause-sound
put_site-requires-clause-sound c = alone_sound {flags = no_flags} _ _ _ (c.in_ok-put_stack_map.ensures.slots no_flags)

pub returns-clause-slots : goal.returns-clause-slots
returns-clause-slots c = λ flags. returned_put c.args.frame.now _ _ _ _ _ (c.in_ok-put_stack_map.ensures.slots flags) (c.in_ok-put_site.ensures.slots flags)
