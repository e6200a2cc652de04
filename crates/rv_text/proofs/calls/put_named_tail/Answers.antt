use Rattle.std.proofs.Common.{append_assoc}
use Rattle.rv_text.proofs.calls.put_named_tail.Goals as goal

pub returns : goal.returns
returns c = rw (c.in_ok-put_uses.ensures, c.in_ok-write.ensures.bytes, c.as_slice.ensures) (simp append_assoc)
