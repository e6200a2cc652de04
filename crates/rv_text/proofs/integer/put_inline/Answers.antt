use Rattle.std.proofs.Common.{append_assoc}
use Rattle.rv_text.proofs.integer.put_inline.Goals as goal

pub returns : goal.returns
returns c = rw (c.in_ok-put_hex.ensures, c.in_ok-write.ensures.bytes) (simp append_assoc)
