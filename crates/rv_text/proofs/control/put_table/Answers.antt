use Rattle.std.proofs.Common.{append_assoc}
use Rattle.rv_text.proofs.control.put_table.Goals as goal

pub returns : goal.returns
returns c = rw (c.in_ok-write-2.ensures.bytes, c.in_ok-put_targets.ensures, c.in_ok-write.ensures.bytes) (simp append_assoc)
