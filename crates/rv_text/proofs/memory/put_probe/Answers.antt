use Rattle.std.proofs.Common.{append_assoc}
use Rattle.rv_text.proofs.memory.put_probe.Goals as goal

pub returns : goal.returns
returns c = simp append_assoc c.in_ok-write.ensures.bytes
