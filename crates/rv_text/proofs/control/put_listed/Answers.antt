use Rattle.std.proofs.Common.{append_assoc}
use Rattle.rv_text.proofs.control.put_listed.Goals as goal

pub returns : goal.returns
returns c = rw (c.in_ok-put-2.ensures, c.in_ok-put_labels.ensures, c.in_ok-put.ensures) (simp append_assoc)
