use Rattle.std.proofs.Common.{append_assoc}
use Rattle.rv_text.proofs.floats.put_plain.Goals as goal

pub returns : goal.returns
returns c = rw (c.in_ok-put_mode.ensures, c.in_ok-put_named.ensures, c.stem.ensures, c.has_frm.ensures) (simp append_assoc)
