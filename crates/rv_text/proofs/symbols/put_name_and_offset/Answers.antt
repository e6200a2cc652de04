use mir.Syntax.{w64}
use Rattle.std.proofs.Common.{append_assoc}
use Rattle.std.proofs.lemmas.Int.{to_z-of_z}
use Rattle.rv_text.proofs.symbols.put_name_and_offset.Goals as goal

pub returns : goal.returns
returns c = rw (c.in_ok-put_offset.ensures, c.in_ok-put_name.ensures, to_z-of_z w64 c.args.offset c.ranges.offset) (simp append_assoc)
