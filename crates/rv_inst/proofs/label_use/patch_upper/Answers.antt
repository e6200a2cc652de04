use Rattle.rv_inst.proofs.PatchPart.{upper_holds_part, upper_keeps_part}
use Rattle.rv_inst.proofs.label_use.patch_upper.Goals as goal

pub returns-clause-bits : goal.returns-clause-bits
returns-clause-bits c = upper_holds_part c.args.buffer.now c.write_word.new.buffer c.args.distance (rw (c.read_word-word.ensures.value, c.upper_field.ensures) at c.write_word.ensures) c.read_word-word.ensures.in_range c.requires.fresh

pub returns-clause-others : goal.returns-clause-others
returns-clause-others c = upper_keeps_part c.args.buffer.now c.write_word.new.buffer c.args.distance (rw (c.read_word-word.ensures.value, c.upper_field.ensures) at c.write_word.ensures) c.read_word-word.ensures.in_range c.requires.fresh
