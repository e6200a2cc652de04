use Rattle.rv_inst.proofs.PatchPart.{lower_holds_part, lower_keeps_part}
use Rattle.rv_inst.proofs.label_use.patch_lower.Goals as goal

pub returns-clause-bits : goal.returns-clause-bits
returns-clause-bits c = lower_holds_part c.args.buffer.now c.write_word.new.buffer c.args.distance (rw (c.read_word-word.ensures.value, c.lower_field.ensures) at c.write_word.ensures) c.read_word-word.ensures.in_range c.requires.fresh

pub returns-clause-others : goal.returns-clause-others
returns-clause-others c = lower_keeps_part c.args.buffer.now c.write_word.new.buffer c.args.distance (rw (c.read_word-word.ensures.value, c.lower_field.ensures) at c.write_word.ensures) c.read_word-word.ensures.in_range c.requires.fresh
