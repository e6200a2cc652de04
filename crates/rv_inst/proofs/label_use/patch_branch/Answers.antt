use Rattle.rv_inst.proofs.Patch.{branch_holds, branch_keeps}
use Rattle.rv_inst.proofs.label_use.patch_branch.Goals as goal

pub returns-clause-distance : goal.returns-clause-distance
returns-clause-distance c =
    branch_holds c.args.buffer.now c.write_word.new.buffer c.args.bits (rw (c.read_word-word.ensures.value, c.branch_field.ensures) at c.write_word.ensures) c.read_word-word.ensures.in_range c.requires.fresh
    c.requires.bits_in c.requires.even

pub returns-clause-others : goal.returns-clause-others
returns-clause-others c =
    branch_keeps c.args.buffer.now c.write_word.new.buffer c.args.bits (rw (c.read_word-word.ensures.value, c.branch_field.ensures) at c.write_word.ensures) c.read_word-word.ensures.in_range c.requires.fresh c.requires.bits_in
