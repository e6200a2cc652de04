use Rattle.rv_inst.proofs.PatchCompressed.{compressed_jump_holds, compressed_jump_keeps}
use Rattle.rv_inst.proofs.label_use.patch_compressed_jump.Goals as goal

pub returns-clause-distance : goal.returns-clause-distance
returns-clause-distance c =
    compressed_jump_holds c.args.buffer.now c.write_half.new.buffer c.args.bits (rw (c.read_half-half.ensures.value, c.compressed_jump_field.ensures) at c.write_half.ensures) c.read_half-half.ensures.in_range c.requires.fresh
    c.requires.bits_in c.requires.even

pub returns-clause-others : goal.returns-clause-others
returns-clause-others c =
    compressed_jump_keeps c.args.buffer.now c.write_half.new.buffer c.args.bits (rw (c.read_half-half.ensures.value, c.compressed_jump_field.ensures) at c.write_half.ensures) c.read_half-half.ensures.in_range c.requires.fresh c.requires.bits_in
