use Rattle.std.proofs.Common.{◌∙◌, ap, arith, ◌+◌, ◌<◌, ◌≤◌}
use Rattle.rv_machine.specs.State.{signed}
use Rattle.std.proofs.Common.{sym}
use Rattle.rv_inst.proofs.PatchPair.{pair_distance}
use Rattle.rv_inst.proofs.PatchPart.{upper_of_difference, lower_of_difference}
use Rattle.rv_inst.proofs.Patch.{signed-distance_bits}
use Rattle.rv_inst.proofs.label_use.LabelUseMachInstLabelUse.patch.Goals as goal

pub returns-in-Jal20-clause-aims : goal.returns-in-Jal20-clause-aims
returns-in-Jal20-clause-aims c =
    let ahead = rw c.in-Jal20.is at c.requires.forward_in in
    let behind = rw c.in-Jal20.is at c.requires.backward_in in
    let up : c.args.label_offset < c.args.use_offset + 1048576 = omega (arith, ahead) in
    let low : c.args.use_offset ≤ c.args.label_offset + 1048576 = omega (arith, behind) in
    rw c.in-Jal20.is (c.patch_jal.ensures.distance ∙ ap (signed 1048576) c.bits_of_distance.ensures ∙ signed-distance_bits 1048576 c.args.use_offset c.args.label_offset up low)

pub returns-in-PCRel32-clause-aims : goal.returns-in-PCRel32-clause-aims
returns-in-PCRel32-clause-aims c =
    let ahead = rw c.in-PCRel32.is at c.requires.forward_in in
    let behind = rw c.in-PCRel32.is at c.requires.backward_in in
    rw c.in-PCRel32.is
    (rw (c.patch_pair.ensures.upper, c.patch_pair.ensures.lower)
    (pair_distance c.args.label_offset c.args.use_offset c.ranges.label_offset.fits c.ranges.use_offset.fits ahead behind))

pub returns-in-PCRelHi20-clause-aims : goal.returns-in-PCRelHi20-clause-aims
returns-in-PCRelHi20-clause-aims c =
    rw c.in-PCRelHi20.is
    (c.patch_upper.ensures.bits ∙ sym (upper_of_difference c.args.label_offset c.args.use_offset c.ranges.label_offset.fits c.ranges.use_offset.fits))

pub returns-in-PCRelLo12I-clause-aims : goal.returns-in-PCRelLo12I-clause-aims
returns-in-PCRelLo12I-clause-aims c =
    rw c.in-PCRelLo12I.is
    (c.patch_lower.ensures.bits ∙ sym (lower_of_difference c.args.label_offset c.args.use_offset c.ranges.label_offset.fits c.ranges.use_offset.fits))

pub returns-in-RVCJump-clause-aims : goal.returns-in-RVCJump-clause-aims
returns-in-RVCJump-clause-aims c =
    let ahead = rw c.in-RVCJump.is at c.requires.forward_in in
    let behind = rw c.in-RVCJump.is at c.requires.backward_in in
    let up : c.args.label_offset < c.args.use_offset + 2048 = omega (arith, ahead) in
    let low : c.args.use_offset ≤ c.args.label_offset + 2048 = omega (arith, behind) in
    rw c.in-RVCJump.is (c.patch_compressed_jump.ensures.distance ∙ ap (signed 2048) c.bits_of_distance-in-RVCJump.ensures ∙ signed-distance_bits 2048 c.args.use_offset c.args.label_offset up low)
