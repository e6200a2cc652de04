use Rattle.std.proofs.Common.{rules, length}
use Rattle.mach_buffer.proofs.Windows.{changes_part}
use Rattle.mach_buffer.proofs.patches.patch_one.Goals as goal

pub returns-clause-others : goal.returns-clause-others
returns-clause-others g c =
    changes_part c.args.bytes.now c.patch.new.buffer c.args.patch.now.offset (length (g.L.MachInstLabelUse.kinds.fields c.args.patch.now.kind)) c.requires.inside (search rules) c.patch.ensures.rest
