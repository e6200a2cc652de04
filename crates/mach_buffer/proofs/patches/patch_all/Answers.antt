use Rattle.std.proofs.Common.{arith, ◌∙◌}
use Rattle.mach_buffer.proofs.Words.{length-map, slice_get_read, place_in, patch_of, patches_of}
use Rattle.mach_uses.proofs.Lists.{mapped}
use Rattle.mach_buffer.proofs.Windows.{progress_can, progress_patched, progress_done}
use Rattle.mach_buffer.proofs.patches.patch_all.Goals as goal

pub patch_one-requires : goal.patch_one-requires
patch_one-requires g c = progress_can c.loop-u.invariant.0 c.requires c.resolve-patch.result (grind (arith, mapped, slice_get_read)) c.loop-u.invariant.1

pub loop-u-preserved : goal.loop-u-preserved
loop-u-preserved g c =
    let p = c.patch_one.ensures in
    (progress_patched {uses = patches_of (place_in c.args.labels.now) c.args.uses.now} c.loop-u.invariant.0 c.requires c.resolve-patch.result c.patch_one.new.bytes (grind (arith, mapped, slice_get_read)) p.others p.kept p.aims, p.others.same_length ∙ c.loop-u.invariant.1)

pub returns : goal.returns
returns g c =
    let done = progress_done c.loop-u.invariant.0 (omega (arith, length-map c.args.uses.now (patch_of (place_in c.args.labels.now)))) in
    record { aims = λ j u h. (done j u h).0; kept = λ j u h. (done j u h).1; others = c.loop-u.invariant.0.others; same_length = c.loop-u.invariant.1 }
