use Rattle.std.proofs.Common.{arith}
use Rattle.std.proofs.lemmas.Grind.{common_steps}
use Rattle.mach_records.specs.Ranges.{EntryFits}
use Rattle.mach_records.proofs.Ranges.{with_one_more}
use Rattle.mach_records.proofs.split.copy_of_map.Goals as goal

pub loop-entry-preserved : goal.loop-entry-preserved
loop-entry-preserved c = record { copy = grind (arith, common_steps); fits = with_one_more EntryFits _ _ _ c.in_ok-push.ensures.items c.loop-entry.invariant.fits c.copy_of_entry.ensures.fits }
