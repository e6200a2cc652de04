use Rattle.std.proofs.Common.{◌∙◌, ap, subst, sym}
use Rattle.mach_labels.specs.Table.{entry_of}
use Rattle.mach_records.specs.Collected.{both, reported}
use Rattle.mach_records.specs.Ranges.{RecordedFits}
use Rattle.mach_records.proofs.Collected.{both_fit, one_more}
use Rattle.mach_records.proofs.split.by_kind.Goals as goal

pub loop-r-preserved : goal.loop-r-preserved
loop-r-preserved c =
    let place = entry_of c.args.places.now in
    let r = c.r-item.result in
    record {
      found = c.in_ok-add.ensures.added ∙ (ap (λ a. both a (reported place r)) c.loop-r.invariant.found ∙ sym (one_more place c.args.records.now c.loop-r.r-index r c.loop-r-test.true c.r-item.is));
      fits = subst RecordedFits (sym c.in_ok-add.ensures.added) (both_fit _ _ c.loop-r.invariant.fits c.in_ok-add.ensures.fits);
    }
