use Rattle.std.proofs.Common.{◌≡◌, ◌∙◌, ap, length, ℕ, subst}
use Rattle.mach_records.specs.Ranges.{RecordedFits}
use Rattle.mach_records.specs.declared.records.Recorded.{Recorded}
use Rattle.mach_labels.specs.Table.{entry_of}
use Rattle.mach_records.specs.Records.{by_kind}
use Rattle.mach_buffer.proofs.Words.{IsSound}
use Rattle.mach_buffer.proofs.Words.{take_at, Shape, shape_of, bytes_of, place_of, Finishes}
use Rattle.mach_buffer.proofs.Pieces.{constants_kept}
use Rattle.mach_buffer.proofs.LastVeneers.{last_done, can_patch_all, all_arrive}
use Rattle.mach_buffer.proofs.buffer.MachBuffer.end.Goals as goal

pub patch_all-requires : goal.patch_all-requires
unfolding IsSound
patch_all-requires g c = rw (c.deref_mut.ensures.value, c.deref-2.ensures.value) (can_patch_all (last_done g.met.L.MachInstLabelUse.veneer_ok c.requires.sound.whole c.requires.ready c.in_ok-put_last.ensures))

pub returns : goal.returns
unfolding IsSound
returns g c =
    let d = last_done g.met.L.MachInstLabelUse.veneer_ok c.requires.sound.whole c.requires.ready c.in_ok-put_last.ensures in
    let e = c.in_ok-put_last.ensures in
    let now = c.put_last.new.self in
    let q = c.patch_all.ensures in
    let final = c.patch_all.new.bytes in
    let same_length : length final ≡ length (bytes_of now) = q.same_length ∙ ap (length {A = ℕ}) c.deref_mut.ensures.value in
    let kept = rw (c.deref-2.ensures.value, c.deref_mut.ensures.value) at q.kept in
    let others = rw (c.deref-2.ensures.value, c.deref_mut.ensures.value) at q.others in
    let whole : c.list_of.result ≡ final = c.list_of.ensures.list ∙ take_at final _ _ (q.same_length ∙ c.deref_mut.ensures.len) in
    let recorded = c.in_ok-recorded.ensures.found ∙ (λ i. by_kind (entry_of (c.places.ensures i)) (c.deref.ensures.value i)) in
    let finishes : Finishes g.L.MachInstLabelUse.kinds (shape_of c.args.self) final = record {
      order = e.order;
      in_order = e.in_order;
      put = shape_of now;
      whole = e.whole;
      long = d.long;
      grows = d.grows;
      places = d.places;
      linked = d.linked;
      bound = d.bound;
      same_length = same_length;
      arrive = all_arrive g.met.L.MachInstLabelUse.veneer_ok d final same_length (rw c.deref-2.ensures.value at q.aims) kept others;
      kept = kept;
      others = others;
      constants = rw (ap (λ (x : Shape g.row.L.Denot). x.registered) d.same) at (constants_kept g.L.MachInstLabelUse.kinds (place_of now) (shape_of now) final same_length d.stand others);
      listed = d.listed;
      offsets = d.offsets;
    } in
    record {
      code = rw whole (finishes, c.from_vec-2.ensures);
      labels = c.from_vec.ensures ∙ (λ i. (c.into_bound.ensures i).items) ∙ ap (λ (x : Shape g.row.L.Denot). x.labels) d.same;
      relocs = ap (λ (r : Recorded). r.relocs) recorded;
      traps = ap (λ (r : Recorded). r.traps) recorded;
      call_sites = ap (λ (r : Recorded). r.call_sites) recorded;
      try_call_sites = ap (λ (r : Recorded). r.try_call_sites) recorded;
      patchable_call_sites = ap (λ (r : Recorded). r.patchable_call_sites) recorded;
      stack_maps = ap (λ (r : Recorded). r.stack_maps) recorded;
      unwinds = ap (λ (r : Recorded). r.unwinds) recorded;
      bytes = c.list_of.ensures.fits;
      fits = subst RecordedFits recorded c.in_ok-recorded.ensures.fits;
    }
