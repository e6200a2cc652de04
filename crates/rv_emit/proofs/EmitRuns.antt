-- What was put runs wherever it stands in finished code, and leaves a buffer into which more can be put.
use Rattle.rv_emit.{proofs.InstSlots.{appends, emitted_keeps, parts_are_self_contained}, proofs.OwnPieces.each_none, proofs.PartsInBuffer.{gap_last, GapPut, gap_put, parts_last, PartsPut, parts_put}, proofs.StackMaps.can_given, proofs.Standing.{gap_stands, parts_stand}}
use Rattle.rv_emit.proofs.Terms.{◌≡◌, ℕ, ◌%◌, ◌<◌, ◌≤◌, Bool, false, List, [], length, Option, Some, None, refl, ap, sym, ◌∙◌, subst, arith, slice_get, no_flags, IsaFlags, code_limit, UserStackMap, Context, is_bad_frame_for, label_kinds, inst_constant, named_by}
use Rattle.rv_emit.proofs.Terms.{tail_call_of, inst_rule, Inst, LabelUse, Use, shape_of, bytes_of, uses_of, records_of, named_of, constants_of, AreWindows, Lasts, Shape, even_length, windows_none, parts_of, Site, PartsStand, EmitVState, inst_resumes}
use Rattle.rv_emit.proofs.Terms.{resumes_fully, runs_fully, inst_runs, reads_operation, EmitsIn, IsBuilt, HasCode, RunsBetween, EmitsRun, GapLeads, Buffer, IsSoundBuffer, CanEmit, IslandIfNeeded, with_map, PartsIn}
use Rattle.rv_inst.specs.declared.inst.Inst.TheVariants.{Call, CallInd}

-- ---- in finished code

module _ (setting : EmitVState) (inst : Inst) (start end : ℕ) (f : Shape LabelUse) (site : Site) (rule : inst_rule site.context inst ≡ None) (restores : is_bad_frame_for site.context.frame (tail_call_of inst) ≡ false) (even : start % 2 ≡ 0) (inside : start ≤ length f.bytes) (there : PartsIn site.context.flags (parts_of site.context setting inst) f start end) (code : HasCode site.context f site) where
  long : length site.bytes ≡ length code.finished.finishes.put.bytes
  long = code.keeps.long ∙ code.finished.finishes.same_length

  stand : PartsStand site start end (parts_of site.context setting inst) × (end % 2 ≡ 0) × (start ≤ end) × (end ≤ length site.bytes)
  stand =
      parts_stand site f code.bytes code.finished code.keeps code.place code.records code.fields code.filled (parts_of site.context setting inst) start end (parts_are_self_contained site.context setting inst rule) even (omega (arith, inside, code.finished.finishes.grows.longer, long)) there

  short : length site.bytes < code_limit
  short = omega (arith, long, code.finished.finishes.long, code.finished.can.short)

  bound : (label at : ℕ) → site.place label ≡ Some at → at ≤ length site.bytes
  bound label at e = omega (arith, ((code.finished.finishes.places label at (ap (λ (p : ℕ → Option ℕ). p label) (sym code.place) ∙ e)).0), long)

  parts_run : RunsBetween site inst start end
  parts_run = record {
    run = λ s v core placed pc is_state are_values same outside. (inst_runs site setting inst core rule restores).run start end s v (record { even = even; within = stand.3; short = short; labels = bound; stands = stand.0; placed = placed; pc = pc; is_state = is_state; are_values = are_values; same = same }) outside;
    back = λ r s v core is placed pc is_state are_values same. (inst_resumes site setting inst r core rule is).run start end s v (record { even = even; within = stand.3; short = short; stands = stand.0; placed = placed; pc = pc; is_state = is_state; are_values = are_values; same = same });
    full = runs_fully site setting inst start end rule even stand.3 short bound stand.0 restores;
    full_back = resumes_fully site setting inst start end rule even stand.3 short bound stand.0;
    reads = λ d mem is placed. reads_operation site start d setting inst end is stand.0 mem placed;
  }

-- whatever map a call records, it runs as it means
runs_given : (map : Option UserStackMap) (site : Site) (inst : Inst) (start end : ℕ) → RunsBetween site (with_map map inst) start end → RunsBetween site inst start end
runs_given map site (Call info) start end h = record { run = h.run; back = h.back; full = h.full; full_back = h.full_back; reads = h.reads }
runs_given map site (CallInd info) start end h = record { run = h.run; back = h.back; full = h.full; full_back = h.full_back; reads = h.reads }
runs_given map site inst start end h = h

constant_given : (map : Option UserStackMap) (inst : Inst) → inst_constant (with_map map inst) ≡ inst_constant inst
constant_given map (Call info) = refl
constant_given map (CallInd info) = refl
constant_given map inst = refl

-- ---- what `emit` put

module _ (context : Context) (setting : EmitVState) (map : Option UserStackMap) (inst : Inst) (old new : Buffer) (can : CanEmit context inst old) (put : EmitsIn context setting (with_map map inst) old new) (built : IsBuilt old) where
  given : CanEmit context (with_map map inst) old
  given = can_given map context inst old can

  parts : PartsPut context.flags (parts_of context setting (with_map map inst)) old new
  parts = parts_put context.flags (parts_of context setting (with_map map inst)) old new (parts_are_self_contained context setting (with_map map inst) given.rule) built.sound built.windows built.fields put

  runs : (f : Shape LabelUse) (site : Site) → Lasts label_kinds (shape_of new) f → HasCode context f site → RunsBetween site inst (length (bytes_of old)) (length (bytes_of new))
  runs f site lasts code =
      let there = parts_last context.flags (parts_of context setting (with_map map inst)) (length (bytes_of old)) (length (bytes_of new)) parts.stand lasts in
      let is = sym code.read_in in
      let i = with_map map inst in
      runs_given map site inst (length (bytes_of old)) (length (bytes_of new))
      (parts_run setting i (length (bytes_of old)) (length (bytes_of new)) f site
      (ap (λ x. inst_rule x i) code.read_in ∙ given.rule)
      (ap (λ (x : Context). is_bad_frame_for x.frame (tail_call_of i)) code.read_in ∙ given.restores)
      (even_length label_kinds old built.sound)
      (omega (arith, parts.lasts.grows.longer, lasts.grows.longer))
      (subst (λ (x : Context). PartsIn x.flags (parts_of x setting i) f (length (bytes_of old)) (length (bytes_of new))) is there)
      (subst (λ x. HasCode x f site) is code))

  pub emits_run : EmitsRun context map inst old new
  emits_run =
      let added = appends context setting (with_map map inst) old new given.rule (omega (arith, given.room)) built.sound put in
      let keeps = emitted_keeps context (with_map map inst) old new added in
      record {
        runs = runs;
        built = record { sound = parts.sound; windows = parts.windows; fields = parts.fields; constants = parts.constants built.constants };
        lasts = parts.lasts;
        records = added.records;
        named = added.named ∙ ap (λ k. named_by k (named_of old)) (constant_given map inst);
        labels = keeps.0;
        places = keeps.1;
      }

-- ---- an island, where one is needed

pub gap_leads : (distance : ℕ) (old new : Buffer) (made : Bool) → IslandIfNeeded distance old new made → IsBuilt old → GapLeads old new
gap_leads distance old new made put built =
    let gap : (flags : IsaFlags) → GapPut flags old new = λ flags. gap_put flags distance old new made built.sound built.windows built.fields put in
    let some = gap no_flags in
    record {
      leads = λ context f site lasts code. (gap_stands site f code.bytes code.finished code.keeps code.place code.records code.fields code.filled (length (bytes_of old)) (length (bytes_of new)) (even_length label_kinds old built.sound) (gap_last (length (bytes_of old)) (length (bytes_of new)) (gap site.context.flags).gap lasts)).leads;
      built = record { sound = some.sound; windows = some.windows; fields = some.fields; constants = some.constants built.constants };
      lasts = some.lasts;
    }

-- ---- the first buffer

pub empty_built : (b : Buffer) → bytes_of b ≡ [] → uses_of b ≡ [] → records_of b ≡ [] → constants_of b ≡ [] → IsSoundBuffer b → IsBuilt b
empty_built b bytes uses records constants sound = record {
  sound = sound;
  windows = subst (λ (bs : List ℕ). AreWindows label_kinds bs (uses_of b)) (sym bytes)
      (subst (λ (us : List (Use LabelUse)). AreWindows label_kinds [] us) (sym uses) windows_none);
  fields = record { ends = λ k r h. absurd (each_none (λ r. ⊥) k r (sym (ap (λ rs. slice_get rs k) records) ∙ h)); clear = λ j u h. absurd (each_none (λ u. ⊥) j u (sym (ap (λ us. slice_get us j) uses) ∙ h)) };
  constants = λ j c h. absurd (each_none (λ c. ⊥) j c (sym (ap (λ cs. slice_get cs j) constants) ∙ h));
}
