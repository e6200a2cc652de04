-- What is collected of records, and then of one more.
use Rattle.std.proofs.Common.{◌≡◌, ◌∙◌, ℕ, ◌+◌, ◌<◌, List, [], ◌∷◌, ◌++◌, length, get_or, take, Option, refl, ap, sym}
use Rattle.std.proofs.lemmas.Grind.{flat_map-append}
use Rattle.std.proofs.lemmas.List.{take_more}
use Rattle.mach_records.specs.declared.records.Event.{Event}
use Rattle.mach_records.specs.declared.records.Event.TheVariants.{Trap, Reloc, Unwind, CallSite, TryCallSite, PatchableCallSite, StackMap}
use Rattle.mach_records.specs.declared.records.MachRecord.{MachRecord}
use Rattle.mach_records.specs.declared.records.Recorded.{Recorded}
use Rattle.mach_records.specs.Collected.{both, reported}
use Rattle.mach_records.specs.Ranges.{RecordedFits}
use Rattle.mach_records.specs.Records.{by_kind}
use Rattle.mach_records.proofs.Ranges.{all_both}

alone : (place : ℕ → Option ℕ) (offset : ℕ) (event : Event) → let r : MachRecord = record { offset = offset; event = event } in by_kind place (r ∷ []) ≡ reported place r
alone place offset (Trap code) = refl
alone place offset (Reloc kind target addend) = refl
alone place offset (Unwind inst) = refl
alone place offset CallSite = refl
alone place offset (TryCallSite frame handlers) = refl
alone place offset (PatchableCallSite len) = refl
alone place offset (StackMap span map) = refl

apart : (place : ℕ → Option ℕ) (rs more : List MachRecord) → by_kind place (rs ++ more) ≡ both (by_kind place rs) (by_kind place more)
apart place rs more = simp flat_map-append refl

pub one_more : (place : ℕ → Option ℕ) (records : List MachRecord) (i : ℕ) (r : MachRecord) → i < length records → r ≡ get_or records i r → by_kind place (take (i + 1) records) ≡ both (by_kind place (take i records)) (reported place r)
one_more place records i r lt at =
    ap (by_kind place) (take_more records i r lt ∙ ap (λ x. take i records ++ x ∷ []) (sym at)) ∙
    (apart place (take i records) (r ∷ []) ∙ ap (both (by_kind place (take i records))) (alone place r.offset r.event))

pub both_fit : (a b : Recorded) → RecordedFits a → RecordedFits b → RecordedFits (both a b)
both_fit a b f g = record {
  relocs = all_both _ _ _ f.relocs g.relocs;
  traps = all_both _ _ _ f.traps g.traps;
  call_sites = all_both _ _ _ f.call_sites g.call_sites;
  try_call_sites = all_both _ _ _ f.try_call_sites g.try_call_sites;
  patchable_call_sites = all_both _ _ _ f.patchable_call_sites g.patchable_call_sites;
  stack_maps = all_both _ _ _ f.stack_maps g.stack_maps;
  unwinds = all_both _ _ _ f.unwinds g.unwinds;
}
