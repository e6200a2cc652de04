-- The numbers of finished code are those of their types.
use Rattle.{mach_records.{specs.Ranges.{StepRanged, UnwindRanged}, specs.declared.records.MachUnwind.MachUnwind}, rv_asm.{proofs.LabelNames.low_label, proofs.RefusalOrder.{constants_few, no_rule_broken}}}
use Rattle.rv_asm.proofs.Words.{[], AllByRecursion, arith, Bind, binds_from, broken_rule, CallFits, CallReturn, Code, CodeFits, Constant, ConstFits, ConstPlace, Context, HasConstants, inner_count, IsaFlags, IsFinished, LabelFits, length, Line, line_returns, LineSpan}
use Rattle.rv_asm.proofs.Words.{List, MapFits, None, Option, PatchFits, Put, refl, registered_of, RelocFits, Return, return_from, return_of, ReturnFits, ReturnsWithin, SavesReal, slice_get, slice_get_within, Some, SpanFits, start_of, StepSaves, subst, suc, sym, TrapFits}
use Rattle.{rv_asm.{proofs.Words.{TryFits, UnwindFits, zero, ℕ, ◌<◌, ◌^◌, ◌∙◌, ◌∷◌, ◌≡◌, ◌≤◌}, specs.Refusal.lines_refusal}, rv_base.{specs.declared.unwind.UnwindInst.UnwindInst, specs.declared.unwind.UnwindInst.TheVariants.SaveReg}, rv_listing.specs.CodeRanges.StepFits}

return_fits : (i start end : ℕ) (r : Option Return) → i < 2 ^ 64 → end < 2 ^ 32 → AllByRecursion (λ (r : CallReturn). r.offset ≤ end) (return_from i start r) → AllByRecursion ReturnFits (return_from i start r)
return_fits i start end None index small within = tt
return_fits i start end (Some r) index small within = (record { index = index; offset = omega (arith, within.0, small) }, tt)

-- where the call of a line returns, which is within its span
pub returns_fit : (flags : IsaFlags) (line : Line) (span : LineSpan) → SpanFits span → ReturnsWithin flags line span → AllByRecursion ReturnFits (line_returns flags span.index span.start line)
returns_fit flags (Put inst) span fits within = return_fits span.index span.start span.end (return_of flags inst) fits.index fits.end within
returns_fit flags (Bind label) span fits within = tt

start_fits : (spans : List LineSpan) (i : ℕ) → AllByRecursion SpanFits spans → start_of spans i < 2 ^ 32
start_fits [] i fit = omega arith
start_fits (s ∷ spans) zero fit = fit.0.start
start_fits (s ∷ spans) (suc i) fit = start_fits spans i fit.1

-- binds' labels, which are among the lowest, and stand where lines start
binds_fit : (context : Context) (spans : List LineSpan) (i : ℕ) (lines : List Line) → AllByRecursion SpanFits spans → ((k : ℕ) (line : Line) → slice_get lines k ≡ Some line → broken_rule context line ≡ None) → AllByRecursion LabelFits (binds_from spans i lines)
binds_fit context spans i [] fit ruled = tt
binds_fit context spans i (Put inst ∷ lines) fit ruled = binds_fit context spans (suc i) lines fit (λ k. ruled (suc k))
binds_fit context spans i (Bind label ∷ lines) fit ruled =
    (record { label = let low = low_label context label (ruled 0 (Bind label) refl) in omega (arith, low); offset = start_fits spans i fit }, binds_fit context spans (suc i) lines fit (λ k. ruled (suc k)))

all_of_each : {X : Type 0} (P : X → Type 0) (xs : List X) → ((i : ℕ) (x : X) → slice_get xs i ≡ Some x → P x) → AllByRecursion P xs
all_of_each P [] each = tt
all_of_each P (x ∷ xs) each = (each 0 x refl, all_of_each P xs (λ i. each (suc i)))

-- constants stand within the code, which is short, and are few
constants_fit : (registered : List Constant) (bytes : List ℕ) (constants : List ConstPlace) → length registered ≤ inner_count → length bytes < 2 ^ 32 → HasConstants registered bytes constants → AllByRecursion ConstFits constants
constants_fit registered bytes constants few small has =
    all_of_each ConstFits constants (λ j c there. let k = has j c there in record { constant = let lt = slice_get_within registered c.constant.number k.constant k.there in omega (arith, lt, few); offset = omega (arith, k.inside, small) })

step_fits : (inst : UnwindInst) → StepSaves inst → StepRanged inst → StepFits inst
step_fits (SaveReg above reg) saves ranged = (ranged, saves)
step_fits inst saves ranged = ranged

-- steps that save the machine's registers
unwinds_fit : (us : List MachUnwind) → AllByRecursion SavesReal us → AllByRecursion UnwindRanged us → AllByRecursion UnwindFits us
unwinds_fit [] saves ranged = tt
unwinds_fit (u ∷ us) saves ranged = (record { offset = ranged.0.offset; step = step_fits u.inst saves.0 ranged.0.step }, unwinds_fit us saves.1 ranged.1)

pub code_fits : (context : Context) (lines : List Line) (code : Code) → lines_refusal context lines ≡ None → IsFinished context lines code → AllByRecursion SavesReal code.unwinds → CodeFits code
code_fits context lines code e f saves =
    let fit = f.records_fit in
    let few = subst (λ (cs : List Constant). length cs ≤ inner_count) (sym f.built.registered) (constants_few context lines e) in
    record {
      bytes = f.bytes_fit;
      lines = f.spans_fit;
      returns = f.returns_fit;
      labels = subst (AllByRecursion LabelFits) (sym (f.labels ∙ f.named.labels)) (binds_fit context code.lines 0 lines f.spans_fit (no_rule_broken context lines e));
      constants = subst (AllByRecursion ConstFits) (sym f.constants) (constants_fit (registered_of f.sink) code.bytes _ few code.small f.finished.constants);
      relocs = subst (AllByRecursion RelocFits) (sym f.relocs) fit.relocs;
      traps = subst (AllByRecursion TrapFits) (sym f.traps) fit.traps;
      call_sites = subst (AllByRecursion CallFits) (sym f.call_sites) fit.call_sites;
      try_call_sites = subst (AllByRecursion TryFits) (sym f.try_call_sites) fit.try_call_sites;
      patchable_call_sites = subst (AllByRecursion PatchFits) (sym f.patchable_call_sites) fit.patchable_call_sites;
      stack_maps = subst (AllByRecursion MapFits) (sym f.stack_maps) fit.stack_maps;
      unwinds = unwinds_fit code.unwinds saves (subst (AllByRecursion UnwindRanged) (sym f.unwinds) fit.unwinds);
      «end» = let longer = f.finished.grows.longer in let long = f.finished.same_length in omega (arith, f.end, longer, long, code.small);
    }
