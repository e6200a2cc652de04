-- What the crates above cite of this one's proofs: laws about its definitions, by subject.
use Rattle.rv_asm.proofs.LinesJoin.{same_itself}
use Rattle.rv_asm.proofs.Words.{[], Addresses, ap, arith, At, AtReturn, AtStart, below, Bind, binds, Bool, broken_from, byte, calls_in, Code, cond, Context, context_of, core, effect_from, effect_of, EmitError, end_of, Entry, entry_point, environment_of, Err, exit_from, exit_of, false, Finds}
use Rattle.rv_asm.proofs.Words.{fits_most, from_of, if◌then◌else◌, inst_size, Int, int_reg, is_bound, is_unfit, IsGapOf, IsReal, IsSpan, iter_after, iter_none, Job, label_start, le-ltb, Leads, length, Line, line_size, lines_sum, LineSpan, List, list_any, lit<, lit≤, load_result, lt-leb, maps_in, Memory}
use Rattle.rv_asm.proofs.Words.{nat_tests, None, Option, patches_in, Point, Put, Real, records_from, refl, Reg, RegClass, relocs_in, SameBut, size_limit, size_sum, slice_get, slice_index, Some, start_of, store, store_bytes, subst, suc, temporaries_from, temporaries_of, to_of, traps_in, tries_in}
use Rattle.rv_asm.proofs.Words.{twice_from, unbound_in, unwinds_in, unwrap_or, Values, Virtual, wrap, zero, ℕ, ◌*◌, ◌+◌, ◌<◌, ◌==◌, ◌^◌, ◌||◌, ◌∙◌, ◌∷◌, ◌≡◌, ◌≢◌, ◌≤◌}
use Rattle.{rv_asm.specs.FineLines.{AreFine, AreSilent, FineLinesAccepted, IsOutOfMemory, OnlyMemoryLeft, SilentLinesUnrecorded, StackLoadsFine, StackStoresFine}, rv_asm.specs.LineRuns.{EntryIsFirstLine, LinesRun, NothingRuns, RunsCompose}, rv_asm.specs.Refusal.{lines_refusal, refusal}}
use Rattle.{rv_asm.specs.ShortSpans.{IsShort, SpansAreShort}, rv_asm.specs.StoredNumbers.{ElsewhereUnchanged, SameAreLoadedAlike, StoredIsLoaded}, rv_base.specs.declared.regs.PReg.PReg, rv_inst.specs.Rules.every_rule, rv_inst.specs.declared.error.Rule.TheVariants.{Range, Reserved}}
use Rattle.{rv_machine.specs.declared.ops.LoadOp.TheVariants.Ld, rv_machine.specs.declared.ops.StoreOp.TheVariants.Sd, std.proofs.Common.eq-eqb, std.proofs.Math.Bridge.le_prop, std.specs.Cmp.{nat_cmp_total, unsigned_tied}, std.specs.FinMap.get-insert}
use Rattle.rv_inst.specs.declared.error.EmitError.TheVariants as emit
use Rattle.std.specs.FinMap as map

pub entry_is_first_line : EntryIsFirstLine
entry_is_first_line job code base symbols slots s reported placed is_state start =
    let pc : s.pc ≡ wrap (base + start_of code.lines 0) = omega (arith, is_state.pc, reported.first) in
    record { pc = pc; state = is_state; placed = placed }

-- from a line's start no other line is entered than that one
record Known (job : Job) (code : Code) (base : ℕ) (symbols slots : Addresses) (i : ℕ) (line : Line) (v : Values) (q : Point) (w : Values) : Type 0 where
  leads : Leads job.lines code i (exit_of (environment_of job code base symbols slots i) line v) q
  same : SameBut (temporaries_of line) (effect_of (environment_of job code base symbols slots i) line v) w

of_entry : (job : Job) (code : Code) (base : ℕ) (symbols slots : Addresses) (i j : ℕ) (line other : Line) (v : Values) (q : Point) (w : Values) (entry : Entry) → At i ≡ entry_point entry j → slice_get job.lines i ≡ Some line → slice_get job.lines j ≡ Some other →
    Leads job.lines code j (exit_from entry (environment_of job code base symbols slots j) other v) q → SameBut (temporaries_from entry other) (effect_from entry (environment_of job code base symbols slots j) other v) w → Known job code base symbols slots i line v q w
of_entry job code base symbols slots i j line other v q w AtStart here listed there leads made =
    let at_index : j ≡ i = cc in
    let moved : slice_get job.lines j ≡ slice_get job.lines i = ap (slice_get job.lines) at_index in
    let is_line : other ≡ line = cc in
    subst (λ x. Known job code base symbols slots i x v q w) is_line (subst (λ k. Known job code base symbols slots k other v q w) at_index (record { leads = leads; same = made }))
of_entry job code base symbols slots i j line other v q w AtReturn here listed there leads made = absurd (cc)

pub lines_run : LinesRun
lines_run job code base symbols slots i line s runs listed core outside at =
    let c = runs.from base symbols slots i line s s.values listed core outside at.placed at.state at.state.values at.pc (same_itself s.values) in
    let one = c.line in
    let known = of_entry job code base symbols slots i one.index line one.line s.values c.point c.values one.entry one.at listed one.listed one.leads one.effect in
    record {
      point = c.point;
      state = c.state;
      reached = record { steps = c.steps; ran = c.ran; stands = record { pc = c.stands; state = c.is_state; placed = c.placed } };
      leads = known.leads;
      same = record { regs = λ n low free. known.same.regs n low free ∙ c.same.regs n low; mem = λ a. known.same.mem a ∙ c.same.mem a };
      stopped = c.stopped;
    }

pub nothing_runs : NothingRuns
nothing_runs flags code base symbols slots p s at = record { steps = 0; ran = iter_none flags s; stands = at }

pub runs_compose : RunsCompose
runs_compose flags code base symbols slots p q s t u first second = record { steps = second.steps + first.steps; ran = iter_after flags second.steps first.steps s t u first.ran second.ran; stands = second.stands }

-- ==== What a store leaves in the machine's memory.

-- ---- bytes

byte_put : (mem : Memory) (at b : ℕ) → byte (map.insert mem at b) at ≡ b
byte_put mem at b = ap (λ o. unwrap_or o 0) (get-insert nat_cmp_total mem at b at ∙ ap (λ c. cond c (Some b) (map.get mem at)) (unsigned_tied at at ∙ eq-eqb at at refl))

byte_other : (mem : Memory) (at b a : ℕ) → a ≢ at → byte (map.insert mem at b) a ≡ byte mem a
byte_other mem at b a other =
    let apart : (a == at) ≡ false = grind (arith, nat_tests) in
    ap (λ o. unwrap_or o 0) (get-insert nat_cmp_total mem at b a ∙ ap (λ c. cond c (Some b) (map.get mem a)) (unsigned_tied a at ∙ apart))

-- bytes that are put elsewhere change none
pub elsewhere_unchanged : ElsewhereUnchanged
elsewhere_unchanged mem at a [] fits apart = refl
elsewhere_unchanged mem at a (b ∷ bs) fits apart =
    elsewhere_unchanged (map.insert mem at b) (wrap (at + 1)) a bs (omega arith) (λ k below e. apart (suc k) (omega arith) (e ∙ omega arith)) ∙ byte_other mem at b a (λ e. apart 0 (omega arith) (e ∙ omega arith))

-- bytes stand where they were put
byte_there : (mem : Memory) (at k : ℕ) (bs : List ℕ) → at < 2 ^ 64 → length bs < 2 ^ 64 → k < length bs → byte (store mem at bs) (wrap (at + k)) ≡ slice_index bs k
byte_there mem at k [] fits few below = absurd (omega arith)
byte_there mem at zero (b ∷ bs) fits few below =
    grind (arith, elsewhere_unchanged (map.insert mem at b) (wrap (at + 1)) at bs (omega arith) (λ j below e. absurd (omega arith)), byte_put mem at b)
byte_there mem at (suc k) (b ∷ bs) fits few below =
    let moved : wrap (at + suc k) ≡ wrap (wrap (at + 1) + k) = omega arith in
    grind (arith, byte_there (map.insert mem at b) (wrap (at + 1)) k bs (omega arith) (omega arith) (omega arith))

-- ---- eight bytes as one number

-- eight bytes are loaded alike from memories that have the same ones there
pub same_are_loaded_alike : SameAreLoadedAlike
same_are_loaded_alike m n a same =
    omega (arith, same 0 (lit< tt), same 1 (lit< tt), same 2 (lit< tt), same 3 (lit< tt), same 4 (lit< tt), same 5 (lit< tt), same 6 (lit< tt), same 7 (lit< tt))

-- a number of 64 bits that was stored somewhere is loaded from there
pub stored_is_loaded : StoredIsLoaded
stored_is_loaded mem a x fits small =
    of_bytes (store mem a (store_bytes Sd x)) (λ k below. byte_there mem a k (store_bytes Sd x) fits (lit< tt) below)
  where
    of_bytes : (m : Memory) → ((k : ℕ) → k < 8 → byte m (wrap (a + k)) ≡ slice_index (store_bytes Sd x) k) → load_result Ld m a ≡ x
    of_bytes m there =
        omega (arith, there 0 (lit< tt), there 1 (lit< tt), there 2 (lit< tt), there 3 (lit< tt), there 4 (lit< tt), there 5 (lit< tt), there 6 (lit< tt), there 7 (lit< tt))

-- ==== An integer register is the one that specs name by its number.

from_fields : (p : PReg) (number : ℕ) (in_file : number < 32) → p.class ≡ Int → p.number ≡ number → Real p ≡ int_reg number in_file
from_fields p number in_file class same =
    let at_class : RegClass → Type 0 = λ c. (h : number < 32) → Real p ≡ Real (record { class = c; number = number; in_file = h }) in
    subst at_class class (subst (λ n. (h : n < 32) → Real p ≡ Real (record { class = p.class; number = n; in_file = h })) same (λ h. ap (λ x. Real (record { class = p.class; number = p.number; in_file = x })) (le_prop p.in_file h))) in_file

pub register_is : (r : Reg) (number : ℕ) (in_file : number < 32) → IsReal r Int number → r ≡ int_reg number in_file
register_is (Real p) number in_file is = from_fields p number in_file is.0 is.1
register_is (Virtual class index) number in_file is = absurd is

-- ==== The span of a line is at most as long as lines of its kind may be, an island in it apart.

line_short : (context : Context) (bytes : List ℕ) (line : Line) (start from to end : ℕ) → IsSpan context bytes line start from to end → IsShort context line start end
line_short context bytes (Put inst) start from to end long = λ none.
    let gap : from ≡ to = subst (λ r. IsGapOf context.flags bytes r from to) none long.gap in
    omega (arith, gap, long.first, long.last, fits_most (inst_size context inst) _ long.size)
line_short context bytes (Bind label) start from to end long = long.0

pub spans_are_short : SpansAreShort
spans_are_short job code r i line e = line_short (context_of job) code.bytes line (start_of code.lines i) (from_of r.gaps i) (to_of r.gaps i) (end_of code.lines i) (r.long i line e)

-- ==== Lines for which a job is refused for no cause, and lines that leave nothing to fill.

-- ---- a job of fine lines

-- fine lines can restore the frame, break no rule, bind no label, name none, and count for few bytes
record HaveNoFault (context : Context) (index : ℕ) (bound known : ℕ → Bool) (lines : List Line) : Type 0 where
  fit : list_any (is_unfit context.frame) lines ≡ false
  unbroken : broken_from context index lines ≡ None
  once : twice_from bound lines ≡ None
  known_all : unbound_in known lines ≡ None
  few : lines_sum context lines ≤ line_size * length lines

no_fault : (context : Context) (index : ℕ) (bound known : ℕ → Bool) (lines : List Line) → AreFine context lines → HaveNoFault context index bound known lines
no_fault context index bound known [] f = record { fit = refl; unbroken = refl; once = refl; known_all = refl; few = lit≤ tt }
no_fault context index bound known (line ∷ lines) f =
    let rest = no_fault context (suc index) (λ label. binds line label || bound label) known lines f.1 in
    record {
      fit = λ i. f.0.fit i || rest.fit i;
      unbroken = rw (f.0.rule) rest.unbroken;
      once = rw (f.0.binds_none bound) rest.once;
      known_all = rw (f.0.names_none) rest.known_all;
      few = omega (arith, f.0.size, rest.few);
    }

pub fine_lines_accepted : FineLinesAccepted
unfolding refusal lines_refusal
fine_lines_accepted job frame f few =
    let none = no_fault (context_of job) 0 (λ label. false) (is_bound job.lines) job.lines f in
    rw (frame, none.fit, none.unbroken, none.once, none.known_all) (ap (λ b. if b then Some emit.TooLarge else None) (le-ltb size_limit (size_sum (context_of job) job.lines) (omega (arith, none.few, few))))

only_memory : (found : Option EmitError) (error : EmitError) → found ≡ None → Finds {X = Code} found (Err error) → IsOutOfMemory error
only_memory found emit.OutOfMemory none f = tt
only_memory found error none f = absurd (cc)

pub only_memory_left : OnlyMemoryLeft
only_memory_left job error none f = only_memory _ error none f

-- ---- records

no_records : (context : Context) (spans : List LineSpan) (index : ℕ) (lines : List Line) → AreSilent context lines → records_from context spans index lines ≡ []
no_records context spans index [] f = refl
no_records context spans index (line ∷ lines) f = rw (f.0 (start_of spans index) (end_of spans index)) (no_records context spans (suc index) lines f.1)

pub silent_lines_unrecorded : SilentLinesUnrecorded
silent_lines_unrecorded job code reported f =
    let none = no_records (context_of job) code.lines 0 job.lines f in
    record {
      relocs = reported.relocs ∙ ap relocs_in none;
      traps = reported.traps ∙ ap traps_in none;
      call_sites = reported.call_sites ∙ ap calls_in none;
      try_call_sites = reported.try_call_sites ∙ ap (tries_in (label_start code.lines job.lines)) none;
      patchable_call_sites = reported.patchable_call_sites ∙ ap patches_in none;
      stack_maps = reported.stack_maps ∙ ap maps_in none;
      unwinds = reported.unwinds ∙ ap unwinds_in none;
    }

-- ---- loads and stores at distances from the stack pointer

pub stack_loads_fine : StackLoadsFine
unfolding every_rule
stack_loads_fine context flags n in_file distance low near = record { rule = λ j. if (lt-leb 30 n low j || false) then Some Reserved else if near j then Some Range else None; fit = refl; binds_none = λ bound. refl; names_none = refl; size = lit≤ tt }

pub stack_stores_fine : StackStoresFine
unfolding every_rule
stack_stores_fine context flags n in_file distance low near = record { rule = λ j. if (lt-leb 30 n low j || false) then Some Reserved else if near j then Some Range else None; fit = refl; binds_none = λ bound. refl; names_none = refl; size = lit≤ tt }
