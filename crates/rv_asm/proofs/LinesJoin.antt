-- The join of lines: code in which each line stands and leads on runs as its job says, on the integer core and on the machine with all units.
use Rattle.{rv_asm.proofs.Images.{from_long, placed_again, placed_at}, rv_asm.proofs.LinesInBuffer.found_from, rv_asm.proofs.RefusalOrder.{AllBound, bind_at, exit_bound, ExitBound, return_bound}, rv_asm.proofs.Spans.line_at}
use Rattle.rv_asm.proofs.Words.{[], address_of, address_of_name, Addresses, Answer, ap, append_assoc, AreOutside, AreValues, arith, At, AtReturn, AtStart, Bind, binding_line, Bool, Break, broken_rule, but_then_same, bytes_from, cases_lt, Code, code_limit, Comes, ComesOut, context_of}
use Rattle.rv_asm.proofs.Words.{Data, effect_from, effect_of, EmitVState, End, end_of, EndsAsMeant, Enters, Entry, entry_point, Environment, environment, environment_at, environment_of, Exit, exit_from, exit_of, false, field_size, first_constant, fiter, fiter_after, fiter_none, FrameLayout}
use Rattle.rv_asm.proofs.Words.{FullEnds, FullMeaning, FullRuns, FullState, FullValues, FullyAsks, if◌then◌else◌, InData, inl, inr, Inst, inst_exit, inst_full_resumes, inst_full_runs, inst_meaning, inst_resumes, inst_runs, inst_temporaries, integer_run, is_bound, is_stuck, IsaFlags, IsBack, IsEntry}
use Rattle.rv_asm.proofs.Words.{IsExit, IsOn, IsPlaced, IsPlacedAt, IsRecorded, IsState, IsStopped, IsTrapAt, iter, iter_after, iter_none, Job, Leads, LeadsOn, Leave, length, Line, LineAt, Lines, List, lit≤, ltb-false, ltb-true, MachLabel, MachRecord, MachReloc, meaning_agrees, meaning_of}
use Rattle.rv_asm.proofs.Words.{MeansSame, Memory, named_labels, nat_lt, Next, next_point, None, offset_in, OneFullLine, Option, Out, Overwrites, parts_of, PartsStand, Placing, Point, Put, put, Reached, refl, resumed_by, Resumes, Return, return_at, return_exit, return_of, Returned, returns_from}
use Rattle.rv_asm.proofs.Words.{RunsAsListed, RunsOn, Same, same_but, same_Some, SameBut, Site, slice_get, slice_get_within, Some, StandsAt, start_of, State, Stop, Stops, subst, suc, sym, temporaries_from, temporaries_of, To, Trap, TrapCode, Trapped, true, try_call_of, try_exit, unwrap_or, Values}
use Rattle.{rv_asm.proofs.Words.{wrap, writes_of, WritesOutside, zero, ℕ, ⊎_elim, ◌%◌, ◌*◌, ◌++◌, ◌+◌, ◌<◌, ◌∙◌, ◌∷◌, ◌≡◌, ◌≤◌, ◌⊎◌}, rv_full.specs.Vectors.is_legal, rv_inst.proofs.Meaning.{effect_agrees, exit_agrees, writes_agree}, rv_inst.specs.Core.{is_integer, is_integer_in, is_integer_line}}
use Rattle.{rv_inst.specs.Environments.{AgreeOn, SameLabels}, rv_runs.specs.FullInstRuns.WritesElsewhere, std.proofs.lemmas.List.{length-append, take_at}, std.proofs.Common.{drop, take, take-append-drop}}
use Rattle.mach_records.specs.declared.records.Event.TheVariants as event
use Rattle.rv_inst.specs.declared.inst.Inst.TheVariants.{Call, CallInd}

pub same_itself : (v : Values) → Same v v
same_itself v = record { regs = λ n lt. refl; mem = λ a. refl }

-- ==== The join of lines: where the parts of each line stand in the code, and what stands between two lines leads on, the code runs as its
-- job says. Nothing here knows a buffer.

-- what a buffer knows of the code of a job beside what the code says: the places of labels, and the records in their order
pub record Known : Type 0 where
  pub place : ℕ → Option ℕ
  pub records : List MachRecord

-- the code of a job, where it stands in a memory at a base
abbrev pub site_of : Job → Code → Known → ℕ → Addresses → Addresses → Memory → Site
site_of job code known base symbols slots mem = record { context = context_of job; base = base; bytes = bytes_from mem base (length code.bytes); place = known.place; records = known.records; symbol = λ number. unwrap_or (address_of_name symbols number) 0; slot = λ number. unwrap_or (address_of_name slots number) 0 }

-- where a label of the listing stands
abbrev pub label_place : List Line → Code → ℕ → ℕ
label_place lines code label = start_of code.lines (binding_line lines label)

-- the parts of an instruction stand in the code between two offsets
pub record InstIn (site : Site) (inst : Inst) (start after : ℕ) : Type 0 where
  pub setting : EmitVState
  pub even : start % 2 ≡ 0
  pub within : after ≤ length site.bytes
  pub stands : PartsStand site start after (parts_of site.context setting inst)

abbrev pub LineIn : Site → Line → ℕ → ℕ → Type 0
LineIn site (Put inst) start after = InstIn site inst start after
LineIn site (Bind label) start after = start ≡ after

-- each line stands in the code, keeps the rules, can take the frame away where it has to, and names labels that are bound; what
-- stands after it leads to the next one; the last line ends the code; calls return where the code says; and labels stand where
-- they are bound, and constants at their offsets
pub record IsThreaded (job : Job) (code : Code) (known : Known) : Type 0 where
  pub line : (base : ℕ) (symbols slots : Addresses) (mem : Memory) → IsPlaced code base symbols slots mem → (i : ℕ) (line : Line) → slice_get job.lines i ≡ Some line → LineIn (site_of job code known base symbols slots mem) line (start_of code.lines i) (end_of code.lines i)
  pub ruled : (i : ℕ) (line : Line) → slice_get job.lines i ≡ Some line → broken_rule (context_of job) line ≡ None
  pub fit : (i : ℕ) (line : Line) → slice_get job.lines i ≡ Some line → is_stuck job.frame line ≡ false
  pub named : (i : ℕ) (line : Line) → slice_get job.lines i ≡ Some line → AllBound job.lines (named_labels line)
  pub gap : (base : ℕ) (symbols slots : Addresses) (mem : Memory) → IsPlaced code base symbols slots mem → (i : ℕ) → suc i < length job.lines → LeadsOn (site_of job code known base symbols slots mem) (end_of code.lines i) (start_of code.lines (suc i))
  pub last : (i : ℕ) → suc i ≡ length job.lines → code.end ≡ end_of code.lines i
  pub returns : code.returns ≡ returns_from job.flags code.lines 0 job.lines
  pub bound : (label : ℕ) → is_bound job.lines label ≡ true → known.place label ≡ Some (label_place job.lines code label)
  pub constants : (number : ℕ) → known.place (first_constant + number) ≡ offset_in code.constants number
  pub traps : (at : ℕ) (cause : TrapCode) → IsRecorded known.records at (event.Trap cause) → IsTrapAt code.traps at cause
  pub short : length code.bytes < code_limit
  pub placed : (label at : ℕ) → known.place label ≡ Some at → at ≤ length code.bytes
  pub fields : (j : ℕ) (r : MachReloc) → slice_get code.relocs j ≡ Some r → r.offset + field_size r.kind ≤ length code.bytes

-- ---- one line

-- labels stand within the code
labels_within : (job : Job) (code : Code) (known : Known) → IsThreaded job code known → (mem : Memory) (base label at : ℕ) → known.place label ≡ Some at → at ≤ length (bytes_from mem base (length code.bytes))
labels_within job code known t mem base label at h = subst (λ n. at ≤ n) (sym (from_long mem base (length code.bytes))) (t.placed label at h)

-- with these values the machine has come to a line, in code that is placed
module _ (job : Job) (code : Code) (known : Known) (t : IsThreaded job code known) (base : ℕ) (symbols slots : Addresses) (i : ℕ) (s : State) (v : Values)
    (placed : IsPlaced code base symbols slots s.values.mem) (is_state : IsState s) (are_values : AreValues v) (same : Same v s.values) where
  abbrev here : Site
  here = site_of job code known base symbols slots s.values.mem

  short : length here.bytes < code_limit
  short = subst (λ n. n < code_limit) (sym (from_long s.values.mem base (length code.bytes))) t.short

  still : IsPlacedAt here s.values.mem
  still = placed_at code base symbols slots s.values.mem (context_of job) known.place known.records placed

  abbrev stood : (inst : Inst) → slice_get job.lines i ≡ Some (Put inst) → InstIn here inst (start_of code.lines i) (end_of code.lines i)
  stood inst e = t.line base symbols slots s.values.mem placed i (Put inst) e

  -- at its start
  pub enters : (inst : Inst) (e : slice_get job.lines i ≡ Some (Put inst)) → s.pc ≡ address_of code base (At i) → Enters here (start_of code.lines i) (end_of code.lines i) (parts_of here.context (stood inst e).setting inst) s v
  enters inst e pc = record { even = (stood inst e).even; within = (stood inst e).within; short = short; labels = labels_within job code known t s.values.mem base; stands = (stood inst e).stands; placed = still; pc = pc; is_state = is_state; are_values = are_values; same = same }

  -- where its call returns
  pub enters_back : (inst : Inst) (r : Return) (e : slice_get job.lines i ≡ Some (Put inst)) → return_of job.flags inst ≡ Some r → s.pc ≡ address_of code base (Returned i) →
      Resumes here (start_of code.lines i) (end_of code.lines i) (start_of code.lines i + r.offset) (parts_of here.context (stood inst e).setting inst) s v
  enters_back inst r e is pc = let back : return_at code.returns i ≡ start_of code.lines i + r.offset = grind (arith, t.returns, found_from job.flags code.lines 0 i job.lines inst r e is) in record {
    even = (stood inst e).even;
    within = (stood inst e).within;
    short = short;
    stands = (stood inst e).stands;
    placed = still;
    pc = pc ∙ ap (λ n. wrap (base + n)) back;
    is_state = is_state;
    are_values = are_values;
    same = same;
  }

  -- a bind takes no step
  pub passes : (label : MachLabel) → slice_get job.lines i ≡ Some (Bind label) → s.pc ≡ address_of code base (At i) → ComesOut here (start_of code.lines i) (end_of code.lines i) Next [] v s
  passes label e pc = record {
    steps = 0;
    state = s;
    moved = lit≤ tt;
    ran = iter_none job.flags s;
    arrives = pc ∙ ap (λ n. wrap (base + n)) (t.line base symbols slots s.values.mem placed i (Bind label) e);
    same = same_but [] same;
    is_state = is_state;
    are_values = are_values;
    placed = still;
  }

  abbrev read_among : Environment
  read_among = environment here (start_of code.lines i) (end_of code.lines i)

  -- a line of the integer core runs as it means
  pub core_comes : (line : Line) → slice_get job.lines i ≡ Some line → is_integer_line job.frame line ≡ true → AreOutside base (length code.bytes) (writes_of read_among line v) → s.pc ≡ address_of code base (At i) →
      ComesOut here (start_of code.lines i) (end_of code.lines i) (exit_of read_among line v) (temporaries_of line) (effect_of read_among line v) s
  core_comes (Put inst) e core outside pc =
      (inst_runs here (stood inst e).setting inst core (t.ruled i (Put inst) e) (t.fit i (Put inst) e)).run _ _ s v (enters inst e pc) (subst (λ n. AreOutside base n (writes_of read_among (Put inst) v)) (sym (from_long s.values.mem base (length code.bytes))) outside)
  core_comes (Bind label) e core outside pc = passes label e pc

-- ---- where it leads

-- from line i the machine has come to a point, with values that are these but for some registers, and the code still stands
pub record LineReached (job : Job) (code : Code) (site : Site) (base i : ℕ) (p : Point) (free : List ℕ) (v : Values) (s : State) : Type 0 where
  pub steps : ℕ
  pub state : State
  pub ran : iter job.flags steps s ≡ Some state
  pub moved : IsBack i p → 1 ≤ steps
  pub stands : state.pc ≡ address_of code base p
  pub stopped : IsStopped job.flags p state
  pub same : SameBut free v state.values
  pub is_state : IsState state
  pub placed : IsPlacedAt site state.values.mem

module _ (job : Job) (code : Code) (known : Known) (t : IsThreaded job code known) (base : ℕ) (symbols slots : Addresses) (mem : Memory) (stood : IsPlaced code base symbols slots mem) (i : ℕ) (lt : i < length job.lines) (free : List ℕ) (v : Values) (s : State) where
  abbrev site : Site
  site = site_of job code known base symbols slots mem

  -- the line came out at an exit
  abbrev OutBy : Exit → Type 0
  OutBy x = ComesOut site (start_of code.lines i) (end_of code.lines i) x free v s

  -- and that is where a point is
  there : (x : Exit) (e : OutBy x) (p : Point) → (IsBack i p → 1 ≤ e.steps) → e.state.pc ≡ address_of code base p → IsStopped job.flags p e.state → LineReached job code site base i p free v s
  there x e p moved stands stopped = record { steps = e.steps; state = e.state; ran = e.ran; moved = moved; stands = stands; stopped = stopped; same = e.same; is_state = e.is_state; placed = e.placed }

  -- to the next line, or to the end
  goes_on : OutBy Next → (c : Bool) → nat_lt (suc i) (length job.lines) ≡ c → LineReached job code site base i (if c then At (suc i) else End) free v s
  goes_on e true h =
      let g = (t.gap base symbols slots mem stood i (ltb-true _ _ h)).run e.state e.state.values e.placed e.arrives e.is_state e.is_state.values (same_itself e.state.values) in
      record {
        steps = g.steps + e.steps;
        state = g.state;
        ran = iter_after job.flags g.steps e.steps s e.state g.state e.ran g.ran;
        moved = λ back. absurd (omega arith);
        stands = g.pc;
        stopped = tt;
        same = but_then_same e.same g.same;
        is_state = g.is_state;
        placed = subst (IsPlacedAt site) (sym g.kept) e.placed;
      }
  goes_on e false h =
      there Next e End (λ back. absurd back) (e.arrives ∙ ap (λ n. wrap (base + n)) (sym (t.last i (omega (arith, ltb-false _ _ h))))) tt

  -- where the exit leads, and that the machine has come there
  pub record Ends (x : Exit) : Type 0 where
    pub point : Point
    pub leads : Leads job.lines code i x point
    pub reached : LineReached job code site base i point free v s

  pub reaches : (x : Exit) → ExitBound job.lines x → OutBy x → Ends x
  reaches Next bound e = record { point = next_point job.lines i; leads = refl; reached = goes_on e (nat_lt (suc i) (length job.lines)) refl }
  reaches (To label) bound e = record {
    point = At (binding_line job.lines label);
    leads = refl;
    reached = there (To label) e (At (binding_line job.lines label)) (λ back. e.moved) (e.arrives.2 ∙ ap (λ n. wrap (base + n)) (same_Some e.arrives.0 (label_place job.lines code label) (sym e.arrives.1 ∙ t.bound label bound))) tt;
  }
  reaches (Leave a) bound e = record { point = Out a; leads = refl; reached = there (Leave a) e (Out a) (λ back. e.moved) e.arrives tt }
  reaches Break bound e = record { point = Stop i; leads = refl; reached = there Break e (Stop i) (λ back. absurd back) e.arrives.0 e.arrives.1 }
  reaches (Trap cause) bound e =
      let a = e.arrives in
      record { point = Trapped i a.0; leads = (a.0, refl, record { recorded = t.traps a.0 cause a.1; first = a.2; last = a.3 }); reached = there (Trap cause) e (Trapped i a.0) (λ back. absurd back) a.4 a.5 }
  reaches Data bound e = record { point = InData i; leads = refl; reached = there Data e (InData i) (λ back. absurd back) e.arrives tt }

-- the labels that a line names have the same addresses in the code as in the listing
same_labels : (job : Job) (code : Code) (known : Known) → IsThreaded job code known → (base : ℕ) (symbols slots : Addresses) (mem : Memory) (i : ℕ) (labels : List MachLabel) → AllBound job.lines labels → SameLabels labels (environment (site_of job code known base symbols slots mem) (start_of code.lines i) (end_of code.lines i)) (environment_of job code base symbols slots i)
same_labels job code known t base symbols slots mem i [] bound = tt
same_labels job code known t base symbols slots mem i (l ∷ labels) bound = (ap (λ at. wrap (base + unwrap_or at 0)) (t.bound l.number bound.0), same_labels job code known t base symbols slots mem i labels bound.1)

pub agrees : (job : Job) (code : Code) (known : Known) → IsThreaded job code known → (base : ℕ) (symbols slots : Addresses) (mem : Memory) (i : ℕ) (line : Line) → slice_get job.lines i ≡ Some line → AgreeOn (named_labels line) (environment (site_of job code known base symbols slots mem) (start_of code.lines i) (end_of code.lines i)) (environment_of job code base symbols slots i)
agrees job code known t base symbols slots mem i line e = record {
  start = refl;
  after = refl;
  flags = refl;
  frame = refl;
  labels_same = same_labels job code known t base symbols slots mem i (named_labels line) (t.named i line e);
  constants_same = λ number. ap (λ at. wrap (base + unwrap_or at 0)) (t.constants number);
  symbols_same = λ number. refl;
  slots_same = λ number. refl;
}

-- so one line has run, from where it was entered
came : (job : Job) (code : Code) (known : Known) → IsThreaded job code known → (base : ℕ) (symbols slots : Addresses) (i : ℕ) (line : Line) (entry : Entry) (s : State) (v : Values) → slice_get job.lines i ≡ Some line → is_integer_line job.frame line ≡ true →
    IsPlaced code base symbols slots s.values.mem → ExitBound job.lines (exit_from entry (environment_of job code base symbols slots i) line v) →
    ComesOut (site_of job code known base symbols slots s.values.mem) (start_of code.lines i) (end_of code.lines i) (exit_from entry (environment_of job code base symbols slots i) line v)
    (temporaries_from entry line) (effect_from entry (environment_of job code base symbols slots i) line v) s → Comes job code base symbols slots (entry_point entry i) v s
came job code known t base symbols slots i line entry s v e core placed bound out =
    let env = environment_of job code base symbols slots i in
    let ends = reaches job code known t base symbols slots s.values.mem placed i (slice_get_within job.lines i line e) (temporaries_from entry line) (effect_from entry env line v) s (exit_from entry env line v) bound out in
    let r = ends.reached in
    record {
      steps = r.steps;
      point = ends.point;
      values = r.state.values;
      state = r.state;
      line = record { index = i; line = line; entry = entry; at = refl; listed = e; core = core; leads = ends.leads; effect = r.same };
      ran = r.ran;
      moved = r.moved;
      stands = r.stands;
      stopped = r.stopped;
      same = same_itself r.state.values;
      is_state = r.is_state;
      are_values = r.is_state.values;
      placed = placed_again code base symbols slots s.values.mem (context_of job) known.place known.records r.state.values.mem r.placed t.fields placed;
    }

comes : (job : Job) (code : Code) (known : Known) → IsThreaded job code known → (base : ℕ) (symbols slots : Addresses) (i : ℕ) (line : Line) (s : State) (v : Values) → slice_get job.lines i ≡ Some line → is_integer_line job.frame line ≡ true → WritesOutside job code base symbols slots i line v →
    IsPlaced code base symbols slots s.values.mem → IsState s → AreValues v → s.pc ≡ address_of code base (At i) → Same v s.values → Comes job code base symbols slots (At i) v s
comes job code known t base symbols slots i line s v e core outside placed is_state are_values pc same =
    let site = site_of job code known base symbols slots s.values.mem in
    let env = environment_of job code base symbols slots i in
    let start = start_of code.lines i in
    let end = end_of code.lines i in
    let a = agrees job code known t base symbols slots s.values.mem i line e in
    let out = core_comes job code known t base symbols slots i s v placed is_state are_values same line e core (subst (AreOutside base (length code.bytes)) (sym (writes_agree line v a)) outside) pc in
    let led = subst (λ x. ComesOut site start end x (temporaries_of line) (effect_of (environment site start end) line v) s) (exit_agrees line v a) out in
    came job code known t base symbols slots i line AtStart s v e core placed (exit_bound job.lines env line v (t.named i line e)) (subst (λ w. ComesOut site start end (exit_of env line v) (temporaries_of line) w s) (effect_agrees line v a) led)

-- no tail call returns, so what returns restores no register
pub returns_in : (flags : IsaFlags) (frame : FrameLayout) (inst : Inst) (r : Return) → return_of flags inst ≡ Some r → is_integer_in frame inst ≡ is_integer inst
returns_in flags frame (Call info) r e = refl
returns_in flags frame (CallInd info) r e = refl
returns_in flags frame inst r e = absurd (cc)

-- from where the call of a line returns it goes on to the next line
resumes : (job : Job) (code : Code) (known : Known) → IsThreaded job code known → (base : ℕ) (symbols slots : Addresses) (i : ℕ) (inst : Inst) (r : Return) (s : State) (v : Values) → slice_get job.lines i ≡ Some (Put inst) → is_integer inst ≡ true → return_of job.flags inst ≡ Some r → IsPlaced code base symbols slots s.values.mem → IsState s → AreValues v → s.pc ≡ address_of code base (Returned i) → Same v s.values → Comes job code base symbols slots (Returned i) v s
resumes job code known t base symbols slots i inst r s v e core returned placed is_state are_values pc same =
    let site = site_of job code known base symbols slots s.values.mem in
    let h = t.line base symbols slots s.values.mem placed i (Put inst) e in
    let out = (inst_resumes site h.setting inst r core (t.ruled i (Put inst) e) returned).run _ _ s v (enters_back job code known t base symbols slots i s v placed is_state are_values same inst r e returned pc) in
    came job code known t base symbols slots i (Put inst) AtReturn s v e (returns_in job.flags job.frame inst r returned ∙ core) placed (return_bound job.lines inst (t.named i (Put inst) e))
    (subst (λ w. ComesOut site (start_of code.lines i) (end_of code.lines i) (return_exit (Put inst)) [] w s) (sym (ap (λ o. resumed_by o v) returned)) out)

pub threaded_runs : (job : Job) (code : Code) (known : Known) → IsThreaded job code known → RunsAsListed job code
threaded_runs job code known t = record { from = comes job code known t; back = resumes job code known t }

-- ==== What comes of the line at a point, on the machine with all units.

-- the machine has come where one line leads
pub record CameOut (x : Placing) (p : Point) (v : FullValues) (b : FullState) : Type 0 where
  pub steps : ℕ
  pub state : FullState
  pub ran : fiter x.job.flags steps b ≡ Some state
  pub point : Point
  pub values : FullValues
  pub took : List Answer
  pub line : OneFullLine x p v took point values
  pub moved : IsBack line.there.index point → 1 ≤ steps
  pub answers : b.answers ≡ took ++ state.answers
  pub stands : StandsAt x point values state

-- it comes out, or stops for want of an answer, or it writes on the code
abbrev pub OneComes : Placing → Point → FullValues → FullState → Type 0
OneComes x p v b = CameOut x p v b ⊎ (Stops x p v b ⊎ Overwrites x p v b)

-- ==== What comes of each line on the machine with all units: its parts run as it means, and what leads on takes it to the next line; or
-- it asks for an answer, or writes on the code.

-- ---- addresses are outside, or one of them isn't

outside_more : (from size a : ℕ) (addresses : List ℕ) → (a < from) ⊎ (from + size ≤ a) → AreOutside from size addresses → AreOutside from size (a ∷ addresses)
outside_more from size a addresses first others zero lt = first
outside_more from size a addresses first others (suc k) lt = others k (omega arith)

outside_or_on : (from size : ℕ) (addresses : List ℕ) → AreOutside from size addresses ⊎ IsOn from size addresses
outside_or_on from size [] = inl (λ k lt. absurd (omega arith))
outside_or_on from size (a ∷ addresses) = ⊎_elim
    (λ below. with_first (inl below) (outside_or_on from size addresses))
    (λ above. ⊎_elim (λ within. inr (0, omega arith, above, within)) (λ after. with_first (inr after) (outside_or_on from size addresses)) (cases_lt a (from + size)))
    (cases_lt a from)
  where
    with_first : (a < from) ⊎ (from + size ≤ a) → AreOutside from size addresses ⊎ IsOn from size addresses → AreOutside from size (a ∷ addresses) ⊎ IsOn from size (a ∷ addresses)
    with_first first (inl others) = inl (outside_more from size a addresses first others)
    with_first first (inr (k, lt, low, high)) = inr (suc k, omega arith, low, high)

-- ---- with the answers that it takes a meaning writes elsewhere, or on these bytes

module _ (from size : ℕ) (m : FullMeaning) (env : Environment) (v : FullValues) (answers : List Answer) where
  -- with the answers that it takes of these it writes on one of so many bytes from an address on
  pub record WritesOn : Type 0 where
    pub took : List Answer
    pub left : List Answer
    pub parted : answers ≡ took ++ left
    pub made : FullValues
    pub takes : m.takes env v (m.own_of took) ≡ Some (made, [])
    pub on : IsOn from size (m.writes env v (m.own_of took))

  -- where these are just the first n answers, it doesn't
  abbrev ClearOf : ℕ → Type 0
  ClearOf n = (made : FullValues) → m.takes env v (m.own_of (take n answers)) ≡ Some (made, []) → AreOutside from size (m.writes env v (m.own_of (take n answers)))

  with_taken : (n : ℕ) (made : FullValues) (left : List Answer) → m.takes env v (m.own_of (take n answers)) ≡ Some (made, left) → ClearOf n ⊎ WritesOn
  with_taken n made [] is = ⊎_elim
      (λ outside. inl (λ other same. outside))
      (λ on. inr (record { took = take n answers; left = drop n answers; parted = sym (take-append-drop n answers); made = made; takes = is; on = on }))
      (outside_or_on from size (m.writes env v (m.own_of (take n answers))))
  with_taken n made (a ∷ left) is = inl (λ other same. absurd (more_left (ap (λ (p : FullValues × List Answer). p.1) (same_Some (made, a ∷ left) (other, []) (sym is ∙ same)))))
    where
      more_left : a ∷ left ≡ [] → ⊥
      more_left e = cc

  with_first_of : (n : ℕ) (o : Option (FullValues × List Answer)) → m.takes env v (m.own_of (take n answers)) ≡ o → ClearOf n ⊎ WritesOn
  with_first_of n None is = inl (λ other same. absurd (cc))
  with_first_of n (Some w) is = with_taken n w.0 w.1 is

  clear_below : (n : ℕ) → ((k : ℕ) → k < n → ClearOf k) ⊎ WritesOn
  clear_below zero = inl (λ k lt. absurd (omega arith))
  clear_below (suc n) = ⊎_elim
      (λ below. ⊎_elim (λ here. inl (up_to below here)) (λ on. inr on) (with_first_of n (m.takes env v (m.own_of (take n answers))) refl))
      (λ on. inr on)
      (clear_below n)
    where
      up_to : ((k : ℕ) → k < n → ClearOf k) → ClearOf n → (k : ℕ) → k < suc n → ClearOf k
      up_to below here k lt = ⊎_elim (λ less. below k less) (λ last. subst ClearOf (sym last) here) (below_or_last lt)
        where
          below_or_last : k < suc n → (k < n) ⊎ (k ≡ n)
          below_or_last lt = grind (arith, lt)

  elsewhere : ((k : ℕ) → k < suc (length answers) → ClearOf k) → WritesElsewhere from size m env v answers
  elsewhere clear took left made parted takes =
      let front : take (length took) answers ≡ took = ap (take (length took)) parted ∙ take_at took left (length took) refl in
      let few : length took < suc (length answers) = omega (arith, ap length parted, length-append took left) in
      subst (λ (ts : List Answer). AreOutside from size (m.writes env v (m.own_of ts))) front
      (clear (length took) few made (subst (λ (ts : List Answer). m.takes env v (m.own_of ts) ≡ Some (made, [])) (sym front) takes))

  pub elsewhere_or_on : WritesElsewhere from size m env v answers ⊎ WritesOn
  elsewhere_or_on = ⊎_elim (λ clear. inl (elsewhere clear)) (λ on. inr on) (clear_below (suc (length answers)))

-- ---- where lines lead there is a line

abbrev IsThere : Job → Point → Type 0
IsThere job (At i) = (line : Line) × (slice_get job.lines i ≡ Some line)
IsThere job (Returned i) = (inst : Inst) × (r : Return) × (slice_get job.lines i ≡ Some (Put inst)) × (return_of job.flags inst ≡ Some r)
IsThere job p = Unit {0}

next_there : (job : Job) (i : ℕ) (more : Bool) → nat_lt (suc i) (length job.lines) ≡ more → IsThere job (if more then At (suc i) else End)
next_there job i true e = line_at job.lines (suc i) (ltb-true _ _ e)
next_there job i false e = tt

led_there : (job : Job) (code : Code) (i : ℕ) (exit : Exit) (q : Point) → ExitBound job.lines exit → Leads job.lines code i exit q → IsThere job q
led_there job code i Next q bound led = subst (IsThere job) (sym led) (next_there job i (nat_lt (suc i) (length job.lines)) refl)
led_there job code i (To label) q bound led = let b = bind_at job.lines label bound in subst (IsThere job) (sym led) (Bind b.0, b.1)
led_there job code i (Trap cause) q bound led = subst (IsThere job) (sym led.1) tt
led_there job code i exit q bound led = subst (IsThere job) (sym led) tt

exit_is_bound : (lines : List Line) (among : Environment) (entry : Entry) (line : Line) (v : FullValues) → AllBound lines (named_labels line) → ExitBound lines (exit_from entry among line v.ints)
exit_is_bound lines among AtStart line v bound = exit_bound lines among line v.ints bound
exit_is_bound lines among AtReturn (Put inst) v bound = return_bound lines inst bound
exit_is_bound lines among AtReturn (Bind label) v bound = tt

module _ (job : Job) (code : Code) (known : Known) (t : IsThreaded job code known) (base : ℕ) (symbols slots : Addresses) where
  abbrev placing : Placing
  placing = record { job = job; code = code; base = base; symbols = symbols; slots = slots }

  abbrev there_from : (i : ℕ) (line : Line) (entry : Entry) → slice_get job.lines i ≡ Some line → LineAt placing (entry_point entry i)
  there_from i line entry listed = record { index = i; line = line; entry = entry; at = refl; listed = listed }

  -- ---- where a line is left

  -- from where it is entered: at its start, or where its call returns
  module _ (i : ℕ) (line : Line) (v : FullValues) (b : FullState) (entry : Entry) (listed : slice_get job.lines i ≡ Some line) (s : StandsAt placing (entry_point entry i) v b) where
    -- by integer words at last, which lead to its exit
    pub led_out : {took : List Answer} {made : FullValues} (exit : Exit) → exit_from entry (environment_at (there_from i line entry listed)) line v.ints ≡ exit → ExitBound job.lines exit → FullEnds (site_of job code known base symbols slots b.state.values.mem) (start_of code.lines i) (end_of code.lines i) exit (temporaries_from entry line) made took b → (meaning_of entry line).takes (environment_at (there_from i line entry listed)) v ((meaning_of entry line).own_of took) ≡ Some (made, []) → CameOut placing (entry_point entry i) v b
    led_out {took} {made} exit is bound g takes =
        let led = reaches job code known t base symbols slots b.state.values.mem s.placed i (slice_get_within job.lines i line listed) (temporaries_from entry line) made.ints g.state.state exit bound g.last in
        let r = led.reached in
        record {
          steps = r.steps + g.steps;
          state = put r.state g.state;
          ran = fiter_after job.flags r.steps g.steps b g.state g.ran ∙ integer_run job.flags r.steps r.state g.state r.ran;
          point = led.point;
          values = record { ints = r.state.values; units = g.state.units };
          took = took;
          line = record {
            there = there_from i line entry listed;
            made = made;
            takes = takes;
            effect = record { ints = r.same; units = g.units };
            leads = subst (λ x. Leads job.lines code i x led.point) (sym is) led.leads;
          };
          moved = λ back. let moved = r.moved back in omega arith;
          answers = g.answers;
          stands = record {
            pc = r.stands;
            stopped = r.stopped;
            same = record { ints = same_itself r.state.values; units = refl };
            is_state = record { state = r.is_state; units = g.is_state.units; answers = g.is_state.answers };
            are_values = r.is_state.values;
            legal = ap is_legal g.setting ∙ s.legal;
            placed = placed_again code base symbols slots b.state.values.mem (context_of job) known.place known.records r.state.values.mem r.placed t.fields s.placed;
          };
        }

  -- ---- each line

  module _ (i : ℕ) (v : FullValues) (b : FullState) where
    abbrev start : ℕ
    start = start_of code.lines i

    abbrev end : ℕ
    end = end_of code.lines i

    abbrev full_site : Site
    full_site = site_of job code known base symbols slots b.state.values.mem

    -- what it is read among by its own place, and by the listing
    abbrev own : Environment
    own = environment full_site start end

    abbrev env : Environment
    env = environment_of job code base symbols slots i

    module _ (inst : Inst) (listed : slice_get job.lines i ≡ Some (Put inst)) where
      agree : AgreeOn (named_labels (Put inst)) own env
      agree = agrees job code known t base symbols slots b.state.values.mem i (Put inst) listed

      abbrev m : FullMeaning
      m = inst_meaning AtStart inst

      -- from its start
      inst_comes : StandsAt placing (At i) v b → OneComes placing (At i) v b
      inst_comes s = by (elsewhere_or_on base (length code.bytes) m env v b.answers)
        where
          stood : InstIn full_site inst start end
          stood = t.line base symbols slots b.state.values.mem s.placed i (Put inst) listed

          means : MeansSame m own env v
          means = meaning_agrees v AtStart inst agree

          led : EndsAsMeant full_site start end m (inst_exit own inst v.ints) (inst_temporaries inst) v b ⊎ FullyAsks full_site start end m v b → OneComes placing (At i) v b
          led (inl o) = inl (led_out i (Put inst) v b AtStart listed s (inst_exit own inst v.ints) (sym (exit_agrees (Put inst) v.ints agree)) (exit_bound job.lines own (Put inst) v.ints (t.named i (Put inst) listed)) o.ends (sym (means.takes (m.own_of o.took)) ∙ o.takes))
          led (inr a) = inr (inl (record { there = there_from i (Put inst) AtStart listed; steps = a.steps; state = a.state; ran = a.ran; asks = a.asks; took = a.took; answers = a.answers; lacks = λ once. sym (means.takes (m.own_of b.answers)) ∙ a.lacks; few = subst (λ n. length a.took < 2 * n) means.own a.few }))

          -- so does it by its own place
          own_clear : WritesElsewhere base (length code.bytes) m env v b.answers → WritesElsewhere base (length full_site.bytes) m own v b.answers
          own_clear clear took left made parted takes =
              subst (λ n. AreOutside base n (m.writes own v (m.own_of took))) (sym (from_long b.state.values.mem base (length code.bytes)))
              (subst (AreOutside base (length code.bytes)) (sym (means.writes (m.own_of took))) (clear took left made parted (sym (means.takes (m.own_of took)) ∙ takes)))

          by : WritesElsewhere base (length code.bytes) m env v b.answers ⊎ WritesOn base (length code.bytes) m env v b.answers → OneComes placing (At i) v b
          by (inl clear) = led (inst_full_runs stood.setting inst (t.ruled i (Put inst) listed) (t.fit i (Put inst) listed) (enters job code known t base symbols slots i b.state v.ints s.placed s.is_state.state s.are_values s.same.ints inst listed s.pc) s.same s.is_state (own_clear clear))
          by (inr w) = inr (inr (record { there = there_from i (Put inst) AtStart listed; took = w.took; left = w.left; answers = w.parted; made = w.made; takes = w.takes; on = w.on }))

      -- from where it returns
      pub return_comes : (r : Return) → return_of job.flags inst ≡ Some r → StandsAt placing (Returned i) v b → CameOut placing (Returned i) v b
      return_comes r is s =
          let h = t.line base symbols slots b.state.values.mem s.placed i (Put inst) listed in
          let e = enters_back job code known t base symbols slots i b.state v.ints s.placed s.is_state.state s.are_values s.same.ints inst r listed is s.pc in
          let o = inst_full_resumes h.setting inst r (t.ruled i (Put inst) listed) is (labels_within job code known t b.state.values.mem base) e s.same s.is_state in
          let means : MeansSame (inst_meaning AtReturn inst) own env v = meaning_agrees v AtReturn inst agree in
          led_out i (Put inst) v b AtReturn listed s (try_exit (try_call_of inst)) refl (return_bound job.lines inst (t.named i (Put inst) listed)) o.ends (sym (means.takes ((inst_meaning AtReturn inst).own_of o.took)) ∙ o.takes)

    pub line_comes : (line : Line) → slice_get job.lines i ≡ Some line → StandsAt placing (At i) v b → OneComes placing (At i) v b
    line_comes (Put inst) listed s = inst_comes inst listed s
    line_comes (Bind label) listed s =
        let ends : FullEnds full_site start end Next [] v [] b = record {
          steps = 0;
          state = b;
          ran = fiter_none job.flags b;
          last = passes job code known t base symbols slots i b.state v.ints s.placed s.is_state.state s.are_values s.same.ints label listed s.pc;
          units = s.same.units;
          is_state = s.is_state;
          answers = refl;
          setting = refl;
        } in
        inl (led_out i (Bind label) v b AtStart listed s Next refl tt ends refl)

  -- ==== Code in which each line comes out, asks for an answer or writes on the code runs on the machine with all units: by induction over
  -- the lines that are passed.

  -- at each point, one line; or the listing's run ends there
  one_line : (p : Point) (v : FullValues) (b : FullState) → IsThere job p → StandsAt placing p v b → IsExit p ⊎ OneComes placing p v b
  one_line (At i) v b there s = inr (line_comes i v b there.0 there.1 s)
  one_line (Returned i) v b there s = inr (inl (return_comes i v b there.0 there.2 there.1 there.3 s))
  one_line p v b there s = inl tt

  -- ---- any number of lines

  lines_there : (k : ℕ) (p : Point) (v : FullValues) (least : ℕ) (took : List Answer) (q : Point) (w : FullValues) → IsThere job p → Lines placing k p v least took q w → IsThere job q
  lines_there zero p v least took q w there l = subst (IsThere job) (sym l.2) there
  lines_there (suc k) p v least took q w there l =
      let at = l.line.there in
      led_there job code at.index (exit_from at.entry (environment_at at) at.line l.values.ints) q (exit_is_bound job.lines (environment_at at) at.entry at.line l.values (t.named at.index at.line at.listed)) l.line.leads

  one_more : (k : ℕ) (p : Point) (v : FullValues) (b : FullState) (r : Reached placing k p v b) → CameOut placing r.point r.values r.state → Reached placing (suc k) p v b
  one_more k p v b r o = record {
    steps = o.steps + r.steps;
    state = o.state;
    ran = fiter_after job.flags o.steps r.steps b r.state r.ran ∙ o.ran;
    point = o.point;
    values = o.values;
    least = r.least + o.steps;
    took = r.took ++ o.took;
    lines = record { before_least = r.least; before_took = r.took; point = r.point; values = r.values; before = r.lines; here_least = o.steps; here_took = o.took; line = o.line; moved = o.moved; all_least = refl; all_took = refl };
    moved = let few = r.moved in omega arith;
    answers = r.answers ∙ ap (λ xs. r.took ++ xs) o.answers ∙ sym (append_assoc r.took o.took o.state.answers);
    stands = o.stands;
  }

  next : (k : ℕ) (p : Point) (v : FullValues) (b : FullState) → IsThere job p → RunsOn placing k p v b → RunsOn placing (suc k) p v b
  next k p v b there (inr (inl c)) = inr (inl (record { count = c.count; before = omega (arith, c.before); reached = c.reached; stops = c.stops }))
  next k p v b there (inr (inr c)) = inr (inr (record { count = c.count; before = omega (arith, c.before); reached = c.reached; overwrites = c.overwrites }))
  next k p v b there (inl c) = from c.whole
    where
      on : c.count ≡ k → IsExit c.reached.point ⊎ OneComes placing c.reached.point c.reached.values c.reached.state → RunsOn placing (suc k) p v b
      on e (inl end) = inl (record { count = c.count; within = omega (arith, c.within); reached = c.reached; whole = inr end })
      on e (inr (inl out)) = inl (record { count = suc c.count; within = omega (arith, c.within); reached = one_more c.count p v b c.reached out; whole = inl (ap suc e) })
      on e (inr (inr (inl stops))) = inr (inl (record { count = c.count; before = omega (arith, e); reached = c.reached; stops = stops }))
      on e (inr (inr (inr off))) = inr (inr (record { count = c.count; before = omega (arith, e); reached = c.reached; overwrites = off }))

      from : (c.count ≡ k) ⊎ IsExit c.reached.point → RunsOn placing (suc k) p v b
      from (inl e) = on e (one_line c.reached.point c.reached.values c.reached.state (lines_there c.count p v c.reached.least c.reached.took c.reached.point c.reached.values there c.reached.lines) c.reached.stands)
      from (inr end) = inl (record { count = c.count; within = omega (arith, c.within); reached = c.reached; whole = inr end })

  runs_on : (k : ℕ) (p : Point) (v : FullValues) (b : FullState) → IsThere job p → StandsAt placing p v b → RunsOn placing k p v b
  runs_on zero p v b there s = inl (record {
    count = 0;
    within = lit≤ tt;
    reached = record { steps = 0; state = b; ran = fiter_none job.flags b; point = p; values = v; least = 0; took = []; lines = (refl, refl, refl, refl); moved = lit≤ tt; answers = refl; stands = s };
    whole = inl refl;
  })
  runs_on (suc k) p v b there s = next k p v b there (runs_on k p v b there s)

entry_there : (job : Job) (p : Point) → IsEntry job p → IsThere job p
entry_there job (At i) entry = (entry.0, entry.1)
entry_there job (Returned i) entry = entry
entry_there job p entry = absurd entry

pub full_runs : (job : Job) (code : Code) (known : Known) → IsThreaded job code known → FullRuns job code
full_runs job code known t = record {
  from = λ base symbols slots p v b k entry stands. runs_on job code known t base symbols slots k p v b (entry_there job p entry) stands;
}
