-- How code comes out at an exit: from the end of a chain, at a trap, and by the evaluation of an instruction's pieces.
use Rattle.{rv_code.{proofs.Evaluation.pieces_run, proofs.Reaching.{Reaches, Writes}, proofs.Steps.pc_in_code, specs.Evaluation.{AllOutside, ComesToPoint, Point, at as points, steps_of}, specs.InstParts.trap_bytes, specs.Pieces.Trap, specs.Sites.Leads}, rv_inst.specs.Meaning.Break}
use Rattle.{rv_inst.specs.Records.IsRecorded, rv_machine.specs.declared.ops.BaseOp.TheVariants.Ebreak}
use Rattle.rv_runs.proofs.Words.{AreInRange, AreOutside, AreValues, Arrives, Base, BytesAt, CodeHas, ComesOut, Decoded, EmitVState, Enters, Exit, GapIn, Goes, Inst, IsAt, IsBeside, IsPlacedAt, IsState, IsaFlags, MachLabel, Memory, Next, Part, Piece, Same, SameBut, Site}
use Rattle.rv_runs.proofs.Words.{Slot, StandIn, State, To, TrapCode, Values, are_values_set, at, byte, comes_goes, decodes_at, environment, evaluate, fetch, goes_first, goes_none, goes_second, inst_effect, inst_exit, inst_temporaries, inst_writes, integer_decodes}
use Rattle.rv_runs.proofs.Words.{is_integer_op as is_integer, least_steps, led_on, parts_of, pieces_long, point, same_set, set_reg, size_of, slots_alone, slots_of, wrap}
use Rattle.std.proofs.Common.{Bool, List, Some, [], ap, arith, false, if◌then◌else◌, length, lit<, refl, rules, subst, sym, true, ℕ, ◌%◌, ◌+◌, ◌<◌, ◌^◌, ◌∙◌, ◌∷◌, ◌≡◌, ◌≤◌, inr}
use Rattle.rv_inst.specs.Meaning as exit
use Rattle.mach_records.specs.declared.records.Event.TheVariants as event

-- From an exact state at the end of a chain to where an exit leads.

-- the parts of an instruction, entered here, run as it means
abbrev pub RunsHere : Site → EmitVState → Inst → ℕ → ℕ → State → Values → Type 0
RunsHere site setting inst start after s v = Enters site start after (parts_of site.context setting inst) s v → AreOutside site.base (length site.bytes) (inst_writes (environment site start after) inst v) → ComesOut site start after (inst_exit (environment site start after) inst v)
    (inst_temporaries inst) (inst_effect (environment site start after) inst v) s

-- slots, entered here, come to their end with such values, some registers apart
abbrev pub SlotsOut : Site → ℕ → ℕ → List Slot → State → Values → List ℕ → Values → Type 0
SlotsOut site start after slots s v free w = Enters site start after (slots_alone slots) s v → ComesOut site start after Next free w s

-- ---- values

pub same_but : {v w : Values} (free : List ℕ) → Same v w → SameBut free v w
same_but free same = record { regs = λ n lt other. same.regs n lt; mem = same.mem }

pub all_same : {v w : Values} → SameBut [] v w → Same v w
all_same h = record { regs = λ n lt. h.regs n lt refl; mem = h.mem }

pub but_then_same : {free : List ℕ} {v w u : Values} → SameBut free v w → Same w u → SameBut free v u
but_then_same but same = record { regs = λ n lt other. but.regs n lt other ∙ same.regs n lt; mem = λ a. but.mem a ∙ same.mem a }

-- ---- the start

pub starts_beside : {site : Site} {start after : ℕ} {parts : List Part} {s : State} {v : Values} (free : List ℕ) → Enters site start after parts s v → IsBeside site free v s
starts_beside free e = record { same = same_but free e.same; is_state = e.is_state; are_values = e.are_values; placed = e.placed }

-- elsewhere, once a register is written
pub writes_beside : {site : Site} {start after : ℕ} {parts : List Part} {s : State} {v : Values} (pc n x : ℕ) → pc < 2 ^ 64 → n < 32 → x < 2 ^ 64 → Enters site start after parts s v → IsBeside site [] (set_reg v n x) (at pc (set_reg s.values n x))
writes_beside {s = s} {v} pc n x there lt fits e = search (rules, same_but, same_set, are_values_set, e)

pub starts_at : {site : Site} {start after : ℕ} {s : State} {v : Values} (slots : List Slot) → Enters site start after (slots_alone slots) s v → IsAt site start (size_of slots) s
starts_at slots e = search (rules, arith, e, e.stands.2)

-- ---- exits

-- a chain that ends where an exit leads
pub comes_out : {site : Site} {start after : ℕ} {exit : Exit} {free : List ℕ} {v : Values} {s : State} (t : State) → Goes site.context.flags (least_steps exit) s t → Arrives site start after exit t → IsBeside site free v t → ComesOut site start after exit free v s
comes_out t g arrives b = search (rules, g, b)

-- a chain before
pub goes_out : {site : Site} {start after least : ℕ} {exit : Exit} {free : List ℕ} {v : Values} {s t : State} → Goes site.context.flags least s t → ComesOut site start after exit free v t → ComesOut site start after exit free v s
goes_out {site} {start} {after} {least} {exit} {free} {v} {s} {t} g c = comes_out c.state (goes_second g (record { steps = c.steps; moved = c.moved; ran = c.ran })) c.arrives (record { same = c.same; is_state = c.is_state; are_values = c.are_values; placed = c.placed })

-- what leads on, where it comes out
pub led_beside : {site : Site} {free : List ℕ} {v : Values} {s t : State} → IsBeside site free v s → Same s.values t.values → IsState t → t.values.mem ≡ s.values.mem → IsBeside site free v t
led_beside {site} b same is_state kept = let there = subst (IsPlacedAt site) (sym kept) b.placed in search (rules, but_then_same, b, there)

-- a chain that ends where a use of a label aims
pub label_out : {site : Site} {start after : ℕ} {free : List ℕ} {v : Values} {s : State} (veneers : Bool) (label : MachLabel) (to : ℕ) (t : State) → Leads site veneers label to → Goes site.context.flags 1 s t → t.pc ≡ wrap (site.base + to) → IsBeside site free v t → ComesOut site start after (To label.number) free v s
label_out false label to t leads g pc b = comes_out t g (to, leads.0, pc) b
label_out true label to t leads g pc b =
    let c = led_on leads.2 b.placed pc b.is_state in
    comes_out c.state (goes_first g (comes_goes c)) (leads.0, leads.1, c.pc) (led_beside b c.same c.is_state c.kept)

-- nothing stands before the next line, or what leads on
pub gap_out : {site : Site} {start after : ℕ} {free : List ℕ} {v : Values} {s : State} (from : ℕ) → GapIn site from after → s.pc ≡ wrap (site.base + from) → IsBeside site free v s → ComesOut site start after Next free v s
gap_out from gap pc b =
    let c = led_on gap.leads b.placed pc b.is_state in
    comes_out c.state (comes_goes c) c.pc (led_beside b c.same c.is_state c.kept)

-- the machine stays where an ebreak stands
pub break_out : {site : Site} {start after size : ℕ} {free : List ℕ} {v : Values} {s : State} (d : Decoded) → d.op ≡ Base Ebreak → IsAt site start size s → 0 < size → CodeHas site start (d ∷ []) → IsBeside site free v s → ComesOut site start after Break free v s
break_out {site} {start} {after} {size} {free} {v} {s} d is h some has b = comes_out s (goes_none site.context.flags s) (h.pc, record { d = d; there = integer_decodes site.context.flags (fetch s.values.mem s.pc) d (ap is_integer is) (decodes_at d [] h some has); is = is }) b

-- The machine stays where the zero bytes of a recorded trap stand.

-- the low half of the word that the machine reads at them
zero_half : (flags : IsaFlags) (mem : Memory) (a : ℕ) → BytesAt mem a (trap_bytes flags) → fetch mem a % 2 ^ 16 ≡ 0
zero_half flags mem a =
    let both : byte mem (a + 0) ≡ 0 → byte mem (a + 1) ≡ 0 → a + 2 ≤ 2 ^ 64 → fetch mem a % 2 ^ 16 ≡ 0 = λ first second room.
    let a0 : a ≡ a + 0 = omega arith in
    let a1 : wrap (a + 1) ≡ a + 1 = omega arith in
    omega (arith, ap (byte mem) a0 ∙ first, ap (byte mem) a1 ∙ second) in
    elim flags.has_zca as (λ c. BytesAt mem a (if c then 0 ∷ 0 ∷ [] else 0 ∷ 0 ∷ 0 ∷ 0 ∷ []) → fetch mem a % 2 ^ 16 ≡ 0)
    [ true ↦ λ bytes. both (bytes.there 0 (lit< tt)) (bytes.there 1 (lit< tt)) bytes.room | false ↦ λ bytes. both (bytes.there 0 (lit< tt)) (bytes.there 1 (lit< tt)) (let room = bytes.room in omega arith) ]

pub trap_some : (flags : IsaFlags) → 0 < length (trap_bytes flags)
trap_some flags = elim flags.has_zca as (λ c. 0 < length {A = ℕ} (if c then 0 ∷ 0 ∷ [] else 0 ∷ 0 ∷ 0 ∷ 0 ∷ [])) [ true ↦ lit< tt | false ↦ lit< tt ]

-- the machine stays where the word of a recorded trap stands
pub trap_out : {site : Site} {start after offset size : ℕ} {free : List ℕ} {v : Values} {s : State} (code : TrapCode) → IsAt site offset size s → 0 < size → IsRecorded site.records offset (event.Trap code) → BytesAt s.values.mem (site.base + offset) (trap_bytes site.context.flags) →
    start ≤ offset → offset < after → IsBeside site free v s → ComesOut site start after (exit.Trap code) free v s
trap_out {site} {start} {after} {offset} {size} {free} {v} {s} code h some recorded bytes le lt b = comes_out s (goes_none site.context.flags s) (offset, recorded, le, lt, h.pc, ap (λ a. fetch s.values.mem a % 2 ^ 16) (pc_in_code h some) ∙ zero_half site.context.flags s.values.mem (site.base + offset) bytes) b

-- How an instruction runs by the evaluation of its pieces.

-- the machine where the evaluation comes, from where an instruction's parts begin
pub comes : {site : Site} {start after : ℕ} {s : State} {v : Values} (whole ps : List Piece) (w : Values) (m : List (List ℕ)) (n : ℕ) → AreInRange whole → AllOutside site m → (e : Enters site start after (slots_alone (slots_of site.context.flags whole)) s v) → evaluate (environment site start after) n whole (point whole s.values) ≡ Some (points ps w m) → ComesToPoint (steps_of (environment site start after) n whole (point whole s.values)) site e.stands.0 start after (points ps w m) s
comes {site} {start} {after} {s} whole ps w m n ranges out e ran =
    let long = pieces_long site.context.flags whole in
    let k : StandIn site e.stands.0 start after whole = record { stand = e.stands.1; even = e.even; ends = omega arith; room = e.within; ranges = ranges; bounds = inr (record { short = e.short; labels = e.labels }) } in
    pieces_run site start after e.stands.0 start after whole k n (point whole s.values) (points ps w m) s ran out (record { offset = start; within = omega arith; here = record { even = e.even; room = omega arith; placed = e.placed; pc = e.pc }; stand = k; is_state = e.is_state; values = refl })

pub point_goes : {most : ℕ} {site : Site} {allocated start end : ℕ} {p : Point} {s : State} (c : ComesToPoint most site allocated start end p s) → Goes site.context.flags 0 s c.state
point_goes c = record { steps = c.steps; moved = omega arith; ran = c.ran }

-- an instruction whose pieces come to their end with values that are these, declared temporaries apart
pub writes_out : {site : Site} {start after : ℕ} {s : State} {v : Values} (whole : List Piece) (m : List (List ℕ)) (free : List ℕ) (made : Values) → AreInRange whole → AllOutside site m → Enters site start after (slots_alone (slots_of site.context.flags whole)) s v → (r : Writes (environment site start after) whole (point whole s.values) [] m (SameBut free made)) → (AreValues r.values → AreValues made) → ComesOut site start after Next free made s
writes_out {site} {start} {after} {s} {v} whole m free made ranges out e r are_values =
    let c = comes whole [] r.values m r.count ranges out e r.ran in
    comes_out c.state (point_goes c) (let pc = c.there.here.pc in let there = c.there.stand.ends in omega arith) (search (rules, c.there, (subst (SameBut free made) (sym c.there.values) r.such), (are_values (subst AreValues c.there.values c.there.is_state.values))))

-- where nothing is written
pub pieces_out : {site : Site} {start after : ℕ} {s : State} {v : Values} (whole : List Piece) (free : List ℕ) (made : Values) → AreInRange whole → Enters site start after (slots_alone (slots_of site.context.flags whole)) s v → (r : Reaches (environment site start after) whole (point whole s.values) [] (SameBut free made)) → (AreValues r.values → AreValues made) → ComesOut site start after Next free made s
pieces_out whole free made ranges e r are_values = writes_out whole [] free made ranges tt e r are_values

-- and one whose pieces come to a trap
pub pieces_trap : {site : Site} {start after : ℕ} {s : State} {v : Values} (whole ps : List Piece) (code : TrapCode) (free : List ℕ) (made : Values) → AreInRange whole → Enters site start after (slots_alone (slots_of site.context.flags whole)) s v → (r : Reaches (environment site start after) whole (point whole s.values) (Trap code ∷ ps) (SameBut free made)) → (AreValues r.values → AreValues made) → ComesOut site start after (exit.Trap code) free made s
pieces_trap {site} {start} {after} {s} {v} whole ps code free made ranges e r are_values =
    let c = comes whole (Trap code ∷ ps) r.values [] r.count ranges tt e r.ran in
    goes_out (point_goes c)
    (trap_out code c.there.here (omega (arith, trap_some site.context.flags)) c.there.stand.stand.0 (c.there.stand.stand.1.0 c.state.values.mem c.there.here.placed) c.there.within (omega (arith, trap_some site.context.flags))
    (record { same = subst (SameBut free made) (sym c.there.values) r.such; is_state = c.there.is_state; are_values = are_values (subst AreValues c.there.values c.there.is_state.values); placed = c.there.here.placed }))
