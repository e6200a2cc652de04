-- Loads, stores, addresses and constants: where the pieces before an access come, and what comes of the access.
use Rattle.{mach_uses.specs.Labels.constant_label, rv_code.{proofs.Courses.{IsApartAt, IsRealAt, address_fits, address_same, after_access, label_address, lower_sums, sets_comes, upper_goes, upper_sum}, proofs.Evaluation.action_sized, proofs.Memories.{stored_bytes, stored_length}}}
use Rattle.rv_code.proofs.OperationActs.{has_integer_load, has_integer_store, short_load_either, short_store_either}
use Rattle.{rv_code.proofs.Reaching.{IsLoaded, ReachesAccess, Reaches, address_ranges, address_reaches, based_ranges, based_reaches, far_ranges, far_reaches, goes_on, load_ranges, load_reaches, reaches_such}, rv_code.proofs.StackRuns.loaded_same_but}
use Rattle.rv_code.{specs.Accesses.{Access, address_pieces, based_pieces, far_pieces, half_load_pieces, half_store_pieces, load_pieces, store_access, store_pieces}, specs.Evaluation.{address, at as points}, specs.InstParts.{address_slots, label_load_slots}, specs.Slots.Fixup}
use Rattle.{rv_encode.specs.Operations.{load_row, store_op, store_row}, rv_inst.{specs.Addresses.AtConstant, specs.declared.label_use.LabelUse.TheVariants.PCRelLo12I}, rv_machine.{specs.Memory.store_bytes, specs.declared.ops.MOp.MOp}, rv_ops.specs.Memory.store_size}
use Rattle.rv_runs.{proofs.Exits.{RunsHere, SlotsOut, comes, pieces_out, point_goes, same_but, starts_at, writes_out}, proofs.UnitRuns.{fiter_one, unit_next_at}}
use Rattle.rv_runs.proofs.Words.{AMode, Action, AllByRecursion, AnswerFits, AreInRange, AreOutside, AreUnits, AreValues, AtLabel, Based, CodeHas, Comes, ComesOut, Decoded, Do, Does, EmitVState, Enters, FullComesOut, FullState, FullValues, size_of, is_float_load}
use Rattle.rv_runs.proofs.Words.{same_set, HasSize, IsIntegerLoad, IsIntegerStore, IsPlacedAt, IsUsable, IsUsableAt, Label, LoadOP, Location, MachLabel, MemFlagsData, Next, Piece, Reg, Same, SameBut, SameFull, Site, State, StoreOP, TrapCode, Units}
use Rattle.rv_runs.proofs.Words.{Values, Writable, act, address_at, addresses_from, and_then, are_values_set, between, byte, decoded_load, environment, evaluate, fiter_after, full_at, integer_run, label_base, load_fits, load_op, load_result, load_same, location_of, low64}
use Rattle.rv_runs.proofs.Words.{lower_of_distance, number_of, op_of, point, put, put_bytes, put_same, put_values, reads_other, reg, row_next, set_reg, shorter, slots_alone, slots_of, spare_set, unit_row, wrap}
use Rattle.std.proofs.Common.{Bool, List, None, Option, Some, [], ap, append-nil, arith, if◌then◌else◌, length, lit<, lit≤, not, refl, rules, subst, sym, ℕ, ℤ, ◌+◌, ◌<◌, ◌∙◌, ◌∷◌, ◌≡◌, true}
use Rattle.rv_code.specs.Pieces as piece
use Rattle.rv_inst.specs.declared.inst.Inst.TheVariants.{Load, Store}

-- ---- before an operation

-- Where the pieces before an operation have come: at the operation, which ends the code, with such values.
pub record IsBefore (site : Site) (after : ℕ) (Such : Values → Type 0) (d : Decoded) (s : State) : Type 0 where
  pub offset : ℕ
  pub comes : Comes site offset d.len Such s
  pub has : CodeHas site offset (d ∷ [])
  pub sized : HasSize d
  pub ends : offset + d.len ≡ after

pub before_last : {site : Site} {start after : ℕ} {s : State} {v : Values} {Such : Values → Type 0} (whole : List Piece) (a : Action) → AreInRange whole → Enters site start after (slots_alone (slots_of site.context.flags whole)) s v → Reaches (environment site start after) whole (point whole s.values) (Do a ∷ []) Such → IsBefore site after Such (op_of site.context.flags a) s
before_last {site} {Such = Such} whole a ranges e r =
    let c = comes whole (Do a ∷ []) r.values [] r.count ranges tt e r.ran in
    let there = c.there in
    record {
      offset = there.offset;
      comes = record { state = c.state; goes = point_goes c; course = record { here = shorter (op_of site.context.flags a).len there.here (omega arith); is_state = there.is_state; values = subst Such (sym there.values) r.such } };
      has = there.stand.stand.0;
      sized = action_sized site.context.flags a;
      ends = let ends = there.stand.ends in omega arith;
    }

-- an operation that does such a row with a register, at a register plus an offset
pub record IsAccess (row : MOp) (field : Decoded → ℕ) (n r : ℕ) (o : ℤ) (d : Decoded) : Type 0 where
  pub is : d.op ≡ row
  pub register : field d ≡ n
  pub base : d.rs1 ≡ r
  pub offset : d.imm ≡ o

-- the values at one whose address is this: x31 alone was written
pub record AreReady (d : Decoded) (a : ℕ) (v before w : Values) : Type 0 where
  pub same : SameBut [] v w
  pub address : wrap (reg w d.rs1 + low64 d.imm) ≡ a
  pub kept : (m : ℕ) → m < 31 → reg w m ≡ reg before m

-- the machine is at one with them
pub record IsReadyAt (site : Site) (after : ℕ) (row : MOp) (field : Decoded → ℕ) (n a : ℕ) (v : Values) (s : State) : Type 0 where
  pub operation : Decoded
  pub is : operation.op ≡ row
  pub register : field operation ≡ n
  pub before : IsBefore site after (AreReady operation a v s.values) operation s

-- after the pieces of its address
access_ready : {site : Site} {start after : ℕ} {s : State} {v : Values} {row : MOp} {field : Decoded → ℕ} {n a : ℕ} (whole : List Piece) (access : Access) → AreInRange whole → ((base : ℕ) (offset : ℤ) → IsAccess row field n base offset (op_of site.context.flags (access base offset))) →
    Enters site start after (slots_alone (slots_of site.context.flags whole)) s v → ReachesAccess (environment site start after) whole access (point whole s.values) [] s.values a → IsReadyAt site after row field n a v s
access_ready {site} {s = s} {v} {a = a} whole access ranges accesses e r =
    let d = op_of site.context.flags (access r.base r.offset) in
    let x = accesses r.base r.offset in
    record {
      operation = d;
      is = x.is;
      register = x.register;
      before = before_last whole (access r.base r.offset) ranges e (reaches_such (λ u both. record {
        same = record { regs = λ m lt other. e.same.regs m lt ∙ sym (both.1.regs m (omega arith)); mem = λ k. e.same.mem k ∙ ap (λ mem. byte mem k) (sym both.1.mem) };
        address = (λ i. wrap (reg u (x.base i) + low64 (x.offset i))) ∙ both.0;
        kept = both.1.regs;
      }) r.reaches);
    }

-- ---- an access comes to its address, after which nothing stands

-- at a register plus an offset
based_goes : (site : Site) (start after : ℕ) (access : Access) (trap : Option TrapCode) (r : ℕ) (o : ℤ) (v w : Values) → AreValues w → r < 30 → Same v w → ReachesAccess (environment site start after) (based_pieces access trap r o) access (point (based_pieces access trap r o) w) [] w (wrap (reg v r + low64 o))
based_goes site start after access trap r o v w hw usable same =
    let ps = based_pieces access trap r o in
    subst (λ x. ReachesAccess (environment site start after) ps access (point ps w) [] w (wrap (x + low64 o))) (sym (same.regs r usable))
    (subst (λ qs. ReachesAccess (environment site start after) ps access (point qs w) [] w (wrap (reg w r + low64 o))) (append-nil ps) (based_reaches site start after access trap r o w hw usable))

-- a store
store_goes : (site : Site) (start after : ℕ) (op : StoreOP) (src : ℕ) (loc : Location) (trap : Option TrapCode) (v w : Values) → AreValues w → IsUsableAt loc → Same v w → ReachesAccess (environment site start after) (store_pieces op src trap loc) (store_access op src) (point (store_pieces op src trap loc) w) [] w (address_at (environment site start after) v loc)
store_goes site start after op src (Based r o) trap v w hw usable same = based_goes site start after (store_access op src) trap r o v w hw usable same
store_goes site start after op src loc trap v w hw usable same =
    let ps = far_pieces (store_access op src) trap loc in
    let env = environment site start after in
    subst (λ a. ReachesAccess env ps (store_access op src) (point ps w) [] w a) (sym (address_same env v w loc usable same))
    (subst (λ qs. ReachesAccess env ps (store_access op src) (point qs w) [] w (address_at env w loc)) (append-nil ps) (far_reaches site start after (store_access op src) trap loc w hw usable (address_fits site start after w loc)))

store_ranges : (op : StoreOP) (src : ℕ) (loc : Location) (trap : Option TrapCode) → AreInRange (store_pieces op src trap loc)
store_ranges op src (Based r o) trap = subst AreInRange (append-nil (based_pieces (store_access op src) trap r o)) (based_ranges (store_access op src) trap r o [] (λ base offset. tt) tt)
store_ranges op src loc trap = far_ranges (store_access op src) trap loc tt

-- ---- loads of floating-point registers, and stores of any, before their own operation

-- the upper part of a label's distance is in x31, and the lower part in the operation
label_ready : {site : Site} {start after : ℕ} {s : State} {v : Values} (rd : ℕ) (op : LoadOP) (l : MachLabel) (trap : Option TrapCode) → Enters site start after (slots_alone (label_load_slots 31 rd op trap l)) s v → IsReadyAt site after (load_row op) (λ d. d.rd) rd (label_address site l) v s
label_ready {site} {start} {s = s} {v} rd op l trap e =
    let last = Fixup PCRelLo12I (Label l) (λ z. decoded_load op rd 31 (lower_of_distance z) ∷ []) ∷ [] in
    let slots = label_load_slots 31 rd op trap l in
    let long : 8 ≡ size_of slots = elim trap as (λ t. 8 ≡ size_of (label_load_slots 31 rd op t l)) [ None ↦ refl | Some code ↦ refl ] in
    let h = shorter 8 (starts_at slots e) (omega arith) in
    let a = e.stands.1.0 in
    let b = (after_access site e.stands.0 (start + 4) trap last e.stands.1.1).0 in
    let y = upper_sum s.pc start a.to in
    record {
      operation = decoded_load op rd 31 (lower_of_distance (between (start + 4) b.to));
      is = refl;
      register = refl;
      before = record {
        offset = start + 4;
        comes = sets_comes {Such = Same v} (AreReady (decoded_load op rd 31 (lower_of_distance (between (start + 4) b.to))) (label_address site l) v s.values) 4 31 y refl (lit< tt) (omega arith) (upper_goes 31 l h (omega arith) a) (record { here = h; is_state = e.is_state; values = e.same }) (record {
          same = spare_set v s.values 31 y (lit≤ tt) (same_but [] e.same);
          address = lower_sums 31 l a.to b.to (lit< tt) (lit< tt) (record { short = e.short; labels = e.labels }) e.is_state h a.reaches.0 b.reaches.0;
          kept = λ m lt. reads_other s.values 31 m y (λ same. absurd (omega arith));
        });
        has = b.has;
        sized = record { even = refl; some = lit< tt; few = lit≤ tt };
        ends = omega arith;
      };
    }

pub float_ready : {site : Site} {start after : ℕ} {s : State} {v : Values} (rd : ℕ) (op : LoadOP) (loc : Location) (trap : Option TrapCode) → is_float_load op ≡ true → rd < 32 → IsUsableAt loc → Enters site start after (slots_alone (slots_of site.context.flags (load_pieces op rd trap loc))) s v →
    IsReadyAt site after (load_row op) (λ d. d.rd) rd (address_at (environment site start after) v loc) v s
float_ready {site} {start} {after} {s} {v} rd op (Based r o) trap float lt usable e =
    access_ready (based_pieces (piece.Load op rd) trap r o) (piece.Load op rd) (subst AreInRange (append-nil (based_pieces (piece.Load op rd) trap r o)) (based_ranges (piece.Load op rd) trap r o [] (λ base offset. lt) tt)) (λ base offset. short_load_either (IsAccess (load_row op) (λ d. d.rd) rd base offset) site.context.flags op rd base offset (search rules) (search rules)) e
    (based_goes site start after (piece.Load op rd) trap r o v s.values e.is_state.values usable e.same)
float_ready {site} {start} {after} {s} {v} rd op (AtLabel l) trap float lt usable e = label_ready rd op l trap (subst (λ slots. Enters site start after (slots_alone slots) s v) (append-nil _ ∙ ap (λ (c : Bool). label_load_slots (if c then 31 else rd) rd op trap l) float) e)
float_ready {site} {start} {after} {s} {v} rd op (AtConstant k) trap float lt usable e =
    let slots = label_load_slots (label_base op rd) rd op trap (constant_label k) in
    label_ready rd op (constant_label k) trap (subst (λ slots. Enters site start after (slots_alone slots) s v) (append-nil slots ∙ ap (λ (c : Bool). label_load_slots (if c then 31 else rd) rd op trap (constant_label k)) float)
    (record { even = e.even; within = e.within; short = e.short; labels = e.labels; stands = (e.stands.0, e.stands.1, let ends = e.stands.2 in omega arith); placed = e.placed; pc = e.pc; is_state = e.is_state; are_values = e.are_values; same = e.same }))

pub store_ready : {site : Site} {start after : ℕ} {s : State} {v : Values} (op : StoreOP) (src : ℕ) (loc : Location) (trap : Option TrapCode) → IsUsableAt loc → Enters site start after (slots_alone (slots_of site.context.flags (store_pieces op src trap loc))) s v →
    IsReadyAt site after (store_row op) (λ d. d.rs2) src (address_at (environment site start after) v loc) v s
store_ready {site} {start} {after} {s} {v} op src loc trap usable e =
    access_ready (store_pieces op src trap loc) (store_access op src) (store_ranges op src loc trap) (λ base offset. short_store_either (IsAccess (store_row op) (λ d. d.rs2) src base offset) site.context.flags op base src offset (search rules) (search rules)) e (store_goes site start after op src loc trap v s.values e.is_state.values usable e.same)

-- Integer words, and then one operation of a unit that takes no answer: what comes of them on the machine with all units.

-- the values of the machine there
abbrev pub before_values : {site : Site} {after : ℕ} {Such : Values → Type 0} {d : Decoded} {s : State} → Units → IsBefore site after Such d s → FullValues
before_values units y = record { ints = y.comes.state.values; units = units }

-- What the operation does then: no answer is taken, and the setting is left.
pub record DoesThere (site : Site) (d : Decoded) (made : FullValues) (b : FullState) (x : FullValues) : Type 0 where
  pub none : (s : State) → act d s ≡ None
  pub after : FullValues
  pub row : unit_row d x ≡ Does after
  pub same : SameFull made after
  pub are_values : AreValues made.ints
  pub written : AreValues after.ints
  pub units : AreUnits after.units
  pub setting : after.units.setting ≡ b.units.setting
  pub placed : IsPlacedAt site after.ints.mem

pub exact_out : {site : Site} {after : ℕ} {Such : Values → Type 0} {d : Decoded} {made : FullValues} {b : FullState} (y : IsBefore site after Such d b.state) → DoesThere site d made b (before_values b.units y) → AllByRecursion AnswerFits b.answers → FullComesOut site after [] made [] b
exact_out {site} {after} {d = d} {made = made} {b = b} y w fit =
    let flags = site.context.flags in
    let goes = y.comes.goes in
    let t = y.comes.state in
    let c = put t b in
    let pc = wrap (t.pc + d.len) in
    record {
      steps = 1 + goes.steps;
      state = full_at pc w.after b.answers;
      ran = fiter_after flags 1 goes.steps b c (integer_run flags goes.steps t b goes.ran) ∙ fiter_one flags c (full_at pc w.after b.answers) (unit_next_at c d [] (w.none t) y.comes.course.here y.sized.some y.has ∙ ap (λ r. row_next pc r b.answers) w.row);
      pc = omega arith;
      same = record { ints = same_but [] w.same.ints; units = w.same.units };
      are_values = w.are_values;
      is_state = record { state = record { pc = omega arith; values = w.written }; units = w.units; answers = fit };
      answers = refl;
      setting = w.setting;
      placed = w.placed;
    }

-- Loads, stores and addresses run as they mean.

-- ---- loads

load_out : {site : Site} {start after : ℕ} {s : State} {v : Values} (rd : ℕ) (op : LoadOP) (loc : Location) (trap : Option TrapCode) → IsIntegerLoad op → rd < 30 → IsUsableAt loc → IsRealAt rd loc →
    SlotsOut site start after (slots_of site.context.flags (load_pieces op rd trap loc)) s v [] (set_reg v rd (load_result (load_op op) v.mem (address_at (environment site start after) v loc)))
load_out {site} {start} {after} {s} {v} rd op loc trap integer usable based real e =
    let env = environment site start after in
    let a = address_at env v loc in
    let x = load_result (load_op op) v.mem a in
    let y = load_result (load_op op) s.values.mem (address_at env s.values loc) in
    let same : y ≡ x = ap (load_result (load_op op) s.values.mem) (sym (address_same env v s.values loc based e.same)) ∙ sym (load_same (load_op op) v.mem s.values.mem a e.same.mem) in
    let ps = load_pieces op rd trap loc in
    let r = subst (λ qs. Reaches env ps (point qs s.values) [] (IsLoaded rd y s.values)) (append-nil ps) (load_reaches site start after op rd trap loc s.values integer e.is_state.values (omega arith) based) in
    pieces_out ps [] (set_reg v rd x) (subst AreInRange (append-nil ps) (load_ranges op rd trap loc [] (omega arith) real tt)) e
    (reaches_such (λ u k. subst (λ z. SameBut [] (set_reg v rd z) u) same (loaded_same_but rd y v s.values u e.are_values usable (same_but [] e.same) k)) r)
    (λ all. are_values_set v rd x e.are_values (omega arith) (load_fits (load_op op) v.mem a e.are_values.bytes))

pub load_runs : (site : Site) (setting : EmitVState) (start after : ℕ) (s : State) (v : Values) (rd : Writable Reg) (op : LoadOP) (flags : MemFlagsData) (from : AMode) → IsIntegerLoad op → IsUsable rd.reg → IsUsableAt (location_of site.context.frame from) →
    IsRealAt (number_of rd.reg) (location_of site.context.frame from) → RunsHere site setting (Load rd op flags from) start after s v
load_runs site setting start after s v rd op flags from integer h based real e clear =
    let loc = location_of site.context.frame from in
    let n = number_of rd.reg in
    subst (λ (c : Bool). ComesOut site start after Next [] (if c then v else set_reg v n (load_result (load_op op) v.mem (address_at (environment site start after) v loc))) s) (sym integer)
    (load_out n op loc flags.trap integer h.1 based real (subst (λ (c : Bool). Enters site start after (slots_alone (slots_of site.context.flags (if c then load_pieces op n flags.trap loc else half_load_pieces n flags.trap loc))) s v) (has_integer_load site.context.flags op integer) e))

-- ---- stores

-- of a register that isn't the one in which an address is computed
pub store_out : {site : Site} {start after : ℕ} {s : State} {v : Values} (op : StoreOP) (src : ℕ) (loc : Location) (trap : Option TrapCode) → IsIntegerStore op → src < 31 → IsUsableAt loc → Enters site start after (slots_alone (slots_of site.context.flags (store_pieces op src trap loc))) s v →
    AreOutside site.base (length site.bytes) (addresses_from (address_at (environment site start after) v loc) (store_size op)) →
    ComesOut site start after Next [] (put_bytes v (address_at (environment site start after) v loc) (store_bytes (store_op op) (reg s.values src))) s
store_out {site} {start} {after} {s} {v} op src loc trap integer usable based e clear =
    let env = environment site start after in
    let a = address_at env v loc in
    let bytes = store_bytes (store_op op) (reg s.values src) in
    let ps = store_pieces op src trap loc in
    let r = store_goes site start after op src loc trap v s.values e.is_state.values based e.same in
    writes_out ps (addresses_from a (length bytes) ∷ []) [] (put_bytes v a bytes) (store_ranges op src loc trap) (subst (λ n. AreOutside site.base (length site.bytes) (addresses_from a n)) (sym (stored_length op (reg s.values src))) clear, tt) e
    (goes_on r.reaches (λ u both.
    let kept = both.1.regs src usable in
    let same : SameBut [] v u = record { regs = λ m lt other. e.same.regs m lt ∙ sym (both.1.regs m (omega arith)); mem = λ k. e.same.mem k ∙ ap (λ mem. byte mem k) (sym both.1.mem) } in
    record {
      count = 1;
      values = put_bytes u a bytes;
      ran = ap (λ c. and_then (if not c then Some (points [] (put_bytes u (address u r.base r.offset) (store_bytes (store_op op) (reg u src))) (addresses_from (address u r.base r.offset) (length (store_bytes (store_op op) (reg u src))) ∷ [])) else None) (evaluate env 0 ps)) integer
          ∙ (λ i. Some (points [] (put_bytes u (both.0 i) (store_bytes (store_op op) (kept i))) (addresses_from (both.0 i) (length (store_bytes (store_op op) (kept i))) ∷ [])));
      such = put_same v u a bytes same;
    }))
    (λ all. put_values v a bytes e.are_values (stored_bytes op (reg s.values src)))

pub store_runs : (site : Site) (setting : EmitVState) (start after : ℕ) (s : State) (v : Values) (to : AMode) (op : StoreOP) (flags : MemFlagsData) (src : Reg) → IsIntegerStore op → IsUsable src → IsUsableAt (location_of site.context.frame to) →
    RunsHere site setting (Store src op flags to) start after s v
store_runs site setting start after s v to op flags src integer h based e clear =
    let n = number_of src in
    let loc = location_of site.context.frame to in
    let a = address_at (environment site start after) v loc in
    subst (λ (c : Bool). ComesOut site start after Next [] (if c then v else put_bytes v a (store_bytes (store_op op) (reg v n))) s) (sym integer)
    (subst (λ x. ComesOut site start after Next [] (put_bytes v a (store_bytes (store_op op) x)) s) (sym (e.same.regs n h.1))
    (store_out op n loc flags.trap integer (omega arith) based (subst (λ (c : Bool). Enters site start after (slots_alone (slots_of site.context.flags (if c then store_pieces op n flags.trap loc else half_store_pieces n flags.trap loc))) s v)
    (has_integer_store site.context.flags op integer) e) clear))

-- ---- addresses

pub address_out : {site : Site} {start after : ℕ} {s : State} {v : Values} (rd : ℕ) (loc : Location) → rd < 30 → 0 < rd → IsUsableAt loc → IsApartAt rd loc → SlotsOut site start after (address_slots site.context.flags rd loc) s v [] (set_reg v rd (address_at (environment site start after) v loc))
address_out {site} {start} {after} {s} {v} rd loc usable some based apart e =
    let env = environment site start after in
    let a = address_at env v loc in
    let ps = address_pieces rd loc in
    let r = subst (λ qs. Reaches env ps (point qs s.values) [] (λ u. u ≡ set_reg s.values rd (address_at env s.values loc))) (append-nil ps) (address_reaches site start after rd loc s.values e.is_state.values some (omega arith) apart) in
    let same = sym (address_same env v s.values loc based e.same) in
    let fits = address_fits site start after v loc in
    pieces_out ps [] (set_reg v rd a) (subst AreInRange (append-nil ps) (address_ranges rd loc [] some (omega arith) tt)) e
    (reaches_such (λ u is. subst (SameBut [] (set_reg v rd a)) (sym (is ∙ ap (set_reg s.values rd) same)) (same_but [] (same_set v s.values rd a e.are_values e.is_state.values (omega arith) e.same))) r)
    (λ all. are_values_set v rd a e.are_values (omega arith) fits)
