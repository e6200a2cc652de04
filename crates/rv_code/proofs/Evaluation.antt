-- Where pieces stand, the machine does what their evaluation says.
use Rattle.rv_code.{proofs.Courses.{SetsIn, label_goes, label_load_goes, literal_goes, literal_long, shorter, stands_split, symbol_goes}, proofs.Memories.{load_fits, placed_after, put_values, stored_bytes}}
use Rattle.rv_ops.specs.Operations.{is_carry_line, is_carry_unary}
use Rattle.rv_code.{proofs.OperationActs.{rrr_fits, HasSize, rri_acts, rrr_sized, rri_sized, lui_sized, jalr_sized, load_sized, store_sized, jump_acts, window_long, least_even, least_some, short_rrr_does, short_lui_does, short_load_does, short_store_does}, proofs.Registers.are_values_set}
use Rattle.rv_code.proofs.Steps.{aims_at, istep_here, iter_after, iter_none, iter_one}
use Rattle.rv_code.proofs.Words.{IsAt, Site, StandsIn, State, Values, ints, load_op, same_Some, set_reg, short_jump, slots_of, store_bytes, store_op, trap_bytes, trap_size, wrap, is_float_load, is_float_store, label_load_slots, act, Action, after, alu_result_fits}
use Rattle.rv_code.proofs.Words.{AreInRange, AreValues, at, between, Bind, Branch, branches, CodeHas, Constant, Copy, Decoded, Do, Equal, holds, IntCC, IsaFlags, IsInRange, IsPlacedAt, IsState, istep, Jump, low64, New, op_of, own_label, Piece, piece_size, reg, Distant}
use Rattle.rv_code.proofs.Words.{Literal, NameAddress, OfLabel, OfSymbol, Take, Word32, Word64, distant_slots, literal_slots, literal_size, size_of, slots_for}
use Rattle.rv_code.specs.Evaluation.{label_value, AreShort, distant_value, literal_value, symbol_value, Point, at as points, to, address, is_of_integers, effect, wrote, AllOutside, next, and_then, evaluate, steps_for, steps_on, steps_of, StandIn, IsAtPoint, ComesToPoint}
use Rattle.{rv_code.{specs.InstRuns.environment, specs.Pieces.{Rrr, Rri, Frr, Fence, Amo, Go, Jalr, GoNowhere, IsNoLabel, Load, LoadFrom, Lui, Name, Note, Store}, specs.Slots.{AddressOf, SlotOf}}, rv_inst.{proofs.PlainInsts.not_true, specs.Addresses.inline_size, specs.Meaning.Environment}}
use Rattle.{rv_machine.specs.Steps.iter, rv_ops.specs.declared.memory.LoadOP.TheVariants.Ld}
use Rattle.std.proofs.Common.{◌≡◌, ◌⊎◌, ⊎_elim, inl, inr, ℕ, zero, suc, ◌+◌, ◌*◌, ◌%◌, ◌^◌, ◌<◌, ◌≤◌, ℤ, Bool, true, false, nat_eq, [], ◌∷◌, List, length, Option, Some, None, arith, refl, sym, ap, subst, ◌∙◌, lit<, lit≤, eqb-true, if◌then◌else◌, rules}

pub action_sized : (flags : IsaFlags) (a : Action) → HasSize (op_of flags a)
action_sized flags (Copy width rd rs) = record { even = refl; some = lit< tt; few = lit≤ tt }
action_sized flags (Frr op width rd rs) = record { even = refl; some = lit< tt; few = lit≤ tt }
action_sized flags (Fence pred succ) = record { even = refl; some = lit< tt; few = lit≤ tt }
action_sized flags (Amo op amo rd addr src) = record { even = refl; some = lit< tt; few = lit≤ tt }
action_sized flags _ = search (rules, rrr_sized, rri_sized, lui_sized, load_sized, store_sized)

-- one of integers, in whatever form it stands
action_acts : (flags : IsaFlags) (a : Action) (s : State) → is_of_integers a ≡ true → IsInRange a → IsState s → act (op_of flags a) s ≡ Some (at (wrap (s.pc + (op_of flags a).len)) (effect a s.values))
action_acts flags (Copy width rd rs) s e h is = absurd (cc)
action_acts flags (Frr op width rd rs) s e h is = absurd (cc)
action_acts flags (Amo op amo rd addr src) s e h is = absurd (cc)
action_acts flags (Fence pred succ) s e h is = refl
action_acts flags (Rrr op rd a b) s e h is = (short_rrr_does flags op rd a b (not_true (is_carry_line op b) e)).acts s is.values
action_acts flags (Rri op rd rs imm) s e h is = rri_acts flags op rd rs imm s (not_true (is_carry_unary op) e) h.1 is
action_acts flags (Lui rd imm) s e h is = (short_lui_does flags rd imm).acts s is.values
action_acts flags (Load op rd base offset) s e h is = (short_load_does flags op rd base offset (not_true (is_float_load op) e)).acts s is.values
action_acts flags (Store op base src offset) s e h is = (short_store_does flags op base src offset (not_true (is_float_store op) e)).acts s is.values

pub effect_values : (a : Action) (v : Values) → IsInRange a → AreValues v → AreValues (effect a v)
effect_values (Lui rd imm) v h hv = are_values_set v rd (wrap (low64 imm * 2 ^ 12)) hv h (omega arith)
effect_values _ v h hv = search (rules, are_values_set, rrr_fits, alu_result_fits, load_fits, put_values, stored_bytes)

-- it leaves the code as it was
effect_placed : (site : Site) (a : Action) (v : Values) (m : List (List ℕ)) → AllOutside site (wrote a v m) → IsPlacedAt site v.mem → IsPlacedAt site (effect a v).mem
effect_placed site (Store op base src offset) v m out placed = placed_after site v.mem (address v base offset) (store_bytes (store_op op) (reg v src)) placed out.0
effect_placed site _ v m out placed = placed

-- what was written before is outside, too
wrote_earlier : (site : Site) (a : Action) (v : Values) (m : List (List ℕ)) → AllOutside site (wrote a v m) → AllOutside site m
wrote_earlier site (Store op base src offset) v m out = out.1
wrote_earlier site _ v m out = out

branch_acts : (how : IntCC) (a b : ℕ) (d : ℤ) (s : State) → act (branches how a b d) s ≡ Some (at (if holds how (reg s.values a) (reg s.values b) then wrap (s.pc + low64 d) else wrap (s.pc + 4)) s.values)
branch_acts Equal a b d s = refl
branch_acts _ a b d s = refl

pub trap_long : (flags : IsaFlags) → trap_size flags ≡ length (trap_bytes flags)
trap_long flags = elim flags.has_zca as (λ c. (if c then 2 else 4) ≡ length {A = ℕ} (if c then 0 ∷ 0 ∷ [] else 0 ∷ 0 ∷ 0 ∷ 0 ∷ [])) [ true ↦ refl | false ↦ refl ]

pub piece_even : (flags : IsaFlags) (p : Piece) → piece_size flags p % 2 ≡ 0
piece_even flags (Do a) = (action_sized flags a).even
piece_even flags (Jalr link rs offset) = (jalr_sized flags link rs offset).even
piece_even flags (Constant rd l) =
    let bytes : literal_size l % 2 ≡ 0 = elim l as (λ l. literal_size l % 2 ≡ 0) [ Word32 n ↦ refl | _ ↦ refl ] in
    omega (arith, least_even flags)
piece_even flags _ = omega (arith, window_long flags, least_even flags, trap_long flags)

-- how long the slots of a piece are
pub slots_long : (flags : IsaFlags) (p : Piece) → size_of (slots_for flags p) ≡ piece_size flags p
slots_long flags (Take rd (OfLabel l)) = refl
slots_long flags (LoadFrom op rd None l) = refl
slots_long flags (LoadFrom op rd (Some code) l) = refl
slots_long flags (Constant rd l) = literal_long flags rd l
slots_long flags (Take rd to) = refl
slots_long flags p = omega (arith, trap_long flags)

-- what stands after the first piece
pub rest : {site : Site} {allocated start end : ℕ} (p : Piece) (ps : List Piece) → StandIn site allocated start end (p ∷ ps) → StandIn site allocated (start + piece_size site.context.flags p) end ps
rest {site} {allocated} {start} {end} p ps k =
    search (
      rules,
      arith,
      k,
      (piece_even site.context.flags p),
      (ranges p k.ranges),
      (nowhere p k.bounds),
      (subst (λ n. StandsIn site allocated (start + n) (slots_of site.context.flags ps)) (slots_long site.context.flags p) (stands_split site allocated start (slots_for site.context.flags p) (slots_of site.context.flags ps) k.stand).1),
    )
  where
    ranges : (p : Piece) → AreInRange (p ∷ ps) → AreInRange ps
    ranges (Do a) h = h.1
    ranges (Constant rd l) h = h.1
    ranges (Take rd to) h = h.1
    ranges (LoadFrom op rd trap l) h = h.1
    ranges _ h = h

    nowhere : (p : Piece) → GoNowhere (p ∷ ps) ⊎ AreShort site → GoNowhere ps ⊎ AreShort site
    nowhere (Take rd to) (inl h) = inl h.1
    nowhere (LoadFrom op rd trap l) (inl h) = absurd h
    nowhere (Name constant) (inl h) = absurd h
    nowhere (Go l) (inl h) = absurd h
    nowhere p (inl h) = inl h
    nowhere p (inr h) = inr h

-- where an own label is bound
record IsBound (site : Site) (allocated start end k : ℕ) (ps : List Piece) : Type 0 where
  offset : ℕ
  within : start ≤ offset
  place : site.place (own_label allocated k).number ≡ Some offset
  stand : StandIn site allocated offset end ps

bound : {site : Site} {allocated end : ℕ} (k start : ℕ) (whole ps : List Piece) → after k whole ≡ Some ps → StandIn site allocated start end whole → IsBound site allocated start end k ps
bound k start [] ps e h = absurd (cc)
bound {site} {allocated} {end} k start (Bind j ∷ more) ps e h =
    let after_it : StandIn site allocated start end more = (let none : start + 0 ≡ start = omega arith in subst (λ n. StandIn site allocated n end more) none (rest (Bind j) more h)) in
    (elim (nat_eq j k) as (λ c. nat_eq j k ≡ c → (if c then Some more else after k more) ≡ Some ps → IsBound site allocated start end k ps) [
      | true ↦ λ test f. record { offset = start; within = omega arith; place = ap (λ i. site.place (own_label allocated i).number) (sym (eqb-true j k test)) ∙ h.stand.0; stand = subst (StandIn site allocated start end) (same_Some more ps f) after_it }
      | false ↦ λ test f. bound k start more ps f after_it
    ]) refl e
bound {site} k start (p ∷ more) ps e h =
    let b = bound k (start + piece_size site.context.flags p) more ps e (rest p more h) in
    record { offset = b.offset; within = omega arith; place = b.place; stand = b.stand }

-- where the machine stands, by its counter and its values
stands_at : {site : Site} {allocated start end : ℕ} {ps : List Piece} {v : Values} (t : State) (m : List (List ℕ)) (offset : ℕ) →
    start ≤ offset → IsPlacedAt site t.values.mem → t.pc ≡ wrap (site.base + offset) → AreValues t.values → t.values ≡ v → StandIn site allocated offset end ps → IsAtPoint site allocated start end (points ps v m) t
stands_at t m offset within placed pc values same k = record { offset = offset; within = within; here = record { even = k.even; room = omega arith; placed = placed; pc = pc }; stand = k; is_state = record { pc = omega arith; values = values }; values = same }

stays : {most : ℕ} {site : Site} {allocated start end : ℕ} {p : Point} {s : State} → IsAtPoint site allocated start end p s → ComesToPoint most site allocated start end p s
stays {site = site} {s = s} h = record { state = s; steps = 0; few = omega arith; ran = iter_none site.context.flags s; there = h }

steps_once : {site : Site} {allocated start end : ℕ} {p : Point} {s : State} (t : State) → istep site.context.flags s ≡ Some t → IsAtPoint site allocated start end p t → ComesToPoint 1 site allocated start end p s
steps_once {site} {s = s} t e h = record { state = t; steps = 1; few = lit≤ tt; ran = iter_one site.context.flags s t e; there = h }

-- what was written is outside
outside_at : (site : Site) {r q : Point} → Some r ≡ Some q → AllOutside site q.written → AllOutside site r.written
outside_at site {r} {q} e out = subst (λ (p : Point). AllOutside site p.written) (sym (same_Some r q e)) out

-- it is the same place
is_there : (site : Site) (allocated start end : ℕ) {most : ℕ} {r q : Point} {s : State} → Some r ≡ Some q → ComesToPoint most site allocated start end r s → ComesToPoint most site allocated start end q s
is_there site allocated start end {most} {r} {q} {s} e c = subst (λ p. ComesToPoint most site allocated start end p s) (same_Some r q e) c

-- an operation is done
does : {site : Site} {allocated start end : ℕ} {ps : List Piece} {v : Values} {m : List (List ℕ)} {s : State} (a : Action) → is_of_integers a ≡ true → AllOutside site (wrote a v m) → IsAtPoint site allocated start end (points (Do a ∷ ps) v m) s → ComesToPoint 1 site allocated start end (points ps (effect a v) (wrote a v m)) s
does {site} {allocated} {start} {end} {ps} {v} {m} {s} a of out h =
    let flags = site.context.flags in
    let d = op_of flags a in
    let t = at (wrap (s.pc + d.len)) (effect a s.values) in
    let sized = action_sized flags a in
    let placed = effect_placed site a s.values m (subst (λ w. AllOutside site (wrote a w m)) (sym h.values) out) h.here.placed in
    steps_once t (istep_here d [] t h.here (omega arith) h.stand.stand.0 (action_acts flags a s of h.stand.ranges.0 h.is_state))
    (stands_at t (wrote a v m) (h.offset + d.len) (omega arith) placed (let pc = h.here.pc in omega arith) (effect_values a s.values h.stand.ranges.0 h.is_state.values) (ap (effect a) h.values) (rest (Do a) ps h.stand))

-- the machine comes to an own label
leads : {site : Site} {allocated start end : ℕ} {ps : List Piece} {v : Values} {m : List (List ℕ)} {s : State} (k : ℕ) (whole : List Piece) (q : Point) (p : Piece) (d : ℤ → Decoded) (aim : ℕ) →
    StandIn site allocated start end whole → (o : Option (List Piece)) → after k whole ≡ o → to o v m ≡ Some q → (h : IsAtPoint site allocated start end (points (p ∷ ps) v m) s) →
    0 < piece_size site.context.flags p → site.place (own_label allocated k).number ≡ Some aim → CodeHas site h.offset (d (between h.offset aim) ∷ []) → ((z : ℤ) → act (d z) s ≡ Some (at (wrap (s.pc + low64 z)) s.values)) → ComesToPoint 1 site allocated start end q s
leads {site} {allocated} {start} {end} {ps} {v} {m} {s} k whole q p d aim whole_stands None e f h some place has acts = absurd (cc)
leads {site} {allocated} {start} {end} {ps} {v} {m} {s} k whole q p d aim whole_stands (Some qs) e f h some place has acts =
    let b = bound k start whole qs e whole_stands in
    let same : aim ≡ b.offset = same_Some aim b.offset (sym place ∙ b.place) in
    let t = at (wrap (site.base + b.offset)) s.values in
    let z = between h.offset aim in
    let acts_there = acts z ∙ ap (λ a. Some (at a s.values)) (aims_at aim h.here (omega arith) ∙ ap (λ n. wrap (site.base + n)) same) in
    is_there site allocated start end f (steps_once t (istep_here (d z) [] t h.here (omega arith) has acts_there) (stands_at t m b.offset b.within h.here.placed refl h.is_state.values h.values b.stand))

-- the machine goes on, without a step
passes : {site : Site} {allocated start end : ℕ} {ps : List Piece} {v : Values} {m : List (List ℕ)} {s : State} (p : Piece) → piece_size site.context.flags p ≡ 0 → IsAtPoint site allocated start end (points (p ∷ ps) v m) s → ComesToPoint 0 site allocated start end (points ps v m) s
passes {site} {ps = ps} {m = m} {s = s} p none h = stays (stands_at s m (h.offset + piece_size site.context.flags p) (omega arith) h.here.placed (let pc = h.here.pc in omega arith) h.is_state.values h.values (rest p ps h.stand))

-- a register gets a number in so many steps
sets_here : {site : Site} {allocated start end : ℕ} {ps : List Piece} {v w : Values} {m : List (List ℕ)} {s : State} (p : Piece) (rd x steps : ℕ) → iter site.context.flags steps s ≡ Some (at (wrap (s.pc + piece_size site.context.flags p)) (set_reg s.values rd x)) → x < 2 ^ 64 → rd < 32 → set_reg s.values rd x ≡ w → IsAtPoint site allocated start end (points (p ∷ ps) v m) s →
    ComesToPoint steps site allocated start end (points ps w m) s
sets_here {site} {ps = ps} {s = s} p rd x steps ran fits lt same h =
    let size = piece_size site.context.flags p in
    let t = at (wrap (s.pc + size)) (set_reg s.values rd x) in
    record { state = t; steps = steps; few = omega arith; ran = ran; there = stands_at t _ (h.offset + size) (omega arith) h.here.placed (let pc = h.here.pc in omega arith) (are_values_set s.values rd x h.is_state.values lt fits) same (rest p ps h.stand) }

pub literal_fits : (env : Environment) (l : Literal) → literal_value env l < 2 ^ 64
literal_fits env l = elim l as (λ l. literal_value env l < 2 ^ 64) [ Word32 n ↦ omega (arith, ints) | Word64 n ↦ omega arith | NameAddress name addend ↦ omega arith ]

distant_goes : {site : Site} {offset : ℕ} {s : State} (first last allocated rd : ℕ) (to : Distant) → 0 < rd → rd < 32 → IsNoLabel to ⊎ AreShort site → IsState s → IsAt site offset 8 s → StandsIn site allocated offset (distant_slots rd to) → SetsIn 2 site.context.flags 8 s rd (distant_value (environment site first last) to s.values.mem)
distant_goes first last allocated rd (OfLabel l) some lt (inl none) is_state h stands = absurd none
distant_goes first last allocated rd (OfLabel l) some lt (inr bounds) is_state h stands = label_goes allocated rd l some lt bounds is_state h stands
distant_goes first last allocated rd (OfSymbol symbol) some lt bounds is_state h stands = symbol_goes first last allocated rd symbol some lt is_state h stands

pub distant_fits : (site : Site) (first last : ℕ) (to : Distant) (s : State) → IsState s → distant_value (environment site first last) to s.values.mem < 2 ^ 64
distant_fits site first last (OfLabel l) s is = omega arith
distant_fits site first last (OfSymbol symbol) s is = elim symbol as (λ symbol. symbol_value (environment site first last) symbol s.values.mem < 2 ^ 64) [ AddressOf name addend ↦ omega arith | SlotOf name ↦ load_fits (load_op Ld) s.values.mem (site.slot name.number) is.values.bytes ]

pub one : {site : Site} {allocated start end : ℕ} (first last : ℕ) (whole : List Piece) → StandIn site allocated start end whole → (ps : List Piece) (v : Values) (m : List (List ℕ)) (q : Point) (s : State) → next (environment site first last) whole ps v m ≡ Some q → AllOutside site q.written → IsAtPoint site allocated start end (points ps v m) s → ComesToPoint (steps_for ps) site allocated start end q s
one {site} {allocated} {start} {end} first last whole k (Do a ∷ ps) v m q s e out h =
    (elim (is_of_integers a) as (λ c. is_of_integers a ≡ c → (if c then Some (points ps (effect a v) (wrote a v m)) else None) ≡ Some q → ComesToPoint 1 site allocated start end q s)
    [ true ↦ λ of f. is_there site allocated start end f (does a of (outside_at site f out) h) | false ↦ λ of f. absurd (cc) ]) refl e
one {site} {allocated} {start} {end} first last whole k (Constant rd l ∷ ps) v m q s e out h =
    let flags = site.context.flags in
    let size = inline_size flags (literal_size l) in
    let range = h.stand.ranges.0 in
    let there = stands_split site allocated h.offset (literal_slots flags rd l) (slots_of flags ps) h.stand.stand in
    let goes = literal_goes first last allocated rd l range.0 range.1 h.is_state (shorter size h.here (omega arith)) there.0 in
    is_there site allocated start end e (sets_here (Constant rd l) rd (literal_value (environment site first last) l) 3 goes.ran (literal_fits (environment site first last) l) range.1 (ap (λ w. set_reg w rd (literal_value (environment site first last) l)) h.values) h)
one {site} {allocated} {start} {end} first last whole k (Take rd to ∷ ps) v m q s e out h =
    let flags = site.context.flags in
    let range = h.stand.ranges.0 in
    let there = stands_split site allocated h.offset (distant_slots rd to) (slots_of flags ps) h.stand.stand in
    let bounds : IsNoLabel to ⊎ AreShort site = ⊎_elim (λ (n : GoNowhere (Take rd to ∷ ps)). inl n.0) (λ (b : AreShort site). inr b) h.stand.bounds in
    let goes = distant_goes first last allocated rd to range.0 range.1 bounds h.is_state (shorter 8 h.here (omega arith)) there.0 in
    is_there site allocated start end e (sets_here (Take rd to) rd (distant_value (environment site first last) to s.values.mem) 2 goes.ran (distant_fits site first last to s h.is_state) range.1 (ap (λ w. set_reg w rd (distant_value (environment site first last) to w.mem)) h.values) h)
one {site} {allocated} {start} {end} first last whole k (LoadFrom op rd trap l ∷ ps) v m q s e out h =
    let flags = site.context.flags in
    let env = environment site first last in
    let x = label_value env op l s.values.mem in
    let range = h.stand.ranges.0 in
    let bounds : AreShort site = ⊎_elim (λ (n : GoNowhere (LoadFrom op rd trap l ∷ ps)). absurd n) (λ (b : AreShort site). b) h.stand.bounds in
    (elim (is_float_load op) as (λ c. is_float_load op ≡ c → (if c then None else Some (points ps (set_reg v rd (label_value env op l v.mem)) m)) ≡ Some q → ComesToPoint 2 site allocated start end q s) [
      | true ↦ λ float f. absurd (cc)
      | false ↦ λ integer f.
          let stands = subst (λ (c : Bool). StandsIn site allocated h.offset (label_load_slots (if c then 31 else rd) rd op trap l)) integer (stands_split site allocated h.offset (slots_for flags (LoadFrom op rd trap l)) (slots_of flags ps) h.stand.stand).0 in
          let goes = label_load_goes allocated rd op trap l integer (range.0 integer) range.1 bounds h.is_state (shorter 8 h.here (omega arith)) stands in
          is_there site allocated start end f (sets_here (LoadFrom op rd trap l) rd x 2 goes.ran (load_fits (load_op op) s.values.mem (env.label l.number) h.is_state.values.bytes) range.1 (ap (λ w. set_reg w rd (label_value env op l w.mem)) h.values) h)
    ]) refl e
one {site} {allocated} {start} {end} first last whole k (Note event ∷ ps) v m q s e out h = is_there site allocated start end e (passes (Note event) refl h)
one {site} {allocated} {start} {end} first last whole k (Name constant ∷ ps) v m q s e out h = is_there site allocated start end e (passes (Name constant) refl h)
one {site} {allocated} {start} {end} first last whole k (Branch how a b j ∷ ps) v m q s e out h =
    let aim = h.stand.stand.0 in
    let test = holds how (reg s.values a) (reg s.values b) in
    let acts = λ (z : ℤ) (c : Bool) (is : test ≡ c). branch_acts how a b z s ∙ ap (λ c. Some (at (if c then wrap (s.pc + low64 z) else wrap (s.pc + 4)) s.values)) is in
    let t = at (wrap (s.pc + 4)) s.values in
    (elim test as (λ c. test ≡ c → (if c then to (after j whole) v m else Some (points ps v m)) ≡ Some q → ComesToPoint 1 site allocated start end q s) [
      | true ↦ λ is f. leads j whole q (Branch how a b j) (branches how a b) aim.to k (after j whole) refl f h (lit< tt) aim.reaches aim.has (λ z. acts z true is)
      | false ↦ λ is f. is_there site allocated start end f (steps_once t (istep_here (branches how a b (between h.offset aim.to)) [] t h.here (omega arith) aim.has (acts (between h.offset aim.to) false is))
          (stands_at t m (h.offset + 4) (omega arith) h.here.placed (let pc = h.here.pc in omega arith) h.is_state.values h.values (rest (Branch how a b j) ps h.stand)))
    ]) refl (ap (λ w. if holds how (reg w a) (reg w b) then to (after j whole) v m else Some (points ps v m)) h.values ∙ e)
one {site} {allocated} {start} {end} first last whole k (Jump j ∷ ps) v m q s e out h =
    let long = window_long site.context.flags in
    let some = least_some site.context.flags in
    let aim = h.stand.stand.0 in
    leads j whole q (Jump j) (short_jump site.context.flags) aim.to k (after j whole) refl e h (omega arith) aim.reaches aim.has (λ z. jump_acts site.context.flags z s)
one {site} {allocated} {start} {end} first last whole k (New ∷ ps) v m q s e out h = is_there site allocated start end e (passes New refl h)
one {site} {allocated} {start} {end} first last whole k (Bind j ∷ ps) v m q s e out h = is_there site allocated start end e (passes (Bind j) refl h)
one first last whole k _ v m q s e out h = absurd (cc)

-- what was written before is outside, where all is
to_earlier : (site : Site) (o : Option (List Piece)) (v : Values) (m : List (List ℕ)) (q : Point) → to o v m ≡ Some q → AllOutside site q.written → AllOutside site m
to_earlier site None v m q e out = absurd (cc)
to_earlier site (Some ps) v m q e out = outside_at site e out

one_earlier : (env : Environment) (site : Site) (whole ps : List Piece) (v : Values) (m : List (List ℕ)) (q : Point) → next env whole ps v m ≡ Some q → AllOutside site q.written → AllOutside site m
one_earlier env site whole (Do a ∷ ps) v m q e out =
    (elim (is_of_integers a) as (λ c. (if c then Some (points ps (effect a v) (wrote a v m)) else None) ≡ Some q → AllOutside site m)
    [ true ↦ λ f. wrote_earlier site a v m (outside_at site f out) | false ↦ λ f. absurd (cc) ]) e
one_earlier env site whole (LoadFrom op rd trap l ∷ ps) v m q e out =
    (elim (is_float_load op) as (λ c. (if c then None else Some (points ps (set_reg v rd (label_value env op l v.mem)) m)) ≡ Some q → AllOutside site m)
    [ true ↦ λ f. absurd (cc) | false ↦ λ f. outside_at site f out ]) e
one_earlier env site whole (Branch how a b k ∷ ps) v m q e out =
    (elim (holds how (reg v a) (reg v b)) as (λ c. (if c then to (after k whole) v m else Some (points ps v m)) ≡ Some q → AllOutside site m)
    [ true ↦ λ f. to_earlier site (after k whole) v m q f out | false ↦ λ f. outside_at site f out ]) e
one_earlier env site whole (Jump k ∷ ps) v m q e out = to_earlier site (after k whole) v m q e out
one_earlier env site whole _ v m q e out = search (rules, outside_at)

all_earlier : (env : Environment) (site : Site) (whole : List Piece) (n : ℕ) (p q : Point) → evaluate env n whole p ≡ Some q → AllOutside site q.written → AllOutside site p.written
all_earlier env site whole zero p q e out = outside_at site e out
all_earlier env site whole (suc n) p q e out =
    (elim (next env whole p.ahead p.values p.written) as (λ o. next env whole p.ahead p.values p.written ≡ o → and_then o (evaluate env n whole) ≡ Some q → AllOutside site p.written)
    [ None ↦ λ is f. absurd (cc) | Some r ↦ λ is f. one_earlier env site whole p.ahead p.values p.written r is (all_earlier env site whole n r q f out) ]) refl e

pub pieces_run : (site : Site) (first last allocated start end : ℕ) (whole : List Piece) → StandIn site allocated start end whole → (n : ℕ) (p q : Point) (s : State) → evaluate (environment site first last) n whole p ≡ Some q → AllOutside site q.written → IsAtPoint site allocated start end p s → ComesToPoint (steps_of (environment site first last) n whole p) site allocated start end q s
pieces_run site first last allocated start end whole k zero p q s e out h = is_there site allocated start end e (stays h)
pieces_run site first last allocated start end whole k (suc n) p q s e out h =
    (elim (next (environment site first last) whole p.ahead p.values p.written) as (λ o. next (environment site first last) whole p.ahead p.values p.written ≡ o → and_then o (evaluate (environment site first last) n whole) ≡ Some q → ComesToPoint (steps_for p.ahead + steps_on o (steps_of (environment site first last) n whole)) site allocated start end q s) [
      | None ↦ λ is f. absurd (cc)
      | Some r ↦ λ is f.
          let c = one first last whole k p.ahead p.values p.written r s is (all_earlier (environment site first last) site whole n r q f out) h in
          let d = pieces_run site first last allocated start end whole k n r q c.state f out c.there in
          let few = d.few in let first = c.few in
          record { state = d.state; steps = d.steps + c.steps; few = omega arith; ran = iter_after site.context.flags d.steps c.steps s c.state d.state c.ran d.ran; there = d.there }
    ]) refl e
