-- A run of the integer machine, where no unit goes on at its end, is the run of the machine with all units.
use Rattle.std.proofs.Common.{◌≡◌, ℕ, zero, suc, ◌+◌, ◌-◌, ◌<◌, Bool, true, false, [], Option, refl, sym, ap, ◌∙◌, subst, arith}
use Rattle.std.specs.Prelude.{Some, None, is_some, if◌then◌else◌, ◌==◌, ◌%◌, ◌&&◌, nat_eq}
use Rattle.std.specs.Option.{option_map_or}
use Rattle.rv_base.specs.declared.flags.IsaFlags.{IsaFlags}
use Rattle.rv_machine.specs.declared.decoding.Decoded.{Decoded}
use Rattle.rv_machine.specs.declared.ops.MOp.{MOp}
use Rattle.rv_machine.specs.declared.ops.MOp.TheVariants.{Base, Load, Store, Alu, Carry, Atomic, Csr, FloatLoad, FloatStore, Float, VecMem, Vec}
use Rattle.rv_machine.specs.Decode.{decode, int_decode, or_else}
use Rattle.rv_machine.specs.UnitDecode.{unit_decode}
use Rattle.rv_machine.specs.State.{State, wrap}
use Rattle.rv_machine.specs.Steps.{fetch, istep, iter, then_step}
use Rattle.rv_full.specs.Units.{FullState, FullValues, put, values_of}
use Rattle.rv_full.specs.Rows.{Absent}
use Rattle.rv_full.specs.UnitRows.{row_of}
use Rattle.rv_full.specs.Steps.{Next, Halts, fnext, fiter, then_fstep, next_by, row_next, unit_on, unit_next}
use Rattle.rv_steps.specs.Running.{Runs, ending_by, is_break, is_break_op, offset_in, stop_of, word_at}
use Rattle.rv_steps.specs.Callees.{RunsFor, steps_with, then_step_with, call_in, calls_in}
use Rattle.rv_steps.specs.FullRunning.{IsIntegerEnd, full_ending_of, full_ending_by, stop_by}
use Rattle.rv_steps.specs.declared.ending.Ending.{Ending}
use Rattle.rv_steps.specs.declared.ending.Ending.TheVariants.{Limit, Break, NoOperation}

-- what is proved of runs of the integer machine
abbrev pub IntegerLaw : Type 0
IntegerLaw = (flags : IsaFlags) (k : ℕ) (t : State) (b : FullState) → iter flags k b.state ≡ Some t → fiter flags k b ≡ Some (put t b)

-- ---- no unit goes on at ebreak

break_row : (op : MOp) (d : Decoded) (v : FullValues) → is_break_op op ≡ true → row_of op d v ≡ Absent
break_row (Base op) d v e = refl
break_row (Load op) d v e = refl
break_row (Store op) d v e = refl
break_row (Alu op) d v e = refl
break_row (Carry op) d v e = absurd (cc)
break_row (Atomic op width) d v e = absurd (cc)
break_row (Csr op) d v e = absurd (cc)
break_row (FloatLoad format) d v e = absurd (cc)
break_row (FloatStore format) d v e = absurd (cc)
break_row (Float format op) d v e = absurd (cc)
break_row (VecMem op) d v e = absurd (cc)
break_row (Vec funct6 funct3) d v e = absurd (cc)

break_on : (o other : Option Decoded) (b : FullState) → option_map_or (λ d. is_break_op d.op) o false ≡ true → unit_on (or_else o other) b ≡ Halts
break_on None other b e = absurd (cc)
break_on (Some d) other b e = ap (λ row. row_next (wrap (b.state.pc + d.len)) row b.answers) (break_row d.op d (values_of b) e)

even_halts : (even : Bool) (next : Next) → next ≡ Halts → (if even then next else Halts) ≡ Halts
even_halts true next e = e
even_halts false next e = refl

and_right : (a b : Bool) → (a && b) ≡ true → b ≡ true
and_right true b e = e
and_right false b e = absurd (cc)

break_halts : (flags : IsaFlags) (b : FullState) → is_break flags b.state ≡ true → unit_next flags b ≡ Halts
unfolding decode
break_halts flags b e =
    even_halts (nat_eq (b.state.pc % 2) 0) (unit_on (decode flags (fetch b.state.values.mem b.state.pc)) b)
    (break_on (int_decode flags (word_at b.state)) (unit_decode flags (word_at b.state)) b
    (and_right (b.state.pc % 2 == 0) (option_map_or (λ d. is_break_op d.op) (int_decode flags (word_at b.state)) false) e))

-- ---- the same ending

halts_by : (flags : IsaFlags) (b : FullState) (o : Option State) → o ≡ istep flags b.state → next_by flags o b ≡ fnext flags b
unfolding fnext
halts_by flags b o e = ap (λ s. next_by flags s b) e

stop_ends : (flags : IsaFlags) (offset : ℕ) (b : FullState) (is : Bool) → is ≡ is_break flags b.state → istep flags b.state ≡ None
    → IsIntegerEnd flags b (if is then Break offset else NoOperation offset (word_at b.state)) → fnext flags b ≡ Halts
unfolding fnext
stop_ends flags offset b true e none end = ap (λ s. next_by flags s b) none ∙ break_halts flags b (sym e)
stop_ends flags offset b false e none end = end

-- where the machine has no integer step
inside_stops : (flags : IsaFlags) (offset : ℕ) (b : FullState) (ending : Ending) (next : Option State) → next ≡ istep flags b.state
    → (if is_some next then None else Some (stop_of flags offset b.state)) ≡ Some ending → IsIntegerEnd flags b ending → stop_by flags offset b (fnext flags b) ≡ Some ending
inside_stops flags offset b ending (Some t) e ends end = absurd (cc)
inside_stops flags offset b ending None e ends end =
    let is : stop_of flags offset b.state ≡ ending = cc in
    ap (stop_by flags offset b) (stop_ends flags offset b (is_break flags b.state) refl (sym e) (subst (λ x. IsIntegerEnd flags b x) (sym is) end)) ∙ ap Some is

at_limit : (flags : IsaFlags) (limit k offset : ℕ) (b : FullState) (ending : Ending) (last : Bool) → last ≡ (k == limit)
    → (if last then Some Limit else if is_some (istep flags b.state) then None else Some (stop_of flags offset b.state)) ≡ Some ending → IsIntegerEnd flags b ending
    → (if last then Some Limit else stop_by flags offset b (fnext flags b)) ≡ Some ending
at_limit flags limit k offset b ending true e ends end = ends
at_limit flags limit k offset b ending false e ends end = inside_stops flags offset b ending (istep flags b.state) refl ends end

by_offset : (flags : IsaFlags) (limit k : ℕ) (b : FullState) (ending : Ending) (o : Option ℕ) → ending_by flags limit k b.state o ≡ Some ending → IsIntegerEnd flags b ending
    → full_ending_by flags limit k b o ≡ Some ending
by_offset flags limit k b ending None ends end = ends
by_offset flags limit k b ending (Some offset) ends end = at_limit flags limit k offset b ending (k == limit) refl ends end

-- ---- and none before it

goes_on : (flags : IsaFlags) (offset : ℕ) (b : FullState) (next : Option State) → next ≡ istep flags b.state → (if is_some next then None else Some (stop_of flags offset b.state)) ≡ None
    → stop_by flags offset b (fnext flags b) ≡ None
unfolding fnext
goes_on flags offset b None e none = absurd (cc)
goes_on flags offset b (Some t) e none = ap (λ s. stop_by flags offset b (next_by flags s b)) (sym e)

below_limit : (flags : IsaFlags) (offset : ℕ) (b : FullState) (last : Bool)
    → (if last then Some Limit else if is_some (istep flags b.state) then None else Some (stop_of flags offset b.state)) ≡ None
    → (if last then Some Limit else stop_by flags offset b (fnext flags b)) ≡ None
below_limit flags offset b true none = absurd (cc)
below_limit flags offset b false none = goes_on flags offset b (istep flags b.state) refl none

still_by : (flags : IsaFlags) (limit k : ℕ) (b : FullState) (o : Option ℕ) → ending_by flags limit k b.state o ≡ None → full_ending_by flags limit k b o ≡ None
still_by flags limit k b None none = absurd (cc)
still_by flags limit k b (Some offset) none = below_limit flags offset b (k == limit) none

-- ---- steps before the last

-- a state after fewer steps
before_some : (flags : IsaFlags) (more j : ℕ) (s t : State) → iter flags (more + j) s ≡ Some t → (r : State) × (iter flags j s ≡ Some r)
unfolding iter
before_some flags zero j s t e = (t, ap (λ n. iter flags n s) zero_more ∙ e)
  where
    zero_more : j ≡ 0 + j
    zero_more = omega arith
before_some flags (suc more) j s t e = after (iter flags (more + j) s) (sym one_more ∙ e) (λ r is. before_some flags more j s r is)
  where
    one_more : iter flags (suc more + j) s ≡ then_step flags (iter flags (more + j) s)
    one_more = let same : suc more + j ≡ suc (more + j) = omega arith in ap (λ n. iter flags n s) same

    after : (o : Option State) → then_step flags o ≡ Some t → ((r : State) → o ≡ Some r → (r : State) × (iter flags j s ≡ Some r)) → (r : State) × (iter flags j s ≡ Some r)
    after None e first = absurd (cc)
    after (Some r) e first = first r refl

earlier : (flags : IsaFlags) (j k : ℕ) (s t : State) → j < k → iter flags k s ≡ Some t → (r : State) × (iter flags j s ≡ Some r)
earlier flags j k s t lt e =
    let same : k ≡ (k - j) + j = omega (arith, lt) in
    before_some flags (k - j) j s t (ap (λ n. iter flags n s) (sym same) ∙ e)

-- ---- the run

same_full : (b c : FullState) → Some b ≡ Some c → b ≡ c
same_full b c e = cc

-- without callees each step is the machine's
pub own_steps : (flags : IsaFlags) (k : ℕ) (b : FullState) → steps_with [] flags k b ≡ fiter flags k b
unfolding steps_with fiter
own_steps flags zero b = refl
own_steps flags (suc k) b = ap (then_step_with [] flags) (own_steps flags k b) ∙ own_step flags (fiter flags k b)
  where
    own_step : (flags : IsaFlags) (o : Option FullState) → then_step_with [] flags o ≡ then_fstep flags o
    own_step flags None = refl
    own_step flags (Some b) = refl

no_call : (o : Option FullState) → call_in [] o ≡ 0
no_call None = refl
no_call (Some b) = refl

pub no_calls : (flags : IsaFlags) (k : ℕ) (b : FullState) → calls_in [] flags k b ≡ 0
no_calls flags zero b = refl
no_calls flags (suc k) b = λ j. no_calls flags k b j + no_call (steps_with [] flags k b) j

own_law : IntegerLaw → (flags : IsaFlags) (k : ℕ) (t : State) (b : FullState) → iter flags k b.state ≡ Some t → steps_with [] flags k b ≡ Some (put t b)
own_law law flags k t b e = own_steps flags k b ∙ law flags k t b e

integer_run : (law : IntegerLaw) (flags : IsaFlags) (base len limit : ℕ) (b : FullState) (k : ℕ) (t : State) (ending : Ending) → Runs flags base len limit b.state k t ending
    → IsIntegerEnd flags (put t b) ending → RunsFor [] flags base len limit b k (put t b) ending
integer_run law flags base len limit b k t ending ran end = record {
  steps = own_law law flags k t b ran.steps;
  ends = by_offset flags limit k (put t b) ending (offset_in base len t.pc) ran.ends end;
  on = λ j c lt reached.
      let before = earlier flags j k b.state t lt ran.steps in
      let r = before.0 in
      let is : put r b ≡ c = same_full (put r b) c (sym (own_law law flags j r b before.1) ∙ reached) in
      subst (λ (x : FullState). full_ending_of flags base len limit j x ≡ None) is
      (still_by flags limit j (put r b) (offset_in base len r.pc) (ran.on j r lt before.1));
}

-- ---- there is one run

not_both : (o : Option Ending) (ending : Ending) → o ≡ None → o ≡ Some ending → ⊥
not_both o ending e f = absurd (cc)

same_ending : (o : Option Ending) (e f : Ending) → o ≡ Some e → o ≡ Some f → e ≡ f
same_ending o e f a b = cc

module _ (flags : IsaFlags) (base len limit : ℕ) (first : FullState) (j : ℕ) (c : FullState) (e : Ending) (k : ℕ) (d : FullState) (f : Ending)
    (one : RunsFor [] flags base len limit first j c e) (other : RunsFor [] flags base len limit first k d f) where
  not_before : j < k → ⊥
  not_before lt = not_both (full_ending_of flags base len limit j c) e (other.on j c lt one.steps) one.ends

  not_after : k < j → ⊥
  not_after lt = not_both (full_ending_of flags base len limit k d) f (one.on k d lt other.steps) other.ends

  as_many : j ≡ k
  as_many = omega (arith, not_before, not_after)

pub as_integer : (law : IntegerLaw) (flags : IsaFlags) (base len limit : ℕ) (first : FullState) (j : ℕ) (last : FullState) (ending : Ending)
    → RunsFor [] flags base len limit first j last ending
    → (k : ℕ) (t : State) (other : Ending) → Runs flags base len limit first.state k t other → IsIntegerEnd flags (put t first) other
    → (j ≡ k) × (last ≡ put t first) × (ending ≡ other)
as_integer law flags base len limit first j last ending ran k t other integer end =
    let run = integer_run law flags base len limit first k t other integer end in
    let many : j ≡ k = as_many flags base len limit first j last ending k (put t first) other ran run in
    let states : last ≡ put t first = same_full last (put t first) (sym ran.steps ∙ ap (λ n. steps_with [] flags n first) many ∙ run.steps) in (
      many,
      states,
      same_ending (full_ending_of flags base len limit j last) ending other ran.ends
          ((λ i. full_ending_of flags base len limit (many i) (states i)) ∙ run.ends),
    )
