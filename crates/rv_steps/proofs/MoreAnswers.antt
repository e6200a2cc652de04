-- More answers, after those that are left, change no run that goes on without them.
use Rattle.std.proofs.Common.{◌≡◌, ℕ, zero, suc, ◌+◌, ◌-◌, ◌<◌, Bool, true, false, List, [], ◌∷◌, ◌++◌, Option, refl, sym, ap, ◌∙◌, subst, arith}
use Rattle.std.specs.Prelude.{Some, None, if◌then◌else◌, ◌*◌, ◌/◌, ◌==◌, ◌%◌, nat_eq}
use Rattle.rv_base.specs.declared.flags.IsaFlags.{IsaFlags}
use Rattle.rv_machine.specs.declared.decoding.Decoded.{Decoded}
use Rattle.rv_machine.specs.Decode.{decode}
use Rattle.rv_machine.specs.State.{State, at, reg, wrap}
use Rattle.rv_machine.specs.Steps.{fetch, istep}
use Rattle.rv_full.specs.declared.answer.Answer.{Answer}
use Rattle.rv_full.specs.Units.{FullState, FullValues, full_at, put, values_of}
use Rattle.rv_full.specs.Rows.{Kind, Row, Absent, Does, Takes, fits, first, rest}
use Rattle.rv_full.specs.UnitRows.{unit_row}
use Rattle.rv_full.specs.Steps.{Next, Goes, Asks, Halts, taken, row_next, unit_on, next_by, fnext, fstep, stepped}
use Rattle.rv_load.specs.declared.callees.Callee.{Callee}
use Rattle.rv_load.specs.declared.settings.RegisterValue.{RegisterValue}
use Rattle.rv_base.specs.declared.regs.RegClass.{RegClass}
use Rattle.rv_base.specs.declared.regs.RegClass.TheVariants.{Int, Float, Vector}
use Rattle.rv_steps.specs.declared.ending.Ending.{Ending}
use Rattle.rv_steps.specs.declared.ending.Ending.TheVariants.{Left, Limit, Break, NoOperation, NeedsAnswer}
use Rattle.rv_steps.specs.Computed.{with_more}
use Rattle.rv_steps.specs.Callees.{callee_at, ending_at, ending_with, returned, step_at, step_with, steps_with, then_step_with}
use Rattle.rv_steps.specs.FullRunning.{IsIntegerEnd, full_ending_by, stop_by}
use Rattle.rv_steps.specs.Starting.{set_register, set_registers}
use Rattle.rv_steps.specs.Running.{offset_in}
use Rattle.rv_steps.proofs.Going.{Going}

-- what comes next is the same with more answers, but that an answer that was asked may be there
abbrev IsAlike : List Answer → Next → Next → Type 0
IsAlike more (Goes b) next = next ≡ Goes (with_more more b)
IsAlike more Asks next = Unit {0}
IsAlike more Halts next = next ≡ Halts

either_alike : (b : Bool) (more : List Answer) (m n : Next) → IsAlike more m n → IsAlike more (if b then m else Asks) (if b then n else Asks)
either_alike true more m n alike = alike
either_alike false more m n alike = tt

taken_alike : (pc : ℕ) (kind : Kind) (f : Answer → FullValues) (answers more : List Answer) → IsAlike more (taken pc kind f (first answers) (rest answers)) (taken pc kind f (first (answers ++ more)) (rest (answers ++ more)))
taken_alike pc kind f [] more = tt
taken_alike pc kind f (a ∷ answers) more = either_alike (fits kind a) more (Goes (full_at pc (f a) answers)) (Goes (full_at pc (f a) (answers ++ more))) refl

row_alike : (pc : ℕ) (row : Row) (answers more : List Answer) → IsAlike more (row_next pc row answers) (row_next pc row (answers ++ more))
row_alike pc Absent answers more = refl
row_alike pc (Does v) answers more = refl
row_alike pc (Takes kind f) answers more = taken_alike pc kind f answers more

unit_alike : (o : Option Decoded) (b : FullState) (more : List Answer) → IsAlike more (unit_on o b) (unit_on o (with_more more b))
unit_alike None b more = refl
unit_alike (Some d) b more = row_alike (wrap (b.state.pc + d.len)) (unit_row d (values_of b)) b.answers more

even_alike : (even : Bool) (more : List Answer) (m n : Next) → IsAlike more m n → IsAlike more (if even then m else Halts) (if even then n else Halts)
even_alike true more m n alike = alike
even_alike false more m n alike = refl

by_alike : (flags : IsaFlags) (o : Option State) (b : FullState) (more : List Answer) → IsAlike more (next_by flags o b) (next_by flags o (with_more more b))
by_alike flags None b more =
    let d = decode flags (fetch b.state.values.mem b.state.pc) in
    even_alike (nat_eq (b.state.pc % 2) 0) more (unit_on d b) (unit_on d (with_more more b)) (unit_alike d b more)
by_alike flags (Some t) b more = refl

next_alike : (flags : IsaFlags) (b : FullState) (more : List Answer) → IsAlike more (fnext flags b) (fnext flags (with_more more b))
unfolding fnext
next_alike flags b more = by_alike flags (istep flags b.state) b more

-- ---- steps

stepped_alike : (more : List Answer) (m n : Next) (c : FullState) → IsAlike more m n → stepped m ≡ Some c → stepped n ≡ Some (with_more more c)
stepped_alike more (Goes b) n c alike e = ap stepped alike ∙ ap (λ o. some_more o) e
  where
    some_more : Option FullState → Option FullState
    some_more None = None
    some_more (Some s) = Some (with_more more s)
stepped_alike more Asks n c alike e = absurd (cc)
stepped_alike more Halts n c alike e = absurd (cc)

own_step_more : (flags : IsaFlags) (more : List Answer) (b c : FullState) → fstep flags b ≡ Some c → fstep flags (with_more more b) ≡ Some (with_more more c)
own_step_more flags more b c e = stepped_alike more (fnext flags b) (fnext flags (with_more more b)) c (next_alike flags b more) e

-- a callee's
set_more : (class : RegClass) (n x : ℕ) (more : List Answer) (b : FullState) → set_register (with_more more b) class n x ≡ with_more more (set_register b class n x)
set_more Int n x more b = refl
set_more Float n x more b = refl
set_more Vector n x more b = refl

sets_more : (rs : List RegisterValue) (more : List Answer) (b : FullState) → set_registers (with_more more b) rs ≡ with_more more (set_registers b rs)
sets_more [] more b = refl
sets_more (r ∷ rs) more b =
    ap (λ c. set_registers c rs) (set_more r.register.class r.register.number r.value more b) ∙ sets_more rs more (set_register b r.register.class r.register.number r.value)

returned_more : (c : Callee) (more : List Answer) (b : FullState) → returned c (with_more more b) ≡ with_more more (returned c b)
returned_more c more b = sets_more c.registers more (put (at (reg b.state.values 1 / 2 * 2) b.state.values) b)

step_at_more : (o : Option Callee) (flags : IsaFlags) (more : List Answer) (b c : FullState) → step_at o flags b ≡ Some c → step_at o flags (with_more more b) ≡ Some (with_more more c)
step_at_more None flags more b c e = own_step_more flags more b c e
step_at_more (Some callee) flags more b c e = let same : returned callee b ≡ c = cc in ap Some (returned_more callee more b ∙ ap (with_more more) same)

step_more : (callees : List Callee) (flags : IsaFlags) (more : List Answer) (b c : FullState) → step_with callees flags b ≡ Some c → step_with callees flags (with_more more b) ≡ Some (with_more more c)
step_more callees flags more b c e = step_at_more (callee_at callees b.state.pc) flags more b c e

pub run_more : (callees : List Callee) (flags : IsaFlags) (more : List Answer) (k : ℕ) (b c : FullState) → steps_with callees flags k b ≡ Some c → steps_with callees flags k (with_more more b) ≡ Some (with_more more c)
unfolding steps_with
run_more callees flags more zero b c e = ap (λ o. some_more o) e
  where
    some_more : Option FullState → Option FullState
    some_more None = None
    some_more (Some s) = Some (with_more more s)
run_more callees flags more (suc k) b c e = after (steps_with callees flags k b) e (λ r is. run_more callees flags more k b r is)
  where
    after : (o : Option FullState) → then_step_with callees flags o ≡ Some c → ((r : FullState) → o ≡ Some r → steps_with callees flags k (with_more more b) ≡ Some (with_more more r))
        → then_step_with callees flags (steps_with callees flags k (with_more more b)) ≡ Some (with_more more c)
    after None e first = absurd (cc)
    after (Some r) e first = ap (then_step_with callees flags) (first r refl) ∙ step_more callees flags more r c e

-- ---- why a run goes no further

stop_more : (flags : IsaFlags) (offset : ℕ) (more : List Answer) (b : FullState) (m n : Next) → IsAlike more m n → stop_by flags offset b m ≡ None → stop_by flags offset (with_more more b) n ≡ None
stop_more flags offset more b (Goes c) n alike e = ap (stop_by flags offset (with_more more b)) alike
stop_more flags offset more b Asks n alike e = absurd (cc)
stop_more flags offset more b Halts n alike e = absurd (cc)

inside_more : (flags : IsaFlags) (offset : ℕ) (more : List Answer) (b : FullState) (last : Bool) → (if last then Some Limit else stop_by flags offset b (fnext flags b)) ≡ None
    → (if last then Some Limit else stop_by flags offset (with_more more b) (fnext flags (with_more more b))) ≡ None
inside_more flags offset more b true e = absurd (cc)
inside_more flags offset more b false e = stop_more flags offset more b (fnext flags b) (fnext flags (with_more more b)) (next_alike flags b more) e

by_more : (flags : IsaFlags) (limit k : ℕ) (more : List Answer) (b : FullState) (o : Option ℕ) → full_ending_by flags limit k b o ≡ None → full_ending_by flags limit k (with_more more b) o ≡ None
by_more flags limit k more b None e = absurd (cc)
by_more flags limit k more b (Some offset) e = inside_more flags offset more b (k == limit) e

still_at : (o : Option Callee) (flags : IsaFlags) (base len limit k : ℕ) (more : List Answer) (b : FullState) → ending_at o flags base len limit k b ≡ None → ending_at o flags base len limit k (with_more more b) ≡ None
still_at None flags base len limit k more b e = by_more flags limit k more b (offset_in base len b.state.pc) e
still_at (Some c) flags base len limit k more b e = e

still_more : (callees : List Callee) (flags : IsaFlags) (base len limit k : ℕ) (more : List Answer) (b : FullState) → ending_with callees flags base len limit k b ≡ None
    → ending_with callees flags base len limit k (with_more more b) ≡ None
still_more callees flags base len limit k more b e = still_at (callee_at callees b.state.pc) flags base len limit k more b e

-- no unit goes on with more answers where none has an operation
halts_alike : (more : List Answer) (m n : Next) → IsAlike more m n → m ≡ Halts → n ≡ Halts
halts_alike more (Goes b) n alike e = absurd (cc)
halts_alike more Asks n alike e = absurd (cc)
halts_alike more Halts n alike e = alike

pub integer_end_more : (flags : IsaFlags) (more : List Answer) (b : FullState) (ending : Ending) → IsIntegerEnd flags b ending → IsIntegerEnd flags (with_more more b) ending
integer_end_more flags more b (Left address) end = end
integer_end_more flags more b Limit end = end
integer_end_more flags more b (Break offset) end = end
integer_end_more flags more b (NoOperation offset word) end = halts_alike more (fnext flags b) (fnext flags (with_more more b)) (next_alike flags b more) end
integer_end_more flags more b (NeedsAnswer offset word) end = end

-- ---- a run on its way

none_after : (callees : List Callee) (flags : IsaFlags) (n j : ℕ) (b : FullState) → steps_with callees flags j b ≡ None → steps_with callees flags (n + j) b ≡ None
unfolding steps_with
none_after callees flags zero j b e = let same : 0 + j ≡ j = omega arith in ap (λ k. steps_with callees flags k b) same ∙ e
none_after callees flags (suc n) j b e =
    let same : suc n + j ≡ suc (n + j) = omega arith in
    ap (λ k. steps_with callees flags k b) same ∙ ap (then_step_with callees flags) (none_after callees flags n j b e)

not_none : (o : Option FullState) (c : FullState) → o ≡ None → o ≡ Some c → ⊥
not_none o c e f = absurd (cc)

some_first : (b c : FullState) → Some b ≡ Some c → b ≡ c
some_first b c e = cc

module _ (callees : List Callee) (flags : IsaFlags) (base len limit : ℕ) (first : FullState) (k : ℕ) (last : FullState) (more : List Answer) (going : Going callees flags base len limit first k last) where
  on_more : (j : ℕ) → j < k → (b : FullState) → (o : Option FullState) → steps_with callees flags j first ≡ o → steps_with callees flags j (with_more more first) ≡ Some b → ending_with callees flags base len limit j b ≡ None
  on_more j lt b None before e =
      let same : (k - j) + j ≡ k = omega (arith, lt) in
      absurd (not_none (steps_with callees flags k first) last (ap (λ n. steps_with callees flags n first) (sym same) ∙ none_after callees flags (k - j) j first before) going.steps)
  on_more j lt b (Some r) before e =
      subst (λ c. ending_with callees flags base len limit j c ≡ None) (some_first (with_more more r) b (sym (run_more callees flags more j first r before) ∙ e))
      (still_more callees flags base len limit j more r (going.on j lt r before))

pub going_with : (callees : List Callee) (flags : IsaFlags) (base len limit : ℕ) (first : FullState) (k : ℕ) (last : FullState) (more : List Answer) → Going callees flags base len limit first k last
    → Going callees flags base len limit (with_more more first) k (with_more more last)
going_with callees flags base len limit first k last more going = record {
  steps = run_more callees flags more k first last going.steps;
  on = λ j lt b e. on_more callees flags base len limit first k last more going j lt b (steps_with callees flags j first) refl e;
}
