-- A run on its way with what the host answers.
use Rattle.std.proofs.Common.{◌≡◌, ℕ, zero, suc, ◌+◌, ◌-◌, ◌≤◌, Bool, true, false, List, [], ◌∷◌, ◌++◌, length, Option, refl, sym, ap, ◌∙◌, subst, append-nil, append_assoc, arith}
use Rattle.std.proofs.lemmas.Bool.Decides.{nat_tests}
use Rattle.std.specs.Prelude.{Some, None, IfSome, if◌then◌else◌, ◌==◌, codes}
use Rattle.rv_base.specs.declared.flags.IsaFlags.{IsaFlags}
use Rattle.rv_machine.specs.declared.decoding.Decoded.{Decoded}
use Rattle.rv_machine.specs.State.{State}
use Rattle.rv_machine.specs.Decode.{decode, int_decode}
use Rattle.rv_disasm.specs.Text.{place_text}
use Rattle.rv_trace.specs.Instruction.{instruction_text}
use Rattle.rv_full.specs.declared.answer.Answer.{Answer}
use Rattle.rv_full.specs.Units.{FullState, put}
use Rattle.rv_full.specs.Steps.{Machine, fiter, fstep}
use Rattle.rv_load.specs.declared.callees.Callee.{Callee}
use Rattle.rv_steps.specs.declared.ending.Ending.{Ending}
use Rattle.rv_steps.specs.declared.ending.Ending.TheVariants.{Left, Limit, Break, NoOperation, NeedsAnswer}
use Rattle.rv_steps.specs.declared.written.Written.{Written as Wrote}
use Rattle.rv_steps.specs.declared.written.Written.TheVariants.{Integer, Floating, Vectors, Nothing}
use Rattle.rv_steps.specs.Written.{values_written, written_by}
use Rattle.rv_steps.specs.Running.{Runs, word_at}
use Rattle.rv_steps.specs.Callees.{RunsFor, StepOrEnding, StepOrEndingAt, call_at, call_in, callee_at, calls_in, ending_at, ending_with, step_at, step_with, steps_with, then_step_with}
use Rattle.rv_steps.specs.FullRunning.{IsIntegerEnd}
use Rattle.rv_steps.specs.Computed.{AreComputed, NoneYet, OneMore, AreGiven, HostRuns, IsDue, IsUnanswered, Turns, TurnsTraced, computed, host_answer, is_wanting, wants_answer, with_due, with_more}
use Rattle.rv_steps.specs.Tracing.{PutsLine, line_after, line_at, line_by, line_from, line_to, operation_line, trace, trace_where, unit_line}
use Rattle.rv_steps.proofs.Going.{Going, GoingMachine, calls_more, going_none, going_on, trace_more}
use Rattle.rv_steps.proofs.IntegerRuns.{IntegerLaw, as_integer, no_calls, own_steps}
use Rattle.rv_steps.proofs.MoreAnswers.{going_with, integer_end_more, run_more}

-- ---- answers that are given

no_more : (b : FullState) → with_more [] b ≡ b
no_more b = ap (λ (answers : List Answer). record { state = b.state; units = b.units; answers = answers }) (append-nil b.answers)

more_and_more : (xs ys : List Answer) (b : FullState) → with_more ys (with_more xs b) ≡ with_more (xs ++ ys) b
more_and_more xs ys b = ap (λ (answers : List Answer). record { state = b.state; units = b.units; answers = answers }) (append_assoc b.answers xs ys)

given_none : (host : Bool) (callees : List Callee) (flags : IsaFlags) (base len limit : ℕ) (first : FullState) → AreGiven host callees flags base len limit first []
given_none false callees flags base len limit first = refl
given_none true callees flags base len limit first = NoneYet

given_more : (host : Bool) (callees : List Callee) (flags : IsaFlags) (base len limit : ℕ) (first : FullState) (more : List Answer) (answer : Answer) (k : ℕ) (last : FullState) (offset word : ℕ)
    → AreGiven host callees flags base len limit first more → RunsFor callees flags base len limit (with_more more first) k last (NeedsAnswer offset word) → computed host flags last ≡ Some answer
    → AreGiven host callees flags base len limit first (more ++ answer ∷ [])
given_more false callees flags base len limit first more answer k last offset word given ran e = absurd (cc)
given_more true callees flags base len limit first more answer k last offset word given ran e = OneMore more answer k last offset word given ran e

-- ---- lines

values_alike : (what : Wrote) (rd : ℕ) (vectors : List ℕ) (next : FullState) (more : List Answer) → values_written what rd vectors (with_more more next) ≡ values_written what rd vectors next
values_alike Integer rd vectors next more = refl
values_alike Floating rd vectors next more = refl
values_alike Vectors rd vectors next more = refl
values_alike Nothing rd vectors next more = refl

unit_line_alike : (offset word : ℕ) (o : Option Decoded) (vectors : List ℕ) (next : FullState) (more : List Answer) → unit_line offset word o vectors (with_more more next) ≡ unit_line offset word o vectors next
unit_line_alike offset word None vectors next more = refl
unit_line_alike offset word (Some d) vectors next more = ap (λ text. place_text offset d.len word ++ instruction_text d ++ text ++ codes "\n") (values_alike (written_by d.op) d.rd vectors next more)

line_alike : (flags : IsaFlags) (offset word : ℕ) (o : Option Decoded) (vectors : List ℕ) (next : FullState) (more : List Answer)
    → operation_line flags offset word o vectors (with_more more next) ≡ operation_line flags offset word o vectors next
line_alike flags offset word None vectors next more = unit_line_alike offset word (decode flags word) vectors next more
line_alike flags offset word (Some d) vectors next more = refl

own_line_more : (flags : IsaFlags) (base : ℕ) (more : List Answer) (b next : FullState) → fstep flags b ≡ Some next → fstep flags (with_more more b) ≡ Some (with_more more next)
    → line_to flags base (with_more more b) (fstep flags (with_more more b)) ≡ line_to flags base b (fstep flags b)
own_line_more flags base more b next e f =
    ap (λ (o : Option FullState). line_to flags base (with_more more b) o) f
    ∙ line_alike flags _ (word_at b.state) (int_decode flags (word_at b.state)) b.units.vectors next more
    ∙ sym (ap (λ (o : Option FullState). line_to flags base b o) e)

line_by_more : (o : Option Callee) (flags : IsaFlags) (base : ℕ) (more : List Answer) (b next : FullState) → step_at o flags b ≡ Some next → step_at o flags (with_more more b) ≡ Some (with_more more next)
    → line_by o flags base (with_more more b) ≡ line_by o flags base b
line_by_more None flags base more b next e f = own_line_more flags base more b next e f
line_by_more (Some c) flags base more b next e f = refl

line_more : (callees : List Callee) (flags : IsaFlags) (base : ℕ) (more : List Answer) (b next : FullState) → step_with callees flags b ≡ Some next
    → step_with callees flags (with_more more b) ≡ Some (with_more more next) → line_from callees flags base (with_more more b) ≡ line_from callees flags base b
line_more callees flags base more b next e f = line_by_more (callee_at callees b.state.pc) flags base more b next e f

then_step_is : (callees : List Callee) (flags : IsaFlags) (o : Option FullState) (r c : FullState) → o ≡ Some r → then_step_with callees flags o ≡ Some c → step_with callees flags r ≡ Some c
then_step_is callees flags o r c e f = ap (then_step_with callees flags) (sym e) ∙ f

trace_alike : (callees : List Callee) (flags : IsaFlags) (base : ℕ) (more : List Answer) (k : ℕ) (first last : FullState) → steps_with callees flags k first ≡ Some last → trace callees flags base k (with_more more first) ≡ trace callees flags base k first
unfolding steps_with
trace_alike callees flags base more zero first last e = refl
trace_alike callees flags base more (suc k) first last e = after (steps_with callees flags k first) refl (λ r is. trace_alike callees flags base more k first r is)
  where
    after : (o : Option FullState) → steps_with callees flags k first ≡ o → ((r : FullState) → steps_with callees flags k first ≡ Some r → trace callees flags base k (with_more more first) ≡ trace callees flags base k first) → trace callees flags base (suc k) (with_more more first) ≡ trace callees flags base (suc k) first
    after None is before = absurd (cc)
    after (Some r) is before =
        let step : step_with callees flags r ≡ Some last = then_step_is callees flags (steps_with callees flags k first) r last is e in
        let so : steps_with callees flags k (with_more more first) ≡ Some (with_more more r) = run_more callees flags more k first r is in
        let next : step_with callees flags (with_more more r) ≡ Some (with_more more last) = then_step_is callees flags (steps_with callees flags k (with_more more first)) (with_more more r) (with_more more last) so (run_more callees flags more (suc k) first last e) in
        λ j. before r is j ++ (ap (line_at callees flags base) so ∙ line_more callees flags base more r last step next ∙ sym (ap (line_at callees flags base) is)) j

lines_alike : (traced : Bool) (callees : List Callee) (flags : IsaFlags) (base : ℕ) (more : List Answer) (k : ℕ) (first last : FullState) → steps_with callees flags k first ≡ Some last
    → trace_where traced callees flags base k first ≡ trace_where traced callees flags base k (with_more more first)
lines_alike true callees flags base more k first last e = sym (trace_alike callees flags base more k first last e)
lines_alike false callees flags base more k first last e = refl

-- as many of the steps are the callees'
calls_alike : (callees : List Callee) (flags : IsaFlags) (more : List Answer) (k : ℕ) (first last : FullState) → steps_with callees flags k first ≡ Some last
    → calls_in callees flags k first ≡ calls_in callees flags k (with_more more first)
unfolding steps_with
calls_alike callees flags more zero first last e = refl
calls_alike callees flags more (suc k) first last e = after (steps_with callees flags k first) refl (λ r is. calls_alike callees flags more k first r is)
  where
    after : (o : Option FullState) → steps_with callees flags k first ≡ o → ((r : FullState) → steps_with callees flags k first ≡ Some r → calls_in callees flags k first ≡ calls_in callees flags k (with_more more first))
        → calls_in callees flags (suc k) first ≡ calls_in callees flags (suc k) (with_more more first)
    after None is before = absurd (cc)
    after (Some r) is before =
        let so : steps_with callees flags k (with_more more first) ≡ Some (with_more more r) = run_more callees flags more k first r is in
        λ j. before r is j + (ap (call_in callees) is ∙ sym (ap (call_in callees) so)) j

-- ---- the run so far

pub record Under (host traced : Bool) (callees : List Callee) (flags : IsaFlags) (base len limit : ℕ) (first : FullState) (k calls : ℕ) (machine : Machine) (text : List ℕ) : Type 0 where
  pub more : List Answer
  pub given : AreGiven host callees flags base len limit first more
  pub going : GoingMachine callees flags base len limit (with_more more first) k machine
  pub called : calls ≡ calls_in callees flags k (with_more more first)
  pub lines : text ≡ trace_where traced callees flags base k (with_more more first)

no_lines : (traced : Bool) (callees : List Callee) (flags : IsaFlags) (base : ℕ) (first : FullState) (text : List ℕ) → text ≡ [] → text ≡ trace_where traced callees flags base 0 first
no_lines true callees flags base first text e = e
no_lines false callees flags base first text e = e

pub under_none : (host traced : Bool) (callees : List Callee) (flags : IsaFlags) (base len limit : ℕ) (machine : Machine) (text : List ℕ) → machine.flags ≡ flags → text ≡ [] → Under host traced callees flags base len limit machine.full 0 0 machine text
under_none host traced callees flags base len limit machine text same e = record {
  more = [];
  given = given_none host callees flags base len limit machine.full;
  going = record {
    going = subst (λ b. Going callees flags base len limit b 0 machine.full) (sym (no_more machine.full)) (going_none callees flags base len limit machine.full);
    same = same;
  };
  called = refl;
  lines = no_lines traced callees flags base (with_more [] machine.full) text e;
}

module _ (host traced : Bool) (callees : List Callee) (flags : IsaFlags) (base len limit : ℕ) (first : FullState) (k calls : ℕ) (old : Machine) (text : List ℕ) where
  -- the host's answer is given
  pub under_due : Under host traced callees flags base len limit first k calls old text → (due : Option Answer) → IsDue host callees base len limit k old due → Under host traced callees flags base len limit first k calls (with_due due old) text
  under_due u None d = u
  under_due u (Some answer) d =
      let going = u.going.going in
      let ends : ending_with callees flags base len limit k old.full ≡ Some (NeedsAnswer d.0 d.1) = subst (λ (f : IsaFlags). ending_with callees f base len limit k old.full ≡ Some (NeedsAnswer d.0 d.1)) u.going.same d.2 in
      let answers : computed host flags old.full ≡ Some answer = subst (λ (f : IsaFlags). computed host f old.full ≡ Some answer) u.going.same d.3 in
      let ran : RunsFor callees flags base len limit (with_more u.more first) k old.full (NeedsAnswer d.0 d.1) = record { steps = going.steps; ends = ends; on = λ j b lt e. going.on j lt b e } in
      let same : with_more (answer ∷ []) (with_more u.more first) ≡ with_more (u.more ++ answer ∷ []) first = more_and_more u.more (answer ∷ []) first in
      record {
        more = u.more ++ answer ∷ [];
        given = given_more host callees flags base len limit first u.more answer k old.full d.0 d.1 u.given ran answers;
        going = record {
          going = subst (λ b. Going callees flags base len limit b k (with_more (answer ∷ []) old.full)) same (going_with callees flags base len limit (with_more u.more first) k old.full (answer ∷ []) going);
          same = u.going.same;
        };
        called = u.called ∙ calls_alike callees flags (answer ∷ []) k (with_more u.more first) old.full going.steps ∙ ap (calls_in callees flags k) same;
        lines = u.lines ∙ lines_alike traced callees flags base (answer ∷ []) k (with_more u.more first) old.full going.steps ∙ ap (trace_where traced callees flags base k) same;
      }

  -- a step is done, with no line
  pub under_step : (new : Machine) (call : ℕ) → Under host false callees flags base len limit first k calls old [] → StepOrEnding callees base len limit k old new None → call ≡ call_at callees old.full → Under host false callees flags base len limit first (k + 1) (calls + call) new []
  under_step new call u turned one = record {
    more = u.more;
    given = u.given;
    going = going_on callees flags base len limit (with_more u.more first) k old new u.going.going u.going.same turned;
    called = calls_more callees flags (with_more u.more first) k old.full calls call u.going.going.steps u.called one;
    lines = refl;
  }

  -- and with its line
  pub under_line : (new : Machine) (new_text : List ℕ) (call : ℕ) → Under host true callees flags base len limit first k calls old text → StepOrEnding callees base len limit k old new None → PutsLine callees flags base old text new_text None
      → call ≡ call_at callees old.full → Under host true callees flags base len limit first (k + 1) (calls + call) new new_text
  under_line new new_text call u turned line one = record {
    more = u.more;
    given = u.given;
    going = going_on callees flags base len limit (with_more u.more first) k old new u.going.going u.going.same turned;
    called = calls_more callees flags (with_more u.more first) k old.full calls call u.going.going.steps u.called one;
    lines = trace_more callees flags base (with_more u.more first) k old.full text new_text u.going.going.steps u.lines line;
  }

  -- the run ends
  pub under_ends : (new : Machine) (ending : Ending) → Under host traced callees flags base len limit first k calls old text → StepOrEnding callees base len limit k old new (Some ending) → IsUnanswered host new.flags new.full ending
      → HostRuns host traced callees flags base len limit first k calls new.full ending text × (new.flags ≡ flags)
  under_ends new ending u turned unanswered =
      let going = u.going.going in
      let same : new.flags ≡ flags = ap (λ (m : Machine). m.flags) turned.1 ∙ u.going.same in (
        record {
          more = u.more;
          given = u.given;
          ran = record {
            steps = subst (λ (b : FullState). steps_with callees flags k (with_more u.more first) ≡ Some b) (ap (λ (m : Machine). m.full) (sym turned.1)) going.steps;
            ends = subst (λ (b : FullState). ending_with callees flags base len limit k b ≡ Some ending) (ap (λ (m : Machine). m.full) (sym turned.1))
                (subst (λ (f : IsaFlags). ending_with callees f base len limit k old.full ≡ Some ending) u.going.same turned.0);
            on = λ j b lt e. going.on j lt b e;
          };
          unanswered = subst (λ (f : IsaFlags). IsUnanswered host f new.full ending) same unanswered;
          called = u.called;
          traced_lines = u.lines;
        },
        same,
      )

-- ---- one turn

module _ (host : Bool) (callees : List Callee) (base len limit k : ℕ) (old new : Machine) where
  settled : (ending : Ending) → wants_answer ending ≡ false → IsUnanswered host new.flags new.full ending
  settled (Left address) e = tt
  settled Limit e = tt
  settled (Break offset) e = tt
  settled (NoOperation offset word) e = tt
  settled (NeedsAnswer offset word) e = absurd (cc)

  if_settled : (result : Option Ending) → is_wanting result ≡ false → IfSome result (IsUnanswered host new.flags new.full)
  if_settled None e = tt
  if_settled (Some ending) e = settled ending e

  -- nothing is wanted
  pub turns_alone : (result : Option Ending) → StepOrEnding callees base len limit k old new result → is_wanting result ≡ false → Turns host callees base len limit k old new result
  turns_alone result turned e = record { due = None; is_due = tt; turned = turned; unanswered = if_settled result e }

  if_unanswered : (ending : Ending) → computed host new.flags new.full ≡ None → IsUnanswered host new.flags new.full ending
  if_unanswered (Left address) e = tt
  if_unanswered Limit e = tt
  if_unanswered (Break offset) e = tt
  if_unanswered (NoOperation offset word) e = tt
  if_unanswered (NeedsAnswer offset word) e = e

  all_unanswered : (result : Option Ending) → computed host new.flags new.full ≡ None → IfSome result (IsUnanswered host new.flags new.full)
  all_unanswered None e = tt
  all_unanswered (Some ending) e = if_unanswered ending e

  -- something is, and the host has it not
  pub turns_unanswered : (result : Option Ending) → StepOrEnding callees base len limit k old new result → computed host new.flags new.full ≡ None → Turns host callees base len limit k old new result
  turns_unanswered result turned e = record { due = None; is_due = tt; turned = turned; unanswered = all_unanswered result e }

not_empty : (answers : List Answer) (answer : Answer) → (length (answers ++ answer ∷ []) == 0) ≡ false
not_empty [] answer = grind (arith, nat_tests)
not_empty (a ∷ answers) answer = grind (arith, nat_tests)

-- no answer is computed while one is left
one_left : (host : Bool) (flags : IsaFlags) (b : FullState) (answer : Answer) → computed host flags (with_more (answer ∷ []) b) ≡ None
one_left false flags b answer = refl
one_left true flags b answer = ap (λ (c : Bool). if c then host_answer flags (with_more (answer ∷ []) b) else None) (not_empty b.answers answer)

abbrev pub IsWanting : List Callee → ℕ → ℕ → ℕ → ℕ → Machine → Type 0
IsWanting callees base len limit k m = (offset : ℕ) × (word : ℕ) × (ending_with callees m.flags base len limit k m.full ≡ Some (NeedsAnswer offset word))

module _ (host : Bool) (callees : List Callee) (base len limit k : ℕ) (old mid new : Machine) (answer : Answer) where
  wanting_by : (ending : Ending) → wants_answer ending ≡ true → ending_with callees old.flags base len limit k old.full ≡ Some ending → IsWanting callees base len limit k old
  wanting_by (Left address) e ends = absurd (cc)
  wanting_by Limit e ends = absurd (cc)
  wanting_by (Break offset) e ends = absurd (cc)
  wanting_by (NoOperation offset word) e ends = absurd (cc)
  wanting_by (NeedsAnswer offset word) e ends = (offset, word, ends)

  pub is_wanted : (result : Option Ending) → is_wanting result ≡ true → StepOrEnding callees base len limit k old mid result → IsWanting callees base len limit k old × (mid ≡ old)
  is_wanted None e turned = absurd (cc)
  is_wanted (Some ending) e turned = (wanting_by ending e turned.0, turned.1)

  due_by : IsWanting callees base len limit k old → computed host old.flags old.full ≡ Some answer → IsDue host callees base len limit k old (Some answer)
  due_by w e = (w.0, w.1, w.2, e)

  left_after : (result : Option Ending) → StepOrEnding callees base len limit k (with_due (Some answer) old) new result → IfSome result (IsUnanswered host new.flags new.full)
  left_after None turned = tt
  left_after (Some ending) turned =
      if_unanswered host callees base len limit k old new ending (subst (λ (m : Machine). computed host m.flags m.full ≡ None) (sym turned.1) (one_left host old.flags old.full answer))

  -- the host has it, and it is given
  pub turns_answered : (wanted result : Option Ending) → is_wanting wanted ≡ true → StepOrEnding callees base len limit k old mid wanted → computed host mid.flags mid.full ≡ Some answer
      → StepOrEnding callees base len limit k (with_due (Some answer) mid) new result → Turns host callees base len limit k old new result
  turns_answered wanted result is turned e again =
      let w = is_wanted wanted is turned in
      let after : StepOrEnding callees base len limit k (with_due (Some answer) old) new result = subst (λ (m : Machine). StepOrEnding callees base len limit k (with_due (Some answer) m) new result) w.1 again in
      record {
        due = Some answer;
        is_due = due_by w.0 (subst (λ (m : Machine). computed host m.flags m.full ≡ Some answer) w.1 e);
        turned = after;
        unanswered = left_after result after;
      }

-- ---- a line of one turn

-- a callee at the pc has returned, or the machine has made its step to a state
abbrev Stepped : Option Callee → IsaFlags → FullState → FullState → Type 0
Stepped o flags b next = step_at o flags b ≡ Some next

line_of_step : (o : Option Callee) (flags : IsaFlags) (base : ℕ) (b next : FullState) (text new_text : List ℕ) → Stepped o flags b next
    → new_text ≡ text ++ line_after o flags (b.state.pc - base) (word_at b.state) b.units.vectors next → new_text ≡ text ++ line_by o flags base b
line_of_step None flags base b next text new_text step e = e ∙ ap (λ (o : Option FullState). text ++ line_to flags base b o) (sym step)
line_of_step (Some c) flags base b next text new_text step e = e

-- an answer that is given before the step changes neither the pc nor the word there
pub line_of_turn : (callees : List Callee) (flags : IsaFlags) (base : ℕ) (due : Option Answer) (old new : Machine) (text new_text : List ℕ) → old.flags ≡ flags
    → step_with callees (with_due due old).flags (with_due due old).full ≡ Some new.full
    → new_text ≡ text ++ line_after (callee_at callees old.full.state.pc) flags (old.full.state.pc - base) (word_at old.full.state) old.full.units.vectors new.full
    → new_text ≡ text ++ line_from callees flags base (with_due due old).full
line_of_turn callees flags base None old new text new_text same step e =
    line_of_step (callee_at callees old.full.state.pc) flags base old.full new.full text new_text
    (subst (λ (f : IsaFlags). step_with callees f old.full ≡ Some new.full) same step) e
line_of_turn callees flags base (Some answer) old new text new_text same step e =
    line_of_step (callee_at callees old.full.state.pc) flags base (with_more (answer ∷ []) old.full) new.full text new_text
    (subst (λ (f : IsaFlags). step_with callees f (with_more (answer ∷ []) old.full) ≡ Some new.full) same step) e

-- ---- runs of the integer machine

module _ (law : IntegerLaw) (flags : IsaFlags) (base len limit : ℕ) (first : FullState) (k : ℕ) (t : State) (ending : Ending) (runs : Runs flags base len limit first.state k t ending)
    (end : IsIntegerEnd flags (put t first) ending) where
  not_wanted : (offset word : ℕ) (b : FullState) → NeedsAnswer offset word ≡ ending → IsIntegerEnd flags b ending → ⊥
  not_wanted offset word b e other = subst (λ (x : Ending). IsIntegerEnd flags b x) (sym e) other

  none_computed : (more : List Answer) → AreComputed [] flags base len limit first more → more ≡ []
  none_computed more NoneYet = refl
  none_computed more (OneMore answers answer j last offset word before ran e) =
      let ended = integer_end_more flags answers (put t first) ending end in
      let same = as_integer law flags base len limit (with_more answers first) j last (NeedsAnswer offset word) ran k t ending runs ended in
      absurd (not_wanted offset word (put t (with_more answers first)) same.2 ended)

  none_given_by : (host : Bool) (more : List Answer) → AreGiven host [] flags base len limit first more → more ≡ []
  none_given_by false more e = e
  none_given_by true more given = none_computed more given

  -- of one without callees
  pub as_integer_alone : (host : Bool) (more : List Answer) (j : ℕ) (last : FullState) (other : Ending) → AreGiven host [] flags base len limit first more
      → RunsFor [] flags base len limit (with_more more first) j last other → (j ≡ k) × (last ≡ put t first) × (other ≡ ending)
  as_integer_alone host more j last other given ran =
      let same : with_more more first ≡ first = ap (λ (xs : List Answer). with_more xs first) (none_given_by host more given) ∙ no_more first in
      as_integer law flags base len limit first j last other (subst (λ (b : FullState). RunsFor [] flags base len limit b j last other) same ran) k t ending runs end

-- ---- runs where no callee is given

no_calls_left : (steps calls : ℕ) → calls ≡ 0 → steps + calls ≡ steps
no_calls_left steps calls none = omega (arith, none)

module _ (flags : IsaFlags) (base len limit : ℕ) (first : FullState) (steps calls : ℕ) (last : FullState) (ending : Ending) where
  own_run : (host traced : Bool) (lines : List ℕ) (ran : HostRuns host traced [] flags base len limit first (steps + calls) calls last ending lines)
      → (calls ≡ 0) × (fiter flags steps (with_more ran.more first) ≡ Some last)
  own_run host traced lines ran =
      let none : calls ≡ 0 = ran.called ∙ no_calls flags (steps + calls) (with_more ran.more first) in (
        none,
        ap (λ (n : ℕ). fiter flags n (with_more ran.more first)) (sym (no_calls_left steps calls none))
            ∙ sym (own_steps flags (steps + calls) (with_more ran.more first))
            ∙ ran.ran.steps,
      )

  -- each step is the machine's
  pub as_own : (callees : List Callee) → callees ≡ [] → (host traced : Bool) (lines : List ℕ) (ran : HostRuns host traced callees flags base len limit first (steps + calls) calls last ending lines)
      → (calls ≡ 0) × (fiter flags steps (with_more ran.more first) ≡ Some last)
  as_own callees none host traced lines =
      let Own : List Callee → Type 0 = λ cs. (ran : HostRuns host traced cs flags base len limit first (steps + calls) calls last ending lines)
      → (calls ≡ 0) × (fiter flags steps (with_more ran.more first) ≡ Some last) in
      subst Own (sym none) (own_run host traced lines)

  -- and a run of the integer machine is that run
  pub as_integer_run : IntegerLaw → (callees : List Callee) → callees ≡ [] → (host traced : Bool) (lines : List ℕ) → HostRuns host traced callees flags base len limit first (steps + calls) calls last ending lines
      → (k : ℕ) (t : State) (other : Ending) → Runs flags base len limit first.state k t other → IsIntegerEnd flags (put t first) other
      → (steps ≡ k) × (last ≡ put t first) × (ending ≡ other)
  as_integer_run law callees none host traced lines ran k t other runs end =
      let RunsWith : List Callee → Type 0 = λ cs. HostRuns host traced cs flags base len limit first (steps + calls) calls last ending lines in
      let own : RunsWith [] = subst RunsWith none ran in
      let same = as_integer_alone law flags base len limit first k t other runs end host own.more (steps + calls) last ending own.given own.ran in
      (sym (no_calls_left steps calls (own_run host traced lines own).0) ∙ same.0, same.1, same.2)

-- ---- turns of a run

-- a machine that is given an answer stands where it stood
same_call : (callees : List Callee) (due : Option Answer) (m : Machine) → call_at callees (with_due due m).full ≡ call_at callees m.full
same_call callees None m = refl
same_call callees (Some answer) m = refl

module _ (host : Bool) (callees : List Callee) (flags : IsaFlags) (base len limit : ℕ) (first : FullState) (k calls : ℕ) (old new : Machine) where
  pub under_turn : (call : ℕ) → call ≡ call_at callees old.full → Under host false callees flags base len limit first k calls old [] → Turns host callees base len limit k old new None
      → Under host false callees flags base len limit first (k + 1) (calls + call) new []
  under_turn call one u t =
      under_step host false callees flags base len limit first k calls (with_due t.due old) [] new call
      (under_due host false callees flags base len limit first k calls old [] u t.due t.is_due) t.turned (one ∙ sym (same_call callees t.due old))

  pub under_traced : (call : ℕ) → call ≡ call_at callees old.full → (text new_text : List ℕ) → Under host true callees flags base len limit first k calls old text
      → TurnsTraced host callees flags base len limit k old new text new_text None → Under host true callees flags base len limit first (k + 1) (calls + call) new new_text
  under_traced call one text new_text u t =
      under_line host true callees flags base len limit first k calls (with_due t.turns.due old) text new new_text call
      (under_due host true callees flags base len limit first k calls old text u t.turns.due t.turns.is_due) t.turns.turned t.line (one ∙ sym (same_call callees t.turns.due old))

  pub turn_ends : (traced : Bool) (text : List ℕ) (ending : Ending) → Under host traced callees flags base len limit first k calls old text → Turns host callees base len limit k old new (Some ending)
      → HostRuns host traced callees flags base len limit first k calls new.full ending text × (new.flags ≡ flags)
  turn_ends traced text ending u t =
      under_ends host traced callees flags base len limit first k calls (with_due t.due old) text new ending
      (under_due host traced callees flags base len limit first k calls old text u t.due t.is_due) t.turned t.unanswered

  -- of a traced one the text is as it was
  pub traced_ends : (text new_text : List ℕ) (ending : Ending) → Under host true callees flags base len limit first k calls old text
      → TurnsTraced host callees flags base len limit k old new text new_text (Some ending) → HostRuns host true callees flags base len limit first k calls new.full ending new_text × (new.flags ≡ flags)
  traced_ends text new_text ending u t =
      let ran = turn_ends true text ending u t.turns in
      (subst (λ (xs : List ℕ). HostRuns host true callees flags base len limit first k calls new.full ending xs) (sym t.line) ran.0, ran.1)

-- after as many steps as there may be
pub limit_ends : (host traced : Bool) (callees : List Callee) (flags : IsaFlags) (base len limit : ℕ) (first : FullState) (calls : ℕ) (old : Machine) (text : List ℕ) (ending : Ending)
    → Under host traced callees flags base len limit first limit calls old text → ((f : IsaFlags) (most : ℕ) → ending_with callees f base len most most old.full ≡ Some ending)
    → ((h : Bool) (f : IsaFlags) (b : FullState) → IsUnanswered h f b ending) → HostRuns host traced callees flags base len limit first limit calls old.full ending text × (old.flags ≡ flags)
limit_ends host traced callees flags base len limit first calls old text ending u ends unanswered =
    under_ends host traced callees flags base len limit first limit calls old text old ending u (at_most (callee_at callees old.full.state.pc) (ends old.flags limit)) (unanswered host old.flags old.full)
  where
    at_most : (o : Option Callee) → ending_at o old.flags base len limit limit old.full ≡ Some ending → StepOrEndingAt o base len limit limit old old (Some ending)
    at_most o e = (e, refl)

-- under the flags of the machine that ran, with its own steps apart
pub of_machine : {host traced : Bool} {callees : List Callee} {base len limit k calls : ℕ} {first last : FullState} {ending : Ending} {lines : List ℕ} {flags own new : IsaFlags} → calls ≤ k → own ≡ flags
    → HostRuns host traced callees flags base len limit first k calls last ending lines × (new ≡ flags)
    → HostRuns host traced callees own base len limit first ((k - calls) + calls) calls last ending lines × (new ≡ own)
of_machine {host} {traced} {callees} {base} {len} {limit} {k} {calls} {first} {last} {ending} {lines} {flags} {own} {new} few same ran =
    let all : k ≡ (k - calls) + calls = omega (arith, few) in
    subst (λ (n : ℕ). HostRuns host traced callees own base len limit first n calls last ending lines × (new ≡ own)) all
    (subst (λ (f : IsaFlags). HostRuns host traced callees f base len limit first k calls last ending lines × (new ≡ f)) (sym same) ran)
