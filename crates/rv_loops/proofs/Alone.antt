-- Where no one else writes, steps that leave memory are a run of the machine alone, and a pass that began again was told to fail.
use Rattle.rv_base.specs.declared.flags.IsaFlags.{IsaFlags}
use Rattle.rv_full.proofs.Runs.{fiter_after, fiter_none}
use Rattle.rv_full.specs.Shared.{Shared, interfere}
use Rattle.rv_full.specs.Steps.{fiter, fstep}
use Rattle.rv_full.specs.Units.{FullState}
use Rattle.rv_full.specs.declared.answer.Answer.{Answer}
use Rattle.rv_full.specs.declared.answer.Answer.TheVariants.{Success}
use Rattle.rv_full.specs.declared.units.Reservation.{Reservation}
use Rattle.rv_loops.proofs.SharedLoops.{still_quiet}
use Rattle.rv_loops.specs.Alone.{Alone, AlonePasses}
use Rattle.rv_loops.specs.SharedLoops.{FailedPass, Passes, Quiet}
use Rattle.rv_loops.specs.SharedRuns.{Still, next_writes, touches}
use Rattle.std.proofs.Common.{◌≡◌, ⊎_elim, ℕ, zero, suc, ◌+◌, ◌≤◌, Bool, true, false, ◌||◌, List, [], ◌∷◌, Some, arith, sym, ap, ◌∙◌}

pub first_step : (flags : IsaFlags) (b c : FullState) → fstep flags b ≡ Some c → fiter flags 1 b ≡ Some c
unfolding fiter
first_step flags b c step = step

-- one step, and then these
one_more : (flags : IsaFlags) (n : ℕ) (a b : Shared) (c : FullState) → a.later ≡ [] → fstep flags a.full ≡ Some c → c.state.values.mem ≡ a.full.state.values.mem → Alone flags n (interfere a.later c) b → Alone flags (suc n) a b
one_more flags n a b c none step mem d = record {
  later = d.later;
  mem = d.mem ∙ ap (λ l. (interfere l c).full.state.values.mem) none ∙ mem;
  ran = (let same : suc n ≡ n + 1 = omega arith in ap (λ k. fiter flags k a.full) same) ∙ fiter_after flags n 1 a.full c (first_step flags a.full c step) ∙ sym (ap (λ l. fiter flags n (interfere l c).full) none) ∙ d.ran;
}

pub alone_quiet : (flags : IsaFlags) (n : ℕ) (a b : Shared) → a.later ≡ [] → Quiet flags n a b → Alone flags n a b
alone_quiet flags zero a b none h = record { later = sym (ap (λ (s : Shared). s.later) h) ∙ none; mem = sym (ap (λ (s : Shared). s.full.state.values.mem) h); ran = fiter_none flags a.full ∙ ap (λ (s : Shared). Some s.full) h }
alone_quiet flags (suc n) a b none h = one_more flags n a b h.0 none h.1 h.2 (alone_quiet flags n (interfere a.later h.0) b (ap (λ l. (interfere l h.0).later) none) h.3)

pub untouched : (flags : IsaFlags) (r : Reservation) (n : ℕ) (a b : Shared) (t : Bool) → a.later ≡ [] → Still flags r n a t b → t ≡ false
untouched flags r zero a b t none h = h.1
untouched flags r (suc n) a b t none h =
    let d = untouched flags r n (interfere a.later h.0) b h.1 (ap (λ l. (interfere l h.0).later) none) h.5 in
    h.4 ∙ (λ i. touches r (next_writes (none i)) || d i)

-- a failed pass, alone
record AlonePass (flags : IsaFlags) (most : ℕ) (x : Bool) (a b : Shared) : Type 0 where
  told : x ≡ false
  steps : ℕ
  few : steps ≤ most + 3
  alone : Alone flags steps a b

pub joined : (flags : IsaFlags) (m n : ℕ) (a b c : Shared) → Alone flags m a b → Alone flags n b c → Alone flags (n + m) a c
joined flags m n a b c x y = record { later = y.later; mem = y.mem ∙ x.mem; ran = fiter_after flags n m a.full b.full x.ran ∙ y.ran }

alone_pass : (flags : IsaFlags) (r : Reservation) (most : ℕ) (x : Bool) (a b : Shared) → a.later ≡ [] → FailedPass flags r most x a b → AlonePass flags most x a b
alone_pass flags r most x a b none p =
    let first = alone_quiet flags p.between a p.last none (still_quiet flags r p.between a p.last p.touched p.still) in
    let again = alone_quiet flags p.rest (interfere p.last.later p.failed) b (ap (λ l. (interfere l p.failed).later) first.later) p.again in
    let never = untouched flags r p.between a p.last p.touched none p.still in
    let few = p.few in
    record {
      told = ⊎_elim (λ (e : x ≡ false). e) (λ (e : p.touched ≡ true). (let no : false ≡ true = sym never ∙ e in absurd (cc))) p.why;
      steps = suc p.rest + p.between;
      few = omega arith;
      alone = joined flags p.between (suc p.rest) a p.last b first (one_more flags p.rest p.last b p.failed first.later p.step p.mem again);
    }

pub alone_passes : (flags : IsaFlags) (r : Reservation) (most : ℕ) (took : List Answer) (a b : Shared) → a.later ≡ [] → Passes flags r most took a b → AlonePasses flags most took a b
alone_passes flags r most [] a b none h = record { told = tt; steps = 0; few = omega arith; alone = alone_quiet flags 0 a b none h }
alone_passes flags r most (answer ∷ took) a b none h =
    let p = alone_pass flags r most h.0 a h.1 none h.3 in
    let d = alone_passes flags r most took h.1 b p.alone.later h.4 in
    let one = p.few in
    let others = d.few in
    record {
      told = (h.2 ∙ ap (λ x. Success x) p.told, d.told);
      steps = d.steps + p.steps;
      few = omega arith;
      alone = joined flags p.steps d.steps a h.1 b p.alone d.alone;
    }
