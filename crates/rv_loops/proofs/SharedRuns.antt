-- Pieces on registers alone run on the machine between whose steps others write as they do without them.
use Rattle.rv_code.proofs.Evaluation.{one}
use Rattle.rv_code.proofs.Memories.{placed_after, put_values}
use Rattle.rv_code.proofs.Words.{IsaFlags, Memory, Site, State, Values, after, byte, holds, reg, same_Some, wrap}
use Rattle.rv_code.specs.Evaluation.{IsAtPoint, Point, StandIn, and_then, at as points, effect, evaluate, is_of_integers, next, point, steps_for, to, wrote}
use Rattle.rv_code.specs.InstRuns.{environment}
use Rattle.rv_code.specs.Pieces.{Action, Bind, Branch, Constant, Do, Fence, Jump, LoadFrom, Lui, Name, New, Note, Piece, Rri, Rrr, Take}
use Rattle.rv_loops.specs.Laws.{StillRuns}
use Rattle.rv_loops.specs.SharedRuns.{AllClear, AreClear, AreQuiet, ComesStill, IsClear, Keeps, OnPieces, is_still, next_writes, touches, with_mem}
use Rattle.rv_full.proofs.LargerMachine.{integer_run}
use Rattle.rv_full.specs.Shared.{Shared, Write, foreign, foreigns, interfere, is_reserved, left_by}
use Rattle.rv_full.specs.Steps.{fiter, fstep}
use Rattle.rv_full.specs.Units.{FullState, Units, put, set_reserved}
use Rattle.rv_full.specs.declared.answer.Answer.{Answer}
use Rattle.rv_full.specs.declared.units.Reservation.{Reservation}
use Rattle.rv_inst.specs.Meaning.{Environment}
use Rattle.rv_machine.specs.Steps.{iter}
use Rattle.std.proofs.Common.{◌≡◌, ◌≢◌, ◌⊎◌, ⊎_elim, inl, inr, ℕ, zero, suc, ◌+◌, ◌^◌, ◌<◌, ◌≤◌, Bool, true, false, ◌||◌, if◌then◌else◌, cond, nat_eq, List, [], ◌∷◌, Option, Some, None, arith, refl, sym, ap, subst, ◌∙◌, lit≤, ◌==◌, ◌-◌, unwrap_or}
use Rattle.std.specs.Cmp.{nat_cmp_total, unsigned_tied}
use Rattle.std.specs.FinMap.{get-insert}
use Rattle.std.proofs.lemmas.Bool.{ltb-false}
use Rattle.std.proofs.lemmas.Bool.Decides.{nat_tests}
use Rattle.std.specs.FinMap as map

-- the byte at an address after one is written
byte_inserted : (mem : Memory) (k b a : ℕ) → byte (map.insert mem k b) a ≡ cond (a == k) b (byte mem a)
byte_inserted mem k b a =
    ap (λ o. unwrap_or o 0) (get-insert nat_cmp_total mem k b a ∙ ap (λ c. cond c (Some b) (map.get mem a)) (unsigned_tied a k))
    ∙ elim (a == k) as (λ c. unwrap_or (cond c (Some b) (map.get mem a)) 0 ≡ cond c b (byte mem a)) [ true ↦ refl | false ↦ refl ]

-- ---- pieces in any memory

-- what a quiet piece does with other bytes in the memory, and that quiet pieces are ahead then
record NextStill (env : Environment) (whole ps : List Piece) (v : Values) (mem : Memory) (r : Point) : Type 0 where
  same : next env whole ps (with_mem mem v) [] ≡ Some (points r.ahead (with_mem mem r.values) [])
  quiet : AreQuiet r.ahead

after_quiet : (k : ℕ) (whole qs : List Piece) → AreQuiet whole → after k whole ≡ Some qs → AreQuiet qs
after_quiet k [] qs quiet e = absurd (cc)
after_quiet k (Bind j ∷ ps) qs quiet e =
    (elim (nat_eq j k) as (λ c. (if c then Some ps else after k ps) ≡ Some qs → AreQuiet qs)
    [ true ↦ λ f. subst AreQuiet (same_Some ps qs f) quiet.1 | false ↦ λ f. after_quiet k ps qs quiet.1 f ]) e
after_quiet k (p ∷ ps) qs quiet e = after_quiet k ps qs quiet.1 e

goes_to : (env : Environment) (k : ℕ) (whole ps : List Piece) (v : Values) (mem : Memory) (r : Point) (o : Option (List Piece)) → after k whole ≡ o → AreQuiet whole → to o v [] ≡ Some r → (next env whole ps (with_mem mem v) [] ≡ to o (with_mem mem v) []) → NextStill env whole ps v mem r
goes_to env k whole ps v mem r None is quiet e there = absurd (cc)
goes_to env k whole ps v mem r (Some qs) is quiet e there =
    subst (λ (q : Point). NextStill env whole ps v mem q) (same_Some (points qs v []) r e) (record { same = there; quiet = after_quiet k whole qs quiet is })

-- an operation that reads and writes no memory
goes_still : (env : Environment) (whole ps : List Piece) (a : Action) (v : Values) (mem : Memory) (r : Point) (c : Bool) → is_of_integers a ≡ c → wrote a v [] ≡ [] → wrote a (with_mem mem v) [] ≡ [] → effect a (with_mem mem v) ≡ with_mem mem (effect a v) → AreQuiet ps →
    (if c then Some (points ps (effect a v) (wrote a v [])) else None) ≡ Some r → NextStill env whole (Do a ∷ ps) v mem r
goes_still env whole ps a v mem r false of none never same quiet e = absurd (cc)
goes_still env whole ps a v mem r true of none never same quiet e =
    subst (λ (q : Point). NextStill env whole (Do a ∷ ps) v mem q) (same_Some (points ps (effect a v) (wrote a v [])) r e) (record {
      same = ap (λ c. if c then Some (points ps (effect a (with_mem mem v)) (wrote a (with_mem mem v) [])) else None) of ∙ (λ i. Some (points ps (same i) (never i)));
      quiet = quiet;
    })

does_still : (env : Environment) (whole ps : List Piece) (a : Action) (v : Values) (mem : Memory) (r : Point) → is_still a ≡ true → AreQuiet ps → next env whole (Do a ∷ ps) v [] ≡ Some r → NextStill env whole (Do a ∷ ps) v mem r
does_still env whole ps (Rrr op rd x y) v mem r still quiet e = goes_still env whole ps (Rrr op rd x y) v mem r (is_of_integers (Rrr op rd x y)) refl refl refl refl quiet e
does_still env whole ps (Rri op rd rs imm) v mem r still quiet e = goes_still env whole ps (Rri op rd rs imm) v mem r (is_of_integers (Rri op rd rs imm)) refl refl refl refl quiet e
does_still env whole ps (Lui rd imm) v mem r still quiet e = goes_still env whole ps (Lui rd imm) v mem r true refl refl refl refl quiet e
does_still env whole ps (Fence pred succ) v mem r still quiet e = goes_still env whole ps (Fence pred succ) v mem r true refl refl refl refl quiet e
does_still env whole ps a v mem r still quiet e = absurd (cc)

next_still : (env : Environment) (whole ps : List Piece) (v : Values) (mem : Memory) (r : Point) → AreQuiet whole → AreQuiet ps → next env whole ps v [] ≡ Some r → NextStill env whole ps v mem r
next_still env whole [] v mem r all quiet e = absurd (cc)
next_still env whole (Do a ∷ ps) v mem r all quiet e = does_still env whole ps a v mem r quiet.0 quiet.1 e
next_still env whole (Branch how x y k ∷ ps) v mem r all quiet e =
    (elim (holds how (reg v x) (reg v y)) as (λ c. holds how (reg v x) (reg v y) ≡ c → (if c then to (after k whole) v [] else Some (points ps v [])) ≡ Some r → NextStill env whole (Branch how x y k ∷ ps) v mem r) [
      | true ↦ λ test f. goes_to env k whole (Branch how x y k ∷ ps) v mem r (after k whole) refl all f (ap (λ c. if c then to (after k whole) (with_mem mem v) [] else Some (points ps (with_mem mem v) [])) test)
      | false ↦ λ test f. subst (λ (q : Point). NextStill env whole (Branch how x y k ∷ ps) v mem q) (same_Some (points ps v []) r f) (record { same = ap (λ c. if c then to (after k whole) (with_mem mem v) [] else Some (points ps (with_mem mem v) [])) test; quiet = quiet.1 })
    ]) refl e
next_still env whole (Jump k ∷ ps) v mem r all quiet e = goes_to env k whole (Jump k ∷ ps) v mem r (after k whole) refl all e refl
next_still env whole (Note event ∷ ps) v mem r all quiet e = subst (λ (q : Point). NextStill env whole (Note event ∷ ps) v mem q) (same_Some _ r e) (record { same = refl; quiet = quiet.1 })
next_still env whole (Name k ∷ ps) v mem r all quiet e = subst (λ (q : Point). NextStill env whole (Name k ∷ ps) v mem q) (same_Some _ r e) (record { same = refl; quiet = quiet.1 })
next_still env whole (New ∷ ps) v mem r all quiet e = subst (λ (q : Point). NextStill env whole (New ∷ ps) v mem q) (same_Some _ r e) (record { same = refl; quiet = quiet.1 })
next_still env whole (Bind k ∷ ps) v mem r all quiet e = subst (λ (q : Point). NextStill env whole (Bind k ∷ ps) v mem q) (same_Some _ r e) (record { same = refl; quiet = quiet.1 })
next_still env whole (Constant rd l ∷ ps) v mem r all quiet e = (let never : false ≡ true = quiet.0 in absurd (cc))
next_still env whole (Take rd l ∷ ps) v mem r all quiet e = (let never : false ≡ true = quiet.0 in absurd (cc))
next_still env whole (LoadFrom op rd trap l ∷ ps) v mem r all quiet e = (let never : false ≡ true = quiet.0 in absurd (cc))
next_still env whole (p ∷ ps) v mem r all quiet e = absurd (cc)

-- nothing is written
still_writes : (env : Environment) (whole ps : List Piece) (v : Values) (r : Point) → AreQuiet whole → AreQuiet ps → next env whole ps v [] ≡ Some r → r.written ≡ []
still_writes env whole ps v r all quiet e =
    let x = next_still env whole ps v v.mem r all quiet e in
    let same : Some r ≡ Some (points r.ahead (with_mem v.mem r.values) []) = sym e ∙ x.same in
    ap (λ (p : Point). p.written) (same_Some r (points r.ahead (with_mem v.mem r.values) []) same)

-- each is at most one step
few_steps : (ps : List Piece) → AreQuiet ps → steps_for ps ≤ 1
few_steps [] quiet = lit≤ tt
few_steps (Constant rd l ∷ ps) quiet = (let never : false ≡ true = quiet.0 in absurd (cc))
few_steps (Take rd to ∷ ps) quiet = (let never : false ≡ true = quiet.0 in absurd (cc))
few_steps (LoadFrom op rd trap l ∷ ps) quiet = (let never : false ≡ true = quiet.0 in absurd (cc))
few_steps (p ∷ ps) quiet = lit≤ tt

-- ---- what others write leaves the machine where it is

module _ {site : Site} {allocated start end : ℕ} {ps : List Piece} {regs : List ℕ} {u : Units} {answers : List Answer} where
  -- with other bytes in the memory, in which the code still stands
  foreign_on : (w : Write) (b : FullState) → IsClear site w → OnPieces site allocated start end ps regs u answers b → OnPieces site allocated start end ps regs u answers (foreign w b)
  foreign_on w b clear h =
      let s = b.state in
      let p = h.ints in
      record {
        ints = record {
          offset = p.offset;
          within = p.within;
          here = record { even = p.here.even; room = p.here.room; placed = placed_after site s.values.mem w.0 (w.1 ∷ []) p.here.placed clear.1; pc = p.here.pc };
          stand = p.stand;
          is_state = record { pc = p.is_state.pc; values = put_values s.values w.0 (w.1 ∷ []) p.is_state.values (clear.0, tt) };
          values = λ i. record { regs = (p.values i).regs; mem = map.insert s.values.mem w.0 w.1 };
        };
        units = h.units;
        answers = h.answers;
      }

  foreigns_on : (ws : List Write) (b : FullState) → AreClear site ws → OnPieces site allocated start end ps regs u answers b → OnPieces site allocated start end ps regs u answers (foreigns ws b)
  foreigns_on [] b clear h = h
  foreigns_on (w ∷ ws) b clear h = foreigns_on ws (foreign w b) clear.1 (foreign_on w b clear.0 h)

  pub interfered_on : (later : List (List Write)) (b : FullState) → AllClear site later → OnPieces site allocated start end ps regs u answers b → OnPieces site allocated start end ps regs u answers (interfere later b).full
  interfered_on [] b clear h = h
  interfered_on (ws ∷ later) b clear h = foreigns_on ws b clear.0 h

pub later_clear : (site : Site) (later : List (List Write)) (b : FullState) → AllClear site later → AllClear site (interfere later b).later
later_clear site [] b clear = tt
later_clear site (ws ∷ later) b clear = clear.1

or_false : (t : Bool) → (t || false) ≡ t
or_false true = refl
or_false false = refl

or_assoc : (t x y : Bool) → ((t || x) || y) ≡ (t || (x || y))
or_assoc true x y = refl
or_assoc false x y = refl

module _ (r : Reservation) (held : ℕ → ℕ) (small : r.address < 2 ^ 64) where
  foreign_keeps : (w : Write) (t : Bool) (b : FullState) → Keeps r held t b → Keeps r held (t || is_reserved w.0 r) (foreign w b)
  foreign_keeps w t b h = record {
    left = ⊎_elim gone (λ h. alive (is_reserved w.0 r) refl h) h.left;
    alive = λ untouched. lives (is_reserved w.0 r) refl t refl untouched;
  }
    where
      Left : Type 0
      Left = ((foreign w b).units.reserved ≡ None) ⊎ (((foreign w b).units.reserved ≡ Some r) × ((k : ℕ) → k < r.size → byte (foreign w b).state.values.mem (wrap (r.address + k)) ≡ held k))

      gone : b.units.reserved ≡ None → Left
      gone none = inl (ap (left_by w.0) none)

      alive : (c : Bool) → is_reserved w.0 r ≡ c → (b.units.reserved ≡ Some r) × ((k : ℕ) → k < r.size → byte b.state.values.mem (wrap (r.address + k)) ≡ held k) → Left
      alive true e h = inl (ap (left_by w.0) h.0 ∙ ap (λ c. if c then None else Some r) e)
      alive false e h = inr (
        (ap (left_by w.0) h.0 ∙ ap (λ c. if c then None else Some r) e),
        (λ k lt.
            let other : wrap (r.address + k) ≢ w.0 = (λ same. absurd (outside e k lt same)) in
            let apart : (wrap (r.address + k) == w.0) ≡ false = grind (arith, nat_tests) in
            byte_inserted b.state.values.mem w.0 w.1 (wrap (r.address + k)) ∙ ap (λ c. cond c w.1 (byte b.state.values.mem (wrap (r.address + k)))) apart ∙ h.1 k lt),
      )
        where
          outside : is_reserved w.0 r ≡ false → (k : ℕ) → k < r.size → wrap (r.address + k) ≡ w.0 → ⊥
          outside e k lt same =
              let le : r.size ≤ wrap (w.0 + (2 ^ 64 - r.address)) = ltb-false (wrap (w.0 + (2 ^ 64 - r.address))) r.size e in
              absurd (omega arith)

      lives : (c : Bool) → is_reserved w.0 r ≡ c → (d : Bool) → t ≡ d → (d || c) ≡ false → (foreign w b).units.reserved ≡ Some r
      lives c e true is untouched = absurd (cc)
      lives true e false is untouched = absurd (cc)
      lives false e false is untouched = ap (left_by w.0) (h.alive is) ∙ ap (λ c. if c then None else Some r) e

  foreigns_keep : (ws : List Write) (t : Bool) (b : FullState) → Keeps r held t b → Keeps r held (t || touches r ws) (foreigns ws b)
  foreigns_keep [] t b h = subst (λ c. Keeps r held c b) (sym (or_false t)) h
  foreigns_keep (w ∷ ws) t b h = subst (λ c. Keeps r held c (foreigns ws (foreign w b))) (or_assoc t (is_reserved w.0 r) (touches r ws)) (foreigns_keep ws (t || is_reserved w.0 r) (foreign w b) (foreign_keeps w t b h))

  pub interfered_keeps : (later : List (List Write)) (t : Bool) (b : FullState) → Keeps r held t b → Keeps r held (t || touches r (next_writes later)) (interfere later b).full
  interfered_keeps [] t b h = subst (λ c. Keeps r held c b) (sym (or_false t)) h
  interfered_keeps (ws ∷ later) t b h = foreigns_keep ws t b h

-- none is made
foreigns_none : (ws : List Write) (b : FullState) → b.units.reserved ≡ None → (foreigns ws b).units.reserved ≡ None
foreigns_none [] b none = none
foreigns_none (w ∷ ws) b none = foreigns_none ws (foreign w b) (ap (left_by w.0) none)

pub interfered_none : (later : List (List Write)) (b : FullState) → b.units.reserved ≡ None → (interfere later b).full.units.reserved ≡ None
interfered_none [] b none = none
interfered_none (ws ∷ later) b none = foreigns_none ws b none

-- ---- pieces on registers alone

full_step : (flags : IsaFlags) (t : State) (b : FullState) → iter flags 1 b.state ≡ Some t → fstep flags b ≡ Some (put t b)
unfolding fiter
full_step flags t b ran = integer_run flags 1 t b ran

pub no_step : (flags : IsaFlags) (s t : State) → iter flags 0 s ≡ Some t → s ≡ t
unfolding iter
no_step flags s t ran = same_Some s t ran

-- an evaluation of quiet pieces is what the machine does in as many steps at most, whatever others write between them
module _ (site : Site) (allocated start end : ℕ) (u : Units) (answers : List Answer) (r : Reservation) (held : ℕ → ℕ) (small : r.address < 2 ^ 64) (first last : ℕ) (whole : List Piece) (k : StandIn site allocated start end whole) (all : AreQuiet whole) where
  abbrev env : Environment
  env = environment site first last

  abbrev On : List Piece → List ℕ → FullState → Type 0
  On ps regs b = OnPieces site allocated start end ps regs u answers b

  -- the same place, with the memory that the machine has
  same_there : (ps : List Piece) (v : Values) (mem : Memory) (t : State) → IsAtPoint site allocated start end (points ps (with_mem mem v) []) t → IsAtPoint site allocated start end (point ps (record { regs = v.regs; mem = t.values.mem })) t
  same_there ps v mem t h = record { offset = h.offset; within = h.within; here = h.here; stand = h.stand; is_state = h.is_state; values = λ i. record { regs = (h.values i).regs; mem = t.values.mem } }

  -- after no step or one
  after_one : (n m : ℕ) (qs : List Piece) (out : List ℕ) (x : Point) (t : Bool) (a : Shared) (c : State) → m ≤ 1 → iter site.context.flags m a.full.state ≡ Some c → IsAtPoint site allocated start end (points x.ahead (with_mem a.full.state.values.mem x.values) []) c →
      set_reserved a.full.units None ≡ set_reserved u None → a.full.answers ≡ answers → AllClear site a.later → Keeps r held t a.full →
      ((t' : Bool) (b : Shared) → On x.ahead x.values.regs b.full → AllClear site b.later → Keeps r held t' b.full → ComesStill n site allocated start end qs out u answers r held t' b) → ComesStill (suc n) site allocated start end qs out u answers r held t a
  after_one n zero qs out x t a c le ran there units left clear keeps on =
      let i = same_there x.ahead x.values a.full.state.values.mem c there in
      let here = subst (λ (z : State). IsAtPoint site allocated start end (point x.ahead (record { regs = x.values.regs; mem = z.values.mem })) z) (sym (no_step site.context.flags a.full.state c ran)) i in
      let d = on t a (record { ints = here; units = units; answers = left }) clear keeps in
      let few = d.few in
      record { steps = d.steps; touched = d.touched; state = d.state; few = omega arith; ran = d.ran; there = d.there; clear = d.clear; keeps = d.keeps; none = d.none }
  after_one n (suc zero) qs out x t a c le ran there units left clear keeps on =
      let i = same_there x.ahead x.values a.full.state.values.mem c there in
      let b = put c a.full in
      let mem : c.values.mem ≡ a.full.state.values.mem = ap (λ (v : Values). v.mem) there.values in
      let kept : Keeps r held t b = record {
        left = subst (λ m. (a.full.units.reserved ≡ None) ⊎ ((a.full.units.reserved ≡ Some r) × ((k : ℕ) → k < r.size → byte m (wrap (r.address + k)) ≡ held k))) (sym mem) keeps.left;
        alive = keeps.alive;
      } in
      let now = touches r (next_writes a.later) in
      let d = on (t || now) (interfere a.later b) (interfered_on a.later b clear (record { ints = i; units = units; answers = left })) (later_clear site a.later b clear) (interfered_keeps r held small a.later t b kept) in
      let few = d.few in
      record {
        steps = suc d.steps;
        touched = now || d.touched;
        state = d.state;
        few = omega arith;
        ran = (b, d.touched, full_step site.context.flags c a.full ran, mem, refl, d.ran);
        there = d.there;
        clear = d.clear;
        keeps = subst (λ e. Keeps r held e d.state.full) (or_assoc t now d.touched) d.keeps;
        none = λ none. d.none (interfered_none a.later b none);
      }
  after_one n (suc (suc m)) qs out x t a c le ran there units left clear keeps on = absurd (omega arith)

  pub still_goes : (n : ℕ) (p q : Point) (t : Bool) (a : Shared) → p.written ≡ [] → AreQuiet p.ahead → evaluate env n whole p ≡ Some q → On p.ahead p.values.regs a.full → AllClear site a.later → Keeps r held t a.full →
      ComesStill n site allocated start end q.ahead q.values.regs u answers r held t a
  still_goes zero p q t a none quiet e h clear keeps =
      let same = same_Some p q e in
      record { steps = 0; touched = false; state = a; few = lit≤ tt; ran = (refl, refl); there = subst (λ (x : Point). On x.ahead x.values.regs a.full) same h; clear = clear; keeps = subst (λ c. Keeps r held c a.full) (sym (or_false t)) keeps; none = λ none. none }
  still_goes (suc n) p q t a none quiet e h clear keeps =
      (elim (next env whole p.ahead p.values p.written) as (λ o. next env whole p.ahead p.values p.written ≡ o → and_then o (evaluate env n whole) ≡ Some q → ComesStill (suc n) site allocated start end q.ahead q.values.regs u answers r held t a) [
        | None ↦ λ is f. absurd (cc)
        | Some x ↦ λ is f.
            let there : next env whole p.ahead p.values [] ≡ Some x = ap (next env whole p.ahead p.values) (sym none) ∙ is in
            let mem = a.full.state.values.mem in
            let y = next_still env whole p.ahead p.values mem x all quiet there in
            let c = one first last whole k p.ahead (with_mem mem p.values) [] (points x.ahead (with_mem mem x.values) []) a.full.state y.same tt h.ints in
            let few = c.few in
            let most = few_steps p.ahead quiet in
            after_one n c.steps q.ahead q.values.regs x t a c.state (omega arith) c.ran c.there h.units h.answers clear keeps
            (λ t' b on clear' keeps'. still_goes n x q t' b (still_writes env whole p.ahead p.values x all quiet there) y.quiet f on clear' keeps')
      ]) refl e

pub still_runs : StillRuns
still_runs site first last allocated start end whole k all u answers r held small = still_goes site allocated start end u answers r held small first last whole k all
