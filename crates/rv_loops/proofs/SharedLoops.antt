-- Loops that store a number where no one wrote to it since it was loaded run so, whatever others write between their steps.
use Rattle.rv_code.proofs.Registers.{reads_back}
use Rattle.rv_loops.proofs.AtomicSteps.{Ends, ItAsks, ItFails, ItStores, Reserved, lr_goes, number_fits, sc_goes}
use Rattle.rv_loops.proofs.SharedRuns.{interfered_keeps, interfered_none, interfered_on, later_clear, still_goes}
use Rattle.rv_code.proofs.Words.{AreValues, IsaFlags, Memory, Site, Values, after, byte, holds, wrap, AreOutside, addresses_from}
use Rattle.rv_code.specs.Evaluation.{StandIn, and_then, evaluate, point, at as points, to}
use Rattle.rv_code.specs.InstRuns.{environment}
use Rattle.rv_code.specs.Pieces.{Branch, Piece}
use Rattle.rv_loops.specs.Laws.{LoopRuns}
use Rattle.rv_loops.specs.SharedLoops.{EachMiddle, FailedPass, LastPass, Leaves, LoopEnds, Middle, Quiet, Stores, IsWord, load_word, reservation_at, store_word, stores}
use Rattle.rv_loops.specs.SharedRuns.{AllClear, AreQuiet, ComesStill, Keeps, OnPieces, Still, next_writes, touches}
use Rattle.rv_base.specs.declared.condcodes.IntCC.TheVariants.{NotEqual}
use Rattle.rv_full.specs.Atomics.{number_at, width_bytes}
use Rattle.rv_full.specs.Rows.{rest}
use Rattle.rv_full.specs.Shared.{Shared, interfere}
use Rattle.rv_full.specs.Units.{FullState, Units}
use Rattle.rv_full.specs.declared.answer.Answer.{Answer}
use Rattle.rv_full.specs.declared.answer.Answer.TheVariants.{Success}
use Rattle.rv_full.specs.declared.units.Reservation.{Reservation}
use Rattle.rv_inst.specs.Meaning.{Environment}
use Rattle.rv_machine.specs.State.{reg_of, set_reg_of}
use Rattle.rv_machine.specs.declared.ops.AtomicWidth.{AtomicWidth}
use Rattle.std.proofs.Common.{◌≡◌, inl, inr, ℕ, zero, suc, ◌+◌, ◌^◌, ◌<◌, ◌≤◌, Bool, true, false, ◌||◌, if◌then◌else◌, List, [], ◌∷◌, length, Some, None, arith, refl, sym, ap, subst, ◌∙◌}

-- ---- steps after steps

pub still_quiet : (flags : IsaFlags) (r : Reservation) (n : ℕ) (a b : Shared) (t : Bool) → Still flags r n a t b → Quiet flags n a b
still_quiet flags r zero a b t h = h.0
still_quiet flags r (suc n) a b t h = (h.0, h.2, h.3, still_quiet flags r n (interfere a.later h.0) b h.1 h.5)

no_reservation : (r : Reservation) (held : ℕ → ℕ) (b : FullState) → b.units.reserved ≡ None → Keeps r held true b
no_reservation r held b none = record { left = inl none; alive = λ e. absurd (cc) }

-- ---- the loop

module _ (site : Site) (first last allocated start end most : ℕ) (u : Units) (load store : Piece) (whole ps tail leave : List Piece) (width : AtomicWidth) (dst addr src t0 address : ℕ) (Again : List ℕ → Type 0) (k : StandIn site allocated start end whole) (all : AreQuiet whole) where
  abbrev env : Environment
  env = environment site first last

  abbrev store_pieces : List Piece
  store_pieces = stores store t0 tail

  abbrev On : List Piece → List ℕ → List Answer → FullState → Type 0
  On qs regs answers b = OnPieces site allocated start end qs regs u answers b

  abbrev r : Reservation
  r = reservation_at width address

  -- how it ends
  abbrev Ended : List Answer → Shared → Type 0
  Ended answers a = LoopEnds site env allocated start end most store whole ps tail leave width dst src t0 address Again u answers a

  module _
      (loops : after 0 whole ≡ Some (load ∷ ps))
      (load_is : IsWord site.context.flags load (load_word width dst addr))
      (store_is : IsWord site.context.flags store (store_word width t0 addr src))
      (dst_lt : dst < 32)
      (quiet : AreQuiet ps)
      (quiet_tail : AreQuiet tail)
      (small : address < 2 ^ 64)
      (some : 0 < t0)
      (lt : t0 < 32)
      (clear : AreOutside site.base (length site.bytes) (addresses_from address (width_bytes width)))
      (addressed : (regs : List ℕ) → Again regs → reg_of regs addr ≡ address)
      (middle : EachMiddle env most whole ps store_pieces leave dst addr t0 address Again) where
    -- a pass before others
    earlier : {qs : List Piece} {took : List Answer} {b : Shared} (x : Bool) (a : Shared) → FailedPass site.context.flags r most x a b → LastPass site env most whole ps qs width dst address Again took b → LastPass site env most whole ps qs width dst address Again (Success x ∷ took) a
    earlier {b = b} x a failed p = record {
      first = p.first;
      earlier = (x, b, refl, failed, p.earlier);
      regs = p.regs;
      again = p.again;
      loaded = p.loaded;
      with_number = p.with_number;
      fits = p.fits;
      count = p.count;
      values = p.values;
      ran = p.ran;
      between = p.between;
      touched = p.touched;
      last = p.last;
      still = p.still;
      short = p.short;
      keeps = p.keeps;
    }

    after_pass : (x : Bool) (more : List Answer) (a b : Shared) → FailedPass site.context.flags r most x a b → Ended more b → Ended (Success x ∷ more) a
    unfolding earlier
    after_pass x more a b failed (inl c) = inl (record { took = Success x ∷ c.took; more = c.more; parted = ap (λ l. Success x ∷ l) c.parted; pass = earlier x a failed c.pass; same = c.same; stored = c.stored; stores_it = c.stores_it; memory = c.memory; final = c.final; rest = c.rest; little = c.little; leaves = c.leaves; there = c.there; none = c.none })
    after_pass x more a b failed (inr (inl c)) = inr (inl (record { took = Success x ∷ c.took; more = c.more; parted = ap (λ l. Success x ∷ l) c.parted; pass = earlier x a failed c.pass; there = c.there }))
    after_pass x more a b failed (inr (inr c)) = inr (inr (record { took = Success x ∷ c.took; more = c.more; parted = ap (λ l. Success x ∷ l) c.parted; pass = earlier x a failed c.pass; asks = c.asks; left = c.left }))

    -- what comes of the branch after the store
    branches : (x : ℕ) (regs : List ℕ) (mem : Memory) (c : Bool) → holds NotEqual x 0 ≡ c → reg_of (set_reg_of regs t0 x) t0 ≡ x → evaluate env 1 whole (point (Branch NotEqual t0 0 0 ∷ tail) (record { regs = set_reg_of regs t0 x; mem = mem })) ≡ Some (point (if c then load ∷ ps else tail) (record { regs = set_reg_of regs t0 x; mem = mem }))
    branches x regs mem true test e =
        let v : Values = record { regs = set_reg_of regs t0 x; mem = mem } in
        ap (λ n. and_then (if holds NotEqual n 0 then to (after 0 whole) v [] else Some (points tail v [])) (evaluate env 0 whole)) e
        ∙ ap (λ t. and_then (if t then to (after 0 whole) v [] else Some (points tail v [])) (evaluate env 0 whole)) test
        ∙ ap (λ o. and_then (to o v []) (evaluate env 0 whole)) loops
    branches x regs mem false test e =
        let v : Values = record { regs = set_reg_of regs t0 x; mem = mem } in
        ap (λ n. and_then (if holds NotEqual n 0 then to (after 0 whole) v [] else Some (points tail v [])) (evaluate env 0 whole)) e
        ∙ ap (λ t. and_then (if t then to (after 0 whole) v [] else Some (points tail v [])) (evaluate env 0 whole)) test

    module _ {answers : List Answer} (regs : List ℕ) (a : Shared) (h : On (load ∷ ps) regs answers a.full) (later : AllClear site a.later) (again : Again regs)
        (on : (x : Bool) (more : List Answer) → answers ≡ Success x ∷ more → (regs' : List ℕ) (b : Shared) → On (load ∷ ps) regs' more b.full → AllClear site b.later → Again regs' → Ended more b) where
      abbrev number : ℕ
      number = number_at width a.full.state.values.mem address

      abbrev held : ℕ → ℕ
      held j = byte a.full.state.values.mem (wrap (address + j))

      abbrev now : Bool
      now = touches r (next_writes a.later)

      module _ (l : Reserved site allocated start end u answers width dst address ps regs a.full) where
        abbrev a1 : Shared
        a1 = interfere a.later l.state

        abbrev loaded : Values
        loaded = record { regs = set_reg_of regs dst number; mem = a1.full.state.values.mem }

        loaded_on : On ps (set_reg_of regs dst number) answers a1.full
        loaded_on = interfered_on a.later l.state later l.there

        loaded_keeps : Keeps r held now a1.full
        loaded_keeps = interfered_keeps r held small a.later false l.state l.keeps

        loaded_values : AreValues loaded
        loaded_values = subst AreValues loaded_on.ints.values loaded_on.ints.is_state.values

        abbrev Comes : ℕ → List Piece → Values → Type 0
        Comes n qs w = ComesStill n site allocated start end qs w.regs u answers r held now a1

        -- on registers alone
        goes : (n : ℕ) (qs : List Piece) (w : Values) → evaluate env n whole (point ps loaded) ≡ Some (point qs w) → Comes n qs w
        goes n qs w ran = still_goes site allocated start end u answers r held small first last whole k all n (point ps loaded) (point qs w) now a1 refl quiet ran loaded_on (later_clear site a.later l.state later) loaded_keeps

        the_pass : {n : ℕ} (qs : List Piece) (w : Values) → n ≤ most → evaluate env n whole (point ps loaded) ≡ Some (point qs w) → Comes n qs w → LastPass site env most whole ps qs width dst address Again [] a
        the_pass {n} qs w le ran d = record {
          first = a;
          earlier = refl;
          regs = regs;
          again = again;
          loaded = loaded;
          with_number = refl;
          fits = loaded_values;
          count = n;
          values = w;
          ran = ran;
          between = suc d.steps;
          touched = now || d.touched;
          last = d.state;
          still = (l.state, d.touched, l.step, l.mem, refl, d.ran);
          short = (let few = d.few in omega arith);
          keeps = d.keeps;
        }

        -- the branch after the store
        module _ {n : ℕ} (w : Values) (le : n ≤ most) (ran : evaluate env n whole (point ps loaded) ≡ Some (point store_pieces w)) (there : reg_of w.regs addr ≡ address) (more_again : (x : ℕ) → Again (set_reg_of w.regs t0 x)) (d : Comes n store_pieces w) where
          back : (x : ℕ) → reg_of (set_reg_of w.regs t0 x) t0 ≡ x
          back x = reads_back (record { regs = w.regs; mem = d.state.full.state.values.mem }) t0 x (subst AreValues d.there.ints.values d.there.ints.is_state.values) some lt

          after_store : (x : ℕ) (c : Bool) (more : List Answer) (s : FullState) → holds NotEqual x 0 ≡ c → s.units.reserved ≡ None → On (Branch NotEqual t0 0 0 ∷ tail) (set_reg_of w.regs t0 x) more s →
              ComesStill 1 site allocated start end (if c then load ∷ ps else tail) (set_reg_of w.regs t0 x) u more r held true (interfere d.state.later s)
          after_store x c more s test none on_branch =
              let b = interfere d.state.later s in
              let v : Values = record { regs = set_reg_of w.regs t0 x; mem = b.full.state.values.mem } in
              still_goes site allocated start end u more r held small first last whole k all 1 (point (Branch NotEqual t0 0 0 ∷ tail) v) (point (if c then load ∷ ps else tail) v) true b refl (refl, quiet_tail) (branches x w.regs b.full.state.values.mem c test (back x))
              (interfered_on d.state.later s d.clear on_branch) (later_clear site d.state.later s d.clear) (interfered_keeps r held small d.state.later true s (no_reservation r held s none))

          ends : Ends site allocated start end u width t0 src address (Branch NotEqual t0 0 0 ∷ tail) w.regs answers held (now || d.touched) d.state.full → Ended answers a
          unfolding the_pass
          ends (ItAsks asks) = inr (inr (record { took = []; more = answers; parted = refl; pass = the_pass store_pieces w le ran d; asks = asks; left = d.there.answers }))
          ends (ItStores more s is step mem kept none on_branch) =
              let e = after_store 0 false more s refl none on_branch in
              inl (record {
                took = [];
                more = more;
                parted = is;
                pass = the_pass store_pieces w le ran d;
                same = kept;
                stored = s;
                stores_it = step;
                memory = mem;
                final = e.state;
                rest = e.steps;
                little = e.few;
                leaves = still_quiet site.context.flags r e.steps (interfere d.state.later s) e.state e.touched e.ran;
                there = e.there;
                none = e.none (interfered_none d.state.later s none);
              })
          ends (ItFails x more s is why step mem none on_branch) =
              let e = after_store 1 true more s refl none on_branch in
              let flags = site.context.flags in
              let failed : FailedPass flags r most x a e.state = record {
                between = suc d.steps;
                touched = now || d.touched;
                last = d.state;
                still = (l.state, d.touched, l.step, l.mem, refl, d.ran);
                failed = s;
                step = step;
                mem = mem;
                rest = e.steps;
                again = still_quiet flags r e.steps (interfere d.state.later s) e.state e.touched e.ran;
                few = (let a = d.few in let b = e.few in omega arith);
                why = why;
              } in
              subst (λ l. Ended l a) (sym is) (after_pass x more a e.state failed (on x more is (set_reg_of w.regs t0 1) e.state e.there e.clear (more_again 1)))

        by_middle : Middle env most whole ps store_pieces leave addr t0 address Again loaded → Ended answers a
        unfolding the_pass
        by_middle (Stores n w le ran there more_again) =
            let d = goes n store_pieces w ran in
            ends w le ran there more_again d (sc_goes site allocated start end u width t0 addr src address (Branch NotEqual t0 0 0 ∷ tail) w.regs there held (now || d.touched) d.state.full store store_is lt clear d.there d.keeps answers refl)
        by_middle (Leaves n w le ran) =
            let d = goes n leave w ran in
            inr (inl (record { took = []; more = answers; parted = refl; pass = the_pass leave w le ran d; there = d.there }))

      one_pass : Ended answers a
      one_pass =
          let l = subst (λ x. Reserved site allocated start end u answers width dst x ps regs a.full) (addressed regs again) (lr_goes site allocated start end u answers load width dst addr ps regs a.full load_is dst_lt h) in
          by_middle l (middle regs number (a1 l).full.state.values.mem again (number_fits width a.full.state.values.mem address h.ints.is_state.values.bytes) (loaded_values l))

    pub loop : (answers : List Answer) (regs : List ℕ) (a : Shared) → On (load ∷ ps) regs answers a.full → AllClear site a.later → Again regs → Ended answers a
    loop [] regs a h later again = one_pass regs a h later again (λ x more is. absurd (cc))
    loop (y ∷ ys) regs a h later again = one_pass regs a h later again (λ x more is regs' b on_it clear_it again'.
        let same : ys ≡ more = ap rest is in
        subst (λ l. Ended l b) same (loop ys regs' b (subst (λ l. On (load ∷ ps) regs' l b.full) (sym same) on_it) clear_it again'))

pub loop_runs : (Again : List ℕ → Type 0) → LoopRuns Again
loop_runs Again site first last allocated start end most load store whole ps tail leave width dst addr src t0 address k all quiet quiet_tail loops load_is store_is dst_lt some lt small clear addressed middle u answers regs a on_it clear_it again =
    loop site first last allocated start end most u load store whole ps tail leave width dst addr src t0 address Again k all loops load_is store_is dst_lt quiet quiet_tail small some lt clear addressed middle answers regs a on_it clear_it again
