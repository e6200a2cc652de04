-- One step of the machine each: the load of an atomic loop, which reserves the number, and its store, which goes through or fails.
use Rattle.rv_code.proofs.Evaluation.{rest as rest_stands}
use Rattle.rv_code.proofs.Memories.{load_fits, placed_after, put_values}
use Rattle.rv_code.proofs.Registers.{are_values_set}
use Rattle.rv_code.proofs.Steps.{at_next, decodes_at}
use Rattle.rv_code.proofs.Words.{AllByRecursion, AreValues, CodeHas, Decoded, IsAt, Memory, Site, State, Values, act, byte, wrap, AreOutside, addresses_from, store as store_at, to_le_bytes, IsPlacedAt, w64}
use Rattle.rv_code.specs.Evaluation.{IsAtPoint, StandIn, point}
use Rattle.rv_code.specs.Pieces.{Piece, piece_size, pieces_size, slots_of}
use Rattle.rv_code.specs.Sites.{StandsIn}
use Rattle.rv_loops.specs.SharedLoops.{IsWord, load_word, reservation_at, store_word}
use Rattle.rv_loops.specs.SharedRuns.{Keeps, OnPieces}
use Rattle.rv_full.specs.Atomics.{has_reserved, number_at, number_put, width_bytes}
use Rattle.rv_full.specs.Rows.{put_memory, put_units, put_x}
use Rattle.rv_full.specs.Steps.{Asks, Halts, fnext, fstep, next_by, row_next, stepped, unit_on}
use Rattle.rv_full.specs.UnitRows.{unit_row}
use Rattle.rv_full.specs.Units.{FullState, FullValues, Units, full_at, set_reserved, values_of}
use Rattle.rv_full.specs.declared.answer.Answer.{Answer}
use Rattle.rv_full.specs.declared.answer.Answer.TheVariants.{Bits, Length, Stored, Success, Vectors}
use Rattle.rv_full.specs.declared.units.Reservation.{Reservation}
use Rattle.rv_machine.proofs.UnitOperations.{same_step}
use Rattle.rv_machine.specs.State.{reg_of, set_reg_of}
use Rattle.rv_machine.specs.Steps.{step_on}
use Rattle.rv_machine.specs.declared.ops.AtomicWidth.{AtomicWidth}
use Rattle.rv_machine.specs.declared.ops.AtomicWidth.TheVariants.{W, D}
use Rattle.rv_machine.specs.declared.ops.LoadOp.TheVariants as loads
use Rattle.std.proofs.Common.{◌≡◌, ◌⊎◌, ⊎_elim, inl, inr, ℕ, ◌+◌, ◌%◌, ◌^◌, ◌<◌, Bool, true, false, ◌&&◌, if◌then◌else◌, nat_eq, List, [], ◌∷◌, ◌++◌, length, take, Option, Some, None, arith, refl, sym, ap, subst, ◌∙◌, lit<}
use Rattle.std.proofs.lemmas.Bool.Decides.{nat_tests}

-- ---- an operation of a unit, where it stands

pub unit_next : {site : Site} {offset size : ℕ} (b : FullState) (d : Decoded) (ds : List Decoded) → act d b.state ≡ None → IsAt site offset size b.state → 0 < size → CodeHas site offset (d ∷ ds) → fnext site.context.flags b ≡ row_next (wrap (b.state.pc + d.len)) (unit_row d (values_of b)) b.answers
unfolding fnext
unit_next {site} {offset} {size} b d ds unit h some has =
    let even_pc : b.state.pc % 2 ≡ 0 = (let aligned = h.placed.aligned in let even = h.even in let pc = h.pc in omega arith) in
    let there = decodes_at d ds h some has in
    ap (λ o. next_by site.context.flags o b) (same_step site.context.flags b.state ∙ (λ i. if nat_eq (even_pc i) 0 then step_on (there i) b.state else None) ∙ unit) ∙ (λ i. if nat_eq (even_pc i) 0 then unit_on (there i) b else Halts)

pub number_fits : (width : AtomicWidth) (mem : Memory) (a : ℕ) → ((x : ℕ) → byte mem x < 256) → number_at width mem a < 2 ^ 64
number_fits W mem a h = load_fits loads.Lw mem a h
number_fits D mem a h = load_fits loads.Ld mem a h

-- the bytes of a number
abbrev bytes_of : AtomicWidth → ℕ → List ℕ
bytes_of width x = take (width_bytes width) (to_le_bytes w64 x)

bytes_fit : (width : AtomicWidth) (x : ℕ) → AllByRecursion (λ b. b < 256) (bytes_of width x)
bytes_fit W x = (omega arith, (omega arith, (omega arith, (omega arith, tt))))
bytes_fit D x = (omega arith, (omega arith, (omega arith, (omega arith, (omega arith, (omega arith, (omega arith, (omega arith, tt))))))))

bytes_long : (width : AtomicWidth) (x : ℕ) → length (bytes_of width x) ≡ width_bytes width
bytes_long W x = refl
bytes_long D x = refl

-- a word stands where its piece is, and what stands after it
module _ {site : Site} {allocated start end : ℕ} {ps : List Piece} {v : Values} {s : State} (p : Piece) (d : Decoded) (word : IsWord site.context.flags p d) (long : d.len ≡ 4) (h : IsAtPoint site allocated start end (point (p ∷ ps) v) s) where
  word_long : piece_size site.context.flags p ≡ 4
  word_long = word.size ∙ long

  word_has : CodeHas site h.offset (d ∷ [])
  word_has = (subst (λ slots. StandsIn site allocated h.offset (slots ++ slots_of site.context.flags ps)) word.slots h.stand.stand).0

  word_after : StandIn site allocated (h.offset + 4) end ps
  word_after = subst (λ n. StandIn site allocated (h.offset + n) end ps) word_long (rest_stands p ps h.stand)

  word_here : IsAt site h.offset (4 + pieces_size site.context.flags ps) s
  word_here = subst (λ n. IsAt site h.offset (n + pieces_size site.context.flags ps) s) word_long h.here

  -- the machine after the word, with these values
  word_next : (t : State) (w : Values) → t.pc ≡ wrap (s.pc + 4) → IsPlacedAt site t.values.mem → AreValues t.values → t.values ≡ record { regs = w.regs; mem = t.values.mem } → IsAtPoint site allocated start end (point ps (record { regs = w.regs; mem = t.values.mem })) t
  word_next t w pc placed values same =
      let le = h.within in
      record { offset = h.offset + 4; within = omega arith; here = at_next 4 t word_here refl pc placed; stand = word_after; is_state = record { pc = omega arith; values = values }; values = same }

-- ---- the load

module _ (site : Site) (allocated start end : ℕ) (u : Units) (answers : List Answer) where
  -- the number at an address is in a register, and reserved
  pub record Reserved (width : AtomicWidth) (dst address : ℕ) (ps : List Piece) (regs : List ℕ) (b : FullState) : Type 0 where
    pub state : FullState
    pub step : fstep site.context.flags b ≡ Some state
    pub mem : state.state.values.mem ≡ b.state.values.mem
    pub there : OnPieces site allocated start end ps (set_reg_of regs dst (number_at width b.state.values.mem address)) u answers state
    pub keeps : Keeps (reservation_at width address) (λ k. byte b.state.values.mem (wrap (address + k))) false state

  pub lr_goes : (load : Piece) (width : AtomicWidth) (dst addr : ℕ) (ps : List Piece) (regs : List ℕ) (b : FullState) → IsWord site.context.flags load (load_word width dst addr) → dst < 32 → OnPieces site allocated start end (load ∷ ps) regs u answers b → Reserved width dst (reg_of regs addr) ps regs b
  lr_goes load width dst addr ps regs b word lt h =
      let p = h.ints in
      let s = b.state in
      let d = load_word width dst addr in
      let same : s.values.regs ≡ regs = ap (λ (v : Values). v.regs) p.values in
      let a = reg_of s.values.regs addr in
      let n = number_at width s.values.mem a in
      let c = full_at (wrap (s.pc + 4)) (put_units (set_reserved b.units (Some (reservation_at width a))) (put_x d n (values_of b))) b.answers in
      record {
        state = c;
        step = ap stepped (unit_next b d [] refl (word_here load d word refl p) (omega arith) (word_has load d word refl p));
        mem = refl;
        there = record {
          ints = word_next load d word refl p c.state (record { regs = set_reg_of regs dst (number_at width s.values.mem (reg_of regs addr)); mem = s.values.mem }) refl p.here.placed (are_values_set s.values dst n p.is_state.values lt (number_fits width s.values.mem a p.is_state.values.bytes))
              (λ i. record { regs = set_reg_of (same i) dst (number_at width s.values.mem (reg_of (same i) addr)); mem = s.values.mem });
          units = h.units;
          answers = h.answers;
        };
        keeps = record { left = inr (ap (λ rs. Some (reservation_at width (reg_of rs addr))) same, λ k lt. refl); alive = λ e. ap (λ rs. Some (reservation_at width (reg_of rs addr))) same };
      }

-- ---- the store

own_reservation : (r : Reservation) → has_reserved (Some r) r ≡ true
own_reservation r = grind (arith, nat_tests)

is_true : (t : Bool) → (t ≡ false → ⊥) → t ≡ true
is_true true h = refl
is_true false h = absurd (h refl)

module _ (site : Site) (allocated start end : ℕ) (u : Units) where
  -- what becomes of it: it asks; it stores, and then the bytes are what was loaded; or it fails, as it is told to or since others wrote
  pub data Ends (width : AtomicWidth) (t0 src address : ℕ) (ps : List Piece) (regs : List ℕ) (answers : List Answer) (held : ℕ → ℕ) (touched : Bool) (b : FullState) : Type 0 where
    ItAsks : fnext site.context.flags b ≡ Asks → Ends width t0 src address ps regs answers held touched b
    ItStores : (more : List Answer) (c : FullState) →
        answers ≡ Success true ∷ more →
        fstep site.context.flags b ≡ Some c →
        c.state.values.mem ≡ number_put width (reg_of regs src) b.state.values.mem address →
        ((k : ℕ) → k < width_bytes width → byte b.state.values.mem (wrap (address + k)) ≡ held k) →
        c.units.reserved ≡ None →
        OnPieces site allocated start end ps (set_reg_of regs t0 0) u more c →
        Ends width t0 src address ps regs answers held touched b
    ItFails : (x : Bool) (more : List Answer) (c : FullState) →
        answers ≡ Success x ∷ more →
        (x ≡ false) ⊎ (touched ≡ true) →
        fstep site.context.flags b ≡ Some c →
        c.state.values.mem ≡ b.state.values.mem →
        c.units.reserved ≡ None →
        OnPieces site allocated start end ps (set_reg_of regs t0 1) u more c →
        Ends width t0 src address ps regs answers held touched b

  module _ (width : AtomicWidth) (t0 addr src address : ℕ) (ps : List Piece) (regs : List ℕ) (at_it : reg_of regs addr ≡ address) (held : ℕ → ℕ) (touched : Bool) (b : FullState) (store : Piece) (word : IsWord site.context.flags store (store_word width t0 addr src)) (lt : t0 < 32) (clear : AreOutside site.base (length site.bytes) (addresses_from address (width_bytes width))) where
    abbrev d : Decoded
    d = store_word width t0 addr src

    abbrev pc : ℕ
    pc = wrap (b.state.pc + 4)

    abbrev v : FullValues
    v = values_of b

    -- after it, by whether it stored
    abbrev row_after : Bool → FullValues
    row_after t = put_units (set_reserved b.units None) (if t then put_x d 0 (put_memory (number_put width (reg_of b.state.values.regs src) b.state.values.mem (reg_of b.state.values.regs addr)) v) else put_x d 1 v)

    -- whether it stores where it is told so, with this reservation
    abbrev may : Bool → Option Reservation → Bool
    may x o = x && has_reserved o (reservation_at width (reg_of b.state.values.regs addr))

    module _ {answers : List Answer} (h : OnPieces site allocated start end (store ∷ ps) regs u answers b) (keeps : Keeps (reservation_at width address) held touched b) where
      same : b.state.values.regs ≡ regs
      same = ap (λ (v : Values). v.regs) h.ints.values

      here : b.state.values.regs ≡ regs → reg_of b.state.values.regs addr ≡ address
      here e = ap (λ rs. reg_of rs addr) e ∙ at_it

      next_is : (l : List Answer) → b.answers ≡ l → fnext site.context.flags b ≡ row_next pc (unit_row d v) l
      next_is l e = unit_next b d [] refl (word_here store d word refl h.ints) (omega arith) (word_has store d word refl h.ints) ∙ ap (row_next pc (unit_row d v)) e

      step_is : (x : Bool) (more : List Answer) → answers ≡ Success x ∷ more → (o : Option Reservation) → b.units.reserved ≡ o → (t : Bool) → may x o ≡ t → fstep site.context.flags b ≡ Some (full_at pc (row_after t) more)
      step_is x more is o left t e = ap stepped (next_is (Success x ∷ more) (h.answers ∙ is)) ∙ (λ i. Some (full_at pc (row_after (may x (left i))) more)) ∙ ap (λ t. Some (full_at pc (row_after t) more)) e

      told_so : (x : Bool) (o : Option Reservation) → may x o ≡ true → x ≡ true
      told_so true o e = refl
      told_so false o e = absurd (cc)

      -- where it stores the bytes are those that were reserved
      kept : (x : Bool) (o : Option Reservation) → b.units.reserved ≡ o → may x o ≡ true → (k : ℕ) → k < width_bytes width → byte b.state.values.mem (wrap (address + k)) ≡ held k
      kept false o left e k lt = absurd (cc)
      kept true None left e k lt = absurd (cc)
      kept true (Some r) left e k lt =
          ⊎_elim (λ (none : b.units.reserved ≡ None). absurd (cc))
          (λ (some : (b.units.reserved ≡ Some (reservation_at width address)) × ((k : ℕ) → k < width_bytes width → byte b.state.values.mem (wrap (address + k)) ≡ held k)). some.1 k lt) keeps.left

      why : (x : Bool) (o : Option Reservation) → b.units.reserved ≡ o → may x o ≡ false → (x ≡ false) ⊎ (touched ≡ true)
      why false o left e = inl refl
      why true o left e = inr (is_true touched (λ (untouched : touched ≡ false).
          let alive : o ≡ Some (reservation_at width address) = sym left ∙ keeps.alive untouched in
          let own : may true o ≡ true = (λ i. has_reserved (alive i) (reservation_at width (here same i))) ∙ own_reservation (reservation_at width address) in
          let never : false ≡ true = sym e ∙ own in
          absurd (cc)))

      it_stores : (x : Bool) (more : List Answer) → answers ≡ Success x ∷ more → (o : Option Reservation) → b.units.reserved ≡ o → may x o ≡ true → Ends width t0 src address ps regs answers held touched b
      it_stores x more is o left e =
          let p = h.ints in
          let s = b.state in
          let c = full_at pc (row_after true) more in
          let a = reg_of s.values.regs addr in
          let bytes = bytes_of width (reg_of s.values.regs src) in
          let out : AreOutside site.base (length site.bytes) (addresses_from a (length bytes)) =
          subst (λ n. AreOutside site.base (length site.bytes) (addresses_from a n)) (sym (bytes_long width (reg_of s.values.regs src)))
          (subst (λ n. AreOutside site.base (length site.bytes) (addresses_from n (width_bytes width))) (sym (here same)) clear) in
          let stored = put_values s.values a bytes p.is_state.values (bytes_fit width (reg_of s.values.regs src)) in
          let values = are_values_set (record { regs = s.values.regs; mem = store_at s.values.mem a bytes }) t0 0 stored lt (lit< tt) in
          let ints = word_next store d word refl p c.state (record { regs = set_reg_of regs t0 0; mem = s.values.mem }) refl (placed_after site s.values.mem a bytes p.here.placed out) values
          (λ i. record { regs = set_reg_of (same i) t0 0; mem = store_at s.values.mem a bytes }) in
          ItStores more c (is ∙ ap (λ t. Success t ∷ more) (told_so x o e)) (step_is x more is o left true e) (λ i. number_put width (reg_of (same i) src) s.values.mem (here same i)) (kept x o left e) refl
          (record { ints = ints; units = h.units; answers = refl })

      it_fails : (x : Bool) (more : List Answer) → answers ≡ Success x ∷ more → (o : Option Reservation) → b.units.reserved ≡ o → may x o ≡ false → Ends width t0 src address ps regs answers held touched b
      it_fails x more is o left e =
          let p = h.ints in
          let s = b.state in
          let c = full_at pc (row_after false) more in
          let ints = word_next store d word refl p c.state (record { regs = set_reg_of regs t0 1; mem = s.values.mem }) refl p.here.placed (are_values_set s.values t0 1 p.is_state.values lt (lit< tt))
          (λ i. record { regs = set_reg_of (same i) t0 1; mem = s.values.mem }) in
          ItFails x more c is (why x o left e) (step_is x more is o left false e) refl refl (record { ints = ints; units = h.units; answers = refl })

      -- it is told whether it may go through, and whether it does
      told : (x : Bool) (more : List Answer) → answers ≡ Success x ∷ more → (t : Bool) → may x b.units.reserved ≡ t → Ends width t0 src address ps regs answers held touched b
      told x more is true e = it_stores x more is b.units.reserved refl e
      told x more is false e = it_fails x more is b.units.reserved refl e

      pub sc_goes : (l : List Answer) → answers ≡ l → Ends width t0 src address ps regs answers held touched b
      sc_goes [] is = ItAsks (next_is [] (h.answers ∙ is))
      sc_goes (Success x ∷ more) is = told x more is (may x b.units.reserved) refl
      sc_goes (Bits n ∷ more) is = ItAsks (next_is (Bits n ∷ more) (h.answers ∙ is))
      sc_goes (Vectors rs ∷ more) is = ItAsks (next_is (Vectors rs ∷ more) (h.answers ∙ is))
      sc_goes (Stored bs ∷ more) is = ItAsks (next_is (Stored bs ∷ more) (h.answers ∙ is))
      sc_goes (Length n ∷ more) is = ItAsks (next_is (Length n ∷ more) (h.answers ∙ is))
