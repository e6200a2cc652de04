-- The ones and the zeros of a register are counted, bit by bit.
use Rattle.{rv_code.specs.Pieces.Jump, rv_ops.specs.Operations.is_carry_unary}
use Rattle.std.proofs.Common.{None}
use Rattle.rv_code.{proofs.Reaching.{Reaches, goes_on, reaches_such}, proofs.Registers.{Count, Counted, InCount, IsCount, TestsBit, counted, same_beside, source_kept, spare_kept, written}}
use Rattle.rv_code.{proofs.ZeroNumbers.{counts_on, ends_at, index_of, none_to_count, power_is, power_next, power_of, zeros_all, zeros_few, zeros_left, zeros_more}, specs.InstRuns.environment, specs.Sequences.{count_start, count_down, count_test, ones_pieces, ones_turn, zeros_pieces, zeros_turn}}
use Rattle.{rv_inst.{specs.Bits.{ones, zeros}, specs.Meaning.Environment, specs.Sizes.bit_shift}, rv_runs.proofs.Exits.{SlotsOut, pieces_out, same_but}}
use Rattle.rv_runs.proofs.Words.{Addi, AluOPRRI, And, AreInRange, AreValues, Bind, Branch, Do, Equal, NotEqual, Piece, Rri, Rrr, SameBut, Site, Slli, Srli, State, Values, after, alu_rri, and_comm, and_pow, and_then, are_values_set, bit_at, bit_at-lt, count_set, evaluate}
use Rattle.rv_runs.proofs.Words.{half_power, ints, low64, none_below, not_zero, point, pow_below, pow_pos, reads_other, reads_set, reg, set_reg, signed_below, slots_of, small_shift, temporary_set, to, wrap}
use Rattle.std.{proofs.Common.{Bool, List, Some, [], ap, arith, bit_and, false, if◌then◌else◌, lit<, lit≤, nat_eq, negsuc, not, pos, refl, rules, subst, suc, sym, true, zero, ℕ, ◌%◌, ◌*◌, ◌++◌, ◌+◌, ◌-◌, ◌/◌, ◌<◌, ◌==◌, ◌^◌, ◌∙◌, ◌∷◌, ◌≡◌, ◌≤◌}, proofs.lemmas.Nat.Bits.{bit_at-suc, bit_at_lowest}}

-- What sequences that count bits of a register have in common: how their loop begins, tests the next bit, and goes on.

-- the first bit's power
abbrev pub first_power : Bool → ℕ → ℕ
first_power true bits = 2 ^ bits / 2
first_power false bits = 1

-- a register that holds 1 is shifted to its highest bit
pub to_highest : (x bits : ℕ) → x ≡ 1 → 0 < bits → bits ≤ 64 → alu_rri Slli x (pos (bits - 1)) ≡ 2 ^ bits / 2
to_highest x bits one some few =
    let last : suc (bits - 1) ≡ bits = omega arith in
    let half : 2 ^ (bits - 1) ≡ 2 ^ bits / 2 = sym (half_power (bits - 1)) ∙ ap (λ k. 2 ^ k / 2) last in
    let power = pow_below (bits - 1) 64 (omega arith) in
    let amount : low64 (pos (bits - 1)) % 64 ≡ bits - 1 = omega (arith, ints) in
    (λ i. wrap (one i * 2 ^ amount i)) ∙ omega arith

-- The ones of a register are counted, from the highest of its low bits on.

-- ---- numbers

-- the ones of one bit more
ones_more : (k n : ℕ) → ones (suc k) n ≡ bit_at n k + ones k n
ones_more zero n = let b = bit_at_lowest n in omega arith
ones_more (suc k) n = let e = ones_more k (n / 2) in let b = bit_at-suc n k in omega arith

ones_few : (k n : ℕ) → ones k n ≤ k
ones_few zero n = lit≤ tt
ones_few (suc k) n = let e = ones_few k (n / 2) in omega arith

-- ---- a turn

abbrev whole_ones : Count → List Piece
whole_ones c = ones_pieces c.sum c.tmp c.step c.rs c.bits

abbrev turn_of_ones : Count → List Piece
turn_of_ones c = ones_turn c.sum c.tmp c.step c.rs

-- what stands in a turn after its tests, and from the test of the bit on
abbrev down_of : Count → List Piece
down_of c = count_down Srli c.tmp c.step

abbrev counting_ones : Count → List Piece
counting_ones c = Do (Rri Addi c.sum c.sum (pos 1)) ∷ Bind 2 ∷ down_of c

abbrev testing_ones : Count → List Piece
testing_ones c = Branch Equal 0 30 2 ∷ counting_ones c

-- The zeros of a register are counted, up to the first one.

abbrev whole_of : Bool → Count → List Piece
whole_of leading c = zeros_pieces leading c.sum c.tmp c.step c.rs c.bits

abbrev turn_of : Bool → Count → List Piece
turn_of leading c = zeros_turn leading c.sum c.tmp c.step c.rs

-- where the loop's label and the end's stand
places : (leading : Bool) (c : Count) → (after 0 (whole_of leading c) ≡ Some (turn_of leading c)) × (after 1 (whole_of leading c) ≡ Some [])
places true c = (refl, refl)
places false c = (refl, refl)

bit_shift_is : (leading : Bool) → is_carry_unary (bit_shift leading) ≡ false
bit_shift_is true = refl
bit_shift_is false = refl

-- ---- a turn

-- what stands in a turn after its tests, and from the test of the bit on
abbrev counting : Bool → Count → List Piece
counting leading c = Do (Rri Addi c.sum c.sum (pos 1)) ∷ count_down (bit_shift leading) c.tmp c.step

abbrev testing : Bool → Count → List Piece
testing leading c = Branch NotEqual 0 30 1 ∷ counting leading c

module _ (env : Environment) where
  -- before the first turn
  pub starts : {c : Count} {v : Values} (whole tail : List Piece) (downward : Bool) (w : Values) → IsCount c → AreValues w → SameBut (written c) v w → Reaches env whole (point (count_start downward c.sum c.tmp c.step c.bits ++ tail) w) tail (InCount c c.bits (first_power downward c.bits) 0 v)
  starts {c} {v} whole tail downward w h hw others =
      let y = alu_rri Addi 0 (pos c.bits) in
      let full : y ≡ c.bits = omega (arith, ints) in
      goes_on {Such = InCount c c.bits 1 0 v} (record { count = 3; values = set_reg (set_reg (set_reg w c.sum 0) c.step y) c.tmp 1; ran = refl; such = search (rules, reads_other, reads_set, count_set, h, hw, temporary_set, others, full) }) (λ u k.
      -- the lowest bit is the next, or one more shift goes to the highest
      elim downward as (λ c1. Reaches env whole (point ((if c1 then Do (Rri Slli c.tmp c.tmp (pos (c.bits - 1))) ∷ [] else []) ++ tail) u) tail (InCount c c.bits (first_power c1 c.bits) 0 v)) [
        | true ↦
            let x = alu_rri Slli (reg u c.tmp) (pos (c.bits - 1)) in
            let highest = to_highest (reg u c.tmp) c.bits k.holds.tmp (omega arith) h.few in
            record { count = 1; values = set_reg u c.tmp x; ran = refl; such = search (rules, reads_other, reads_set, count_set, k, h, temporary_set, highest) }
        | false ↦ record { count = 0; values = u; ran = refl; such = k }
      ])

  -- no bit is left
  pub none_left : {c : Count} {next count : ℕ} {v : Values} (whole tail : List Piece) (w : Values) → after 1 whole ≡ Some [] → InCount c 0 next count v w → Reaches env whole (point (count_test c.tmp c.step c.rs tail) w) [] (Counted c count v)
  none_left {c} whole tail w ends k =
      record {
        count = 1;
        values = w;
        ran = λ i. and_then (if not ((ap (signed_below 0) k.holds.step) i) then to (ends i) w [] else Some (point (Do (Rrr And 30 c.tmp c.rs) ∷ tail) w)) (evaluate env 0 whole);
        such = counted w k.holds;
      }

  -- some are left, and the next one goes to x30
  pub tests : {c : Count} {left count : ℕ} {v : Values} (whole tail : List Piece) (index : ℕ) (w : Values) → left < 64 → IsCount c → InCount c (suc left) (2 ^ index) count v w → Reaches env whole (point (count_test c.tmp c.step c.rs tail) w) tail (TestsBit c (suc left) (2 ^ index) count (bit_at (reg v c.rs) index) v)
  tests {c} {left} {count} {v} whole tail index w lt h k =
      let n = reg v c.rs in
      let x = bit_and (reg w c.tmp) (reg w c.rs) in
      record {
        count = 2;
        values = set_reg w 30 x;
        ran = ap (λ b. and_then (if not b then to (after 1 whole) w [] else Some (point (Do (Rrr And 30 c.tmp c.rs) ∷ tail) w)) (evaluate env 1 whole)) (ap (signed_below 0) k.holds.step ∙ none_below left lt);
        such = record {
          now = record { all = count_set w 30 x k.all; holds = spare_kept x h k.holds };
          tested = reads_set w 30 x k.all (lit< tt) (lit< tt) ∙ (λ i. bit_and (k.holds.tmp i) (source_kept h k.holds i)) ∙ and_comm (2 ^ index) n ∙ and_pow n index;
        };
      }

  -- one more is counted
  pub counts_one : {c : Count} {left next count : ℕ} {v : Values} (whole tail : List Piece) (w : Values) → count < 2 ^ 32 → IsCount c → InCount c left next count v w → Reaches env whole (point (Do (Rri Addi c.sum c.sum (pos 1)) ∷ tail) w) tail (InCount c left next (1 + count) v)
  counts_one {c} {count = count} whole tail w few h k =
      let x = alu_rri Addi (reg w c.sum) (pos 1) in
      let more : x ≡ 1 + count = (let sum = k.holds.sum in omega (arith, ints)) in
      record { count = 1; values = set_reg w c.sum x; ran = refl; such = search (rules, reads_other, reads_set, count_set, k, h, temporary_set, more) }

  -- one bit less is left, another is the next, and a turn begins
  pub goes_down : {c : Count} {left next count : ℕ} {v : Values} (whole turn : List Piece) (shift : AluOPRRI) (shifted : ℕ) (w : Values) → is_carry_unary shift ≡ false → left < 64 → after 0 whole ≡ Some turn → alu_rri shift next (pos 1) ≡ shifted → IsCount c → InCount c (suc left) next count v w → Reaches env whole (point (count_down shift c.tmp c.step) w) turn (InCount c left shifted count v)
  goes_down {c} {left} {next} whole turn shift shifted w integer lt loops is h k =
      let y = alu_rri Addi (reg w c.step) (negsuc 0) in
      let w1 = set_reg w c.step y in
      let w2 = set_reg w1 c.tmp (alu_rri shift (reg w1 c.tmp) (pos 1)) in
      let less : y ≡ left = omega arith in
      record {
        count = 3;
        values = w2;
        ran = ap (λ b. and_then (if not b then Some (point (Jump 0 ∷ Bind 1 ∷ []) w2) else None) (evaluate env 1 whole)) integer ∙ ap (λ o. and_then (to o w2 []) (evaluate env 0 whole)) loops;
        such = search (rules, reads_other, reads_set, count_set, k, h, temporary_set, less, (ap (λ n. alu_rri shift n (pos 1)) (reads_other w c.step c.tmp y h.tmp_step ∙ k.holds.tmp) ∙ is));
      }

  -- x30 holds the next bit's power or 0: the bit is counted or not
  bit_of_ones : {c : Count} {left next count : ℕ} {v : Values} (b : ℕ) (w : Values) → b < 2 → 0 < next → count < 2 ^ 32 → IsCount c → TestsBit c left next count b v w → Reaches env (whole_ones c) (point (testing_ones c) w) (down_of c) (InCount c left next (b + count) v)
  bit_of_ones {c} {left} {next} {count} {v} zero w lt some few h k =
      let none : 0 * next ≡ 0 = omega arith in
      let same : count ≡ 0 + count = omega arith in
      record { count = 1; values = w; ran = ap (λ b. and_then (if b then Some (point (down_of c) w) else Some (point (counting_ones c) w)) (evaluate env 0 (whole_ones c))) (ap (nat_eq 0) (k.tested ∙ none)); such = subst (λ n. InCount c left next n v w) same k.now }
  bit_of_ones {c} {left} {next} {count} {v} (suc zero) w lt some few h k =
      goes_on (record { count = 1; values = w; ran = ap (λ b. and_then (if b then Some (point (down_of c) w) else Some (point (counting_ones c) w)) (evaluate env 0 (whole_ones c))) (not_zero (reg w 30) (omega arith)); such = k.now })
      (λ w1 k1. goes_on (counts_one (whole_ones c) (Bind 2 ∷ down_of c) w1 few h k1)
      (λ w2 k2. record { count = 1; values = w2; ran = refl; such = k2 }))
  bit_of_ones (suc (suc b)) w lt some few h k = absurd (omega arith)

  -- turns until no bit is left, by the ones that are still to be counted
  turns_of_ones : {c : Count} {v : Values} (left count : ℕ) (w : Values) → left ≤ 64 → IsCount c → count + ones left (reg v c.rs) ≡ ones c.bits (reg v c.rs) → InCount c left (2 ^ left / 2) count v w → Reaches env (whole_ones c) (point (turn_of_ones c) w) [] (Counted c (ones c.bits (reg v c.rs)) v)
  turns_of_ones {c} {v} zero count w le h all k =
      let e : count ≡ ones c.bits (reg v c.rs) = omega arith in
      reaches_such (λ w1 k1. subst (λ n. Counted c n v w1) e k1) (none_left (whole_ones c) (testing_ones c) w refl k)
  turns_of_ones {c} {v} (suc left) count w le h all k =
      let n = reg v c.rs in
      let few = ones_few c.bits n in
      let more = ones_more left n in
      goes_on (tests (whole_ones c) (testing_ones c) left w (omega arith) h (subst (λ m. InCount c (suc left) m count v w) (half_power left) k))
      (λ w1 k1. goes_on (bit_of_ones (bit_at n left) w1 (bit_at-lt n left) (pow_pos left) (omega arith) h k1)
      (λ w2 k2. goes_on (goes_down (whole_ones c) (turn_of_ones c) Srli (2 ^ left / 2) w2 refl (omega arith) refl refl h k2)
      (λ w3 k3. turns_of_ones left (bit_at n left + count) w3 (omega arith) h (omega arith) k3)))

  -- x30 holds the next bit's power or 0: the sequence ends, or the turn goes on
  by_bit : {c : Count} {left count total : ℕ} {v : Values} (leading : Bool) (b : ℕ) (w : Values) → b < 2 → left < c.bits → count < 2 ^ 32 → IsCount c → (b ≡ 1 → count ≡ total) → (b ≡ 0 → (u : Values) → InCount c left (power_of leading c.bits left) (1 + count) v u → Reaches env (whole_of leading c) (point (turn_of leading c) u) [] (Counted c total v)) → reg w 30 ≡ b * 2 ^ index_of leading c.bits left → InCount c (suc left) (2 ^ index_of leading c.bits left) count v w → Reaches env (whole_of leading c) (point (testing leading c) w) [] (Counted c total v)
  by_bit {c} {left} leading zero w lt below few h end on tested k =
      let whole = whole_of leading c in
      let none : 0 * 2 ^ index_of leading c.bits left ≡ 0 = omega arith in
      goes_on (record { count = 1; values = w; ran = ap (λ b. and_then (if not b then to (after 1 whole) w [] else Some (point (counting leading c) w)) (evaluate env 0 whole)) (ap (nat_eq 0) (tested ∙ none)); such = k })
      (λ w1 k1. goes_on (counts_one whole (count_down (bit_shift leading) c.tmp c.step) w1 few h k1)
      (λ w2 k2. goes_on (goes_down whole (turn_of leading c) (bit_shift leading) (power_of leading c.bits left) w2 (bit_shift_is leading) (omega arith) (places leading c).0 (power_next leading c.bits left below) h k2)
      (λ w3 k3. on refl w3 k3)))
  by_bit {c} {left} {v = v} leading (suc zero) w lt below few h end on tested k =
      record {
        count = 1;
        values = w;
        ran = λ i. and_then (if not ((not_zero (reg w 30) (omega (arith, pow_pos (index_of leading c.bits left)))) i) then to ((places leading c).1 i) w [] else Some (point (counting leading c) w)) (evaluate env 0 (whole_of leading c));
        such = subst (λ n. Counted c n v w) (end refl) (counted w k.holds);
      }
  by_bit leading (suc (suc b)) w lt below few h end on tested k = absurd (omega arith)

  -- turns until no bit is left or the next one is a one, by the zeros that are still to be counted
  turns : {c : Count} {v : Values} (leading : Bool) (left count : ℕ) (w : Values) → left ≤ c.bits → IsCount c → count + zeros_left leading c.bits left (reg v c.rs) ≡ zeros leading c.bits (reg v c.rs) → InCount c left (power_of leading c.bits left) count v w → Reaches env (whole_of leading c) (point (turn_of leading c) w) [] (Counted c (zeros leading c.bits (reg v c.rs)) v)
  turns {c} {v} leading zero count w le h all k =
      let same : count ≡ zeros leading c.bits (reg v c.rs) = omega (arith, none_to_count leading c.bits (reg v c.rs)) in
      reaches_such (λ w1 k1. subst (λ n. Counted c n v w1) same k1) (none_left (whole_of leading c) (testing leading c) w (places leading c).1 k)
  turns {c} {v} leading (suc left) count w le h all k =
      let n = reg v c.rs in
      let index = index_of leading c.bits left in
      let rest = zeros_left leading c.bits left n in
      let total = zeros leading c.bits n in
      let few = zeros_few leading c.bits n in
      let more : count + (if bit_at n index == 1 then 0 else suc rest) ≡ total = ap (λ z. count + z) (sym (zeros_more leading c.bits left n (omega arith))) ∙ all in
      goes_on (tests (whole_of leading c) (testing leading c) index w (omega arith) h (subst (λ m. InCount c (suc left) m count v w) (power_is leading c.bits left h.few (omega arith)) k))
      (λ w2 k2. by_bit leading (bit_at n index) w2 (bit_at-lt n index) (omega arith) (omega arith) h (ends_at (bit_at n index) rest count total more)
      (λ zero u k3. turns leading left (1 + count) u (omega arith) h (counts_on (bit_at n index) rest count total more zero) k3) k2.tested k2.now)

-- ---- the whole sequence

-- by some pieces that do nothing, what begins it, and its turns
count_out : {site : Site} {start after : ℕ} {s : State} {v : Values} (c : Count) (whole turn : List Piece) (downward : Bool) (skipped total : ℕ) → IsCount c → AreInRange whole → total < 2 ^ 64 → evaluate (environment site start after) skipped whole (point whole s.values) ≡ Some (point (count_start downward c.sum c.tmp c.step c.bits ++ Bind 0 ∷ turn) s.values) →
    ((w : Values) → InCount c c.bits (first_power downward c.bits) 0 v w → Reaches (environment site start after) whole (point turn w) [] (Counted c total v)) → SlotsOut site start after (slots_of site.context.flags whole) s v (c.tmp ∷ c.step ∷ []) (set_reg v c.sum total)
count_out {site} {start} {after} {s} {v} c whole turn downward skipped total h ranges fits begins turns e =
    pieces_out whole (c.tmp ∷ c.step ∷ []) (set_reg v c.sum total) ranges e
    (reaches_such (λ w k. same_beside h e.are_values k) (goes_on {Such = λ w. w ≡ s.values} (record { count = skipped; values = s.values; ran = begins; such = refl })
    (λ w is. goes_on (starts (environment site start after) whole (Bind 0 ∷ turn) downward w h (subst (λ u. AreValues u) (sym is) e.is_state.values) (subst (λ u. SameBut (written c) v u) (sym is) (same_but (written c) e.same)))
    (λ w1 k1. goes_on (record { count = 1; values = w1; ran = refl; such = k1 }) turns))))
    (λ all. are_values_set v c.sum total e.are_values (let a = h.sum_usable in omega arith) fits)

pub popcnt_out : {site : Site} {start after : ℕ} {s : State} {v : Values} (c : Count) → IsCount c → SlotsOut site start after (slots_of site.context.flags (whole_ones c)) s v (c.tmp ∷ c.step ∷ []) (set_reg v c.sum (ones c.bits (reg v c.rs)))
popcnt_out {site} {start} {after} {s} {v} c h e =
    let few = ones_few c.bits (reg v c.rs) in
    let bits = h.few in
    count_out c (whole_ones c) (turn_of_ones c) true 3 (ones c.bits (reg v c.rs)) h (search (rules, arith, h, small_shift)) (omega arith) refl (λ w k. turns_of_ones (environment site start after) c.bits 0 w h.few h (omega arith) k) e

pub zeros_out : {site : Site} {start after : ℕ} {s : State} {v : Values} (leading : Bool) (c : Count) → IsCount c → SlotsOut site start after (slots_of site.context.flags (whole_of leading c)) s v (c.tmp ∷ c.step ∷ []) (set_reg v c.sum (zeros leading c.bits (reg v c.rs)))
zeros_out {site} {start} {after} {s} {v} leading c h e =
    let few = zeros_few leading c.bits (reg v c.rs) in
    let bits = h.few in
    let all = zeros_all leading c.bits (reg v c.rs) in
    let first = elim leading as (λ l. first_power l c.bits ≡ power_of l c.bits c.bits) [ true ↦ refl | false ↦ let none : c.bits - c.bits ≡ 0 = omega arith in ap (λ k. wrap (2 ^ k)) (sym none) ] in
    count_out c (whole_of leading c) (turn_of leading c) leading 2 (zeros leading c.bits (reg v c.rs)) h (elim leading as (λ l. AreInRange (whole_of l c)) [ true ↦ search (rules, arith, h, small_shift) | false ↦ search (rules, arith, h) ]) (omega arith) refl
    (λ w k. turns (environment site start after) leading c.bits 0 w (omega arith) h (omega arith) (subst (λ m. InCount c c.bits m 0 v w) first k)) e
