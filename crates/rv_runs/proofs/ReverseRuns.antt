-- The bits of a register's bytes are set in reverse order, from the highest bit on.
use Rattle.rv_code.proofs.Reaching.{Reaches, goes_on, reaches_such}
use Rattle.rv_code.proofs.ReversedBytes.{Holds, InReversal, IsClear, IsReversal, Reversal, Tests, all_clear, clear_after, mirrored, mirrored_bits, or_plus, place_down, place_first, place_fits, place_of, place_up, same_beside, source_kept, spare_tests, step_set, tmp_set}
use Rattle.{rv_code.{proofs.ReversedBytes.{whole_bytes, written}, specs.InstRuns.environment, specs.Pieces.Jump, specs.Sequences.{reverse_down, reverse_move, reverse_pieces, reverse_turn}}, rv_inst.{specs.Bits.reversed_bytes, specs.Meaning.Environment}}
use Rattle.{rv_ops.specs.declared.alu.AluOPRRR.TheVariants.Rem, rv_runs.{proofs.CountRuns.to_highest, proofs.Exits.{SlotsOut, pieces_out, same_but}}}
use Rattle.rv_runs.proofs.Words.{Addi, And, AreValues, Bind, Branch, Do, Equal, Or, Piece, Rri, Rrr, SameBut, Site, Slli, Srli, State, Values, alu_rri, alu_rrr, and_comm, and_pow, and_then, are_values_set, bit_at, bit_at-lt, count_set, evaluate, half_power, ints, low64}
use Rattle.rv_runs.proofs.Words.{nat_tests, none_below, not_zero, point, pow_pos, reads_other, reads_set, reg, set_reg, signed64, signed_below, slots_of, small_number, small_shift, temporary_set, wrap}
use Rattle.std.proofs.Common.{List, Some, [], ap, arith, bit_and, bit_or, false, if◌then◌else◌, int_rem, nat_eq, negsuc, not, pos, refl, rules, subst, suc, zero, ℕ, ◌%◌, ◌*◌, ◌+◌, ◌-◌, ◌/◌, ◌<◌, ◌^◌, ◌∙◌, ◌∷◌, ◌≡◌, ◌≤◌}

abbrev whole_of : Reversal → List Piece
whole_of c = reverse_pieces c.rd c.tmp c.tmp2 c.step c.rs c.bits

abbrev turn_of : Reversal → List Piece
turn_of c = reverse_turn c.rd c.tmp c.tmp2 c.step c.rs

abbrev down_of : Reversal → List Piece
down_of c = reverse_down c.tmp c.tmp2 c.step

-- from the operation that sets a bit on, and from the test before it on
abbrev setting_of : Reversal → List Piece
setting_of c = Do (Rrr Or c.rd c.rd c.tmp2) ∷ Bind 2 ∷ down_of c

abbrev testing_of : Reversal → List Piece
testing_of c = Branch Equal 0 30 2 ∷ setting_of c

-- from where the next bit goes to the bit above in the same byte, or to the byte below, to the end of a turn

abbrev higher_of : Reversal → List Piece
higher_of c = Do (Rri Slli c.tmp2 c.tmp2 (pos 1)) ∷ Bind 4 ∷ Jump 0 ∷ Bind 1 ∷ []

abbrev lower_of : Reversal → List Piece
lower_of c = Do (Rri Srli c.tmp2 c.tmp2 (pos 15)) ∷ Jump 4 ∷ Bind 3 ∷ higher_of c

-- what all bits give
abbrev made_of : Reversal → Values → ℕ
made_of c v = reversed_bytes (c.bits / 8) (reg v c.rs)

-- a small number's rest by 8, both read as signed numbers
rest_of_eight : (n : ℕ) → n < 64 → alu_rrr Rem n 8 ≡ n % 8
rest_of_eight n lt =
    let e : signed64 n ≡ pos n = omega (arith, ints) in
    let small : n % 8 < 2 ^ 63 = omega arith in
    ap (λ z. low64 (int_rem z (pos 8))) e ∙ small_number (n % 8) small

module _ (env : Environment) where
  -- ---- before the first turn

  starts : {c : Reversal} {v : Values} (w : Values) → IsReversal c → AreValues w → SameBut (written c) v w → Reaches env (whole_of c) (point (whole_of c) w) (turn_of c) (InReversal c c.bits (2 ^ c.bits / 2) (place_of c.bits) 0 v)
  starts {c} {v} w h hw others =
      let full : alu_rri Addi 0 (pos c.bits) ≡ c.bits = omega (arith, ints) in
      goes_on {Such = InReversal c c.bits 1 (reg w c.tmp2) 0 v} (record { count = 8; values = set_reg (set_reg (set_reg w c.rd 0) c.step (alu_rri Addi 0 (pos c.bits))) c.tmp 1; ran = refl; such = search (rules, reads_other, reads_set, count_set, hw, h, temporary_set, others, full) }) (λ w3 k3.
      let highest = to_highest (reg w3 c.tmp) c.bits k3.holds.tmp (omega arith) h.few in
      goes_on {Such = InReversal c c.bits (2 ^ c.bits / 2) (reg w c.tmp2) 0 v} (record { count = 1; values = set_reg w3 c.tmp (alu_rri Slli (reg w3 c.tmp) (pos (c.bits - 1))); ran = refl; such = search (rules, reads_other, reads_set, count_set, k3, h, temporary_set, highest) }) (λ w4 k4.
      goes_on {Such = InReversal c c.bits (2 ^ c.bits / 2) 1 0 v} (record { count = 1; values = set_reg w4 c.tmp2 1; ran = refl; such = search (rules, reads_other, reads_set, count_set, k4, h, temporary_set) }) (λ w5 k5.
      let amount2 : low64 (pos (c.bits - 8)) % 64 ≡ c.bits - 8 = omega (arith, ints) in
      let lowest : alu_rri Slli (reg w5 c.tmp2) (pos (c.bits - 8)) ≡ place_of c.bits = (λ i. wrap (k5.holds.tmp2 i * 2 ^ amount2 i)) ∙ omega (arith, place_first c.bits h.some h.whole, place_fits c.bits h.few) in
      record { count = 2; values = set_reg w5 c.tmp2 (alu_rri Slli (reg w5 c.tmp2) (pos (c.bits - 8))); ran = refl; such = search (rules, reads_other, reads_set, count_set, k5, h, temporary_set, lowest) })))

  -- ---- the next bit

  -- no bit is left
  none_left : {c : Reversal} {next place got : ℕ} {v : Values} (w : Values) → InReversal c 0 next place got v w → Reaches env (whole_of c) (point (turn_of c) w) [] (Holds c 0 next place got v)
  none_left {c} w k = record { count = 1; values = w; ran = ap (λ b. and_then (if not b then Some (point [] w) else Some (point (Do (Rrr And 30 c.tmp c.rs) ∷ testing_of c) w)) (evaluate env 0 (whole_of c))) (ap (signed_below 0) k.holds.step); such = k.holds }

  -- some are left, and the next one goes to x30
  tested : {c : Reversal} {left next place got : ℕ} {v : Values} (w : Values) → left < 64 → IsReversal c → InReversal c (suc left) next place got v w → Reaches env (whole_of c) (point (turn_of c) w) (testing_of c) (Tests c (suc left) next place got (bit_and next (reg v c.rs)) v)
  tested {c} {left} {next} {place} {got} {v} w lt h k =
      let x = bit_and (reg w c.tmp) (reg w c.rs) in
      record {
        count = 2;
        values = set_reg w 30 x;
        ran = ap (λ b. and_then (if not b then Some (point [] w) else Some (point (Do (Rrr And 30 c.tmp c.rs) ∷ testing_of c) w)) (evaluate env 1 (whole_of c))) (ap (signed_below 0) k.holds.step ∙ none_below left lt);
        such = subst (λ n. Tests c (suc left) next place got n v (set_reg w 30 x)) (λ i. bit_and (k.holds.tmp i) (source_kept h k.holds i)) (spare_tests x h k.all k.holds);
      }

  -- x30 holds the next bit's power or 0: the bit is set where it goes, or isn't
  by_bit : {c : Reversal} {left next place got : ℕ} {v : Values} (power b : ℕ) (w : Values) → b < 2 → 0 < power → bit_or got place ≡ got + place → IsReversal c → Tests c left next place got (b * power) v w → Reaches env (whole_of c) (point (testing_of c) w) (down_of c) (InReversal c left next place (got + b * place) v)
  by_bit {c} {left} {next} {place} {got} {v} power zero w lt some plus h k =
      let none : 0 * power ≡ 0 = omega arith in
      let same : got ≡ got + 0 * place = omega arith in
      record { count = 1; values = w; ran = ap (λ b. and_then (if b then Some (point (down_of c) w) else Some (point (setting_of c) w)) (evaluate env 0 (whole_of c))) (ap (nat_eq 0) (k.spare ∙ none)); such = subst (λ n. InReversal c left next place n v w) same k.now }
  by_bit {c} {left} {next} {place} {got} {v} power (suc zero) w lt some plus h k =
      let x = bit_or (reg w c.rd) (reg w c.tmp2) in
      let more : x ≡ got + 1 * place = (λ i. bit_or (k.now.holds.rd i) (k.now.holds.tmp2 i)) ∙ plus ∙ omega arith in
      record {
        count = 3;
        values = set_reg w c.rd x;
        ran = ap (λ b. and_then (if b then Some (point (down_of c) w) else Some (point (setting_of c) w)) (evaluate env 2 (whole_of c))) (not_zero (reg w 30) (omega arith));
        such = search (rules, reads_other, reads_set, count_set, k, h, temporary_set, more);
      }
  by_bit power (suc (suc b)) w lt some plus h k = absurd (omega arith)

  -- ---- down to the one below

  -- one bit less is left, and it is known how many are of its byte
  goes_down : {c : Reversal} {left next place got : ℕ} {v : Values} (w : Values) → left < 64 → IsReversal c → InReversal c (suc left) next place got v w → Reaches env (whole_of c) (point (down_of c) w) (reverse_move c.tmp2) (Tests c left (next / 2) place got (left % 8) v)
  goes_down {c} {left} {next} {place} {got} {v} w lt h k =
      let y = alu_rri Addi (reg w c.step) (negsuc 0) in
      let z = alu_rri Srli (reg (set_reg w c.step y) c.tmp) (pos 1) in
      let less : y ≡ left = omega arith in
      let k2 = tmp_set z h (count_set w c.step y k.all) (step_set y h k.all k.holds) in
      goes_on {Such = InReversal c left (next / 2) place got v} (record { count = 2; values = set_reg (set_reg w c.step y) c.tmp z; ran = refl; such = search (rules, count_set, k, k2, (k2.step ∙ less), (k2.tmp ∙ ap (λ n. n / 2) (step_set y h k.all k.holds).tmp)) }) (λ w2 k2.
      let t3 = spare_tests 8 h k2.all k2.holds in
      let t4 = spare_tests (alu_rrr Rem (reg (set_reg w2 30 8) c.step) (reg (set_reg w2 30 8) 30)) h t3.now.all t3.now.holds in
      record { count = 2; values = _; ran = refl; such = record { now = t4.now; spare = t4.spare ∙ ((λ i. alu_rrr Rem (t3.now.holds.step i) (t3.spare i)) ∙ rest_of_eight left lt) } })

  -- x30 holds how many bits are left of the next one's byte: the next one goes to the byte below, or on in the same; and a turn begins
  by_rest : {c : Reversal} {left next got : ℕ} {v : Values} (rest : ℕ) (w : Values) → left % 8 ≡ rest → left < 64 → IsReversal c → Tests c left next (2 ^ mirrored left) got (left % 8) v w → Reaches env (whole_of c) (point (reverse_move c.tmp2) w) (turn_of c) (InReversal c left next (place_of left) got v)
  by_rest {c} {left} {next} {got} {v} zero w rest lt h k =
      record {
        count = 4;
        values = set_reg w c.tmp2 (alu_rri Srli (reg w c.tmp2) (pos 15));
        ran = ap (λ b. and_then (if not b then Some (point (higher_of c) w) else Some (point (lower_of c) w)) (evaluate env 3 (whole_of c))) (ap (λ m. nat_eq m 0) (k.spare ∙ rest));
        such = search (rules, reads_other, reads_set, count_set, k, h, temporary_set, (ap (λ y. y / 2 ^ 15) k.now.holds.tmp2 ∙ place_down left rest));
      }
  by_rest {c} {left} {next} {got} {v} (suc r) w rest lt h k =
      let e : nat_eq (reg w 30) 0 ≡ false = (let held = k.spare ∙ rest in grind (arith, nat_tests)) in
      let x = alu_rri Slli (reg w c.tmp2) (pos 1) in
      let there = place_up left (λ none. omega arith) in
      let fits = place_fits left (omega arith) in
      let higher : x ≡ place_of left = omega arith in
      record {
        count = 4;
        values = set_reg w c.tmp2 x;
        ran = ap (λ b. and_then (if not b then Some (point (higher_of c) w) else Some (point (lower_of c) w)) (evaluate env 3 (whole_of c))) e;
        such = search (rules, reads_other, reads_set, count_set, k, h, temporary_set, higher);
      }

  -- ---- all turns

  -- turns until no bit is left, by what the bits give that are still left
  turns : {c : Reversal} {v : Values} (left got : ℕ) (w : Values) → left ≤ 64 → IsClear left got → IsReversal c → got + mirrored_bits left (reg v c.rs) ≡ made_of c v → InReversal c left (2 ^ left / 2) (place_of left) got v w → Reaches env (whole_of c) (point (turn_of c) w) [] (Holds c 0 (2 ^ 0 / 2) (place_of 0) (made_of c v) v)
  turns {c} {v} zero got w le clear h all k =
      let e : got ≡ made_of c v = omega arith in
      reaches_such (λ w1 k1. subst (λ n. Holds c 0 (2 ^ 0 / 2) (place_of 0) n v w1) e k1) (none_left w k)
  turns {c} {v} (suc left) got w le clear h all k =
      let n = reg v c.rs in
      let b = bit_at n left in
      goes_on (tested w (omega arith) h (subst (λ m. InReversal c (suc left) m (place_of (suc left)) got v w) (half_power left) k))
      (λ w1 k1. goes_on (by_bit (2 ^ left) b w1 (bit_at-lt n left) (pow_pos left) (or_plus got (mirrored left) (clear left (omega arith))) h (subst (λ x. Tests c (suc left) (2 ^ left) (place_of (suc left)) got x v w1) (and_comm (2 ^ left) n ∙ and_pow n left) k1))
      (λ w2 k2. goes_on (goes_down w2 (omega arith) h k2)
      (λ w3 k3. goes_on (by_rest (left % 8) w3 refl (omega arith) h k3)
      (λ w4 k4. turns left (got + b * 2 ^ mirrored left) w4 (omega arith) (clear_after left got b (bit_at-lt n left) clear) h (omega arith) k4))))

-- ---- the whole sequence

pub reverse_out : {site : Site} {start after : ℕ} {s : State} {v : Values} (c : Reversal) → IsReversal c → SlotsOut site start after (slots_of site.context.flags (whole_of c)) s v (c.step ∷ c.tmp ∷ c.tmp2 ∷ []) (set_reg v c.rd (made_of c v))
reverse_out {site} {start} {after} {s} {v} c h e =
    let env = environment site start after in
    let n = reg v c.rs in
    let bytes : c.bits ≡ 8 * (c.bits / 8) = omega arith in
    let all : 0 + mirrored_bits c.bits n ≡ made_of c v = (let w = ap (λ m. mirrored_bits m n) bytes ∙ whole_bytes (c.bits / 8) n in omega arith) in
    let r = goes_on (starts env s.values h e.is_state.values (same_but (written c) e.same)) (λ w k. turns env c.bits 0 w h.few (all_clear c.bits) h all k) in
    pieces_out (whole_of c) (c.step ∷ c.tmp ∷ c.tmp2 ∷ []) (set_reg v c.rd (made_of c v)) (search (rules, arith, h, small_shift)) e
    (record { count = r.count; values = r.values; ran = r.ran; such = same_beside h e.are_values r.such })
    (λ values. are_values_set v c.rd (made_of c v) e.are_values (let a = h.rd_usable in omega arith) (subst (λ x. x < 2 ^ 64) r.such.rd (values.fits c.rd)))
