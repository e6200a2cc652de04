-- Of integer registers, one of two values is chosen, and the low bits are extended.
use Rattle.std.proofs.Common.{Some, None}
use Rattle.{rv_code.{proofs.Operands.none_of_both, proofs.Reaching.{Reaches, goes_on, reaches_such}, specs.InstRuns.environment}, rv_full.specs.View.zero_units, rv_inst.{specs.Bits.extended, specs.Meaning.set_regs, specs.Operands.inst_registers, specs.Rules.{is_beyond, is_other_class}}}
use Rattle.{rv_inst.specs.Sizes.right_shift, rv_ops.specs.Operations.{immediate_of, is_carry_unary, shift_limit}, rv_runs.{proofs.Exits.{RunsHere, SlotsOut, pieces_out, same_but}, proofs.FullChoices.{AreAllowed, choice_comes, choice_range, chosen_fits, chosen_same, is_fair, order_of, ordered}}}
use Rattle.rv_runs.proofs.Words.{Andi, AreInRange, AreValues, ComesOut, Do, EmitVState, Enters, FullValues, Int, Keeps, Next, Piece, Reg, Rri, Same, SameBut, SelectInfo, Site, Slli, State, Values, all_of, alu_result_fits, alu_rri, and_then, are_values_set, chosen}
use Rattle.rv_runs.proofs.Words.{class_of, compares, evaluate, extend_pieces, ints, is_byte, is_int_class, list_any, low64, nat_tests, number_of, or_parts, point, pow_pos, put_all, put_in, reads_back, reg, rri_op, same_set, set_reg, set_twice, signed, signed64}
use Rattle.rv_runs.proofs.Words.{slots_alone, slots_of, small_shift, value_in, value_of, wrap, written_in}
use Rattle.std.proofs.Common.{Bool, List, [], ap, arith, eqb-true, false, if◌then◌else◌, lit<, map, mod-lt, mul-le-mul, nat_lt, negsuc, not, pos, refl, subst, suc, sym, true, zero, ℕ, ◌%◌, ◌*◌, ◌++◌, ◌+◌, ◌-◌, ◌/◌, ◌<◌, ◌^◌, ◌∙◌, ◌∷◌, ◌≡◌, ◌≤◌}
use Rattle.std.{proofs.Math.Nat.{mul-div_cancel, mul-mod_left, mul_assoc, pow-suc}, proofs.lemmas.Int.to_z-of_z, proofs.lemmas.Nat.{and_mask, div-mul-add, mod-pow-add, pow-add}, specs.Int.Signed.shr_z}
use mir.Syntax.{w64}
use Rattle.rv_inst.specs.declared.inst.Inst.TheVariants.{Select}

-- One of two values is chosen.

-- ---- integer registers among those of any class

abbrev AreOfInt : List Reg → Type 0
AreOfInt rs = AreAllowed (λ c. c ≡ Int) rs

are_of_int : (rs : List Reg) → list_any is_other_class rs ≡ false → AreOfInt rs
are_of_int [] e = tt
are_of_int (r ∷ rs) e = let parts = or_parts (is_other_class r) (list_any is_other_class rs) e in ((elim (class_of r) as (λ c. not (is_int_class c) ≡ false → c ≡ Int) [ Int ↦ λ e. refl | _ ↦ λ e. absurd (cc) ]) parts.0, are_of_int rs parts.1)

ints_put : (v : FullValues) (rds : List Reg) (xs : List ℕ) → AreOfInt rds → (put_all v rds xs).ints ≡ set_regs v.ints (map number_of rds) xs
ints_put v (rd ∷ rds) (x ∷ xs) ints = subst (λ c. (put_all (put_in c v (number_of rd) x) rds xs).ints ≡ set_regs (set_reg v.ints (number_of rd) x) (map number_of rds) xs) (sym ints.0) (ints_put (put_in Int v (number_of rd) x) rds xs ints.1)
ints_put v rds xs ints = refl

ints_read : (v : FullValues) (rs : List Reg) → AreOfInt rs → map (value_of v) rs ≡ map (λ (r : Reg). reg v.ints (number_of r)) rs
ints_read v [] ints = refl
ints_read v (r ∷ rs) ints = λ i. value_in (ints.0 i) v (number_of r) ∷ ints_read v rs ints.1 i

ints_moved : (v : FullValues) (rds rs : List Reg) → AreOfInt rds → AreOfInt rs → (put_all v rds (map (value_of v) rs)).ints ≡ set_regs v.ints (map number_of rds) (map (λ (r : Reg). reg v.ints (number_of r)) rs)
ints_moved v rds rs ints read = ints_put v rds (map (value_of v) rs) ints ∙ ap (set_regs v.ints (map number_of rds)) (ints_read v rs read)

-- ---- the instruction

pub select_runs : (site : Site) (setting : EmitVState) (start after : ℕ) (s : State) (v : Values) (info : SelectInfo) → list_any is_other_class (inst_registers (Select info)) ≡ false → Keeps (Select info) → RunsHere site setting (Select info) start after s v
select_runs site setting start after s v info placed k e clear =
    let rds = written_in info.dst in
    let inputs = info.condition.rs1 ∷ info.condition.rs2 ∷ all_of info.x in
    let both = none_of_both is_other_class (rds ++ inputs) (all_of info.y) placed in
    let parts = none_of_both is_other_class rds inputs both.0 in
    let ints = are_of_int rds parts.0 in
    let h = is_fair info.dst info.condition info.x info.y k in
    let o = order_of info h in
    let whole = ordered info h in
    let u : FullValues = record { ints = v; units = zero_units } in
    let w : FullValues = record { ints = s.values; units = zero_units } in
    let comes : Reaches (environment site start after) whole (point whole s.values) [] (λ t. t ≡ (chosen info w).ints) = choice_comes info h (environment site start after) (λ c. c ≡ Int) (λ ps r. Reaches (environment site start after) whole (point ps r.ints) [] (λ t. t ≡ (chosen info w).ints))
    (λ ps qs r z step on. goes_on {Such = λ t. t ≡ z} (record { count = 1; values = z; ran = ap (λ q. and_then q (evaluate (environment site start after) 0 whole)) step; such = refl }) (λ t is. subst (λ t. Reaches (environment site start after) whole (point qs t) [] (λ t. t ≡ (chosen info w).ints)) (sym is) on))
    (λ rd rs ps r none on. absurd (cc)) w ints e.is_state.values (record { count = 0; values = (chosen info w).ints; ran = refl; such = refl }) in
    subst (λ r. ComesOut site start after Next [] r s) (ints_moved u rds _ ints (elim (compares info.condition v) as (λ c. AreOfInt (if c then all_of info.x else all_of info.y)) [ true ↦ (are_of_int inputs parts.1).1.1 | false ↦ are_of_int (all_of info.y) both.1 ]))
    (pieces_out whole [] (chosen info u).ints (choice_range rds o.first o.second o.how _ _) (subst (λ ps. Enters site start after (slots_alone (slots_of site.context.flags ps)) s v) o.pieces e)
    (reaches_such (λ t is. subst (SameBut [] (chosen info u).ints) (sym is) (same_but [] (chosen_same info h u w e.are_values e.is_state.values (record { ints = e.same; units = refl })).ints)) comes) (λ all. chosen_fits info h u e.are_values))

-- The low bits of a register are extended.

-- ---- numbers

-- a shift to the left drops the high bits
shifted : (x bits k : ℕ) → bits + k ≡ 64 → wrap (x * 2 ^ k) ≡ x % 2 ^ bits * 2 ^ k
shifted x bits k all = ap (λ n. x * 2 ^ k % 2 ^ n) (sym all) ∙ (mod-pow-add (x * 2 ^ k) bits k) ∙ (λ i. (mul-div_cancel x (pow_pos k)) i % 2 ^ bits * 2 ^ k + (mul-mod_left x (2 ^ k)) i) ∙ omega arith

-- numbers of 64 bits, read as signed ones
negative : (n m : ℕ) → 2 ^ 63 ≤ n → n + suc m ≡ 2 ^ 64 → signed64 n ≡ negsuc m
negative n m high all =
    let bits : low64 (negsuc m) ≡ n = omega (arith, ints) in
    ap signed64 (sym bits) ∙ to_z-of_z w64 (negsuc m) (omega arith)

-- and one back copies the highest bit
signed_back : (half power n : ℕ) → half * power ≡ 2 ^ 63 → 0 < power → n < 2 * half → shr_z (signed64 (n * power)) power ≡ signed half n
signed_back half power n whole some lt =
    (elim (nat_lt n half) as (λ c. nat_lt n half ≡ c → shr_z (signed64 (n * power)) power ≡ (if c then pos n else negsuc (2 * half - suc n))) [
      | true ↦ λ test.
          let below : n < half = grind (arith, nat_tests) in
          let more : (n + 1) * power ≤ half * power = mul-le-mul (omega arith) (omega arith) in
          let e : signed64 (n * power) ≡ pos (n * power) = omega (arith, ints) in
          ap (λ z. shr_z z power) e ∙ ap pos (mul-div_cancel n some)
      | false ↦ λ test.
          let above : half ≤ n = grind (arith, nat_tests) in
          let m = 2 * half - suc n in
          let all : (n + m + 1) * power ≡ 2 * (half * power) = (let e : n + m + 1 ≡ 2 * half = omega arith in ap (λ j. j * power) e ∙ mul_assoc 2 half power) in
          let high : half * power ≤ n * power = mul-le-mul above (omega arith) in
          ap (λ z. shr_z z power) (negative (n * power) (m * power + (power - 1)) (omega arith) (omega arith)) ∙ ap negsuc (div-mul-add m power (power - 1) (omega arith))
    ]) refl

-- the shifts of an extension
extended_back : (x bits k : ℕ) (sign : Bool) → 1 ≤ bits → bits + k ≡ 64 → alu_rri (right_shift sign) (x % 2 ^ bits * 2 ^ k) (pos k) ≡ extended sign bits x
extended_back x bits k true some all =
    let amount : low64 (pos k) % 64 ≡ k = omega (arith, ints) in
    let one : suc (bits - 1) ≡ bits = omega arith in
    let double : 2 ^ bits ≡ 2 * 2 ^ (bits - 1) = ap (λ n. 2 ^ n) (sym one) ∙ pow-suc 2 (bits - 1) ∙ omega arith in
    let rest : bits - 1 + k ≡ 63 = omega arith in
    ap (λ n. low64 (shr_z (signed64 (x % 2 ^ bits * 2 ^ k)) (2 ^ n))) amount ∙ ap low64 (signed_back (2 ^ (bits - 1)) (2 ^ k) (x % 2 ^ bits) (sym (pow-add 2 (bits - 1) k) ∙ ap (λ n. 2 ^ n) rest) (pow_pos k) (omega (arith, mod-lt x (pow_pos bits))))
extended_back x bits k false some all = (let amount : low64 (pos k) % 64 ≡ k = omega (arith, ints) in ap (λ n. x % 2 ^ bits * 2 ^ k / 2 ^ n) amount) ∙ mul-div_cancel (x % 2 ^ bits) (pow_pos k)

extended_by : (x bits : ℕ) (sign : Bool) → 1 ≤ bits → bits ≤ 64 → alu_rri (right_shift sign) (alu_rri Slli x (pos (64 - bits))) (pos (64 - bits)) ≡ extended sign bits x
extended_by x bits sign some few =
    let k = 64 - bits in
    let all : bits + k ≡ 64 = omega arith in
    let amount : low64 (pos k) % 64 ≡ k = omega (arith, ints) in
    ap (λ y. alu_rri (right_shift sign) y (pos k)) (ap (λ n. wrap (x * 2 ^ n)) amount ∙ shifted x bits k all) ∙ extended_back x bits k sign some all

-- ---- the sequence

-- its second step is an operation of integers
right_shift_is : (sign : Bool) → is_carry_unary (right_shift sign) ≡ false
right_shift_is true = refl
right_shift_is false = refl

-- a register is computed in two steps, the second from the first
twice_same : (v w : Values) (n x : ℕ) (back : ℕ → ℕ) → AreValues v → AreValues w → n < 32 → Same v w → Same (set_reg v n (back x)) (set_reg (set_reg w n x) n (back (reg (set_reg w n x) n)))
twice_same v w zero x back hv hw lt same = same
twice_same v w (suc n) x back hv hw lt same =
    subst (Same (set_reg v (suc n) (back x))) (sym (set_twice w (suc n) x (back (reg (set_reg w (suc n) x) (suc n))) ∙ ap (λ y. set_reg w (suc n) (back y)) (reads_back w (suc n) x hw (omega arith) lt))) (same_set v w (suc n) (back x) hv hw lt same)

-- pieces that give the register such a number
gives : {site : Site} {start after : ℕ} {s : State} {v : Values} (whole : List Piece) (rd x y : ℕ) → AreInRange whole → rd < 32 → x < 2 ^ 64 → x ≡ y → Enters site start after (slots_alone (slots_of site.context.flags whole)) s v → Reaches (environment site start after) whole (point whole s.values) [] (Same (set_reg v rd x)) → ComesOut site start after Next [] (set_reg v rd y) s
gives {site} {start} {after} {s} {v} whole rd x y ranges lt fits is e r =
    subst (λ z. ComesOut site start after Next [] (set_reg v rd z) s) is
    (pieces_out whole [] (set_reg v rd x) ranges e (reaches_such (λ w same. same_but [] same) r) (λ all. are_values_set v rd x e.are_values lt fits))

pub extend_out : {site : Site} {start after : ℕ} {s : State} {v : Values} (rd rn bits : ℕ) (sign : Bool) → rd < 30 → rn < 30 → 1 ≤ bits → bits ≤ 64 → SlotsOut site start after (slots_of site.context.flags (extend_pieces rd rn sign bits)) s v [] (set_reg v rd (extended sign bits (reg v rn)))
extend_out {site} {start} {after} {s} {v} rd rn bits sign below read some few e =
    let w = s.values in
    let k = 64 - bits in
    let lt : rd < 32 = omega arith in
    (elim (is_byte sign bits) as (λ c. is_byte sign bits ≡ c → SlotsOut site start after (slots_of site.context.flags (if c then Do (Rri Andi rd rn (pos 255)) ∷ [] else Do (Rri Slli rd rn (pos k)) ∷ Do (Rri (right_shift sign) rd rd (pos k)) ∷ [])) s v [] (set_reg v rd (extended sign bits (reg v rn)))) [
      | true ↦ λ test e.
          let y = alu_rri Andi (reg v rn) (pos 255) in
          gives (Do (Rri Andi rd rn (pos 255)) ∷ []) rd y _ ((lt, refl, lit< tt), tt) lt (alu_result_fits (rri_op Andi) (reg v rn) 0 255 (e.are_values.fits rn) (lit< tt) (lit< tt))
          ((elim sign as (λ c. is_byte c bits ≡ true → alu_rri Andi (reg v rn) (pos 255) ≡ extended c bits (reg v rn)) [ true ↦ λ test. absurd (cc) | false ↦ λ test. and_mask (reg v rn) 8 ∙ ap (λ n. reg v rn % 2 ^ n) (sym (eqb-true bits 8 test)) ]) test) e
          (record { count = 1; values = _; ran = refl; such = subst (λ z. Same (set_reg v rd y) (set_reg w rd (alu_rri Andi z (pos 255)))) (e.same.regs rn read) (same_set v w rd y e.are_values e.is_state.values lt e.same) })
      -- from what the register holds, which is the same in both
      | false ↦ λ test e.
          let small : k < 64 = omega arith in
          let low : low64 (pos k) < 2 ^ 64 = omega (arith, ints) in
          let x = alu_rri Slli (reg v rn) (pos k) in
          let back = λ (y : ℕ). alu_rri (right_shift sign) y (pos k) in
          let whole = Do (Rri Slli rd rn (pos k)) ∷ Do (Rri (right_shift sign) rd rd (pos k)) ∷ [] in
          let first = set_reg w rd (alu_rri Slli (reg w rn) (pos k)) in
          let second = set_reg first rd (back (reg first rd)) in
          let fits : x < 2 ^ 64 = alu_result_fits (rri_op Slli) (reg v rn) 0 (low64 (pos k)) (e.are_values.fits rn) (lit< tt) low in
          gives whole rd (back x) _ ((lt, small_shift k small, low), ((lt, elim sign as (λ c. is_beyond (shift_limit (immediate_of (right_shift c))) (pos k) ≡ false) [ true ↦ small_shift k small | false ↦ small_shift k small ], low), tt)) lt
          (alu_result_fits (rri_op (right_shift sign)) x 0 (low64 (pos k)) fits (lit< tt) low) (extended_by (reg v rn) bits sign some few) e
          (record { count = 2; values = second; ran = ap (λ c. and_then (if not c then Some (point [] second) else None) (evaluate (environment site start after) 0 whole)) (right_shift_is sign); such = subst (λ z. let w1 = set_reg w rd (alu_rri Slli z (pos k)) in Same (set_reg v rd (back x)) (set_reg w1 rd (back (reg w1 rd)))) (e.same.regs rn read) (twice_same v w rd x back e.are_values e.is_state.values lt e.same) })
    ]) refl e
