-- The stack is probed, from the farthest guard on.
use Rattle.rv_code.{proofs.Courses.bits_back, proofs.MadeOfPieces.{number_keeps, probe_places}, proofs.Operands.IsScratch, proofs.Reaching.{Reaches, Writes, goes_on, number_reaches, reaches_such}, specs.Evaluation.{AllOutside, at as points}, specs.InstRuns.environment}
use Rattle.{rv_code.{specs.Pieces.{Jump, Store, number_pieces}, specs.Probes.{probe_pieces, probe_turn}}, rv_inst.specs.Meaning.{probes_from, probes_of, zero_bytes, Environment}, rv_ops.{specs.declared.alu.AluOPRRR.TheVariants.Sub, specs.declared.memory.StoreOP.TheVariants.Sb}}
use Rattle.rv_runs.proofs.Exits.{all_same, same_but, writes_out}
use Rattle.rv_runs.proofs.Words.{AreInRange, AreOutside, AreValues, Bind, ComesOut, Do, Enters, Next, Piece, Rrr, SameBut, Site, State, Values, after, and_then, are_values_set, cast_signed, count_set, evaluate, low64, nat_tests, not_below, point, put_bytes, put_same}
use Rattle.rv_runs.proofs.Words.{put_values, reads_back, reads_other, reads_set, reg, set_reg, slots_alone, slots_of, small_number, spare_set, temporary_set, to, w64, wrap}
use Rattle.std.{proofs.Common.{Bool, List, [], ap, arith, eqb-true, false, if◌then◌else◌, length, lit<, nat_lt, not, pos, refl, rules, subst, suc, sym, true, zero, Some, ℕ, ℤ, ◌*◌, ◌++◌, ◌+◌, ◌-◌, ◌<◌, ◌==◌, ◌^◌, ◌∙◌, ◌∷◌, ◌≡◌, ◌≤◌}, proofs.Math.Nat.mul_comm, proofs.lemmas.Bool.lt-ltb}
use Rattle.std.proofs.lemmas.Nat.{mul-lt}

-- x31 is how far below the stack pointer the next probe is, and a register holds the guard's size; all else is as in these values
record Holds (tmp guard left : ℕ) (u w : Values) : Type 0 where
  pub distance : reg w 31 ≡ left
  pub size : reg w tmp ≡ guard
  pub others : SameBut (tmp ∷ []) u w
  pub count : length w.regs ≡ 31

-- and x30 is its address
record Aims (tmp guard left a : ℕ) (u w : Values) : Type 0 where
  pub holds : Holds tmp guard left u w
  pub address : reg w 30 ≡ a

-- ---- bytes 0 at addresses, one after the other

-- what is written once they are
abbrev writing : List ℕ → List (List ℕ) → List (List ℕ)
writing [] m = m
writing (a ∷ addresses) m = writing addresses ((a ∷ []) ∷ m)

all_outside : (site : Site) (addresses : List ℕ) (m : List (List ℕ)) → AreOutside site.base (length site.bytes) addresses → AllOutside site m → AllOutside site (writing addresses m)
all_outside site [] m out before = before
all_outside site (a ∷ addresses) m out before = all_outside site addresses ((a ∷ []) ∷ m) (λ k lt. out (suc k) (omega arith)) (first, before)
  where
    first : AreOutside site.base (length site.bytes) (a ∷ [])
    first zero lt = out 0 (omega arith)
    first (suc k) lt = absurd (omega arith)

zero_values : (v : Values) (addresses : List ℕ) → AreValues v → AreValues (zero_bytes v addresses)
zero_values v [] h = h
zero_values v (a ∷ addresses) h = zero_values (put_bytes v a (0 ∷ [])) addresses (put_values v a (0 ∷ []) h (lit< tt, tt))

-- ---- a turn

-- what stands in it after the branch
abbrev probing : ℕ → List Piece
probing tmp = Do (Rrr Sub 30 2 31) ∷ Do (Store Sb 30 0 (pos 0)) ∷ Do (Rrr Sub 31 31 tmp) ∷ Jump 0 ∷ Bind 1 ∷ []

-- the address of the next probe
abbrev probe_at : ℕ → ℕ → ℕ
probe_at sp left = wrap (sp + (2 ^ 64 - left))

-- ---- before the first turn

-- the farthest probe's distance is in x31; all else is as it was
record Starts (left : ℕ) (v w : Values) : Type 0 where
  pub distance : reg w 31 ≡ left
  pub others : SameBut [] v w
  pub values : AreValues w

module _ (env : Environment) where
  -- the end, where at most one guard is left
  ended : {tmp guard left : ℕ} {u : Values} (count : ℕ) (w : Values) (m : List (List ℕ)) → left ≤ guard → Holds tmp guard left u w → Writes env (probe_pieces tmp guard count) (points (probe_turn tmp) w m) [] m (SameBut (tmp ∷ []) u)
  ended {tmp} {guard} {left} count w m le k =
      let none : nat_lt (reg w tmp) (reg w 31) ≡ false = (λ i. nat_lt (k.size i) (k.distance i)) ∙ not_below guard left le in
      record { count = 1; values = w; ran = λ i. and_then (if not (none i) then to ((probe_places tmp guard count).1 i) w m else Some (points (probing tmp) w m)) (evaluate env 0 (probe_pieces tmp guard count)); such = k.others }

  -- one turn
  turn : {tmp guard left : ℕ} {u : Values} (count next : ℕ) (w : Values) (m : List (List ℕ)) → IsScratch tmp → next ≡ left + guard → 0 < left → next < 2 ^ 64 → Holds tmp guard next u w → Writes env (probe_pieces tmp guard count) (points (probe_turn tmp) w m) (probe_turn tmp) ((probe_at (reg u 2) next ∷ []) ∷ m) (Holds tmp guard left (put_bytes u (probe_at (reg u 2) next) (0 ∷ [])))
  turn {tmp} {guard} {left} {u} count next w m h is some fits k =
      let whole = probe_pieces tmp guard count in
      let a = probe_at (reg u 2) next in
      let v = put_bytes u a (0 ∷ []) in
      let other = h.other in
      let kept : reg w 2 ≡ reg u 2 = sym (k.others.regs 2 (lit< tt) (grind (arith, nat_tests))) in
      let more : nat_lt (reg w tmp) (reg w 31) ≡ true = (λ i. nat_lt (k.size i) (k.distance i)) ∙ lt-ltb guard next (omega arith) in
      let address : wrap (reg w 2 + (2 ^ 64 - reg w 31)) ≡ a = λ i. probe_at (kept i) (k.distance i) in
      goes_on {Such = Aims tmp guard next a u} (record { count = 2; values = set_reg w 30 a; ran = ap (λ b. and_then (if not b then to (after 1 whole) w m else Some (points (probing tmp) w m)) (evaluate env 1 whole)) more ∙ ap (λ n. Some (points (Do (Store Sb 30 0 (pos 0)) ∷ Do (Rrr Sub 31 31 tmp) ∷ Jump 0 ∷ Bind 1 ∷ []) (set_reg w 30 n) m)) address; such = search (rules, arith, reads_other, reads_set, count_set, k, h, spare_set) }) (λ w1 k1.
      let there : wrap (reg w1 30 + low64 (pos 0)) ≡ a = (let none : low64 (pos 0) ≡ 0 = refl in omega (arith, k1.address)) in
      goes_on {Such = Holds tmp guard next v} (record { count = 1; values = put_bytes w1 a (0 ∷ []); ran = ap (λ n. Some (points (Do (Rrr Sub 31 31 tmp) ∷ Jump 0 ∷ Bind 1 ∷ []) (put_bytes w1 n (0 ∷ [])) ((n ∷ []) ∷ m))) there; such = search (rules, k1, put_same) }) (λ w2 k2.
      let nearer : wrap (reg w2 31 + (2 ^ 64 - reg w2 tmp)) ≡ left = (λ i. wrap (k2.distance i + (2 ^ 64 - k2.size i))) ∙ omega arith in
      record { count = 2; values = set_reg w2 31 left; ran = λ i. and_then (to ((probe_places tmp guard count).0 i) (set_reg w2 31 (nearer i)) ((a ∷ []) ∷ m)) (evaluate env 0 whole); such = search (rules, arith, reads_other, reads_set, count_set, k2, h, spare_set) }))

  -- turns until at most one guard is left, by how many are
  turns : {tmp guard : ℕ} (count left : ℕ) (u w : Values) (m : List (List ℕ)) → IsScratch tmp → 0 < guard → left * guard < 2 ^ 64 → Holds tmp guard (left * guard) u w → Writes env (probe_pieces tmp guard count) (points (probe_turn tmp) w m) [] (writing (probes_from (reg u 2) guard left) m) (SameBut (tmp ∷ []) (zero_bytes u (probes_from (reg u 2) guard left)))
  turns count zero u w m h some fits k = ended count w m (omega arith) k
  turns count (suc zero) u w m h some fits k = ended count w m (omega arith) k
  turns {guard = guard} count (suc (suc n)) u w m h some fits k =
      let a = probe_at (reg u 2) (suc (suc n) * guard) in
      goes_on (turn {left = suc n * guard} count (suc (suc n) * guard) w m h (omega arith) (omega arith) fits k) (λ w1 k1. turns count (suc n) (put_bytes u a (0 ∷ [])) w1 ((a ∷ []) ∷ m) h some (omega arith) k1)

  -- all turns
  probed : {tmp guard : ℕ} (count : ℕ) (v w : Values) → IsScratch tmp → guard * count < 2 ^ 64 → Holds tmp guard (guard * count) v w → Writes env (probe_pieces tmp guard count) (point (probe_turn tmp) w) [] (writing (probes_of (reg v 2) guard count) []) (SameBut (tmp ∷ []) (zero_bytes v (probes_of (reg v 2) guard count)))
  probed {tmp} {guard} count v w h fits k =
      let all = λ (none : Bool). if none then [] else probes_from (reg v 2) guard count in
      (elim (guard == 0) as (λ none. (guard == 0) ≡ none → Writes env (probe_pieces tmp guard count) (point (probe_turn tmp) w) [] (writing (all none) []) (SameBut (tmp ∷ []) (zero_bytes v (all none)))) [
        | true ↦ λ none. let nothing : guard * count ≡ 0 = ap (λ n. n * count) (eqb-true guard 0 none) ∙ omega arith in ended count w [] (omega arith) k
        | false ↦ λ other. turns count count v w [] h (grind (arith, nat_tests)) (omega arith) (subst (λ n. Holds tmp guard n v w) (mul_comm guard count) k)
      ]) refl

  starts : {tmp guard : ℕ} {v : Values} (count : ℕ) (w : Values) → IsScratch tmp → guard < 2 ^ 32 → guard * count < 2 ^ 64 → AreValues w → SameBut [] v w → Reaches env (probe_pieces tmp guard count) (point (probe_pieces tmp guard count) w) (probe_turn tmp) (Holds tmp guard (guard * count) v)
  starts {tmp} {guard} {v} count w h few fits hw same =
      let far = cast_signed w64 (guard * count) in
      let loop = Bind 0 ∷ probe_turn tmp in
      let near : wrap (low64 (pos guard)) ≡ guard = (let e = small_number guard (omega arith) in omega arith) in
      goes_on {Such = λ u. u ≡ w} (record { count = 2; values = w; ran = refl; such = refl }) (λ w0 is.
      goes_on {Such = Starts (guard * count) v} (reaches_such (λ u e. subst (Starts (guard * count) v) (sym (e ∙ (λ i. set_reg (is i) 31 (bits_back (guard * count) fits i)))) (search (rules, arith, reads_back, are_values_set, spare_set, hw, same, fits))) (number_reaches env {ps = number_pieces tmp (pos guard) ++ loop} 31 far w0 (subst AreValues (sym is) hw) (lit< tt) (lit< tt))) (λ w1 k1.
      goes_on {Such = Holds tmp guard (guard * count) v} (reaches_such (λ u e. subst (Holds tmp guard (guard * count) v) (sym (e ∙ ap (set_reg w1 tmp) near)) (let others = temporary_set v w1 tmp guard (grind (arith, nat_tests)) (same_but (tmp ∷ []) (all_same k1.others)) in search (rules, arith, reads_back, reads_other, count_set, k1, h, others))) (number_reaches env {ps = loop} tmp (pos guard) w1 k1.values h.written (omega arith))) (λ w2 k2.
      record { count = 1; values = w2; ran = refl; such = k2 })))

-- ---- the whole sequence

number_ranges : (rd : ℕ) (z : ℤ) (more : List Piece) → 0 < rd → rd < 32 → AreInRange more → AreInRange (number_pieces rd z ++ more)
number_ranges rd z more some lt h = number_keeps AreInRange rd z more (λ a ps ranged k. (ranged lt, k)) (λ n ps k. ((some, lt), k)) h

pub probe_out : {site : Site} {start after : ℕ} {s : State} {v : Values} (tmp guard count : ℕ) → IsScratch tmp → guard < 2 ^ 32 → count < 2 ^ 32 → Enters site start after (slots_alone (slots_of site.context.flags (probe_pieces tmp guard count))) s v →
    AreOutside site.base (length site.bytes) (probes_of (reg v 2) guard count) → ComesOut site start after Next (tmp ∷ []) (zero_bytes v (probes_of (reg v 2) guard count)) s
probe_out {site} {start} {after} {s} {v} tmp guard count h small few e out =
    let env = environment site start after in
    let all = probes_of (reg v 2) guard count in
    let fits : guard * count < 2 ^ 64 = mul-lt guard count (2 ^ 32) (2 ^ 32) small few in
    let near = number_ranges tmp (pos guard) (Bind 0 ∷ probe_turn tmp) h.written (omega arith) (lit< tt, (tt, (lit< tt, tt))) in
    writes_out (probe_pieces tmp guard count) (writing all []) (tmp ∷ []) (zero_bytes v all) (number_ranges 31 (cast_signed w64 (guard * count)) _ (lit< tt) (lit< tt) near) (all_outside site all [] out tt) e
    (goes_on (starts env count s.values h small fits e.is_state.values (same_but [] e.same)) (λ w k. probed env count v w h fits k))
    (λ is. zero_values v all e.are_values)
