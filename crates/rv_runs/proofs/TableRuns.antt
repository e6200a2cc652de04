-- A branch by a table goes to the label of the index, or to the default.
use Rattle.{rv_code.proofs.LongSlots.jumps_long, rv_code.proofs.Operands.IsTable, rv_code.proofs.Reaching.pieces_come, rv_code.proofs.Steps.aims_at, rv_code.specs.InstParts.table_slots, rv_code.specs.Tables.{bound_op, enter_ops, far_jump, jump_slots}, rv_encode.specs.Operations.{decoded_rri, decoded_rrr}}
use Rattle.{rv_inst.{specs.Meaning.table_exit, specs.declared.label_use.LabelUse.TheVariants.PCRel32}, rv_ops.specs.declared.alu.AluOPRRR.TheVariants.Add, rv_runs.{proofs.CallRuns.{upper_sum, way_goes, way_words, entered, gap_comes}, proofs.Exits.{all_same, goes_out, label_out, same_but}}}
use Rattle.rv_runs.proofs.Words.{AimsFrom, AreShort, AreValues, Ask, Base, Comes, ComesOut, Decoded, Enters, HasSize, InCourse, IsAs, IsAt, IsBeside, Label, MachLabel, Op, Same, SameBut, Site, Slli, Slots, StandsIn, State, To, Values, act, are_values_set}
use Rattle.rv_runs.proofs.Words.{nat_tests, Goes, at, between, comes_on, course_before, decoded, extend_pieces, goes_ahead, goes_second, ints, is_among, low64, low_word, not_below, number_comes, number_slots, reads_back}
use Rattle.rv_runs.proofs.Words.{reads_other, reg, same_Some, set_reg, size_append, size_of, slots_of, small_number, spare_set, stands_split, step_at, temporary_set, wrap, writes}
use Rattle.std.proofs.Common.{Bool, List, None, Some, [], ap, arith, false, if◌then◌else◌, length, lit<, lt-ltb, map, nat_lt, pos, refl, rules, slice_get, subst, suc, sym, true, unwrap_or, zero, ℕ, ◌*◌, ◌++◌, ◌+◌, ◌/◌, ◌<◌, ◌^◌, ◌∙◌, ◌∷◌, ◌≡◌, ◌≤◌, lit≤}
use Rattle.std.proofs.lemmas.Option.{slice_get_cases, slice_get_within}
use Rattle.rv_machine.specs.declared.ops.BaseOp.TheVariants as base

-- ---- registers

-- x31 holds the index, and all but temporaries is as in these values; a temporary holds how many labels there are, or an address
record Indexed (tmp1 tmp2 x : ℕ) (v w : Values) : Type 0 where
  pub index : reg w 31 ≡ x
  pub same : SameBut (tmp1 ∷ tmp2 ∷ []) v w
  pub are_values : AreValues v

record Counts (tmp1 tmp2 x tmp n : ℕ) (v w : Values) : Type 0 where
  pub now : Indexed tmp1 tmp2 x v w
  pub holds : reg w tmp ≡ n

-- ---- a jump in eight bytes

-- it comes to its label's place, and changes its temporary alone
far_out : {site : Site} {start after offset allocated : ℕ} {free : List ℕ} {v : Values} {s : State} (tmp : ℕ) (label : MachLabel) → AreShort site → is_among free tmp ≡ true → 0 < tmp → tmp < 30 → IsAt site offset 8 s →
    (a : AimsFrom site allocated offset PCRel32 (Label label) (way_words 0 tmp)) → IsBeside site free v s → ComesOut site start after (To label.number) free v s
far_out {site} {offset = offset} {s = s} tmp label within among some usable h a b =
    let d = between offset a.to in
    let x = upper_sum s.pc d in
    let le = within.labels label.number a.to a.reaches.0 in
    let short = within.short in
    let there : wrap (s.pc + low64 d) / 2 * 2 ≡ wrap (site.base + a.to) = ap (λ n. n / 2 * 2) (aims_at a.to h (lit< tt)) ∙ (let aligned = h.placed.aligned in let even = a.reaches.1 in omega arith) in
    label_out false label a.to (at (wrap (site.base + a.to)) (set_reg s.values tmp x)) a.reaches (subst (λ pc. Goes site.context.flags 1 s (at pc (set_reg s.values tmp x))) there (way_goes 0 tmp d (grind (arith, ints)) some (omega arith) b.is_state h a.has))
    refl (search (rules, arith, temporary_set, are_values_set, among, b))

-- that of an index stands so many times eight bytes on
far_at : {site : Site} {allocated : ℕ} (tmp offset index : ℕ) (labels : List MachLabel) (label : MachLabel) → slice_get labels index ≡ Some label → StandsIn site allocated offset (map (far_jump tmp) labels) → AimsFrom site allocated (offset + 8 * index) PCRel32 (Label label) (way_words 0 tmp)
far_at tmp offset index [] label e stands = absurd (cc)
far_at {site} {allocated} tmp offset zero (first ∷ labels) label e stands =
    let here : offset ≡ offset + 8 * 0 = omega arith in
    subst (λ n. AimsFrom site allocated n PCRel32 (Label label) (way_words 0 tmp)) here
    (subst (λ l. AimsFrom site allocated offset PCRel32 (Label l) (way_words 0 tmp)) (same_Some first label e) stands.0)
far_at {site} {allocated} tmp offset (suc index) (first ∷ labels) label e stands =
    let there : offset + 8 + 8 * index ≡ offset + 8 * suc index = omega arith in
    subst (λ n. AimsFrom site allocated n PCRel32 (Label label) (way_words 0 tmp)) there
    (far_at tmp (offset + 8) index labels label e stands.1)

-- ---- the jump into the table

-- past the four words that make it, and by eight bytes for each label before that of the index; and from there to the label
entered_out : {site : Site} {start after offset : ℕ} {v : Values} {s : State} (allocated source tmp1 tmp2 index : ℕ) (labels : List MachLabel) (label : MachLabel) → AreShort site → IsTable source tmp1 tmp2 → index < 2 ^ 32 → slice_get labels index ≡ Some label →
    StandsIn site allocated offset (map Op (enter_ops tmp1 tmp2) ++ map (far_jump tmp2) labels) → InCourse site offset (16 + 8 * length labels) (Indexed tmp1 tmp2 index v) s → ComesOut site start after (To label.number) (tmp1 ∷ tmp2 ∷ []) v s
entered_out {site} {offset = offset} {v} {s} allocated source tmp1 tmp2 index labels label within r few e stands k =
    let below = slice_get_within labels index label e in
    let among1 : is_among (tmp1 ∷ tmp2 ∷ []) tmp1 ≡ true = grind (arith, nat_tests) in
    let among2 : is_among (tmp1 ∷ tmp2 ∷ []) tmp2 ≡ true = grind (arith, nat_tests) in
    let sized : (d : Decoded) → d.len ≡ 4 → HasSize d = λ d four. record { even = omega arith; some = omega arith; few = omega arith } in
    let p = wrap (s.pc + low64 (pos 0) * 2 ^ 12) in
    let y = 8 * index in
    let shifted : wrap (index * 2 ^ 3) ≡ y = omega arith in
    let c : Comes site (offset + 4 + 4 + 4) 4 (Counts tmp1 tmp2 index tmp1 (wrap (p + y)) v) s =
    comes_on (writes (Counts tmp1 tmp2 index tmp1 p v) (decoded (Base base.Auipc) tmp1 0 0 (pos 0)) tmp1 p (sized _ refl) stands.0 refl (omega arith) (omega arith) (course_before (4 + (4 + (4 + 4))) k (omega arith)) (search (rules, arith, reads_other, reads_back, temporary_set, among1, k, r)))
    (λ t1 k1. comes_on (writes (λ w. Counts tmp1 tmp2 index tmp1 p v w × (reg w tmp2 ≡ y)) (decoded_rri Slli tmp2 31 (pos 3)) tmp2 y (sized _ refl) stands.1.0
    (λ i. Some (at (wrap (t1.pc + 4)) (set_reg t1.values tmp2 (((λ j. wrap (k1.values.now.index j * 2 ^ 3)) ∙ shifted) i)))) (omega arith) (omega arith) k1 (search (rules, arith, reads_other, reads_back, temporary_set, among2, k1, r)))
    (λ t2 k2. writes (Counts tmp1 tmp2 index tmp1 (wrap (p + y)) v) (decoded_rrr Add tmp1 tmp1 tmp2) tmp1 (wrap (p + y)) (sized _ refl) stands.1.1.0
    (λ i. Some (at (wrap (t2.pc + 4)) (set_reg t2.values tmp1 (wrap (k2.values.0.holds i + k2.values.1 i))))) (omega arith) (omega arith) k2 (search (rules, arith, reads_other, reads_back, temporary_set, among1, k2, r)))) in
    let t = c.state in
    let k3 = c.course in
    let to = wrap (site.base + (offset + 4 + 4 + 4 + 4 + 8 * index)) in
    let jumped : wrap (reg t.values tmp1 + low64 (pos 16)) / 2 * 2 ≡ to = (λ i. wrap (k3.values.holds i + low64 (pos 16)) / 2 * 2) ∙ (let aligned = k.here.placed.aligned in let pc = k.here.pc in let even = k.here.even in omega arith) in
    let h4 : IsAt site (offset + 4 + 4 + 4 + 4 + 8 * index) 8 (at to t.values) = search (rules, arith, k, k3) in
    goes_out (goes_second c.goes (step_at _ [] (at to t.values) k3.here (omega arith) stands.1.1.1.0 (λ i. Some (at (jumped i) t.values))))
    (far_out tmp2 label within among2 r.tmp2_written r.tmp2_usable h4 (far_at tmp2 (offset + 4 + 4 + 4 + 4) index labels label e stands.1.1.1.1) (search (rules, arith, k3)))

-- ---- the jumps

jumps_out : {site : Site} {start after offset : ℕ} {v : Values} {s : State} (allocated source tmp1 tmp2 index : ℕ) (default : MachLabel) (labels : List MachLabel) → AreShort site → IsTable source tmp1 tmp2 → index < 2 ^ 32 →
    StandsIn site allocated offset (jump_slots tmp1 tmp2 default labels) → InCourse site offset (28 + 8 * length labels) (Counts tmp1 tmp2 index tmp2 (length labels) v) s → ComesOut site start after (To (unwrap_or (slice_get labels index) default).number) (tmp1 ∷ tmp2 ∷ []) v s
jumps_out {site} {start} {after} {offset} {v} {s} allocated source tmp1 tmp2 index default labels within r few stands k =
    let acts : (c : Bool) → nat_lt index (length labels) ≡ c → act (bound_op tmp2) s ≡ Some (at (if c then wrap (s.pc + 12) else wrap (s.pc + 4)) s.values) =
    λ c test. (λ i. Some (at (if nat_lt (k.values.now.index i) (k.values.holds i) then wrap (s.pc + 12) else wrap (s.pc + 4)) s.values)) ∙ (λ i. Some (at (if test i then wrap (s.pc + 12) else wrap (s.pc + 4)) s.values)) in
    let past : slice_get labels index ≡ None → length labels ≤ index = λ e. grind (arith, slice_get_cases) in
    (elim (slice_get labels index) as (λ found. slice_get labels index ≡ found → ComesOut site start after (To (unwrap_or found default).number) (tmp1 ∷ tmp2 ∷ []) v s) [
      | None ↦ λ e.
          let c = goes_ahead (bound_op tmp2) 4 (offset + 4) 8 stands.0 (acts false (not_below index (length labels) (past e))) refl refl (omega arith) (omega arith) k in
          goes_out c.goes (far_out tmp2 default within (grind (arith, nat_tests)) r.tmp2_written r.tmp2_usable c.course.here stands.1.0 (search (rules, c.course)))
      | Some label ↦ λ e.
          let c = goes_ahead (bound_op tmp2) 12 (offset + 4 + 8) (16 + 8 * length labels) stands.0 (acts true (lt-ltb index (length labels) (slice_get_within labels index label e))) (omega arith) refl (omega arith) (omega arith) k in
          goes_out c.goes (entered_out allocated source tmp1 tmp2 index labels label within r few e stands.1.1 (record { here = c.course.here; is_state = c.course.is_state; values = c.course.values.now }))
    ]) refl

-- ---- before the jumps

extend_comes : {site : Site} {offset size : ℕ} {v : Values} {s : State} (allocated source tmp1 tmp2 : ℕ) → source < 30 → StandsIn site allocated offset (slots_of site.context.flags (extend_pieces 31 source false 32)) → InCourse site offset (size_of (slots_of site.context.flags (extend_pieces 31 source false 32)) + size) (IsAs v) s →
    Comes site (offset + size_of (slots_of site.context.flags (extend_pieces 31 source false 32))) size (Indexed tmp1 tmp2 (low_word (reg v source)) v) s
extend_comes {site} {v = v} {s} allocated source tmp1 tmp2 usable stands k =
    let same : Same v s.values = all_same k.values.same in
    let u = set_reg s.values 31 (wrap (reg s.values source * 2 ^ 32)) in
    let x = reg u 31 / 2 ^ 32 in
    let low : x ≡ low_word (reg v source) = ap (λ m. m / 2 ^ 32) (reads_back s.values 31 (wrap (reg s.values source * 2 ^ 32)) k.is_state.values (lit< tt) (lit< tt) ∙ (λ i. wrap (sym (same.regs source usable) i * 2 ^ 32))) ∙ omega arith in
    let held = are_values_set s.values 31 (wrap (reg s.values source * 2 ^ 32)) k.is_state.values (lit< tt) (omega arith) in
    pieces_come (Indexed tmp1 tmp2 (low_word (reg v source)) v) allocated (extend_pieces 31 source false 32) ((lit< tt, refl, lit< tt), ((lit< tt, refl, lit< tt), tt)) tt stands
    (record { count = 2; values = set_reg u 31 x; ran = refl; such = record { index = reads_back u 31 x held (lit< tt) (lit< tt) ∙ low; same = spare_set v u 31 x (lit≤ tt) (spare_set v s.values 31 (wrap (reg s.values source * 2 ^ 32)) (lit≤ tt) (same_but (tmp1 ∷ tmp2 ∷ []) same)); are_values = k.values.are_values } }) k

-- ---- the whole sequence

pub table_out : {site : Site} {start after : ℕ} {s : State} {v : Values} (space index tmp1 tmp2 : ℕ) (default : MachLabel) (labels : List MachLabel) → IsTable index tmp1 tmp2 →
    Enters site start after (Ask space ∷ Slots (table_slots site.context.flags index tmp1 tmp2 (default ∷ labels)) ∷ []) s v → ComesOut site start after (table_exit (default ∷ labels) (low_word (reg v index))) (tmp1 ∷ tmp2 ∷ []) v s
table_out {site} {start} {after} {s} {v} space index tmp1 tmp2 default labels r e =
    let allocated = e.stands.2.0 in
    let n = length labels in
    let x = low_word (reg v index) in
    let extend = slots_of site.context.flags (extend_pieces 31 index false 32) in
    let number = number_slots site.context.flags tmp2 (pos n) in
    let jumps = jump_slots tmp1 tmp2 default labels in
    let whole_long = size_append extend (number ++ jumps) in
    let rest_long = size_append number jumps in
    let jump_long = jumps_long tmp1 tmp2 default labels in
    let first = stands_split site allocated e.stands.0 extend (number ++ jumps) e.stands.2.1 in
    let second = stands_split site allocated (e.stands.0 + size_of extend) number jumps first.1 in
    let among : is_among (tmp1 ∷ tmp2 ∷ []) tmp2 ≡ true = grind (arith, nat_tests) in
    let value : wrap (low64 (pos n)) ≡ n = (let l = small_number n (omega arith) in omega arith) in
    let c = comes_on (gap_comes {size = size_of extend + (size_of number + (28 + 8 * n))} e.stands.1 (omega arith) (entered e (omega arith))) (λ t0 k0.
    comes_on (extend_comes allocated index tmp1 tmp2 r.index_usable first.0 k0) (λ t1 k1.
    number_comes (Counts tmp1 tmp2 x tmp2 n v) allocated tmp2 n (pos n) r.tmp2_written (omega arith) value second.0 k1 (search (rules, arith, reads_other, reads_back, temporary_set, among, k1, r)))) in
    goes_out c.goes (jumps_out allocated index tmp1 tmp2 x default labels (record { short = e.short; labels = e.labels }) r (omega arith) second.1 c.course)
