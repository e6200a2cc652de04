-- Registers come from the stack, and the stack pointer rises or falls.
use Rattle.rv_code.{proofs.Courses.{InCourse, Comes}, proofs.MadeOfPieces.number_keeps, proofs.Memories.{load_fits, load_same}, proofs.OperationActs.{IsIntegerLoad, has_integer_load, plus_none, set_own}}
use Rattle.rv_code.{proofs.Reaching.{IsLoaded, Reaches, based_keeps, load_reaches, pieces_come, reaches_such, goes_on, number_reaches}, proofs.Registers.{are_values_set, but_set, own_set, spare_set, reads_back, reads_other}, proofs.StackLoads.{AreLoadable, AreOthers}}
use Rattle.rv_code.proofs.Words.{Add, Addi, append-nil, AreInRange, AreValues, Based, byte, GoNowhere, is_among, is_float_load, is_near, IsaFlags, Piece, Do, Rri, Rrr, number_pieces, ints, load_line_slots, load_op, load_result, loaded, LoadOP, low64, nat_tests, or_parts}
use Rattle.rv_code.{proofs.Words.{reg, SameBut, set_reg, Site, size_of, slots_of, stack_load_slots, stack_loaded, stack_step_slots, StackLoad, StandsIn, State, Values, wrap}, specs.Accesses.{half_load_pieces, load_pieces, load_line_pieces, stack_load_pieces, stack_step_pieces, far_step_pieces}}
use Rattle.rv_code.{specs.Evaluation.point, specs.InstRuns.environment, specs.Pieces.Load}
use Rattle.std.proofs.Common.{◌≡◌, ◌≢◌, ℕ, zero, suc, ◌+◌, ◌^◌, ◌<◌, true, false, List, [], ◌∷◌, arith, refl, sym, ap, subst, ◌∙◌, ◌==◌, Bool, ℤ, ◌++◌, None, lit<, lit≤, eqb-true, if◌then◌else◌, nat_eq, append_assoc}

-- so it keeps its value
pub one_other : (op : LoadOP) (rd a n : ℕ) (v : Values) → rd ≢ n → reg (loaded op rd a v) n ≡ reg v n
one_other op rd a n v other =
    let x = load_result (load_op op) v.mem a in
    elim (is_float_load op) as (λ float. reg (if float then v else set_reg v rd x) n ≡ reg v n) [ true ↦ refl | false ↦ reads_other v rd n x (λ e. other (sym e)) ]

pub loaded_other : (sp n : ℕ) (loads : List StackLoad) (v : Values) → AreOthers n loads → reg (stack_loaded sp loads v) n ≡ reg v n
loaded_other sp n [] v others = refl
loaded_other sp n (l ∷ loads) v others =
    let a = wrap (sp + low64 l.offset) in
    loaded_other sp n loads (loaded l.op l.register a v) others.1 ∙ one_other l.op l.register a n v others.0

-- the same as these, x30 and x31 apart
pub record IsAs (u w : Values) : Type 0 where
  pub same : SameBut [] u w
  pub are_values : AreValues u

-- beside the machine's values
pub record IsBesideThem (u w : Values) : Type 0 where
  pub as_these : IsAs u w
  pub is_values : AreValues w

set_both : (u w : Values) (n x : ℕ) → n < 32 → x < 2 ^ 64 → IsBesideThem u w → IsBesideThem (set_reg u n x) (set_reg w n x)
set_both u w n x lt fits k = record {
  as_these = record { same = but_set u w n x k.as_these.are_values k.is_values lt k.as_these.same; are_values = are_values_set u n x k.as_these.are_values lt fits };
  is_values = are_values_set w n x k.is_values lt fits;
}

-- a load of integers sets its register
pub integer_loaded : (op : LoadOP) (rd a : ℕ) (v : Values) → IsIntegerLoad op → loaded op rd a v ≡ set_reg v rd (load_result (load_op op) v.mem a)
integer_loaded op rd a v integer = ap (λ (c : Bool). if c then v else set_reg v rd (load_result (load_op op) v.mem a)) integer

-- what is loaded from an address that counts from a register
abbrev read_at : LoadOP → ℕ → ℤ → Values → ℕ
read_at op r o v = load_result (load_op op) v.mem (wrap (reg v r + low64 o))

-- where a register was loaded that is below x30
pub loaded_same_but : {free : List ℕ} (rd x : ℕ) (v w u : Values) → AreValues v → rd < 30 → SameBut free v w → IsLoaded rd x w u → SameBut free (set_reg v rd x) u
loaded_same_but {free} zero x v w u hv lt same h = record { regs = λ n. elim n as (λ n. n < 30 → is_among free n ≡ false → reg v n ≡ reg u n) [ zero ↦ λ below other. refl | suc n ↦ λ below other. same.regs (suc n) below other ∙ sym (h.others (suc n) (omega arith) (λ e. absurd (omega arith))) ]; mem = λ a. same.mem a ∙ ap (λ m. byte m a) (sym h.mem) }
loaded_same_but {free} (suc k) x v w u hv lt same h = own_set v u (suc k) x hv (omega arith) lt (h.holds (omega arith)) (record {
  regs = λ n below other. let test = or_parts (nat_eq (suc k) n) (is_among free n) other in same.regs n below test.1 ∙ sym (h.others n (omega arith) (grind (arith, nat_tests)));
  mem = λ a. same.mem a ∙ ap (λ m. byte m a) (sym h.mem);
})

-- a load of integers that can't trap
pub line_reaches : (site : Site) {whole ps : List Piece} (op : LoadOP) (rd r : ℕ) (o : ℤ) (u w : Values) → IsIntegerLoad op → rd < 30 → r < 30 → IsBesideThem u w →
    Reaches (environment site 0 0) whole (point (load_line_pieces site.context.flags op rd None (Based r o) ++ ps) w) ps (IsBesideThem (set_reg u rd (read_at op r o u)))
line_reaches site {whole} {ps} op rd r o u w integer usable based k =
    let x = read_at op r o u in
    let a = wrap (reg u r + low64 o) in
    let same : read_at op r o w ≡ x = (λ i. load_result (load_op op) w.mem (wrap (sym (k.as_these.same.regs r based refl) i + low64 o))) ∙ sym (load_same (load_op op) u.mem w.mem a k.as_these.same.mem) in
    let fits = load_fits (load_op op) u.mem a k.as_these.are_values.bytes in
    let near = load_pieces op rd None (Based r o) in
    subst (λ (c : Bool). Reaches (environment site 0 0) whole (point ((if c then near else half_load_pieces rd None (Based r o)) ++ ps) w) ps (IsBesideThem (set_reg u rd x))) (sym (has_integer_load site.context.flags op integer))
    (reaches_such (λ v h. record {
      as_these = record { same = loaded_same_but rd x u w v k.as_these.are_values usable k.as_these.same (subst (λ y. IsLoaded rd y w v) same h); are_values = are_values_set u rd x k.as_these.are_values (omega arith) fits };
      is_values = h.are_values;
    }) (load_reaches site 0 0 op rd None (Based r o) w integer k.is_values (omega arith) based))

-- each counts from the same stack pointer
loads_reach : (site : Site) {whole ps : List Piece} (sp : ℕ) (loads : List StackLoad) (u w : Values) → AreLoadable loads → reg u 2 ≡ sp → IsBesideThem u w → Reaches (environment site 0 0) whole (point (stack_load_pieces site.context.flags loads ++ ps) w) ps (IsBesideThem (stack_loaded sp loads u))
loads_reach site sp [] u w h from k = record { count = 0; values = w; ran = refl; such = k }
loads_reach site {whole} {ps} sp (l ∷ loads) u w h from k =
    let flags = site.context.flags in
    let env = environment site 0 0 in
    let x = read_at l.op 2 l.offset u in
    let is : loaded l.op l.register (wrap (sp + low64 l.offset)) u ≡ set_reg u l.register x = integer_loaded l.op l.register (wrap (sp + low64 l.offset)) u h.0.integer ∙ (λ i. set_reg u l.register (load_result (load_op l.op) u.mem (wrap (sym from i + low64 l.offset)))) in
    let first = load_line_pieces flags l.op l.register None (Based 2 l.offset) in
    subst (λ (v : Values). Reaches env whole (point ((first ++ stack_load_pieces flags loads) ++ ps) w) ps (IsBesideThem (stack_loaded sp loads v))) (sym is)
    (subst (λ qs. Reaches env whole (point qs w) ps (IsBesideThem (stack_loaded sp loads (set_reg u l.register x)))) (sym (append_assoc first (stack_load_pieces flags loads) ps))
    (goes_on (line_reaches site l.op l.register 2 l.offset u w h.0.integer h.0.register.usable (lit< tt) k) (λ v k1. loads_reach site sp loads (set_reg u l.register x) v h.1 (reads_other u l.register 2 x (λ e. h.0.register.apart (sym e)) ∙ from) k1)))

-- the stack pointer rises or falls by a number, and beside it x31 changes at most
step_reaches : (site : Site) {whole ps : List Piece} (z : ℤ) (u w : Values) → IsBesideThem u w → Reaches (environment site 0 0) whole (point (stack_step_pieces z ++ ps) w) ps (IsBesideThem (set_reg u 2 (wrap (reg u 2 + low64 z))))
step_reaches site {whole} {ps} z u w k = by (low64 z == 0) (is_near z) refl
  where
    x : ℕ
    x = wrap (reg u 2 + low64 z)

    sp : reg w 2 ≡ reg u 2
    sp = sym (k.as_these.same.regs 2 (lit< tt) refl)

    by : (none near : Bool) → (low64 z == 0) ≡ none → Reaches (environment site 0 0) whole (point ((if none then [] else if near then Do (Rri Addi 2 2 z) ∷ [] else far_step_pieces z) ++ ps) w) ps (IsBesideThem (set_reg u 2 x))
    by true near test =
        let none : low64 z ≡ 0 = eqb-true (low64 z) 0 test in
        let kept : set_reg u 2 x ≡ u = (λ i. set_reg u 2 (wrap (reg u 2 + none i))) ∙ ap (set_reg u 2) (plus_none (reg u 2) (k.as_these.are_values.fits 2)) ∙ set_own u 2 in
        record { count = 0; values = w; ran = refl; such = subst (λ v. IsBesideThem v w) (sym kept) k }
    by false true test = record { count = 1; values = set_reg w 2 (wrap (reg w 2 + low64 z)); ran = refl; such = subst (λ y. IsBesideThem (set_reg u 2 x) (set_reg w 2 (wrap (y + low64 z)))) (sym sp) (set_both u w 2 x (lit< tt) (omega arith) k) }
    by false false test =
        let n = wrap (low64 z) in
        let sum : wrap (reg u 2 + n) ≡ x = omega arith in
        subst (λ qs. Reaches (environment site 0 0) whole (point qs w) ps (IsBesideThem (set_reg u 2 x))) (sym (append_assoc (number_pieces 31 z) (Do (Rrr Add 2 2 31) ∷ []) ps))
        (goes_on (number_reaches (environment site 0 0) 31 z w k.is_values (lit< tt) (lit< tt)) (λ v is.
        let v1 = set_reg w 31 n in
        let all : wrap (reg v1 2 + reg v1 31) ≡ x = (λ i. wrap ((reads_other w 31 2 n (λ e. absurd (omega arith)) ∙ sp) i + reads_back w 31 n k.is_values (lit< tt) (lit< tt) i)) ∙ sum in
        let there = set_both u v1 2 x (lit< tt) (omega arith) (record { as_these = record { same = spare_set u w 31 n (lit≤ tt) k.as_these.same; are_values = k.as_these.are_values }; is_values = are_values_set w 31 n k.is_values (lit< tt) (omega arith) }) in
        record { count = 1; values = set_reg v 2 (wrap (reg v 2 + reg v 31)); ran = refl; such = subst (λ v. IsBesideThem (set_reg u 2 x) (set_reg v 2 (wrap (reg v 2 + reg v 31)))) (sym is) (subst (λ y. IsBesideThem (set_reg u 2 x) (set_reg v1 2 y)) (sym all) there) }))

-- ---- the machine, through them

-- they are in range, and go nowhere
abbrev pub AreStraight : List Piece → Type 0
AreStraight ps = AreInRange ps × GoNowhere ps

line_straight : (flags : IsaFlags) (op : LoadOP) (rd r : ℕ) (o : ℤ) (more : List Piece) → IsIntegerLoad op → rd < 32 → AreStraight more → AreStraight (load_line_pieces flags op rd None (Based r o) ++ more)
line_straight flags op rd r o more integer lt h =
    subst (λ (c : Bool). AreStraight ((if c then load_pieces op rd None (Based r o) else half_load_pieces rd None (Based r o)) ++ more)) (sym (has_integer_load flags op integer))
    (based_keeps AreStraight (Load op rd) None r o more (λ b z. lt) (λ a qs h b. ((h, b.0), b.1)) (λ n qs b. (((lit< tt, lit< tt), b.0), b.1)) (λ e qs b. b) h)

loads_straight : (flags : IsaFlags) (loads : List StackLoad) → AreLoadable loads → AreStraight (stack_load_pieces flags loads)
loads_straight flags [] h = (tt, tt)
loads_straight flags (l ∷ loads) h = line_straight flags l.op l.register 2 l.offset (stack_load_pieces flags loads) h.0.integer (let usable = h.0.register.usable in omega arith) (loads_straight flags loads h.1)

step_straight : (z : ℤ) → AreStraight (stack_step_pieces z)
step_straight z = (elim (low64 z == 0) as (λ none. AreStraight (if none then [] else if is_near z then Do (Rri Addi 2 2 z) ∷ [] else far_step_pieces z)) [
  | true ↦ (tt, tt)
  | false ↦ (elim (is_near z) as (λ near. is_near z ≡ near → AreStraight (if near then Do (Rri Addi 2 2 z) ∷ [] else far_step_pieces z)) [
    | true ↦ λ near. (((lit< tt, refl, grind (arith, ints)), tt), tt)
    | false ↦ λ far. number_keeps AreStraight 31 z (Do (Rrr Add 2 2 31) ∷ []) (λ a qs ranged b. ((ranged (lit< tt), b.0), b.1)) (λ n qs b. (((lit< tt, lit< tt), b.0), b.1)) ((lit< tt, tt), tt)
  ]) refl
])

-- through pieces of such a kind, from the listing's values
straight_come : {site : Site} {offset size : ℕ} {u made : Values} {s : State} (allocated : ℕ) (ps : List Piece) → AreStraight ps → ((w : Values) → IsBesideThem u w → Reaches (environment site 0 0) ps (point (ps ++ []) w) [] (IsBesideThem made)) → StandsIn site allocated offset (slots_of site.context.flags ps) →
    InCourse site offset (size_of (slots_of site.context.flags ps) + size) (IsAs u) s → Comes site (offset + size_of (slots_of site.context.flags ps)) size (IsAs made) s
straight_come {site} {made = made} {s} allocated ps straight on stands k =
    pieces_come (IsAs made) allocated ps straight.0 straight.1 stands
    (subst (λ qs. Reaches (environment site 0 0) ps (point qs s.values) [] (IsAs made)) (append-nil ps) (reaches_such (λ v h. h.as_these) (on s.values (record { as_these = k.values; is_values = k.is_state.values })))) k

pub line_comes : {site : Site} {offset size : ℕ} {u : Values} {s : State} (allocated rd r : ℕ) (op : LoadOP) (o : ℤ) → IsIntegerLoad op → rd < 30 → r < 30 → StandsIn site allocated offset (load_line_slots site.context.flags rd op None (Based r o)) → InCourse site offset (size_of (load_line_slots site.context.flags rd op None (Based r o)) + size) (IsAs u) s →
    Comes site (offset + size_of (load_line_slots site.context.flags rd op None (Based r o))) size (IsAs (set_reg u rd (read_at op r o u))) s
line_comes {site} {u = u} allocated rd r op o integer usable based =
    let ps = load_line_pieces site.context.flags op rd None (Based r o) in
    straight_come allocated ps (subst AreStraight (append-nil ps) (line_straight site.context.flags op rd r o [] integer (omega arith) (tt, tt))) (λ w k. line_reaches site op rd r o u w integer usable based k)

pub loads_come : {site : Site} {offset size : ℕ} {u : Values} {s : State} (allocated sp : ℕ) (loads : List StackLoad) → AreLoadable loads → reg u 2 ≡ sp → StandsIn site allocated offset (stack_load_slots site.context.flags loads) → InCourse site offset (size_of (stack_load_slots site.context.flags loads) + size) (IsAs u) s →
    Comes site (offset + size_of (stack_load_slots site.context.flags loads)) size (IsAs (stack_loaded sp loads u)) s
loads_come {site} {u = u} allocated sp loads h from = straight_come allocated (stack_load_pieces site.context.flags loads) (loads_straight site.context.flags loads h) (λ w k. loads_reach site sp loads u w h from k)

pub step_comes : {site : Site} {offset size : ℕ} {u : Values} {s : State} (allocated : ℕ) (z : ℤ) → StandsIn site allocated offset (stack_step_slots site.context.flags z) → InCourse site offset (size_of (stack_step_slots site.context.flags z) + size) (IsAs u) s →
    Comes site (offset + size_of (stack_step_slots site.context.flags z)) size (IsAs (set_reg u 2 (wrap (reg u 2 + low64 z)))) s
step_comes {site} {u = u} allocated z = straight_come allocated (stack_step_pieces z) (step_straight z) (λ w k. step_reaches site z u w k)
