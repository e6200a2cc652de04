-- How an evaluation goes on: over numbers, addresses, loads and stores; and the machine with it, through pieces among other slots.
use Rattle.{mach_records.specs.declared.records.Event.Event, rv_code.{proofs.Courses.{Comes, InCourse, IsApartAt, IsRealAt, IsUsableAt, lower_whole, offset_sums, set_twice, stands_split}, proofs.Evaluation.pieces_run, proofs.LineSlots.{is_low, offset_by, slots_append}}}
use Rattle.rv_code.{proofs.MadeOfPieces.{number_keeps, offset_keeps, pieces_long}, proofs.Memories.load_fits, proofs.OperationActs.{IsIntegerLoad, plus_none}, proofs.Registers.{are_values_set, reads_back, reads_other}}
use Rattle.rv_code.proofs.Words.{Addi, Add, AreInRange, AreValues, AtConstant, AtLabel, Based, Constant, constant_label, Do, Environment, is_near, IsInRange, load_op, load_result, Location, LoadOP, low64, MachLabel, lower_of, offset_pieces, number_pieces, Piece, reg, Rri}
use Rattle.rv_code.{proofs.Words.{Rrr, same_Some, Action, address_at, set_reg, Site, size_of, slots_of, StandsIn, State, TrapCode, upper_of, Values, Word64, ints, wrap}, specs.Accesses.{Access, access_pieces, address_pieces, based_pieces, far_pieces, load_pieces}}
use Rattle.rv_code.{specs.Evaluation.{address, and_then, evaluate, next, point, Point, at as points, StandIn}, specs.InstRuns.environment, specs.Pieces.{GoNowhere, Load, LoadFrom, Note}}
use Rattle.std.proofs.Common.{◌≡◌, ◌≢◌, ℕ, zero, suc, ◌+◌, ◌*◌, ◌^◌, ◌<◌, ℤ, pos, true, false, not, [], ◌∷◌, ◌++◌, List, Option, Some, None, append_assoc, append-nil, inl, ◌%◌, arith, refl, sym, ap, subst, ◌∙◌, lit<, if◌then◌else◌}

-- in some pieces of a whole the evaluation comes where these are ahead, with such values, once this is written
pub record Writes (env : Environment) (whole : List Piece) (p : Point) (ps : List Piece) (written : List (List ℕ)) (Such : Values → Type 0) : Type 0 where
  pub count : ℕ
  pub values : Values
  pub ran : evaluate env count whole p ≡ Some (points ps values written)
  pub such : Such values

-- and nothing is
abbrev pub Reaches : Environment → List Piece → Point → List Piece → (Values → Type 0) → Type 0
Reaches env whole p ps Such = Writes env whole p ps [] Such

evaluate_both : (env : Environment) (m n : ℕ) (whole : List Piece) (p q r : Point) → evaluate env m whole p ≡ Some q → evaluate env n whole q ≡ Some r → evaluate env (m + n) whole p ≡ Some r
evaluate_both env zero n whole p q r e f = let none : 0 + n ≡ n = omega arith in ap (λ k. evaluate env k whole p) none ∙ subst (λ o. evaluate env n whole o ≡ Some r) (sym (same_Some p q e)) f
evaluate_both env (suc m) n whole p q r e f =
    let more : suc m + n ≡ suc (m + n) = omega arith in
    ap (λ k. evaluate env k whole p) more ∙ (elim (next env whole p.ahead p.values p.written) as (λ o. and_then o (evaluate env m whole) ≡ Some q → and_then o (evaluate env (m + n) whole) ≡ Some r) [ None ↦ λ e. absurd (cc) | Some t ↦ λ e. evaluate_both env m n whole t q r e f ]) e

pub goes_on : {env : Environment} {whole ps qs : List Piece} {p : Point} {m n : List (List ℕ)} {Such Such' : Values → Type 0} → Writes env whole p ps m Such → ((w : Values) → Such w → Writes env whole (points ps w m) qs n Such') → Writes env whole p qs n Such'
goes_on {env} {whole} {ps} {qs} {p} {m} {n} r on =
    let d = on r.values r.such in
    record { count = r.count + d.count; values = d.values; ran = evaluate_both env r.count d.count whole p (points ps r.values m) (points qs d.values n) r.ran d.ran; such = d.such }

pub reaches_such : {env : Environment} {whole ps : List Piece} {p : Point} {m : List (List ℕ)} {Such Such' : Values → Type 0} → ((w : Values) → Such w → Such' w) → Writes env whole p ps m Such → Writes env whole p ps m Such'
reaches_such so r = record { count = r.count; values = r.values; ran = r.ran; such = so r.values r.such }

-- ---- numbers

-- an offset is in a register
offset_reaches : (env : Environment) {whole ps : List Piece} (rd : ℕ) (o : ℤ) (w : Values) → AreValues w → 0 < rd → rd < 32 → Reaches env whole (point (offset_pieces rd o ++ ps) w) ps (λ u. u ≡ set_reg w rd (wrap (low64 o)))
offset_reaches env {whole} {ps} rd o w hw some lt =
    let up = wrap (low64 (upper_of o) * 2 ^ 12) in
    offset_by (λ qs. Reaches env whole (point (qs ++ ps) w) ps (λ u. u ≡ set_reg w rd (wrap (low64 o)))) rd o
    (λ fits none. let e : up ≡ wrap (low64 o) = omega (arith, offset_sums o fits, none) in record { count = 1; values = set_reg w rd up; ran = refl; such = ap (set_reg w rd) e })
    (λ fits. record { count = 2; values = set_reg (set_reg w rd up) rd (wrap (reg (set_reg w rd up) rd + low64 (lower_of o))); ran = refl; such = ap (set_reg (set_reg w rd up) rd) ((λ i. wrap (reads_back w rd up hw some lt i + low64 (lower_of o))) ∙ offset_sums o fits) ∙ set_twice w rd up (wrap (low64 o)) })
    (λ far. record { count = 1; values = set_reg w rd (wrap (low64 o)); ran = refl; such = refl })

-- a number is
pub number_reaches : (env : Environment) {whole ps : List Piece} (rd : ℕ) (z : ℤ) (w : Values) → AreValues w → 0 < rd → rd < 32 → Reaches env whole (point (number_pieces rd z ++ ps) w) ps (λ u. u ≡ set_reg w rd (wrap (low64 z)))
number_reaches env {whole} {ps} rd z w hw some lt = (elim (is_low z) as (λ low. is_low z ≡ low → Reaches env whole (point ((if low then Do (Rri Addi rd 0 (lower_of z)) ∷ [] else offset_pieces rd z) ++ ps) w) ps (λ u. u ≡ set_reg w rd (wrap (low64 z)))) [
  | true ↦ λ low. record { count = 1; values = set_reg w rd (wrap (0 + low64 (lower_of z))); ran = refl; such = ap (set_reg w rd) (lower_whole z low) }
  | false ↦ λ high. offset_reaches env rd z w hw some lt
]) refl

-- ---- addresses

-- an address is in a register, which isn't the one that it counts from
pub address_reaches : (site : Site) (first last : ℕ) {whole ps : List Piece} (rd : ℕ) (loc : Location) (w : Values) → AreValues w → 0 < rd → rd < 32 → IsApartAt rd loc → Reaches (environment site first last) whole (point (address_pieces rd loc ++ ps) w) ps (λ u. u ≡ set_reg w rd (address_at (environment site first last) w loc))
address_reaches site first last {whole} {ps} rd (Based r o) w hw some lt apart =
    let env = environment site first last in
    let a = wrap (reg w r + low64 o) in
    let x = wrap (low64 o) in
    let v = set_reg w rd x in
    let sum : wrap (reg v rd + reg v r) ≡ a = (λ i. wrap (reads_back w rd x hw some lt i + reads_other w rd r x (λ e. apart (sym e)) i)) ∙ omega arith in
    let done : set_reg v rd (wrap (reg v rd + reg v r)) ≡ set_reg w rd a = ap (set_reg v rd) sum ∙ set_twice w rd x a in
    elim (is_near o) as (λ c. Reaches env whole (point ((if c then Do (Rri Addi rd r o) ∷ [] else offset_pieces rd o ++ Do (Rrr Add rd rd r) ∷ []) ++ ps) w) ps (λ u. u ≡ set_reg w rd a)) [
      | true ↦ record { count = 1; values = set_reg w rd a; ran = refl; such = refl }
      | false ↦ subst (λ qs. Reaches env whole (point qs w) ps (λ u. u ≡ set_reg w rd a)) (sym (append_assoc (offset_pieces rd o) (Do (Rrr Add rd rd r) ∷ []) ps))
          (goes_on (offset_reaches env rd o w hw some lt) (λ u is. record { count = 1; values = set_reg u rd (wrap (reg u rd + reg u r)); ran = refl; such = ap (λ u. set_reg u rd (wrap (reg u rd + reg u r))) is ∙ done }))
    ]
address_reaches site first last rd (AtLabel l) w hw some lt apart = record { count = 1; values = set_reg w rd ((environment site first last).label l.number); ran = refl; such = refl }
address_reaches site first last rd (AtConstant k) w hw some lt apart = record { count = 2; values = set_reg w rd ((environment site first last).label (constant_label k).number); ran = refl; such = refl }

-- ---- accesses

-- values among which x31 alone may be another
pub record AreAlike (w u : Values) : Type 0 where
  pub regs : (n : ℕ) → n < 31 → reg u n ≡ reg w n
  pub mem : u.mem ≡ w.mem
  pub are_values : AreValues u

-- an operation at an address is ahead of these pieces
pub record ReachesAccess (env : Environment) (whole : List Piece) (access : Access) (p : Point) (ps : List Piece) (w : Values) (a : ℕ) : Type 0 where
  pub base : ℕ
  pub offset : ℤ
  pub reaches : Reaches env whole p (Do (access base offset) ∷ ps) (λ u. (address u base offset ≡ a) × AreAlike w u)

-- the record of a trap is passed
noted : (env : Environment) {whole ps : List Piece} (trap : Option TrapCode) (w : Values) → Reaches env whole (point (access_pieces trap ++ ps) w) ps (λ u. u ≡ w)
noted env None w = record { count = 0; values = w; ran = refl; such = refl }
noted env (Some code) w = record { count = 1; values = w; ran = refl; such = refl }

-- x31 isn't the register that an address counts from
pub spare_apart : (loc : Location) → IsUsableAt loc → IsApartAt 31 loc
spare_apart (Based r o) usable = λ same. absurd (omega arith)
spare_apart _ usable = tt

pub far_reaches : (site : Site) (first last : ℕ) {whole ps : List Piece} (access : Access) (trap : Option TrapCode) (loc : Location) (w : Values) → AreValues w → IsUsableAt loc → address_at (environment site first last) w loc < 2 ^ 64 →
    ReachesAccess (environment site first last) whole access (point (far_pieces access trap loc ++ ps) w) ps w (address_at (environment site first last) w loc)
far_reaches site first last {whole} {ps} access trap loc w hw usable fits =
    let env = environment site first last in
    let a = address_at env w loc in
    let Such = λ (u : Values). (address u 31 (pos 0) ≡ a) × AreAlike w u in
    let final = Do (access 31 (pos 0)) ∷ [] in
    let order : far_pieces access trap loc ++ ps ≡ address_pieces 31 loc ++ (access_pieces trap ++ (final ++ ps)) = append_assoc (address_pieces 31 loc) (access_pieces trap ++ final) ps ∙ ap (λ qs. address_pieces 31 loc ++ qs) (append_assoc (access_pieces trap) final ps) in
    let there : Such (set_reg w 31 a) = (ap (λ n. wrap (n + low64 (pos 0))) (reads_back w 31 a hw (lit< tt) (lit< tt)) ∙ plus_none a fits, record { regs = λ n lt. reads_other w 31 n a (λ same. absurd (omega arith)); mem = refl; are_values = are_values_set w 31 a hw (lit< tt) fits }) in
    record {
      base = 31;
      offset = pos 0;
      reaches = subst (λ qs. Reaches env whole (point qs w) (final ++ ps) Such) (sym order) (goes_on (address_reaches site first last 31 loc w hw (lit< tt) (lit< tt) (spare_apart loc usable)) (λ u is. reaches_such (λ v same. subst Such (sym (same ∙ is)) there) (noted env trap u)));
    }

-- near its register, or far
pub based_reaches : (site : Site) (first last : ℕ) {whole ps : List Piece} (access : Access) (trap : Option TrapCode) (r : ℕ) (o : ℤ) (w : Values) → AreValues w → r < 30 → ReachesAccess (environment site first last) whole access (point (based_pieces access trap r o ++ ps) w) ps w (wrap (reg w r + low64 o))
based_reaches site first last {whole} {ps} access trap r o w hw usable =
    let env = environment site first last in
    let a = wrap (reg w r + low64 o) in
    let final = Do (access r o) ∷ [] in
    let Such = λ (u : Values). (address u r o ≡ a) × AreAlike w u in
    let there : Such w = (refl, record { regs = λ n lt. refl; mem = refl; are_values = hw }) in
    elim (is_near o) as (λ c. ReachesAccess env whole access (point ((if c then access_pieces trap ++ final else far_pieces access trap (Based r o)) ++ ps) w) ps w a) [
      | true ↦ record { base = r; offset = o; reaches = subst (λ qs. Reaches env whole (point qs w) (final ++ ps) Such) (sym (append_assoc (access_pieces trap) final ps)) (reaches_such (λ v same. subst Such (sym same) there) (noted env trap w)) }
      | false ↦ far_reaches site first last access trap (Based r o) w hw usable (omega arith)
    ]

-- a register was loaded, and x31 at most is another
pub record IsLoaded (rd x : ℕ) (w u : Values) : Type 0 where
  pub holds : 0 < rd → reg u rd ≡ x
  pub others : (n : ℕ) → n < 31 → n ≢ rd → reg u n ≡ reg w n
  pub mem : u.mem ≡ w.mem
  pub are_values : AreValues u

-- what a load of integers reads
abbrev pub read_from : Environment → LoadOP → Values → Location → ℕ
read_from env op w loc = load_result (load_op op) w.mem (address_at env w loc)

set_loaded : (rd x : ℕ) (w u : Values) → rd < 32 → x < 2 ^ 64 → AreAlike w u → IsLoaded rd x w (set_reg u rd x)
set_loaded rd x w u lt fits alike = record {
  holds = λ some. reads_back u rd x alike.are_values some lt;
  others = λ n below other. reads_other u rd n x other ∙ alike.regs n below;
  mem = alike.mem;
  are_values = are_values_set u rd x alike.are_values lt fits;
}

from_label : (env : Environment) {whole ps : List Piece} (op : LoadOP) (rd : ℕ) (trap : Option TrapCode) (l : MachLabel) (w : Values) → IsIntegerLoad op → AreValues w → rd < 32 → Reaches env whole (point (LoadFrom op rd trap l ∷ ps) w) ps (IsLoaded rd (load_result (load_op op) w.mem (env.label l.number)) w)
from_label env {whole} {ps} op rd trap l w integer hw lt =
    let x = load_result (load_op op) w.mem (env.label l.number) in
    record {
      count = 1;
      values = set_reg w rd x;
      ran = ap (λ c. and_then (if c then None else Some (point ps (set_reg w rd x))) (evaluate env 0 whole)) integer;
      such = set_loaded rd x w w lt (load_fits (load_op op) w.mem (env.label l.number) hw.bytes) (record { regs = λ n below. refl; mem = refl; are_values = hw });
    }

pub load_reaches : (site : Site) (first last : ℕ) {whole ps : List Piece} (op : LoadOP) (rd : ℕ) (trap : Option TrapCode) (loc : Location) (w : Values) → IsIntegerLoad op → AreValues w → rd < 32 → IsUsableAt loc →
    Reaches (environment site first last) whole (point (load_pieces op rd trap loc ++ ps) w) ps (IsLoaded rd (read_from (environment site first last) op w loc) w)
load_reaches site first last {whole} {ps} op rd trap (Based r o) w integer hw lt usable =
    let env = environment site first last in
    let a = wrap (reg w r + low64 o) in
    let x = load_result (load_op op) w.mem a in
    let r = based_reaches site first last (Load op rd) trap r o w hw usable in
    goes_on r.reaches (λ u both.
    let same : load_result (load_op op) u.mem (address u r.base r.offset) ≡ x = (λ i. load_result (load_op op) (both.1.mem i) (both.0 i)) in
    record {
      count = 1;
      values = set_reg u rd x;
      ran = ap (λ c. and_then (if not c then Some (point ps (set_reg u rd (load_result (load_op op) u.mem (address u r.base r.offset)))) else None) (evaluate env 0 whole)) integer ∙ ap (λ y. Some (point ps (set_reg u rd y))) same;
      such = set_loaded rd x w u lt (load_fits (load_op op) w.mem a hw.bytes) both.1;
    })
load_reaches site first last op rd trap (AtLabel l) w integer hw lt usable = from_label (environment site first last) op rd trap l w integer hw lt
load_reaches site first last {whole} {ps} op rd trap (AtConstant k) w integer hw lt usable =
    let env = environment site first last in
    goes_on (record { count = 1; values = w; ran = refl; such = refl }) (λ u is. subst (λ v. Reaches env whole (point (LoadFrom op rd trap (constant_label k) ∷ ps) v) ps (IsLoaded rd (read_from env op w (AtConstant k)) w)) (sym is) (from_label env op rd trap (constant_label k) w integer hw lt))

-- ---- what is true of a piece is true of all of them

-- of an access's
pub based_keeps : (P : List Piece → Type 0) (access : Access) (trap : Option TrapCode) (r : ℕ) (o : ℤ) (more : List Piece) → ((base : ℕ) (offset : ℤ) → IsInRange (access base offset)) → ((a : Action) (ps : List Piece) → IsInRange a → P ps → P (Do a ∷ ps)) →
    ((n : ℕ) (ps : List Piece) → P ps → P (Constant 31 (Word64 n) ∷ ps)) → ((e : Event) (ps : List Piece) → P ps → P (Note e ∷ ps)) → P more → P (based_pieces access trap r o ++ more)
based_keeps P access trap r o more ranged step constant note h =
    let noted : (b : ℕ) (z : ℤ) → P ((access_pieces trap ++ Do (access b z) ∷ []) ++ more) = λ b z. elim trap as (λ t. P ((access_pieces t ++ Do (access b z) ∷ []) ++ more)) [ None ↦ step _ more (ranged b z) h | Some code ↦ note _ _ (step _ more (ranged b z) h) ] in
    let rest = access_pieces trap ++ Do (access 31 (pos 0)) ∷ [] in
    let far : P ((offset_pieces 31 o ++ Do (Rrr Add 31 31 r) ∷ []) ++ (rest ++ more)) = subst P (sym (append_assoc (offset_pieces 31 o) (Do (Rrr Add 31 31 r) ∷ []) (rest ++ more))) (offset_keeps P 31 o _ (λ a ps ranged. step a ps (ranged (lit< tt))) constant (step _ _ (lit< tt) (noted 31 (pos 0)))) in
    elim (is_near o) as (λ c. P ((if c then access_pieces trap ++ Do (access r o) ∷ [] else (if c then Do (Rri Addi 31 r o) ∷ [] else offset_pieces 31 o ++ Do (Rrr Add 31 31 r) ∷ []) ++ rest) ++ more)) [
      | true ↦ noted r o
      | false ↦ subst P (sym (append_assoc (offset_pieces 31 o ++ Do (Rrr Add 31 31 r) ∷ []) rest more)) far
    ]

-- the pieces of an address, of an access and of a load are in range
pub address_ranges : (rd : ℕ) (loc : Location) (more : List Piece) → 0 < rd → rd < 32 → AreInRange more → AreInRange (address_pieces rd loc ++ more)
address_ranges rd (Based r o) more some lt h = (elim (is_near o) as (λ c. is_near o ≡ c → AreInRange ((if c then Do (Rri Addi rd r o) ∷ [] else offset_pieces rd o ++ Do (Rrr Add rd rd r) ∷ []) ++ more)) [
  | true ↦ λ near. ((lt, refl, grind (arith, ints)), h)
  | false ↦ λ far. subst AreInRange (sym (append_assoc (offset_pieces rd o) (Do (Rrr Add rd rd r) ∷ []) more)) (offset_keeps AreInRange rd o _ (λ a ps ranged k. (ranged lt, k)) (λ n ps k. ((some, lt), k)) (lt, h))
]) refl
address_ranges rd (AtLabel l) more some lt h = ((some, lt), h)
address_ranges rd (AtConstant k) more some lt h = ((some, lt), h)

pub far_ranges : (access : Access) (trap : Option TrapCode) (loc : Location) → IsInRange (access 31 (pos 0)) → AreInRange (far_pieces access trap loc)
far_ranges access trap loc h = address_ranges 31 loc (access_pieces trap ++ Do (access 31 (pos 0)) ∷ []) (lit< tt) (lit< tt) (elim trap as (λ t. AreInRange (access_pieces t ++ Do (access 31 (pos 0)) ∷ [])) [ None ↦ (h, tt) | Some code ↦ (h, tt) ])

pub based_ranges : (access : Access) (trap : Option TrapCode) (r : ℕ) (o : ℤ) (more : List Piece) → ((base : ℕ) (offset : ℤ) → IsInRange (access base offset)) → AreInRange more → AreInRange (based_pieces access trap r o ++ more)
based_ranges access trap r o more ranged h = based_keeps AreInRange access trap r o more ranged (λ a ps h k. (h, k)) (λ n ps k. ((lit< tt, lit< tt), k)) (λ e ps k. k) h

-- that of a label or a constant isn't loaded into x0
pub load_ranges : (op : LoadOP) (rd : ℕ) (trap : Option TrapCode) (loc : Location) (more : List Piece) → rd < 32 → IsRealAt rd loc → AreInRange more → AreInRange (load_pieces op rd trap loc ++ more)
load_ranges op rd trap (Based r o) more lt real h = based_ranges (Load op rd) trap r o more (λ base offset. lt) h
load_ranges op rd trap (AtLabel l) more lt real h = ((λ integer. real, lt), h)
load_ranges op rd trap (AtConstant k) more lt real h = ((λ integer. real, lt), h)

-- ---- the machine, through pieces among other slots

-- pieces stand in the code before others
pub stands_both : (site : Site) (allocated from : ℕ) (ps qs : List Piece) → StandsIn site allocated from (slots_of site.context.flags (ps ++ qs)) → StandsIn site allocated from (slots_of site.context.flags ps) × StandsIn site allocated (from + size_of (slots_of site.context.flags ps)) (slots_of site.context.flags qs)
stands_both site allocated from ps qs h = stands_split site allocated from (slots_of site.context.flags ps) (slots_of site.context.flags qs) (subst (StandsIn site allocated from) (slots_append site.context.flags ps qs) h)

-- they stand there, and what they compute is such
pub pieces_come : {site : Site} {offset size : ℕ} {Such : Values → Type 0} {s : State} (After : Values → Type 0) (allocated : ℕ) (ps : List Piece) → AreInRange ps → GoNowhere ps → StandsIn site allocated offset (slots_of site.context.flags ps) → Reaches (environment site 0 0) ps (point ps s.values) [] After →
    InCourse site offset (size_of (slots_of site.context.flags ps) + size) Such s → Comes site (offset + size_of (slots_of site.context.flags ps)) size After s
pieces_come {site} {offset} {size} {s = s} After allocated ps ranges nowhere stands r k =
    let flags = site.context.flags in
    let long = pieces_long flags ps in
    let n = size_of (slots_of flags ps) in
    let stand : StandIn site allocated offset (offset + n) ps = record { stand = stands; even = k.here.even; ends = omega arith; room = let room = k.here.room in omega arith; ranges = ranges; bounds = inl nowhere } in
    let c = pieces_run site 0 0 allocated offset (offset + n) ps stand r.count (point ps s.values) (point [] r.values) s r.ran tt (record { offset = offset; within = omega arith; here = record { even = k.here.even; room = let room = k.here.room in omega arith; placed = k.here.placed; pc = k.here.pc }; stand = stand; is_state = k.is_state; values = refl }) in
    let there = c.there.here in
    let ends = c.there.stand.ends in
    let same : c.there.offset ≡ offset + n = omega arith in
    record {
      state = c.state;
      goes = record { steps = c.steps; moved = omega arith; ran = c.ran };
      course = record { here = record { even = subst (λ m. m % 2 ≡ 0) same there.even; room = let room = k.here.room in omega arith; placed = there.placed; pc = there.pc ∙ ap (λ m. wrap (site.base + m)) same }; is_state = c.there.is_state; values = subst After (sym c.there.values) r.such };
    }

-- a number
pub number_comes : {site : Site} {offset size : ℕ} {Such : Values → Type 0} {s : State} (After : Values → Type 0) (allocated rd x : ℕ) (z : ℤ) → 0 < rd → rd < 32 → wrap (low64 z) ≡ x → StandsIn site allocated offset (slots_of site.context.flags (number_pieces rd z)) →
    InCourse site offset (size_of (slots_of site.context.flags (number_pieces rd z)) + size) Such s → After (set_reg s.values rd x) → Comes site (offset + size_of (slots_of site.context.flags (number_pieces rd z))) size After s
number_comes {site} {s = s} After allocated rd x z some lt is stands k after =
    let ps = number_pieces rd z in
    let all : AreInRange ps × GoNowhere ps = subst (λ qs. AreInRange qs × GoNowhere qs) (append-nil ps) (number_keeps (λ qs. AreInRange qs × GoNowhere qs) rd z [] (λ a qs ranged b. ((ranged lt, b.0), b.1)) (λ n qs b. (((some, lt), b.0), b.1)) (tt, tt)) in
    let r = subst (λ qs. Reaches (environment site 0 0) ps (point qs s.values) [] (λ u. u ≡ set_reg s.values rd (wrap (low64 z)))) (append-nil ps) (number_reaches (environment site 0 0) rd z s.values k.is_state.values some lt) in
    pieces_come After allocated ps all.0 all.1 stands (reaches_such (λ u e. subst After (sym (e ∙ ap (set_reg s.values rd) is)) after) r) k
