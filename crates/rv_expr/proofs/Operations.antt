-- The lines of one operation leave its value in its place.
use Rattle.std.proofs.Common.{◌≡◌, ◌≢◌, ℕ, zero, suc, ◌+◌, ◌*◌, ◌%◌, ◌^◌, ◌<◌, ◌≤◌, ◌==◌, ◌⊎◌, ⊎_elim, inl, inr, nat_eq, not, Bool, true, false, if◌then◌else◌, List, [], ◌∷◌, ◌++◌, length, drop, Some, None, slice_get, slice_index, refl, arith, ap, sym, subst, ◌∙◌, lit<, length-append}
use Rattle.std.proofs.Math.ListN.{get_or-append}
use Rattle.std.proofs.Math.Seq.{get_or-append_seam}
use Rattle.std.proofs.lemmas.Bool.{cases_eq}
use Rattle.std.specs.Prelude.{map}
use Rattle.rv_base.specs.declared.frame.FrameLayout.{FrameLayout}
use Rattle.rv_base.specs.declared.regs.Reg.{Reg}
use Rattle.rv_inst.specs.declared.inst.Line.{Line}
use Rattle.rv_inst.specs.Meaning.{alu_rrr, set_regs}
use Rattle.rv_machine.specs.State.{State, Values, reg, set_reg, wrap}
use Rattle.rv_machine.specs.Memory.{load_result}
use Rattle.rv_machine.specs.declared.ops.LoadOp.TheVariants.{Ld}
use Rattle.rv_asm.specs.Simulation.{At}
use Rattle.rv_asm.specs.Users.{int_reg, is_integer_line, number_of}
use Rattle.rv_asm.proofs.Laws.{same_are_loaded_alike}
use Rattle.rv_expr.specs.declared.ops.BinOp.{BinOp}
use Rattle.rv_expr.specs.declared.ops.BinOp.TheVariants.{Add, Sub, Mul, And, Or, Xor, Shl, Shr, Sar, DivU, RemU, Ltu}
use Rattle.rv_expr.specs.declared.ops.ExprOp.{ExprOp}
use Rattle.rv_expr.specs.declared.ops.ExprOp.TheVariants.{Const, Arg, Bin, Pick}
use Rattle.rv_expr.specs.Value.{binary, value_of}
use Rattle.rv_expr.specs.Listing.{load_from, store_to, constant, alu, alu_of, choice, op_lines}
use Rattle.rv_expr.specs.Refusal.{fault_of}
use Rattle.rv_expr.proofs.Accepted.{argument_below, binary_earlier, pick_earlier}
use Rattle.rv_expr.proofs.Places.{place}
use Rattle.rv_expr.proofs.Steps.{Run, IsRun, Stands, Goes, goes_on, is_changed, job_in, sp_of}
use Rattle.rv_expr.proofs.Effects.{Computed, computes, loads, stores}

-- ---- lines in order

pub listed_at : (lines : List Line) (k : ℕ) (line : Line) (rest : List Line) → drop k lines ≡ line ∷ rest → slice_get lines k ≡ Some line
listed_at [] zero line rest e = absurd (cc)
listed_at [] (suc k) line rest e = absurd (cc)
listed_at (l ∷ lines) zero line rest e = let same : l ≡ line = cc in ap (λ x. Some x) same
listed_at (l ∷ lines) (suc k) line rest e = listed_at lines k line rest e

pub next_at : (lines : List Line) (k : ℕ) (line : Line) (rest : List Line) → drop k lines ≡ line ∷ rest → drop (suc k) lines ≡ rest
next_at [] zero line rest e = absurd (cc)
next_at [] (suc k) line rest e = absurd (cc)
next_at (l ∷ lines) zero line rest e = cc
next_at (l ∷ lines) (suc k) line rest e = next_at lines k line rest e

pub more_at : (lines : List Line) (k : ℕ) (line : Line) (rest : List Line) → drop k lines ≡ line ∷ rest → 0 < length rest → suc k < length lines
more_at [] zero line rest e some = absurd (cc)
more_at [] (suc k) line rest e some = absurd (cc)
more_at (l ∷ lines) zero line rest e some = let same : lines ≡ rest = cc in let long : length lines ≡ length rest = ap length same in omega arith
more_at (l ∷ lines) (suc k) line rest e some = let below = more_at lines k line rest e some in omega arith

-- ---- what is known

-- the machine is at a line, the arguments are where they were, and known values are in their places
pub record Holds (r : Run) (inputs known : List ℕ) (k : ℕ) (s : State) : Type 0 where
  pub stands : Stands r k s
  pub args : (n : ℕ) → n < 8 → reg s.values (10 + n) ≡ slice_index inputs n
  pub values : (j : ℕ) → j < length known → load_result Ld s.values.mem (place (sp_of r) j) ≡ slice_index known j

pub start_holds : (r : Run) (inputs : List ℕ) (k : ℕ) (s : State) → Stands r k s → ((n : ℕ) → n < 8 → reg s.values (10 + n) ≡ slice_index inputs n) → Holds r inputs [] k s
start_holds r inputs k s stands args = record { stands = stands; args = args; values = λ j below. absurd (omega arith) }

-- t0, t1 or t2 gets a number
still_holds : {r : Run} {inputs known : List ℕ} {k m n x : ℕ} {s : State} → Holds r inputs known k s → n < 8 → (c : Computed r s m n x) → Holds r inputs known m c.state
still_holds {r} h low c = record {
  stands = c.stands;
  args = λ j below. c.others (10 + j) (omega arith) (λ e. omega arith) ∙ h.args j below;
  values = λ j below. same_are_loaded_alike c.state.values.mem _ (place (sp_of r) j) (λ b in_place. c.mem (wrap (place (sp_of r) j + b))) ∙ h.values j below;
}

-- a register gets a known value
loads_known : (r : Run) (inputs known : List ℕ) (k : ℕ) (s : State) (n j : ℕ) (in_file : n < 32) (rest : List Line) → IsRun r → Holds r inputs known k s → drop k r.lines ≡ load_from (int_reg n in_file) j ∷ rest → 0 < length rest → 0 < n → n < 30 → is_changed n ≡ true → j < length known → Computed r s (suc k) n (slice_index known j)
loads_known r inputs known k s n j in_file rest h at follows more some low changed earlier =
    subst (λ (x : ℕ). Computed r s (suc k) n x) (at.values j earlier)
    (loads r k s n j in_file h at.stands (listed_at r.lines k (load_from (int_reg n in_file) j) rest follows) (more_at r.lines k (load_from (int_reg n in_file) j) rest follows more) some low changed)

pub known_load : (r : Run) (inputs known : List ℕ) (k : ℕ) (s : State) (n j : ℕ) (in_file : n < 32) (rest : List Line) → IsRun r → Holds r inputs known k s → drop k r.lines ≡ load_from (int_reg n in_file) j ∷ rest → 0 < length rest → 0 < n → n < 30 → is_changed n ≡ true → j < length known → Computed r s (suc k) n (slice_index known j)
known_load = loads_known

-- ---- one more value

-- the values are known, and the machine goes on with the rest of the lines
pub record Advanced (r : Run) (inputs known : List ℕ) (rest : List Line) (s : State) : Type 0 where
  pub line : ℕ
  pub state : State
  pub reached : Goes r s (At line) state
  pub holds : Holds r inputs known line state
  pub follows : drop line r.lines ≡ rest

pub advanced_after : (r : Run) (inputs known : List ℕ) (rest : List Line) (k : ℕ) (s t : State) → Goes r s (At k) t → Advanced r inputs known rest t → Advanced r inputs known rest s
advanced_after r inputs known rest k s t reached a = record {
  line = a.line;
  state = a.state;
  reached = goes_on r (At k) (At a.line) s t a.state reached a.reached;
  holds = a.holds;
  follows = a.follows;
}

-- a register is stored into the place of the operation that is next
puts : (r : Run) (inputs known : List ℕ) (k : ℕ) (s : State) (n v : ℕ) (in_file : n < 32) (rest : List Line) → IsRun r → Holds r inputs known k s → drop k r.lines ≡ store_to (int_reg n in_file) (length known) ∷ rest → 0 < length rest → n < 30 → reg s.values n ≡ v → length known < 254 → 8 * length known + 8 ≤ r.size → Advanced r inputs (known ++ v ∷ []) rest s
puts r inputs known k s n v in_file rest h at follows more low is few room =
    let line = store_to (int_reg n in_file) (length known) in
    let c = stores r k s n (length known) in_file h at.stands (listed_at r.lines k line rest follows) (more_at r.lines k line rest follows more) low few room in
    record {
      line = suc k;
      state = c.state;
      reached = c.reached;
      holds = record {
        stands = c.stands;
        args = λ j below. c.regs (10 + j) (omega arith) ∙ at.args j below;
        values = λ j below. on c.state c.here c.others j (last j below);
      };
      follows = next_at r.lines k line rest follows;
    }
  where
    last : (j : ℕ) → j < length (known ++ v ∷ []) → (j ≡ length known) ⊎ (j < length known)
    last j below = let long = length-append known (v ∷ []) in ⊎_elim (λ (e : j ≡ length known). inl e) (λ (other : j ≢ length known). inr (omega arith)) (cases_eq j (length known))

    on : (t : State) → load_result Ld t.values.mem (place (sp_of r) (length known)) ≡ reg s.values n → ((j : ℕ) → j < 254 → j ≢ length known → load_result Ld t.values.mem (place (sp_of r) j) ≡ load_result Ld s.values.mem (place (sp_of r) j)) → (j : ℕ) → (j ≡ length known) ⊎ (j < length known) → load_result Ld t.values.mem (place (sp_of r) j) ≡ slice_index (known ++ v ∷ []) j
    on t here others j (inl e) = ap (λ (p : ℕ). load_result Ld t.values.mem (place (sp_of r) p)) e ∙ here ∙ is ∙ sym (get_or-append_seam known v [] 0) ∙ ap (slice_index (known ++ v ∷ [])) (sym e)
    on t here others j (inr earlier) = others j (omega arith) (λ e. omega arith) ∙ at.values j earlier ∙ sym (get_or-append known (v ∷ []) 0 j earlier)

-- ---- each kind of operation

-- the machine's operation is the program's
alu_is : (op : BinOp) (x y : ℕ) → alu_rrr (alu_of op) x y ≡ binary op x y
alu_is Add x y = refl
alu_is Sub x y = refl
alu_is Mul x y = refl
alu_is And x y = refl
alu_is Or x y = refl
alu_is Xor x y = refl
alu_is Shl x y = refl
alu_is Shr x y = refl
alu_is Sar x y = refl
alu_is DivU x y = refl
alu_is RemU x y = refl
alu_is Ltu x y = refl

-- and the integer core has its line
alu_integer : (frame : FrameLayout) (op : BinOp) → is_integer_line frame (alu op) ≡ true
alu_integer frame Add = refl
alu_integer frame Sub = refl
alu_integer frame Mul = refl
alu_integer frame And = refl
alu_integer frame Or = refl
alu_integer frame Xor = refl
alu_integer frame Shl = refl
alu_integer frame Shr = refl
alu_integer frame Sar = refl
alu_integer frame DivU = refl
alu_integer frame RemU = refl
alu_integer frame Ltu = refl

-- where lines of operations follow, and the value of an operation is one more
abbrev Runs : Run → List ℕ → List ℕ → ℕ → ExprOp → Type 0
Runs r inputs known i op = (k : ℕ) (s : State) (rest : List Line) → IsRun r → Holds r inputs known k s → i ≡ length known → drop k r.lines ≡ op_lines i op ++ rest → 0 < length rest → fault_of i op ≡ None → i < 254 → 8 * i + 8 ≤ r.size → Advanced r inputs (known ++ value_of inputs known op ∷ []) rest s

constant_runs : (r : Run) (inputs known : List ℕ) (n : ℕ) → Runs r inputs known (length known) (Const n)
constant_runs r inputs known n k s rest h at is follows more fine few room =
    let line = constant n in
    let later = store_to (int_reg 5 (lit< tt)) (length known) ∷ rest in
    let v = n % 2 ^ 64 in
    let c = computes r k line s 5 v h at.stands (listed_at r.lines k line later follows) (more_at r.lines k line later follows (omega arith)) (lit< tt) (lit< tt) refl refl refl (λ env. refl) (λ env. refl) (λ env. refl) in
    advanced_after r inputs (known ++ v ∷ []) rest (suc k) s c.state c.reached
    (puts r inputs known (suc k) c.state 5 v (lit< tt) rest h (still_holds at (lit< tt) c) (next_at r.lines k line later follows) more (lit< tt) c.here few room)

argument_runs : (r : Run) (inputs known : List ℕ) (n : ℕ) → Runs r inputs known (length known) (Arg n)
argument_runs r inputs known n k s rest h at is follows more fine few room =
    let low = argument_below (length known) n fine in
    let same : 10 + n % 8 ≡ 10 + n = omega arith in
    puts r inputs known k s (10 + n % 8) (slice_index inputs n) _ rest h at follows more (omega arith) (ap (reg s.values) same ∙ at.args n low) few room

-- t0 and t1 hold two known values
record Loaded (r : Run) (inputs known : List ℕ) (k x y : ℕ) (rest : List Line) (s : State) : Type 0 where
  state : State
  reached : Goes r s (At k) state
  holds : Holds r inputs known k state
  first : reg state.values 5 ≡ slice_index known x
  second : reg state.values 6 ≡ slice_index known y
  follows : drop k r.lines ≡ rest

loads_both : (r : Run) (inputs known : List ℕ) (k x y : ℕ) (s : State) (rest : List Line) → IsRun r → Holds r inputs known k s → drop k r.lines ≡ load_from (int_reg 5 (lit< tt)) x ∷ load_from (int_reg 6 (lit< tt)) y ∷ rest → 0 < length rest → x < length known → y < length known → Loaded r inputs known (suc (suc k)) x y rest s
loads_both r inputs known k x y s rest h at follows more first second =
    let later = load_from (int_reg 6 (lit< tt)) y ∷ rest in
    let c = known_load r inputs known k s 5 x (lit< tt) later h at follows (omega arith) (lit< tt) (lit< tt) refl first in
    after c (still_holds at (lit< tt) c) (next_at r.lines k (load_from (int_reg 5 (lit< tt)) x) later follows)
  where
    after : (c : Computed r s (suc k) 5 (slice_index known x)) → Holds r inputs known (suc k) c.state → drop (suc k) r.lines ≡ load_from (int_reg 6 (lit< tt)) y ∷ rest → Loaded r inputs known (suc (suc k)) x y rest s
    after c at_next f =
        let d = known_load r inputs known (suc k) c.state 6 y (lit< tt) rest h at_next f more (lit< tt) (lit< tt) refl second in
        record {
          state = d.state;
          reached = goes_on r (At (suc k)) (At (suc (suc k))) s c.state d.state c.reached d.reached;
          holds = still_holds at_next (lit< tt) d;
          first = d.others 5 (lit< tt) (λ e. omega arith) ∙ c.here;
          second = d.here;
          follows = next_at r.lines (suc k) (load_from (int_reg 6 (lit< tt)) y) rest f;
        }

-- the operation of both is stored
alu_stored : (r : Run) (inputs known : List ℕ) (op : BinOp) (k x y : ℕ) (s : State) (rest : List Line) → IsRun r → Holds r inputs known k s → drop k r.lines ≡ alu op ∷ store_to (int_reg 5 (lit< tt)) (length known) ∷ rest → 0 < length rest → reg s.values 5 ≡ x → reg s.values 6 ≡ y → length known < 254 → 8 * length known + 8 ≤ r.size → Advanced r inputs (known ++ binary op x y ∷ []) rest s
alu_stored r inputs known op k x y s rest h at follows more first second few room =
    let later = store_to (int_reg 5 (lit< tt)) (length known) ∷ rest in
    let made : alu_rrr (alu_of op) (reg s.values 5) (reg s.values 6) ≡ binary op x y = alu_is op (reg s.values 5) (reg s.values 6) ∙ (λ i. binary op (first i) (second i)) in
    let c = computes r k (alu op) s 5 (binary op x y) h at.stands (listed_at r.lines k (alu op) later follows) (more_at r.lines k (alu op) later follows (omega arith)) (lit< tt) (lit< tt) refl (alu_integer (job_in r).frame op) refl (λ env. refl) (λ env. refl) (λ env. ap (set_reg s.values 5) made) in
    advanced_after r inputs (known ++ binary op x y ∷ []) rest (suc k) s c.state c.reached
    (puts r inputs known (suc k) c.state 5 (binary op x y) (lit< tt) rest h (still_holds at (lit< tt) c) (next_at r.lines k (alu op) later follows) more (lit< tt) c.here few room)

binary_runs : (r : Run) (inputs known : List ℕ) (op : BinOp) (x y : ℕ) → Runs r inputs known (length known) (Bin op x y)
binary_runs r inputs known op x y k s rest h at is follows more fine few room =
    let e = binary_earlier (length known) x y fine in
    let l = loads_both r inputs known k x y s (alu op ∷ store_to (int_reg 5 (lit< tt)) (length known) ∷ rest) h at follows (omega arith) e.first e.second in
    advanced_after r inputs _ rest (suc (suc k)) s l.state l.reached
    (alu_stored r inputs known op (suc (suc k)) (slice_index known x) (slice_index known y) l.state rest h l.holds l.follows more l.first l.second few room)

-- ---- choices

-- a choice of registers is one of numbers
moves : (v : Values) (b : Bool) → set_regs v (6 ∷ []) (map (λ (x : Reg). reg v (number_of x)) (if b then int_reg 6 (lit< tt) ∷ [] else int_reg 7 (lit< tt) ∷ [])) ≡ set_reg v 6 (if b then reg v 6 else reg v 7)
moves v true = refl
moves v false = refl

exchanged : (b : Bool) (x y : ℕ) → (if not b then x else y) ≡ (if b then y else x)
exchanged true x y = refl
exchanged false x y = refl

-- the choice of t1 and t2 by t0 is stored
choice_stored : (r : Run) (inputs known : List ℕ) (k t x y : ℕ) (s : State) (rest : List Line) → IsRun r → Holds r inputs known k s → drop k r.lines ≡ choice ∷ store_to (int_reg 6 (lit< tt)) (length known) ∷ rest → 0 < length rest → reg s.values 5 ≡ t → reg s.values 6 ≡ x → reg s.values 7 ≡ y → length known < 254 → 8 * length known + 8 ≤ r.size → Advanced r inputs (known ++ (if t == 0 then y else x) ∷ []) rest s
choice_stored r inputs known k t x y s rest h at follows more test first second few room =
    let later = store_to (int_reg 6 (lit< tt)) (length known) ∷ rest in
    let v = s.values in
    let picked = (if t == 0 then y else x) in
    let made : (if not (nat_eq (reg v 5) 0) then reg v 6 else reg v 7) ≡ picked = exchanged (nat_eq (reg v 5) 0) (reg v 6) (reg v 7) ∙ (λ i. if test i == 0 then second i else first i) in
    let c = computes r k choice s 6 picked h at.stands (listed_at r.lines k choice later follows) (more_at r.lines k choice later follows (omega arith)) (lit< tt) (lit< tt) refl refl refl (λ env. refl) (λ env. refl) (λ env. moves v (not (nat_eq (reg v 5) 0)) ∙ ap (set_reg v 6) made) in
    advanced_after r inputs (known ++ picked ∷ []) rest (suc k) s c.state c.reached
    (puts r inputs known (suc k) c.state 6 picked (lit< tt) rest h (still_holds at (lit< tt) c) (next_at r.lines k choice later follows) more (lit< tt) c.here few room)

third_loaded : (r : Run) (inputs known : List ℕ) (k t x y : ℕ) (s : State) (rest : List Line) → IsRun r → Holds r inputs known k s → drop k r.lines ≡ load_from (int_reg 7 (lit< tt)) y ∷ choice ∷ store_to (int_reg 6 (lit< tt)) (length known) ∷ rest → 0 < length rest → reg s.values 5 ≡ t → reg s.values 6 ≡ x → y < length known → length known < 254 → 8 * length known + 8 ≤ r.size → Advanced r inputs (known ++ (if t == 0 then slice_index known y else x) ∷ []) rest s
third_loaded r inputs known k t x y s rest h at follows more test first earlier few room =
    let later = choice ∷ store_to (int_reg 6 (lit< tt)) (length known) ∷ rest in
    let c = known_load r inputs known k s 7 y (lit< tt) later h at follows (omega arith) (lit< tt) (lit< tt) refl earlier in
    advanced_after r inputs _ rest (suc k) s c.state c.reached
    (choice_stored r inputs known (suc k) t x (slice_index known y) c.state rest h (still_holds at (lit< tt) c) (next_at r.lines k (load_from (int_reg 7 (lit< tt)) y) later follows) more (c.others 5 (lit< tt) (λ e. omega arith) ∙ test) (c.others 6 (lit< tt) (λ e. omega arith) ∙ first) c.here few room)

pick_runs : (r : Run) (inputs known : List ℕ) (t x y : ℕ) → Runs r inputs known (length known) (Pick t x y)
pick_runs r inputs known t x y k s rest h at is follows more fine few room =
    let e = pick_earlier (length known) t x y fine in
    let l = loads_both r inputs known k t x s (load_from (int_reg 7 (lit< tt)) y ∷ choice ∷ store_to (int_reg 6 (lit< tt)) (length known) ∷ rest) h at follows (omega arith) e.test e.first in
    advanced_after r inputs _ rest (suc (suc k)) s l.state l.reached
    (third_loaded r inputs known (suc (suc k)) (slice_index known t) (slice_index known x) y l.state rest h l.holds l.follows more l.first l.second e.second few room)

-- every operation leaves its value
pub operation_runs : (r : Run) (inputs known : List ℕ) (i : ℕ) (op : ExprOp) → Runs r inputs known i op
operation_runs r inputs known i op k s rest h at is =
    subst (λ (n : ℕ). drop k r.lines ≡ op_lines n op ++ rest → 0 < length rest → fault_of n op ≡ None → n < 254 → 8 * n + 8 ≤ r.size → Advanced r inputs (known ++ value_of inputs known op ∷ []) rest s) (sym is) (by_kind op)
  where
    by_kind : (op : ExprOp) → drop k r.lines ≡ op_lines (length known) op ++ rest → 0 < length rest → fault_of (length known) op ≡ None → length known < 254 → 8 * length known + 8 ≤ r.size → Advanced r inputs (known ++ value_of inputs known op ∷ []) rest s
    by_kind (Const n) = constant_runs r inputs known n k s rest h at refl
    by_kind (Arg n) = argument_runs r inputs known n k s rest h at refl
    by_kind (Bin op x y) = binary_runs r inputs known op x y k s rest h at refl
    by_kind (Pick t x y) = pick_runs r inputs known t x y k s rest h at refl
