-- Registers of any class get values on the machine with all units, and one of two values is chosen for them.
use Rattle.{rv_base.{specs.declared.regs.RegClass.TheVariants.Vector, specs.declared.value_regs.ValueRegs.ValueRegs, specs.declared.value_regs.ValueRegs.TheVariants.{One, Two}}, rv_code.{proofs.Evaluation.{one, rest}, proofs.MadeOfPieces.moves_after, proofs.Operands.{below_30, select_fine}}}
use Rattle.{rv_code.{specs.Choices.{choice_pieces, moves_then, same_numbers, select_pieces}, specs.Evaluation.IsAtPoint, specs.InstRuns.environment, specs.Pieces.{Copy, IsInRange, pieces_size}, specs.Usable.{AreMoves, IsFineChoice}}, rv_full.specs.Units.{set_vreg, vreg}}
use Rattle.{rv_inst.{specs.Generators.canonical_type, specs.Meaning.Environment, specs.Rules.{is_movable, is_one_of, same_class, same_register}}, rv_ops.specs.declared.float_fields.FpuOPWidth.TheVariants.D, rv_runs.{proofs.Exits.same_but, proofs.PlainRuns.{complement_holds, int_class}}}
use Rattle.rv_runs.proofs.UnitRuns.{FullSteps, fiter_one, float_set, more_steps, no_steps, unit_next_at}
use Rattle.rv_runs.proofs.Words.{AVirtual, Addi, AllByRecursion, AnswerFits, AreInRange, AreUnits, AreValues, Bind, Branch, Do, Does, EmitVState, Enters, Float, FullComesOut, FullState, FullValues, Int, IntCC, IntegerCompare, IsFullState, IsIntRegister, IsUsableIn, Keeps}
use Rattle.rv_runs.proofs.Words.{Piece, Real, Reg, RegClass, Rri, Same, SameFull, SelectInfo, Site, StandIn, StandsIn, Values, Writable, after, all_of, alu_rri, and_parts, are_values_set, at, at_next, chosen, class_of, complement_of, freg, full_at, holds}
use Rattle.rv_runs.proofs.Words.{inputs_of, integer_run, is_int_class, is_reserved, is_virtual, list_any, move_action, nat_tests, next, number_below, number_of, number_row, op_of, or_parts, parts_of, pieces_long, plus_none, point, put, put_all, put_f, put_in, put_units}
use Rattle.rv_runs.proofs.Words.{reads_other, reg, row_next, same_set, set_freg, set_own, set_reg, set_twice, size_of, slots_of, to, value_in, value_of, values_of, with_ints, wrap, written_in}
use Rattle.std.proofs.Common.{Bool, List, Some, [], ap, arith, eqb-true, false, if◌then◌else◌, length, lit<, map, nat_eq, nat_le, not, pos, refl, rules, slice_index, subst, suc, sym, true, ℕ, ◌&&◌, ◌++◌, ◌+◌, ◌<◌, ◌∙◌, ◌∷◌, ◌≡◌, ◌≢◌, inr}
use Rattle.std.proofs.lemmas.List.{get_or-set_other, set-get_or, set-set, set_comm}
use Rattle.rv_full.specs.declared.shapes.Sources.TheVariants as sources
use Rattle.rv_full.specs.declared.shapes.Target.TheVariants as target
use Rattle.rv_inst.specs.declared.inst.Inst.TheVariants.{Select}

-- Registers of any class that get values on the machine with all units.

-- two registers are not one
abbrev pub Apart : RegClass → ℕ → RegClass → ℕ → Type 0
Apart c n d m = c ≡ d → n ≢ m

pub put_twice : (c : RegClass) (v : FullValues) (n x y : ℕ) → put_in c (put_in c v n y) n x ≡ put_in c v n x
put_twice Int v n x y = λ i. record { ints = set_twice v.ints n y x i; units = v.units }
put_twice Float v n x y = λ i. record { ints = v.ints; units = record { floats = set-set v.units.floats n y x i; vectors = v.units.vectors; frm = v.units.frm; reserved = v.units.reserved; setting = v.units.setting; trace = v.units.trace } }
put_twice Vector v n x y = λ i. record { ints = v.ints; units = record { floats = v.units.floats; vectors = set-set v.units.vectors n y x i; frm = v.units.frm; reserved = v.units.reserved; setting = v.units.setting; trace = v.units.trace } }

ints_swap : (v : Values) (n m x y : ℕ) → n ≢ m → set_reg (set_reg v n x) m y ≡ set_reg (set_reg v m y) n x
ints_swap v (suc n) (suc m) x y other = λ i. record { regs = set_comm v.regs n m x y (λ e. other (ap suc e)) i; mem = v.mem }
ints_swap v n m x y other = refl

pub put_swap : (c d : RegClass) (v : FullValues) (n m x y : ℕ) → Apart c n d m → put_in d (put_in c v n x) m y ≡ put_in c (put_in d v m y) n x
put_swap Int Int v n m x y apart = λ i. record { ints = ints_swap v.ints n m x y (apart refl) i; units = v.units }
put_swap Float Float v n m x y apart = λ i. record { ints = v.ints; units = record { floats = set_comm v.units.floats n m x y (apart refl) i; vectors = v.units.vectors; frm = v.units.frm; reserved = v.units.reserved; setting = v.units.setting; trace = v.units.trace } }
put_swap Vector Vector v n m x y apart = λ i. record { ints = v.ints; units = record { floats = v.units.floats; vectors = set_comm v.units.vectors n m x y (apart refl) i; frm = v.units.frm; reserved = v.units.reserved; setting = v.units.setting; trace = v.units.trace } }
put_swap c d v n m x y apart = refl

pub read_apart : (c d : RegClass) (v : FullValues) (n m x : ℕ) → Apart c n d m → value_in d (put_in c v n x) m ≡ value_in d v m
read_apart Int Int v n m x apart = reads_other v.ints n m x (λ e. apart refl (sym e))
read_apart Float Float v n m x apart = get_or-set_other v.units.floats n m x 0 (λ e. apart refl (sym e))
read_apart Vector Vector v n m x apart = get_or-set_other v.units.vectors n m x 0 (λ e. apart refl (sym e))
read_apart c d v n m x apart = refl

-- a register's own value
pub put_own : (c : RegClass) (v : FullValues) (n : ℕ) → put_in c v n (value_in c v n) ≡ v
put_own Int v n = λ i. record { ints = set_own v.ints n i; units = v.units }
put_own Float v n = λ i. record { ints = v.ints; units = record { floats = set-get_or v.units.floats n 0 i; vectors = v.units.vectors; frm = v.units.frm; reserved = v.units.reserved; setting = v.units.setting; trace = v.units.trace } }
put_own Vector v n = λ i. record { ints = v.ints; units = record { floats = v.units.floats; vectors = set-get_or v.units.vectors n 0 i; frm = v.units.frm; reserved = v.units.reserved; setting = v.units.setting; trace = v.units.trace } }

-- ---- values that are the same

pub value_same : (c : RegClass) (v w : FullValues) (n : ℕ) → IsUsableIn c n → SameFull v w → value_in c v n ≡ value_in c w n
value_same Int v w n low same = same.ints.regs n low
value_same Float v w n low same = ap (λ u. freg u n) same.units
value_same Vector v w n low same = ap (λ u. vreg u n) same.units

pub put_same : (c : RegClass) (v w : FullValues) (n x : ℕ) → AreValues v.ints → AreValues w.ints → IsUsableIn c n → SameFull v w → SameFull (put_in c v n x) (put_in c w n x)
put_same Int v w n x hv hw low same = record { ints = same_set v.ints w.ints n x hv hw (omega arith) same.ints; units = same.units }
put_same Float v w n x hv hw low same = record { ints = same.ints; units = ap (λ u. set_freg u n x) same.units }
put_same Vector v w n x hv hw low same = record { ints = same.ints; units = ap (λ u. set_vreg u n x) same.units }

-- one that a register of the class held
pub put_fits : (c : RegClass) (u v : FullValues) (n m : ℕ) → AreValues u.ints → AreValues v.ints → IsUsableIn c n → AreValues (put_in c v n (value_in c u m)).ints
put_fits Int u v n m hu hv low = are_values_set v.ints n (reg u.ints m) hv (omega arith) (hu.fits m)
put_fits c u v n m hu hv low = hv

-- What the machine with all units does where pieces stand: an integer operation acts on the integers alone, and a floating-point register
-- of 64 bits is copied.

-- the machine with all units, with these values where these pieces are ahead
pub record IsAtPieces (site : Site) (allocated start end : ℕ) (ps : List Piece) (v : FullValues) (b : FullState) : Type 0 where
  pub ints : IsAtPoint site allocated start end (point ps v.ints) b.state
  pub units : b.units ≡ v.units
  pub are_units : AreUnits b.units

-- it comes there
abbrev pub ComesToPieces : Site → ℕ → ℕ → ℕ → List Piece → FullValues → FullState → Type 0
ComesToPieces site allocated start end ps v b = FullSteps site (IsAtPieces site allocated start end ps v) b

module _ {site : Site} {allocated start end : ℕ} where
  -- one piece that has a meaning on integers, and writes no memory
  pub piece_lifts : {b : FullState} {v : FullValues} (first last : ℕ) (whole : List Piece) → StandIn site allocated start end whole → (ps qs : List Piece) (w : Values) → next (environment site first last) whole ps v.ints [] ≡ Some (point qs w) → IsAtPieces site allocated start end ps v b → ComesToPieces site allocated start end qs (record { ints = w; units = v.units }) b
  piece_lifts {b} {v} first last whole k ps qs w e h =
      let c = one first last whole k ps v.ints [] (point qs w) b.state e tt h.ints in
      record { state = put c.state b; steps = c.steps; ran = integer_run site.context.flags c.steps c.state b c.ran; there = record { ints = c.there; units = h.units; are_units = h.are_units }; answers = refl; setting = refl }

  -- the copy of a register
  pub piece_copies : {b : FullState} {v : FullValues} (rd rs : ℕ) (ps : List Piece) → IsAtPieces site allocated start end (Do (Copy D rd rs) ∷ ps) v b → ComesToPieces site allocated start end ps (put_units (set_freg v.units rd (freg v.units rs)) v) b
  piece_copies {b} {v} rd rs ps h =
      let p = h.ints in
      let d = op_of site.context.flags (Copy D rd rs) in
      let after = put_f d (freg b.units rs) (values_of b) in
      let pc = wrap (b.state.pc + 4) in
      let exact : nat_eq rs rs ≡ true = grind (arith, nat_tests) in
      let some : 0 < pieces_size site.context.flags (Do (Copy D rd rs) ∷ ps) = omega arith in
      record {
        state = full_at pc after b.answers;
        steps = 1;
        ran = fiter_one site.context.flags b (full_at pc after b.answers) (unit_next_at b d [] refl p.here some p.stand.stand.0 ∙ ap (λ r. row_next pc r b.answers) (ap (λ c. if c then Does after else number_row target.Float (inputs_of sources.Two d (values_of b)) d (values_of b)) exact));
        there = record {
          ints = record { offset = p.offset + 4; within = omega arith; here = at_next 4 (at pc b.state.values) p.here refl refl p.here.placed; stand = rest (Do (Copy D rd rs)) ps p.stand; is_state = search (rules, arith, p); values = p.values };
          units = ap (λ u. set_freg u rd (freg u rs)) h.units;
          are_units = float_set b.units rd (freg b.units rs) h.are_units p.stand.ranges.0 (h.are_units.float_fits rs);
        };
        answers = refl;
        setting = refl;
      }

-- One of two values is chosen on the machine with all units, whose registers may be of any class.

-- ---- moves

-- a register of any class gets a value, and the values of several
abbrev put_to : FullValues → Reg → ℕ → FullValues
put_to v r x = put_in (class_of r) v (number_of r) x

abbrev values_in : FullValues → List Reg → List ℕ
values_in v rs = map (value_of v) rs

-- registers get what others hold, one after the other
abbrev pub moved : FullValues → List Reg → List Reg → FullValues
moved v [] sources = v
moved v (rd ∷ rds) [] = v
moved v (rd ∷ rds) (rs ∷ sources) = moved (put_to v rd (value_of v rs)) rds sources

-- a register is none of those; each of these is none of them; and each is none of those that come later
abbrev IsApart : Reg → List Reg → Type 0
IsApart r ss = AllByRecursion (λ (s : Reg). Apart (class_of r) (number_of r) (class_of s) (number_of s)) ss

abbrev AreApart : List Reg → List Reg → Type 0
AreApart rs ss = AllByRecursion (λ (r : Reg). IsApart r ss) rs

abbrev AreDistinct : List Reg → Type 0
AreDistinct [] = Unit {0}
AreDistinct (r ∷ rs) = IsApart r rs × AreDistinct rs

-- no source is a register to which another was moved before
abbrev AreOrdered : List Reg → List Reg → Type 0
AreOrdered [] sources = Unit {0}
AreOrdered (rd ∷ rds) [] = Unit {0}
AreOrdered (rd ∷ rds) (rs ∷ sources) = IsApart rd sources × AreOrdered rds sources

reads_put : (v : FullValues) (r : Reg) (x : ℕ) (ss : List Reg) → IsApart r ss → values_in (put_to v r x) ss ≡ values_in v ss
reads_put v r x [] apart = refl
reads_put v r x (s ∷ ss) apart = λ i. read_apart (class_of r) (class_of s) v (number_of r) (number_of s) x apart.0 i ∷ reads_put v r x ss apart.1 i

reads_moved : (v : FullValues) (rds sources ss : List Reg) → AreApart rds ss → values_in (moved v rds sources) ss ≡ values_in v ss
reads_moved v (rd ∷ rds) (rs ∷ sources) ss apart = reads_moved (put_to v rd (value_of v rs)) rds sources ss apart.1 ∙ reads_put v rd (value_of v rs) ss apart.0
reads_moved v rds sources ss apart = refl

-- all at once
moved_all : (v : FullValues) (rds sources : List Reg) → AreOrdered rds sources → moved v rds sources ≡ put_all v rds (values_in v sources)
moved_all v (rd ∷ rds) (rs ∷ sources) ordered =
    let w = put_to v rd (value_of v rs) in
    moved_all w rds sources ordered.1 ∙ ap (put_all w rds) (reads_put v rd (value_of v rs) sources ordered.0)
moved_all v rds sources ordered = refl

-- what they got before is gone
put_last : (v : FullValues) (r : Reg) (y : ℕ) (rds : List Reg) (xs : List ℕ) → IsApart r rds → put_to (put_all v rds xs) r y ≡ put_all (put_to v r y) rds xs
put_last v r y (rd ∷ rds) (x ∷ xs) apart = put_last (put_to v rd x) r y rds xs apart.1 ∙ ap (λ u. put_all u rds xs) (sym (put_swap (class_of r) (class_of rd) v (number_of r) (number_of rd) y x apart.0))
put_last v r y rds xs apart = refl

put_over : (v : FullValues) (rds : List Reg) (xs ys : List ℕ) → AreDistinct rds → length rds ≡ length ys → put_all (put_all v rds xs) rds ys ≡ put_all v rds ys
put_over v (r ∷ rds) (x ∷ xs) [] distinct count = absurd (omega arith)
put_over v (r ∷ rds) (x ∷ xs) (y ∷ ys) distinct count = ap (λ u. put_all u rds ys) (put_last (put_to v r x) r y rds xs distinct.0 ∙ ap (λ u. put_all u rds xs) (put_twice (class_of r) v (number_of r) y x)) ∙ put_over (put_to v r y) rds xs ys distinct.1 (omega arith)
put_over v rds xs ys distinct count = refl

moved_over : (v : FullValues) (rds xs ys : List Reg) → AreDistinct rds → AreOrdered rds xs → AreOrdered rds ys → AreApart rds ys → length rds ≡ length (values_in v ys) → moved (moved v rds xs) rds ys ≡ moved v rds ys
moved_over v rds xs ys distinct first second apart count =
    moved_all (moved v rds xs) rds ys second
    ∙ (λ i. put_all (moved_all v rds xs first i) rds (reads_moved v rds xs ys apart i))
    ∙ put_over v rds (values_in v xs) (values_in v ys) distinct count
    ∙ sym (moved_all v rds ys second)

-- each its own value
moved_own : (v : FullValues) (rds sources : List Reg) → AreMoves rds sources → same_numbers (map number_of sources) (map number_of rds) ≡ true → moved v rds sources ≡ v
moved_own v (rd ∷ rds) (rs ∷ sources) fine own =
    let both = and_parts (nat_eq (number_of rs) (number_of rd)) (same_numbers (map number_of sources) (map number_of rds)) own in
    ap (λ u. moved u rds sources) ((λ i. put_to v rd (value_in (fine.0.class i) v (eqb-true (number_of rs) (number_of rd) both.0 i))) ∙ put_own (class_of rd) v (number_of rd)) ∙ moved_own v rds sources fine.1 both.1
moved_own v rds sources fine own = refl

-- ---- values that are the same, and fit

-- a register of the machine that nothing reserves
abbrev IsFree : Reg → Type 0
IsFree r = (is_virtual r ≡ false) × IsUsableIn (class_of r) (number_of r)

abbrev AreFree : List Reg → Type 0
AreFree rs = AllByRecursion IsFree rs

-- registers of classes that are allowed
abbrev pub AreAllowed : (RegClass → Type 0) → List Reg → Type 0
AreAllowed Allowed rs = AllByRecursion (λ (r : Reg). Allowed (class_of r)) rs

all_allowed : (rs : List Reg) → AreAllowed (λ c. Unit {0}) rs
all_allowed [] = tt
all_allowed (r ∷ rs) = (tt, all_allowed rs)

put_moved_fits : (rd rs : Reg) (u v : FullValues) → class_of rs ≡ class_of rd → IsFree rd → AreValues u.ints → AreValues v.ints → AreValues (put_to v rd (value_of u rs)).ints
put_moved_fits rd rs u v class free hu hv = subst (λ c. AreValues (put_to v rd (value_in c u (number_of rs))).ints) (sym class) (put_fits (class_of rd) u v (number_of rd) (number_of rs) hu hv free.1)

all_fit : (u v : FullValues) (rds sources : List Reg) → AreMoves rds sources → AreFree rds → AreValues u.ints → AreValues v.ints → AreValues (put_all v rds (values_in u sources)).ints
all_fit u v (rd ∷ rds) (rs ∷ sources) fine free hu hv = all_fit u (put_to v rd (value_of u rs)) rds sources fine.1 free.1 hu (put_moved_fits rd rs u v fine.0.class free.0 hu hv)
all_fit u v rds sources fine free hu hv = hv

all_put_same : (u v w : FullValues) (rds sources : List Reg) → AreMoves rds sources → AreFree rds → AreValues u.ints → AreValues v.ints → AreValues w.ints → SameFull v w → SameFull (put_all v rds (values_in u sources)) (put_all w rds (values_in u sources))
all_put_same u v w (rd ∷ rds) (rs ∷ sources) fine free hu hv hw same =
    all_put_same u (put_to v rd (value_of u rs)) (put_to w rd (value_of u rs)) rds sources fine.1 free.1 hu (put_moved_fits rd rs u v fine.0.class free.0 hu hv) (put_moved_fits rd rs u w fine.0.class free.0 hu hw)
    (put_same (class_of rd) v w (number_of rd) (value_of u rs) hv hw free.0.1 same)
all_put_same u v w rds sources fine free hu hv hw same = same

values_same : (v w : FullValues) (rs : List Reg) → AreFree rs → SameFull v w → values_in v rs ≡ values_in w rs
values_same v w [] free same = refl
values_same v w (r ∷ rs) free same = λ i. value_same (class_of r) v w (number_of r) free.0.1 same i ∷ values_same v w rs free.1 same i

all_same : (v w : FullValues) (rds sources : List Reg) → AreMoves rds sources → AreFree rds → AreFree sources → AreValues v.ints → AreValues w.ints → SameFull v w → SameFull (put_all v rds (values_in v sources)) (put_all w rds (values_in w sources))
all_same v w rds sources fine free read hv hw same = subst (λ xs. SameFull (put_all v rds (values_in v sources)) (put_all w rds xs)) (values_same v w sources read same) (all_put_same v v w rds sources fine free hv hv hw same)

-- ---- a choice

-- one value is moved, and then the other where the branch isn't taken
abbrev made_by : Bool → FullValues → List Reg → List Reg → List Reg → FullValues
made_by c v rds first second = if c then moved v rds first else moved (moved v rds first) rds second

made_is : (c : Bool) (v : FullValues) (rds first second : List Reg) → AreOrdered rds first → AreOrdered rds second → moved (moved v rds first) rds second ≡ moved v rds second → made_by c v rds first second ≡ put_all v rds (values_in v (if c then first else second))
made_is true v rds first second ordered other gone = moved_all v rds first ordered
made_is false v rds first second ordered other gone = gone ∙ moved_all v rds second other

-- a choice that breaks no rule
pub record IsFairChoice (info : SelectInfo) : Type 0 where
  pub fine : IsFineChoice info.dst info.condition info.x info.y
  pub results : AreFree (written_in info.dst)
  pub x_free : AreFree (all_of info.x)
  pub y_free : AreFree (all_of info.y)
  pub x_ordered : AreOrdered (written_in info.dst) (all_of info.x)
  pub y_ordered : AreOrdered (written_in info.dst) (all_of info.y)
  pub over : same_numbers (map number_of (all_of info.y)) (map number_of (written_in info.dst)) ≡ false → (v : FullValues) → moved (moved v (written_in info.dst) (all_of info.x)) (written_in info.dst) (all_of info.y) ≡ moved v (written_in info.dst) (all_of info.y)
  pub compared_free : AreFree (info.condition.rs1 ∷ info.condition.rs2 ∷ [])
  pub compared_apart : AreApart (written_in info.dst) (info.condition.rs1 ∷ info.condition.rs2 ∷ [])

abbrev pub compared_by : IntCC → SelectInfo → FullValues → Bool
compared_by how info v = holds how (reg v.ints (number_of info.condition.rs1)) (reg v.ints (number_of info.condition.rs2))

-- the order in which its values are moved, whichever that is
pub record HasOrder (info : SelectInfo) : Type 0 where
  pub how : IntCC
  pub first : List Reg
  pub second : List Reg
  pub pieces : select_pieces info ≡ choice_pieces (written_in info.dst) first second how (number_of info.condition.rs1) (number_of info.condition.rs2)
  pub fine : AreMoves (written_in info.dst) first
  pub other : AreMoves (written_in info.dst) second
  pub made : (v : FullValues) → made_by (compared_by how info v) v (written_in info.dst) first second ≡ chosen info v

module _ (info : SelectInfo) (h : IsFairChoice info) where
  abbrev ds : List Reg
  ds = written_in info.dst

  abbrev xs : List Reg
  xs = all_of info.x

  abbrev ys : List Reg
  ys = all_of info.y

  pub order_of : HasOrder info
  order_of =
      let a = number_of info.condition.rs1 in
      let b = number_of info.condition.rs2 in
      let kind = info.condition.kind in
      let pieces = λ (c : Bool). if c then choice_pieces ds ys xs (complement_of kind) a b else choice_pieces ds xs ys kind a b in
      (elim (same_numbers (map number_of ys) (map number_of ds)) as (λ c. same_numbers (map number_of ys) (map number_of ds) ≡ c → HasOrder info) [
        | true ↦ λ test. record {
          how = complement_of kind;
          first = ys;
          second = xs;
          pieces = ap pieces test;
          fine = h.fine.y;
          other = h.fine.x;
          made = λ v.
              made_is (compared_by (complement_of kind) info v) v ds ys xs h.y_ordered h.x_ordered (ap (λ u. moved u ds xs) (moved_own v ds ys h.fine.y test))
              ∙ ap (λ c. put_all v ds (values_in v (if c then ys else xs))) (complement_holds kind (reg v.ints a) (reg v.ints b))
              ∙ ap (λ ss. put_all v ds (values_in v ss)) (elim (compared_by kind info v) as (λ c. (if not c then ys else xs) ≡ (if c then xs else ys)) [ true ↦ refl | false ↦ refl ]);
        }
        | false ↦ λ test. record { how = kind; first = xs; second = ys; pieces = ap pieces test; fine = h.fine.x; other = h.fine.y; made = λ v. made_is (compared_by kind info v) v ds xs ys h.x_ordered h.y_ordered (h.over test v) }
      ]) refl

  -- the pieces in that order
  abbrev pub ordered : List Piece
  ordered = choice_pieces ds order_of.first order_of.second order_of.how (number_of info.condition.rs1) (number_of info.condition.rs2)

  compared_same : (v w : FullValues) → values_in v (info.condition.rs1 ∷ info.condition.rs2 ∷ []) ≡ values_in w (info.condition.rs1 ∷ info.condition.rs2 ∷ []) → (how : IntCC) → compared_by how info v ≡ compared_by how info w
  compared_same v w e how =
      let one : (r : Reg) → IsIntRegister r → value_of v r ≡ value_of w r → reg v.ints (number_of r) ≡ reg w.ints (number_of r) = λ r int e. subst (λ c. value_in c v (number_of r) ≡ value_in c w (number_of r)) (int_class r int) e in
      λ i. holds how (one info.condition.rs1 h.fine.rs1 (ap (λ ns. slice_index ns 0) e) i) (one info.condition.rs2 h.fine.rs2 (ap (λ ns. slice_index ns 1) e) i)

  pub chosen_same : (v w : FullValues) → AreValues v.ints → AreValues w.ints → SameFull v w → SameFull (chosen info v) (chosen info w)
  chosen_same v w hv hw same =
      subst (λ c. SameFull (chosen info v) (put_all w ds (values_in w (if c then xs else ys)))) (compared_same v w (values_same v w (info.condition.rs1 ∷ info.condition.rs2 ∷ []) h.compared_free same) info.condition.kind)
      (elim (compared_by info.condition.kind info v) as (λ c. SameFull (put_all v ds (values_in v (if c then xs else ys))) (put_all w ds (values_in w (if c then xs else ys))))
      [ true ↦ all_same v w ds xs h.fine.x h.results h.x_free hv hw same | false ↦ all_same v w ds ys h.fine.y h.results h.y_free hv hw same ])

  pub chosen_fits : (v : FullValues) → AreValues v.ints → AreValues (chosen info v).ints
  chosen_fits v hv = elim (compared_by info.condition.kind info v) as (λ c. AreValues (put_all v ds (values_in v (if c then xs else ys))).ints) [ true ↦ all_fit v v ds xs h.fine.x h.results hv hv | false ↦ all_fit v v ds ys h.fine.y h.results hv hv ]

  -- Its pieces, on a machine that comes by a piece of integers where this leads, and by the copy of a floating-point register, where that is
  -- allowed, where the copy leads.
  module _ (env : Environment) (Allowed : RegClass → Type 0) (Comes : List Piece → FullValues → Type 0) (lifts : (ps qs : List Piece) (v : FullValues) (w : Values) → next env ordered ps v.ints [] ≡
      Some (point qs w) → Comes qs (with_ints w v) → Comes ps v) (copies : (rd rs : ℕ) (ps : List Piece) (v : FullValues) → Allowed Float → Comes ps (put_in Float v rd (value_in Float v rs)) → Comes (Do (Copy D rd rs) ∷ ps) v) where
    -- one move, by whether it is one to itself
    one_comes : (class : RegClass) (rd rs : ℕ) (ps : List Piece) (v : FullValues) (own : Bool) → Allowed class → is_movable class (canonical_type class) ≡ true → AreValues v.ints → nat_eq rd rs ≡ own → Comes ps (put_in class v rd (value_in class v rs)) →
        Comes ((if own then [] else Do (move_action class (canonical_type class) rd rs) ∷ []) ++ ps) v
    one_comes class rd rs ps v true allowed typed hv test on = subst (Comes ps) (ap (λ n. put_in class v rd (value_in class v n)) (sym (eqb-true rd rs test)) ∙ put_own class v rd) on
    one_comes Int rd rs ps v false allowed typed hv test on = lifts (Do (Rri Addi rd rs (pos 0)) ∷ ps) ps v (set_reg v.ints rd (alu_rri Addi (reg v.ints rs) (pos 0))) refl (subst (λ x. Comes ps (put_in Int v rd x)) (sym (plus_none (reg v.ints rs) (hv.fits rs))) on)
    one_comes Float rd rs ps v false allowed typed hv test on = copies rd rs ps v allowed on
    one_comes Vector rd rs ps v false allowed typed hv test on = absurd (cc)

    moves_come : (to sources : List Reg) (more : List Piece) (v : FullValues) → AreMoves to sources → AreFree to → AreAllowed Allowed to → AreValues v.ints → (AreValues (moved v to sources).ints → Comes more (moved v to sources)) → Comes (moves_then to sources more) v
    moves_come (rd ∷ rds) (rs ∷ sources) more v fine free allowed hv on =
        one_comes (class_of rd) (number_of rd) (number_of rs) (moves_then rds sources more) v (nat_eq (number_of rd) (number_of rs)) allowed.0 fine.0.typed hv refl
        (subst (λ c. Comes (moves_then rds sources more) (put_to v rd (value_in c v (number_of rs)))) fine.0.class (moves_come rds sources more (put_to v rd (value_of v rs)) fine.1 free.1 allowed.1 (put_moved_fits rd rs v v fine.0.class free.0 hv hv) on))
    moves_come to sources more v fine free allowed hv on = on hv

    pub choice_comes : (v : FullValues) → AreAllowed Allowed ds → AreValues v.ints → Comes [] (chosen info v) → Comes ordered v
    choice_comes v allowed hv on =
        let o = order_of in
        let last = moves_then ds o.second (Bind 0 ∷ []) in
        let rest = Branch o.how (number_of info.condition.rs1) (number_of info.condition.rs2) 0 ∷ last in
        let w = moved v ds o.first in
        lifts ordered (moves_then ds o.first rest) v v.ints refl (moves_come ds o.first rest v o.fine h.results allowed hv (λ hw.
        (elim (compared_by o.how info v) as (λ c. compared_by o.how info w ≡ c → Comes [] (made_by c v ds o.first o.second) → Comes rest w) [
          | true ↦ λ test on. lifts rest [] w w.ints (λ i. if test i then to ((moves_after ds o.first rest ∙ moves_after ds o.second (Bind 0 ∷ [])) i) w.ints [] else Some (point last w.ints)) on
          | false ↦ λ test on. lifts rest last w w.ints (ap (λ c. if c then to (after 0 ordered) w.ints [] else Some (point last w.ints)) test)
              (moves_come ds o.second (Bind 0 ∷ []) w o.other h.results allowed hw (λ all. lifts (Bind 0 ∷ []) [] (moved w ds o.second) (moved w ds o.second).ints refl on))
        ]) (compared_same w v (reads_moved v ds o.first (info.condition.rs1 ∷ info.condition.rs2 ∷ []) h.compared_apart) o.how) (subst (Comes []) (sym (o.made v)) on)))

-- ---- registers of a choice that breaks no rule

are_free : (rs : List Reg) → list_any is_virtual rs ≡ false → list_any is_reserved rs ≡ false → AreFree rs
are_free [] real free = tt
are_free (r ∷ rs) real free =
    let reals = or_parts (is_virtual r) (list_any is_virtual rs) real in
    let frees = or_parts (is_reserved r) (list_any is_reserved rs) free in
    ((reals.0, one r reals.0 frees.0), are_free rs reals.1 frees.1)
  where
    one : (r : Reg) → is_virtual r ≡ false → is_reserved r ≡ false → IsUsableIn (class_of r) (number_of r)
    one (AVirtual class index) real free = absurd (cc)
    one (Real p) real free = (elim p.class as (λ c. (is_int_class c && nat_le 30 p.number) ≡ false → IsUsableIn c p.number) [ Int ↦ below_30 p.number | _ ↦ λ e. p.in_file ]) free

one_apart : (r s : Reg) → is_virtual r ≡ false → is_virtual s ≡ false → same_register r s ≡ false → Apart (class_of r) (number_of r) (class_of s) (number_of s)
one_apart (AVirtual class index) s real other e = absurd (cc)
one_apart (Real p) (AVirtual class index) real other e = absurd (cc)
one_apart (Real p) (Real q) real other e = λ same.
    let class : same_class p.class q.class ≡ true = subst (λ c. same_class p.class c ≡ true) same (elim p.class as (λ c. same_class c c ≡ true) [ Int ↦ refl | _ ↦ refl ]) in
    let apart : nat_eq p.number q.number ≡ false = ap (λ c. c && nat_eq p.number q.number) (sym class) ∙ e in
    grind (arith, nat_tests)

is_apart : (r : Reg) (ss : List Reg) → IsFree r → AreFree ss → is_one_of r ss ≡ false → IsApart r ss
is_apart r [] free others e = tt
is_apart r (s ∷ ss) free others e = let parts = or_parts (same_register r s) (is_one_of r ss) e in (one_apart r s free.0 others.0.0 parts.0, is_apart r ss free others.1 parts.1)

-- a value that isn't in the result is in another register
other_number : (r s : Reg) → same_numbers (number_of s ∷ []) (number_of r ∷ []) ≡ false → class_of s ≡ class_of r → Apart (class_of r) (number_of r) (class_of s) (number_of s)
other_number r s e class same = grind (arith, nat_tests)

pub is_fair : (dst : ValueRegs (Writable Reg)) (condition : IntegerCompare) (x y : ValueRegs Reg) → Keeps (Select (record { dst = dst; condition = condition; x = x; y = y })) → IsFairChoice (record { dst = dst; condition = condition; x = x; y = y })
is_fair (One r) condition (One a) (One b) k =
    let all = are_free (r.reg ∷ condition.rs1 ∷ condition.rs2 ∷ a ∷ b ∷ []) k.real k.free in
    search (rules, (select_fine (One r) condition (One a) (One b) k), all, (is_apart r.reg (condition.rs1 ∷ condition.rs2 ∷ []) all.0 (all.1.0, (all.1.1.0, tt)) k.apart), moved_over, other_number)
is_fair (Two r s) condition (Two a b) (Two e f) k =
    let inputs = condition.rs1 ∷ condition.rs2 ∷ a ∷ b ∷ e ∷ f ∷ [] in
    let all = are_free (r.reg ∷ s.reg ∷ inputs) k.real k.free in
    let clashes = or_parts (is_one_of r.reg (s.reg ∷ inputs)) _ k.apart in
    search (rules, (select_fine (Two r s) condition (Two a b) (Two e f) k), all, (is_apart r.reg (s.reg ∷ inputs) all.0 all.1 clashes.0), (is_apart s.reg inputs all.1.0 all.1.1 (or_parts (is_one_of s.reg inputs) _ clashes.1).0), moved_over) depth 8
is_fair dst condition x y k = absurd (cc)

-- ---- the instruction

moves_range : (rds sources : List Reg) (more : List Piece) → AreInRange more → AreInRange (moves_then rds sources more)
moves_range (rd ∷ rds) (rs ∷ sources) more range =
    elim (nat_eq (number_of rd) (number_of rs)) as (λ own. AreInRange ((if own then [] else (Do (move_action (class_of rd) (canonical_type (class_of rd)) (number_of rd) (number_of rs))) ∷ []) ++ moves_then rds sources more))
    [ true ↦ moves_range rds sources more range | false ↦ (elim (class_of rd) as (λ c. IsInRange (move_action c (canonical_type (class_of rd)) (number_of rd) (number_of rs))) [ Float ↦ number_below rd | _ ↦ (number_below rd, refl, lit< tt) ], moves_range rds sources more range) ]
moves_range rds sources more range = range

pub choice_range : (rds first second : List Reg) (how : IntCC) (a b : ℕ) → AreInRange (choice_pieces rds first second how a b)
choice_range rds first second how a b = moves_range rds first _ (moves_range rds second (Bind 0 ∷ []) tt)

pub full_select : {site : Site} (setting : EmitVState) (info : SelectInfo) {start after : ℕ} {v : FullValues} {b : FullState} → Keeps (Select info) → Enters site start after (parts_of site.context setting (Select info)) b.state v.ints → v.units ≡ b.units → IsFullState b → FullComesOut site after [] (chosen info v) [] b
full_select {site} setting info {start} {after} {v} {b} k e units is_state =
    let h = is_fair info.dst info.condition info.x info.y k in
    let o = order_of info h in
    let w = values_of b in
    let whole = ordered info h in
    let slots = λ (ps : List Piece). slots_of site.context.flags ps in
    let ends : start + size_of (slots whole) ≡ after = subst (λ ps. start + size_of (slots ps) ≡ after) o.pieces e.stands.2 in
    let long = pieces_long site.context.flags whole in
    let stand : StandIn site e.stands.0 start after whole = record { stand = subst (λ ps. StandsIn site e.stands.0 start (slots ps)) o.pieces e.stands.1; even = e.even; ends = omega arith; room = e.within; ranges = choice_range (written_in info.dst) o.first o.second o.how _ _; bounds = inr (record { short = e.short; labels = e.labels }) } in
    let c = choice_comes info h (environment site start after) (λ c. Unit {0}) (λ ps u. (x : FullState) → IsAtPieces site e.stands.0 start after ps u x → ComesToPieces site e.stands.0 start after [] (chosen info w) x)
    (λ ps qs u z step on x at. more_steps (piece_lifts start after whole stand ps qs z step at) on) (λ rd rs ps u allowed on x at. more_steps (piece_copies rd rs ps at) on) w (all_allowed (written_in info.dst)) e.is_state.values (λ x at. no_steps at) b (record {
      ints = record { offset = start; within = omega arith; here = record { even = e.even; room = omega arith; placed = e.placed; pc = e.pc }; stand = stand; is_state = e.is_state; values = refl };
      units = refl;
      are_units = is_state.units;
    }) in
    let p = c.there.ints in
    let made = chosen_same info h v w e.are_values e.is_state.values (record { ints = e.same; units = units }) in
    record {
      steps = c.steps;
      state = c.state;
      ran = c.ran;
      pc = let pc = p.here.pc in let ends = p.stand.ends in omega arith;
      same = record { ints = same_but [] (subst (Same (chosen info v).ints) (sym p.values) made.ints); units = made.units ∙ sym c.there.units };
      are_values = chosen_fits info h v e.are_values;
      is_state = record { state = p.is_state; units = c.there.are_units; answers = subst (AllByRecursion AnswerFits) c.answers is_state.answers };
      answers = c.answers;
      setting = c.setting;
      placed = p.here.placed;
    }
