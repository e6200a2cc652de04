-- Registers that are chosen as an instruction asks keep its rules on registers.
use Rattle.std.specs.Prelude.{◌≢◌, ◌++◌, ◌&&◌, ◌||◌, ◌==◌, not, true, false, Bool, ℕ, List, [], ◌∷◌, map, Option, Some, None}
use Rattle.std.proofs.Common.{◌≡◌, ◌<◌, ◌≤◌, refl, ap, sym, ◌∙◌, subst, arith}
use Rattle.std.proofs.Math.Bridge.{le_prop}
use Rattle.std.specs.List.{list_any}
use Rattle.std.proofs.lemmas.Grind.{flat_map-append}
use Rattle.std.proofs.lemmas.Bool.Decides.{nat_tests}
use Rattle.std.proofs.lemmas.List.{append-nil, map-append}
use Rattle.rv_base.specs.declared.call.ArgPair.{ArgPair}
use Rattle.rv_base.specs.declared.call.RetPair.{RetPair}
use Rattle.rv_base.specs.declared.call.CallArgPair.{CallArgPair}
use Rattle.rv_base.specs.declared.call.CallRetPair.{CallRetPair}
use Rattle.rv_base.specs.declared.call.RetLocation.{RetLocation}
use Rattle.rv_base.specs.declared.call.RetLocation.TheVariants.{Reg as InReg, Stack as OnStack}
use Rattle.rv_base.specs.declared.constraint.Constraint.{Constraint}
use Rattle.rv_base.specs.declared.regs.PReg.{PReg}
use Rattle.rv_base.specs.declared.regs.Reg.{Reg}
use Rattle.rv_base.specs.declared.regs.Reg.TheVariants.{Real, Virtual}
use Rattle.rv_base.specs.declared.regs.VirtualIndex.{VirtualIndex}
use Rattle.rv_base.specs.declared.regs.RegClass.{RegClass}
use Rattle.rv_base.specs.declared.regs.RegClass.TheVariants.{Int, Float, Vector}
use Rattle.rv_base.specs.Regs.{class_of, stack_pointer, frame_pointer}
use Rattle.rv_inst.specs.Operands.{location_registers}
use Rattle.rv_inst.specs.Rules.{is_int_class, is_other_class, same_class, same_register, is_one_of, is_real_x, is_stack, is_into_result, either_into, results_clash, clash, differ_in_class, location_differs, is_on_stack, is_outside, class_for}
use Rattle.rv_operands.specs.Operand.{Operand, constraint_of}
use Rattle.rv_operands.specs.Operands.{arg_operand, ret_operand, use_operand, def_operand, located_operand}
use Rattle.rv_operands.specs.Meeting.{written_by, definitions, IsApart, AreApart, AreDistinct, IsPlaced, ArePlaced, AreFree, IsOfClass, AreOfClasses}

-- ---- tests

pub either : {a b : Bool} → a ≡ false → b ≡ false → (a || b) ≡ false
either {a} {b} p q = ap (λ c. c || b) p ∙ q

pub or_none : (a : Bool) → (a || false) ≡ a
or_none true = refl
or_none false = refl

pub and_none : (a : Bool) {b : Bool} → b ≡ false → (a && b) ≡ false
and_none true q = q
and_none false q = refl

if_not_true : (a : Bool) → (a ≡ true → ⊥) → a ≡ false
if_not_true true h = absurd (h refl)
if_not_true false h = refl

both_true : (a b : Bool) → (a && b) ≡ true → (a ≡ true) × (b ≡ true)
both_true true b h = (refl, h)
both_true false b h = absurd (cc)

-- ---- the test whether two registers are the same

class_if_same : (c d : RegClass) → same_class c d ≡ true → c ≡ d
class_if_same Int Int h = refl
class_if_same Int Float h = absurd (cc)
class_if_same Int Vector h = absurd (cc)
class_if_same Float Int h = absurd (cc)
class_if_same Float Float h = refl
class_if_same Float Vector h = absurd (cc)
class_if_same Vector Int h = absurd (cc)
class_if_same Vector Float h = absurd (cc)
class_if_same Vector Vector h = refl

number_if_same : (m n : ℕ) → (m == n) ≡ true → m ≡ n
number_if_same m n h = grind (arith, nat_tests)

preg : RegClass → (number : ℕ) → number < 32 → PReg
preg class number in_file = record { class = class; number = number; in_file = in_file }

preg_by_fields : (p q : PReg) → p.class ≡ q.class → p.number ≡ q.number → p ≡ q
unfolding preg
preg_by_fields p q class number =
    let at_number : ℕ → Type 0 = λ n. (h : n < 32) → p ≡ preg p.class n h in
    let at_class : RegClass → Type 0 = λ c. (h : q.number < 32) → p ≡ preg c q.number h in
    subst at_class class (subst at_number number (λ h. ap (λ x. preg p.class p.number x) (le_prop p.in_file h))) q.in_file

virtual_index : (value : ℕ) → 192 ≤ value → value < 2097152 → VirtualIndex
virtual_index value low high = record { value = value; low = low; high = high }

index_by_value : (i j : VirtualIndex) → i.value ≡ j.value → i ≡ j
unfolding virtual_index
index_by_value i j value =
    let at_value : ℕ → Type 0 = λ n. (l : 192 ≤ n) (h : n < 2097152) → i ≡ virtual_index n l h in
    subst at_value value (λ l h. (λ k. virtual_index i.value (le_prop i.low l k) (le_prop i.high h k))) j.low j.high

equal_if_same : (r s : Reg) → same_register r s ≡ true → r ≡ s
equal_if_same (Real p) (Real q) h =
    let parts = both_true (same_class p.class q.class) (p.number == q.number) h in
    ap (λ x. Real x) (preg_by_fields p q (class_if_same p.class q.class parts.0) (number_if_same p.number q.number parts.1))
equal_if_same (Real p) (Virtual d j) h = absurd (cc)
equal_if_same (Virtual c i) (Real q) h = absurd (cc)
equal_if_same (Virtual c i) (Virtual d j) h =
    let parts = both_true (same_class c d) (i.value == j.value) h in
    ap (λ x. Virtual x i) (class_if_same c d parts.0) ∙ ap (λ x. Virtual d x) (index_by_value i j (number_if_same i.value j.value parts.1))

pub apart : (r s : Reg) → r ≢ s → same_register r s ≡ false
apart r s h = if_not_true (same_register r s) (λ e. h (equal_if_same r s e))

pub absent : (r : Reg) (rs : List Reg) → IsApart r rs → is_one_of r rs ≡ false
absent r [] h = refl
absent r (s ∷ rs) h = either (apart r s h.0) (absent r rs h.1)

apart_both : (r : Reg) (rs others : List Reg) → IsApart r rs → IsApart r others → IsApart r (rs ++ others)
apart_both r [] others h k = k
apart_both r (s ∷ rs) others h k = (h.0, apart_both r rs others h.1 k)

pub no_clash : (outputs inputs : List Reg) → AreDistinct outputs → AreApart outputs inputs → clash outputs inputs ≡ false
no_clash [] inputs d a = refl
no_clash (r ∷ outputs) inputs d a = either (absent r (outputs ++ inputs) (apart_both r outputs inputs d.0 a.0)) (no_clash outputs inputs d.1 a.1)

same_int : (c : RegClass) → same_class c Int ≡ is_int_class c
same_int Int = refl
same_int Float = refl
same_int Vector = refl

-- the stack and the frame pointer are found by their numbers
pub same_stack : (r : Reg) → same_register r stack_pointer ≡ is_stack r
same_stack (Real p) = ap (λ b. b && p.number == 2) (same_int p.class)
same_stack (Virtual c i) = refl

pub same_frame : (r : Reg) → same_register r frame_pointer ≡ is_real_x 8 r
same_frame (Real p) = ap (λ b. b && p.number == 8) (same_int p.class)
same_frame (Virtual c i) = refl

-- ---- classes

pub not_other : (r : Reg) → class_of r ≡ Int → is_other_class r ≡ false
not_other r h = ap (λ c. not (is_int_class c)) h

class_is_same : (c : RegClass) → not (same_class c c) ≡ false
class_is_same Int = refl
class_is_same Float = refl
class_is_same Vector = refl

pub alike : (c d : RegClass) → c ≡ d → not (same_class c d) ≡ false
alike c d e = ap (λ x. not (same_class x d)) e ∙ class_is_same d

-- of a list of pairs, each in its class
pub pairs_alike : {X : Type 0} (operand : X → Operand) (differs : X → Bool) → ((x : X) → IsOfClass (operand x).class (operand x).register → differs x ≡ false) → (xs : List X) → AreOfClasses (map operand xs) → list_any differs xs ≡ false
pairs_alike operand differs each [] h = refl
pairs_alike operand differs each (x ∷ xs) h = either (each x h.0) (pairs_alike operand differs each xs h.1)

pub args_alike : (args : List ArgPair) → AreOfClasses (map arg_operand args) → list_any (λ (p : ArgPair). differ_in_class p.vreg.reg p.preg) args ≡ false
args_alike = pairs_alike arg_operand (λ (p : ArgPair). differ_in_class p.vreg.reg p.preg) (λ p h. alike (class_of p.vreg.reg) (class_of p.preg) h)

pub rets_alike : (rets : List RetPair) → AreOfClasses (map ret_operand rets) → list_any (λ (p : RetPair). differ_in_class p.vreg p.preg) rets ≡ false
rets_alike = pairs_alike ret_operand (λ (p : RetPair). differ_in_class p.vreg p.preg) (λ p h. alike (class_of p.vreg) (class_of p.preg) h)

pub uses_alike : (uses : List CallArgPair) → AreOfClasses (map use_operand uses) → list_any (λ (p : CallArgPair). differ_in_class p.vreg p.preg) uses ≡ false
uses_alike = pairs_alike use_operand (λ (p : CallArgPair). differ_in_class p.vreg p.preg) (λ p h. alike (class_of p.vreg) (class_of p.preg) h)

class_at : (asked : Option RegClass) (r : Reg) → IsOfClass asked r → is_outside asked (class_of r) ≡ false
class_at None r h = refl
class_at (Some c) r h = alike (class_of r) c h

located_alike : (r : Reg) (location : RetLocation) → IsOfClass (located_operand r location).class (located_operand r location).register → location_differs r location ≡ false
located_alike r (InReg s) h = alike (class_of r) (class_of s) h
located_alike r (OnStack offset type) h = class_at (class_for type) r h

pub defs_alike : (defs : List CallRetPair) → AreOfClasses (map def_operand defs) → list_any (λ (d : CallRetPair). location_differs d.vreg.reg d.location) defs ≡ false
defs_alike = pairs_alike def_operand (λ (d : CallRetPair). location_differs d.vreg.reg d.location) (λ d h. located_alike d.vreg.reg d.location h)

pub both_classes : (a b : List Operand) → AreOfClasses (a ++ b) → AreOfClasses a × AreOfClasses b
both_classes [] b h = (tt, h)
both_classes (o ∷ a) b h = let rest = both_classes a b h.1 in ((h.0, rest.0), rest.1)

-- ---- the results of calls

abbrev pub into : CallRetPair → Reg
into d = d.vreg.reg

located_written : (r : Reg) (location : RetLocation) → written_by (constraint_of (located_operand r location)) ≡ r ∷ []
located_written r (InReg s) = refl
located_written r (OnStack offset type) = refl

defs_written : (defs : List CallRetPair) → definitions (map constraint_of (map def_operand defs)) ≡ map into defs
defs_written [] = refl
defs_written (d ∷ defs) = ap (λ l. l ++ definitions (map constraint_of (map def_operand defs))) (located_written d.vreg.reg d.location) ∙ ap (λ l. d.vreg.reg ∷ l) (defs_written defs)

uses_written : (uses : List CallArgPair) → definitions (map constraint_of (map use_operand uses)) ≡ []
uses_written [] = refl
uses_written (p ∷ uses) = uses_written uses

-- what a call writes is its results
pub call_written : (uses : List CallArgPair) (defs : List CallRetPair) (after : List Constraint) → definitions after ≡ [] → definitions (map constraint_of (map use_operand uses ++ map def_operand defs) ++ after) ≡ map into defs
call_written uses defs after none =
    flat_map-append written_by (map constraint_of (map use_operand uses ++ map def_operand defs)) after
    ∙ ap (λ l. definitions (map constraint_of (map use_operand uses ++ map def_operand defs)) ++ l) none
    ∙ append-nil (definitions (map constraint_of (map use_operand uses ++ map def_operand defs)))
    ∙ ap definitions (map-append constraint_of (map use_operand uses) (map def_operand defs))
    ∙ flat_map-append written_by (map constraint_of (map use_operand uses)) (map constraint_of (map def_operand defs))
    ∙ ap (λ l. l ++ definitions (map constraint_of (map def_operand defs))) (uses_written uses)
    ∙ defs_written defs

pub placed_after : (all a b : List Constraint) → ArePlaced all (a ++ b) → ArePlaced all b
placed_after all [] b h = h
placed_after all (request ∷ a) b h = placed_after all a b h.1

pub placed_before : (all a b : List Constraint) → ArePlaced all (a ++ b) → ArePlaced all a
placed_before all [] b h = tt
placed_before all (request ∷ a) b h = (h.0, placed_before all a b h.1)

-- of a call's requests, those of its results
pub results_placed : (all : List Constraint) (uses : List CallArgPair) (defs : List CallRetPair) (after : List Constraint) → ArePlaced all (map constraint_of (map use_operand uses ++ map def_operand defs) ++ after) → ArePlaced all (map constraint_of (map def_operand defs))
results_placed all uses defs after h =
    placed_after all (map constraint_of (map use_operand uses)) (map constraint_of (map def_operand defs))
    (subst (ArePlaced all) (map-append constraint_of (map use_operand uses) (map def_operand defs))
    (placed_before all (map constraint_of (map use_operand uses ++ map def_operand defs)) after h))

into_result : (r s : Reg) (all : List Constraint) (location : RetLocation) → r ≢ s → IsPlaced all (constraint_of (located_operand s location)) → is_one_of r (s ∷ location_registers location) ≡ false
into_result r s all (InReg t) h placed = either (apart r s h) (either (apart r t (λ e. h (e ∙ sym placed))) refl)
into_result r s all (OnStack offset type) h placed = either (apart r s h) refl

not_into : (all : List Constraint) (d other : CallRetPair) → into d ≢ into other → IsPlaced all (constraint_of (def_operand other)) → is_into_result d other ≡ false
not_into all d other h placed = and_none (is_on_stack d.location) (into_result d.vreg.reg other.vreg.reg all other.location h placed)

none_into : (all : List Constraint) (d : CallRetPair) (defs : List CallRetPair) → IsPlaced all (constraint_of (def_operand d)) → IsApart (into d) (map into defs) → ArePlaced all (map constraint_of (map def_operand defs)) → list_any (either_into d) defs ≡ false
none_into all d [] one h placed = refl
none_into all d (other ∷ defs) one h placed = either (either (not_into all d other h.0 placed.0) (not_into all other d (λ e. h.0 (sym e)) one)) (none_into all d defs one h.1 placed.1)

pub no_results_clash : (all : List Constraint) (defs : List CallRetPair) → AreDistinct (map into defs) → AreFree (map into defs) → ArePlaced all (map constraint_of (map def_operand defs)) → results_clash defs ≡ false
no_results_clash all [] distinct free placed = refl
no_results_clash all (d ∷ defs) distinct free placed = either (and_none (is_on_stack d.location) free.0.not_stack) (either (none_into all d defs placed.0 distinct.0 placed.1) (no_results_clash all defs distinct.1 free.1 placed.1))
