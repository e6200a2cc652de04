-- The derived equality of registers is that of their values.
use Rattle.std.proofs.Common.{◌≡◌, ◌↔◌, IsTrue, ℕ, ◌<◌, ◌≤◌, ap, subst, rules}
use Rattle.std.proofs.Math.Bridge.{le_prop}
use Rattle.rv_base.specs.declared.regs.RegClass.{RegClass}
use Rattle.rv_base.specs.declared.regs.RegClass.TheVariants.{Int}
use Rattle.rv_base.specs.declared.regs.PReg.{PReg}
use Rattle.rv_base.specs.declared.regs.VirtualIndex.{VirtualIndex}
use Rattle.rv_base.specs.declared.regs.Reg.{Reg}
use Rattle.rv_base.specs.declared.regs.Reg.TheVariants.{Real, Virtual}
use Rattle.rv_base.specs.Regs.{IsReal, int_reg}
use Rattle.rv_base.specs.contracts.regs.RegClassPartialEq.TheImpl as class_impl
use Rattle.rv_base.specs.contracts.regs.PRegPartialEq.TheImpl as preg_impl
use Rattle.rv_base.specs.contracts.regs.VirtualIndexPartialEq.TheImpl as index_impl
use Rattle.rv_base.specs.contracts.regs.RegPartialEq.TheImpl as reg_impl

same_class : (a b : RegClass) → IsTrue ((class_impl.ghosts).eq a b) → a ≡ b
same_class a b e = search rules

abbrev preg : RegClass → (number : ℕ) → number < 32 → PReg
preg class number in_file = record { class = class; number = number; in_file = in_file }

preg_from_fields : (a b : PReg) → a.class ≡ b.class → a.number ≡ b.number → a ≡ b
preg_from_fields a b class number =
    let at_number : ℕ → Type 0 = λ n. (h : n < 32) → a ≡ preg a.class n h in
    let at_class : RegClass → Type 0 = λ c. (h : b.number < 32) → a ≡ preg c b.number h in
    subst at_class class (subst at_number number (λ h. ap (λ x. preg a.class a.number x) (le_prop a.in_file h))) b.in_file

same_preg : (a b : PReg) → IsTrue ((preg_impl.ghosts).eq a b) → a ≡ b
same_preg a b e =
    let class : a.class ≡ b.class = search rules in
    let number : a.number ≡ b.number = search rules in
    preg_from_fields a b class number

abbrev virtual_index : (value : ℕ) → 192 ≤ value → value < 2097152 → VirtualIndex
virtual_index value low high = record { value = value; low = low; high = high }

same_index : (a b : VirtualIndex) → IsTrue ((index_impl.ghosts).eq a b) → a ≡ b
same_index a b e =
    let at_value : ℕ → Type 0 = λ n. (l : 192 ≤ n) (h : n < 2097152) → a ≡ virtual_index n l h in
    let value : a.value ≡ b.value = search rules in
    subst at_value value (λ l h. (λ i. virtual_index a.value (le_prop a.low l i) (le_prop a.high h i))) b.low b.high

-- equal by the derived test, so the same
pub same_reg : (a b : Reg) → IsTrue ((reg_impl.ghosts).eq a b) → a ≡ b
same_reg (Real a) (Real b) e = ap (λ p. Real p) (same_preg a b (search rules))
same_reg (Real a) (Virtual class b) e = absurd (search rules)
same_reg (Virtual class a) (Real b) e = absurd (search rules)
same_reg (Virtual c a) (Virtual d b) e =
    let class : c ≡ d = search rules in
    subst (λ x. Virtual c a ≡ Virtual x b) class (ap (λ i. Virtual c i) (same_index a b (search rules)))

-- a register is equal to itself by the derived test
pub eq_self : (a : Reg) → IsTrue ((reg_impl.ghosts).eq a a)
eq_self (Real p) = search rules
eq_self (Virtual class index) = search rules

-- the derived test tells whether two registers are the same
pub same_both_ways : (a b : Reg) → IsTrue ((reg_impl.ghosts).eq a b) ↔ (a ≡ b)
same_both_ways a b =
    let is_equal : Reg → Type 0 = λ r. IsTrue ((reg_impl.ghosts).eq a r) in
    (same_reg a b, λ same. subst is_equal same (eq_self a))

-- a real integer register of a number is the one that specs name
pub int_reg_is : (r : Reg) (number : ℕ) (in_file : number < 32) → IsReal r Int number → r ≡ int_reg number in_file
int_reg_is (Real p) number in_file is = ap (λ q. Real q) (preg_from_fields p (preg Int number in_file) is.0 is.1)
int_reg_is (Virtual class index) number in_file is = absurd is
