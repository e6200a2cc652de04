-- A number within its range makes one value, whatever the proof of its range; a number out of it makes none.
use Rattle.std.proofs.Common.{◌≡◌, ℕ, ◌<◌, ◌≤◌, ◌⊎◌, inl, inr, ◌∙◌, ap, arith, Bool, true, false, T, ltb, leb, ℤ, pos, negsuc, ◌≤ℤ◌, ◌<ℤ◌, Option, Some, None, refl, sym, subst}
use Rattle.std.specs.Coded.{le_prop}
use Rattle.std.specs.Prelude.{MatchOption}
use lib.Dec.{T_prop, ltb→lt, lt→ltb, leb→le, le→leb}
use lib.Signed.{le_z, le_z_yes, clash_ℤ}
use borrow.Author.Tests.{le-ltb, lt-leb}
use Rattle.rv_base.specs.declared.regs.RegClass.{RegClass}
use Rattle.rv_base.specs.declared.regs.RegClass.TheVariants.{Int}
use Rattle.rv_base.specs.declared.regs.Reg.TheVariants.{Real, Virtual}
use Rattle.rv_base.specs.declared.trap.TrapCode.{TrapCode}
use Rattle.rv_base.specs.declared.trap.TrapCode.TheVariants.{StackOverflow, HeapOutOfBounds, IntegerOverflow, IntegerDivisionByZero, BadConversionToInteger, User}
use Rattle.rv_base.specs.declared.trap.UserTrap.{UserTrap}
use Rattle.rv_base.specs.Trap.{IsUserOf}
use Rattle.rv_listing.specs.Tokens.{where_true}
use Rattle.rv_listing.specs.Traps.{user_of}
use Rattle.rv_listing.specs.Registers.{real, virtual_register}
use Rattle.rv_listing.specs.Floats.{fli_of}
use Rattle.rv_listing.specs.Operands.{imm12_of, imm20_of, uimm5_of}

where_holds : {A : Type 0} (t : Bool) (f : T t → Option A) (x : Option A) → T t → ((h : T t) → x ≡ f h) → x ≡ where_true t f
where_holds true f x h same = same tt
where_holds false f x h same = absurd h

where_none : {A : Type 0} (t : Bool) (f : T t → Option A) → ((h : T t) → None ≡ f h) → None ≡ where_true t f
where_none true f none = none tt
where_none false f none = refl

where_fails : {A : Type 0} (t : Bool) (f : T t → Option A) → t ≡ false → None ≡ where_true t f
where_fails true f e = absurd (cc)
where_fails false f e = refl

pub real_is : (class : RegClass) (n : ℕ) (low : n < 32) → Some (Real (record { class = class; number = n; in_file = low })) ≡ real class n
unfolding real
real_is class n low = where_holds (ltb n 32) _ _ (lt→ltb n 32 low) (λ h. λ i. Some (Real (record { class = class; number = n; in_file = le_prop low (ltb→lt n 32 h) i })))

pub virtual_is : (n : ℕ) (low : 192 ≤ n) (high : n < 2097152) → Some (Virtual Int (record { value = n; low = low; high = high })) ≡ virtual_register n
unfolding virtual_register
virtual_is n low high = where_holds (leb 192 n) _ _ (le→leb 192 n low) (λ l. where_holds (ltb n 2097152) _ _ (lt→ltb n 2097152 high) (λ h. λ i. Some (Virtual Int (record { value = n; low = le_prop low (leb→le 192 n l) i; high = le_prop high (ltb→lt n 2097152 h) i }))))

pub virtual_high : (n : ℕ) → 2097152 ≤ n → None ≡ virtual_register n
unfolding virtual_register
virtual_high n high = where_none (leb 192 n) _ (λ l. where_fails (ltb n 2097152) _ (le-ltb n 2097152 high))

pub fli_is : (n : ℕ) (low : n < 32) → Some (record { value = n; small = low }) ≡ fli_of n
unfolding fli_of
fli_is n low = where_holds (ltb n 32) _ _ (lt→ltb n 32 low) (λ h. λ i. Some (record { value = n; small = le_prop low (ltb→lt n 32 h) i }))

pub uimm5_is : (n : ℕ) (low : n < 32) → Some (record { value = n; small = low }) ≡ uimm5_of n
unfolding uimm5_of
uimm5_is n low = where_holds (ltb n 32) _ _ (lt→ltb n 32 low) (λ h. λ i. Some (record { value = n; small = le_prop low (ltb→lt n 32 h) i }))

same_le : {a b : ℤ} (p q : a ≤ℤ b) → p ≡ q
same_le {a} {b} p q = λ i. record { le = T_prop (le_z a b) p.le q.le i }

above : (n m : ℤ) → m <ℤ n → le_z n m ≡ false
above n m over = tested (le_z n m) refl
  where
    tested : (t : Bool) → le_z n m ≡ t → t ≡ false
    tested true e = let under : n ≤ℤ m = le_z_yes (subst T (sym e) tt) in clash_ℤ over under
    tested false e = refl

pub imm12_is : (n : ℤ) (low : negsuc 2047 ≤ℤ n) (high : n ≤ℤ pos 2047) → Some (record { value = n; low = low; high = high }) ≡ imm12_of n
unfolding imm12_of
imm12_is n low high = where_holds (le_z (negsuc 2047) n) _ _ low.le (λ l. where_holds (le_z n (pos 2047)) _ _ high.le (λ h. λ i. Some (record { value = n; low = same_le low (le_z_yes l) i; high = same_le high (le_z_yes h) i })))

pub imm12_high : (n : ℤ) → pos 2047 <ℤ n → None ≡ imm12_of n
unfolding imm12_of
imm12_high n high = where_none (le_z (negsuc 2047) n) _ (λ l. where_fails (le_z n (pos 2047)) _ (above n (pos 2047) high))

pub imm20_is : (n : ℤ) (low : negsuc 524287 ≤ℤ n) (high : n ≤ℤ pos 524287) → Some (record { value = n; low = low; high = high }) ≡ imm20_of n
unfolding imm20_of
imm20_is n low high = where_holds (le_z (negsuc 524287) n) _ _ low.le (λ l. where_holds (le_z n (pos 524287)) _ _ high.le (λ h. λ i. Some (record { value = n; low = same_le low (le_z_yes l) i; high = same_le high (le_z_yes h) i })))

pub imm20_high : (n : ℤ) → pos 524287 <ℤ n → None ≡ imm20_of n
unfolding imm20_of
imm20_high n high = where_none (le_z (negsuc 524287) n) _ (λ l. where_fails (le_z n (pos 524287)) _ (above n (pos 524287) high))

pub user_itself : (trap : UserTrap) → Some (User trap) ≡ user_of trap.number
unfolding user_of
user_itself trap = where_holds (leb 1 trap.number) _ _ (le→leb 1 trap.number trap.low) (λ l. where_holds (leb trap.number 250) _ _ (le→leb trap.number 250 trap.high) (λ h. λ i. Some (User (record { number = trap.number; low = le_prop trap.low (leb→le 1 trap.number l) i; high = le_prop trap.high (leb→le trap.number 250 h) i }))))

user_zero : None ≡ user_of 0
unfolding user_of
user_zero = refl

pub user_high : (n : ℕ) → 250 < n → None ≡ user_of n
unfolding user_of
user_high n high = where_none (leb 1 n) _ (λ l. where_fails (leb n 250) _ (lt-leb n 250 high))

-- what the constructor of a user's cause makes of a number
pub user_is : (n : ℕ) (r : Option TrapCode) → n ≤ 250 → MatchOption r ((n ≡ 0) ⊎ (250 < n)) (IsUserOf n) → r ≡ user_of n
user_is n None low (inl none) = user_zero ∙ ap user_of (sym none)
user_is n None low (inr above) = absurd (omega arith)
user_is n (Some (User trap)) low same = user_itself trap ∙ ap user_of same
user_is n (Some StackOverflow) low same = absurd same
user_is n (Some HeapOutOfBounds) low same = absurd same
user_is n (Some IntegerOverflow) low same = absurd same
user_is n (Some IntegerDivisionByZero) low same = absurd same
user_is n (Some BadConversionToInteger) low same = absurd same
