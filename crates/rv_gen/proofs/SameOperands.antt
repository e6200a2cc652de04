-- A number within its range makes one operand, whatever the proof of its range.
use Rattle.std.proofs.Common.{◌≡◌, ℕ, ◌+◌, ◌%◌, ◌<◌, Bool, true, false, T, ℤ, pos, negsuc, ◌-ℤ◌, ◌≤ℤ◌, ap, ◌∙◌}
use Rattle.std.specs.Prelude.{nat_lt, int_le}
use Rattle.std.specs.Coded.{le_prop}
use lib.Dec.{T_prop, lt→ltb, ltb→lt}
use lib.Signed.{le_z, le_z_yes}
use Rattle.rv_base.specs.declared.regs.Reg.{Reg}
use Rattle.rv_base.specs.Regs.{int_reg}
use Rattle.rv_imms.specs.declared.imm12.Imm12.{Imm12}
use Rattle.rv_imms.specs.declared.imm20.Imm20.{Imm20}
use Rattle.rv_gen.specs.Generated.{in_file, argument, in_range12, imm12_of, in_range20, imm20_of}

same_le : {a b : ℤ} (p q : a ≤ℤ b) → p ≡ q
same_le {a} {b} p q = λ i. record { le = T_prop (le_z a b) p.le q.le i }

in_file_is : (n : ℕ) (low : n < 32) (t : Bool) (f : T t → n < 32) → T t → int_reg n low ≡ in_file n t f
in_file_is n low true f h = λ i. int_reg n (le_prop low (f tt) i)
in_file_is n low false f h = absurd h

pub argument_is : (p : ℕ) (low : 10 + p % 6 < 32) → int_reg (10 + p % 6) low ≡ argument p
argument_is p low = in_file_is (10 + p % 6) low _ _ (lt→ltb (10 + p % 6) 32 low)

in_range12_is : (z : ℤ) (low : negsuc 2047 ≤ℤ z) (high : z ≤ℤ pos 2047) (a b : Bool) (f : T a → negsuc 2047 ≤ℤ z) (g : T b → z ≤ℤ pos 2047) → T a → T b
    → record { value = z; low = low; high = high } ≡ in_range12 z a b f g
in_range12_is z low high true true f g a b = λ i. record { value = z; low = same_le low (f tt) i; high = same_le high (g tt) i }
in_range12_is z low high true false f g a b = absurd b
in_range12_is z low high false t f g a b = absurd a

pub imm12_is : (z : ℤ) (low : negsuc 2047 ≤ℤ z) (high : z ≤ℤ pos 2047) → record { value = z; low = low; high = high } ≡ imm12_of z
imm12_is z low high = in_range12_is z low high _ _ _ _ low.le high.le

in_range20_is : (z : ℤ) (low : negsuc 524287 ≤ℤ z) (high : z ≤ℤ pos 524287) (a b : Bool) (f : T a → negsuc 524287 ≤ℤ z) (g : T b → z ≤ℤ pos 524287) → T a → T b
    → record { value = z; low = low; high = high } ≡ in_range20 z a b f g
in_range20_is z low high true true f g a b = λ i. record { value = z; low = same_le low (f tt) i; high = same_le high (g tt) i }
in_range20_is z low high true false f g a b = absurd b
in_range20_is z low high false t f g a b = absurd a

pub imm20_is : (z : ℤ) (low : negsuc 524287 ≤ℤ z) (high : z ≤ℤ pos 524287) → record { value = z; low = low; high = high } ≡ imm20_of z
imm20_is z low high = in_range20_is z low high _ _ _ _ low.le high.le
