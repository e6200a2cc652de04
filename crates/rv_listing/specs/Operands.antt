-- The tokens for registers, numbers, labels and symbols.
use Rattle.std.specs.Prelude.{ℕ, Bool, true, false, ◌^◌, ◌-◌, ◌&&◌, List, Option, Some, None, take, drop, if◌then◌else◌, codes, ℤ, pos, negsuc, int_le, nat_lt}
use Rattle.std.specs.Str.{bytes_eq}
use lib.Dec.{ltb→lt}
use lib.Signed.{le_z_yes}
use Rattle.rv_base.specs.declared.external_name.ExternalName.{ExternalName}
use Rattle.rv_base.specs.declared.label.MachLabel.{MachLabel}
use Rattle.rv_base.specs.declared.regs.PReg.{PReg}
use Rattle.rv_base.specs.declared.regs.Reg.{Reg}
use Rattle.rv_base.specs.declared.regs.Writable.{Writable}
use Rattle.rv_base.specs.Regs.{real_of}
use Rattle.rv_imms.specs.declared.imm12.Imm12.{Imm12}
use Rattle.rv_imms.specs.declared.imm20.Imm20.{Imm20}
use Rattle.rv_imms.specs.declared.uimm5.UImm5.{UImm5}
use Rattle.rv_inst.specs.declared.inst.CondBrTarget.{CondBrTarget}
use Rattle.rv_inst.specs.declared.inst.CondBrTarget.TheVariants as targets
use Rattle.rv_listing.specs.Tokens.{◌>>=◌, where_true, below, starts, decimal, natural, signed}
use Rattle.rv_listing.specs.Registers.{register}

unfoldable pub writable : List ℕ → Option (Writable Reg)
writable w = register w >>= λ r. Some (record { reg = r })

-- a register of the machine alone
unfoldable pub real_register : List ℕ → Option PReg
real_register w = register w >>= real_of

unfoldable pub imm12_of : ℤ → Option Imm12
imm12_of n = where_true (int_le (negsuc 2047) n) (λ low. where_true (int_le n (pos 2047)) (λ high. Some (record { value = n; low = le_z_yes low; high = le_z_yes high })))

unfoldable pub imm12 : List ℕ → Option Imm12
imm12 w = signed w >>= imm12_of

unfoldable pub imm20_of : ℤ → Option Imm20
imm20_of n = where_true (int_le (negsuc 524287) n) (λ low. where_true (int_le n (pos 524287)) (λ high. Some (record { value = n; low = le_z_yes low; high = le_z_yes high })))

unfoldable pub imm20 : List ℕ → Option Imm20
imm20 w = signed w >>= imm20_of

unfoldable pub uimm5_of : ℕ → Option UImm5
uimm5_of n = where_true (nat_lt n 32) (λ low. Some (record { value = n; small = ltb→lt n 32 low }))

-- the immediate of an operation on a control and status register: a number of five bits, without a sign
unfoldable pub uimm5 : List ℕ → Option UImm5
uimm5 w = natural w >>= uimm5_of

-- a number of 8 bits, without a sign
unfoldable pub natural_8 : List ℕ → Option ℕ
natural_8 w = natural w >>= below (2 ^ 8)

-- the same of 32 bits
unfoldable pub natural_32 : List ℕ → Option ℕ
natural_32 w = natural w >>= below (2 ^ 32)

-- L and the label's number
unfoldable pub label : List ℕ → Option MachLabel
label w = if starts 76 w then (decimal (drop 1 w) >>= below (2 ^ 32) >>= λ n. Some (record { number = n })) else None

-- userextname and the symbol's number
unfoldable pub symbol : List ℕ → Option ExternalName
symbol w = if bytes_eq (take 11 w) (codes "userextname") then (decimal (drop 11 w) >>= below (2 ^ 32) >>= λ n. Some (record { number = n })) else None

-- a label, or - for the next line
unfoldable pub target : List ℕ → Option CondBrTarget
target w = if bytes_eq w (codes "-") then Some targets.Fallthrough else label w >>= λ l. Some (targets.Label l)

-- one of two words: whether it is the first
abbrev pub either : List ℕ → List ℕ → List ℕ → Option Bool
either first second w = if bytes_eq w first then Some true else if bytes_eq w second then Some false else None

-- s where the value has a sign, and u where it has none
unfoldable pub signedness : List ℕ → Option Bool
signedness = either (codes "s") (codes "u")

-- 1 for the leading zeros, and 0 for the trailing ones
unfoldable pub leading : List ℕ → Option Bool
leading = either (codes "1") (codes "0")

-- a number of 64 bits, signed
unfoldable pub offset_of : ℤ → Option ℤ
offset_of n = if int_le (negsuc (2 ^ 63 - 1)) n && int_le n (pos (2 ^ 63 - 1)) then Some n else None

-- an offset in bytes, of either sign
unfoldable pub offset : List ℕ → Option ℤ
offset w = signed w >>= offset_of
