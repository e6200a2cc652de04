-- "A", Atomic Instructions: load-reserved, store-conditional and the read-modify-write operations; and "Zicsr" of frm.
use Rattle.std.specs.Prelude.{ℕ, ◌+◌, ◌-◌, ◌%◌, nat_eq, Bool, false, if◌then◌else◌, ◌&&◌, max, min, bit_and, bit_or, bit_xor, take, unwrap_or, Option, Some, None}
use Rattle.std.specs.Int.{to_le_bytes}
use mir.Syntax.{w64}
use Rattle.rv_machine.specs.declared.decoding.Decoded.{Decoded}
use Rattle.rv_machine.specs.declared.ops.AtomicOp.{AtomicOp}
use Rattle.rv_machine.specs.declared.ops.AtomicOp.TheVariants.{Lr, Sc, Amoswap, Amoadd, Amoxor, Amoand, Amoor, Amomin, Amomax, Amominu, Amomaxu}
use Rattle.rv_machine.specs.declared.ops.AtomicWidth.{AtomicWidth}
use Rattle.rv_machine.specs.declared.ops.AtomicWidth.TheVariants.{W, D}
use Rattle.rv_machine.specs.declared.ops.CsrOp.{CsrOp}
use Rattle.rv_machine.specs.declared.ops.CsrOp.TheVariants.{Csrrw, Csrrs, Csrrc, Csrrwi, Csrrsi, Csrrci}
use Rattle.rv_machine.specs.declared.ops.LoadOp.TheVariants.{Lw, Ld}
use Rattle.rv_machine.specs.State.{Memory, store, wrap}
use Rattle.rv_machine.specs.Memory.{load_result}
use Rattle.rv_machine.specs.Arithmetic.{signed_below, extend_word}
use Rattle.rv_full.specs.declared.units.Reservation.{Reservation}
use Rattle.rv_full.specs.Units.{FullValues, set_reserved, set_frm}
use Rattle.rv_full.specs.Rows.{Row, Does, Takes, Whether, success_of, x_of, y_of, put_x, put_units, put_memory}

-- ---- "A"

abbrev pub width_bytes : AtomicWidth → ℕ
width_bytes W = 4
width_bytes D = 8

-- the number at an address; that of a word is sign-extended
abbrev pub number_at : AtomicWidth → Memory → ℕ → ℕ
number_at W mem at = load_result Lw mem at
number_at D mem at = load_result Ld mem at

-- the part of a register that counts, likewise
abbrev pub operand : AtomicWidth → ℕ → ℕ
operand W y = extend_word y
operand D y = y

-- the low bytes of a number at an address
abbrev pub number_put : AtomicWidth → ℕ → Memory → ℕ → Memory
number_put width x mem at = store mem at (take (width_bytes width) (to_le_bytes w64 x))

-- the number at the address of rs1
abbrev pub old_of : AtomicWidth → Decoded → FullValues → ℕ
old_of width d v = number_at width v.ints.mem (x_of d v)

-- the bytes at the address of rs1
abbrev pub reservation_of : AtomicWidth → Decoded → FullValues → Reservation
reservation_of width d v = record { address = x_of d v; size = width_bytes width }

-- whether those are reserved
abbrev pub has_reserved : Option Reservation → Reservation → Bool
has_reserved None own = false
has_reserved (Some r) own = nat_eq r.address own.address && nat_eq r.size own.size

-- a store-conditional stores where it may and the bytes are still reserved, and ends the reservation in any case
abbrev pub conditional : AtomicWidth → Decoded → FullValues → Bool → FullValues
conditional width d v goes_through =
    put_units (set_reserved v.units None)
    (if goes_through && has_reserved v.units.reserved (reservation_of width d v) then put_x d 0 (put_memory (number_put width (y_of d v) v.ints.mem (x_of d v)) v) else put_x d 1 v)

-- the old number goes to rd, and a new one to where it stood
abbrev pub exchange : AtomicWidth → Decoded → FullValues → ℕ → FullValues
exchange width d v new = put_x d (old_of width d v) (put_memory (number_put width new v.ints.mem (x_of d v)) v)

-- the new number of a read-modify-write operation, of the old one and rs2
abbrev pub amo_result : AtomicOp → ℕ → ℕ → ℕ
amo_result Lr x y = x
amo_result Sc x y = x
amo_result Amoswap x y = y
amo_result Amoadd x y = wrap (x + y)
amo_result Amoxor x y = bit_xor x y
amo_result Amoand x y = bit_and x y
amo_result Amoor x y = bit_or x y
amo_result Amomin x y = if signed_below x y then x else y
amo_result Amomax x y = if signed_below x y then y else x
amo_result Amominu x y = min x y
amo_result Amomaxu x y = max x y

abbrev pub amo_row : AtomicOp → AtomicWidth → Decoded → FullValues → Row
amo_row op width d v = Does (exchange width d v (amo_result op (old_of width d v) (operand width (y_of d v))))

abbrev pub lr_row : AtomicWidth → Decoded → FullValues → Row
lr_row width d v = Does (put_units (set_reserved v.units (Some (reservation_of width d v))) (put_x d (old_of width d v) v))

abbrev pub sc_row : AtomicWidth → Decoded → FullValues → Row
sc_row width d v = Takes Whether (λ answer. conditional width d v (unwrap_or (success_of answer) false))

abbrev pub atomic_row : AtomicOp → AtomicWidth → Decoded → FullValues → Row
atomic_row Lr width d v = lr_row width d v
atomic_row Sc width d v = sc_row width d v
atomic_row Amoswap width d v = amo_row Amoswap width d v
atomic_row Amoadd width d v = amo_row Amoadd width d v
atomic_row Amoxor width d v = amo_row Amoxor width d v
atomic_row Amoand width d v = amo_row Amoand width d v
atomic_row Amoor width d v = amo_row Amoor width d v
atomic_row Amomin width d v = amo_row Amomin width d v
atomic_row Amomax width d v = amo_row Amomax width d v
atomic_row Amominu width d v = amo_row Amominu width d v
atomic_row Amomaxu width d v = amo_row Amomaxu width d v

-- ---- "Zicsr"

-- what goes to frm, of its old value and a source: the low three bits
abbrev pub csr_result : CsrOp → ℕ → ℕ → ℕ → ℕ
csr_result Csrrw old x imm = x % 8
csr_result Csrrs old x imm = bit_or old (x % 8)
csr_result Csrrc old x imm = bit_and old (7 - x % 8)
csr_result Csrrwi old x imm = imm % 8
csr_result Csrrsi old x imm = bit_or old (imm % 8)
csr_result Csrrci old x imm = bit_and old (7 - imm % 8)

-- the old value goes to rd; the immediate stands in the field of rs1
abbrev pub csr_row : CsrOp → Decoded → FullValues → Row
csr_row op d v = Does (put_units (set_frm v.units (csr_result op v.units.frm (x_of d v) d.rs1)) (put_x d v.units.frm v))
