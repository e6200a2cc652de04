-- Atomic operations (chapter "A", "Zalrsc" and "Zaamo"): the machine's operation and width of each, the fields of its word, its name and
-- its orderings; and the names of the changes that atomic loops make.
use Rattle.std.specs.Prelude.{ℕ, ◌+◌, ◌*◌, ◌^◌, ◌++◌, nat_le, Bool, true, false, if◌then◌else◌, List, codes}
use Rattle.rv_base.specs.declared.ir_type.IrType.{IrType}
use Rattle.rv_base.specs.IrType.{bits_of}
use Rattle.rv_machine.specs.declared.ops.AtomicOp.{AtomicOp}
use Rattle.rv_machine.specs.declared.ops.AtomicOp.TheVariants.{Lr, Sc, Amoswap, Amoadd, Amoxor, Amoand, Amoor, Amomin, Amomax, Amominu, Amomaxu}
use Rattle.rv_machine.specs.declared.ops.AtomicWidth.{AtomicWidth}
use Rattle.rv_machine.specs.declared.ops.AtomicWidth.TheVariants as width
use Rattle.rv_ops.specs.declared.atomic.AMO.{AMO}
use Rattle.rv_ops.specs.declared.atomic.AMO.TheVariants.{Relax, Release, Acquire, SeqCst}
use Rattle.rv_ops.specs.declared.atomic.AtomicOP.{AtomicOP}
use Rattle.rv_ops.specs.declared.atomic.AtomicOP.TheVariants.{LrW, ScW, AmoswapW, AmoaddW, AmoxorW, AmoandW, AmoorW, AmominW, AmomaxW, AmominuW, AmomaxuW, LrD, ScD, AmoswapD, AmoaddD, AmoxorD, AmoandD, AmoorD, AmominD, AmomaxD, AmominuD, AmomaxuD}
use Rattle.rv_ops.specs.declared.atomic.AtomicRmwOp.{AtomicRmwOp}
use Rattle.rv_ops.specs.declared.atomic.AtomicRmwOp.TheVariants as rmw

-- ---- orderings

-- aq and rl, bits 26 and 25 of a word
abbrev pub amo_bits : AMO → ℕ
amo_bits Relax = 0
amo_bits Release = 1
amo_bits Acquire = 2
amo_bits SeqCst = 3

abbrev pub amo_suffix : AMO → List ℕ
amo_suffix Relax = codes ""
amo_suffix Release = codes ".rl"
amo_suffix Acquire = codes ".aq"
amo_suffix SeqCst = codes ".aqrl"

-- ---- operations

-- the machine's operation
abbrev pub atomic_op : AtomicOP → AtomicOp
atomic_op LrW = Lr
atomic_op ScW = Sc
atomic_op AmoswapW = Amoswap
atomic_op AmoaddW = Amoadd
atomic_op AmoxorW = Amoxor
atomic_op AmoandW = Amoand
atomic_op AmoorW = Amoor
atomic_op AmominW = Amomin
atomic_op AmomaxW = Amomax
atomic_op AmominuW = Amominu
atomic_op AmomaxuW = Amomaxu
atomic_op LrD = Lr
atomic_op ScD = Sc
atomic_op AmoswapD = Amoswap
atomic_op AmoaddD = Amoadd
atomic_op AmoxorD = Amoxor
atomic_op AmoandD = Amoand
atomic_op AmoorD = Amoor
atomic_op AmominD = Amomin
atomic_op AmomaxD = Amomax
atomic_op AmominuD = Amominu
atomic_op AmomaxuD = Amomaxu

-- and its width
abbrev pub atomic_width : AtomicOP → AtomicWidth
atomic_width LrW = width.W
atomic_width ScW = width.W
atomic_width AmoswapW = width.W
atomic_width AmoaddW = width.W
atomic_width AmoxorW = width.W
atomic_width AmoandW = width.W
atomic_width AmoorW = width.W
atomic_width AmominW = width.W
atomic_width AmomaxW = width.W
atomic_width AmominuW = width.W
atomic_width AmomaxuW = width.W
atomic_width LrD = width.D
atomic_width ScD = width.D
atomic_width AmoswapD = width.D
atomic_width AmoaddD = width.D
atomic_width AmoxorD = width.D
atomic_width AmoandD = width.D
atomic_width AmoorD = width.D
atomic_width AmominD = width.D
atomic_width AmomaxD = width.D
atomic_width AmominuD = width.D
atomic_width AmomaxuD = width.D

-- bits 31 to 27 of the word, by the operation
abbrev pub funct5_of : AtomicOp → ℕ
funct5_of Lr = 0x02
funct5_of Sc = 0x03
funct5_of Amoswap = 0x01
funct5_of Amoadd = 0x00
funct5_of Amoxor = 0x04
funct5_of Amoand = 0x0c
funct5_of Amoor = 0x08
funct5_of Amomin = 0x10
funct5_of Amomax = 0x14
funct5_of Amominu = 0x18
funct5_of Amomaxu = 0x1c

-- bits 14 to 12, by the width
abbrev pub funct3_of : AtomicWidth → ℕ
funct3_of width.W = 2
funct3_of width.D = 3

abbrev pub stem_of : AtomicOp → List ℕ
stem_of Lr = codes "lr"
stem_of Sc = codes "sc"
stem_of Amoswap = codes "amoswap"
stem_of Amoadd = codes "amoadd"
stem_of Amoxor = codes "amoxor"
stem_of Amoand = codes "amoand"
stem_of Amoor = codes "amoor"
stem_of Amomin = codes "amomin"
stem_of Amomax = codes "amomax"
stem_of Amominu = codes "amominu"
stem_of Amomaxu = codes "amomaxu"

abbrev pub width_suffix : AtomicWidth → List ℕ
width_suffix width.W = codes ".w"
width_suffix width.D = codes ".d"

abbrev pub atomic_funct5 : AtomicOP → ℕ
atomic_funct5 op = funct5_of (atomic_op op)

abbrev pub atomic_funct3 : AtomicOP → ℕ
atomic_funct3 op = funct3_of (atomic_width op)

-- bits 31 to 25
abbrev pub atomic_funct7 : AtomicOP → AMO → ℕ
atomic_funct7 op amo = atomic_funct5 op * 2 ^ 2 + amo_bits amo

-- the mnemonic without an ordering
abbrev pub atomic_name : AtomicOP → List ℕ
atomic_name op = stem_of (atomic_op op) ++ width_suffix (atomic_width op)

-- ---- of a loop

abbrev pub is_lr : AtomicOp → Bool
is_lr Lr = true
is_lr Sc = false
is_lr Amoswap = false
is_lr Amoadd = false
is_lr Amoxor = false
is_lr Amoand = false
is_lr Amoor = false
is_lr Amomin = false
is_lr Amomax = false
is_lr Amominu = false
is_lr Amomaxu = false

abbrev pub is_load_reserved : AtomicOP → Bool
is_load_reserved op = is_lr (atomic_op op)

-- of a word for types of at most 32 bits
abbrev pub load_reserved_of : IrType → AtomicOP
load_reserved_of type = if nat_le (bits_of type) 32 then LrW else LrD

abbrev pub store_conditional_of : IrType → AtomicOP
store_conditional_of type = if nat_le (bits_of type) 32 then ScW else ScD

abbrev pub rmw_name : AtomicRmwOp → List ℕ
rmw_name rmw.Add = codes "add"
rmw_name rmw.Sub = codes "sub"
rmw_name rmw.And = codes "and"
rmw_name rmw.Nand = codes "nand"
rmw_name rmw.Or = codes "or"
rmw_name rmw.Xor = codes "xor"
rmw_name rmw.Xchg = codes "xchg"
rmw_name rmw.Umin = codes "umin"
rmw_name rmw.Umax = codes "umax"
rmw_name rmw.Smin = codes "smin"
rmw_name rmw.Smax = codes "smax"
