-- Words with the fields of an atomic operation, or of a fence, are decoded as it, whatever the flags.
use Rattle.std.proofs.Common.{◌≡◌, ℕ, ◌+◌, ◌*◌, ◌/◌, ◌%◌, ◌^◌, ◌<◌, ◌==◌, ◌&&◌, if◌then◌else◌, true, pos, Option, Some, None, refl, ap, lit<, ◌∙◌, arith}
use Rattle.std.specs.Option.{option_and_then}
use Rattle.rv_base.specs.declared.flags.IsaFlags.{IsaFlags}
use Rattle.rv_ops.specs.declared.atomic.AMO.{AMO}
use Rattle.rv_ops.specs.declared.atomic.AMO.TheVariants.{Relax, Release, Acquire, SeqCst}
use Rattle.rv_ops.specs.declared.atomic.AtomicOP.{AtomicOP}
use Rattle.rv_ops.specs.Atomic.{amo_bits, atomic_op, atomic_width, atomic_funct3, atomic_funct5, atomic_funct7, funct3_of, funct5_of}
use Rattle.rv_machine.specs.declared.decoding.Decoded.{Decoded}
use Rattle.rv_machine.specs.declared.ops.AtomicOp.{AtomicOp}
use Rattle.rv_machine.specs.declared.ops.AtomicOp.TheVariants.{Lr, Sc, Amoswap, Amoadd, Amoxor, Amoand, Amoor, Amomin, Amomax, Amominu, Amomaxu}
use Rattle.rv_machine.specs.declared.ops.AtomicWidth.{AtomicWidth}
use Rattle.rv_machine.specs.declared.ops.AtomicWidth.TheVariants as width
use Rattle.rv_machine.specs.declared.ops.BaseOp.TheVariants.{Fence}
use Rattle.rv_machine.specs.declared.ops.MOp.TheVariants.{Base, Atomic}
use Rattle.rv_machine.specs.Opcodes.{AMO as AMO_NUMBER, MISC_MEM}
use Rattle.rv_machine.specs.Layout.{bits, word_funct5, word_funct7, word_fmt}
use Rattle.rv_machine.specs.UnitTables.{atomic_entry, atomic_width_entry}
use Rattle.rv_machine.specs.UnitDecode.{only, is_source, decode_amo}
use Rattle.rv_machine.specs.Decode.{decode}
use Rattle.rv_encode.specs.Layouts.{IsIType, IsRType}
use Rattle.rv_encode.specs.Operations.{decoded, decoded_atomic, decoded_fence}
use Rattle.rv_encode.proofs.Decoding.{opcode_decodes}
use Rattle.rv_encode.proofs.FloatDecoding.{unit_decodes}

-- ---- atomic operations

two_bits : (amo : AMO) → amo_bits amo < 4
two_bits Relax = lit< tt
two_bits Release = lit< tt
two_bits Acquire = lit< tt
two_bits SeqCst = lit< tt

upper : (f n : ℕ) → n < 4 → (f * 2 ^ 2 + n) / 2 ^ 2 ≡ f
upper f n h = omega (arith, h)

lower : (f n : ℕ) → n < 4 → (f * 2 ^ 2 + n) % 2 ^ 2 ≡ n
lower f n h = omega (arith, h)

funct5_is : (w : ℕ) (op : AtomicOP) (amo : AMO) → word_funct7 w ≡ atomic_funct7 op amo → word_funct5 w ≡ atomic_funct5 op
funct5_is w op amo is = let same : word_funct5 w ≡ atomic_funct7 op amo / 2 ^ 2 = omega (arith, is) in same ∙ upper (atomic_funct5 op) (amo_bits amo) (two_bits amo)

ordering_is : (w : ℕ) (op : AtomicOP) (amo : AMO) → word_funct7 w ≡ atomic_funct7 op amo → word_fmt w ≡ amo_bits amo
ordering_is w op amo is = let same : word_fmt w ≡ atomic_funct7 op amo % 2 ^ 2 = omega (arith, is) in same ∙ lower (atomic_funct5 op) (amo_bits amo) (two_bits amo)

op_found : (op : AtomicOp) → atomic_entry (funct5_of op) ≡ Some op
op_found Lr = refl
op_found Sc = refl
op_found Amoswap = refl
op_found Amoadd = refl
op_found Amoxor = refl
op_found Amoand = refl
op_found Amoor = refl
op_found Amomin = refl
op_found Amomax = refl
op_found Amominu = refl
op_found Amomaxu = refl

width_found : (w : AtomicWidth) → atomic_width_entry (funct3_of w) ≡ Some w
width_found width.W = refl
width_found width.D = refl

-- what a word of AMO decodes to, by its fields
abbrev amo_by : ℕ → ℕ → ℕ → ℕ → AtomicOp → AtomicWidth → Option Decoded
amo_by rd rs1 rs2 fmt op width = only (is_source op rs2) (Some (decoded (Atomic op width) rd rs1 rs2 (pos fmt)))

abbrev amo_decoded : ℕ → ℕ → ℕ → ℕ → Option AtomicOp → Option AtomicWidth → Option Decoded
amo_decoded rd rs1 rs2 fmt op width = option_and_then (λ op. option_and_then (amo_by rd rs1 rs2 fmt op) width) op

pub atomic_decodes : (flags : IsaFlags) (op : AtomicOP) (amo : AMO) (w rd addr src : ℕ) → IsRType w AMO_NUMBER rd (atomic_funct3 op) addr src (atomic_funct7 op amo) → is_source (atomic_op op) src ≡ true → decode flags w ≡ Some (decoded_atomic op amo rd addr src)
atomic_decodes flags op amo w rd addr src h source =
    let fields : decode_amo w ≡ amo_decoded rd addr src (amo_bits amo) (Some (atomic_op op)) (Some (atomic_width op)) =
    λ i. amo_decoded (h.rd_is i) (h.rs1_is i) (h.rs2_is i) (ordering_is w op amo h.funct7_is i)
    ((ap atomic_entry (funct5_is w op amo h.funct7_is) ∙ op_found (atomic_op op)) i)
    ((ap atomic_width_entry h.funct3_is ∙ width_found (atomic_width op)) i) in
    unit_decodes flags w AMO_NUMBER h.opcode_is refl refl (fields ∙ ap (λ c. only c (Some (decoded_atomic op amo rd addr src))) source)

-- ---- fences

pub fence_decodes : (flags : IsaFlags) (w pred succ : ℕ) → pred < 2 ^ 4 → succ < 2 ^ 4 → IsIType w MISC_MEM 0 0 0 (16 * pred + succ) → decode flags w ≡ Some (decoded_fence pred succ)
fence_decodes flags w pred succ few_pred few_succ h =
    let imm = h.imm_is in
    let top : bits w 31 28 ≡ 0 = omega (arith, imm) in
    let low : bits w 27 20 ≡ 16 * pred + succ = omega (arith, imm) in
    opcode_decodes flags w MISC_MEM h.opcode_is refl
    (λ i. if (h.funct3_is i == 0) && (h.rd_is i == 0) && (h.rs1_is i == 0) && (top i == 0) then Some (decoded (Base Fence) 0 0 0 (pos (low i))) else None)
