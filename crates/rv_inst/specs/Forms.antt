-- "C", Compressed Instructions, with its parts Zca and Zcd, and "Zcb": which instructions have a form of sixteen bits, and which form it is, as the operation
-- to which it expands. Registers are numbers, immediates signed.
use Rattle.std.specs.Prelude.{◌≡◌, ℕ, suc, ◌*◌, ◌%◌, ◌^◌, ◌==◌, nat_le, Bool, true, not, ◌&&◌, ◌||◌, if◌then◌else◌, Option, Some, None, ℤ, pos, negsuc, int_le}
use Rattle.rv_base.specs.declared.flags.IsaFlags.{IsaFlags}
use Rattle.rv_imms.specs.Bits.{low_bits}
use Rattle.rv_machine.specs.declared.decoding.Decoded.{Decoded}
use Rattle.rv_machine.specs.declared.ops.MOp.TheVariants.{Base, Load, Store, Alu, FloatLoad, FloatStore}
use Rattle.rv_machine.specs.declared.ops.BaseOp.TheVariants.{Lui, Jalr, Ebreak}
use Rattle.rv_machine.specs.declared.ops.FloatFormat.TheVariants.{D}
use Rattle.rv_machine.specs.declared.ops.LoadOp.{LoadOp}
use Rattle.rv_machine.specs.declared.ops.StoreOp.{StoreOp}
use Rattle.rv_machine.specs.declared.ops.AluOp.{AluOp}
use Rattle.rv_machine.specs.declared.ops.AluOp.TheVariants.{Int, Bit}
use Rattle.rv_machine.specs.declared.ops.IntOp.TheVariants as int
use Rattle.rv_machine.specs.declared.ops.BitOp.TheVariants as bit
use Rattle.rv_machine.specs.Compressed.{half_funct3}
use Rattle.rv_machine.specs.Layout.{bare_form, compressed}
use Rattle.rv_ops.specs.declared.compressed.CiOp.TheVariants.{CAddi16sp}
use Rattle.rv_ops.specs.Compressed.{ci_numbers}
use Rattle.rv_ops.specs.declared.alu.AluOPRRR.{AluOPRRR}
use Rattle.rv_ops.specs.declared.alu.AluOPRRI.{AluOPRRI}
use Rattle.rv_ops.specs.Operations.{RegisterForm, AddForm, EitherForm, FirstForm, MulForm, ZextWForm, rrr_operation, rrr_op}
use Rattle.rv_ops.specs.Operations.{ImmediateForm, AddiForm, OriForm, AddiwForm, SlliForm, RightShiftForm, AndiForm, NotForm, ExtendForm, rri_operation, rri_op}
use Rattle.rv_ops.specs.declared.memory.LoadOP.{LoadOP}
use Rattle.rv_ops.specs.declared.memory.LoadOP.TheVariants as loads
use Rattle.rv_ops.specs.declared.memory.StoreOP.{StoreOP}
use Rattle.rv_ops.specs.declared.memory.StoreOP.TheVariants as stores
use Rattle.rv_ops.specs.Memory.{load_size, store_size}
use Rattle.rv_inst.specs.declared.label_use.LabelUse.{LabelUse}
use Rattle.rv_inst.specs.declared.label_use.LabelUse.TheVariants.{Jal20, RVCJump}
use Rattle.rv_encode.specs.Operations.{decoded, load_op, store_op, decoded_rrr, decoded_rri, decoded_load, decoded_store}

-- ---- guards

-- the stack pointer, and the register of return addresses
abbrev pub sp : ℕ
sp = 2

abbrev pub ra : ℕ
ra = 1

-- one of the eight registers that fields of three bits name: x8 to x15, or f8 to f15
abbrev pub is_short : ℕ → Bool
is_short r = nat_le 8 r && nat_le r 15

-- either of two registers
abbrev pub is_either : ℕ → ℕ → ℕ → Bool
is_either rd rs1 rs2 = (rd == rs1) || (rd == rs2)

-- the other of two sources
abbrev pub other_source : ℕ → ℕ → ℕ → ℕ
other_source rd rs1 rs2 = if rd == rs1 then rs2 else rs1

abbrev pub is_from_to : ℤ → ℤ → ℤ → Bool
is_from_to least greatest imm = int_le least imm && int_le imm greatest

abbrev pub is_equal : ℤ → ℤ → Bool
is_equal imm number = is_from_to number number imm

-- six bits, signed
abbrev pub is_six_bits : ℤ → Bool
is_six_bits imm = is_from_to (negsuc 31) (pos 31) imm

abbrev pub is_multiple : ℕ → ℤ → Bool
is_multiple size (pos n) = n % size == 0
is_multiple size (negsuc n) = suc n % size == 0

-- a multiple of a size, by a factor from 0 to another
abbrev pub is_scaled : ℕ → ℕ → ℤ → Bool
is_scaled size most imm = is_multiple size imm && is_from_to (pos 0) (pos (most * size)) imm

-- the low six bits, which a shift takes
abbrev pub shift_amount : ℤ → ℤ
shift_amount imm = pos (low_bits (2 ^ 12) imm % 2 ^ 6)

-- a form under its guard
abbrev pub form_where : Bool → Decoded → Option Decoded
form_where guard form = if guard then Some form else None

-- ---- two registers

-- c.add
abbrev pub add_form : ℕ → ℕ → ℕ → Option Decoded
add_form rd rs1 rs2 =
    form_where (is_either rd rs1 rs2 && not (rs1 == 0) && not (rs2 == 0)) (compressed (Alu (Int int.Add)) rd rd (other_source rd rs1 rs2) (pos 0))

-- c.and, c.or, c.xor, c.addw and c.mul, which take their sources in either order
abbrev pub either_form : AluOp → ℕ → ℕ → ℕ → Option Decoded
either_form op rd rs1 rs2 = form_where (is_either rd rs1 rs2 && is_short rs1 && is_short rs2) (compressed (Alu op) rd rd (other_source rd rs1 rs2) (pos 0))

-- c.sub and c.subw
abbrev pub first_form : AluOp → ℕ → ℕ → ℕ → Option Decoded
first_form op rd rs1 rs2 = form_where ((rd == rs1) && is_short rs1 && is_short rs2) (compressed (Alu op) rd rd rs2 (pos 0))

-- c.zext.w
abbrev pub zext_w_form : ℕ → ℕ → ℕ → Option Decoded
zext_w_form rd rs1 rs2 = form_where ((rd == rs1) && is_short rs1 && (rs2 == 0)) (compressed (Alu (Bit bit.AddUw)) rd rd 0 (pos 0))

-- the form of an operation of two registers, in its way
abbrev pub register_form : IsaFlags → Option RegisterForm → AluOp → ℕ → ℕ → ℕ → Option Decoded
register_form flags None op rd rs1 rs2 = None
register_form flags (Some AddForm) op rd rs1 rs2 = add_form rd rs1 rs2
register_form flags (Some EitherForm) op rd rs1 rs2 = either_form op rd rs1 rs2
register_form flags (Some FirstForm) op rd rs1 rs2 = first_form op rd rs1 rs2
register_form flags (Some MulForm) op rd rs1 rs2 = if flags.has_zcb && flags.has_m then either_form op rd rs1 rs2 else None
register_form flags (Some ZextWForm) op rd rs1 rs2 = if flags.has_zcb && flags.has_zba then zext_w_form rd rs1 rs2 else None

abbrev pub zca_rrr : IsaFlags → AluOPRRR → ℕ → ℕ → ℕ → Option Decoded
zca_rrr flags op rd rs1 rs2 = register_form flags (rrr_operation op).short (rrr_op op) rd rs1 rs2

abbrev pub form_rrr : IsaFlags → AluOPRRR → ℕ → ℕ → ℕ → Option Decoded
form_rrr flags op rd rs1 rs2 = if flags.has_zca then zca_rrr flags op rd rs1 rs2 else None

-- ---- a register and an immediate

-- c.mv, which adds x0, for addi and ori of 0
abbrev pub is_move : ℕ → ℕ → ℤ → Bool
is_move rd rs imm = not (rd == rs) && not (rd == 0) && not (rs == 0) && is_equal imm (pos 0)

abbrev pub move_form : ℕ → ℕ → Option Decoded
move_form rd rs = Some (compressed (Alu (Int int.Add)) rd 0 rs (pos 0))

-- c.addi16sp
abbrev pub is_addi16sp : ℕ → ℕ → ℤ → Bool
is_addi16sp rd rs imm = (rd == rs) && (rs == sp) && not (is_equal imm (pos 0)) && is_multiple 16 imm && is_from_to (negsuc 511) (pos 496) imm

-- c.addi4spn
abbrev pub is_addi4spn : ℕ → ℕ → ℤ → Bool
is_addi4spn rd rs imm = is_short rd && (rs == sp) && not (is_equal imm (pos 0)) && is_scaled 4 255 imm

-- c.li
abbrev pub is_li : ℕ → ℕ → Bool
is_li rd rs = not (rd == 0) && (rs == 0)

-- c.addi
abbrev pub is_addi : ℕ → ℕ → ℤ → Bool
is_addi rd rs imm = (rd == rs) && not (rs == 0) && not (is_equal imm (pos 0))

-- Which halfword it is: c.addi16sp and c.addi of sp by one immediate expand to one operation, and differ in bits 15 to 13. The form is
-- c.addi16sp wherever that holds the immediate.
abbrev pub IsAddi16spFirst : ℕ → ℕ → ℤ → ℕ → Type 0
IsAddi16spFirst rd rs imm half = is_addi16sp rd rs imm ≡ true → half_funct3 half ≡ (ci_numbers CAddi16sp).funct3

-- so a halfword that stands for an operation is that operation's own form
abbrev pub IsOwnForm : Decoded → ℕ → Type 0
IsOwnForm d half = (rd : ℕ) (imm : ℤ) → d ≡ compressed (Alu (Int int.Addi)) rd rd 0 imm → IsAddi16spFirst rd rd imm half

abbrev pub addi_form : ℕ → ℕ → ℤ → Option Decoded
addi_form rd rs imm =
    if is_move rd rs imm then move_form rd rs else
    if is_addi16sp rd rs imm then Some (compressed (Alu (Int int.Addi)) sp sp 0 imm) else
    if is_addi4spn rd rs imm then Some (compressed (Alu (Int int.Addi)) rd sp 0 imm) else
    if is_li rd rs then form_where (is_six_bits imm) (compressed (Alu (Int int.Addi)) rd 0 0 imm) else
    if is_addi rd rs imm then form_where (is_six_bits imm) (compressed (Alu (Int int.Addi)) rd rd 0 imm) else
    None

abbrev pub ori_form : ℕ → ℕ → ℤ → Option Decoded
ori_form rd rs imm = if is_move rd rs imm then move_form rd rs else None

-- c.addiw
abbrev pub addiw_form : ℕ → ℕ → ℤ → Option Decoded
addiw_form rd rs imm = form_where ((rd == rs) && not (rs == 0) && is_six_bits imm) (compressed (Alu (Int int.Addiw)) rd rd 0 imm)

-- c.slli
abbrev pub slli_form : ℕ → ℕ → ℤ → Option Decoded
slli_form rd rs imm = form_where ((rd == rs) && not (rs == 0) && not (is_equal imm (pos 0))) (compressed (Alu (Int int.Slli)) rd rd 0 (shift_amount imm))

-- c.srli and c.srai
abbrev pub right_shift_form : AluOp → ℕ → ℕ → ℤ → Option Decoded
right_shift_form op rd rs imm = form_where ((rd == rs) && is_short rs && not (is_equal imm (pos 0))) (compressed (Alu op) rd rd 0 (shift_amount imm))

-- c.zext.b and c.andi
abbrev pub andi_form : IsaFlags → ℕ → ℕ → ℤ → Option Decoded
andi_form flags rd rs imm =
    if flags.has_zcb && (rd == rs) && is_short rs && is_equal imm (pos 255) then Some (compressed (Alu (Int int.Andi)) rd rd 0 (pos 255)) else
    if (rd == rs) && is_short rs then form_where (is_six_bits imm) (compressed (Alu (Int int.Andi)) rd rd 0 imm) else
    None

-- c.not
abbrev pub not_form : IsaFlags → ℕ → ℕ → ℤ → Option Decoded
not_form flags rd rs imm =
    form_where (flags.has_zcb && (rd == rs) && is_short rs && is_equal imm (negsuc 0)) (compressed (Alu (Int int.Xori)) rd rd 0 (negsuc 0))

-- c.sext.b, c.sext.h and c.zext.h
abbrev pub extend_form : IsaFlags → AluOp → ℕ → ℕ → ℤ → Option Decoded
extend_form flags op rd rs imm =
    form_where (flags.has_zcb && flags.has_zbb && (rd == rs) && is_short rs && is_equal imm (pos 0)) (compressed (Alu op) rd rd 0 (pos 0))

-- the form of an operation of a register and an immediate, in its way
abbrev pub immediate_form : IsaFlags → Option ImmediateForm → AluOp → ℕ → ℕ → ℤ → Option Decoded
immediate_form flags None op rd rs imm = None
immediate_form flags (Some AddiForm) op rd rs imm = addi_form rd rs imm
immediate_form flags (Some OriForm) op rd rs imm = ori_form rd rs imm
immediate_form flags (Some AddiwForm) op rd rs imm = addiw_form rd rs imm
immediate_form flags (Some SlliForm) op rd rs imm = slli_form rd rs imm
immediate_form flags (Some RightShiftForm) op rd rs imm = right_shift_form op rd rs imm
immediate_form flags (Some AndiForm) op rd rs imm = andi_form flags rd rs imm
immediate_form flags (Some NotForm) op rd rs imm = not_form flags rd rs imm
immediate_form flags (Some ExtendForm) op rd rs imm = extend_form flags op rd rs imm

abbrev pub zca_rri : IsaFlags → AluOPRRI → ℕ → ℕ → ℤ → Option Decoded
zca_rri flags op rd rs imm = immediate_form flags (rri_operation op).short (rri_op op) rd rs imm

abbrev pub form_rri : IsaFlags → AluOPRRI → ℕ → ℕ → ℤ → Option Decoded
form_rri flags op rd rs imm = if flags.has_zca then zca_rri flags op rd rs imm else None

-- ---- upper immediates, jumps by a register, and the breakpoint

-- c.lui
abbrev pub form_lui : IsaFlags → ℕ → ℤ → Option Decoded
form_lui flags rd imm =
    form_where (flags.has_zca && not (rd == 0) && not (rd == sp) && not (is_equal imm (pos 0)) && is_six_bits imm) (compressed (Base Lui) rd 0 0 imm)

-- c.jr and c.jalr
abbrev pub form_jalr : IsaFlags → ℕ → ℕ → ℤ → Option Decoded
form_jalr flags rd base offset =
    form_where (flags.has_zca && is_either rd 0 ra && not (base == 0) && is_equal offset (pos 0)) (compressed (Base Jalr) rd base 0 (pos 0))

-- c.ebreak
abbrev pub form_ebreak : IsaFlags → Option Decoded
form_ebreak flags = form_where flags.has_zca (compressed (Base Ebreak) 0 0 0 (pos 0))

-- ---- loads

abbrev pub load_form : LoadOp → ℕ → ℕ → ℤ → Decoded
load_form op rd base offset = compressed (Load op) rd base 0 offset

-- c.lwsp and c.ldsp from sp, and c.lw and c.ld from a short register
abbrev pub word_load_form : LoadOP → ℕ → ℕ → ℤ → Option Decoded
word_load_form op rd base offset =
    if base == sp then form_where (not (rd == 0) && is_scaled (load_size op) 63 offset) (load_form (load_op op) rd base offset) else
    if is_short rd && is_short base then form_where (is_scaled (load_size op) 31 offset) (load_form (load_op op) rd base offset) else
    None

-- c.lbu, c.lhu and c.lh, with so many sizes as their offset at most
abbrev pub narrow_load_form : IsaFlags → ℕ → LoadOP → ℕ → ℕ → ℤ → Option Decoded
narrow_load_form flags most op rd base offset =
    form_where (flags.has_zcb && is_short rd && is_short base && is_scaled (load_size op) most offset) (load_form (load_op op) rd base offset)

-- c.fldsp from sp, and c.fld from a short register
abbrev pub fld_form : IsaFlags → ℕ → ℕ → ℤ → Option Decoded
fld_form flags rd base offset =
    if base == sp then form_where (flags.has_zcd && is_scaled 8 63 offset) (compressed (FloatLoad D) rd base 0 offset) else
    if is_short rd && is_short base then form_where (flags.has_zcd && is_scaled 8 31 offset) (compressed (FloatLoad D) rd base 0 offset) else
    None

abbrev pub zca_load : IsaFlags → LoadOP → ℕ → ℕ → ℤ → Option Decoded
zca_load flags loads.Lb rd base offset = None
zca_load flags loads.Lh rd base offset = narrow_load_form flags 1 loads.Lh rd base offset
zca_load flags loads.Lw rd base offset = word_load_form loads.Lw rd base offset
zca_load flags loads.Lbu rd base offset = narrow_load_form flags 3 loads.Lbu rd base offset
zca_load flags loads.Lhu rd base offset = narrow_load_form flags 1 loads.Lhu rd base offset
zca_load flags loads.Lwu rd base offset = None
zca_load flags loads.Ld rd base offset = word_load_form loads.Ld rd base offset
zca_load flags loads.Flh rd base offset = None
zca_load flags loads.Flw rd base offset = None
zca_load flags loads.Fld rd base offset = fld_form flags rd base offset

abbrev pub form_load : IsaFlags → LoadOP → ℕ → ℕ → ℤ → Option Decoded
form_load flags op rd base offset = if flags.has_zca then zca_load flags op rd base offset else None

-- ---- stores

abbrev pub store_form : StoreOp → ℕ → ℕ → ℤ → Decoded
store_form op base src offset = compressed (Store op) 0 base src offset

-- c.swsp and c.sdsp to sp, and c.sw and c.sd to a short register
abbrev pub word_store_form : StoreOP → ℕ → ℕ → ℤ → Option Decoded
word_store_form op base src offset =
    if base == sp then form_where (is_scaled (store_size op) 63 offset) (store_form (store_op op) base src offset) else
    if is_short src && is_short base then form_where (is_scaled (store_size op) 31 offset) (store_form (store_op op) base src offset) else
    None

-- c.sb and c.sh, with so many sizes as their offset at most
abbrev pub narrow_store_form : IsaFlags → ℕ → StoreOP → ℕ → ℕ → ℤ → Option Decoded
narrow_store_form flags most op base src offset =
    form_where (flags.has_zcb && is_short src && is_short base && is_scaled (store_size op) most offset) (store_form (store_op op) base src offset)

-- c.fsdsp to sp, and c.fsd to a short register
abbrev pub fsd_form : IsaFlags → ℕ → ℕ → ℤ → Option Decoded
fsd_form flags base src offset =
    if base == sp then form_where (flags.has_zcd && is_scaled 8 63 offset) (compressed (FloatStore D) 0 base src offset) else
    if is_short src && is_short base then form_where (flags.has_zcd && is_scaled 8 31 offset) (compressed (FloatStore D) 0 base src offset) else
    None

abbrev pub zca_store : IsaFlags → StoreOP → ℕ → ℕ → ℤ → Option Decoded
zca_store flags stores.Sb base src offset = narrow_store_form flags 3 stores.Sb base src offset
zca_store flags stores.Sh base src offset = narrow_store_form flags 1 stores.Sh base src offset
zca_store flags stores.Sw base src offset = word_store_form stores.Sw base src offset
zca_store flags stores.Sd base src offset = word_store_form stores.Sd base src offset
zca_store flags stores.Fsh base src offset = None
zca_store flags stores.Fsw base src offset = None
zca_store flags stores.Fsd base src offset = fsd_form flags base src offset

abbrev pub form_store : IsaFlags → StoreOP → ℕ → ℕ → ℤ → Option Decoded
form_store flags op base src offset = if flags.has_zca then zca_store flags op base src offset else None

-- ---- the operation that stands in the code

-- the form where there is one, else the operation of 32 bits
abbrev pub chosen : Option Decoded → Decoded → Decoded
chosen (Some form) whole = form
chosen None whole = whole

abbrev pub short_rrr : IsaFlags → AluOPRRR → ℕ → ℕ → ℕ → Decoded
short_rrr flags op rd rs1 rs2 = chosen (form_rrr flags op rd rs1 rs2) (decoded_rrr op rd rs1 rs2)

abbrev pub short_rri : IsaFlags → AluOPRRI → ℕ → ℕ → ℤ → Decoded
short_rri flags op rd rs imm = chosen (form_rri flags op rd rs imm) (decoded_rri op rd rs imm)

abbrev pub short_lui : IsaFlags → ℕ → ℤ → Decoded
short_lui flags rd imm = chosen (form_lui flags rd imm) (decoded (Base Lui) rd 0 0 imm)

abbrev pub short_jalr : IsaFlags → ℕ → ℕ → ℤ → Decoded
short_jalr flags rd base offset = chosen (form_jalr flags rd base offset) (decoded (Base Jalr) rd base 0 offset)

abbrev pub short_ebreak : IsaFlags → Decoded
short_ebreak flags = chosen (form_ebreak flags) (bare_form (Base Ebreak))

abbrev pub short_load : IsaFlags → LoadOP → ℕ → ℕ → ℤ → Decoded
short_load flags op rd base offset = chosen (form_load flags op rd base offset) (decoded_load op rd base offset)

abbrev pub short_store : IsaFlags → StoreOP → ℕ → ℕ → ℤ → Decoded
short_store flags op base src offset = chosen (form_store flags op base src offset) (decoded_store op base src offset)

-- ---- jumps to labels

-- c.j or jal
abbrev pub jump_kind : IsaFlags → LabelUse
jump_kind flags = if flags.has_zca then RVCJump else Jal20

abbrev pub jump_size : IsaFlags → ℕ
jump_size flags = if flags.has_zca then 2 else 4
