-- "RV32/64G Instruction Set Listings" and the listings of the chapters "Zicond" and "B": the operation that the funct
-- fields of a word name, one a line, each extension's in the manual's order.
use Rattle.std.specs.Prelude.{ℕ, ◌==◌, ◌&&◌, if◌then◌else◌, Option, Some, None}
use Rattle.rv_machine.specs.declared.ops.AluOp.{AluOp}
use Rattle.rv_machine.specs.declared.ops.AluOp.TheVariants.{Int, Mul, Bit}
use Rattle.rv_machine.specs.declared.ops.BaseOp.{BaseOp}
use Rattle.rv_machine.specs.declared.ops.BaseOp.TheVariants.{Beq, Bne, Blt, Bge, Bltu, Bgeu}
use Rattle.rv_machine.specs.declared.ops.LoadOp.{LoadOp}
use Rattle.rv_machine.specs.declared.ops.LoadOp.TheVariants.{Lb, Lh, Lw, Lbu, Lhu, Lwu, Ld}
use Rattle.rv_machine.specs.declared.ops.StoreOp.{StoreOp}
use Rattle.rv_machine.specs.declared.ops.StoreOp.TheVariants.{Sb, Sh, Sw, Sd}
use Rattle.rv_machine.specs.declared.ops.IntOp.TheVariants.{Addi, Slti, Sltiu, Xori, Ori, Andi, Slli, Srli, Srai, Add, Sub, Sll, Slt, Sltu, Xor, Srl, Sra, Or, And, Addiw, Slliw, Srliw, Sraiw, Addw, Subw, Sllw, Srlw, Sraw, CzeroEqz, CzeroNez}
use Rattle.rv_machine.specs.declared.ops.MulOp.TheVariants.{Mul, Mulh, Mulhsu, Mulhu, Div, Divu, Rem, Remu, Mulw, Divw, Divuw, Remw, Remuw}
use Rattle.rv_machine.specs.declared.ops.BitOp.TheVariants.{AddUw, Sh1add, Sh2add, Sh3add, Sh1addUw, Sh2addUw, Sh3addUw, SlliUw, Andn, Orn, Xnor, Clz, Clzw, Ctz, Ctzw, Cpop, Cpopw, Max, Maxu, Min, Minu, SextB, SextH, ZextH, Rol, Rolw, Ror, Rori, Roriw, Rorw, OrcB, Rev8, Bclr, Bclri, Bext, Bexti, Binv, Binvi, Bset, Bseti}

-- BRANCH
abbrev pub branch_entry : ℕ → Option BaseOp
branch_entry funct3 =
    if funct3 == 0 then Some Beq else
    if funct3 == 1 then Some Bne else
    if funct3 == 4 then Some Blt else
    if funct3 == 5 then Some Bge else
    if funct3 == 6 then Some Bltu else
    if funct3 == 7 then Some Bgeu else
    None

-- LOAD
abbrev pub load_entry : ℕ → Option LoadOp
load_entry funct3 =
    -- RV32I
    if funct3 == 0 then Some Lb else
    if funct3 == 1 then Some Lh else
    if funct3 == 2 then Some Lw else
    if funct3 == 4 then Some Lbu else
    if funct3 == 5 then Some Lhu else
    -- RV64I
    if funct3 == 6 then Some Lwu else
    if funct3 == 3 then Some Ld else
    None

-- STORE
abbrev pub store_entry : ℕ → Option StoreOp
store_entry funct3 =
    -- RV32I
    if funct3 == 0 then Some Sb else
    if funct3 == 1 then Some Sh else
    if funct3 == 2 then Some Sw else
    -- RV64I
    if funct3 == 3 then Some Sd else
    None

-- OP-IMM, with an immediate of twelve bits
abbrev pub imm_entry : ℕ → Option AluOp
imm_entry funct3 =
    if funct3 == 0 then Some (Int Addi) else
    if funct3 == 2 then Some (Int Slti) else
    if funct3 == 3 then Some (Int Sltiu) else
    if funct3 == 4 then Some (Int Xori) else
    if funct3 == 6 then Some (Int Ori) else
    if funct3 == 7 then Some (Int Andi) else
    None

-- OP-IMM-32, with an immediate of twelve bits
abbrev pub imm_32_entry : ℕ → Option AluOp
imm_32_entry funct3 =
    if funct3 == 0 then Some (Int Addiw) else
    None

-- OP-IMM, with a shift amount of six bits
abbrev pub shift_entry : ℕ → ℕ → Option AluOp
shift_entry funct6 funct3 =
    -- RV64I
    if (funct6 == 0x00) && (funct3 == 1) then Some (Int Slli) else
    if (funct6 == 0x00) && (funct3 == 5) then Some (Int Srli) else
    if (funct6 == 0x10) && (funct3 == 5) then Some (Int Srai) else
    -- Zbb
    if (funct6 == 0x18) && (funct3 == 5) then Some (Bit Rori) else
    -- Zbs
    if (funct6 == 0x12) && (funct3 == 1) then Some (Bit Bclri) else
    if (funct6 == 0x12) && (funct3 == 5) then Some (Bit Bexti) else
    if (funct6 == 0x1a) && (funct3 == 1) then Some (Bit Binvi) else
    if (funct6 == 0x0a) && (funct3 == 1) then Some (Bit Bseti) else
    None

-- OP-IMM, of one source
abbrev pub unary_entry : ℕ → ℕ → Option AluOp
unary_entry funct12 funct3 =
    -- Zbb
    if (funct12 == 0x600) && (funct3 == 1) then Some (Bit Clz) else
    if (funct12 == 0x601) && (funct3 == 1) then Some (Bit Ctz) else
    if (funct12 == 0x602) && (funct3 == 1) then Some (Bit Cpop) else
    if (funct12 == 0x604) && (funct3 == 1) then Some (Bit SextB) else
    if (funct12 == 0x605) && (funct3 == 1) then Some (Bit SextH) else
    if (funct12 == 0x287) && (funct3 == 5) then Some (Bit OrcB) else
    if (funct12 == 0x6b8) && (funct3 == 5) then Some (Bit Rev8) else
    None

-- OP-IMM-32, with a shift amount of six bits
abbrev pub long_shift_32_entry : ℕ → ℕ → Option AluOp
long_shift_32_entry funct6 funct3 =
    -- Zba
    if (funct6 == 0x02) && (funct3 == 1) then Some (Bit SlliUw) else
    None

-- OP-IMM-32, with a shift amount of five bits
abbrev pub shift_32_entry : ℕ → ℕ → Option AluOp
shift_32_entry funct7 funct3 =
    -- RV64I
    if (funct7 == 0x00) && (funct3 == 1) then Some (Int Slliw) else
    if (funct7 == 0x00) && (funct3 == 5) then Some (Int Srliw) else
    if (funct7 == 0x20) && (funct3 == 5) then Some (Int Sraiw) else
    -- Zbb
    if (funct7 == 0x30) && (funct3 == 5) then Some (Bit Roriw) else
    None

-- OP-IMM-32, of one source
abbrev pub unary_32_entry : ℕ → ℕ → Option AluOp
unary_32_entry funct12 funct3 =
    -- Zbb
    if (funct12 == 0x600) && (funct3 == 1) then Some (Bit Clzw) else
    if (funct12 == 0x601) && (funct3 == 1) then Some (Bit Ctzw) else
    if (funct12 == 0x602) && (funct3 == 1) then Some (Bit Cpopw) else
    None

-- OP
abbrev pub op_entry : ℕ → ℕ → Option AluOp
op_entry funct7 funct3 =
    -- RV64I
    if (funct7 == 0x00) && (funct3 == 0) then Some (Int Add) else
    if (funct7 == 0x20) && (funct3 == 0) then Some (Int Sub) else
    if (funct7 == 0x00) && (funct3 == 1) then Some (Int Sll) else
    if (funct7 == 0x00) && (funct3 == 2) then Some (Int Slt) else
    if (funct7 == 0x00) && (funct3 == 3) then Some (Int Sltu) else
    if (funct7 == 0x00) && (funct3 == 4) then Some (Int Xor) else
    if (funct7 == 0x00) && (funct3 == 5) then Some (Int Srl) else
    if (funct7 == 0x20) && (funct3 == 5) then Some (Int Sra) else
    if (funct7 == 0x00) && (funct3 == 6) then Some (Int Or) else
    if (funct7 == 0x00) && (funct3 == 7) then Some (Int And) else
    -- M
    if (funct7 == 0x01) && (funct3 == 0) then Some (Mul Mul) else
    if (funct7 == 0x01) && (funct3 == 1) then Some (Mul Mulh) else
    if (funct7 == 0x01) && (funct3 == 2) then Some (Mul Mulhsu) else
    if (funct7 == 0x01) && (funct3 == 3) then Some (Mul Mulhu) else
    if (funct7 == 0x01) && (funct3 == 4) then Some (Mul Div) else
    if (funct7 == 0x01) && (funct3 == 5) then Some (Mul Divu) else
    if (funct7 == 0x01) && (funct3 == 6) then Some (Mul Rem) else
    if (funct7 == 0x01) && (funct3 == 7) then Some (Mul Remu) else
    -- Zicond
    if (funct7 == 0x07) && (funct3 == 5) then Some (Int CzeroEqz) else
    if (funct7 == 0x07) && (funct3 == 7) then Some (Int CzeroNez) else
    -- Zba
    if (funct7 == 0x10) && (funct3 == 2) then Some (Bit Sh1add) else
    if (funct7 == 0x10) && (funct3 == 4) then Some (Bit Sh2add) else
    if (funct7 == 0x10) && (funct3 == 6) then Some (Bit Sh3add) else
    -- Zbb
    if (funct7 == 0x20) && (funct3 == 7) then Some (Bit Andn) else
    if (funct7 == 0x20) && (funct3 == 6) then Some (Bit Orn) else
    if (funct7 == 0x20) && (funct3 == 4) then Some (Bit Xnor) else
    if (funct7 == 0x05) && (funct3 == 6) then Some (Bit Max) else
    if (funct7 == 0x05) && (funct3 == 7) then Some (Bit Maxu) else
    if (funct7 == 0x05) && (funct3 == 4) then Some (Bit Min) else
    if (funct7 == 0x05) && (funct3 == 5) then Some (Bit Minu) else
    if (funct7 == 0x30) && (funct3 == 1) then Some (Bit Rol) else
    if (funct7 == 0x30) && (funct3 == 5) then Some (Bit Ror) else
    -- Zbs
    if (funct7 == 0x24) && (funct3 == 1) then Some (Bit Bclr) else
    if (funct7 == 0x24) && (funct3 == 5) then Some (Bit Bext) else
    if (funct7 == 0x34) && (funct3 == 1) then Some (Bit Binv) else
    if (funct7 == 0x14) && (funct3 == 1) then Some (Bit Bset) else
    None

-- OP-32
abbrev pub op_32_entry : ℕ → ℕ → Option AluOp
op_32_entry funct7 funct3 =
    -- RV64I
    if (funct7 == 0x00) && (funct3 == 0) then Some (Int Addw) else
    if (funct7 == 0x20) && (funct3 == 0) then Some (Int Subw) else
    if (funct7 == 0x00) && (funct3 == 1) then Some (Int Sllw) else
    if (funct7 == 0x00) && (funct3 == 5) then Some (Int Srlw) else
    if (funct7 == 0x20) && (funct3 == 5) then Some (Int Sraw) else
    -- M
    if (funct7 == 0x01) && (funct3 == 0) then Some (Mul Mulw) else
    if (funct7 == 0x01) && (funct3 == 4) then Some (Mul Divw) else
    if (funct7 == 0x01) && (funct3 == 5) then Some (Mul Divuw) else
    if (funct7 == 0x01) && (funct3 == 6) then Some (Mul Remw) else
    if (funct7 == 0x01) && (funct3 == 7) then Some (Mul Remuw) else
    -- Zba
    if (funct7 == 0x04) && (funct3 == 0) then Some (Bit AddUw) else
    if (funct7 == 0x10) && (funct3 == 2) then Some (Bit Sh1addUw) else
    if (funct7 == 0x10) && (funct3 == 4) then Some (Bit Sh2addUw) else
    if (funct7 == 0x10) && (funct3 == 6) then Some (Bit Sh3addUw) else
    -- Zbb
    if (funct7 == 0x30) && (funct3 == 1) then Some (Bit Rolw) else
    if (funct7 == 0x30) && (funct3 == 5) then Some (Bit Rorw) else
    None

-- OP-32, of one source
abbrev pub unary_op_32_entry : ℕ → ℕ → Option AluOp
unary_op_32_entry funct12 funct3 =
    -- Zbb
    if (funct12 == 0x080) && (funct3 == 4) then Some (Bit ZextH) else
    None
