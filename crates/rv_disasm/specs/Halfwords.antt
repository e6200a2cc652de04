-- "RVC Instruction Set Listings" of RV64 and "Zcb": the instructions of 16 bits, their mnemonics and their free fields.
use Rattle.std.specs.Prelude.{ℕ, ◌==◌, ◌&&◌, if◌then◌else◌, List, codes, Option, Some, None}
use Rattle.rv_machine.specs.Layout.{bits}
use Rattle.rv_machine.specs.Compressed.{half_op, half_funct3, half_rd, half_rs2}
use Rattle.rv_disasm.specs.declared.layouts.Layout.{Layout}
use Rattle.rv_disasm.specs.declared.layouts.Layout.TheVariants as layout
use Rattle.rv_disasm.specs.declared.halfwords.HalfOp.{HalfOp}
use Rattle.rv_disasm.specs.declared.halfwords.HalfOp.TheVariants as half

abbrev pub half_name : HalfOp → List ℕ
half_name half.Addi4spn = codes "c.addi4spn"
half_name half.Fld = codes "c.fld"
half_name half.Lw = codes "c.lw"
half_name half.Ld = codes "c.ld"
half_name half.Lbu = codes "c.lbu"
half_name half.Lhu = codes "c.lhu"
half_name half.Lh = codes "c.lh"
half_name half.Sb = codes "c.sb"
half_name half.Sh = codes "c.sh"
half_name half.Fsd = codes "c.fsd"
half_name half.Sw = codes "c.sw"
half_name half.Sd = codes "c.sd"
half_name half.Addi = codes "c.addi"
half_name half.Addiw = codes "c.addiw"
half_name half.Li = codes "c.li"
half_name half.Addi16sp = codes "c.addi16sp"
half_name half.Lui = codes "c.lui"
half_name half.Srli = codes "c.srli"
half_name half.Srai = codes "c.srai"
half_name half.Andi = codes "c.andi"
half_name half.Sub = codes "c.sub"
half_name half.Xor = codes "c.xor"
half_name half.Or = codes "c.or"
half_name half.And = codes "c.and"
half_name half.Subw = codes "c.subw"
half_name half.Addw = codes "c.addw"
half_name half.Mul = codes "c.mul"
half_name half.ZextB = codes "c.zext.b"
half_name half.SextB = codes "c.sext.b"
half_name half.ZextH = codes "c.zext.h"
half_name half.SextH = codes "c.sext.h"
half_name half.ZextW = codes "c.zext.w"
half_name half.Not = codes "c.not"
half_name half.J = codes "c.j"
half_name half.Slli = codes "c.slli"
half_name half.Fldsp = codes "c.fldsp"
half_name half.Lwsp = codes "c.lwsp"
half_name half.Ldsp = codes "c.ldsp"
half_name half.Jr = codes "c.jr"
half_name half.Mv = codes "c.mv"
half_name half.Ebreak = codes "c.ebreak"
half_name half.Jalr = codes "c.jalr"
half_name half.Add = codes "c.add"
half_name half.Fsdsp = codes "c.fsdsp"
half_name half.Swsp = codes "c.swsp"
half_name half.Sdsp = codes "c.sdsp"

abbrev pub half_layout : HalfOp → Layout
half_layout half.Addi4spn = layout.Upper
half_layout half.Fld = layout.FloatLoad
half_layout half.Lw = layout.Immediate
half_layout half.Ld = layout.Immediate
half_layout half.Lbu = layout.Immediate
half_layout half.Lhu = layout.Immediate
half_layout half.Lh = layout.Immediate
half_layout half.Sb = layout.Stored
half_layout half.Sh = layout.Stored
half_layout half.Fsd = layout.FloatStore
half_layout half.Sw = layout.Stored
half_layout half.Sd = layout.Stored
half_layout half.Addi = layout.Upper
half_layout half.Addiw = layout.Upper
half_layout half.Li = layout.Upper
half_layout half.Addi16sp = layout.Distance
half_layout half.Lui = layout.Upper
half_layout half.Srli = layout.Upper
half_layout half.Srai = layout.Upper
half_layout half.Andi = layout.Upper
half_layout half.Sub = layout.Two
half_layout half.Xor = layout.Two
half_layout half.Or = layout.Two
half_layout half.And = layout.Two
half_layout half.Subw = layout.Two
half_layout half.Addw = layout.Two
half_layout half.Mul = layout.Two
half_layout half.ZextB = layout.One
half_layout half.SextB = layout.One
half_layout half.ZextH = layout.One
half_layout half.SextH = layout.One
half_layout half.ZextW = layout.One
half_layout half.Not = layout.One
half_layout half.J = layout.Distance
half_layout half.Slli = layout.Upper
half_layout half.Fldsp = layout.FloatUpper
half_layout half.Lwsp = layout.Upper
half_layout half.Ldsp = layout.Upper
half_layout half.Jr = layout.Target
half_layout half.Mv = layout.Two
half_layout half.Ebreak = layout.None
half_layout half.Jalr = layout.Target
half_layout half.Add = layout.Two
half_layout half.Fsdsp = layout.FloatStackStore
half_layout half.Swsp = layout.StackStore
half_layout half.Sdsp = layout.StackStore

-- ---- which one a half is, by the fields that its row fixes

-- funct3 4 of quadrant 0, of Zcb: by bits 12:10, and bit 6
abbrev pub short_memory : ℕ → ℕ → Option HalfOp
short_memory selector bit =
    if selector == 0 then Some half.Lbu else
    if (selector == 1) && (bit == 0) then Some half.Lhu else
    if (selector == 1) && (bit == 1) then Some half.Lh else
    if selector == 2 then Some half.Sb else
    if (selector == 3) && (bit == 0) then Some half.Sh else
    None

abbrev pub in_quadrant_0 : ℕ → ℕ → Option HalfOp
in_quadrant_0 funct3 h =
    if funct3 == 0 then Some half.Addi4spn else
    if funct3 == 1 then Some half.Fld else
    if funct3 == 2 then Some half.Lw else
    if funct3 == 3 then Some half.Ld else
    if funct3 == 4 then short_memory (bits h 12 10) (bits h 6 6) else
    if funct3 == 5 then Some half.Fsd else
    if funct3 == 6 then Some half.Sw else
    if funct3 == 7 then Some half.Sd else
    None

-- of one source, of Zcb: by bits 4:2
abbrev pub unary : ℕ → Option HalfOp
unary selector =
    if selector == 0 then Some half.ZextB else
    if selector == 1 then Some half.SextB else
    if selector == 2 then Some half.ZextH else
    if selector == 3 then Some half.SextH else
    if selector == 4 then Some half.ZextW else
    if selector == 5 then Some half.Not else
    None

-- of two registers: by bit 12, and bits 6:5
abbrev pub of_two_registers : ℕ → ℕ → ℕ → Option HalfOp
of_two_registers bit selector h =
    if (bit == 0) && (selector == 0) then Some half.Sub else
    if (bit == 0) && (selector == 1) then Some half.Xor else
    if (bit == 0) && (selector == 2) then Some half.Or else
    if (bit == 0) && (selector == 3) then Some half.And else
    if (bit == 1) && (selector == 0) then Some half.Subw else
    if (bit == 1) && (selector == 1) then Some half.Addw else
    if (bit == 1) && (selector == 2) then Some half.Mul else
    if (bit == 1) && (selector == 3) then unary (bits h 4 2) else
    None

-- funct3 4 of quadrant 1: by bits 11:10
abbrev pub arithmetic : ℕ → ℕ → Option HalfOp
arithmetic selector h =
    if selector == 0 then Some half.Srli else
    if selector == 1 then Some half.Srai else
    if selector == 2 then Some half.Andi else
    if selector == 3 then of_two_registers (bits h 12 12) (bits h 6 5) h else
    None

abbrev pub in_quadrant_1 : ℕ → ℕ → Option HalfOp
in_quadrant_1 funct3 h =
    if funct3 == 0 then Some half.Addi else
    if funct3 == 1 then Some half.Addiw else
    if funct3 == 2 then Some half.Li else
    if funct3 == 3 then (if half_rd h == 2 then Some half.Addi16sp else Some half.Lui) else
    if funct3 == 4 then arithmetic (bits h 11 10) h else
    if funct3 == 5 then Some half.J else
    None

-- funct3 4 of quadrant 2: by bit 12, and where a register is x0
abbrev pub jumps_and_moves : ℕ → ℕ → ℕ → Option HalfOp
jumps_and_moves bit rd rs2 =
    if (bit == 0) && (rs2 == 0) then Some half.Jr else
    if bit == 0 then Some half.Mv else
    if (rs2 == 0) && (rd == 0) then Some half.Ebreak else
    if rs2 == 0 then Some half.Jalr else
    Some half.Add

abbrev pub in_quadrant_2 : ℕ → ℕ → Option HalfOp
in_quadrant_2 funct3 h =
    if funct3 == 0 then Some half.Slli else
    if funct3 == 1 then Some half.Fldsp else
    if funct3 == 2 then Some half.Lwsp else
    if funct3 == 3 then Some half.Ldsp else
    if funct3 == 4 then jumps_and_moves (bits h 12 12) (half_rd h) (half_rs2 h) else
    if funct3 == 5 then Some half.Fsdsp else
    if funct3 == 6 then Some half.Swsp else
    if funct3 == 7 then Some half.Sdsp else
    None

-- by quadrant, which is op, and funct3
abbrev pub half_at : ℕ → ℕ → ℕ → Option HalfOp
half_at op funct3 h =
    if op == 0 then in_quadrant_0 funct3 h else
    if op == 1 then in_quadrant_1 funct3 h else
    if op == 2 then in_quadrant_2 funct3 h else
    None

abbrev pub half_named : ℕ → Option HalfOp
half_named h = half_at (half_op h) (half_funct3 h) h
