-- The text of an instruction, and of a step. Mnemonics, fields and registers are those of a disassembler.
use Rattle.std.specs.Prelude.{ℕ, ◌/◌, ◌%◌, ◌^◌, List, [], ◌++◌, ◌==◌, if◌then◌else◌, codes}
use Rattle.std.specs.Fmt.{decimal, signed_decimal}
use Rattle.std.specs.Int.{w64, cast_signed, cast_unsigned}
use Rattle.rv_base.specs.declared.regs.RegClass.TheVariants.{Int}
use Rattle.rv_base.specs.RegNames.{real_name}
use Rattle.rv_machine.specs.declared.decoding.Decoded.{Decoded}
use Rattle.rv_disasm.specs.declared.layouts.Field.{Field}
use Rattle.rv_disasm.specs.declared.layouts.Field.TheVariants.{Rd, Rs1, Imm}
use Rattle.rv_disasm.specs.declared.layouts.File.TheVariants.{X}
use Rattle.rv_disasm.specs.Layouts.{fields_of, layout_of}
use Rattle.rv_disasm.specs.Mnemonics.{mnemonic}
use Rattle.rv_disasm.specs.Text.{space, field_text, fields_text, place_text}
use Rattle.rv_trace.specs.Operands.{operands_of}
use Rattle.rv_trace.specs.declared.operands.Operands.{Operands}
use Rattle.rv_trace.specs.declared.operands.Operands.TheVariants.{Fields, Upper, Based, Sets}

-- an access of a fence's set, where its bit is set
abbrev pub access : ℕ → List ℕ → List ℕ
access bit name = if bit == 1 then name else []

abbrev pub accesses : ℕ → List ℕ
accesses n = access (n / 8 % 2) (codes "i") ++ access (n / 4 % 2) (codes "o") ++ access (n / 2 % 2) (codes "r") ++ access (n % 2) (codes "w")

-- a set of a fence: input and output of devices, reads and writes of memory
abbrev pub set : ℕ → List ℕ
set n = if n == 0 then codes "0" else accesses n

-- the number of an immediate of so many bits
abbrev pub low_bits : ℕ → Decoded → ℕ
low_bits bits d = cast_unsigned w64 d.imm % 2 ^ bits

abbrev pub two_sets : ℕ → ℕ → List ℕ
two_sets a b = codes " " ++ set a ++ codes "," ++ set b

-- the register of this field, and the immediate with rs1 in parentheses
abbrev pub based : Field → Decoded → List ℕ
based field d = codes " " ++ field_text d field ++ codes "," ++ field_text d Imm ++ codes "(" ++ field_text d (Rs1 X) ++ codes ")"

-- rd, and the upper immediate of twenty bits
abbrev pub upper : Decoded → List ℕ
upper d = codes " " ++ field_text d (Rd X) ++ codes "," ++ decimal (low_bits 20 d)

abbrev pub operands_text : Operands → Decoded → List ℕ
operands_text Fields d = fields_text space (fields_of (layout_of d.op)) d
operands_text Upper d = upper d
operands_text (Based field) d = based field d
operands_text Sets d = two_sets (low_bits 8 d / 16) (low_bits 8 d % 16)

-- the mnemonic with its operands
abbrev pub instruction_text : Decoded → List ℕ
instruction_text d = mnemonic d.op ++ operands_text (operands_of d.op) d

-- what an instruction wrote to its register, if it has one
abbrev pub written_text : ℕ → ℕ → List ℕ
written_text rd value = if rd == 0 then [] else codes "  " ++ real_name Int rd ++ codes "=" ++ signed_decimal (cast_signed w64 value)

-- the offset, the instruction in hexadecimal digits and as text, and the value that its register has after it
abbrev pub step_line : ℕ → ℕ → Decoded → ℕ → List ℕ
step_line offset word d value = place_text offset d.len word ++ instruction_text d ++ written_text d.rd value ++ codes "\n"
