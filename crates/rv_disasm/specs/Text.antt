-- The text of a word: its mnemonic, and every field that its row leaves free.
use Rattle.std.specs.Prelude.{ℕ, ◌/◌, ◌%◌, ◌^◌, ◌==◌, if◌then◌else◌, List, [], ◌∷◌, ◌++◌, codes, ℤ, pos, negsuc, unsigned_abs, ◌<◌, ⊤, Option, Some, None}
use Rattle.std.specs.List.{flat_map}
use Rattle.std.specs.Option.{option_map, option_and_then}
use Rattle.std.specs.Fmt.{decimal, signed_decimal}
use Rattle.std.specs.Int.{w16, w32, from_bool, to_be_bytes}
use Rattle.hex.specs.Hex.{encode_lower}
use Rattle.rv_base.specs.declared.flags.IsaFlags.{IsaFlags}
use Rattle.rv_base.specs.declared.regs.RegClass.TheVariants.{Int, Float as FloatClass, Vector}
use Rattle.rv_base.specs.RegNames.{real_name}
use Rattle.rv_machine.specs.declared.decoding.Decoded.{Decoded}
use Rattle.rv_machine.specs.declared.ops.MOp.{MOp}
use Rattle.rv_machine.specs.declared.ops.MOp.TheVariants.{Base, Load, Store, Alu, Carry, Atomic, Csr, FloatLoad, FloatStore, Float, VecMem, Vec}
use Rattle.rv_machine.specs.Layout.{bits}
use Rattle.rv_machine.specs.Decode.{decode}
use Rattle.rv_disasm.specs.declared.layouts.File.{File}
use Rattle.rv_disasm.specs.declared.layouts.File.TheVariants.{X, F, V, Number}
use Rattle.rv_disasm.specs.declared.layouts.Field.{Field}
use Rattle.rv_disasm.specs.declared.layouts.Field.TheVariants.{Rd, Rs1, Rs2, Rs3, Imm, Rounding, Ordering, Mask, Pred, Succ, Funct6, Funct3}
use Rattle.rv_disasm.specs.declared.layouts.Layout.{Layout}
use Rattle.rv_disasm.specs.Layouts.{fields_of, layout_of}
use Rattle.rv_disasm.specs.Mnemonics.{mnemonic}
use Rattle.rv_disasm.specs.Halfwords.{half_name, half_layout, half_named}
use Rattle.rv_disasm.specs.declared.forms.Form.{Form}
use Rattle.rv_disasm.specs.declared.forms.Form.TheVariants as form
use Rattle.rv_disasm.specs.declared.word.Word.{Word}

-- ---- fields

-- funct6 and funct3 of vector arithmetic; any other operation has fixed ones
abbrev pub functs : MOp → ℕ × ℕ
functs (Base op) = (0, 0)
functs (Load op) = (0, 0)
functs (Store op) = (0, 0)
functs (Alu op) = (0, 0)
functs (Carry op) = (0, 0)
functs (Atomic op width) = (0, 0)
functs (Csr op) = (0, 0)
functs (FloatLoad format) = (0, 0)
functs (FloatStore format) = (0, 0)
functs (Float format op) = (0, 0)
functs (VecMem op) = (0, 0)
functs (Vec funct6 funct3) = (funct6, funct3)

-- the number in a field; the immediate of a fence is 16 * pred + succ, and that of an atomic operation is its ordering bits
abbrev pub number : Field → Decoded → ℤ
number (Rd file) d = pos d.rd
number (Rs1 file) d = pos d.rs1
number (Rs2 file) d = pos d.rs2
number (Rs3 file) d = pos d.rs3
number Imm d = d.imm
number Rounding d = pos d.rm
number Ordering d = d.imm
number Mask d = pos (from_bool d.vm)
number Pred d = pos (unsigned_abs d.imm / 2 ^ 4)
number Succ d = pos (unsigned_abs d.imm % 2 ^ 4)
number Funct6 d = pos ((functs d.op).0)
number Funct3 d = pos ((functs d.op).1)

abbrev pub file_of : Field → File
file_of (Rd file) = file
file_of (Rs1 file) = file
file_of (Rs2 file) = file
file_of (Rs3 file) = file
file_of Imm = Number
file_of Rounding = Number
file_of Ordering = Number
file_of Mask = Number
file_of Pred = Number
file_of Succ = Number
file_of Funct6 = Number
file_of Funct3 = Number

-- a register by its name, any other number in decimal
abbrev pub number_text : File → ℤ → List ℕ
number_text X n = real_name Int (unsigned_abs n)
number_text F n = real_name FloatClass (unsigned_abs n)
number_text V n = real_name Vector (unsigned_abs n)
number_text Number n = signed_decimal n

-- a number that its file has a name for: of a register, below 32
abbrev pub IsRegister : ℤ → Type 0
IsRegister (pos n) = n < 32
IsRegister (negsuc n) = ⊥

abbrev pub IsNamed : File → ℤ → Type 0
IsNamed X n = IsRegister n
IsNamed F n = IsRegister n
IsNamed V n = IsRegister n
IsNamed Number n = ⊤

abbrev pub space : ℕ
space = 32

abbrev pub comma : ℕ
comma = 44

abbrev pub field_text : Decoded → Field → List ℕ
field_text d field = number_text (file_of field) (number field d)

-- a further field, after a comma
abbrev pub further_text : Decoded → Field → List ℕ
further_text d field = comma ∷ field_text d field

-- the fields, the first after this byte
abbrev pub fields_text : ℕ → List Field → Decoded → List ℕ
fields_text lead [] d = []
fields_text lead (field ∷ fields) d = lead ∷ (field_text d field ++ flat_map (further_text d) fields)

-- ---- instructions

abbrev pub form_name : Form → List ℕ
form_name (form.Word op) = mnemonic op
form_name (form.Half op) = half_name op

abbrev pub form_layout : Form → Layout
form_layout (form.Word op) = layout_of op
form_layout (form.Half op) = half_layout op

abbrev pub form_fields : Form → List Field
form_fields f = fields_of (form_layout f)

-- an instruction's text
abbrev pub text_of : Form × Decoded → List ℕ
text_of i = form_name i.0 ++ fields_text space (form_fields i.0) i.1

-- ---- words

-- the low half of a word whose two lowest bits aren't 11 is an instruction of 16 bits
abbrev pub word_at : ℕ → Word
word_at word = if word % 4 == 3 then record { bits = word; len = 4 } else record { bits = bits word 15 0; len = 2 }

-- the row of an operation of 32 bits is its own; one of 16 bits is expanded from a row of its own
abbrev pub form_at : ℕ → MOp → Option Form
form_at word op = if word % 4 == 3 then Some (form.Word op) else option_map form.Half (half_named (bits word 15 0))

abbrev pub with_form : ℕ → Decoded → Option (Form × Decoded)
with_form word d = option_map (λ f. (f, d)) (form_at word d.op)

-- the row of a word with its operation, where it has one under these flags
abbrev pub instruction : IsaFlags → ℕ → Option (Form × Decoded)
instruction flags word = option_and_then (with_form word) (decode flags word)

-- the digits of an instruction of so many bytes, with which the word begins, the highest first: four of two bytes, else eight
abbrev pub digits_text : ℕ → ℕ → List ℕ
digits_text len word = if len == 2 then encode_lower (to_be_bytes w16 (word % 2 ^ 16)) else encode_lower (to_be_bytes w32 word)

-- where an instruction of so many bytes stands, and its digits
abbrev pub place_text : ℕ → ℕ → ℕ → List ℕ
place_text place len word = decimal place ++ codes ": " ++ digits_text len word ++ codes " "

-- a word without an operation, as data: its digits, the highest first
abbrev pub data_text : ℕ → List ℕ
data_text word = if word % 4 == 3 then codes ".4byte 0x" ++ encode_lower (to_be_bytes w32 word) else codes ".2byte 0x" ++ encode_lower (to_be_bytes w16 (bits word 15 0))

abbrev pub text_or_data : ℕ → Option (Form × Decoded) → List ℕ
text_or_data word (Some i) = text_of i
text_or_data word None = data_text word

abbrev pub word_text : IsaFlags → ℕ → List ℕ
word_text flags word = text_or_data word (instruction flags word)
