-- The numbers in fields have names, and the texts of fields follow one another.
use Rattle.std.proofs.Common.{◌≡◌, ℕ, ◌/◌, ◌%◌, ◌^◌, ◌<◌, Bool, true, false, List, [], ◌∷◌, ℤ, pos, negsuc, unsigned_abs, refl, arith, lit<}
use Rattle.std.specs.List.{flat_map}
use Rattle.std.specs.Int.{from_bool}
use Rattle.rv_machine.specs.declared.decoding.Decoded.{Decoded}
use Rattle.rv_machine.specs.Layout.{HasFileRegisters}
use Rattle.rv_disasm.specs.declared.layouts.File.{File}
use Rattle.rv_disasm.specs.declared.layouts.File.TheVariants.{X, F, V, Number}
use Rattle.rv_disasm.specs.declared.layouts.Field.{Field}
use Rattle.rv_disasm.specs.declared.layouts.Field.TheVariants.{Rd, Rs1, Rs2, Rs3, Imm, Rounding, Ordering, Mask, Pred, Succ, Funct6, Funct3}
use Rattle.rv_disasm.specs.Text.{number, file_of, further_text, fields_text}
use Rattle.rv_disasm.specs.Reading.{Fine}
use Rattle.rv_disasm.specs.Text.{IsNamed, IsRegister}

named : (file : File) (n : ℕ) → n < 32 → IsNamed file (pos n)
named X n h = h
named F n h = h
named V n h = h
named Number n h = _

pub field_named : (field : Field) (d : Decoded) → HasFileRegisters d → IsNamed (file_of field) (number field d)
field_named (Rd file) d h = named file d.rd h.rd
field_named (Rs1 file) d h = named file d.rs1 h.rs1
field_named (Rs2 file) d h = named file d.rs2 h.rs2
field_named (Rs3 file) d h = named file d.rs3 h.rs3
field_named Imm d h = _
field_named Rounding d h = _
field_named Ordering d h = _
field_named Mask d h = _
field_named Pred d h = _
field_named Succ d h = _
field_named Funct6 d h = _
field_named Funct3 d h = _

pub register_low : (z : ℤ) → IsRegister z → unsigned_abs z < 32
register_low (pos n) h = h
register_low (negsuc n) h = absurd h

bit_low : (b : Bool) → from_bool b < 2 ^ 62
bit_low true = lit< tt
bit_low false = lit< tt

low : (n : ℕ) → n < 32 → n < 2 ^ 62
low n h = omega arith

quotient_low : (n : ℕ) → n < 2 ^ 62 → n / 2 ^ 4 < 2 ^ 62
quotient_low n h = omega arith

rest_low : (n : ℕ) → n % 2 ^ 4 < 2 ^ 62
rest_low n = omega arith

pub field_small : (field : Field) (d : Decoded) → Fine d → unsigned_abs (number field d) < 2 ^ 62
field_small (Rd file) d f = low d.rd f.registers.rd
field_small (Rs1 file) d f = low d.rs1 f.registers.rs1
field_small (Rs2 file) d f = low d.rs2 f.registers.rs2
field_small (Rs3 file) d f = low d.rs3 f.registers.rs3
field_small Imm d f = f.imm
field_small Rounding d f = f.rm
field_small Ordering d f = f.imm
field_small Mask d f = bit_low d.vm
field_small Pred d f = quotient_low (unsigned_abs d.imm) f.imm
field_small Succ d f = rest_low (unsigned_abs d.imm)
field_small Funct6 d f = f.functs.0
field_small Funct3 d f = f.functs.1

-- further fields are fields after a comma
pub further_fields : (fields : List Field) (d : Decoded) → flat_map (further_text d) fields ≡ fields_text 44 fields d
further_fields [] d = refl
further_fields (field ∷ fields) d = refl
