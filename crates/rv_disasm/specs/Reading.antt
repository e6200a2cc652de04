-- How the reader goes over a text. This only links it to its proof: no public clause reaches it.
use Rattle.std.specs.Prelude.{◌≡◌, ℕ, ◌+◌, ◌%◌, ◌^◌, ◌<◌, ◌==◌, ◌&&◌, not, Bool, true, List, [], ◌∷◌, Option, unsigned_abs, ⊤}
use Rattle.std.specs.List.{find}
use Rattle.std.specs.Str.{bytes_eq}
use Rattle.std.specs.Int.{w64, cast_unsigned}
use Rattle.rv_machine.specs.declared.decoding.Decoded.{Decoded}
use Rattle.rv_machine.specs.declared.ops.MOp.{MOp}
use Rattle.rv_machine.specs.declared.ops.MOp.TheVariants.{Base, Load, Store, Alu, Carry, Atomic, Csr, FloatLoad, FloatStore, Float, VecMem, Vec}
use Rattle.rv_disasm.specs.declared.layouts.Field.{Field}
use Rattle.rv_disasm.specs.declared.forms.Form.{Form}
use Rattle.rv_disasm.specs.declared.forms.Form.TheVariants as form
use Rattle.rv_disasm.specs.declared.naming.TheConstants.{EVERY}
use Rattle.rv_disasm.specs.Text.{number, functs, form_name}
use Rattle.rv_machine.specs.Layout.{HasFileRegisters}
use Rattle.rv_disasm.specs.Placing.{place}

-- numbers that an operation of a word may have
pub record Fine (d : Decoded) : Type 0 where
  pub registers : HasFileRegisters d
  pub imm : unsigned_abs d.imm < 2 ^ 62
  pub rm : d.rm < 2 ^ 62
  pub functs : ((functs d.op).0 < 2 ^ 62) × ((functs d.op).1 < 2 ^ 62)

-- a text that begins with this byte, or is empty
abbrev pub Begins : ℕ → List ℕ → Type 0
Begins byte [] = ⊤
Begins byte (c ∷ text) = c ≡ byte

-- a text in which the byte doesn't stand
abbrev pub lacks : ℕ → List ℕ → Bool
lacks byte [] = true
lacks byte (c ∷ text) = not (c == byte) && lacks byte text

-- the row of a mnemonic
unfoldable pub form_named : List ℕ → Option Form
form_named name = find (λ f. bytes_eq (form_name f) name) EVERY

-- all vector arithmetic has one row
abbrev pub plain_op : MOp → MOp
plain_op (Base op) = Base op
plain_op (Load op) = Load op
plain_op (Store op) = Store op
plain_op (Alu op) = Alu op
plain_op (Carry op) = Carry op
plain_op (Atomic op width) = Atomic op width
plain_op (Csr op) = Csr op
plain_op (FloatLoad format) = FloatLoad format
plain_op (FloatStore format) = FloatStore format
plain_op (Float format op) = Float format op
plain_op (VecMem op) = VecMem op
plain_op (Vec funct6 funct3) = Vec 0 0

abbrev pub plain : Form → Form
plain (form.Word op) = form.Word (plain_op op)
plain (form.Half op) = form.Half op

-- a word with the numbers of these fields put to it
abbrev pub filled : Form → List Field → Decoded → ℕ → ℕ
filled f [] d word = word
filled f (field ∷ fields) d word = filled f fields d ((word + place f field (cast_unsigned w64 (number field d))) % 2 ^ 32)
