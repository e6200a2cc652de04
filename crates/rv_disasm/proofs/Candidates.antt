-- What a text's first word and the rest of the text are.
use Rattle.std.proofs.Common.{◌≡◌, ℕ, List, [], ◌∷◌, ◌++◌, take, drop, Some, None, refl, ap, ◌∙◌, w16, w32}
use Rattle.std.specs.Prelude.{◌==◌, codes}
use Rattle.std.specs.List.{position_or_len}
use Rattle.std.specs.Int.{to_be_bytes}
use Rattle.hex.specs.Hex.{encode_lower}
use Rattle.rv_machine.specs.declared.decoding.Decoded.{Decoded}
use Rattle.rv_machine.specs.declared.ops.MOp.{MOp}
use Rattle.rv_machine.specs.declared.ops.MOp.TheVariants.{Base, Load, Store, Alu, Carry, Atomic, Csr, FloatLoad, FloatStore, Float, VecMem, Vec}
use Rattle.rv_disasm.specs.declared.layouts.Field.{Field}
use Rattle.rv_disasm.specs.declared.forms.Form.{Form}
use Rattle.rv_disasm.specs.declared.forms.Form.TheVariants as form
use Rattle.rv_disasm.specs.Text.{form_name, form_fields, fields_text, text_of}
use Rattle.rv_disasm.specs.Reading.{Begins, plain, form_named}
use Rattle.rv_disasm.proofs.Tokens.{token_cut}
use Rattle.rv_disasm.proofs.FormsFound.{form_found}

begins_space : (fields : List Field) (d : Decoded) → Begins 32 (fields_text 32 fields d)
begins_space [] d = _
begins_space (field ∷ fields) d = refl

same_op : (op : MOp) → form_fields (form.Word op) ≡ form_fields (plain (form.Word op))
same_op (Base op) = refl
same_op (Load op) = refl
same_op (Store op) = refl
same_op (Alu op) = refl
same_op (Carry op) = refl
same_op (Atomic op width) = refl
same_op (Csr op) = refl
same_op (FloatLoad format) = refl
same_op (FloatStore format) = refl
same_op (Float format op) = refl
same_op (VecMem op) = refl
same_op (Vec funct6 funct3) = refl

same_fields : (f : Form) → form_fields f ≡ form_fields (plain f)
same_fields (form.Word op) = same_op op
same_fields (form.Half op) = refl

-- of an instruction
pub name_is : (f : Form) (d : Decoded) (text name : List ℕ) → name ≡ take (position_or_len (λ c. c == 32) text) text → text ≡ text_of (f, d) → form_named name ≡ Some (plain f)
name_is f d text name is e = ap form_named (is ∙ (token_cut 32 text (form_name f) (fields_text 32 (form_fields f) d) (form_found f).1 (begins_space (form_fields f) d) e).0) ∙ (form_found f).0

pub rest_is : (f : Form) (d : Decoded) (text rest : List ℕ) → rest ≡ drop (position_or_len (λ c. c == 32) text) text → text ≡ text_of (f, d) → rest ≡ fields_text 32 (form_fields (plain f)) d
rest_is f d text rest is e = is ∙ (token_cut 32 text (form_name f) (fields_text 32 (form_fields f) d) (form_found f).1 (begins_space (form_fields f) d) e).1 ∙ ap (λ l. fields_text 32 l d) (same_fields f)

pub some_form : (f g : Form) → Some f ≡ Some g → f ≡ g
some_form f g e = cc

pub none_form : (f : Form) → None ≡ Some f → ⊥
none_form f e = cc

pub no_form : (f : Form) → Some f ≡ None → ⊥
no_form f e = cc

-- of data
pub word_cut : (n : ℕ) (text : List ℕ) → text ≡ codes ".4byte 0x" ++ encode_lower (to_be_bytes w32 n)
    → (take (position_or_len (λ c. c == 32) text) text ≡ codes ".4byte") × (drop (position_or_len (λ c. c == 32) text) text ≡ codes " 0x" ++ encode_lower (to_be_bytes w32 n))
word_cut n text e = token_cut 32 text (codes ".4byte") (codes " 0x" ++ encode_lower (to_be_bytes w32 n)) refl refl e

pub half_cut : (n : ℕ) (text : List ℕ) → text ≡ codes ".2byte 0x" ++ encode_lower (to_be_bytes w16 n)
    → (take (position_or_len (λ c. c == 32) text) text ≡ codes ".2byte") × (drop (position_or_len (λ c. c == 32) text) text ≡ codes " 0x" ++ encode_lower (to_be_bytes w16 n))
half_cut n text e = token_cut 32 text (codes ".2byte") (codes " 0x" ++ encode_lower (to_be_bytes w16 n)) refl refl e

pub no_word : form_named (codes ".4byte") ≡ None
unfolding form_named
no_word = refl

pub no_half : form_named (codes ".2byte") ≡ None
unfolding form_named
no_half = refl
