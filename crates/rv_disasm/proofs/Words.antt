-- A word's text is that of what it begins with, and the word that a text may have is the word of the text.
use Rattle.std.proofs.Common.{◌≡◌, ℕ, ◌%◌, ◌^◌, ◌<◌, Bool, true, false, List, ◌++◌, Option, Some, None, refl, sym, ap, ◌∙◌, arith, w16, w32, IfSome, if◌then◌else◌}
use Rattle.std.specs.Prelude.{◌==◌, codes}
use Rattle.std.specs.Option.{option_map, option_and_then}
use Rattle.std.specs.Int.{to_be_bytes}
use Rattle.hex.specs.Hex.{encode_lower}
use Rattle.rv_base.specs.declared.flags.IsaFlags.{IsaFlags}
use Rattle.rv_machine.specs.declared.decoding.Decoded.{Decoded}
use Rattle.rv_machine.specs.Layout.{bits, word_opcode}
use Rattle.rv_machine.specs.Compressed.{decode_half}
use Rattle.rv_disasm.specs.declared.word.Word.{Word}
use Rattle.rv_disasm.specs.declared.forms.Form.{Form}
use Rattle.rv_disasm.specs.declared.forms.Form.TheVariants as form
use Rattle.rv_disasm.specs.Halfwords.{half_named}
use Rattle.rv_disasm.specs.Text.{form_fields, text_of, word_at, instruction, with_form, text_or_data, data_text, word_text}
use Rattle.rv_disasm.specs.Placing.{form_fixed}
use Rattle.rv_disasm.specs.Reading.{Fine, plain, filled}
use Rattle.rv_disasm.proofs.WordRows.{by_opcode}
use Rattle.rv_disasm.proofs.Instructions.{Whole, opcode_is, instruction_whole}

-- ---- by the word's length

abbrev word_by : Bool → ℕ → ℕ → Word
word_by t w h = if t then record { bits = w; len = 4 } else record { bits = h; len = 2 }

abbrev with_by : Bool → ℕ → Decoded → Option (Form × Decoded)
with_by t h d = option_map (λ f. (f, d)) (if t then Some (form.Word d.op) else option_map form.Half (half_named h))

abbrev data_by : Bool → ℕ → ℕ → List ℕ
data_by t w h = if t then codes ".4byte 0x" ++ encode_lower (to_be_bytes w32 w) else codes ".2byte 0x" ++ encode_lower (to_be_bytes w16 h)

abbrev text_by : List ℕ → Option (Form × Decoded) → List ℕ
text_by digits (Some i) = text_of i
text_by digits None = digits

abbrev whole_by : IsaFlags → Bool → ℕ → ℕ → List ℕ
whole_by flags t w h = text_by (data_by t w h) (option_and_then (with_by t h) (if t then by_opcode flags (word_opcode w) w else decode_half flags h))

same_text : (w : ℕ) (o : Option (Form × Decoded)) → text_or_data w o ≡ text_by (data_text w) o
same_text w None = refl
same_text w (Some i) = refl

text_is : (flags : IsaFlags) (w : ℕ) → word_text flags w ≡ whole_by flags (w % 4 == 3) w (bits w 15 0)
text_is flags w = same_text w (instruction flags w) ∙ ap (λ o. text_by (data_text w) (option_and_then (with_form w) o)) (opcode_is flags w)

short_text : (flags : IsaFlags) (w : ℕ) → (w % 4 == 3) ≡ false → word_text flags w ≡ whole_by flags false w (bits w 15 0)
short_text flags w t = text_is flags w ∙ ap (λ b. whole_by flags b w (bits w 15 0)) t

half_short : (w : ℕ) → (w % 4 == 3) ≡ false → (bits w 15 0 % 4 == 3) ≡ false
half_short w t = let e : bits w 15 0 % 4 ≡ w % 4 = omega arith in ap (λ x. x == 3) e ∙ t

half_half : (w : ℕ) → bits (bits w 15 0) 15 0 ≡ bits w 15 0
half_half w = omega arith

bits_by : (w : ℕ) (t : Bool) → (w % 4 == 3) ≡ t → (word_at w).bits ≡ (word_by t w (bits w 15 0)).bits
bits_by w t e = ap (λ b. (word_by b w (bits w 15 0)).bits) e

at_short : (w : ℕ) → (w % 4 == 3) ≡ false → word_at w ≡ word_by false w (bits w 15 0)
at_short w t = ap (λ b. word_by b w (bits w 15 0)) t

pub held_text : (flags : IsaFlags) (w : ℕ) → word_text flags (word_at w).bits ≡ word_text flags w
held_text flags w = on (w % 4 == 3) refl
  where
    on : (t : Bool) → (w % 4 == 3) ≡ t → word_text flags (word_at w).bits ≡ word_text flags w
    on true t = ap (word_text flags) (bits_by w true t)
    on false t = ap (word_text flags) (bits_by w false t) ∙ short_text flags (bits w 15 0) (half_short w t) ∙ ap (whole_by flags false w) (half_half w) ∙ sym (short_text flags w t)

pub held_word : (w : ℕ) → word_at (word_at w).bits ≡ word_at w
held_word w = on (w % 4 == 3) refl
  where
    on : (t : Bool) → (w % 4 == 3) ≡ t → word_at (word_at w).bits ≡ word_at w
    on true t = ap word_at (bits_by w true t)
    on false t = ap word_at (bits_by w false t) ∙ at_short (bits w 15 0) (half_short w t) ∙ ap (word_by false w) (half_half w) ∙ sym (at_short w t)

-- ---- what a text may be of

pub record Reads (text : List ℕ) (r : Option ℕ) : Type 0 where
  pub instruction : (f : Form) (d : Decoded) → Fine d → text ≡ text_of (f, d) → r ≡ Some (filled (plain f) (form_fields (plain f)) d (form_fixed (plain f)))
  pub word : (n : ℕ) → n < 2 ^ 32 → text ≡ codes ".4byte 0x" ++ encode_lower (to_be_bytes w32 n) → r ≡ Some n
  pub half : (n : ℕ) → n < 2 ^ 16 → text ≡ codes ".2byte 0x" ++ encode_lower (to_be_bytes w16 n) → r ≡ Some n

pub is_word : (flags : IsaFlags) (text : List ℕ) (r : Option ℕ) → Reads text r → (w : ℕ) → w < 2 ^ 32 → text ≡ word_text flags w → r ≡ Some (word_at w).bits
is_word flags text r reads w low e = on (instruction flags w) (instruction_whole flags w low) e
  where
    as_data : (t : Bool) → (w % 4 == 3) ≡ t → text ≡ data_by t w (bits w 15 0) → r ≡ Some (word_at w).bits
    as_data true t e = reads.word w low e ∙ ap Some (sym (bits_by w true t))
    as_data false t e = reads.half (bits w 15 0) (omega arith) e ∙ ap Some (sym (bits_by w false t))

    on : (o : Option (Form × Decoded)) → IfSome o (Whole w) → text ≡ text_or_data w o → r ≡ Some (word_at w).bits
    on (Some i) whole e = reads.instruction i.0 i.1 whole.fine e ∙ ap Some whole.sum
    on None whole e = as_data (w % 4 == 3) refl e

pub below : (w : ℕ) → w < 2 ^ 32 → (word_at w).bits < 2 ^ 32
below w low = on (w % 4 == 3) refl
  where
    on : (t : Bool) → (w % 4 == 3) ≡ t → (word_at w).bits < 2 ^ 32
    on true t = let e = bits_by w true t in omega (arith, e)
    on false t = let e = bits_by w false t in omega (arith, e)

pub same_number : (m n : ℕ) → Some m ≡ Some n → m ≡ n
same_number m n e = cc

pub no_number : (n : ℕ) → None ≡ Some n → ⊥
no_number n e = cc
