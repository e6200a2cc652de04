-- A row's fields read one after the other.
use Rattle.std.proofs.Common.{◌≡◌, ℕ, zero, suc, ◌+◌, ◌%◌, ◌^◌, ◌<◌, ◌≤◌, List, [], ◌∷◌, ◌++◌, length, get_or, drop, ℤ, refl, sym, ap, subst, ◌∙◌, arith, drop_of_length-le, w64, Some}
use Rattle.std.specs.Int.{cast_unsigned}
use Rattle.rv_machine.specs.declared.decoding.Decoded.{Decoded}
use Rattle.rv_disasm.specs.declared.layouts.File.{File}
use Rattle.rv_disasm.specs.declared.layouts.Field.{Field}
use Rattle.rv_disasm.specs.declared.forms.Form.{Form}
use Rattle.rv_disasm.specs.Text.{IsNamed, number, file_of, number_text, field_text, fields_text, form_fields}
use Rattle.rv_disasm.specs.Placing.{place, form_fixed}
use Rattle.rv_disasm.specs.Reading.{Begins, Fine, filled}
use Rattle.rv_disasm.proofs.FieldTexts.{further_fields, field_named}

-- what is left of a text and of its word before the field of this index
pub record AtField (form : Form) (fields : List Field) (i : ℕ) (d : Decoded) (rest : List ℕ) (word : ℕ) : Type 0 where
  pub lead : ℕ
  pub text_is : rest ≡ fields_text lead (drop i fields) d
  pub sum : filled form (drop i fields) d word ≡ filled form fields d (form_fixed form)

pub begins_comma : (fields : List Field) (d : Decoded) → Begins 44 (fields_text 44 fields d)
begins_comma [] d = _
begins_comma (field ∷ fields) d = refl

split : (fields : List Field) (i : ℕ) (x : Field) → i < length fields → drop i fields ≡ get_or fields i x ∷ drop (i + 1) fields
split [] i x h = absurd (omega arith)
split (f ∷ fs) zero x h = refl
split (f ∷ fs) (suc i) x h = let e : suc i + 1 ≡ suc (i + 1) = omega arith in split fs i x (omega arith) ∙ ap (λ k. get_or fs i x ∷ drop k (f ∷ fs)) (sym e)

pub next_text : (fields : List Field) (i : ℕ) (x : Field) (d : Decoded) (lead : ℕ) (rest : List ℕ) → i < length fields → rest ≡ fields_text lead (drop i fields) d
    → rest ≡ lead ∷ (number_text (file_of (get_or fields i x)) (number (get_or fields i x) d) ++ fields_text 44 (drop (i + 1) fields) d)
next_text fields i x d lead rest h e =
    e ∙ ap (λ l. fields_text lead l d) (split fields i x h) ∙ ap (λ t. lead ∷ (field_text d (get_or fields i x) ++ t)) (further_fields (drop (i + 1) fields) d)

pub moved : (form : Form) (fields : List Field) (i : ℕ) (x : Field) (d : Decoded) (rest after : List ℕ) (word next : ℕ) (n : ℤ) → AtField form fields i d rest word → i < length fields
    → n ≡ number (get_or fields i x) d → after ≡ fields_text 44 (drop (i + 1) fields) d → next ≡ (word + place form (get_or fields i x) (cast_unsigned w64 n)) % 2 ^ 32 → AtField form fields (i + 1) d after next
moved form fields i x d rest after word next n at h same follows e = record {
  lead = 44;
  text_is = follows;
  sum = ap (filled form (drop (i + 1) fields) d) (e ∙ ap (λ z. (word + place form (get_or fields i x) (cast_unsigned w64 z)) % 2 ^ 32) same)
      ∙ sym (ap (λ l. filled form l d word) (split fields i x h)) ∙ at.sum;
}

pub all_read : (form : Form) (fields : List Field) (i : ℕ) (d : Decoded) (rest : List ℕ) (word : ℕ) → AtField form fields i d rest word → length fields ≤ i → fields ≡ form_fields form
    → Some word ≡ Some (filled form (form_fields form) d (form_fixed form))
all_read form fields i d rest word at h same =
    let none : drop i fields ≡ [] = drop_of_length-le fields h in
    ap Some (sym (ap (λ l. filled form l d word) none) ∙ at.sum ∙ ap (λ l. filled form l d (form_fixed form)) same)

pub next_named : (f : File) (field : Field) (d : Decoded) → f ≡ file_of field → Fine d → IsNamed f (number field d)
next_named f field d same fine = subst (λ g. IsNamed g (number field d)) (sym same) (field_named field d fine.registers)

pub next_text_in : (f : File) (fields : List Field) (i : ℕ) (x : Field) (d : Decoded) (lead : ℕ) (rest : List ℕ) → f ≡ file_of (get_or fields i x) → i < length fields → rest ≡ fields_text lead (drop i fields) d
    → rest ≡ lead ∷ (number_text f (number (get_or fields i x) d) ++ fields_text 44 (drop (i + 1) fields) d)
next_text_in f fields i x d lead rest same h e =
    next_text fields i x d lead rest h e ∙ ap (λ g. lead ∷ (number_text g (number (get_or fields i x) d) ++ fields_text 44 (drop (i + 1) fields) d)) (sym same)
