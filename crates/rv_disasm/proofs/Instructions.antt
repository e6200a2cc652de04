-- The row of a word with its operation, put together again, is the word.
use Rattle.std.proofs.Common.{◌≡◌, ℕ, ◌%◌, ◌^◌, ◌<◌, Bool, true, false, Option, Some, None, refl, sym, ap, subst, ◌∙◌, arith}
use Rattle.std.specs.Prelude.{IfSome, ◌==◌, if◌then◌else◌}
use Rattle.std.specs.Option.{option_map}
use Rattle.rv_base.specs.declared.flags.IsaFlags.{IsaFlags}
use Rattle.rv_machine.specs.declared.decoding.Decoded.{Decoded}
use Rattle.rv_machine.specs.Layout.{bits, word_opcode}
use Rattle.rv_machine.specs.Compressed.{int_decode_half, unit_decode_half, decode_half}
use Rattle.rv_machine.specs.UnitDecode.{unit_by_opcode, unit_decode, or_else}
use Rattle.rv_machine.specs.Decode.{int_by_opcode, int_decode, decode}
use Rattle.rv_disasm.specs.declared.word.Word.{Word}
use Rattle.rv_disasm.specs.declared.forms.Form.{Form}
use Rattle.rv_disasm.specs.declared.forms.Form.TheVariants as form
use Rattle.rv_disasm.specs.Halfwords.{half_named}
use Rattle.rv_disasm.specs.Text.{form_fields, form_at, with_form, instruction, word_at}
use Rattle.rv_disasm.specs.Placing.{form_fixed}
use Rattle.rv_disasm.specs.Reading.{plain, filled, Fine}
use Rattle.rv_disasm.proofs.Options.{every_then}
use Rattle.rv_disasm.proofs.WordRows.{Good, by_opcode, word_good}
use Rattle.rv_disasm.proofs.HalfRows.{GoodHalf, half_good}

abbrev chosen : ℕ → Bool → Word
chosen w b = if b then record { bits = w; len = 4 } else record { bits = bits w 15 0; len = 2 }

pub record Whole (word : ℕ) (i : Form × Decoded) : Type 0 where
  pub sum : filled (plain i.0) (form_fields (plain i.0)) i.1 (form_fixed (plain i.0)) ≡ (word_at word).bits
  pub fine : Fine i.1

pub opcode_is : (flags : IsaFlags) (w : ℕ) → decode flags w ≡ (if w % 4 == 3 then by_opcode flags (word_opcode w) w else decode_half flags (bits w 15 0))
unfolding decode int_decode unit_decode decode_half
opcode_is flags w =
    let e : word_opcode w % 4 ≡ w % 4 = omega arith in
    both (word_opcode w % 4 == 3) (int_by_opcode (word_opcode w) w) (unit_by_opcode flags (word_opcode w) w) (int_decode_half flags (bits w 15 0)) (unit_decode_half flags (bits w 15 0))
    ∙ ap (λ x. if x == 3 then by_opcode flags (word_opcode w) w else or_else (int_decode_half flags (bits w 15 0)) (unit_decode_half flags (bits w 15 0))) e
  where
    both : (t : Bool) (a b c d : Option Decoded) → or_else (if t then a else c) (if t then b else d) ≡ (if t then or_else a b else or_else c d)
    both true a b c d = refl
    both false a b c d = refl

-- an option's values, where it is another
carried : {A : Type 0} (P : A → Type 0) (o p : Option A) → o ≡ p → IfSome p P → IfSome o P
carried P o p e h = subst (λ x. IfSome x P) (sym e) h

within : (P : Decoded → Type 0) (Q : Decoded → Type 0) (o : Option Decoded) → ((d : Decoded) → P d → Q d) → IfSome o P → IfSome o Q
within P Q None f h = _
within P Q (Some d) f h = f d h

pub instruction_whole : (flags : IsaFlags) (w : ℕ) → w < 2 ^ 32 → IfSome (instruction flags w) (Whole w)
instruction_whole flags w low = every_then (with_form w) (Whole w) (decode flags w) (on (w % 4 == 3) refl)
  where
    Q : Decoded → Type 0
    Q d = IfSome (with_form w d) (Whole w)

    long : (w % 4 == 3) ≡ true → (d : Decoded) → Good w d → Q d
    long t d g =
        let f : form_at w d.op ≡ Some (form.Word d.op) = ap (λ b. if b then Some (form.Word d.op) else option_map form.Half (half_named (bits w 15 0))) t in
        let a : (word_at w).bits ≡ w = ap (λ b. (chosen w b).bits) t in
        subst (λ o. IfSome (option_map (λ f. (f, d)) o) (Whole w)) (sym f) (record { sum = g.sum ∙ sym a; fine = g.fine })

    short : (w % 4 == 3) ≡ false → (d : Decoded) → GoodHalf (bits w 15 0) d → Q d
    short t d g =
        let f : form_at w d.op ≡ Some (form.Half g.op) = ap (λ b. if b then Some (form.Word d.op) else option_map form.Half (half_named (bits w 15 0))) t ∙ ap (option_map form.Half) g.named in
        let a : (word_at w).bits ≡ bits w 15 0 = ap (λ b. (chosen w b).bits) t in
        subst (λ o. IfSome (option_map (λ f. (f, d)) o) (Whole w)) (sym f) (record { sum = g.sum ∙ sym a; fine = g.fine })

    on : (b : Bool) → (w % 4 == 3) ≡ b → IfSome (decode flags w) Q
    on true t = carried Q (decode flags w) (by_opcode flags (word_opcode w) w) (opcode_is flags w ∙ ap (λ b. if b then by_opcode flags (word_opcode w) w else decode_half flags (bits w 15 0)) t)
        (within (Good w) Q _ (long t) (word_good flags (word_opcode w) w low refl))
    on false t = carried Q (decode flags w) (decode_half flags (bits w 15 0)) (opcode_is flags w ∙ ap (λ b. if b then by_opcode flags (word_opcode w) w else decode_half flags (bits w 15 0)) t)
        (within (GoodHalf (bits w 15 0)) Q _ (short t) (half_good flags (bits w 15 0) (omega arith)))
