-- The parts of a distance by its low 32 bits, and the fields that hold them.
use Rattle.std.proofs.Common.{◌≡◌, ℕ, ◌+◌, ◌-◌, ◌*◌, ◌/◌, ◌%◌, ◌^◌, ◌<◌, ◌≤◌, ◌⊎◌, ⊎_elim, List, [], ◌++◌, length, drop, ap, sym, subst, ◌∙◌, pos, negsuc, ◌+ℤ◌, ◌-ℤ◌, arith, w64, append-nil}
use Rattle.std.proofs.lemmas.Int.{ints}
use Rattle.std.proofs.lemmas.Bool.{cases_lt}
use Rattle.std.proofs.lemmas.Grind.{common_steps}
use Rattle.std.specs.Int.{cast_signed}
use Rattle.rv_base.specs.declared.reloc.Reloc.{Reloc}
use Rattle.rv_base.specs.declared.reloc.Reloc.TheVariants.{RiscvCallPlt, RiscvGotHi20, RiscvPCRelHi20, RiscvPCRelLo12I}
use Rattle.rv_inst.specs.LabelUse.{low32, upper_part}
use Rattle.rv_inst.specs.LabelUseWords.{word_at, word_bytes, upper_bits}
use Rattle.rv_fill.specs.Filled.{with_upper, with_lower, filled_field}
use Rattle.rv_fill.specs.Steps.{with_upper_bits, with_lower_bits}

below : (m : ℕ) → m < 2 ^ 64 → low32 (negsuc (2 ^ 64 - m - 1)) ≡ m % 4294967296
below m lt = omega arith

pub low_of_signed : (n more : ℕ) → n < 2 ^ 64 → more < 2 ^ 32 → low32 (cast_signed w64 n +ℤ pos more) ≡ (n % 4294967296 + more) % 4294967296
low_of_signed n more h m = ⊎_elim
    (λ lt. let e : cast_signed w64 n +ℤ pos more ≡ pos (n + more) = grind (arith, ints) in ap low32 e ∙ omega arith)
    (λ le. ⊎_elim
    (λ small. let e : cast_signed w64 n +ℤ pos more ≡ negsuc (2 ^ 64 - (n + more) - 1) = grind (arith, ints) in ap low32 e ∙ below (n + more) small ∙ omega arith)
    (λ large. let e : cast_signed w64 n +ℤ pos more ≡ pos (n + more - 2 ^ 64) = grind (arith, ints) in ap low32 e ∙ omega arith)
    (cases_lt (n + more) (2 ^ 64)))
    (cases_lt n (2 ^ 63))

pub upper_of_signed : (n : ℕ) → n < 2 ^ 64 → upper_part (cast_signed w64 n) ≡ upper_bits (n % 4294967296)
upper_of_signed n h = ap (λ (m : ℕ). m / 4096) (low_of_signed n 2048 h (omega arith))

pub lower_of_signed : (n : ℕ) → n < 2 ^ 64 → low32 (cast_signed w64 n) % 4096 ≡ n % 4294967296 % 4096
lower_of_signed n h =
    let e : cast_signed w64 n +ℤ pos 0 ≡ cast_signed w64 n = omega (arith, ints) in
    ap (λ (m : ℕ). m % 4096) (sym (ap low32 e) ∙ low_of_signed n 0 h (omega arith)) ∙ omega arith

upper_word : (n word : ℕ) → n < 2 ^ 64 → with_upper_bits (n % 4294967296) word ≡ with_upper (cast_signed w64 n) word
upper_word n word h = ap (λ (m : ℕ). word % 4096 + m * 4096) (sym (upper_of_signed n h))

lower_word : (n word : ℕ) → n < 2 ^ 64 → with_lower_bits (n % 4294967296) word ≡ with_lower (cast_signed w64 n) word
lower_word n word h = ap (λ (m : ℕ). word % 1048576 + m * 1048576) (sym (lower_of_signed n h))

none_left : (old : List ℕ) → length old ≡ 4 → drop 4 old ≡ []
none_left old e = grind (arith, common_steps)

alone : (word : ℕ) (old : List ℕ) → length old ≡ 4 → word_bytes word ++ drop 4 old ≡ word_bytes word
alone word old e = ap (λ rest. word_bytes word ++ rest) (none_left old e)

pub pair_filled : (kind : Reloc) (n to : ℕ) (old : List ℕ) → kind ≡ RiscvCallPlt → n < 2 ^ 64 →
    word_bytes (with_upper_bits (n % 4294967296) (word_at old)) ++ word_bytes (with_lower_bits (n % 4294967296) (word_at (drop 4 old))) ≡ filled_field kind (cast_signed w64 n) to old
pair_filled kind n to old is h =
    (λ i. word_bytes (upper_word n (word_at old) h i) ++ word_bytes (lower_word n (word_at (drop 4 old)) h i)) ∙ ap (λ k. filled_field k (cast_signed w64 n) to old) (sym is)

pub upper_filled : (kind : Reloc) (n to : ℕ) (old : List ℕ) → (kind ≡ RiscvGotHi20) ⊎ (kind ≡ RiscvPCRelHi20) → length old ≡ 4 → n < 2 ^ 64 → word_bytes (with_upper_bits (n % 4294967296) (word_at old)) ++ drop 4 old ≡ filled_field kind (cast_signed w64 n) to old
upper_filled kind n to old is long h = ⊎_elim
    (λ e. alone _ old long ∙ ap word_bytes (upper_word n (word_at old) h) ∙ ap (λ k. filled_field k (cast_signed w64 n) to old) (sym e))
    (λ e. alone _ old long ∙ ap word_bytes (upper_word n (word_at old) h) ∙ ap (λ k. filled_field k (cast_signed w64 n) to old) (sym e))
    is

pub lower_filled : (kind : Reloc) (n to : ℕ) (old : List ℕ) → kind ≡ RiscvPCRelLo12I → length old ≡ 4 → n < 2 ^ 64 → word_bytes (with_lower_bits (n % 4294967296) (word_at old)) ++ drop 4 old ≡ filled_field kind (cast_signed w64 n) to old
lower_filled kind n to old is long h = alone _ old long ∙ ap word_bytes (lower_word n (word_at old) h) ∙ ap (λ k. filled_field k (cast_signed w64 n) to old) (sym is)
