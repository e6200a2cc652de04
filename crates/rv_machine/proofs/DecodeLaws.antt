-- What of a word its decoding depends on.
use Rattle.std.proofs.Common.{◌≡◌, ℕ, ◌+◌, ◌*◌, ◌/◌, ◌%◌, ◌^◌, ◌<◌, nat_eq, Bool, true, false, Option, Some, None, arith, refl, ap, lit<, ◌∙◌}
use Rattle.std.specs.Prelude.{if◌then◌else◌, ◌&&◌}
use Rattle.std.specs.Option.{option_and_then}
use Rattle.rv_base.specs.declared.flags.IsaFlags.{IsaFlags}
use Rattle.rv_machine.specs.declared.decoding.Decoded.{Decoded}
use Rattle.rv_machine.specs.declared.ops.FloatFormat.{FloatFormat}
use Rattle.rv_machine.specs.Layout.{bits, word_opcode, word_fmt, or_else}
use Rattle.rv_machine.specs.Compressed.{by_quadrant, unit_by_quadrant, int_decode_half, unit_decode_half, decode_half}
use Rattle.rv_machine.specs.UnitTables.{format_entry, fused_entry}
use Rattle.rv_machine.specs.UnitDecode.{only, decode_fused, fused_of, unit_by_opcode, unit_decode}
use Rattle.rv_machine.specs.Decode.{int_by_opcode, int_decode, decode}

-- ---- an integer operation, or a unit's

pub decode_integer : {d : Decoded} (flags : IsaFlags) (word : ℕ) → int_decode flags word ≡ Some d → decode flags word ≡ Some d
unfolding decode
decode_integer flags word is = ap (λ o. or_else o (unit_decode flags word)) is

pub decode_integer_half : {d : Decoded} (flags : IsaFlags) (half : ℕ) → int_decode_half flags half ≡ Some d → decode_half flags half ≡ Some d
unfolding decode_half
decode_integer_half flags half is = ap (λ o. or_else o (unit_decode_half flags half)) is

or_none : (o : Option Decoded) → or_else o None ≡ o
or_none (Some d) = refl
or_none None = refl

-- ---- a word whose two lowest bits are 11 has 32 bits

-- the width that the two lowest bits give
abbrev by_width : IsaFlags → ℕ → Bool → Option Decoded
by_width flags word wide = if wide then int_by_opcode (word_opcode word) word else int_decode_half flags (bits word 15 0)

abbrev unit_by_width : IsaFlags → ℕ → Bool → Option Decoded
unit_by_width flags word wide = if wide then unit_by_opcode flags (word_opcode word) word else unit_decode_half flags (bits word 15 0)

pub decode_wide : (flags : IsaFlags) (word opcode : ℕ) → word_opcode word ≡ opcode → nat_eq (opcode % 4) 3 ≡ true → int_decode flags word ≡ int_by_opcode opcode word
unfolding int_decode
decode_wide flags word opcode is wide = ap (by_width flags word) (ap (λ k. nat_eq (k % 4) 3) is ∙ wide) ∙ ap (λ k. int_by_opcode k word) is

unit_wide : (flags : IsaFlags) (word opcode : ℕ) → word_opcode word ≡ opcode → nat_eq (opcode % 4) 3 ≡ true → unit_decode flags word ≡ unit_by_opcode flags opcode word
unfolding unit_decode
unit_wide flags word opcode is wide = ap (unit_by_width flags word) (ap (λ k. nat_eq (k % 4) 3) is ∙ wide) ∙ ap (λ k. unit_by_opcode flags k word) is

-- an opcode that has no operation of a unit
pub decode_alone : (flags : IsaFlags) (word opcode : ℕ) → word_opcode word ≡ opcode → nat_eq (opcode % 4) 3 ≡ true → unit_by_opcode flags opcode word ≡ None → decode flags word ≡ int_by_opcode opcode word
unfolding decode
decode_alone flags word opcode is wide none =
    (λ i. or_else (decode_wide flags word opcode is wide i) (unit_wide flags word opcode is wide i))
    ∙ ap (or_else (int_by_opcode opcode word)) none
    ∙ or_none (int_by_opcode opcode word)

-- nor a fused multiplication
pub none_fused : (opcode word : ℕ) → fused_entry opcode ≡ None → decode_fused opcode word ≡ None
none_fused opcode word none = of (format_entry (word_fmt word))
  where
    where_so : (c : Bool) → only c None ≡ None
    where_so true = refl
    where_so false = refl

    of : (o : Option FloatFormat) → option_and_then (fused_of opcode word) o ≡ None
    of None = refl
    of (Some format) = rw none (where_so _)

-- ---- any other is decoded by its low half alone

pub decode_low : (flags : IsaFlags) (half high : ℕ) → half < 2 ^ 16 → nat_eq (half % 4) 3 ≡ false → decode flags (half + high * 2 ^ 16) ≡ decode_half flags half
unfolding decode int_decode unit_decode decode_half
decode_low flags half high fits narrow =
    let word = half + high * 2 ^ 16 in
    let op : word_opcode (half + high * 2 ^ 16) % 4 ≡ half % 4 = omega arith in
    let low : bits (half + high * 2 ^ 16) 15 0 ≡ half = omega arith in
    ap (λ n. or_else (by_width flags word (nat_eq n 3)) (unit_by_width flags word (nat_eq n 3))) op
    ∙ ap (λ c. or_else (by_width flags word c) (unit_by_width flags word c)) narrow
    ∙ ap (decode_half flags) low

-- the halfword 0 is no instruction
pub decode_half_zero : (flags : IsaFlags) → decode_half flags 0 ≡ None
unfolding decode_half int_decode_half unit_decode_half
decode_half_zero flags = on flags.has_zca flags.has_zcd
  where
    on : (c d : Bool) → or_else (if c then by_quadrant flags 0 else None) (if c && d then unit_by_quadrant 0 else None) ≡ None
    on true true = refl
    on true false = refl
    on false d = refl

-- nor is a word whose low half it is
pub decode_zero : (flags : IsaFlags) (word : ℕ) → word % 2 ^ 16 ≡ 0 → decode flags word ≡ None
decode_zero flags word zero =
    let split : word ≡ 0 + word / 2 ^ 16 * 2 ^ 16 = omega arith in
    ap (decode flags) split ∙ decode_low flags 0 (word / 2 ^ 16) (lit< tt) refl ∙ decode_half_zero flags
