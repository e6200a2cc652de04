-- The constants of `fli` (chapter "Zfa", "Load-Immediate Instructions"): their bits in each format, which numbers are found as
-- them, and their texts.
use Rattle.std.specs.Prelude.{ℕ, suc, ◌≡◌, ◌%◌, ◌^◌, ◌==◌, if◌then◌else◌, Bool, true, false, Option, Some, None, IsSomeAnd, List, [], ◌∷◌, slice_get, codes}
use Rattle.rv_base.specs.declared.ir_type.IrType.{IrType}
use Rattle.rv_base.specs.declared.ir_type.IrType.TheVariants.{I8, I16, I32, I64, I128, F16, F32, F64, F128, Vector}
use Rattle.rv_base.specs.RegNames.{name_at}

-- a constant's bits in a format, and how a number is compared with them: by its low bits, as many as the format has, or by all of
-- it; a format may lack a constant
pub data Pattern : Type 0 where
  Low : ℕ → Pattern
  Whole : ℕ → Pattern
  Absent : Pattern

abbrev pub has_pattern : ℕ → ℕ → Pattern → Bool
has_pattern width number (Low bits) = number % 2 ^ width == bits
has_pattern width number (Whole bits) = number == bits
has_pattern width number Absent = false

-- of binary16, from the constant 0 on; those that aren't normal numbers, and that of 2^-16 and of 2^-15, are compared whole
abbrev pub f16_patterns : List Pattern
f16_patterns =
    Low 0xbc00 ∷ Whole 0x0400 ∷ Whole 0x0100 ∷ Whole 0x0200 ∷
    Low 0x1c00 ∷ Low 0x2000 ∷ Low 0x2c00 ∷ Low 0x3000 ∷
    Low 0x3400 ∷ Low 0x3500 ∷ Low 0x3600 ∷ Low 0x3700 ∷
    Low 0x3800 ∷ Low 0x3900 ∷ Low 0x3a00 ∷ Low 0x3b00 ∷
    Low 0x3c00 ∷ Low 0x3d00 ∷ Low 0x3e00 ∷ Low 0x3f00 ∷
    Low 0x4000 ∷ Low 0x4100 ∷ Low 0x4200 ∷ Low 0x4400 ∷
    Low 0x4800 ∷ Low 0x4c00 ∷ Low 0x5800 ∷ Low 0x5c00 ∷
    Low 0x7800 ∷ Absent ∷ Whole 0x7c00 ∷ Whole 0x7e00 ∷ []

-- of binary32; that of what is no number is compared whole
abbrev pub f32_patterns : List Pattern
f32_patterns =
    Low 0xbf800000 ∷ Low 0x00800000 ∷ Low 0x37800000 ∷ Low 0x38000000 ∷
    Low 0x3b800000 ∷ Low 0x3c000000 ∷ Low 0x3d800000 ∷ Low 0x3e000000 ∷
    Low 0x3e800000 ∷ Low 0x3ea00000 ∷ Low 0x3ec00000 ∷ Low 0x3ee00000 ∷
    Low 0x3f000000 ∷ Low 0x3f200000 ∷ Low 0x3f400000 ∷ Low 0x3f600000 ∷
    Low 0x3f800000 ∷ Low 0x3fa00000 ∷ Low 0x3fc00000 ∷ Low 0x3fe00000 ∷
    Low 0x40000000 ∷ Low 0x40200000 ∷ Low 0x40400000 ∷ Low 0x40800000 ∷
    Low 0x41000000 ∷ Low 0x41800000 ∷ Low 0x43000000 ∷ Low 0x43800000 ∷
    Low 0x47000000 ∷ Low 0x47800000 ∷ Low 0x7f800000 ∷ Whole 0x7fc00000 ∷ []

-- of binary64
abbrev pub f64_patterns : List Pattern
f64_patterns =
    Whole 0xbff0000000000000 ∷ Whole 0x0010000000000000 ∷ Whole 0x3ef0000000000000 ∷ Whole 0x3f00000000000000 ∷
    Whole 0x3f70000000000000 ∷ Whole 0x3f80000000000000 ∷ Whole 0x3fb0000000000000 ∷ Whole 0x3fc0000000000000 ∷
    Whole 0x3fd0000000000000 ∷ Whole 0x3fd4000000000000 ∷ Whole 0x3fd8000000000000 ∷ Whole 0x3fdc000000000000 ∷
    Whole 0x3fe0000000000000 ∷ Whole 0x3fe4000000000000 ∷ Whole 0x3fe8000000000000 ∷ Whole 0x3fec000000000000 ∷
    Whole 0x3ff0000000000000 ∷ Whole 0x3ff4000000000000 ∷ Whole 0x3ff8000000000000 ∷ Whole 0x3ffc000000000000 ∷
    Whole 0x4000000000000000 ∷ Whole 0x4004000000000000 ∷ Whole 0x4008000000000000 ∷ Whole 0x4010000000000000 ∷
    Whole 0x4020000000000000 ∷ Whole 0x4030000000000000 ∷ Whole 0x4060000000000000 ∷ Whole 0x4070000000000000 ∷
    Whole 0x40e0000000000000 ∷ Whole 0x40f0000000000000 ∷ Whole 0x7ff0000000000000 ∷ Whole 0x7ff8000000000000 ∷ []

-- the first constant, of those from a row on, whose pattern the number has
abbrev pub first_row : ℕ → ℕ → ℕ → List Pattern → Option ℕ
first_row width number row [] = None
first_row width number row (pattern ∷ rest) = if has_pattern width number pattern then Some row else first_row width number (suc row) rest

-- a format's width in bits, and its patterns
pub record Format : Type 0 where
  pub width : ℕ
  pub patterns : List Pattern

abbrev pub format : ℕ → List Pattern → Format
format width patterns = record { width = width; patterns = patterns }

-- of the types that have constants
abbrev pub fli_format : IrType → Option Format
fli_format F16 = Some (format 16 f16_patterns)
fli_format F32 = Some (format 32 f32_patterns)
fli_format F64 = Some (format 64 f64_patterns)
fli_format I8 = None
fli_format I16 = None
fli_format I32 = None
fli_format I64 = None
fli_format I128 = None
fli_format F128 = None
fli_format (Vector v) = None

-- the constant that a number's bits are in a format
abbrev pub fli_row : Format → ℕ → Option ℕ
fli_row f number = first_row f.width number 0 f.patterns

-- whether the bits of a number are those of a format's constant
abbrev pub HasRow : Format → ℕ → ℕ → Type 0
HasRow f row number = IsSomeAnd (slice_get f.patterns row) (λ pattern. has_pattern f.width number pattern ≡ true)

-- ---- texts

abbrev pub fli_texts : List (List ℕ)
fli_texts =
    codes "-1.0" ∷ codes "min" ∷ codes "2^-16" ∷ codes "2^-15" ∷ codes "2^-8" ∷ codes "2^-7" ∷ codes "0.0625" ∷ codes "0.125" ∷
    codes "0.25" ∷ codes "0.3125" ∷ codes "0.375" ∷ codes "0.4375" ∷ codes "0.5" ∷ codes "0.625" ∷ codes "0.75" ∷ codes "0.875" ∷
    codes "1.0" ∷ codes "1.25" ∷ codes "1.5" ∷ codes "1.75" ∷ codes "2.0" ∷ codes "2.5" ∷ codes "3.0" ∷ codes "4.0" ∷
    codes "8.0" ∷ codes "16.0" ∷ codes "128.0" ∷ codes "256.0" ∷ codes "32768.0" ∷ codes "65536.0" ∷ codes "inf" ∷ codes "nan" ∷ []

abbrev pub fli_text : ℕ → List ℕ
fli_text row = name_at fli_texts row
