-- Code as lines, and lines as code.
use Rattle.std.specs.Prelude.{◌≡◌, ◌≢◌, ℕ, Bool, MatchBool, if◌then◌else◌, nat_eq, List, [], ◌++◌, map, codes, Result, Some, None, Ok, Err}
use Rattle.std.specs.List.{starts_with}
use Rattle.hex.specs.Hex.{encode_lower}
use Rattle.rv_load.specs.declared.program.Program.{Program}
use Rattle.rv_load.specs.Report.{reads_report}
use Rattle.rv_load.specs.Hex.{reads_hex}
use Rattle.rv_dump.specs.declared.marks.Mark.{Mark}
use Rattle.rv_dump.specs.Marks.{seen, AreMarks}
use Rattle.rv_dump.specs.Dump.{dump_text}
use Rattle.rv_dump.specs.Reading.{reads_dump}
use Rattle.rvdis.specs.declared.making.Given.{Given}
use Rattle.rvdis.specs.declared.making.MakeError.{MakeError}
use Rattle.rvdis.specs.declared.making.MakeError.TheVariants as errors

-- ---- code as lines

-- a report begins so, and no hexadecimal digits do
abbrev pub is_report : List ℕ → Bool
is_report input = starts_with nat_eq input (codes "code ")

-- these lines of code, which are read back to it; there are none where they wouldn't be. Being out of memory says nothing
abbrev pub Writes : Given → List ℕ → List ℕ → Result (List ℕ) MakeError → Type 0
Writes g lines code (Ok text) = (text ≡ lines) × (reads_dump g.flags g.base text ≡ Ok code)
Writes g lines code (Err (errors.NotReport line)) = ⊥
Writes g lines code (Err errors.NotHex) = ⊥
Writes g lines code (Err (errors.NotLine line)) = ⊥
Writes g lines code (Err errors.NotReadBack) = reads_dump g.flags g.base lines ≢ Ok code
Writes g lines code (Err errors.OutOfMemory) = Unit {0}

abbrev pub OfReport : Given → List ℕ → Result (List ℕ) MakeError → Type 0
OfReport g input result =
    (p : Program) ×
    (marks : List Mark) ×
    (reads_report input ≡ Ok p) ×
    AreMarks input marks ×
    Writes g (dump_text g.flags g.base (map seen marks) p.bytes) p.bytes result

-- the lines of a report's code with its marks, or the first line that no report has there
abbrev pub DumpsReport : Given → List ℕ → Result (List ℕ) MakeError → Type 0
DumpsReport g input (Ok text) = OfReport g input (Ok text)
DumpsReport g input (Err (errors.NotReport line)) = reads_report input ≡ Err line
DumpsReport g input (Err errors.NotHex) = ⊥
DumpsReport g input (Err (errors.NotLine line)) = ⊥
DumpsReport g input (Err errors.NotReadBack) = OfReport g input (Err errors.NotReadBack)
DumpsReport g input (Err errors.OutOfMemory) = Unit {0}

-- text that is read back to the code of a report
abbrev pub IsCodeOf : Given → List ℕ → List ℕ → Type 0
IsCodeOf g report text = (p : Program) × (reads_report report ≡ Ok p) × (reads_dump g.flags g.base text ≡ Ok p.bytes)

-- the lines of the code that hexadecimal digits give
abbrev pub OfHex : Given → List ℕ → Result (List ℕ) MakeError → Type 0
OfHex g input result = (bytes : List ℕ) × (reads_hex input ≡ Some bytes) × Writes g (dump_text g.flags g.base [] bytes) bytes result

abbrev pub DumpsHex : Given → List ℕ → Result (List ℕ) MakeError → Type 0
DumpsHex g input (Ok text) = OfHex g input (Ok text)
DumpsHex g input (Err (errors.NotReport line)) = ⊥
DumpsHex g input (Err errors.NotHex) = reads_hex input ≡ None
DumpsHex g input (Err (errors.NotLine line)) = ⊥
DumpsHex g input (Err errors.NotReadBack) = OfHex g input (Err errors.NotReadBack)
DumpsHex g input (Err errors.OutOfMemory) = Unit {0}

-- the lines of bytes
abbrev pub DumpsRaw : Given → List ℕ → Result (List ℕ) MakeError → Type 0
DumpsRaw g input result = Writes g (dump_text g.flags g.base [] input) input result

abbrev pub Dumps : Given → List ℕ → Result (List ℕ) MakeError → Type 0
Dumps g input result = MatchBool g.is_raw (DumpsRaw g input result) (MatchBool (is_report input) (DumpsReport g input result) (DumpsHex g input result))

-- ---- lines as code

-- a line of hexadecimal digits
abbrev pub digits_of : List ℕ → List ℕ
digits_of bytes = encode_lower bytes ++ codes "\n"

abbrev pub code_text : Bool → List ℕ → List ℕ
code_text is_raw bytes = if is_raw then bytes else digits_of bytes

-- the code of lines, or the first that is no line of this code
abbrev pub Reads : Given → List ℕ → Result (List ℕ) MakeError → Type 0
Reads g input (Ok text) = (bytes : List ℕ) × (reads_dump g.flags g.base input ≡ Ok bytes) × (text ≡ code_text g.is_raw bytes)
Reads g input (Err (errors.NotReport line)) = ⊥
Reads g input (Err errors.NotHex) = ⊥
Reads g input (Err (errors.NotLine line)) = reads_dump g.flags g.base input ≡ Err line
Reads g input (Err errors.NotReadBack) = ⊥
Reads g input (Err errors.OutOfMemory) = Unit {0}

-- ---- both

abbrev pub Makes : Given → List ℕ → Result (List ℕ) MakeError → Type 0
Makes g input result = MatchBool g.is_reasm (Reads g input result) (Dumps g input result)
