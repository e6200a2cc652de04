-- A report read back, line by line: the bytes of the code, where the lines and the labels of its listing stand in it, and what a linker
-- fills.
use Rattle.std.specs.Prelude.{◌≡◌, ℕ, ◌+◌, ◌-◌, ◌^◌, Bool, false, ◌&&◌, List, [], ◌∷◌, ◌++◌, length, min, Option, Some, None, Result, Ok, Err, nat_lt, nat_le, ◌==◌, if◌then◌else◌, codes}
use Rattle.std.specs.Option.{option_map_or}
use Rattle.std.specs.Str.{bytes_eq}
use Rattle.std.specs.Int.{w32, to_be_bytes}
use Rattle.hex.specs.Hex.{encode_lower}
use Rattle.mach_records.specs.declared.records.MachReloc.{MachReloc}
use Rattle.mach_uses.specs.declared.uses.LabelPlace.{LabelPlace}
use Rattle.rv_inst.specs.declared.code.LineSpan.{LineSpan}
use Rattle.rv_listing.specs.Tokens.{◌>>=◌, below, lines_of, words_of, decimal}
use Rattle.rv_listing.specs.Fields.{field, no_more}
use Rattle.rv_listing.specs.Traps.{trap_named}
use Rattle.rv_base.specs.declared.trap.TrapCode.{TrapCode}
use Rattle.rv_listing.specs.declared.fields.LineError.{LineError}
use Rattle.rv_listing.specs.declared.fields.LineError.TheVariants as bad
use Rattle.rv_listing.specs.HexDigits.{hex_bytes}
use Rattle.rv_load.specs.Records.{number_32, label_words, reloc_words, is_within, try_words, are_handlers, map_words, are_entries, unwind_words}
use Rattle.rv_load.specs.declared.program.Program.{Program}
use Rattle.rv_load.specs.declared.program.ProgramError.{ProgramError}
use Rattle.rv_load.specs.declared.program.ProgramError.TheVariants as errors
use Rattle.rv_load.specs.declared.report.Part.{Part}
use Rattle.rv_load.specs.declared.report.Part.TheVariants.{Nothing, Bytes, Lines, Returns, Labels, Constants, Relocations, Traps, Calls, Tries, Patches, Maps, Unwinds, Texts, End}
use Rattle.rv_load.specs.declared.report.Draft.{Draft}

abbrev pub blank : Draft
blank = record { part = Nothing; count = 0; bytes = []; lines = []; labels = []; relocs = [] }

-- the place of a part in a report
abbrev pub rank : Part → ℕ
rank Nothing = 0
rank Bytes = 1
rank Lines = 2
rank Returns = 3
rank Labels = 4
rank Constants = 5
rank Relocations = 6
rank Traps = 7
rank Calls = 8
rank Tries = 9
rank Patches = 10
rank Maps = 11
rank Unwinds = 12
rank Texts = 13
rank End = 14

-- all bytes have come, and no later part
abbrev pub may_have : Part → Draft → Bool
may_have part d = nat_lt 0 (rank d.part) && nat_le (rank d.part) (rank part) && length d.bytes == d.count

-- a number that is the last word
abbrev pub one_number : List (List ℕ) → Option ℕ
one_number ws = field decimal ws >>= no_more

-- `code N`: the code has N bytes, fewer than 2^32
abbrev pub head_line : Draft → List (List ℕ) → Option Draft
head_line d ws = one_number ws >>= λ n. below (2 ^ 32) n >>= λ count. if rank d.part == 0 then Some (record d { part = Bytes; count = count }) else None

-- how many bytes the next row has
abbrev pub row_length : Draft → ℕ
row_length d = min 16 (d.count - length d.bytes)

abbrev pub with_bytes : Draft → List ℕ → Option Draft
with_bytes d bytes = if nat_lt 0 (length bytes) && length bytes == row_length d then Some (record d { bytes = d.bytes ++ bytes }) else None

-- the offset in eight hexadecimal digits
abbrev pub is_offset : List ℕ → ℕ → Bool
is_offset w offset = nat_lt offset (2 ^ 32) && bytes_eq w (encode_lower (to_be_bytes w32 offset))

-- bytes that are the last word
abbrev pub last_bytes : List (List ℕ) → Option (List ℕ)
last_bytes ws = field hex_bytes ws >>= no_more

-- `OFFSET BYTES`: the next sixteen bytes, or the rest
abbrev pub row_line : Draft → List ℕ → List (List ℕ) → Option Draft
row_line d offset ws = last_bytes ws >>= λ bytes. if rank d.part == 1 && is_offset offset (length d.bytes) then with_bytes d bytes else None

-- three numbers that are the last words
abbrev pub three_numbers : List (List ℕ) → Option (ℕ × ℕ × ℕ)
three_numbers ws = field decimal ws >>= λ a. field decimal a.1 >>= λ b. field decimal b.1 >>= λ c. no_more ((a.0, b.0, c.0), c.1)

-- a line's number, and where its bytes begin and end
abbrev pub span_of : Draft → ℕ × ℕ × ℕ → Option LineSpan
span_of d n =
    if may_have Lines d && nat_le n.1 n.2 && nat_le n.2 d.count && nat_lt n.2 (2 ^ 32)
    then Some (record { index = n.0; start = n.1; «end» = n.2 }) else None

-- `line I START END`
abbrev pub span_line : Draft → List (List ℕ) → Option Draft
span_line d ws = three_numbers ws >>= λ n. span_of d n >>= λ span. Some (record d { part = Lines; lines = d.lines ++ span ∷ [] })

-- a line of this part for an offset, which is at most the code's length
abbrev pub at_offset : Part → Draft → ℕ → Option Draft
at_offset part d offset = if may_have part d && nat_le offset d.count then Some (record d { part = part }) else None

-- the offset after a line's number
abbrev pub return_offset : List (List ℕ) → Option ℕ
return_offset ws = field decimal ws >>= λ i. one_number i.1

-- `return I OFFSET`
abbrev pub return_line : Draft → List (List ℕ) → Option Draft
return_line d ws = return_offset ws >>= at_offset Returns d

-- one more label
abbrev pub with_label : LabelPlace → Draft → Draft
with_label l d = record d { labels = d.labels ++ l ∷ [] }

-- `label LN OFFSET`
abbrev pub label_line : Draft → List (List ℕ) → Option Draft
label_line d ws = label_words ws >>= λ l. at_offset Labels d l.offset >>= λ next. Some (with_label l next)

-- the offset after a constant's number, which is of 32 bits
abbrev pub const_offset : List (List ℕ) → Option ℕ
const_offset ws = field number_32 ws >>= λ k. one_number k.1

-- `const K OFFSET`
abbrev pub const_line : Draft → List (List ℕ) → Option Draft
const_line d ws = const_offset ws >>= at_offset Constants d

-- one more relocation
abbrev pub with_reloc : MachReloc → Draft → Draft
with_reloc r d = record d { relocs = d.relocs ++ r ∷ [] }

-- `reloc OFFSET KIND TARGET ADDEND`; a place in the code is at most the code's length
abbrev pub reloc_line : Draft → List (List ℕ) → Option Draft
reloc_line d ws = reloc_words ws >>= λ r. if is_within d.count r.target then (at_offset Relocations d r.offset >>= λ next. Some (with_reloc r next)) else None

-- an offset and a cause, where they are the last words
abbrev pub trap_words : List (List ℕ) → Option (ℕ × TrapCode)
trap_words ws = field decimal ws >>= λ a. field trap_named a.1 >>= λ b. no_more ((a.0, b.0), b.1)

-- `trap OFFSET CAUSE`
abbrev pub trap_line : Draft → List (List ℕ) → Option Draft
trap_line d ws = trap_words ws >>= λ t. at_offset Traps d t.0

-- `call OFFSET`
abbrev pub call_line : Draft → List (List ℕ) → Option Draft
call_line d ws = one_number ws >>= at_offset Calls d

-- `try OFFSET FRAME HANDLERS`; a handler's place is at most the code's length
abbrev pub try_line : Draft → List (List ℕ) → Option Draft
try_line d ws = try_words ws >>= λ t. if are_handlers d.count t.1 then at_offset Tries d t.0 else None

-- an offset and a length of 32 bits, which is the last word
abbrev pub patch_words : List (List ℕ) → Option (ℕ × ℕ)
patch_words ws = field decimal ws >>= λ a. field number_32 a.1 >>= λ b. no_more ((a.0, b.0), b.1)

-- `patch OFFSET LENGTH`
abbrev pub patch_line : Draft → List (List ℕ) → Option Draft
patch_line d ws = patch_words ws >>= λ p. at_offset Patches d p.0

-- `map OFFSET SPAN ENTRIES`
abbrev pub map_line : Draft → List (List ℕ) → Option Draft
map_line d ws = map_words ws >>= λ m. if are_entries m.1 then at_offset Maps d m.0 else None

-- `unwind OFFSET STEP`
abbrev pub unwind_line : Draft → List (List ℕ) → Option Draft
unwind_line d ws = unwind_words ws >>= λ u. at_offset Unwinds d u.0

-- the number of a line, with a word after it at least
abbrev pub has_text : List (List ℕ) → Bool
has_text ws = option_map_or (λ i. nat_lt 0 (length i.1)) (field decimal ws) false

-- `text I TEXT`, whatever the text is
abbrev pub text_line : Draft → List (List ℕ) → Option Draft
text_line d ws = if has_text ws && may_have Texts d then Some (record d { part = Texts }) else None

-- `end OFFSET`
abbrev pub end_line : Draft → List (List ℕ) → Option Draft
end_line d ws = one_number ws >>= λ n. if may_have Texts d && nat_le n d.count then Some (record d { part = End }) else None

abbrev pub by_name : Draft → List ℕ → List (List ℕ) → Option Draft
by_name d name ws =
    if bytes_eq name (codes "line") then span_line d ws else
    if bytes_eq name (codes "return") then return_line d ws else
    if bytes_eq name (codes "label") then label_line d ws else
    if bytes_eq name (codes "const") then const_line d ws else
    if bytes_eq name (codes "reloc") then reloc_line d ws else
    if bytes_eq name (codes "trap") then trap_line d ws else
    if bytes_eq name (codes "call") then call_line d ws else
    if bytes_eq name (codes "try") then try_line d ws else
    if bytes_eq name (codes "patch") then patch_line d ws else
    if bytes_eq name (codes "map") then map_line d ws else
    if bytes_eq name (codes "unwind") then unwind_line d ws else
    if bytes_eq name (codes "text") then text_line d ws else
    if bytes_eq name (codes "code") then head_line d ws else
    if bytes_eq name (codes "end") then end_line d ws else
    row_line d name ws

abbrev pub by_words : Draft → List (List ℕ) → Option Draft
by_words d [] = None
by_words d (name ∷ ws) = by_name d name ws

-- what the lines so far gave, with one more
unfoldable pub with_line : Draft → List ℕ → Option Draft
with_line d line = by_words d (words_of line)

-- the code of a report that is whole; the number of the line that is missing, where it isn't
abbrev pub whole_at : ℕ → Draft → Result Program ℕ
whole_at n d = if rank d.part == 14 then Ok (record { bytes = d.bytes; lines = d.lines; labels = d.labels; relocs = d.relocs }) else Err n

-- what comes of a line that is number n
abbrev pub or_line : ℕ → Option Draft → (Draft → Result Program ℕ) → Result Program ℕ
or_line n None f = Err n
or_line n (Some d) f = f d

-- all lines from number n on; the number of the first that no report has there
abbrev pub reading : ℕ → Draft → List (List ℕ) → Result Program ℕ
reading n d [] = whole_at n d
reading n d (l ∷ ls) = or_line n (with_line d l) (λ next. reading (n + 1) next ls)

-- the code that a report gives, or the number of the first line that no report has there, from 1
abbrev pub reads_report : List ℕ → Result Program ℕ
reads_report text = reading 1 blank (lines_of text)

-- what a reader of a line made of a draft; being out of memory says nothing
abbrev pub MakesDraft : Option Draft → Draft → Result Unit LineError → Type 0
MakesDraft made new (Ok x) = made ≡ Some new
MakesDraft made new (Err bad.NotAllowed) = made ≡ None
MakesDraft made new (Err bad.OutOfMemory) = Unit {0}

-- what a reader of a report returned; being out of memory says nothing
abbrev pub ReadsReport : List ℕ → Result Program ProgramError → Type 0
ReadsReport text (Ok program) = reads_report text ≡ Ok program
ReadsReport text (Err (errors.NotReport n)) = reads_report text ≡ Err n
ReadsReport text (Err errors.NotHex) = ⊥
ReadsReport text (Err errors.OutOfMemory) = Unit {0}
