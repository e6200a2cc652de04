-- A whole listing: the job that it means, or its first bad line.
use Rattle.std.specs.Prelude.{◌≡◌, ℕ, ◌+◌, Bool, not, ◌&&◌, List, [], ◌∷◌, ◌++◌, length, Option, Some, None, Result, Ok, Err, nat_lt, nat_le, ◌==◌, if◌then◌else◌, codes}
use Rattle.std.specs.List.{list_all}
use Rattle.std.specs.Str.{bytes_eq}
use Rattle.rv_base.specs.Flags.{no_flags}
use Rattle.rv_base.specs.Frame.{no_frame}
use Rattle.rv_inst.specs.declared.job.Job.{Job}
use Rattle.rv_listing.specs.Tokens.{◌>>=◌, starts, lines_of, words_of}
use Rattle.rv_listing.specs.Forms.{line_form}
use Rattle.rv_listing.specs.FlagsHeader.{flags_form}
use Rattle.rv_listing.specs.FrameHeader.{frame_form}
use Rattle.rv_listing.specs.ConstantHeader.{constant_form}
use Rattle.rv_listing.specs.declared.fields.LineError.{LineError}
use Rattle.rv_listing.specs.declared.fields.LineError.TheVariants as bad
use Rattle.rv_listing.specs.declared.reading.Draft.{Draft}
use Rattle.rv_listing.specs.declared.reading.Place.{Place}
use Rattle.rv_listing.specs.declared.reading.Place.TheVariants.{AtFlags, AtFrame, AtConstants, AtLines}
use Rattle.rv_listing.specs.declared.reading.ReadError.{ReadError}
use Rattle.rv_listing.specs.declared.reading.ReadError.TheVariants as errors

-- the job of no lines, for a machine and a frame of nothing
abbrev pub no_job : Job
no_job = record { lines = []; flags = no_flags; frame = no_frame; constants = [] }

-- before the first line
abbrev pub no_draft : Draft
no_draft = record { job = no_job; place = AtFlags }

-- what a comment may have: ASCII, and no CR
abbrev pub is_plain : ℕ → Bool
is_plain c = nat_lt c 128 && not (c == 13)

-- the places in the order of a listing
abbrev pub order : Place → ℕ
order AtFlags = 0
order AtFrame = 1
order AtConstants = 2
order AtLines = 3

-- what a header line says, where it may stand: up to the last place for its kind
abbrev pub up_to : {A : Type 0} → Place → Place → Option A → Option A
up_to last place said = if nat_le (order place) (order last) then said else None

abbrev pub with_flags : Draft → List (List ℕ) → Option Draft
with_flags draft ws = up_to AtFlags draft.place (flags_form ws) >>= λ flags. Some (record { job = record draft.job { flags = flags }; place = AtFrame })

abbrev pub with_frame : Draft → List (List ℕ) → Option Draft
with_frame draft ws = up_to AtFrame draft.place (frame_form ws) >>= λ frame. Some (record { job = record draft.job { frame = frame }; place = AtConstants })

abbrev pub with_constant : Draft → List (List ℕ) → Option Draft
with_constant draft ws =
    up_to AtConstants draft.place (constant_form ws) >>= λ constant.
    Some (record { job = record draft.job { constants = draft.job.constants ++ constant ∷ [] }; place = AtConstants })

abbrev pub with_form : Draft → List ℕ → List (List ℕ) → Option Draft
with_form draft name ws = line_form name ws >>= λ line. Some (record { job = record draft.job { lines = draft.job.lines ++ line ∷ [] }; place = AtLines })

-- a header line, or a line of the job
unfoldable pub with_named : Draft → List ℕ → List (List ℕ) → Option Draft
with_named draft name ws =
    if bytes_eq name (codes "flags") then with_flags draft ws else
    if bytes_eq name (codes "frame") then with_frame draft ws else
    if bytes_eq name (codes "const") then with_constant draft ws else with_form draft name ws

abbrev pub with_words : Draft → List (List ℕ) → Option Draft
with_words draft [] = None
with_words draft (name ∷ ws) = with_named draft name ws

-- A line after what was read so far. One that is empty or begins with # says nothing.
unfoldable pub with_line : Draft → List ℕ → Option Draft
with_line draft line =
    if length line == 0 then Some draft else
    if starts 35 line then (if list_all is_plain line then Some draft else None) else with_words draft (words_of line)

abbrev pub or_line : {A : Type 0} → ℕ → Option A → (A → Result A ℕ) → Result A ℕ
or_line n None f = Err n
or_line n (Some x) f = f x

-- all lines from number n on, or the number of the first that isn't allowed
abbrev pub reading : ℕ → Draft → List (List ℕ) → Result Draft ℕ
reading n draft [] = Ok draft
reading n draft (l ∷ ls) = or_line n (with_line draft l) (λ next. reading (n + 1) next ls)

abbrev pub job_of : Result Draft ℕ → Result Job ℕ
job_of (Ok draft) = Ok draft.job
job_of (Err n) = Err n

-- the job that a text means, or its first bad line, from 1
abbrev pub reads : List ℕ → Result Job ℕ
reads text = job_of (reading 1 no_draft (lines_of text))

-- a draft that a line was taken into, or a line that isn't allowed; out of memory says nothing
abbrev pub Becomes : Option Draft → Draft → Result Unit LineError → Type 0
Becomes taken new (Ok x) = taken ≡ Some new
Becomes taken new (Err bad.NotAllowed) = taken ≡ None
Becomes taken new (Err bad.OutOfMemory) = Unit {0}

-- what a reader of the text returned; out of memory says nothing
abbrev pub Reads : List ℕ → Result Job ReadError → Type 0
Reads text (Ok job) = reads text ≡ Ok job
Reads text (Err (errors.Syntax n)) = reads text ≡ Err n
Reads text (Err errors.OutOfMemory) = Unit {0}

-- A line is the first bad one: those before it have a reading, and this one after them has none.
pub record IsBadLine (text : List ℕ) (n : ℕ) : Type 0 where
  pub before : List (List ℕ)
  pub line : List ℕ
  pub after : List (List ℕ)
  pub sofar : Draft
  pub cut : lines_of text ≡ before ++ line ∷ after
  pub count : n ≡ length before + 1
  pub fine : reading 1 no_draft before ≡ Ok sofar
  pub refused : with_line sofar line ≡ None
