-- How a call of the program ends, and why.
use Rattle.std.specs.Prelude.{◌≡◌, ℕ, ◌+◌, ◌<◌, ◌≤◌, ◌⊎◌, nat_lt, Bool, true, false, List, [], ◌++◌, length, slice_get, if◌then◌else◌, Option, Some, None, Result, Ok, Err, IfSome, unwrap_or, option_map, codes}
use Rattle.std.specs.Borrow.{Bor}
use Rattle.std.specs.Io.KnownBytes.{Appends}
use Rattle.std.specs.Fmt.{decimal}
use Rattle.std.specs.FinMap as map
use Rattle.mach_records.specs.declared.records.MachReloc.{MachReloc}
use Rattle.rv_base.specs.declared.reloc.Reloc.{Reloc}
use Rattle.rv_base.specs.declared.reloc.Reloc.TheVariants.{RiscvCallPlt, RiscvGotHi20, RiscvPCRelHi20, RiscvPCRelLo12I, Abs8}
use Rattle.rv_fill.specs.declared.error.PlaceError.{PlaceError}
use Rattle.rv_fill.specs.declared.error.PlaceError.TheVariants as place
use Rattle.rv_fill.specs.Filled.{table_of, IsFilled}
use Rattle.rv_fill.specs.Refusal.{refusal}
use Rattle.rv_listing.specs.Relocations.{target_text}
use Rattle.rv_machine.specs.State.{State, byte}
use Rattle.rv_full.specs.Units.{put}
use Rattle.rv_full.specs.Steps.{Machine, fiter}
use Rattle.rv_stream.specs.Ends.{Rose, TookFront, Gave}
use Rattle.rv_load.specs.declared.given.Given.{Given}
use Rattle.rv_load.specs.declared.program.Program.{Program}
use Rattle.rv_load.specs.declared.program.ProgramError.{ProgramError}
use Rattle.rv_load.specs.declared.program.ProgramError.TheVariants as program_errors
use Rattle.rv_load.specs.declared.settings.Settings.{Settings}
use Rattle.rv_load.specs.declared.settings.BadWord.{BadWord}
use Rattle.rv_load.specs.declared.settings.BadWord.TheVariants as bad
use Rattle.rv_load.specs.declared.settings.Named.{Named}
use Rattle.rv_load.specs.declared.settings.Named.TheVariants as named
use Rattle.rv_load.specs.declared.words.WordsError.TheVariants as words_errors
use Rattle.rv_load.specs.Command.{Parses}
use Rattle.rv_load.specs.Hex.{ReadsHex}
use Rattle.rv_load.specs.Report.{ReadsReport}
use Rattle.rv_load.specs.Words.{settings_of}
use Rattle.rv_steps.specs.Files.{unit_lines}
use Rattle.rv_steps.specs.Computed.{HostRuns, with_more}
use Rattle.rv_steps.specs.FullRunning.{IsIntegerEnd}
use Rattle.rv_run.specs.Memory.{memory_lines}
use Rattle.rv_run.specs.Output.{file, run_text}
use Rattle.rv_steps.specs.Running.{Runs}
use Rattle.rv_steps.specs.Starting.{begin}
use Rattle.rv_steps.specs.declared.ending.Ending.{Ending}
use Rattle.rv_steps.specs.declared.ending.Ending.TheVariants.{Left, Limit, Break, NoOperation, NeedsAnswer}
use Rattle.rv_run.specs.declared.result.Run.{Run}
use Rattle.rv_run.specs.declared.outcome.Outcome.{Outcome}
use Rattle.rv_run.specs.declared.outcome.Outcome.TheVariants as ends

-- ---- what is written

abbrev pub cause_text : BadWord → List ℕ
cause_text bad.Base = codes "no multiple of 4 with room for the code below 2^64"
cause_text bad.Flags = codes "no distinct names of m, zba, zbb, zca, zcb, zcd and zfhmin with commas between"
cause_text bad.From = codes "no number of a line of the listing"
cause_text bad.At = codes "no offset within the code, or one beside --from"
cause_text bad.Steps = codes "no number below 2^64"
cause_text (bad.Data index) = codes "no ADDRESS=HEX with an address below 2^64 and pairs of digits"
cause_text (bad.Register index) = codes "no REGISTER=VALUE with a register x1 to x31 or f0 to f31 and a value of 64 bits"
cause_text (bad.Twice index) = codes "sets a register that an earlier word sets"
cause_text (bad.Address named index) = codes "no NAME=ADDRESS with a name as userextname0 and an address below 2^64"
cause_text (bad.AddressTwice named index) = codes "gives a name that an earlier word gives"
cause_text (bad.Callee index) = codes "no NAME or NAME:REGISTER=VALUE,.. with a name whose address a --symbol gives, and each register once"
cause_text (bad.CalleeTwice index) = codes "gives a name that an earlier word gives"
cause_text bad.Setting = codes "no AVL,VTYPE with a vector length below 32 and a vtype below 256"
cause_text (bad.Answer index) = codes "no success, failure, bits:VALUE, length:N, vector:N=0xBITS or stored:HEX"
cause_text bad.Unit = codes "no unit, which host is"

abbrev pub word_line : BadWord → List ℕ → List ℕ
word_line cause word = codes "rvrun: " ++ word ++ codes ": " ++ cause_text cause ++ codes "\n"

-- the number of the relocation that an error is of
abbrev pub index_of : PlaceError → ℕ
index_of place.BadBase = 0
index_of (place.BadRecord index) = index
index_of (place.NoSymbol index) = index
index_of (place.OutOfReach index) = index
index_of place.OutOfMemory = 0

-- what it asks is the address of a slot
abbrev pub is_slot_kind : Reloc → Bool
is_slot_kind RiscvCallPlt = false
is_slot_kind RiscvGotHi20 = true
is_slot_kind RiscvPCRelHi20 = false
is_slot_kind RiscvPCRelLo12I = false
is_slot_kind Abs8 = false

abbrev pub is_of_slot : Option MachReloc → Bool
is_of_slot None = false
is_of_slot (Some r) = is_slot_kind r.kind

abbrev pub missing_text : Bool → List ℕ
missing_text of_slot = if of_slot then codes "no --slot gives its address" else codes "no --symbol gives its address"

-- why a relocation isn't filled
abbrev pub unplaced_text : PlaceError → Option MachReloc → List ℕ
unplaced_text place.BadBase reloc = codes "the code has no room"
unplaced_text (place.BadRecord index) reloc = codes "none that code of a listing has"
unplaced_text (place.NoSymbol index) reloc = missing_text (is_of_slot reloc)
unplaced_text (place.OutOfReach index) reloc = codes "out of reach"
unplaced_text place.OutOfMemory reloc = codes "out of memory"

-- where it stands, and what it refers to
abbrev pub reloc_text : Option MachReloc → List ℕ
reloc_text None = []
reloc_text (Some r) = codes " at " ++ decimal r.offset ++ codes " (" ++ target_text r.target ++ codes ")"

abbrev pub unplaced_line : PlaceError → Option MachReloc → List ℕ
unplaced_line error reloc = codes "rvrun: relocation " ++ decimal (index_of error) ++ reloc_text reloc ++ codes ": " ++ unplaced_text error reloc ++ codes "\n"

-- the text that a call with this outcome writes
abbrev pub text_of : Outcome → List ℕ
text_of (ends.Ran run) = run_text run
text_of (ends.Help text) = text
text_of (ends.Version text) = text
text_of (ends.Usage text) = text
text_of (ends.BadWord cause word) = word_line cause word
text_of (ends.NotReport line) = codes "rvrun: no report at line " ++ decimal line ++ codes "\n"
text_of (ends.Unplaced error reloc) = unplaced_line error reloc
text_of ends.NotHex = codes "rvrun: no hexadecimal digits in pairs\n"
text_of ends.TooLong = codes "rvrun: too long\n"
text_of ends.ReadFault = []
text_of ends.WriteFault = []
text_of ends.OutOfMemory = []

-- 9 where an operation wants an answer
abbrev pub run_status : Ending → ℕ
run_status (Left address) = 0
run_status Limit = 0
run_status (Break offset) = 0
run_status (NoOperation offset word) = 0
run_status (NeedsAnswer offset word) = 9

abbrev pub status_of : Outcome → ℕ
status_of (ends.Ran run) = run_status run.ending
status_of (ends.Help text) = 0
status_of (ends.Version text) = 0
status_of (ends.Usage text) = 2
status_of (ends.BadWord cause word) = 2
status_of (ends.NotReport line) = 3
status_of ends.NotHex = 3
status_of (ends.Unplaced error reloc) = 4
status_of ends.ReadFault = 5
status_of ends.WriteFault = 6
status_of ends.TooLong = 7
status_of ends.OutOfMemory = 8

-- ---- what the words and an input mean

-- the code that the input gives, or why it gives none, as hexadecimal digits or a report
abbrev pub Loads : Bool → List ℕ → Result Program ProgramError → Type 0
Loads true = ReadsHex
Loads false = ReadsReport

-- What is shown is of the machine that so many steps of the model and of callees reach from the one that the words and the program give,
-- with the answers of the words and then those that the host computes, where the words name it; and the run ended there for this cause.
pub record IsRun (s : Settings) (p : Program) (run : Run) : Type 0 where
  pub first : Machine
  pub last : Machine
  pub begins : begin s p ≡ Ok first
  pub ran :
      HostRuns s.host s.trace s.callees s.flags s.base (length p.bytes) s.steps first.full (run.steps + run.calls) run.calls last.full run.ending run.trace
  -- where no callee is given, all steps are the model's
  pub own : s.callees ≡ [] → (run.calls ≡ 0) × (fiter s.flags run.steps (with_more ran.more first.full) ≡ Some last.full)
  -- and then a run of the integer machine is this one, where no unit goes on at its end: as many steps, to the same state and cause, and all else
  -- as it was
  pub integer : s.callees ≡ [] → (k : ℕ) (t : State) (ending : Ending) → Runs s.flags s.base (length p.bytes) s.steps first.full.state k t ending → IsIntegerEnd s.flags (put t first.full) ending
      → (run.steps ≡ k) × (last.full ≡ put t first.full) × (run.ending ≡ ending)
  -- what has no byte written at the end is as it was
  pub unwritten : (a : ℕ) → map.get last.full.state.values.mem a ≡ None → byte last.full.state.values.mem a ≡ byte first.full.state.values.mem a
  pub flags : run.flags ≡ s.flags
  pub has_callees : run.has_callees ≡ nat_lt 0 (length s.callees)
  pub before : run.before ≡ file 31 first.full.state.values
  pub after : run.after ≡ file 31 last.full.state.values
  pub units : run.units ≡ unit_lines first.full.units last.full.units
  pub memory : run.memory ≡ memory_lines first.full.state.values.mem last.full.state.values.mem

-- the text of a word, where it was given
abbrev pub given_text : Option (Bor (List ℕ)) → List ℕ
given_text given = unwrap_or (option_map (λ s. s.now) given) []

-- the word of a number in a list
abbrev pub listed_text : List (Bor (List ℕ)) → ℕ → List ℕ
listed_text words index = given_text (slice_get words index)

-- the words that give addresses
abbrev pub addresses_of : Given → Named → List (Bor (List ℕ))
addresses_of g named.Symbol = g.symbols
addresses_of g named.Slot = g.slots

-- the text of a bad word
abbrev pub word_text : Given → BadWord → List ℕ
word_text g bad.Base = given_text g.base
word_text g bad.Flags = given_text g.flags
word_text g bad.From = given_text g.from
word_text g bad.At = given_text g.at
word_text g bad.Steps = given_text g.steps
word_text g (bad.Data index) = listed_text g.memory index
word_text g (bad.Register index) = listed_text g.registers index
word_text g (bad.Twice index) = listed_text g.registers index
word_text g (bad.Address named index) = listed_text (addresses_of g named) index
word_text g (bad.AddressTwice named index) = listed_text (addresses_of g named) index
word_text g (bad.Callee index) = listed_text g.callees index
word_text g (bad.CalleeTwice index) = listed_text g.callees index
word_text g bad.Setting = given_text g.setting
word_text g (bad.Answer index) = listed_text g.answers index
word_text g bad.Unit = given_text g.unit

-- why the code can't stand at its base with the addresses that the words give, if it can't
abbrev pub unplaced : Settings → Program → Option PlaceError
unplaced s p = refusal (length p.bytes) p.relocs s.base (table_of s.symbols) (table_of s.slots)

-- a program that is another one with its relocations filled by these addresses, none of which is refused
pub record IsLinked (s : Settings) (p q : Program) : Type 0 where
  pub placed : unplaced s p ≡ None
  pub filled : IsFilled p.bytes p.relocs s.base (table_of s.symbols) (table_of s.slots) q.bytes
  pub lines : q.lines ≡ p.lines

-- The word that doesn't fit a program: there is no room from the base on, or none where the run is to begin. That is the same of the
-- program with its relocations filled, which has as many bytes and the same lines.
abbrev pub IsUnfit : Settings → Program → BadWord → Type 0
IsUnfit s p cause = ((unplaced s p ≡ Some place.BadBase) × (cause ≡ bad.Base)) ⊎ ((unplaced s p ≡ None) × (begin s p ≡ Err cause))

-- the relocation that an error is of
abbrev pub reloc_of : PlaceError → List MachReloc → Option MachReloc
reloc_of place.BadBase relocs = None
reloc_of (place.BadRecord index) relocs = slice_get relocs index
reloc_of (place.NoSymbol index) relocs = slice_get relocs index
reloc_of (place.OutOfReach index) relocs = slice_get relocs index
reloc_of place.OutOfMemory relocs = None

-- a relocation is refused so
abbrev pub IsRefused : Settings → Program → PlaceError → Type 0
IsRefused s p place.BadBase = ⊥
IsRefused s p (place.BadRecord index) = unplaced s p ≡ Some (place.BadRecord index)
IsRefused s p (place.NoSymbol index) = unplaced s p ≡ Some (place.NoSymbol index)
IsRefused s p (place.OutOfReach index) = unplaced s p ≡ Some (place.OutOfReach index)
IsRefused s p place.OutOfMemory = ⊥

-- the outcome of a program whose relocations are filled
abbrev pub OfLinked : Given → Settings → Program → Outcome → Type 0
OfLinked g s q (ends.Ran run) = IsRun s q run
OfLinked g s q (ends.BadWord cause word) = (begin s q ≡ Err cause) × (word ≡ word_text g cause)
OfLinked g s q (ends.Unplaced error reloc) = ⊥
OfLinked g s q (ends.NotReport line) = ⊥
OfLinked g s q ends.NotHex = ⊥
OfLinked g s q (ends.Help text) = ⊥
OfLinked g s q (ends.Version text) = ⊥
OfLinked g s q (ends.Usage text) = ⊥
OfLinked g s q ends.TooLong = ⊥
OfLinked g s q ends.ReadFault = ⊥
OfLinked g s q ends.WriteFault = ⊥
OfLinked g s q ends.OutOfMemory = ⊥

-- the outcome of a program
abbrev pub OfProgram : Given → Settings → Program → Outcome → Type 0
OfProgram g s p (ends.Ran run) = (q : Program) × IsLinked s p q × IsRun s q run
OfProgram g s p (ends.BadWord cause word) = IsUnfit s p cause × (word ≡ word_text g cause)
OfProgram g s p (ends.Unplaced error reloc) = IsRefused s p error × (reloc ≡ reloc_of error p.relocs)
OfProgram g s p (ends.NotReport line) = ⊥
OfProgram g s p ends.NotHex = ⊥
OfProgram g s p (ends.Help text) = ⊥
OfProgram g s p (ends.Version text) = ⊥
OfProgram g s p (ends.Usage text) = ⊥
OfProgram g s p ends.TooLong = ⊥
OfProgram g s p ends.ReadFault = ⊥
OfProgram g s p ends.WriteFault = ⊥
OfProgram g s p ends.OutOfMemory = ⊥

-- the outcome of an input that was read
abbrev pub Means : Given → Settings → List ℕ → Outcome → Type 0
Means g s input (ends.Ran run) = (p : Program) × Loads g.hex input (Ok p) × OfProgram g s p (ends.Ran run)
Means g s input (ends.BadWord cause word) = (p : Program) × Loads g.hex input (Ok p) × OfProgram g s p (ends.BadWord cause word)
Means g s input (ends.Unplaced error reloc) = (p : Program) × Loads g.hex input (Ok p) × OfProgram g s p (ends.Unplaced error reloc)
Means g s input (ends.NotReport line) = Loads g.hex input (Err (program_errors.NotReport line))
Means g s input ends.NotHex = Loads g.hex input (Err program_errors.NotHex)
Means g s input (ends.Help text) = ⊥
Means g s input (ends.Version text) = ⊥
Means g s input (ends.Usage text) = ⊥
Means g s input ends.TooLong = ⊥
Means g s input ends.ReadFault = ⊥
Means g s input ends.WriteFault = ⊥
Means g s input ends.OutOfMemory = ⊥

-- ---- a call

abbrev pub Words : Type 0
Words = List (List ℕ)

-- What a sink took before a call and after it, where that is known, and its counts of faults.
pub record Taken : Type 0 where
  pub taken : Option (List ℕ)
  pub taken_after : Option (List ℕ)
  pub faults : ℕ
  pub faults_after : ℕ

abbrev pub taken : Option (List ℕ) → Option (List ℕ) → ℕ → ℕ → Taken
taken old new before after = record { taken = old; taken_after = new; faults = before; faults_after = after }

-- nothing of a sink changed
pub record IsUntouched (t : Taken) : Type 0 where
  pub as_it_was : t.taken_after ≡ t.taken
  pub faults_stay : t.faults_after ≡ t.faults

-- What a call began with, and what it left: its words, the bytes left where they are known, the count of faults, and what standard output
-- and standard error took.
pub record Call : Type 0 where
  pub words : Words
  pub left : Option (List ℕ)
  pub left_after : Option (List ℕ)
  pub read_faults : ℕ
  pub read_faults_after : ℕ
  pub output : Taken
  pub errors : Taken

abbrev pub call : Words → Option (List ℕ) → Option (List ℕ) → ℕ → ℕ → Taken → Taken → Call
call words left left_after r r_after output errors = record {
  words = words;
  left = left;
  left_after = left_after;
  read_faults = r;
  read_faults_after = r_after;
  output = output;
  errors = errors;
}

abbrev pub limit : ℕ
limit = 16777216

-- the words give this of a run
pub record Asked (words : Words) (g : Given) (s : Settings) : Type 0 where
  pub parsed : Parses words (Ok g)
  pub set : settings_of g ≡ Ok s

-- the words ask for a run
abbrev pub AskRun : Words → Type 0
AskRun words = (g : Given) × (s : Settings) × Asked words g s

abbrev pub Asks : Call → Type 0
Asks c = AskRun c.words

-- all that was left was read, and it has this outcome
abbrev pub Read : Call → Outcome → Type 0
Read c outcome =
    (g : Given) ×
    (s : Settings) ×
    Asked c.words g s ×
    (input : List ℕ) ×
    IfSome c.left (λ left. input ≡ left) ×
    (length input ≤ limit) ×
    Means g s input outcome

-- a word says nothing of any run
abbrev pub IsBadWord : Call → BadWord → List ℕ → Type 0
IsBadWord c cause word = (g : Given) × Parses c.words (Ok g) × (settings_of g ≡ Err cause) × (word ≡ word_text g cause)

-- why a call has a text to write, and the outcome once it is written; too long is what gave more bytes than may be read, whatever
-- would have come after them
abbrev pub Due : Call → Outcome → Type 0
Due c (ends.Help text) = Parses c.words (Err (words_errors.Help text))
Due c (ends.Version text) = Parses c.words (Err (words_errors.Version text))
Due c (ends.Usage text) = Parses c.words (Err (words_errors.Wrong text))
Due c ends.TooLong = Asks c × Gave (λ n. limit < n) c.left c.left_after
Due c (ends.BadWord cause word) = IsBadWord c cause word ⊎ Read c (ends.BadWord cause word)
Due c outcome = Read c outcome

-- What was asked for is written to standard output: a run, help or the version. Why there is none of these is written to standard error.
abbrev pub is_asked : Outcome → Bool
is_asked (ends.Ran run) = true
is_asked (ends.Help text) = true
is_asked (ends.Version text) = true
is_asked (ends.Usage text) = false
is_asked (ends.BadWord cause word) = false
is_asked (ends.NotReport line) = false
is_asked ends.NotHex = false
is_asked (ends.Unplaced error reloc) = false
is_asked ends.TooLong = false
is_asked ends.ReadFault = false
is_asked ends.WriteFault = false
is_asked ends.OutOfMemory = false

-- the sink that is written to, and the other one
abbrev pub own_of : Bool → Taken → Taken → Taken
own_of true output errors = output
own_of false output errors = errors

abbrev pub other_of : Bool → Taken → Taken → Taken
other_of true output errors = errors
other_of false output errors = output

abbrev pub own : Outcome → Call → Taken
own outcome c = own_of (is_asked outcome) c.output c.errors

abbrev pub other : Outcome → Call → Taken
other outcome c = other_of (is_asked outcome) c.output c.errors

-- the text that was due was written to its sink, and nothing to the other
abbrev pub Wrote : Call → Outcome → Type 0
Wrote c outcome = Due c outcome × Appends (own outcome c).taken (own outcome c).taken_after (text_of outcome) × IsUntouched (other outcome c)

-- a front of a text that was due was written to its sink, and nothing to the other
abbrev pub WroteFront : Call → Type 0
WroteFront c =
    (outcome : Outcome) ×
    Due c outcome ×
    TookFront (own outcome c).taken (own outcome c).taken_after (text_of outcome) ×
    IsUntouched (other outcome c)

-- a fault of a sink
abbrev pub IsFault : Taken → Type 0
IsFault t = Rose t.faults t.faults_after

abbrev pub WriteFaults : Call → Type 0
WriteFaults c = IsFault c.output ⊎ IsFault c.errors

abbrev pub Untouched : Call → Type 0
Untouched c = IsUntouched c.output × IsUntouched c.errors

-- why a call ended so, and what it left written; a fault of the source came before more bytes than may be read
abbrev pub Ended : Call → Outcome → Type 0
Ended c ends.ReadFault = Asks c × Rose c.read_faults c.read_faults_after × Gave (λ n. n ≤ limit) c.left c.left_after × Untouched c
Ended c ends.WriteFault = WriteFaults c × WroteFront c
Ended c ends.OutOfMemory = Untouched c ⊎ WroteFront c
Ended c outcome = Wrote c outcome

-- A text was written and the outcome meant is returned, or a fault of the sink came, or memory ran out.
abbrev pub WritesTo : Outcome → Taken → Outcome → Type 0
WritesTo outcome t returned =
    ((returned ≡ outcome) × Appends t.taken t.taken_after (text_of outcome))
    ⊎ ((returned ≡ ends.WriteFault) × IsFault t × TookFront t.taken t.taken_after (text_of outcome))
    ⊎ ((returned ≡ ends.OutOfMemory) × TookFront t.taken t.taken_after (text_of outcome))

-- to one of two sinks, and nothing to the other
abbrev pub WritesOn : Bool → Outcome → Taken → Taken → Outcome → Type 0
WritesOn is_output outcome output errors returned = WritesTo outcome (own_of is_output output errors) returned × IsUntouched (other_of is_output output errors)

abbrev pub WritesText : Outcome → Taken → Taken → Outcome → Type 0
WritesText outcome output errors returned = WritesOn (is_asked outcome) outcome output errors returned
