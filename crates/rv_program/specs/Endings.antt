-- How a call of a program ends, and what it left written.
use Rattle.std.specs.Prelude.{◌≡◌, ℕ, ◌<◌, ◌≤◌, ◌⊎◌, List, ◌++◌, length, Option, Result, Ok, Err, IfSome, OnOk, IsErrOf, codes, ◌==◌, if◌then◌else◌}
use Rattle.std.specs.Io.KnownBytes.{Appends, IsAtEnd, Keeps}
use Rattle.rv_stream.specs.Ends.{Rose, TookFront, Gave}
use Rattle.rv_stream.specs.declared.ends.WriteError.{WriteError}
use Rattle.rv_stream.specs.declared.ends.WriteError.TheVariants as write
use Rattle.rv_program.specs.Words as words
use Rattle.rv_program.specs.declared.answer.Answer.{Answer}
use Rattle.rv_program.specs.declared.answer.Asked.{Asked}
use Rattle.rv_program.specs.declared.answer.Asked.TheVariants.{Job, Done}
use Rattle.rv_program.specs.declared.ending.Ending.{Ending}
use Rattle.rv_program.specs.declared.ending.Ending.TheVariants as ends
use Rattle.rv_program.specs.declared.ending.Fault.{Fault}
use Rattle.rv_program.specs.declared.ending.Fault.TheVariants as fault

-- ---- statuses and texts

abbrev pub status_of : Ending → ℕ
status_of (ends.Answered status) = status
status_of (ends.NoWords fault) = words.status_of fault
status_of ends.ReadFault = 5
status_of ends.WriteFault = 6
status_of ends.TooLong = 7
status_of ends.OutOfMemory = 8

abbrev pub fault_text : Fault → List ℕ
fault_text fault.Read = codes ": standard input can't be read\n"
fault_text fault.Write = codes ": standard output can't be written\n"
fault_text fault.TooLong = codes ": too long\n"
fault_text fault.OutOfMemory = codes ": out of memory\n"

-- ---- streams

-- What a stream had before a call and has after it: the bytes left or taken, where they are known, and the counts of faults.
pub record Stream : Type 0 where
  pub bytes : Option (List ℕ)
  pub bytes_after : Option (List ℕ)
  pub faults : ℕ
  pub faults_after : ℕ

abbrev pub stream : Option (List ℕ) → Option (List ℕ) → ℕ → ℕ → Stream
stream bytes bytes_after faults faults_after = record { bytes = bytes; bytes_after = bytes_after; faults = faults; faults_after = faults_after }

abbrev pub input_limit : ℕ
input_limit = 16777216

-- a call of the stream failed
abbrev pub Failed : Stream → Type 0
Failed s = Rose s.faults s.faults_after

-- all that was left was read, to the end, and it is this
abbrev pub Read : Stream → List ℕ → Type 0
Read s input = IfSome s.bytes (λ left. input ≡ left) × (length input ≤ input_limit) × IsAtEnd s.bytes_after

-- the text was written, or a front of it
abbrev pub Wrote : Stream → List ℕ → Type 0
Wrote s text = Appends s.bytes s.bytes_after text

abbrev pub WroteFront : Stream → List ℕ → Type 0
WroteFront s text = TookFront s.bytes s.bytes_after text

-- nothing was written
abbrev pub WroteNothing : Stream → Type 0
WroteNothing s = Keeps s.bytes s.bytes_after

-- what a writer of a text returned, and did
pub record Writes (s : Stream) (text : List ℕ) (result : Result Unit WriteError) : Type 0 where
  pub all : OnOk result (Wrote s text)
  pub front : WroteFront s text
  pub failed : IsErrOf result write.Failed → Failed s
  pub later : s.faults ≤ s.faults_after

-- ---- an answer

-- all of an answer was written; a failure may be reported in part, since its status reports it, too
abbrev pub Whole : Answer → Stream → Stream → Type 0
Whole answer sink errors =
    Wrote sink answer.output
    × WroteFront errors (answer.notes ++ answer.error)
    × (answer.status ≡ 0 → Wrote errors (answer.notes ++ answer.error))

-- fronts of an answer were written, and after its notes why there is no more
abbrev pub Cut : List ℕ → Answer → Stream → Stream → Fault → Type 0
Cut name answer sink errors f =
    WroteFront sink answer.output
    × (WroteFront errors (answer.notes ++ (name ++ fault_text f)) ⊎ WroteFront errors (answer.notes ++ answer.error))

-- how a call ended that had an answer to write
abbrev pub Concludes : List ℕ → Answer → Stream → Stream → Ending → Type 0
Concludes name answer sink errors (ends.Answered status) = (status ≡ answer.status) × Whole answer sink errors
Concludes name answer sink errors (ends.NoWords fault) = ⊥
Concludes name answer sink errors ends.ReadFault = ⊥
Concludes name answer sink errors ends.WriteFault = (Failed sink ⊎ Failed errors) × Cut name answer sink errors fault.Write
Concludes name answer sink errors ends.TooLong = ⊥
Concludes name answer sink errors ends.OutOfMemory = Cut name answer sink errors fault.OutOfMemory

-- ---- a call

-- the words after the program's name, and the three streams
pub record Call : Type 0 where
  pub words : List (List ℕ)
  pub source : Stream
  pub sink : Stream
  pub errors : Stream

abbrev pub call : List (List ℕ) → Stream → Stream → Stream → Call
call words source sink errors = record { words = words; source = source; sink = sink; errors = errors }

-- What a program's answers are: its name, what words ask for, and what answers a job's input.
pub record Meaning (J : Type 0) : Type 1 where
  pub name : List ℕ
  pub asks : List (List ℕ) → Asked J → Type 0
  pub answers : J → List ℕ → Answer → Type 0

abbrev pub meaning : {J : Type 0} → List ℕ → (List (List ℕ) → Asked J → Type 0) → (J → List ℕ → Answer → Type 0) → Meaning J
meaning name asks answers = record { name = name; asks = asks; answers = answers }

-- words ask for a job, which needs the input
abbrev pub AsksJob : {J : Type 0} → Meaning J → List (List ℕ) → Type 0
AsksJob {J} m words = (job : J) × m.asks words (Job job)

-- the call has this answer: that of its words, or that of the job that they ask for to the whole input
abbrev pub Due : {J : Type 0} → Meaning J → Call → Answer → Type 0
Due {J} m c answer = m.asks c.words (Done answer) ⊎ ((job : J) × (input : List ℕ) × m.asks c.words (Job job) × Read c.source input × m.answers job input answer)

-- nothing was written, but on standard error why
abbrev pub Fails : {J : Type 0} → Meaning J → Call → Fault → Type 0
Fails m c f = WroteNothing c.sink × WroteFront c.errors (m.name ++ fault_text f)

-- Why a call ended so, and what it left written. A success means that all was written; where the input wasn't read whole, no output was.
abbrev pub Ended : {J : Type 0} → Meaning J → Call → Ending → Type 0
Ended m c (ends.Answered status) = (answer : Answer) × Due m c answer × (status ≡ answer.status) × Whole answer c.sink c.errors
Ended m c (ends.NoWords fault) = ⊥
Ended m c ends.ReadFault = AsksJob m c.words × Failed c.source × Gave (λ n. n ≤ input_limit) c.source.bytes c.source.bytes_after × Fails m c fault.Read
Ended m c ends.WriteFault = (answer : Answer) × Due m c answer × (Failed c.sink ⊎ Failed c.errors) × Cut m.name answer c.sink c.errors fault.Write
Ended m c ends.TooLong = AsksJob m c.words × Gave (λ n. input_limit < n) c.source.bytes c.source.bytes_after × Fails m c fault.TooLong
Ended m c ends.OutOfMemory = Fails m c fault.OutOfMemory ⊎ ((answer : Answer) × Due m c answer × Cut m.name answer c.sink c.errors fault.OutOfMemory)

-- the process had no words for this reason, or a call of the program ended so
abbrev pub Started : {J : Type 0} → Meaning J → Ending → Type 0
Started m (ends.NoWords fault) = Unit {0}
Started m (ends.Answered status) = (c : Call) × Ended m c (ends.Answered status)
Started m ends.ReadFault = (c : Call) × Ended m c ends.ReadFault
Started m ends.WriteFault = (c : Call) × Ended m c ends.WriteFault
Started m ends.TooLong = (c : Call) × Ended m c ends.TooLong
Started m ends.OutOfMemory = (c : Call) × Ended m c ends.OutOfMemory

-- ---- between the functions that write

-- how a call ends whose output was written, by what came of the rest
abbrev pub ending_of : Result Unit WriteError → ℕ → Ending
ending_of (Ok x) status = ends.Answered status
ending_of (Err write.Failed) status = if status == 0 then ends.WriteFault else ends.Answered status
ending_of (Err write.OutOfMemory) status = if status == 0 then ends.OutOfMemory else ends.Answered status

abbrev pub ending_of_fault : Fault → Ending
ending_of_fault fault.Read = ends.ReadFault
ending_of_fault fault.Write = ends.WriteFault
ending_of_fault fault.TooLong = ends.TooLong
ending_of_fault fault.OutOfMemory = ends.OutOfMemory

-- what standard error had, where the output was written
abbrev pub Tells : Answer → Stream → Ending → Type 0
Tells answer errors (ends.Answered status) =
    (status ≡ answer.status)
    × WroteFront errors (answer.notes ++ answer.error)
    × (answer.status ≡ 0 → Wrote errors (answer.notes ++ answer.error))
Tells answer errors (ends.NoWords fault) = ⊥
Tells answer errors ends.ReadFault = ⊥
Tells answer errors ends.WriteFault = Failed errors × WroteFront errors (answer.notes ++ answer.error)
Tells answer errors ends.TooLong = ⊥
Tells answer errors ends.OutOfMemory = WroteFront errors (answer.notes ++ answer.error)
