-- How a call of the program ends, and why.
use Rattle.std.specs.Prelude.{◌≡◌, ℕ, ◌<◌, ◌≤◌, ◌⊎◌, Bool, true, false, List, ◌++◌, length, Option, Some, None, Result, Ok, Err, IfSome, codes}
use Rattle.std.specs.Io.KnownBytes.{Appends, IsAtEnd, Keeps}
use Rattle.std.specs.Fmt.{decimal}
use Rattle.clap.specs.Words.{Text}
use Rattle.rv_base.specs.declared.out_of_memory.OutOfMemory.{OutOfMemory}
use Rattle.rv_inst.specs.declared.code.Code.{Code}
use Rattle.rv_inst.specs.declared.error.Rule.{Rule}
use Rattle.rv_inst.specs.declared.error.Rule.TheVariants as rules
use Rattle.rv_inst.specs.declared.error.EmitError.{EmitError}
use Rattle.rv_inst.specs.declared.error.EmitError.TheVariants as errors
use Rattle.rv_inst.specs.declared.job.Job.{Job}
use Rattle.rv_text.specs.Lines.{texts}
use Rattle.rv_gen.specs.Generated.{gen_job}
use Rattle.rv_gen.specs.Summary.{summary}
use Rattle.rv_listing.specs.Reading.{reads}
use Rattle.rv_listing.specs.CodeRanges.{CodeFits}
use Rattle.rv_listing.specs.Report.{report, report_with}
use Rattle.rv_stream.specs.Ends.{Rose, TookFront, Gave}
use Rattle.rv_asm.specs.Refusal.{refusal}
use Rattle.rv_asm.specs.Reported.{Reported}
use Rattle.rv_asm.specs.Simulation.{RunsAsListed, HasOperations}
use Rattle.rv_asm.specs.FullSimulation.{FullRuns, HasFullOperations}
use Rattle.rv_command.specs.Words.{asked}
use Rattle.rv_command.specs.declared.words.Request.{Request}
use Rattle.rv_command.specs.declared.words.Request.TheVariants.{Listing, Generated}
use Rattle.rv_command.specs.declared.answer.Answer.{Answer}
use Rattle.rv_command.specs.declared.outcome.Outcome.{Outcome}
use Rattle.rv_command.specs.declared.outcome.Outcome.TheVariants as ends

-- ---- what is written

-- of a job's code: its report, with the texts of the job's lines before its last line or without; of a generated job's the summary
abbrev pub wanted : Request → Job → Code → List ℕ
wanted (Listing false) job code = report code
wanted (Listing true) job code = report_with (texts job.lines) code
wanted (Generated number) job code = summary number code

abbrev pub usage_line : List ℕ
usage_line = codes "rvemit: usage\n"

abbrev pub too_long_line : List ℕ
too_long_line = codes "rvemit: too long\n"

abbrev pub syntax_line : ℕ → List ℕ
syntax_line line = codes "rvemit: syntax at line " ++ decimal line ++ codes "\n"

abbrev pub rule_name : Rule → List ℕ
rule_name rules.Virtual = codes "Virtual"
rule_name rules.Class = codes "Class"
rule_name rules.Reserved = codes "Reserved"
rule_name rules.Zero = codes "Zero"
rule_name rules.Clash = codes "Clash"
rule_name rules.BadType = codes "BadType"
rule_name rules.Range = codes "Range"
rule_name rules.Rounding = codes "Rounding"
rule_name rules.Width = codes "Width"
rule_name rules.Constant = codes "Constant"
rule_name rules.EmptyTable = codes "EmptyTable"
rule_name rules.NoTarget = codes "NoTarget"
rule_name rules.Label = codes "Label"
rule_name rules.TailArgs = codes "TailArgs"
rule_name rules.DataSize = codes "DataSize"

abbrev pub error_line : EmitError → List ℕ
error_line errors.OutOfMemory = codes "rvemit: OutOfMemory\n"
error_line errors.BadFrame = codes "rvemit: BadFrame\n"
error_line (errors.Malformed index rule) = codes "rvemit: Malformed " ++ decimal index ++ codes " " ++ rule_name rule ++ codes "\n"
error_line (errors.LabelTwice label) = codes "rvemit: LabelTwice " ++ decimal label ++ codes "\n"
error_line (errors.UnboundLabel label) = codes "rvemit: UnboundLabel " ++ decimal label ++ codes "\n"
error_line errors.TooLarge = codes "rvemit: TooLarge\n"

abbrev pub status_of : Outcome → ℕ
status_of (ends.Done code) = 0
status_of ends.Usage = 2
status_of (ends.Syntax line) = 3
status_of (ends.Refused error) = 4
status_of ends.ReadFault = 5
status_of ends.WriteFault = 6
status_of ends.TooLong = 7
status_of ends.OutOfMemory = 8

-- ---- what a job means

-- the code of a job that isn't refused, which reports its lines and runs as they say, in operations as short as they have, and its
-- numbers in the ranges in which no other code has its report
abbrev pub IsCodeOf : Job → Code → Type 0
IsCodeOf job code =
    (refusal job ≡ None) ×
    Reported job code ×
    RunsAsListed job code ×
    FullRuns job code ×
    HasOperations job code ×
    HasFullOperations job code ×
    CodeFits code

-- the job is refused so; never when out of memory
abbrev pub IsRefused : Job → EmitError → Type 0
IsRefused job errors.OutOfMemory = ⊥
IsRefused job error = refusal job ≡ Some error

-- ---- a call

-- What a call began with, and what it left: the command's words, the bytes left and taken, where they are known, and the counts of
-- faults.
pub record Call : Type 0 where
  pub words : List Text
  pub left : Option (List ℕ)
  pub left_after : Option (List ℕ)
  pub read_faults : ℕ
  pub read_faults_after : ℕ
  pub taken : Option (List ℕ)
  pub taken_after : Option (List ℕ)
  pub write_faults : ℕ
  pub write_faults_after : ℕ

abbrev pub call : List Text → Option (List ℕ) → Option (List ℕ) → ℕ → ℕ → Option (List ℕ) → Option (List ℕ) → ℕ → ℕ → Call
call words left left_after r r_after taken taken_after w w_after = record {
  words = words;
  left = left;
  left_after = left_after;
  read_faults = r;
  read_faults_after = r_after;
  taken = taken;
  taken_after = taken_after;
  write_faults = w;
  write_faults_after = w_after;
}

abbrev pub input_limit : ℕ
input_limit = 16777216

-- the command asks for a listing from the source
abbrev pub AsksListing : Call → Type 0
AsksListing call = (with_texts : Bool) × (asked call.words ≡ Some (Listing with_texts))

-- the command asks for nothing, or for what no source gives
abbrev pub AsksNoListing : Option Request → Type 0
AsksNoListing None = Unit {0}
AsksNoListing (Some (Listing with_texts)) = ⊥
AsksNoListing (Some (Generated number)) = Unit {0}

-- all that was left was read, to the end, and it is this
abbrev pub Read : Call → List ℕ → Type 0
Read call input = IfSome call.left (λ left. input ≡ left) × (length input ≤ input_limit) × IsAtEnd call.left_after

-- the job that is asked for so: of the input that was read, or of a number
abbrev pub HasJob : Call → Request → Job → Type 0
HasJob call (Listing with_texts) job = (input : List ℕ) × Read call input × (reads input ≡ Ok job)
HasJob call (Generated number) job = job ≡ gen_job number

-- the words ask for a job of which this holds
abbrev pub OfJob : Call → (Request → Job → Type 0) → Type 0
OfJob call P = (request : Request) × (asked call.words ≡ Some request) × (job : Job) × HasJob call request job × P request job

-- why a call has this text to write, and the outcome once it is written; too long is what gave more bytes than may be read, whatever
-- would have come after them
abbrev pub Due : Call → Outcome → List ℕ → Type 0
Due call (ends.Done code) text = OfJob call (λ request job. IsCodeOf job code × (text ≡ wanted request job code))
Due call (ends.Refused error) text = OfJob call (λ request job. IsRefused job error × (text ≡ error_line error))
Due call (ends.Syntax line) text = AsksListing call × ((input : List ℕ) × Read call input × (reads input ≡ Err line)) × (text ≡ syntax_line line)
Due call ends.Usage text = (asked call.words ≡ None) × (text ≡ usage_line)
Due call ends.TooLong text = AsksListing call × Gave (λ n. input_limit < n) call.left call.left_after × (text ≡ too_long_line)
Due call ends.ReadFault text = ⊥
Due call ends.WriteFault text = ⊥
Due call ends.OutOfMemory text = ⊥

-- the text that was due was written
abbrev pub Wrote : Call → Outcome → Type 0
Wrote call outcome = (text : List ℕ) × Due call outcome text × Appends call.taken call.taken_after text

-- a front of a text that was due was written
abbrev pub WroteFront : Call → Type 0
WroteFront call = (outcome : Outcome) × (text : List ℕ) × Due call outcome text × TookFront call.taken call.taken_after text

-- why a call ended so, and what it left written; a fault of the source came before more bytes than may be read
abbrev pub Ended : Call → Outcome → Type 0
Ended call ends.ReadFault =
    AsksListing call ×
    Rose call.read_faults call.read_faults_after ×
    Gave (λ n. n ≤ input_limit) call.left call.left_after ×
    Keeps call.taken call.taken_after
Ended call ends.WriteFault = Rose call.write_faults call.write_faults_after × WroteFront call
Ended call ends.OutOfMemory = Keeps call.taken call.taken_after ⊎ WroteFront call
Ended call outcome = Wrote call outcome

-- ---- on the machine with all units

-- a code runs there, too, as the job says that the words ask for
abbrev pub RunsFully : Call → Outcome → Type 0
RunsFully call (ends.Done code) = OfJob call (λ request job. FullRuns job code)
RunsFully call ends.Usage = Unit {0}
RunsFully call ends.TooLong = Unit {0}
RunsFully call (ends.Syntax line) = Unit {0}
RunsFully call (ends.Refused error) = Unit {0}
RunsFully call ends.ReadFault = Unit {0}
RunsFully call ends.WriteFault = Unit {0}
RunsFully call ends.OutOfMemory = Unit {0}

-- ---- where no fault rose

-- what is returned is this outcome, or out of memory
abbrev pub IsOrOutOfMemory : Outcome → Outcome → Type 0
IsOrOutOfMemory returned outcome = (returned ≡ outcome) ⊎ (returned ≡ ends.OutOfMemory)

abbrev pub IsDone : Outcome → Type 0
IsDone (ends.Done code) = Unit {0}
IsDone ends.OutOfMemory = Unit {0}
IsDone other = ⊥

-- no fault of the sink, and none of a source that is read
pub record NoFault (call : Call) : Type 0 where
  pub reads : AsksListing call → ¬ Rose call.read_faults call.read_faults_after
  pub writes : ¬ Rose call.write_faults call.write_faults_after

-- the job that the words and the input, where it is known, settle
abbrev pub KnownJob : Call → Request → Job → Type 0
KnownJob call (Listing with_texts) job = (input : List ℕ) × (call.left ≡ Some input) × (length input ≤ input_limit) × (reads input ≡ Ok job)
KnownJob call (Generated number) job = job ≡ gen_job number

-- Without a fault the words and the input settle how a call ends, out of memory aside.
pub record IsSettled (call : Call) (returned : Outcome) : Type 0 where
  pub usage : asked call.words ≡ None → NoFault call → IsOrOutOfMemory returned ends.Usage
  pub too_long : AsksListing call → NoFault call → IfSome call.left (λ input. input_limit < length input → IsOrOutOfMemory returned ends.TooLong)
  pub syntax_line :
      AsksListing call →
      NoFault call →
      IfSome call.left (λ input. length input ≤ input_limit → (line : ℕ) → reads input ≡ Err line → IsOrOutOfMemory returned (ends.Syntax line))
  pub refused :
      NoFault call →
      (request : Request) (job : Job) (error : EmitError) →
      asked call.words ≡ Some request →
      KnownJob call request job →
      refusal job ≡ Some error →
      IsOrOutOfMemory returned (ends.Refused error)
  pub complete :
      NoFault call →
      (request : Request) (job : Job) →
      asked call.words ≡ Some request →
      KnownJob call request job →
      refusal job ≡ None →
      IsDone returned

-- ---- between the program's functions

-- the outcome of a job that was asked for so, and the text that it has to write
abbrev pub Means : Request → Job → Outcome → List ℕ → Type 0
Means request job (ends.Done code) text = IsCodeOf job code × (text ≡ wanted request job code)
Means request job (ends.Refused error) text = IsRefused job error × (text ≡ error_line error)
Means request job (ends.Syntax line) text = ⊥
Means request job ends.Usage text = ⊥
Means request job ends.TooLong text = ⊥
Means request job ends.ReadFault text = ⊥
Means request job ends.WriteFault text = ⊥
Means request job ends.OutOfMemory text = ⊥

-- the outcome of an input that was read
abbrev pub MeansInput : Request → List ℕ → Outcome → List ℕ → Type 0
MeansInput request input (ends.Done code) text = (job : Job) × (reads input ≡ Ok job) × Means request job (ends.Done code) text
MeansInput request input (ends.Refused error) text = (job : Job) × (reads input ≡ Ok job) × Means request job (ends.Refused error) text
MeansInput request input (ends.Syntax line) text = (reads input ≡ Err line) × (text ≡ syntax_line line)
MeansInput request input ends.Usage text = ⊥
MeansInput request input ends.TooLong text = ⊥
MeansInput request input ends.ReadFault text = ⊥
MeansInput request input ends.WriteFault text = ⊥
MeansInput request input ends.OutOfMemory text = ⊥

-- an answer has this outcome and this text
abbrev pub Is : Outcome → List ℕ → Answer → Type 0
Is outcome text answer = (answer.outcome ≡ outcome) × (answer.text ≡ text)

-- An answer's text was written and its outcome is returned, or a fault of the sink or memory ran out.
abbrev pub Writes : Result Answer OutOfMemory → Option (List ℕ) → Option (List ℕ) → ℕ → ℕ → Outcome → Type 0
Writes (Err error) old new before after returned = (returned ≡ ends.OutOfMemory) × Keeps old new
Writes (Ok answer) old new before after returned =
    ((returned ≡ answer.outcome) × Appends old new answer.text)
    ⊎ ((returned ≡ ends.WriteFault) × Rose before after × TookFront old new answer.text)
    ⊎ ((returned ≡ ends.OutOfMemory) × TookFront old new answer.text)
