-- Answers that need no input, or that are plain.
use Rattle.std.specs.Prelude.{◌≡◌, ℕ, ◌⊎◌, List, []}
use Rattle.clap.specs.Words.{App, Text, IsAmong, fault_of}
use Rattle.clap.specs.declared.error.kind.ErrorKind.{ErrorKind}
use Rattle.clap.specs.declared.error.kind.ErrorKind.TheVariants as kind
use Rattle.rv_program.specs.Options.{IsMistake}
use Rattle.rv_program.specs.declared.answer.Answer.{Answer}

-- this output, and nothing else
abbrev pub success : List ℕ → Answer
success output = record { notes = []; output = output; error = []; status = 0 }

-- no output, but this line
abbrev pub failure : ℕ → List ℕ → Answer
failure status error = record { notes = []; output = []; error = error; status = status }

-- words ask for help or the version, of which there is some text
abbrev pub AnswersHelp : App → List Text → Answer → Type 0
AnswersHelp app words answer = (IsAmong kind.DisplayHelp (fault_of app words) ⊎ IsAmong kind.DisplayVersion (fault_of app words)) × ((text : List ℕ) × (answer ≡ success text))

-- words are none of the command's, of which there is some text
abbrev pub AnswersMistake : App → List Text → Answer → Type 0
AnswersMistake app words answer = ((k : ErrorKind) × IsMistake k × IsAmong k (fault_of app words)) × ((text : List ℕ) × (answer ≡ failure 2 text))

-- the answer to words that give nothing
abbrev pub AnswersWords : App → List Text → Answer → Type 0
AnswersWords app words answer = AnswersHelp app words answer ⊎ AnswersMistake app words answer
