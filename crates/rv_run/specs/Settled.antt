-- How a call ends where no fault rose: the words and the input settle it, out of memory aside.
use Rattle.std.specs.Prelude.{◌≡◌, ℕ, ◌<◌, ◌≤◌, ◌⊎◌, List, length, None, Ok, Err, IfSome}
use Rattle.rv_fill.specs.declared.error.PlaceError.{PlaceError}
use Rattle.rv_full.specs.Steps.{Machine}
use Rattle.rv_stream.specs.Ends.{Rose}
use Rattle.rv_load.specs.declared.given.Given.{Given}
use Rattle.rv_load.specs.declared.program.Program.{Program}
use Rattle.rv_load.specs.declared.program.ProgramError.TheVariants as program_errors
use Rattle.rv_load.specs.declared.settings.BadWord.{BadWord}
use Rattle.rv_load.specs.declared.settings.Settings.{Settings}
use Rattle.rv_load.specs.Command.{Parses}
use Rattle.rv_load.specs.Words.{settings_of}
use Rattle.rv_run.specs.Outcomes.{Call, Loads, Asked, limit, word_text, unplaced, IsUnfit, IsRefused, WriteFaults, reloc_of}
use Rattle.rv_steps.specs.Starting.{begin}
use Rattle.rv_run.specs.declared.outcome.Outcome.{Outcome}
use Rattle.rv_run.specs.declared.outcome.Outcome.TheVariants as ends

-- what is returned is this outcome, or out of memory
abbrev pub IsOrOutOfMemory : Outcome → Outcome → Type 0
IsOrOutOfMemory returned outcome = (returned ≡ outcome) ⊎ (returned ≡ ends.OutOfMemory)

-- it says why the words ask for no run
abbrev pub IsOfWords : Outcome → Type 0
IsOfWords (ends.Help text) = Unit {0}
IsOfWords (ends.Version text) = Unit {0}
IsOfWords (ends.Usage text) = Unit {0}
IsOfWords ends.OutOfMemory = Unit {0}
IsOfWords other = ⊥

abbrev pub IsRan : Outcome → Type 0
IsRan (ends.Ran run) = Unit {0}
IsRan ends.OutOfMemory = Unit {0}
IsRan other = ⊥

abbrev pub NoFault : Call → Type 0
NoFault c = ¬ Rose c.read_faults c.read_faults_after × ¬ WriteFaults c

-- an input of no more bytes than may be read, where it is known
abbrev pub IfShort : Call → (List ℕ → Type 0) → Type 0
IfShort c P = IfSome c.left (λ input. length input ≤ limit → P input)

-- Words that are none of the command give help, the version or the usage, and a bad one itself. Else a long input is too long, one that
-- is no program is refused by its first bad line or as no digits, one that isn't placed by the first relocation that isn't filled, and one
-- from which no run begins by the word that doesn't fit it. From any other there is a run: where no relocation is refused there is the
-- program with all of them filled, and a run begins from that one where one begins from the program as it is.
pub record IsSettled (c : Call) (returned : Outcome) : Type 0 where
  pub of_words : ((g : Given) → ¬ Parses c.words (Ok g)) → ¬ WriteFaults c → IsOfWords returned
  pub bad_word :
      (g : Given) (cause : BadWord) →
      Parses c.words (Ok g) →
      settings_of g ≡ Err cause →
      ¬ WriteFaults c →
      IsOrOutOfMemory returned (ends.BadWord cause (word_text g cause))
  pub too_long :
      (g : Given) (s : Settings) →
      Asked c.words g s →
      NoFault c →
      IfSome c.left (λ input. limit < length input → IsOrOutOfMemory returned ends.TooLong)
  pub not_report :
      (g : Given) (s : Settings) (line : ℕ) →
      Asked c.words g s →
      NoFault c →
      IfShort c (λ input. Loads g.hex input (Err (program_errors.NotReport line)) → IsOrOutOfMemory returned (ends.NotReport line))
  pub not_hex :
      (g : Given) (s : Settings) →
      Asked c.words g s →
      NoFault c →
      IfShort c (λ input. Loads g.hex input (Err program_errors.NotHex) → IsOrOutOfMemory returned ends.NotHex)
  pub not_placed :
      (g : Given) (s : Settings) (p : Program) (error : PlaceError) →
      Asked c.words g s →
      NoFault c →
      IfShort c (λ input. Loads g.hex input (Ok p) → IsRefused s p error → IsOrOutOfMemory returned (ends.Unplaced error (reloc_of error p.relocs)))
  pub no_start :
      (g : Given) (s : Settings) (p : Program) (cause : BadWord) →
      Asked c.words g s →
      NoFault c →
      IfShort c (λ input. Loads g.hex input (Ok p) → IsUnfit s p cause → IsOrOutOfMemory returned (ends.BadWord cause (word_text g cause)))
  pub complete :
      (g : Given) (s : Settings) (p : Program) (first : Machine) →
      Asked c.words g s →
      NoFault c →
      IfShort c (λ input. Loads g.hex input (Ok p) → unplaced s p ≡ None → begin s p ≡ Ok first → IsRan returned)
