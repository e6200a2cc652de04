-- The command's options, and what its words give. How words are read by them is clap's `matches_of` and `fault_of`.
use Rattle.std.specs.Prelude.{◌≡◌, ◌≢◌, Bool, true, false, List, [], Option, Some, Result, Ok, Err, map, option_map, unwrap_or, codes}
use Rattle.std.specs.Option.{option_map_or}
use Rattle.std.specs.Str.{bytes_eq}
use Rattle.clap.specs.Words.{App, Rule, Row, Text, IsAmong, first_of, all_of, fault_of, matches_of, new_app, new_rule, with_rule}
use Rattle.clap.specs.Simple.{on_top}
use Rattle.clap.specs.declared.builder.action.ArgAction.TheVariants.{Set, Append, SetTrue}
use Rattle.clap.specs.declared.error.kind.ErrorKind.{ErrorKind}
use Rattle.clap.specs.declared.error.kind.ErrorKind.TheVariants as kind
use Rattle.rv_load.specs.declared.given.Given.{Given}
use Rattle.rv_load.specs.declared.words.WordsError.{WordsError}
use Rattle.rv_load.specs.declared.words.WordsError.TheVariants as errors

-- `--NAME`
abbrev pub flag_rule : Text → Rule
flag_rule name = record (new_rule name) { long = Some name; action = Some SetTrue }

-- `--NAME VALUE`, once
abbrev pub option_rule : Text → Rule
option_rule name = record (new_rule name) { long = Some name; action = Some Set; value_names = 1 }

-- `--NAME VALUE`, as often as one likes
abbrev pub list_rule : Text → Rule
list_rule name = record (new_rule name) { long = Some name; action = Some Append; value_names = 1 }

-- words that are no option's
abbrev pub word_rule : Text → Rule
word_rule name = record (new_rule name) { action = Some Append }

-- all words are arguments; there is `--version`
abbrev pub opening : App
opening = on_top (λ s. record s { has_version = true; no_binary_name = true }) (new_app (codes "rvrun"))

-- options that say what the code is; where the run begins, and how long it is; what stands in the memory, where symbols are, and what
-- stands there; and what the units begin with and answer
abbrev pub with_code : App → App
with_code app = with_rule (with_rule (with_rule app (flag_rule (codes "hex"))) (option_rule (codes "base"))) (option_rule (codes "flags"))

abbrev pub with_start : App → App
with_start app = with_rule (with_rule (with_rule app (option_rule (codes "from"))) (option_rule (codes "at"))) (option_rule (codes "steps"))

abbrev pub with_memory : App → App
with_memory app =
    with_rule (with_rule (with_rule (with_rule app (list_rule (codes "data"))) (list_rule (codes "symbol"))) (list_rule (codes "slot"))) (list_rule (codes "callee"))

abbrev pub with_units : App → App
with_units app = with_rule (with_rule (with_rule app (option_rule (codes "setting"))) (list_rule (codes "answer"))) (option_rule (codes "unit"))

unfoldable pub rvrun_app : App
rvrun_app = with_rule (with_rule (with_units (with_memory (with_start (with_code opening)))) (flag_rule (codes "trace"))) (word_rule (codes "REGISTER=VALUE"))

abbrev pub is_set : Option Text → Bool
is_set given = option_map_or (λ text. bytes_eq text (codes "true")) given false

-- the words that the rows have, by option
pub record IsGiven (rows : List Row) (g : Given) : Type 0 where
  pub hex : g.hex ≡ is_set (first_of (codes "hex") rows)
  pub trace : g.trace ≡ is_set (first_of (codes "trace") rows)
  pub base : option_map (λ s. s.now) g.base ≡ first_of (codes "base") rows
  pub flags : option_map (λ s. s.now) g.flags ≡ first_of (codes "flags") rows
  pub from : option_map (λ s. s.now) g.from ≡ first_of (codes "from") rows
  pub at : option_map (λ s. s.now) g.at ≡ first_of (codes "at") rows
  pub steps : option_map (λ s. s.now) g.steps ≡ first_of (codes "steps") rows
  pub memory : map (λ s. s.now) g.memory ≡ unwrap_or (all_of (codes "data") rows) []
  pub symbols : map (λ s. s.now) g.symbols ≡ unwrap_or (all_of (codes "symbol") rows) []
  pub slots : map (λ s. s.now) g.slots ≡ unwrap_or (all_of (codes "slot") rows) []
  pub callees : map (λ s. s.now) g.callees ≡ unwrap_or (all_of (codes "callee") rows) []
  pub setting : option_map (λ s. s.now) g.setting ≡ first_of (codes "setting") rows
  pub answers : map (λ s. s.now) g.answers ≡ unwrap_or (all_of (codes "answer") rows) []
  pub unit : option_map (λ s. s.now) g.unit ≡ first_of (codes "unit") rows
  pub registers : map (λ s. s.now) g.registers ≡ unwrap_or (all_of (codes "REGISTER=VALUE") rows) []

-- no call for help or the version
pub record IsMistake (k : ErrorKind) : Type 0 where
  pub help : k ≢ kind.DisplayHelp
  pub version : k ≢ kind.DisplayVersion

-- an error of this kind, as the program has it; being out of memory says nothing
abbrev pub IsOfKind : ErrorKind → WordsError → Type 0
IsOfKind k (errors.Help text) = k ≡ kind.DisplayHelp
IsOfKind k (errors.Version text) = k ≡ kind.DisplayVersion
IsOfKind k (errors.Wrong text) = IsMistake k × (k ≢ kind.OutOfMemory)
IsOfKind k errors.OutOfMemory = Unit {0}

-- what a reader of the words returned; being out of memory says nothing
abbrev pub Parses : List Text → Result Given WordsError → Type 0
Parses words (Ok given) = (fault_of rvrun_app words ≡ []) × IsGiven (matches_of rvrun_app words) given
Parses words (Err (errors.Help text)) = IsAmong kind.DisplayHelp (fault_of rvrun_app words)
Parses words (Err (errors.Version text)) = IsAmong kind.DisplayVersion (fault_of rvrun_app words)
Parses words (Err (errors.Wrong text)) = (k : ErrorKind) × IsMistake k × IsAmong k (fault_of rvrun_app words)
Parses words (Err errors.OutOfMemory) = Unit {0}
