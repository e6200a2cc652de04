-- The rules of a command's words, and what words give by them. How words are read by rules is clap's `matches_of` and `fault_of`.
use Rattle.std.specs.Prelude.{◌≡◌, ◌≢◌, Bool, true, false, List, [], Option, Some, Result, Ok, Err, codes}
use Rattle.std.specs.Option.{option_map_or}
use Rattle.std.specs.Str.{bytes_eq}
use Rattle.clap.specs.Words.{App, Rule, Text, IsAmong, fault_of, found_of, matches_of, new_app, new_rule, rows_of}
use Rattle.clap.specs.Simple.{on_top}
use Rattle.clap.specs.declared.builder.action.ArgAction.TheVariants.{Set, Append, SetTrue}
use Rattle.clap.specs.declared.error.kind.ErrorKind.{ErrorKind}
use Rattle.clap.specs.declared.error.kind.ErrorKind.TheVariants as kind
use Rattle.clap.specs.declared.parser.matches.ArgMatches.{ArgMatches}
use Rattle.rv_program.specs.declared.parsing.WordsError.{WordsError}
use Rattle.rv_program.specs.declared.parsing.WordsError.TheVariants as errors

-- `--NAME`
abbrev pub flag_rule : Text → Rule
flag_rule name = record (new_rule name) { long = Some name; action = Some SetTrue }

-- `--NAME VALUE`, once
abbrev pub option_rule : Text → Rule
option_rule name = record (new_rule name) { long = Some name; action = Some Set; value_names = 1 }

-- `--NAME VALUE`, as often as one likes
abbrev pub list_rule : Text → Rule
list_rule name = record (new_rule name) { long = Some name; action = Some Append; value_names = 1 }

-- words that are no option's
abbrev pub word_rule : Text → Rule
word_rule name = record (new_rule name) { action = Some Append }

-- all words are arguments; there is `--version`
abbrev pub opening : Text → App
opening name = on_top (λ s. record s { has_version = true; no_binary_name = true }) (new_app name)

abbrev pub is_set : Option Text → Bool
is_set given = option_map_or (λ text. bytes_eq text (codes "true")) given false

-- no call for help or the version
pub record IsMistake (k : ErrorKind) : Type 0 where
  pub help : k ≢ kind.DisplayHelp
  pub version : k ≢ kind.DisplayVersion

-- an error of this kind, as the program has it; being out of memory says nothing
abbrev pub IsOfKind : ErrorKind → WordsError → Type 0
IsOfKind k (errors.Help text) = k ≡ kind.DisplayHelp
IsOfKind k (errors.Version text) = k ≡ kind.DisplayVersion
IsOfKind k (errors.Wrong text) = IsMistake k × (k ≢ kind.OutOfMemory)
IsOfKind k errors.OutOfMemory = Unit {0}

-- why a command of these rules gives nothing for words; being out of memory says nothing
abbrev pub Fails : App → List Text → WordsError → Type 0
Fails app words (errors.Help text) = IsAmong kind.DisplayHelp (fault_of app words)
Fails app words (errors.Version text) = IsAmong kind.DisplayVersion (fault_of app words)
Fails app words (errors.Wrong text) = (k : ErrorKind) × IsMistake k × IsAmong k (fault_of app words)
Fails app words errors.OutOfMemory = Unit {0}

-- what a reader of words by these rules returned
abbrev pub Parses : App → List Text → Result ArgMatches WordsError → Type 0
Parses app words (Ok matches) = (fault_of app words ≡ []) × (rows_of (found_of matches) ≡ matches_of app words)
Parses app words (Err error) = Fails app words error
