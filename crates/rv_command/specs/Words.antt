-- What the words of the command ask for. How words are read by the arguments' rules is clap's `matches_of` and `fault_of`.
use Rattle.std.specs.Prelude.{◌≡◌, ℕ, ◌-◌, ◌^◌, Bool, true, false, List, [], ◌∷◌, Option, Some, None, Result, Ok, Err, codes, ◌≢◌}
use Rattle.std.specs.Option.{option_map_or}
use Rattle.std.specs.Str.{bytes_eq}
use Rattle.std.specs.Str.Parse.{digits_value, without_leading_plus}
use Rattle.clap.specs.Words.{App, Kinds, Rule, Row, Text, first_of, fault_of, matches_of, new_app, new_rule, with_rule}
use Rattle.clap.specs.Simple.{on_top}
use Rattle.clap.specs.declared.builder.action.ArgAction.TheVariants.{Set, SetTrue}
use Rattle.clap.specs.declared.builder.value_parser.ValueParser.TheVariants as parser
use Rattle.clap.specs.declared.error.kind.ErrorKind.{ErrorKind}
use Rattle.clap.specs.declared.error.kind.ErrorKind.TheVariants as kind
use Rattle.rv_command.specs.declared.words.Request.{Request}
use Rattle.rv_command.specs.declared.words.Request.TheVariants.{Listing, Generated}
use Rattle.rv_command.specs.declared.words.WordsError.{WordsError}
use Rattle.rv_command.specs.declared.words.WordsError.TheVariants as errors

-- `--text`
abbrev pub text_rule : Rule
text_rule = record (new_rule (codes "text")) { long = Some (codes "text"); action = Some SetTrue }

-- the greatest number of a generated job, of 64 bits
abbrev pub last_number : ℕ
last_number = 2 ^ 64 - 1

-- `--gen N`, once
abbrev pub gen_rule : Rule
gen_rule = record (new_rule (codes "gen")) { long = Some (codes "gen"); action = Some Set; parser = Some (parser.Unsigned 0 last_number) }

-- all words are arguments; none asks for help, and none for a version
abbrev pub opening : App
opening = on_top (λ s. record s { disable_help_flag = true; no_binary_name = true }) (new_app (codes "rvemit"))

unfoldable pub rvemit_app : App
rvemit_app = with_rule (with_rule opening text_rule) gen_rule

abbrev pub is_set : Option Text → Bool
is_set given = option_map_or (λ text. bytes_eq text (codes "true")) given false

-- the number that digits write, with a plus before them or without
abbrev pub number_of : Text → ℕ
number_of text = digits_value 10 (without_leading_plus text)

-- a number's job, or else a listing, with texts or without
abbrev pub requested : Bool → Option Text → Request
requested texts None = Listing texts
requested texts (Some number) = Generated (number_of number)

abbrev pub request_of : List Row → Request
request_of rows = requested (is_set (first_of (codes "text") rows)) (first_of (codes "gen") rows)

abbrev pub taken : Kinds → List Row → Option Request
taken [] rows = Some (request_of rows)
taken (fault ∷ faults) rows = None

-- what the words ask for, where the command takes them
unfoldable pub asked : List Text → Option Request
asked words = taken (fault_of rvemit_app words) (matches_of rvemit_app words)

-- an error of this kind, as the program has it; being out of memory says nothing
abbrev pub IsOfKind : ErrorKind → WordsError → Type 0
IsOfKind k errors.Usage = k ≢ kind.OutOfMemory
IsOfKind k errors.OutOfMemory = Unit {0}

-- what a reader of words returned; being out of memory says nothing
abbrev pub Asks : List Text → Result Request WordsError → Type 0
Asks words (Ok request) = asked words ≡ Some request
Asks words (Err errors.Usage) = asked words ≡ None
Asks words (Err errors.OutOfMemory) = Unit {0}
