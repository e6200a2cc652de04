-- What a parse of the command's words says of them.
use Rattle.std.proofs.Common.{◌≡◌, ◌∙◌, ◌⊎◌, inl, inr, List, [], ◌∷◌, true, refl, sym, ap}
use Rattle.std.specs.Prelude.{Some, None, Err}
use Rattle.clap.specs.Words.{Row, Kinds, Text, IsAmong, fault_of, matches_of, is_simple}
use Rattle.clap.specs.Faults.{is_simple_and_free}
use Rattle.clap.specs.declared.error.kind.ErrorKind.{ErrorKind}
use Rattle.clap.specs.declared.error.kind.ErrorKind.TheVariants as kind
use Rattle.clap.proofs.OnLiterals.{clap_on_literals}
use Rattle.rv_command.specs.Words.{Asks, IsOfKind, asked, request_of, rvemit_app, taken}
use Rattle.rv_command.specs.declared.words.WordsError.{WordsError}
use Rattle.rv_command.specs.declared.words.WordsError.TheVariants as errors

pub is_simple_app : is_simple rvemit_app ≡ true
unfolding clap_on_literals rvemit_app
is_simple_app = refl

pub is_free_app : is_simple_and_free rvemit_app ≡ true
unfolding clap_on_literals rvemit_app
is_free_app = refl

pub asked_for : (words : List Text) (rows : List Row) → fault_of rvemit_app words ≡ [] → rows ≡ matches_of rvemit_app words → asked words ≡ Some (request_of rows)
unfolding asked
asked_for words rows fits are = ap (λ (f : Kinds). taken f (matches_of rvemit_app words)) fits ∙ ap (λ (r : List Row). Some (request_of r)) (sym are)

none_taken : (faults : Kinds) (rows : List Row) (k : ErrorKind) → IsAmong k faults → taken faults rows ≡ None
none_taken [] rows k among = absurd among
none_taken (fault ∷ faults) rows k among = refl

asked_nothing : (words : List Text) (k : ErrorKind) → IsAmong k (fault_of rvemit_app words) → asked words ≡ None
unfolding asked
asked_nothing words k among = none_taken (fault_of rvemit_app words) (matches_of rvemit_app words) k among

pub parsed_error : (words : List Text) (k : ErrorKind) (error : WordsError) → IsOfKind k error → (k ≡ kind.OutOfMemory) ⊎ IsAmong k (fault_of rvemit_app words) → Asks words (Err error)
parsed_error words k errors.Usage is (inl full) = absurd (is full)
parsed_error words k errors.Usage is (inr among) = asked_nothing words k among
parsed_error words k errors.OutOfMemory is either = tt
