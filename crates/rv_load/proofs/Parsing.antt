-- What a parse of the command's words says of them.
use Rattle.std.proofs.Common.{◌≡◌, ◌⊎◌, inl, inr, List, true, refl, subst}
use Rattle.std.specs.Prelude.{Err}
use Rattle.clap.specs.Words.{Text, IsAmong, fault_of, is_simple, is_simple_and_free}
use Rattle.clap.specs.declared.error.kind.ErrorKind.{ErrorKind}
use Rattle.clap.specs.declared.error.kind.ErrorKind.TheVariants as kind
use Rattle.clap.proofs.OnLiterals.{clap_on_literals}
use Rattle.rv_load.specs.Command.{IsOfKind, Parses, rvrun_app}
use Rattle.rv_load.specs.declared.words.WordsError.{WordsError}
use Rattle.rv_load.specs.declared.words.WordsError.TheVariants as errors

pub is_simple_app : is_simple rvrun_app ≡ true
unfolding clap_on_literals rvrun_app
is_simple_app = refl

pub is_free_app : is_simple_and_free rvrun_app ≡ true
unfolding clap_on_literals rvrun_app
is_free_app = refl

same_kind : (words : List Text) (k j : ErrorKind) → k ≡ j → IsAmong k (fault_of rvrun_app words) → IsAmong j (fault_of rvrun_app words)
same_kind words k j e among = subst (λ i. IsAmong i (fault_of rvrun_app words)) e among

pub parsed_error : (words : List Text) (k : ErrorKind) (error : WordsError) → IsOfKind k error → (k ≡ kind.OutOfMemory) ⊎ IsAmong k (fault_of rvrun_app words) → Parses words (Err error)
parsed_error words k (errors.Help text) is (inl full) = absurd (cc)
parsed_error words k (errors.Help text) is (inr among) = same_kind words k kind.DisplayHelp is among
parsed_error words k (errors.Version text) is (inl full) = absurd (cc)
parsed_error words k (errors.Version text) is (inr among) = same_kind words k kind.DisplayVersion is among
parsed_error words k (errors.Wrong text) is (inl full) = absurd (is.1 full)
parsed_error words k (errors.Wrong text) is (inr among) = (k, is.0, among)
parsed_error words k errors.OutOfMemory is either = tt
