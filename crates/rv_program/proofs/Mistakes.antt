-- What an error of a parse says of the words.
use Rattle.std.proofs.Common.{◌≡◌, ◌⊎◌, inl, inr, List, subst}
use Rattle.clap.specs.Words.{App, Text, IsAmong, fault_of}
use Rattle.clap.specs.declared.error.kind.ErrorKind.{ErrorKind}
use Rattle.clap.specs.declared.error.kind.ErrorKind.TheVariants as kind
use Rattle.rv_program.specs.Options.{IsOfKind, Fails}
use Rattle.rv_program.specs.declared.parsing.WordsError.{WordsError}
use Rattle.rv_program.specs.declared.parsing.WordsError.TheVariants as errors

same_kind : (app : App) (words : List Text) (k j : ErrorKind) → k ≡ j → IsAmong k (fault_of app words) → IsAmong j (fault_of app words)
same_kind app words k j e among = subst (λ i. IsAmong i (fault_of app words)) e among

pub parsed_error : (app : App) (words : List Text) (k : ErrorKind) (error : WordsError) → IsOfKind k error → (k ≡ kind.OutOfMemory) ⊎ IsAmong k (fault_of app words) → Fails app words error
parsed_error app words k (errors.Help text) is (inl full) = absurd (cc)
parsed_error app words k (errors.Help text) is (inr among) = same_kind app words k kind.DisplayHelp is among
parsed_error app words k (errors.Version text) is (inl full) = absurd (cc)
parsed_error app words k (errors.Version text) is (inr among) = same_kind app words k kind.DisplayVersion is among
parsed_error app words k (errors.Wrong text) is (inl full) = absurd (is.1 full)
parsed_error app words k (errors.Wrong text) is (inr among) = (k, is.0, among)
parsed_error app words k errors.OutOfMemory is either = tt
