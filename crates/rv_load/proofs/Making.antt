-- Why a word gives nothing is why what is made of it isn't there.
use Rattle.std.proofs.Common.{◌≡◌, Option, Some, None, ap}
use Rattle.std.specs.Prelude.{Err}
use Rattle.rv_listing.specs.Tokens.{◌>>=◌}
use Rattle.rv_load.specs.Words.{Reads, or_bad}
use Rattle.rv_load.specs.declared.settings.BadWord.{BadWord}
use Rattle.rv_load.specs.declared.settings.SettingsError.{SettingsError}
use Rattle.rv_load.specs.declared.settings.SettingsError.TheVariants as errors

pub no_more : {A B : Type 0} (word : BadWord) (read : Option A) (make : A → Option B) (error : SettingsError) → Reads (or_bad word read) (Err error) → Reads (or_bad word (read >>= make)) (Err error)
no_more word None make (errors.Bad bad) h = let same : word ≡ bad = cc in ap (λ (x : BadWord). Err x) same
no_more word (Some x) make (errors.Bad bad) h = absurd (cc)
no_more word None make errors.OutOfMemory h = tt
no_more word (Some x) make errors.OutOfMemory h = tt
