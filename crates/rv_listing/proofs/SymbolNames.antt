-- Each symbol is read by its name.
use Rattle.std.proofs.Common.{◌≡◌, ℕ, ◌^◌, ◌<◌, List, ◌++◌, Option, Some, ap, ◌∙◌, arith}
use Rattle.std.specs.Prelude.{codes}
use Rattle.std.specs.Fmt.{decimal as written}
use Rattle.rv_base.specs.declared.external_name.ExternalName.{ExternalName}
use Rattle.rv_listing.specs.Tokens.{◌>>=◌, below}
use Rattle.rv_listing.specs.Operands.{symbol}
use Rattle.rv_listing.proofs.DecimalNumbers.{decimal_read, below_is}

abbrev as_symbol : ℕ → Option ExternalName
as_symbol n = Some (record { number = n })

symbol_found : (name : ExternalName) → name.number < 2 ^ 32 → symbol (codes "userextname" ++ written name.number) ≡ Some name
unfolding symbol
symbol_found name fits =
    ap (λ o. o >>= below (2 ^ 32) >>= as_symbol) (decimal_read name.number (omega arith)) ∙ ap (λ o. o >>= as_symbol) (below_is (2 ^ 32) name.number fits)

pub symbol_by_name : (w : List ℕ) (r : Option ExternalName) → r ≡ symbol w → (name : ExternalName) → name.number < 2 ^ 32 → w ≡ codes "userextname" ++ written name.number → r ≡ Some name
symbol_by_name w r reads name fits same = reads ∙ ap symbol same ∙ symbol_found name fits
