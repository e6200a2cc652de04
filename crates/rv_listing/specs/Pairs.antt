-- Pairs of registers, and lists of them.
use Rattle.std.specs.Prelude.{ℕ, List, [], ◌∷◌, ◌++◌, Option, Some, if◌then◌else◌, codes}
use Rattle.std.specs.Str.{bytes_eq}
use Rattle.rv_base.specs.declared.call.ArgPair.{ArgPair}
use Rattle.rv_base.specs.declared.call.RetPair.{RetPair}
use Rattle.rv_base.specs.declared.call.CallArgPair.{CallArgPair}
use Rattle.rv_listing.specs.Tokens.{◌>>=◌, parts_of, as_pair}
use Rattle.rv_listing.specs.Registers.{register}

-- two registers around a colon
unfoldable pub arg_pair : List ℕ → Option ArgPair
arg_pair w = as_pair (parts_of 58 w) >>= λ p. register p.0 >>= λ vreg. register p.1 >>= λ preg. Some (record { vreg = record { reg = vreg }; preg = preg })

unfoldable pub ret_pair : List ℕ → Option RetPair
ret_pair w = as_pair (parts_of 58 w) >>= λ p. register p.0 >>= λ vreg. register p.1 >>= λ preg. Some (record { vreg = vreg; preg = preg })

unfoldable pub call_arg_pair : List ℕ → Option CallArgPair
call_arg_pair w = as_pair (parts_of 58 w) >>= λ p. register p.0 >>= λ vreg. register p.1 >>= λ preg. Some (record { vreg = vreg; preg = preg })

-- what all parts stand for, after those so far
abbrev pub each_after : {A : Type 0} → (List ℕ → Option A) → List A → List (List ℕ) → Option (List A)
each_after token sofar [] = Some sofar
each_after token sofar (w ∷ ws) = token w >>= λ x. each_after token (sofar ++ x ∷ []) ws

-- tokens a comma apart, or - for none
abbrev pub listed : {A : Type 0} → (List ℕ → Option A) → List ℕ → Option (List A)
listed token w = if bytes_eq w (codes "-") then Some [] else each_after token [] (parts_of 44 w)
