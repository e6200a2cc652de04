-- Words as data, read.
use Rattle.std.proofs.Common.{◌≡◌, ℕ, zero, suc, ◌^◌, ◌<◌, List, [], ◌∷◌, refl, ap, subst, ◌∙◌, arith, lit<, w16, w32, MatchResult, Ok}
use Rattle.std.specs.Int.{to_be_bytes}
use Rattle.hex.specs.declared.error.FromHexError.{FromHexError}
use Rattle.hex.specs.Hex.{encode_lower, decode_sized, IsBytes}
use Rattle.hex.proofs.HexLemmas.{decode_sized-encode_lower}

four : (a b c d : ℕ) → a < 256 → b < 256 → c < 256 → d < 256 → IsBytes (a ∷ b ∷ c ∷ d ∷ [])
four a b c d ha hb hc hd zero = ha
four a b c d ha hb hc hd (suc zero) = hb
four a b c d ha hb hc hd (suc (suc zero)) = hc
four a b c d ha hb hc hd (suc (suc (suc zero))) = hd
four a b c d ha hb hc hd (suc (suc (suc (suc i)))) = lit< tt

two : (a b : ℕ) → a < 256 → b < 256 → IsBytes (a ∷ b ∷ [])
two a b ha hb zero = ha
two a b ha hb (suc zero) = hb
two a b ha hb (suc (suc i)) = lit< tt

pub word_decoded : (n : ℕ) → n < 2 ^ 32 → decode_sized (encode_lower (to_be_bytes w32 n)) 4 ≡ Ok (to_be_bytes w32 n)
word_decoded n h = decode_sized-encode_lower (to_be_bytes w32 n) 4 refl (four _ _ _ _ (omega arith) (omega arith) (omega arith) (omega arith))

pub half_decoded : (n : ℕ) → n < 2 ^ 16 → decode_sized (encode_lower (to_be_bytes w16 n)) 2 ≡ Ok (to_be_bytes w16 n)
half_decoded n h = decode_sized-encode_lower (to_be_bytes w16 n) 2 refl (two _ _ (omega arith) (omega arith))

pub word_read : (P : List ℕ → Type 0) (Q : FromHexError → Type 0) (text : List ℕ) (n : ℕ) → n < 2 ^ 32 → text ≡ encode_lower (to_be_bytes w32 n) → MatchResult (decode_sized text 4) P Q → P (to_be_bytes w32 n)
word_read P Q text n low e h = subst (λ d. MatchResult d P Q) (ap (λ t. decode_sized t 4) e ∙ word_decoded n low) h

pub half_read : (P : List ℕ → Type 0) (Q : FromHexError → Type 0) (text : List ℕ) (n : ℕ) → n < 2 ^ 16 → text ≡ encode_lower (to_be_bytes w16 n) → MatchResult (decode_sized text 2) P Q → P (to_be_bytes w16 n)
half_read P Q text n low e h = subst (λ d. MatchResult d P Q) (ap (λ t. decode_sized t 2) e ∙ half_decoded n low) h
