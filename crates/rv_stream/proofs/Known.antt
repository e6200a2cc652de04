-- Known bytes that are read and written, and counts of faults.
use Rattle.std.proofs.Common.{◌≡◌, ℕ, ◌-◌, ◌≤◌, List, [], ◌++◌, length, take, drop, Option, refl, sym, ap, ◌∙◌, subst, append_assoc, append-nil, take-append-drop, length-append, arith}
use Rattle.std.specs.Prelude.{IfSome}
use Rattle.std.proofs.lemmas.List.{take_rest, take_at}
use Rattle.std.specs.Io.KnownBytes.{Appends, Consumes, Keeps, IsAtEnd}
use Rattle.std.proofs.KnownBytes.{Appends-kept, Consumes-trans, Consumes-whole}
use Rattle.rv_stream.specs.Ends.{TookFront}

pub moves_front : (all done rest : List ℕ) (n : ℕ) → all ≡ done ++ rest → all ≡ (done ++ take n rest) ++ take (length rest - n) (drop n rest)
moves_front all done rest n e =
    e ∙ ap (λ l. done ++ l) (sym (take-append-drop n rest)) ∙ sym (append_assoc done (take n rest) (drop n rest)) ∙ ap (λ l. (done ++ take n rest) ++ l) (sym (take_rest rest n))

pub took_front : (a b c : Option (List ℕ)) (all done rest : List ℕ) → all ≡ done ++ rest → Appends a b done → Keeps b c → TookFront a c all
took_front a b c all done rest e appended kept =
    let long : length done ≤ length all = omega (arith, ap length e, length-append done rest) in
    let front : take (length done) all ≡ done = ap (take (length done)) e ∙ take_at done rest (length done) refl in
    (length done, long, subst (Appends a c) (sym front) (Appends-kept a b c done appended kept))

pub read_whole : (a b c : Option (List ℕ)) (text buf : List ℕ) → Consumes a b text → Consumes b c (take 0 buf) → IsAtEnd c → IfSome a (λ xs. text ≡ xs)
read_whole a b c text buf before now ended = Consumes-whole a c (text ++ []) (λ xs. text ≡ xs) (Consumes-trans a b c text [] before now) ended (sym (append-nil text))
