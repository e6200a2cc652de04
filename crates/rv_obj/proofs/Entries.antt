-- Entries of symbols, one after the other.
use Rattle.std.proofs.Common.{◌≡◌, ℕ, ◌+◌, ◌%◌, ◌^◌, ◌<◌, ◌≤◌, List, [], ◌∷◌, ◌++◌, length, drop, get_or, append_assoc, append-nil, sym, ap, ◌∙◌, arith}
use Rattle.std.proofs.lemmas.Grind.{common_steps}
use Rattle.std.proofs.lemmas.List.{at_drop_more, length-append}
use Rattle.rv_obj.specs.declared.elf.Symbol.{Symbol}
use Rattle.rv_obj.specs.Elf.{name_of, symbol_entry, entries_from}

one_entry : (entries names : List ℕ) (s : Symbol) (at : ℕ) (rest : List Symbol) → at ≡ length names % 2 ^ 32 → (entries ++ symbol_entry at s) ++ entries_from (length (names ++ name_of s)) rest ≡ entries ++ entries_from (length names) (s ∷ rest)
one_entry entries names s at rest e = append_assoc entries (symbol_entry at s) (entries_from (length (names ++ name_of s)) rest) ∙ (λ i. entries ++ (symbol_entry (e i) s ++ entries_from (length-append names (name_of s) i) rest))

pub more_entries : (entries names new_entries new_names first : List ℕ) (symbols : List Symbol) (i at : ℕ) (d : Symbol) → i < length symbols → at ≡ length names % 2 ^ 32 → new_entries ≡ entries ++ symbol_entry at (get_or symbols i d) → new_names ≡ names ++ name_of (get_or symbols i d) →
    entries ++ entries_from (length names) (drop i symbols) ≡ first → new_entries ++ entries_from (length new_names) (drop (i + 1) symbols) ≡ first
more_entries entries names new_entries new_names first symbols i at d lt e f g h =
    (λ k. f k ++ entries_from (length (g k)) (drop (i + 1) symbols)) ∙ one_entry entries names (get_or symbols i d) at (drop (i + 1) symbols) e ∙ sym (at_drop_more (λ rest. entries ++ entries_from (length names) rest) symbols i d lt) ∙ h

pub all_entries : (entries first : List ℕ) (names : ℕ) (symbols : List Symbol) (i : ℕ) → length symbols ≤ i → entries ++ entries_from names (drop i symbols) ≡ first → entries ≡ first
all_entries entries first names symbols i le h =
    let none : drop i symbols ≡ [] = grind (arith, common_steps) in
    sym (ap (λ rest. entries ++ entries_from names rest) none ∙ append-nil entries) ∙ h
