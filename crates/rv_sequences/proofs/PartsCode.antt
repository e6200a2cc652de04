-- Pieces that are operations alone, as those of parts of registers are: they allocate no label, and are put alike whatever was allocated.
use Rattle.rv_sequences.proofs.Terms.{◌≡◌, ℕ, suc, ◌+◌, ◌-◌, ◌*◌, ◌≢◌, ◌≤◌, Bool, true, false, if◌then◌else◌, ◌==◌, List, [], ◌∷◌, ◌++◌, length, pos, negsuc, arith, lit≤, subst, sym, ap, refl, ◌∙◌, length-append, nat_tests}
use Rattle.rv_sequences.proofs.Terms.{Addi, Andi, Slli, IsaFlags, IsPlain, Piece, Do, Rri, Puts, PutsAlone, Buffer, LabelUse, Shape, allocated_of, pieces_most, right_shift, shape_of, slots_of}
use Rattle.rv_code.specs.AtomicLoops.{extract_pieces, mask_pieces, merge_pieces, set_pieces, unset_pieces}
use Rattle.rv_code.specs.Choices.{extend_pieces}
use Rattle.rv_inst.specs.Sizes.{is_byte}

abbrev pub AreActions : List Piece → Type 0
AreActions [] = Unit {0}
AreActions (Do a ∷ ps) = AreActions ps
AreActions (p ∷ ps) = ⊥

actions_both : (ps qs : List Piece) → AreActions ps → AreActions qs → AreActions (ps ++ qs)
actions_both [] qs all h = h
actions_both (Do a ∷ ps) qs all h = actions_both ps qs all h
actions_both (p ∷ ps) qs all h = absurd all

pub actions_plain : (flags : IsaFlags) (ps : List Piece) → AreActions ps → IsPlain (slots_of flags ps)
actions_plain flags [] all = tt
actions_plain flags (Do a ∷ ps) all = actions_plain flags ps all
actions_plain flags (p ∷ ps) all = absurd all

again : (flags : IsaFlags) (first second : ℕ) (ps : List Piece) (s t : Shape LabelUse) → AreActions ps → Puts flags first (slots_of flags ps) s t → Puts flags second (slots_of flags ps) s t
again flags first second [] s t all put = put
again flags first second (Do a ∷ ps) s t all put = (put.0, put.1, again flags first second ps put.0 t all put.2)
again flags first second (p ∷ ps) s t all put = absurd all

pub actions_put : {flags : IsaFlags} (allocated : ℕ) (ps : List Piece) (old new : Buffer) → AreActions ps → PutsAlone flags (slots_of flags ps) old new → Puts flags allocated (slots_of flags ps) (shape_of old) (shape_of new)
actions_put {flags} allocated ps old new all p =
    subst (λ (b : Buffer). Puts flags allocated (slots_of flags ps) (shape_of old) (shape_of b)) (sym p.2) (again flags (allocated_of old) allocated ps (shape_of old) (shape_of p.0) all p.1.puts)

-- ---- how many they are

pub record AreFew (n : ℕ) (ps : List Piece) : Type 0 where
  pub actions : AreActions ps
  pub few : length ps ≤ n

most_of_actions : (ps : List Piece) → AreActions ps → pieces_most ps ≡ 4 * length ps
most_of_actions [] all = refl
most_of_actions (Do a ∷ ps) all = let e = most_of_actions ps all in omega (arith, e)
most_of_actions (p ∷ ps) all = absurd all

pub actions_most : {n : ℕ} {ps : List Piece} → AreFew n ps → pieces_most ps ≤ 4 * n
actions_most {n} {ps} h = let few = h.few in omega (arith, few, most_of_actions ps h.actions)

few_both : {m n : ℕ} {ps qs : List Piece} → AreFew m ps → AreFew n qs → AreFew (m + n) (ps ++ qs)
few_both {m} {n} {ps} {qs} a b = record { actions = actions_both ps qs a.actions b.actions; few = omega (arith, length-append ps qs, a.few, b.few) }

-- ---- those of parts

pub extend_few : (rd rn : ℕ) (signed : Bool) (bits : ℕ) → AreFew 2 (extend_pieces rd rn signed bits)
extend_few rd rn signed bits =
    elim (is_byte signed bits) as (λ c. AreFew 2 (if c then Do (Rri Andi rd rn (pos 255)) ∷ [] else Do (Rri Slli rd rn (pos (64 - bits))) ∷ Do (Rri (right_shift signed) rd rd (pos (64 - bits))) ∷ [])) [
      | true ↦ record { actions = tt; few = lit≤ tt }
      | false ↦ record { actions = tt; few = lit≤ tt }
    ]

pub extract_few : (rd offset rs : ℕ) (signed : Bool) (bits : ℕ) → AreFew 3 (extract_pieces rd offset rs signed bits)
extract_few rd offset rs signed bits = let h = extend_few rd rd signed bits in record { actions = h.actions; few = let few = h.few in omega (arith, few) }

pub mask_few : (rd bits : ℕ) → AreFew 3 (mask_pieces rd bits)
mask_few rd bits =
    let ones = Do (Rri Addi rd 0 (negsuc 0)) in
    elim (bits == 8) as (λ c. AreFew 3 (if c then Do (Rri Addi rd 0 (pos 255)) ∷ [] else ones ∷ (if bits == 64 then [] else extend_pieces rd rd false bits))) [
      | true ↦ record { actions = tt; few = lit≤ tt }
      | false ↦ elim (bits == 64) as (λ c. AreFew 3 (ones ∷ (if c then [] else extend_pieces rd rd false bits))) [
        | true ↦ record { actions = tt; few = lit≤ tt }
        | false ↦ let h = extend_few rd rd false bits in record { actions = h.actions; few = let few = h.few in omega (arith, few) }
      ]
    ]

pub unset_few : (rd tmp offset bits : ℕ) → AreFew 6 (unset_pieces rd tmp offset bits)
unset_few rd tmp offset bits = few_both {n = 3} (mask_few tmp bits) (record { actions = tt; few = lit≤ tt })

set_few : (rd tmp offset rs bits : ℕ) → AreFew 4 (set_pieces rd tmp offset rs bits)
set_few rd tmp offset rs bits = few_both {n = 2} (extend_few tmp rs false bits) (record { actions = tt; few = lit≤ tt })

pub merge_few : (rd tmp offset rs bits : ℕ) → AreFew 10 (merge_pieces rd tmp offset rs bits)
merge_few rd tmp offset rs bits = few_both (unset_few rd tmp offset bits) (set_few rd tmp offset rs bits)

-- a mask of neither 8 nor 64 bits
pub other_mask : {flags : IsaFlags} (rd bits : ℕ) (old new : Buffer) → bits ≢ 8 → bits ≢ 64 → PutsAlone flags (slots_of flags (Do (Rri Addi rd 0 (negsuc 0)) ∷ extend_pieces rd rd false bits)) old new → PutsAlone flags (slots_of flags (mask_pieces rd bits)) old new
other_mask {flags} rd bits old new not_8 not_64 put =
    let a : (bits == 8) ≡ false = grind (arith, nat_tests) in
    let b : (bits == 64) ≡ false = grind (arith, nat_tests) in
    let ones = Do (Rri Addi rd 0 (negsuc 0)) in
    let e : ones ∷ extend_pieces rd rd false bits ≡ mask_pieces rd bits =
    ap (λ c. ones ∷ (if c then [] else extend_pieces rd rd false bits)) (sym b) ∙ ap (λ c. if c then Do (Rri Addi rd 0 (pos 255)) ∷ [] else ones ∷ (if bits == 64 then [] else extend_pieces rd rd false bits)) (sym a) in
    subst (λ ps. PutsAlone flags (slots_of flags ps) old new) e put
