-- The code of atomic loops is their pieces, in whatever order these are joined.
use Rattle.rv_sequences.proofs.Terms.{◌≡◌, ℕ, ◌≢◌, ◌<◌, ◌≤◌, ◌==◌, arith, nat_tests, Bool, true, false, if◌then◌else◌, List, [], ◌∷◌, ◌++◌, append_assoc, refl, sym, ap, ◌∙◌, bits_of, Piece}
use Rattle.rv_base.specs.declared.ir_type.IrType.{IrType}
use Rattle.rv_base.specs.declared.ir_type.IrType.TheVariants.{I8, I16, I32, I64}
use Rattle.rv_code.specs.AtomicLoops.{combine_pieces, combining, merge_pieces, store_and_retry, swapping, take_field}
use Rattle.rv_code.specs.Choices.{extend_pieces}
use Rattle.rv_code.specs.Pieces.{Bind, Branch}
use Rattle.rv_base.specs.declared.condcodes.IntCC.TheVariants.{NotEqual}
use Rattle.rv_inst.specs.AtomicLoops.{is_wide}
use Rattle.rv_inst.specs.Classes.{is_int_type}
use Rattle.rv_ops.specs.declared.atomic.AtomicRmwOp.TheVariants.{Nand}

-- the field is taken out, changed and put, after the load
pub field_changed : (start middle : List Piece) (signed : Bool) (bits dst offset p value t0 : ℕ) →
    start ++ (take_field dst offset signed bits ++ (middle ++ (merge_pieces 30 31 offset value bits ++ store_and_retry bits t0 p 30 [])))
    ≡ start ++ (take_field dst offset signed bits ++ middle ++ merge_pieces 30 31 offset value bits ++ store_and_retry bits t0 p 30 [])
field_changed start middle signed bits dst offset p value t0 =
    let take = take_field dst offset signed bits in
    let merge = merge_pieces 30 31 offset value bits in
    let last = store_and_retry bits t0 p 30 [] in
    ap (λ ps. start ++ ps) (sym (append_assoc (take ++ middle) merge last ∙ append_assoc take middle (merge ++ last)))

-- where it is the expected one
by_width : (e bits dst offset p x t0 : ℕ) → is_wide bits ≡ true → swapping e bits dst offset p x t0 ≡ (if bits == 64 then [] else extend_pieces dst dst false bits) ++ Branch NotEqual e dst 1 ∷ store_and_retry bits t0 p x (Bind 1 ∷ [])
by_width e bits dst offset p x t0 wide =
    ap (λ c. if c then (if bits == 64 then [] else extend_pieces dst dst false bits) ++ Branch NotEqual e dst 1 ∷ store_and_retry bits t0 p x (Bind 1 ∷ []) else take_field dst offset false bits ++ Branch NotEqual e dst 1 ∷ merge_pieces 30 31 offset x bits ++ store_and_retry bits t0 p 30 (Bind 1 ∷ [])) wide

pub field_swapped : (start : List Piece) (e bits dst offset p x t0 : ℕ) → is_wide bits ≡ false →
    start ++ (take_field dst offset false bits ++ (Branch NotEqual e dst 1 ∷ (merge_pieces 30 31 offset x bits ++ store_and_retry bits t0 p 30 (Bind 1 ∷ [])))) ≡ start ++ swapping e bits dst offset p x t0
field_swapped start e bits dst offset p x t0 part =
    let take = take_field dst offset false bits in
    let differs = Branch NotEqual e dst 1 in
    let merge = merge_pieces 30 31 offset x bits in
    let last = store_and_retry bits t0 p 30 (Bind 1 ∷ []) in
    ap (λ ps. start ++ ps) (sym (append_assoc take (differs ∷ merge) last) ∙ sym (ap (λ c. if c then (if bits == 64 then [] else extend_pieces dst dst false bits) ++ differs ∷ store_and_retry bits t0 p x (Bind 1 ∷ []) else take ++ differs ∷ merge ++ last) part))

-- of 64 bits, which is compared as it is, and of 32, which is zero-extended first
pub doubleword_swapped : (start : List Piece) (e bits dst offset p x t0 : ℕ) → bits ≡ 64 → start ++ (Branch NotEqual e dst 1 ∷ store_and_retry bits t0 p x (Bind 1 ∷ [])) ≡ start ++ swapping e bits dst offset p x t0
doubleword_swapped start e bits dst offset p x t0 is =
    let whole = Branch NotEqual e dst 1 ∷ store_and_retry bits t0 p x (Bind 1 ∷ []) in
    ap (λ ps. start ++ ps) (sym (by_width e bits dst offset p x t0 (ap is_wide is) ∙ ap (λ c. (if c then [] else extend_pieces dst dst false bits) ++ whole) (ap (λ b. b == 64) is)))

pub word_swapped : (start : List Piece) (e bits dst offset p x t0 : ℕ) → bits ≡ 32 → start ++ (extend_pieces dst dst false bits ++ Branch NotEqual e dst 1 ∷ store_and_retry bits t0 p x (Bind 1 ∷ [])) ≡ start ++ swapping e bits dst offset p x t0
word_swapped start e bits dst offset p x t0 is =
    let whole = Branch NotEqual e dst 1 ∷ store_and_retry bits t0 p x (Bind 1 ∷ []) in
    ap (λ ps. start ++ ps) (sym (by_width e bits dst offset p x t0 (ap is_wide is) ∙ ap (λ c. (if c then [] else extend_pieces dst dst false bits) ++ whole) (ap (λ b. b == 64) is)))

-- by nand: a whole number, or a field
abbrev field_by_nand : ℕ → ℕ → ℕ → ℕ → ℕ → ℕ → List Piece
field_by_nand bits dst offset p x t0 = take_field dst offset false bits ++ combine_pieces Nand t0 dst x ++ merge_pieces 30 31 offset t0 bits ++ store_and_retry bits t0 p 30 []

pub whole_nand : (start : List Piece) (bits dst offset p x t0 : ℕ) → is_wide bits ≡ true → start ++ (combine_pieces Nand t0 dst x ++ store_and_retry bits t0 p t0 []) ≡ start ++ combining Nand bits dst offset p x t0
whole_nand start bits dst offset p x t0 wide = ap (λ ps. start ++ ps) (sym (ap (λ c. if c then combine_pieces Nand t0 dst x ++ store_and_retry bits t0 p t0 [] else field_by_nand bits dst offset p x t0) wide))

pub field_nand : (start : List Piece) (bits dst offset p x t0 : ℕ) → is_wide bits ≡ false →
    start ++ (take_field dst offset false bits ++ (combine_pieces Nand t0 dst x ++ (merge_pieces 30 31 offset t0 bits ++ store_and_retry bits t0 p 30 []))) ≡ start ++ combining Nand bits dst offset p x t0
field_nand start bits dst offset p x t0 part =
    field_changed start (combine_pieces Nand t0 dst x) false bits dst offset p t0 t0
    ∙ ap (λ ps. start ++ ps) (sym (ap (λ c. if c then combine_pieces Nand t0 dst x ++ store_and_retry bits t0 p t0 [] else field_by_nand bits dst offset p x t0) part))

-- integers of neither 64 bits nor 32 are fields
pub narrow : (ty : IrType) → is_int_type ty ≡ true → bits_of ty ≢ 64 → bits_of ty ≢ 32 → is_wide (bits_of ty) ≡ false
narrow I8 int not_64 not_32 = refl
narrow I16 int not_64 not_32 = refl
narrow I32 int not_64 not_32 = absurd (not_32 refl)
narrow I64 int not_64 not_32 = absurd (not_64 refl)
narrow ty int not_64 not_32 = absurd (cc)

-- a width of at least 32 bits is wide
pub is_wide_from : (n bits : ℕ) → n ≡ bits → 32 ≤ n → is_wide bits ≡ true
is_wide_from n bits is le = let more : 32 ≤ bits = omega arith in grind (arith, nat_tests)

pub is_wide_below : (n bits : ℕ) → n ≡ bits → n < 32 → is_wide bits ≡ false
is_wide_below n bits is lt = let less : bits < 32 = omega arith in grind (arith, nat_tests)
