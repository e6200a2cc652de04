-- A line of a call that may throw or of values on the stack opens a text in one way: it ends in words, with a space before each,
-- and an LF after the last.
use Rattle.std.proofs.Common.{◌≡◌, ℕ, ◌^◌, ◌<◌, ◌≤◌, Bool, not, T, eqb, List, [], ◌∷◌, ◌++◌, get_or, drop, Option, Some, None, refl, sym, ap, subst, ◌∙◌, append_assoc, lit≤, arith}
use Rattle.std.specs.Prelude.{codes}
use Rattle.std.specs.List.{flat_map, AllByRecursion}
use Rattle.std.specs.Fmt.{decimal}
use Rattle.std.proofs.lemmas.Bool.{ne_eqb}
use Rattle.std.proofs.lemmas.Fmt.{decimal_injective}
use Rattle.mach_records.specs.declared.records.FinalizedMachExceptionHandler.{FinalizedMachExceptionHandler}
use Rattle.mach_records.specs.declared.records.FinalizedMachExceptionHandler.TheVariants.{Tag, Default}
use Rattle.mach_records.specs.declared.records.MachTryCallSite.{MachTryCallSite}
use Rattle.mach_records.specs.declared.records.MachStackMap.{MachStackMap}
use Rattle.rv_base.specs.declared.ir_type.IrType.{IrType}
use Rattle.rv_base.specs.declared.ir_type.IrType.TheVariants.{I8, I16, I32, I64, I128, F16, F32, F64, F128, Vector}
use Rattle.rv_base.specs.declared.ir_type.LaneType.{LaneType}
use Rattle.rv_base.specs.declared.ir_type.LaneType.TheVariants as lane
use Rattle.rv_base.specs.IrType.{name_of, name_of_lane}
use Rattle.rv_listing.specs.Report.{frame_text, handler_text, try_line, entry_text, map_line}
use Rattle.rv_listing.specs.CodeRanges.{FrameFits, HandlerFits, TryFits, EntryFits, MapFits}
use Rattle.rv_listing.proofs.TypeNames.{same_type}
use Rattle.rv_listing.proofs.Vectors.{few_lanes}
use Rattle.rv_listing.proofs.ReportWords.{All-append, All-weaker, IsDigit, Digits-decimal, Ends, ends_also, cut_ends, number_ends, number_opens, far, near}

-- ---- words up to the end of a line

-- neither a space nor an LF
abbrev IsVisible : ℕ → Type 0
IsVisible c = 33 ≤ c

hidden : (c : ℕ) (w : List ℕ) → c < 33 → Ends IsVisible (c ∷ w)
hidden c w low = λ (is : 33 ≤ c). absurd (omega arith)

no_digits : (w : List ℕ) → Ends IsVisible w → Ends IsDigit w
no_digits = ends_also IsVisible IsDigit (λ c is. omega arith)

-- A word after a space: what it stands for is known, where no visible byte is after it.
record IsWord {A : Type 0} (P : A → Type 0) (f : A → List ℕ) : Type 0 where
  spaced : (x : A) (w : List ℕ) → f x ++ w ≡ 32 ∷ drop 1 (f x ++ w)
  one : (x y : A) (a b : List ℕ) → P x → P y → Ends IsVisible a → Ends IsVisible b → f x ++ a ≡ f y ++ b → (x ≡ y) × (a ≡ b)

words_end : {A : Type 0} (P : A → Type 0) (f : A → List ℕ) → IsWord P f → (xs : List A) (a : List ℕ) → Ends IsVisible (flat_map f xs ++ 10 ∷ a)
words_end P f o [] a = hidden 10 a (omega arith)
words_end P f o (x ∷ xs) a =
    let rest : List ℕ = flat_map f xs ++ 10 ∷ a in
    subst (Ends IsVisible) (sym (append_assoc (f x) (flat_map f xs) (10 ∷ a) ∙ o.spaced x rest)) (hidden 32 (drop 1 (f x ++ rest)) (omega arith))

-- a line that ends isn't one that has a further word
no_word : {A : Type 0} (P : A → Type 0) (f : A → List ℕ) → IsWord P f → (x : A) (xs : List A) (a b : List ℕ) → 10 ∷ a ≡ flat_map f (x ∷ xs) ++ 10 ∷ b → ⊥
no_word P f o x xs a b e =
    near 10 32 (ap (λ (w : List ℕ). get_or w 0 0) (e ∙ append_assoc (f x) (flat_map f xs) (10 ∷ b) ∙ o.spaced x (flat_map f xs ++ 10 ∷ b))) (omega arith)

words_open : {A : Type 0} (P : A → Type 0) (f : A → List ℕ) → IsWord P f → (xs ys : List A) (a b : List ℕ) → AllByRecursion P xs → AllByRecursion P ys
    → flat_map f xs ++ 10 ∷ a ≡ flat_map f ys ++ 10 ∷ b → (xs ≡ ys) × (a ≡ b)
words_open P f o [] [] a b fx fy e = (refl, ap (drop 1) e)
words_open P f o [] (y ∷ ys) a b fx fy e = absurd (no_word P f o y ys a b e)
words_open P f o (x ∷ xs) [] a b fx fy e = absurd (no_word P f o x xs b a (sym e))
words_open P f o (x ∷ xs) (y ∷ ys) a b fx fy e =
    let same = sym (append_assoc (f x) (flat_map f xs) (10 ∷ a)) ∙ e ∙ append_assoc (f y) (flat_map f ys) (10 ∷ b) in
    let first = o.one x y (flat_map f xs ++ 10 ∷ a) (flat_map f ys ++ 10 ∷ b) fx.0 fy.0 (words_end P f o xs a) (words_end P f o ys b) same in
    let others = words_open P f o xs ys a b fx.1 fy.1 first.1 in
    ((λ i. first.0 i ∷ others.0 i), others.1)

regroup_list : (p i s h a : List ℕ) → (p ++ i ++ 32 ∷ [] ++ s ++ h ++ 10 ∷ []) ++ a ≡ p ++ (i ++ 32 ∷ (s ++ (h ++ 10 ∷ a)))
regroup_list p i s h a = simp append_assoc

-- two parts around a byte, before the rest
regroup_pair : (i s a : List ℕ) (c : ℕ) → (i ++ c ∷ [] ++ s) ++ a ≡ i ++ c ∷ (s ++ a)
regroup_pair i s a c = simp append_assoc

-- ---- calls that may throw

not_dash : (n : ℕ) → n < 2 ^ 32 → codes "-" ≡ decimal n → ⊥
not_dash n low e =
    let digits = subst (AllByRecursion IsDigit) (sym e) (Digits-decimal n (omega arith)) in
    let clash : 48 ≤ 45 = digits.0.0 in
    absurd (omega arith)

same_frame : (x y : Option ℕ) → FrameFits x → FrameFits y → frame_text x ≡ frame_text y → x ≡ y
same_frame None None fx fy e = refl
same_frame None (Some n) fx fy e = absurd (not_dash n fy e)
same_frame (Some m) None fx fy e = absurd (not_dash m fx (sym e))
same_frame (Some m) (Some n) fx fy e = ap Some (decimal_injective m n (omega arith) (omega arith) e)

Visible-frame : (x : Option ℕ) → FrameFits x → AllByRecursion IsVisible (frame_text x)
Visible-frame None fits = (lit≤ tt, tt)
Visible-frame (Some n) fits = All-weaker IsDigit IsVisible (λ c is. omega arith) (decimal n) (Digits-decimal n (omega arith))

handler_spaced : (x : FinalizedMachExceptionHandler) (w : List ℕ) → handler_text x ++ w ≡ 32 ∷ drop 1 (handler_text x ++ w)
handler_spaced (Tag tag offset) w = refl
handler_spaced (Default offset) w = refl

colon : (w : List ℕ) → Ends IsDigit (58 ∷ w)
colon w = λ (is : IsDigit 58). absurd (omega arith)

handler_opens : (x y : FinalizedMachExceptionHandler) (a b : List ℕ) → HandlerFits x → HandlerFits y → Ends IsVisible a → Ends IsVisible b → handler_text x ++ a ≡ handler_text y ++ b → (x ≡ y) × (a ≡ b)
handler_opens (Tag m j) (Tag n k) a b fx fy ea eb e =
    let after_tag : (decimal m ++ 58 ∷ [] ++ decimal j) ++ a ≡ (decimal n ++ 58 ∷ [] ++ decimal k) ++ b = ap (drop 4) e in
    let numbers = sym (regroup_pair (decimal m) (decimal j) a 58) ∙ after_tag ∙ regroup_pair (decimal n) (decimal k) b 58 in
    let tags = number_ends m n (58 ∷ (decimal j ++ a)) (58 ∷ (decimal k ++ b)) (colon (decimal j ++ a)) (colon (decimal k ++ b)) (omega (arith, fx.0)) (omega (arith, fy.0)) numbers in
    let offsets = number_ends j k a b (no_digits a ea) (no_digits b eb) (omega (arith, fx.1)) (omega (arith, fy.1)) (ap (drop 1) tags.1) in
    ((λ i. Tag (tags.0 i) (offsets.0 i)), offsets.1)
handler_opens (Tag m j) (Default k) a b fx fy ea eb e = absurd (far 116 100 (ap (λ (w : List ℕ). get_or w 1 0) e) (omega arith))
handler_opens (Default j) (Tag n k) a b fx fy ea eb e = absurd (near 100 116 (ap (λ (w : List ℕ). get_or w 1 0) e) (omega arith))
handler_opens (Default j) (Default k) a b fx fy ea eb e =
    let numbers : decimal j ++ a ≡ decimal k ++ b = ap (drop 9) e in
    let offsets = number_ends j k a b (no_digits a ea) (no_digits b eb) (omega arith) (omega arith) numbers in
    ((λ i. Default (offsets.0 i)), offsets.1)

handler_word : IsWord HandlerFits handler_text
handler_word = record { spaced = handler_spaced; one = handler_opens }

pub try_opens : (x y : MachTryCallSite) (a b : List ℕ) → TryFits x → TryFits y → try_line x ++ a ≡ try_line y ++ b → (x ≡ y) × (a ≡ b)
try_opens x y a b fx fy e =
    let after_x : List ℕ = flat_map handler_text x.handlers ++ 10 ∷ a in
    let after_y : List ℕ = flat_map handler_text y.handlers ++ 10 ∷ b in
    let ex = regroup_list (codes "try ") (decimal x.offset) (frame_text x.frame_offset) (flat_map handler_text x.handlers) a in
    let ey = regroup_list (codes "try ") (decimal y.offset) (frame_text y.frame_offset) (flat_map handler_text y.handlers) b in
    let numbers : decimal x.offset ++ 32 ∷ (frame_text x.frame_offset ++ after_x) ≡ decimal y.offset ++ 32 ∷ (frame_text y.frame_offset ++ after_y) = ap (drop 4) (sym ex ∙ e ∙ ey) in
    let offsets = number_opens x.offset y.offset _ _ 32 (omega arith) (omega (arith, fx.offset)) (omega (arith, fy.offset)) numbers in
    let frames = cut_ends IsVisible (frame_text x.frame_offset) (frame_text y.frame_offset) after_x after_y (words_end HandlerFits handler_text handler_word x.handlers a) (words_end HandlerFits handler_text handler_word y.handlers b) (Visible-frame x.frame_offset fx.frame) (Visible-frame y.frame_offset fy.frame) offsets.1 in
    let handlers = words_open HandlerFits handler_text handler_word x.handlers y.handlers a b fx.handlers fy.handlers frames.1 in
    (made x y offsets.0 (same_frame x.frame_offset y.frame_offset fx.frame fy.frame frames.0) handlers.0, handlers.1)
  where
    made : (x y : MachTryCallSite) → x.offset ≡ y.offset → x.frame_offset ≡ y.frame_offset → x.handlers ≡ y.handlers → x ≡ y
    made x y p q r = λ i. record { offset = p i; frame_offset = q i; handlers = r i }

-- ---- values on the stack

-- not @
abbrev IsOfName : ℕ → Type 0
IsOfName c = T (not (eqb c 64))

digit_of_name : (c : ℕ) → IsDigit c → IsOfName c
digit_of_name c is = subst (λ (t : Bool). T (not t)) (sym (ne_eqb c 64 (λ e. omega arith))) tt

lane_named : (l : LaneType) → AllByRecursion IsOfName (name_of_lane l)
lane_named lane.I8 = (tt, (tt, tt))
lane_named l = (tt, (tt, (tt, tt)))

type_named : (type : IrType) → AllByRecursion IsOfName (name_of type)
type_named I8 = (tt, (tt, tt))
type_named I16 = (tt, (tt, (tt, tt)))
type_named I32 = (tt, (tt, (tt, tt)))
type_named I64 = (tt, (tt, (tt, tt)))
type_named I128 = (tt, (tt, (tt, (tt, tt))))
type_named F16 = (tt, (tt, (tt, tt)))
type_named F32 = (tt, (tt, (tt, tt)))
type_named F64 = (tt, (tt, (tt, tt)))
type_named F128 = (tt, (tt, (tt, (tt, tt))))
type_named (Vector v) =
    let few = few_lanes v.lanes v.counted in
    let lanes = All-weaker IsDigit IsOfName digit_of_name (decimal v.lanes) (Digits-decimal v.lanes (omega arith)) in
    All-append IsOfName (name_of_lane v.lane ++ codes "x") (decimal v.lanes) (All-append IsOfName (name_of_lane v.lane) (codes "x") (lane_named v.lane) (tt, tt)) lanes

entry_opens : (x y : IrType × ℕ) (a b : List ℕ) → EntryFits x → EntryFits y → Ends IsVisible a → Ends IsVisible b → entry_text x ++ a ≡ entry_text y ++ b → (x ≡ y) × (a ≡ b)
entry_opens x y a b fx fy ea eb e =
    let after_sp : (name_of x.0 ++ 64 ∷ [] ++ decimal x.1) ++ a ≡ (name_of y.0 ++ 64 ∷ [] ++ decimal y.1) ++ b = ap (drop 1) e in
    let words = sym (regroup_pair (name_of x.0) (decimal x.1) a 64) ∙ after_sp ∙ regroup_pair (name_of y.0) (decimal y.1) b 64 in
    let names = cut_ends IsOfName (name_of x.0) (name_of y.0) (64 ∷ (decimal x.1 ++ a)) (64 ∷ (decimal y.1 ++ b)) (λ is. is) (λ is. is) (type_named x.0) (type_named y.0) words in
    let offsets = number_ends x.1 y.1 a b (no_digits a ea) (no_digits b eb) (omega (arith, fx)) (omega (arith, fy)) (ap (drop 1) names.1) in
    let types = same_type x.0 y.0 names.0 in
    ((λ i. (types i, offsets.0 i)), offsets.1)

entry_word : IsWord EntryFits entry_text
entry_word = record { spaced = λ x w. refl; one = entry_opens }

pub map_opens : (x y : MachStackMap) (a b : List ℕ) → MapFits x → MapFits y → map_line x ++ a ≡ map_line y ++ b → (x ≡ y) × (a ≡ b)
map_opens x y a b fx fy e =
    let after_x : List ℕ = flat_map entry_text x.map.entries ++ 10 ∷ a in
    let after_y : List ℕ = flat_map entry_text y.map.entries ++ 10 ∷ b in
    let ex = regroup_list (codes "map ") (decimal x.offset) (decimal x.span) (flat_map entry_text x.map.entries) a in
    let ey = regroup_list (codes "map ") (decimal y.offset) (decimal y.span) (flat_map entry_text y.map.entries) b in
    let numbers : decimal x.offset ++ 32 ∷ (decimal x.span ++ after_x) ≡ decimal y.offset ++ 32 ∷ (decimal y.span ++ after_y) = ap (drop 4) (sym ex ∙ e ∙ ey) in
    let offsets = number_opens x.offset y.offset _ _ 32 (omega arith) (omega (arith, fx.offset)) (omega (arith, fy.offset)) numbers in
    let spans = number_ends x.span y.span after_x after_y (no_digits after_x (words_end EntryFits entry_text entry_word x.map.entries a)) (no_digits after_y (words_end EntryFits entry_text entry_word y.map.entries b)) (omega (arith, fx.span)) (omega (arith, fy.span)) offsets.1 in
    let entries = words_open EntryFits entry_text entry_word x.map.entries y.map.entries a b fx.entries fy.entries spans.1 in
    (made x y offsets.0 spans.0 entries.0, entries.1)
  where
    made : (x y : MachStackMap) → x.offset ≡ y.offset → x.span ≡ y.span → x.map.entries ≡ y.map.entries → x ≡ y
    made x y p q r = λ i. record { offset = p i; span = q i; map = record { entries = r i } }
