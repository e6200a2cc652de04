-- A report is of one code alone: it is made of pieces that open a text in one way alone.
use Rattle.std.proofs.Common.{◌≡◌, ◌⊎◌, inl, inr, ℕ, zero, suc, ◌+◌, ◌/◌, ◌*◌, ◌^◌, ◌<◌, ◌≤◌, Bool, true, false, not, ◌&&◌, T, eqb, List, [], ◌∷◌, ◌++◌, length, get_or, take, drop, refl, sym, ap, ◌∙◌, subst, append_assoc, arith}
use Rattle.std.specs.Prelude.{codes}
use Rattle.std.specs.List.{flat_map, list_all, AllByRecursion}
use Rattle.std.proofs.lemmas.Bool.{eq-eqb}
use Rattle.std.specs.Coded.{le_prop}
use Rattle.std.specs.Fmt.{decimal}
use Rattle.rv_inst.specs.declared.code.LineSpan.{LineSpan}
use Rattle.rv_inst.specs.declared.code.CallReturn.{CallReturn}
use Rattle.mach_uses.specs.declared.uses.LabelPlace.{LabelPlace}
use Rattle.mach_records.specs.declared.records.ConstPlace.{ConstPlace}
use Rattle.std.specs.Int.{w32, to_be_bytes}
use Rattle.std.proofs.lemmas.List.{length-take, length-drop, take-append-drop}
use Rattle.hex.specs.Hex.{IsBytes, encode_lower, lower_digits, decode_of}
use Rattle.hex.proofs.HexLemmas.{decode_of-encode_lower, length-encode_with}
use Rattle.rv_inst.specs.declared.code.Code.{Code}
use Rattle.rv_listing.specs.Report.{span_line, return_line, label_line, const_line, reloc_line, trap_line, call_line, try_line, patch_line, map_line, unwind_line, hex_lines, all_hex_lines, report}
use Rattle.rv_listing.specs.CodeRanges.{SpanFits, ReturnFits, LabelFits, ConstFits, RelocFits, TrapFits, CallFits, TryFits, PatchFits, MapFits, UnwindFits, CodeFits}
use Rattle.rv_listing.proofs.ReportWords.{number_opens, two_open, regroup_two}
use Rattle.rv_listing.proofs.Pieces.{No, all_open}
use Rattle.rv_listing.proofs.ListLines.{try_opens, map_opens}
use Rattle.rv_listing.proofs.RecordLines.{reloc_opens, trap_opens, call_opens, patch_opens, unwind_opens}

regroup : (p i s e a : List ℕ) → (p ++ i ++ 32 ∷ [] ++ s ++ 32 ∷ [] ++ e ++ 10 ∷ []) ++ a ≡ p ++ (i ++ 32 ∷ (s ++ 32 ∷ (e ++ 10 ∷ a)))
regroup p i s e a = simp append_assoc

span_opens : (x y : LineSpan) (a b : List ℕ) → SpanFits x → SpanFits y → span_line x ++ a ≡ span_line y ++ b → (x ≡ y) × (a ≡ b)
span_opens x y a b fx fy e =
    let ex = regroup (codes "line ") (decimal x.index) (decimal x.start) (decimal x.end) a in
    let ey = regroup (codes "line ") (decimal y.index) (decimal y.start) (decimal y.end) b in
    let all = sym ex ∙ e ∙ ey in
    let after_lf : decimal x.index ++ 32 ∷ (decimal x.start ++ 32 ∷ (decimal x.end ++ 10 ∷ a)) ≡ decimal y.index ++ 32 ∷ (decimal y.start ++ 32 ∷ (decimal y.end ++ 10 ∷ b)) = ap (drop 5) all in
    let one = number_opens x.index y.index _ _ 32 (omega arith) (omega (arith, fx.index)) (omega (arith, fy.index)) after_lf in
    let as_pair = number_opens x.start y.start _ _ 32 (omega arith) (omega (arith, fx.start)) (omega (arith, fy.start)) one.1 in
    let three = number_opens x.end y.end _ _ 10 (omega arith) (omega (arith, fx.end)) (omega (arith, fy.end)) as_pair.1 in
    (made x y one.0 as_pair.0 three.0, three.1)
  where
    made : (x y : LineSpan) → x.index ≡ y.index → x.start ≡ y.start → x.end ≡ y.end → x ≡ y
    made x y p q r = λ i. record { index = p i; start = q i; end = r i }

return_opens : (x y : CallReturn) (a b : List ℕ) → ReturnFits x → ReturnFits y → return_line x ++ a ≡ return_line y ++ b → (x ≡ y) × (a ≡ b)
return_opens x y a b fx fy e =
    let ex = regroup_two (codes "return ") (decimal x.index) (decimal x.offset) a in
    let ey = regroup_two (codes "return ") (decimal y.index) (decimal y.offset) b in
    let numbers : decimal x.index ++ 32 ∷ (decimal x.offset ++ 10 ∷ a) ≡ decimal y.index ++ 32 ∷ (decimal y.offset ++ 10 ∷ b) = ap (drop 7) (sym ex ∙ e ∙ ey) in
    let one = number_opens x.index y.index _ _ 32 (omega arith) (omega (arith, fx.index)) (omega (arith, fy.index)) numbers in
    let other = number_opens x.offset y.offset a b 10 (omega arith) (omega (arith, fx.offset)) (omega (arith, fy.offset)) one.1 in
    ((λ i. record { index = one.0 i; offset = other.0 i }), other.1)

label_opens : (x y : LabelPlace) (a b : List ℕ) → LabelFits x → LabelFits y → label_line x ++ a ≡ label_line y ++ b → (x ≡ y) × (a ≡ b)
label_opens x y a b fx fy e =
    let ex = regroup_two (codes "label L") (decimal x.label.number) (decimal x.offset) a in
    let ey = regroup_two (codes "label L") (decimal y.label.number) (decimal y.offset) b in
    let numbers = two_open x.label.number y.label.number x.offset y.offset a b fx.label fy.label fx.offset fy.offset (ap (drop 7) (sym ex ∙ e ∙ ey)) in
    ((λ i. record { label = record { number = numbers.0 i }; offset = numbers.1.0 i }), numbers.1.1)

const_opens : (x y : ConstPlace) (a b : List ℕ) → ConstFits x → ConstFits y → const_line x ++ a ≡ const_line y ++ b → (x ≡ y) × (a ≡ b)
const_opens x y a b fx fy e =
    let ex = regroup_two (codes "const ") (decimal x.constant.number) (decimal x.offset) a in
    let ey = regroup_two (codes "const ") (decimal y.constant.number) (decimal y.offset) b in
    let numbers = two_open x.constant.number y.constant.number x.offset y.offset a b fx.constant fy.constant fx.offset fy.offset (ap (drop 6) (sym ex ∙ e ∙ ey)) in
    ((λ i. record { constant = record { number = numbers.0 i }; offset = numbers.1.0 i }), numbers.1.1)

-- two fronts of one length
same_front : (p q a b : List ℕ) → length p ≡ length q → p ++ a ≡ q ++ b → (p ≡ q) × (a ≡ b)
same_front [] [] a b len e = (refl, e)
same_front [] (y ∷ q) a b len e = absurd (omega arith)
same_front (x ∷ p) [] a b len e = absurd (omega arith)
same_front (x ∷ p) (y ∷ q) a b len e =
    let head : x ≡ y = cc in
    let tails : p ++ a ≡ q ++ b = cc in
    let rest = same_front p q a b (omega arith) tails in
    ((λ i. head i ∷ rest.0 i), rest.1)

IsBytes-each : (xs : List ℕ) → AllByRecursion (λ b. b < 256) xs → IsBytes xs
IsBytes-each [] h i = omega arith
IsBytes-each (x ∷ xs) h zero = h.0
IsBytes-each (x ∷ xs) h (suc i) = IsBytes-each xs h.1 i

Each-take : (n : ℕ) (xs : List ℕ) → AllByRecursion (λ b. b < 256) xs → AllByRecursion (λ b. b < 256) (take n xs)
Each-take zero xs h = tt
Each-take (suc n) [] h = tt
Each-take (suc n) (x ∷ xs) h = (h.0, Each-take n xs h.1)

Each-drop : (n : ℕ) (xs : List ℕ) → AllByRecursion (λ b. b < 256) xs → AllByRecursion (λ b. b < 256) (drop n xs)
Each-drop zero xs h = h
Each-drop (suc n) [] h = tt
Each-drop (suc n) (x ∷ xs) h = Each-drop n xs h.1

hex_is_one : (xs ys : List ℕ) → AllByRecursion (λ b. b < 256) xs → AllByRecursion (λ b. b < 256) ys → encode_lower xs ≡ encode_lower ys → xs ≡ ys
hex_is_one xs ys fx fy e =
    let same = sym (decode_of-encode_lower xs (IsBytes-each xs fx)) ∙ ap decode_of e ∙ decode_of-encode_lower ys (IsBytes-each ys fy) in
    cc

regroup_form : (h x r a : List ℕ) → ((h ++ 32 ∷ [] ++ x ++ 10 ∷ []) ++ r) ++ a ≡ h ++ (32 ∷ (x ++ (10 ∷ (r ++ a))))
regroup_form h x r a = simp append_assoc

hex_lines_open : (n at : ℕ) (xs ys a b : List ℕ) → length xs ≡ length ys → length xs ≤ 16 * n → AllByRecursion (λ b. b < 256) xs → AllByRecursion (λ b. b < 256) ys
    → hex_lines n at xs ++ a ≡ hex_lines n at ys ++ b → (xs ≡ ys) × (a ≡ b)
hex_lines_open zero at [] [] a b len fits fx fy e = (refl, e)
hex_lines_open zero at [] (y ∷ ys) a b len fits fx fy e = absurd (omega arith)
hex_lines_open zero at (x ∷ xs) ys a b len fits fx fy e = absurd (omega arith)
hex_lines_open (suc n) at xs ys a b len fits fx fy e =
    let h = encode_lower (to_be_bytes w32 at) in
    let ex = regroup_form h (encode_lower (take 16 xs)) (hex_lines n (at + 16) (drop 16 xs)) a in
    let ey = regroup_form h (encode_lower (take 16 ys)) (hex_lines n (at + 16) (drop 16 ys)) b in
    let after_lf = same_front h h _ _ refl (sym ex ∙ e ∙ ey) in
    let words : encode_lower (take 16 xs) ++ (10 ∷ (hex_lines n (at + 16) (drop 16 xs) ++ a)) ≡ encode_lower (take 16 ys) ++ (10 ∷ (hex_lines n (at + 16) (drop 16 ys) ++ b)) = ap (drop 1) after_lf.1 in
    let lengths : length (encode_lower (take 16 xs)) ≡ length (encode_lower (take 16 ys)) = omega (arith, length-encode_with lower_digits (take 16 xs), length-encode_with lower_digits (take 16 ys), length-take 16 xs, length-take 16 ys) in
    let front = same_front _ _ _ _ lengths words in
    let fronts = hex_is_one (take 16 xs) (take 16 ys) (Each-take 16 xs fx) (Each-take 16 ys fy) front.0 in
    let later : hex_lines n (at + 16) (drop 16 xs) ++ a ≡ hex_lines n (at + 16) (drop 16 ys) ++ b = ap (drop 1) front.1 in
    let rest = hex_lines_open n (at + 16) (drop 16 xs) (drop 16 ys) a b (omega (arith, length-drop 16 xs, length-drop 16 ys)) (omega (arith, length-drop 16 xs)) (Each-drop 16 xs fx) (Each-drop 16 ys fy) later in
    (sym (take-append-drop 16 xs) ∙ (λ i. fronts i ++ rest.0 i) ∙ take-append-drop 16 ys, rest.1)

-- ---- the whole report

abbrev ending : ℕ → List ℕ
ending n = codes "end " ++ (decimal n ++ 10 ∷ [])

abbrev unwinds_and_end : Code → List ℕ
unwinds_and_end c = flat_map unwind_line c.unwinds ++ ending c.end

abbrev maps_and_rest : Code → List ℕ
maps_and_rest c = flat_map map_line c.stack_maps ++ unwinds_and_end c

abbrev patches_and_rest : Code → List ℕ
patches_and_rest c = flat_map patch_line c.patchable_call_sites ++ maps_and_rest c

abbrev tries_and_rest : Code → List ℕ
tries_and_rest c = flat_map try_line c.try_call_sites ++ patches_and_rest c

abbrev calls_and_rest : Code → List ℕ
calls_and_rest c = flat_map call_line c.call_sites ++ tries_and_rest c

abbrev traps_and_rest : Code → List ℕ
traps_and_rest c = flat_map trap_line c.traps ++ calls_and_rest c

abbrev relocs_and_rest : Code → List ℕ
relocs_and_rest c = flat_map reloc_line c.relocs ++ traps_and_rest c

abbrev constants_and_rest : Code → List ℕ
constants_and_rest c = flat_map const_line c.constants ++ relocs_and_rest c

abbrev labels_and_rest : Code → List ℕ
labels_and_rest c = flat_map label_line c.labels ++ constants_and_rest c

abbrev returns_and_rest : Code → List ℕ
returns_and_rest c = flat_map return_line c.returns ++ labels_and_rest c

abbrev after_hex_lines : Code → List ℕ
after_hex_lines c = flat_map span_line c.lines ++ returns_and_rest c

-- the first three bytes of a text, as one number
abbrev first : List ℕ → ℕ
first w = get_or w 0 0 * 65536 + get_or w 1 0 * 256 + get_or w 2 0

abbrev IsAmong : ℕ → List ℕ → Type 0
IsAmong k [] = ⊥
IsAmong k (n ∷ ns) = (k ≡ n) ⊎ IsAmong k ns

-- none of these numbers
abbrev is_apart : ℕ → List ℕ → Bool
is_apart k ns = list_all (λ (n : ℕ). not (eqb k n)) ns

apart_not_among : (k : ℕ) (ns : List ℕ) → T (is_apart k ns) → IsAmong k ns → ⊥
apart_not_among k [] apart is = is
apart_not_among k (n ∷ ns) apart is = on (eqb k n) refl (apart_not_among k ns) apart is
  where
    on : (t : Bool) → eqb k n ≡ t → (T (is_apart k ns) → IsAmong k ns → ⊥) → T (not t && is_apart k ns) → (k ≡ n) ⊎ IsAmong k ns → ⊥
    on true same later apart is = absurd apart
    on false differs later apart (inl is) = let clash : true ≡ false = sym (eq-eqb k n is) ∙ differs in cc
    on false differs later apart (inr is) = later apart is

-- lines that begin with these bytes, before what begins with one of others
lines_first : {A : Type 0} (c : ℕ) (f : A → List ℕ) (others : List ℕ) → ((x : A) (t : List ℕ) → first (f x ++ t) ≡ c) → (xs : List A) (rest : List ℕ) → IsAmong (first rest) others → IsAmong (first (flat_map f xs ++ rest)) (c ∷ others)
lines_first c f others begins [] rest later = inr later
lines_first c f others begins (x ∷ xs) rest later = inl (ap first (append_assoc (f x) (flat_map f xs) rest) ∙ begins x (flat_map f xs ++ rest))

-- what begins with one of others isn't such a line and more
no_line : {A : Type 0} (P : A → Type 0) (f : A → List ℕ) (c : ℕ) (others : List ℕ) → ((x : A) (t : List ℕ) → first (f x ++ t) ≡ c) → T (is_apart c others) → (rest : List ℕ) → IsAmong (first rest) others → No P f rest
no_line P f c others begins apart rest later x t fits e = apart_not_among c others apart (subst (λ (n : ℕ). IsAmong n others) (sym (ap first e) ∙ begins x t) later)

-- the first three bytes of a line of each kind
abbrev lin : ℕ
lin = first (codes "line")

abbrev ret : ℕ
ret = first (codes "return")

abbrev lab : ℕ
lab = first (codes "label")

abbrev con : ℕ
con = first (codes "const")

abbrev rel : ℕ
rel = first (codes "reloc")

abbrev tra : ℕ
tra = first (codes "trap")

abbrev cal : ℕ
cal = first (codes "call")

abbrev try : ℕ
try = first (codes "try")

abbrev pat : ℕ
pat = first (codes "patch")

abbrev map : ℕ
map = first (codes "map")

abbrev unw : ℕ
unw = first (codes "unwind")

abbrev fin : ℕ
fin = first (codes "end")

-- those of lines of a kind, and of each later one
abbrev from_unwinds : List ℕ
from_unwinds = unw ∷ fin ∷ []

abbrev from_maps : List ℕ
from_maps = map ∷ from_unwinds

abbrev from_patches : List ℕ
from_patches = pat ∷ from_maps

abbrev from_tries : List ℕ
from_tries = try ∷ from_patches

abbrev from_calls : List ℕ
from_calls = cal ∷ from_tries

abbrev from_traps : List ℕ
from_traps = tra ∷ from_calls

abbrev from_relocs : List ℕ
from_relocs = rel ∷ from_traps

abbrev from_constants : List ℕ
from_constants = con ∷ from_relocs

abbrev from_labels : List ℕ
from_labels = lab ∷ from_constants

abbrev from_returns : List ℕ
from_returns = ret ∷ from_labels

unwinds_first : (c : Code) → IsAmong (first (unwinds_and_end c)) from_unwinds
unwinds_first c = lines_first unw unwind_line (fin ∷ []) (λ x t. refl) c.unwinds (ending c.end) (inl refl)

maps_first : (c : Code) → IsAmong (first (maps_and_rest c)) from_maps
maps_first c = lines_first map map_line from_unwinds (λ x t. refl) c.stack_maps (unwinds_and_end c) (unwinds_first c)

patches_first : (c : Code) → IsAmong (first (patches_and_rest c)) from_patches
patches_first c = lines_first pat patch_line from_maps (λ x t. refl) c.patchable_call_sites (maps_and_rest c) (maps_first c)

tries_first : (c : Code) → IsAmong (first (tries_and_rest c)) from_tries
tries_first c = lines_first try try_line from_patches (λ x t. refl) c.try_call_sites (patches_and_rest c) (patches_first c)

calls_first : (c : Code) → IsAmong (first (calls_and_rest c)) from_calls
calls_first c = lines_first cal call_line from_tries (λ x t. refl) c.call_sites (tries_and_rest c) (tries_first c)

traps_first : (c : Code) → IsAmong (first (traps_and_rest c)) from_traps
traps_first c = lines_first tra trap_line from_calls (λ x t. refl) c.traps (calls_and_rest c) (calls_first c)

relocs_first : (c : Code) → IsAmong (first (relocs_and_rest c)) from_relocs
relocs_first c = lines_first rel reloc_line from_traps (λ x t. refl) c.relocs (traps_and_rest c) (traps_first c)

constants_first : (c : Code) → IsAmong (first (constants_and_rest c)) from_constants
constants_first c = lines_first con const_line from_relocs (λ x t. refl) c.constants (relocs_and_rest c) (relocs_first c)

labels_first : (c : Code) → IsAmong (first (labels_and_rest c)) from_labels
labels_first c = lines_first lab label_line from_constants (λ x t. refl) c.labels (constants_and_rest c) (constants_first c)

returns_first : (c : Code) → IsAmong (first (returns_and_rest c)) from_returns
returns_first c = lines_first ret return_line from_labels (λ x t. refl) c.returns (labels_and_rest c) (labels_first c)

-- A line of each kind begins like none of a later kind.
no_unwind : (c : Code) → No UnwindFits unwind_line (ending c.end)
no_unwind c = no_line UnwindFits unwind_line unw (fin ∷ []) (λ x t. refl) tt (ending c.end) (inl refl)

no_map : (c : Code) → No MapFits map_line (unwinds_and_end c)
no_map c = no_line MapFits map_line map from_unwinds (λ x t. refl) tt (unwinds_and_end c) (unwinds_first c)

no_patch : (c : Code) → No PatchFits patch_line (maps_and_rest c)
no_patch c = no_line PatchFits patch_line pat from_maps (λ x t. refl) tt (maps_and_rest c) (maps_first c)

no_try : (c : Code) → No TryFits try_line (patches_and_rest c)
no_try c = no_line TryFits try_line try from_patches (λ x t. refl) tt (patches_and_rest c) (patches_first c)

no_call : (c : Code) → No CallFits call_line (tries_and_rest c)
no_call c = no_line CallFits call_line cal from_tries (λ x t. refl) tt (tries_and_rest c) (tries_first c)

no_trap : (c : Code) → No TrapFits trap_line (calls_and_rest c)
no_trap c = no_line TrapFits trap_line tra from_calls (λ x t. refl) tt (calls_and_rest c) (calls_first c)

no_reloc : (c : Code) → No RelocFits reloc_line (traps_and_rest c)
no_reloc c = no_line RelocFits reloc_line rel from_traps (λ x t. refl) tt (traps_and_rest c) (traps_first c)

no_const : (c : Code) → No ConstFits const_line (relocs_and_rest c)
no_const c = no_line ConstFits const_line con from_relocs (λ x t. refl) tt (relocs_and_rest c) (relocs_first c)

no_label : (c : Code) → No LabelFits label_line (constants_and_rest c)
no_label c = no_line LabelFits label_line lab from_constants (λ x t. refl) tt (constants_and_rest c) (constants_first c)

no_return : (c : Code) → No ReturnFits return_line (labels_and_rest c)
no_return c = no_line ReturnFits return_line ret from_labels (λ x t. refl) tt (labels_and_rest c) (labels_first c)

no_span : (c : Code) → No SpanFits span_line (returns_and_rest c)
no_span c = no_line SpanFits span_line lin from_returns (λ x t. refl) tt (returns_and_rest c) (returns_first c)

regroup_report : (p n r s b l k o t a y h v u e m : List ℕ) → p ++ n ++ 10 ∷ [] ++ r ++ s ++ b ++ l ++ k ++ o ++ t ++ a ++ y ++ h ++ v ++ u ++ e ++ m ++ 10 ∷ [] ≡ p ++ (n ++ 10 ∷ (r ++ (s ++ (b ++ (l ++ (k ++ (o ++ (t ++ (a ++ (y ++ (h ++ (v ++ (u ++ (e ++ (m ++ 10 ∷ [])))))))))))))))
regroup_report p n r s b l k o t a y h v u e m = simp append_assoc

grouped : (c : Code) → report c ≡ codes "code " ++ (decimal (length c.bytes) ++ 10 ∷ (all_hex_lines c.bytes ++ after_hex_lines c))
grouped c = regroup_report (codes "code ") (decimal (length c.bytes)) (all_hex_lines c.bytes) (flat_map span_line c.lines) (flat_map return_line c.returns) (flat_map label_line c.labels) (flat_map const_line c.constants) (flat_map reloc_line c.relocs) (flat_map trap_line c.traps) (flat_map call_line c.call_sites) (flat_map try_line c.try_call_sites) (flat_map patch_line c.patchable_call_sites) (flat_map map_line c.stack_maps) (flat_map unwind_line c.unwinds) (codes "end ") (decimal c.end)

all_hex_lines_open : (xs ys a b : List ℕ) → length xs ≡ length ys → AllByRecursion (λ b. b < 256) xs → AllByRecursion (λ b. b < 256) ys → all_hex_lines xs ++ a ≡ all_hex_lines ys ++ b → (xs ≡ ys) × (a ≡ b)
all_hex_lines_open xs ys a b len fx fy e =
    hex_lines_open ((length xs + 15) / 16) 0 xs ys a b len (omega arith) fx fy (e ∙ ap (λ (n : ℕ). hex_lines ((n + 15) / 16) 0 ys ++ b) (sym len))

pub same_code : (c d : Code) → CodeFits c → CodeFits d → report c ≡ report d → c ≡ d
same_code c d fc fd e =
    let whole = ap (drop 5) (sym (grouped c) ∙ e ∙ grouped d) in
    let count = number_opens (length c.bytes) (length d.bytes) (all_hex_lines c.bytes ++ after_hex_lines c) (all_hex_lines d.bytes ++ after_hex_lines d) 10 (omega arith) (omega (arith, c.small)) (omega (arith, d.small)) whole in
    let bytes = all_hex_lines_open c.bytes d.bytes (after_hex_lines c) (after_hex_lines d) count.0 fc.bytes fd.bytes count.1 in
    let lines = all_open SpanFits span_line (record { one = span_opens }) c.lines d.lines (returns_and_rest c) (returns_and_rest d) fc.lines fd.lines (no_span c) (no_span d) bytes.1 in
    let returns = all_open ReturnFits return_line (record { one = return_opens }) c.returns d.returns (labels_and_rest c) (labels_and_rest d) fc.returns fd.returns (no_return c) (no_return d) lines.1 in
    let labels = all_open LabelFits label_line (record { one = label_opens }) c.labels d.labels (constants_and_rest c) (constants_and_rest d) fc.labels fd.labels (no_label c) (no_label d) returns.1 in
    let constants = all_open ConstFits const_line (record { one = const_opens }) c.constants d.constants (relocs_and_rest c) (relocs_and_rest d) fc.constants fd.constants (no_const c) (no_const d) labels.1 in
    let relocs = all_open RelocFits reloc_line (record { one = reloc_opens }) c.relocs d.relocs (traps_and_rest c) (traps_and_rest d) fc.relocs fd.relocs (no_reloc c) (no_reloc d) constants.1 in
    let traps = all_open TrapFits trap_line (record { one = trap_opens }) c.traps d.traps (calls_and_rest c) (calls_and_rest d) fc.traps fd.traps (no_trap c) (no_trap d) relocs.1 in
    let calls = all_open CallFits call_line (record { one = call_opens }) c.call_sites d.call_sites (tries_and_rest c) (tries_and_rest d) fc.call_sites fd.call_sites (no_call c) (no_call d) traps.1 in
    let tries = all_open TryFits try_line (record { one = try_opens }) c.try_call_sites d.try_call_sites (patches_and_rest c) (patches_and_rest d) fc.try_call_sites fd.try_call_sites (no_try c) (no_try d) calls.1 in
    let patches = all_open PatchFits patch_line (record { one = patch_opens }) c.patchable_call_sites d.patchable_call_sites (maps_and_rest c) (maps_and_rest d) fc.patchable_call_sites fd.patchable_call_sites (no_patch c) (no_patch d) tries.1 in
    let maps = all_open MapFits map_line (record { one = map_opens }) c.stack_maps d.stack_maps (unwinds_and_end c) (unwinds_and_end d) fc.stack_maps fd.stack_maps (no_map c) (no_map d) patches.1 in
    let unwinds = all_open UnwindFits unwind_line (record { one = unwind_opens }) c.unwinds d.unwinds (ending c.end) (ending d.end) fc.unwinds fd.unwinds (no_unwind c) (no_unwind d) maps.1 in
    let last = number_opens c.end d.end [] [] 10 (omega arith) (omega (arith, fc.end)) (omega (arith, fd.end)) (ap (drop 4) unwinds.1) in
    made c d bytes.0 lines.0 returns.0 labels.0 constants.0 relocs.0 traps.0 calls.0 tries.0 patches.0 maps.0 unwinds.0 last.0
  where
    made : (c d : Code) → c.bytes ≡ d.bytes → c.lines ≡ d.lines → c.returns ≡ d.returns → c.labels ≡ d.labels → c.constants ≡ d.constants → c.relocs ≡ d.relocs → c.traps ≡ d.traps → c.call_sites ≡ d.call_sites → c.try_call_sites ≡ d.try_call_sites → c.patchable_call_sites ≡ d.patchable_call_sites → c.stack_maps ≡ d.stack_maps → c.unwinds ≡ d.unwinds → c.end ≡ d.end → c ≡ d
    made c d p q b r k o t a y h v u s =
        let Rest : List ℕ → Type 0 = λ (bs : List ℕ). (small : length bs < 2 ^ 32) → c ≡ record { bytes = bs; lines = d.lines; returns = d.returns; labels = d.labels; constants = d.constants; relocs = d.relocs; traps = d.traps; call_sites = d.call_sites; try_call_sites = d.try_call_sites; patchable_call_sites = d.patchable_call_sites; stack_maps = d.stack_maps; unwinds = d.unwinds; «end» = d.end; small = small } in
        subst Rest p (λ small. λ i. record { bytes = c.bytes; lines = q i; returns = b i; labels = r i; constants = k i; relocs = o i; traps = t i; call_sites = a i; try_call_sites = y i; patchable_call_sites = h i; stack_maps = v i; unwinds = u i; «end» = s i; small = le_prop c.small small i }) d.small
