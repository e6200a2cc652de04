-- What is said of lines by their spans, and what lines give in turn, as lines and spans are added.
use Rattle.rv_asm.proofs.Words.{[], ap, append-nil, append_assoc, arith, Bind, Bool, bound_by, cond, cond_both, constants_named, constants_taken, Context, drop, drop-append-le, end_before, end_of, false, first_after_island, from_of, Gap, is_after_island, is_island, IsaFlags, LabelUse, length}
use Rattle.rv_asm.proofs.Words.{length-append, length-drop, Line, line_records, line_returns, LineSpan, List, nat_eq, nat_lt, option_map, or_place, Put, records_from, refl, returns_from, slice_get, slice_get-append_last, Some, start_of, suc, sym, take-append-le, take_all, to_of, true, unwrap_or}
use Rattle.{rv_asm.proofs.Words.{Use, uses_after_island, uses_from, uses_in, VCodeConstant, zero, ℕ, ◌++◌, ◌+◌, ◌-◌, ◌<◌, ◌||◌, ◌∙◌, ◌∷◌, ◌≡◌, ◌≤◌}, std.proofs.Math.Seq.drop-append_seam}

-- what is made of one of two is one of what is made of both
pub of_cond : {X Y : Type 0} (f : X → Y) (c : Bool) (x y : X) → f (cond c x y) ≡ cond c (f x) (f y)
of_cond f true x y = refl
of_cond f false x y = refl

-- ---- lists by their places

pub get_after : {X : Type 0} (xs ys : List X) (i : ℕ) → slice_get (xs ++ ys) (length xs + i) ≡ slice_get ys i
get_after [] ys i = let none : 0 + i ≡ i = omega arith in ap (slice_get ys) none
get_after (x ∷ xs) ys i = let next : suc (length xs) + i ≡ suc (length xs + i) = omega arith in ap (slice_get (x ∷ xs ++ ys)) next ∙ get_after xs ys i

pub get_drop : {X : Type 0} (xs : List X) (k i : ℕ) → slice_get (drop k xs) i ≡ slice_get xs (k + i)
get_drop xs zero i = let same : i ≡ 0 + i = omega arith in ap (slice_get xs) same
get_drop [] (suc k) i = refl
get_drop (y ∷ xs) (suc k) i = let same : suc (k + i) ≡ suc k + i = omega arith in get_drop xs k i ∙ ap (slice_get (y ∷ xs)) same

-- one below the length is there
pub line_at : {X : Type 0} (xs : List X) (i : ℕ) → i < length xs → (x : X) × (slice_get xs i ≡ Some x)
line_at [] i lt = absurd (omega arith)
line_at (x ∷ xs) zero lt = (x, refl)
line_at (x ∷ xs) (suc i) lt = line_at xs i (omega arith)

-- ---- spans and gaps

-- what is read of one in a list doesn't change as more are added after it
pub read_more : {X : Type 0} (xs more : List X) (read : X → ℕ) (i : ℕ) → i < length xs → unwrap_or (option_map read (slice_get (xs ++ more) i)) 0 ≡ unwrap_or (option_map read (slice_get xs i)) 0
read_more [] more read i lt = absurd (omega arith)
read_more (x ∷ xs) more read zero lt = refl
read_more (x ∷ xs) more read (suc i) lt = read_more xs more read i (omega arith)

-- and of the last one
pub read_last : {X : Type 0} (xs : List X) (x : X) (read : X → ℕ) → unwrap_or (option_map read (slice_get (xs ++ x ∷ []) (length xs))) 0 ≡ read x
read_last xs x read = ap (λ o. unwrap_or (option_map read o) 0) (slice_get-append_last xs x)

pub ends_more : (spans more : List LineSpan) (i : ℕ) → i ≤ length spans → end_before (spans ++ more) i ≡ end_before spans i
ends_more spans more zero le = refl
ends_more spans more (suc i) le = read_more spans more (λ x. x.end) i (omega arith)

-- what is so between the offsets of a line is so once spans are added
pub as_before : (P : ℕ → ℕ → ℕ → ℕ → ℕ → Type 0) (spans more : List LineSpan) (gaps more_gaps : List Gap) (i : ℕ) → i < length spans → i < length gaps → P (end_before spans i) (start_of spans i) (from_of gaps i) (to_of gaps i) (end_of spans i) → P (end_before (spans ++ more) i) (start_of (spans ++ more) i) (from_of (gaps ++ more_gaps) i) (to_of (gaps ++ more_gaps) i) (end_of (spans ++ more) i)
as_before P spans more gaps more_gaps i lt gap_lt h =
    rw (ends_more spans more i (omega (arith, lt)), read_more spans more (λ x. x.start) i lt, read_more gaps more_gaps (λ x. x.from) i gap_lt, read_more gaps more_gaps (λ x. x.to) i gap_lt, read_more spans more (λ x. x.end) i lt) h

-- and what is so between those of a span is, where it is the last one
pub as_last : (P : ℕ → ℕ → ℕ → ℕ → ℕ → Type 0) (spans : List LineSpan) (span : LineSpan) (gaps : List Gap) (gap : Gap) (i : ℕ) → i ≡ length spans → i ≡ length gaps → P (end_before spans i) span.start gap.from gap.to span.end → P (end_before (spans ++ span ∷ []) i) (start_of (spans ++ span ∷ []) i) (from_of (gaps ++ gap ∷ []) i) (to_of (gaps ++ gap ∷ []) i) (end_of (spans ++ span ∷ []) i)
as_last P spans span gaps gap i e g h =
    rw (ends_more spans (span ∷ []) i (omega (arith, e)), ap (start_of (spans ++ span ∷ [])) e ∙ read_last spans span (λ x. x.start), ap (from_of (gaps ++ gap ∷ [])) g ∙ read_last gaps gap (λ x. x.from), ap (to_of (gaps ++ gap ∷ [])) g ∙ read_last gaps gap (λ x. x.to), ap (end_of (spans ++ span ∷ [])) e ∙ read_last spans span (λ x. x.end)) h

-- ---- what lines give

-- each by its index and its offsets
module _ {X : Type 0} (own : ℕ → ℕ → ℕ → Line → List X) where
  -- that of lines, the first of which has an index
  abbrev pub given_from : List LineSpan → ℕ → List Line → List X
  given_from spans i [] = []
  given_from spans i (line ∷ lines) = own i (start_of spans i) (end_of spans i) line ++ given_from spans (suc i) lines

  -- a span more changes nothing for the lines before it
  pub given_spans : (spans more : List LineSpan) (i : ℕ) (lines : List Line) → i + length lines ≤ length spans → given_from (spans ++ more) i lines ≡ given_from spans i lines
  given_spans spans more i [] le = refl
  given_spans spans more i (line ∷ lines) le =
      λ j. own i (read_more spans more (λ x. x.start) i (omega arith) j) (read_more spans more (λ x. x.end) i (omega arith) j) line ++ (given_spans spans more (suc i) lines (omega arith)) j

  pub given_append : (spans : List LineSpan) (i : ℕ) (lines more : List Line) → given_from spans i (lines ++ more) ≡ given_from spans i lines ++ given_from spans (i + length lines) more
  given_append spans i [] more = let same : i ≡ i + 0 = omega arith in ap (λ n. given_from spans n more) same
  given_append spans i (line ∷ lines) more = grind (arith, append_assoc, given_append spans (suc i) lines more)

  -- one line more
  pub given_next : (lines : List Line) (spans : List LineSpan) (line : Line) (span : LineSpan) → length spans ≡ length lines → given_from (spans ++ span ∷ []) 0 (lines ++ line ∷ []) ≡ given_from spans 0 lines ++ own (length spans) span.start span.end line
  given_next lines spans line span count =
      grind (arith, read_last spans span (λ x. x.start), read_last spans span (λ x. x.end), append-nil, given_append (spans ++ span ∷ []) 0 lines (line ∷ []), given_spans spans (span ∷ []) 0 lines (omega arith))

-- its records
pub records_next : (context : Context) (lines : List Line) (spans : List LineSpan) (line : Line) (span : LineSpan) → length spans ≡ length lines → records_from context (spans ++ span ∷ []) 0 (lines ++ line ∷ []) ≡ records_from context spans 0 lines ++ line_records context span.start span.end line
records_next context = given_next (λ i start end line. line_records context start end line)

-- and where its call returns
pub returns_next : (flags : IsaFlags) (lines : List Line) (spans : List LineSpan) (line : Line) (span : LineSpan) → length spans ≡ length lines → returns_from flags (spans ++ span ∷ []) 0 (lines ++ line ∷ []) ≡ returns_from flags spans 0 lines ++ line_returns flags (length spans) span.start line
returns_next flags = given_next (λ i start end line. line_returns flags i start line)

-- ==== What is said of lines by their spans stays as lines are added.

-- ---- where islands stand

pub open_more : (spans more : List LineSpan) (gaps more_gaps : List Gap) (i : ℕ) → i ≤ length spans → i ≤ length gaps → first_after_island (spans ++ more) (gaps ++ more_gaps) i ≡ first_after_island spans gaps i
open_more spans more gaps more_gaps zero le gap_le = refl
open_more spans more gaps more_gaps (suc i) le gap_le =
    λ j. cond (nat_lt (read_more gaps more_gaps (λ x. x.from) i (omega arith) j) (read_more gaps more_gaps (λ x. x.to) i (omega arith) j) || nat_lt (ends_more spans more i (omega arith) j) (read_more spans more (λ x. x.start) i (omega arith) j)) i (open_more spans more gaps more_gaps i (omega arith) (omega arith) j)

pub open_low : (spans : List LineSpan) (gaps : List Gap) (i : ℕ) → first_after_island spans gaps i ≤ i
open_low spans gaps zero = omega arith
open_low spans gaps (suc i) =
    cond_both (is_island gaps i || is_after_island spans i) i (first_after_island spans gaps i) (λ n. n ≤ suc i) (λ e. omega arith) (λ e. omega (arith, open_low spans gaps i))

-- ---- uses and binds

-- those of a line between two offsets
abbrev pub own_uses : (context : Context) → Line → ℕ → ℕ → List (Use LabelUse)
own_uses context (Put inst) start end = uses_in context start end inst
own_uses context (Bind label) start end = []

-- by what each line gives
uses_given : (context : Context) (spans : List LineSpan) (i : ℕ) (lines : List Line) → uses_from context spans i lines ≡ given_from (λ i start end line. own_uses context line start end) spans i lines
uses_given context spans i [] = refl
uses_given context spans i (Put inst ∷ lines) = ap (λ us. uses_in context (start_of spans i) (end_of spans i) inst ++ us) (uses_given context spans (suc i) lines)
uses_given context spans i (Bind label ∷ lines) = uses_given context spans (suc i) lines

pub uses_more : (context : Context) (spans more : List LineSpan) (i : ℕ) (lines : List Line) → i + length lines ≤ length spans → uses_from context (spans ++ more) i lines ≡ uses_from context spans i lines
uses_more context spans more i lines le = uses_given context (spans ++ more) i lines ∙ given_spans (λ i start end line. own_uses context line start end) spans more i lines le ∙ sym (uses_given context spans i lines)

uses_append : (context : Context) (spans : List LineSpan) (i : ℕ) (lines more : List Line) → uses_from context spans i (lines ++ more) ≡ uses_from context spans i lines ++ uses_from context spans (i + length lines) more
uses_append context spans i lines more = uses_given context spans i (lines ++ more) ∙ given_append (λ i start end line. own_uses context line start end) spans i lines more ∙ sym (λ j. uses_given context spans i lines j ++ uses_given context spans (i + length lines) more j)

pub bound_by_more : (spans more : List LineSpan) (i : ℕ) (lines : List Line) (label : ℕ) → i + length lines ≤ length spans → bound_by (spans ++ more) i lines label ≡ bound_by spans i lines label
bound_by_more spans more i [] label le = refl
bound_by_more spans more i (Put inst ∷ lines) label le = bound_by_more spans more (suc i) lines label (omega arith)
bound_by_more spans more i (Bind l ∷ lines) label le =
    λ j. cond (nat_eq l.number label) (Some (read_more spans more (λ x. x.start) i (omega arith) j)) (bound_by_more spans more (suc i) lines label (omega arith) j)

pub bound_by_append : (spans : List LineSpan) (i : ℕ) (lines more : List Line) (label : ℕ) → bound_by spans i (lines ++ more) label ≡ or_place (bound_by spans i lines label) (bound_by spans (i + length lines) more label)
bound_by_append spans i [] more label = let same : i ≡ i + 0 = omega arith in ap (λ n. bound_by spans n more label) same
bound_by_append spans i (Put inst ∷ lines) more label = grind (arith, bound_by_append spans (suc i) lines more label)
bound_by_append spans i (Bind l ∷ lines) more label = grind (arith, bound_by_append spans (suc i) lines more label)

-- ---- the uses that are open, as one line is added

own_last : (context : Context) (spans : List LineSpan) (line : Line) (span : LineSpan) → uses_from context (spans ++ span ∷ []) (length spans) (line ∷ []) ≡ own_uses context line span.start span.end
own_last context spans (Put inst) span = append-nil _ ∙ (λ j. uses_in context (read_last spans span (λ x. x.start) j) (read_last spans span (λ x. x.end) j) inst)
own_last context spans (Bind label) span = refl

module _ (context : Context) (lines : List Line) (spans : List LineSpan) (gaps : List Gap) (line : Line) (span : LineSpan) (gap : Gap) (count : length spans ≡ length lines) (gap_count : length gaps ≡ length lines) where
  abbrev here : Bool
  here = nat_lt gap.from gap.to || nat_lt (end_before spans (length lines)) span.start

  -- the first line whose uses are open: the last one, or that which it was
  first_by : (b : Bool) → here ≡ b → first_after_island (spans ++ span ∷ []) (gaps ++ gap ∷ []) (length (lines ++ line ∷ [])) ≡ cond b (length lines) (first_after_island spans gaps (length lines))
  first_by b e =
      let last : ℕ = length lines in
      let long : length (lines ++ line ∷ []) ≡ suc last = length-append lines (line ∷ []) ∙ omega arith in
      rw long ((λ j. cond (nat_lt ((ap (from_of (gaps ++ gap ∷ [])) (sym gap_count) ∙ read_last gaps gap (λ x. x.from)) j) ((ap (to_of (gaps ++ gap ∷ [])) (sym gap_count) ∙ read_last gaps gap (λ x. x.to)) j) || nat_lt (ends_more spans (span ∷ []) last (omega (arith, count)) j) ((ap (start_of (spans ++ span ∷ [])) (sym count) ∙ read_last spans span (λ x. x.start)) j)) last (open_more spans (span ∷ []) gaps (gap ∷ []) last (omega (arith, count)) (omega (arith, gap_count)) j)) ∙ (λ j. cond (e j) last (first_after_island spans gaps last)))

  abbrev pub OpenAfter : List (Use LabelUse) → List VCodeConstant → Type 0
  OpenAfter uses taken = (uses_after_island context (lines ++ line ∷ []) (spans ++ span ∷ []) (gaps ++ gap ∷ []) ≡ uses) × (constants_taken context (lines ++ line ∷ []) (spans ++ span ∷ []) (gaps ++ gap ∷ []) ≡ taken)

  -- an island in the line or before it: its own uses are open, and the island took the constants that all lines before it named
  pub open_own : here ≡ true → OpenAfter (own_uses context line span.start span.end) (constants_named lines)
  open_own e =
      (rw (first_by true e) (grind (arith, drop-append_seam, own_last context spans line span)), rw (first_by true e) (grind (arith, take-append-le, take_all)))

  -- no island: its own are added
  pub open_on : here ≡ false → OpenAfter (uses_after_island context lines spans gaps ++ own_uses context line span.start span.end) (constants_taken context lines spans gaps)
  open_on e =
      let k = first_after_island spans gaps (length lines) in
      let low : k ≤ length lines = open_low spans gaps (length lines) in
      let long : length (drop k lines) ≡ length lines - k = length-drop k lines in (
        rw (first_by false e) (grind (arith, drop-append-le k lines (line ∷ []) low, uses_append context (spans ++ span ∷ []) k (drop k lines) (line ∷ []), uses_more context spans (span ∷ []) k (drop k lines) (omega arith), own_last context spans line span)),
        rw (first_by false e) (grind (arith, take-append-le k lines (line ∷ []) low)),
      )
