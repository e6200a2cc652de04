-- Words of a report end at the first byte that is below all of theirs.
use Rattle.std.proofs.Common.{◌≡◌, ℕ, zero, suc, ◌+◌, ◌%◌, ◌-◌, ◌^◌, ◌<◌, ◌≤◌, ◌&&◌, Bool, true, false, T, leb, List, [], ◌∷◌, ◌++◌, drop, refl, sym, ap, subst, ℤ, pos, negsuc, ◌≤ℤ◌, append_assoc, arith}
use Rattle.std.specs.List.{list_all, AllByRecursion}
use Rattle.std.specs.Fmt.{decimal, signed_decimal}
use Rattle.std.proofs.lemmas.Fmt.{decimal_by_steps, decimal_injective, signed_decimal_injective}
use lib.Dec.{leb→le}
use lib.Signed.{mag}
use Rattle.rv_base.specs.RegNames.{name_at}

pub All-append : (P : ℕ → Type 0) (xs ys : List ℕ) → AllByRecursion P xs → AllByRecursion P ys → AllByRecursion P (xs ++ ys)
All-append P [] ys all more = more
All-append P (x ∷ xs) ys all more = (all.0, All-append P xs ys all.1 more)

pub All-weaker : (P Q : ℕ → Type 0) → ((c : ℕ) → P c → Q c) → (xs : List ℕ) → AllByRecursion P xs → AllByRecursion Q xs
All-weaker P Q f [] all = tt
All-weaker P Q f (x ∷ xs) all = (f x all.0, All-weaker P Q f xs all.1)

-- no byte is below this
abbrev pub Above : ℕ → List ℕ → Type 0
Above low = AllByRecursion (λ (c : ℕ). low ≤ c)

lower : (low high : ℕ) (xs : List ℕ) → low ≤ high → Above high xs → Above low xs
lower low high xs under all = All-weaker (λ (c : ℕ). high ≤ c) (λ (c : ℕ). low ≤ c) (λ c above. omega arith) xs all

pub checked : (low : ℕ) (w : List ℕ) → T (list_all (leb low) w) → Above low w
checked low [] holds = tt
checked low (c ∷ cs) holds = on (leb low c) refl (checked low cs) holds
  where
    on : (t : Bool) → leb low c ≡ t → (T (list_all (leb low) cs) → Above low cs) → T (t && list_all (leb low) cs) → (low ≤ c) × Above low cs
    on true is rest others = (leb→le low c (subst T (sym is) tt), rest others)
    on false is rest others = absurd others

-- each of some names, and the empty one where there is none
pub each_checked : (low : ℕ) (names : List (List ℕ)) (n : ℕ) → T (list_all (list_all (leb low)) names) → Above low (name_at names n)
each_checked low [] n holds = tt
each_checked low (w ∷ ws) n holds = on (list_all (leb low) w) refl n (λ m. each_checked low ws m) holds
  where
    on : (t : Bool) → list_all (leb low) w ≡ t → (n : ℕ) → ((m : ℕ) → T (list_all (list_all (leb low)) ws) → Above low (name_at ws m)) → T (t && list_all (list_all (leb low)) ws) → Above low (name_at (w ∷ ws) n)
    on true is zero rest others = checked low w (subst T (sym is) tt)
    on true is (suc m) rest others = rest m others
    on false is n rest others = absurd others

-- ---- numbers

abbrev pub IsDigit : ℕ → Type 0
IsDigit c = (48 ≤ c) × (c < 58)

pub Digits-decimal : (n : ℕ) → n < 2 ^ 64 → AllByRecursion IsDigit (decimal n)
Digits-decimal n small = decimal_by_steps (λ n ds. AllByRecursion IsDigit ds) (λ n low. ((omega arith, omega arith), tt)) (λ n ds big all. All-append IsDigit ds ((48 + n % 10) ∷ []) all ((omega arith, omega arith), tt)) n small

pub Above-decimal : (n : ℕ) → n < 2 ^ 64 → Above 48 (decimal n)
Above-decimal n small = All-weaker IsDigit (λ (c : ℕ). 48 ≤ c) (λ c is. is.0) (decimal n) (Digits-decimal n small)

-- a signed number of 64 bits
mag_small : (z : ℤ) → negsuc (2 ^ 63 - 1) ≤ℤ z → z ≤ℤ pos (2 ^ 63 - 1) → mag z < 2 ^ 63
mag_small (pos n) low high = let it = leb→le n (2 ^ 63 - 1) high.le in omega arith
mag_small (negsuc n) low high = let it = leb→le n (2 ^ 63 - 1) low.le in omega arith

Above-signed : (z : ℤ) → mag z < 2 ^ 63 → Above 45 (signed_decimal z)
Above-signed (pos n) small = lower 45 48 (decimal n) (omega arith) (Above-decimal n (omega arith))
Above-signed (negsuc n) small = (omega arith, lower 45 48 (decimal (suc n)) (omega arith) (Above-decimal (suc n) (omega arith)))

-- ---- words and what is after them

-- begins with a byte that isn't among these
abbrev pub Ends : (ℕ → Type 0) → List ℕ → Type 0
Ends In [] = ⊥
Ends In (c ∷ cs) = In c → ⊥

pub ends_also : (In Fewer : ℕ → Type 0) → ((c : ℕ) → Fewer c → In c) → (w : List ℕ) → Ends In w → Ends Fewer w
ends_also In Fewer f [] ends = ends
ends_also In Fewer f (c ∷ cs) ends = λ (is : Fewer c). ends (f c is)

-- a word of such bytes goes up to the first other one
pub cut_ends : (In : ℕ → Type 0) (xs ys a b : List ℕ) → Ends In a → Ends In b → AllByRecursion In xs → AllByRecursion In ys → xs ++ a ≡ ys ++ b → (xs ≡ ys) × (a ≡ b)
cut_ends In [] [] a b ea eb dx dy e = (refl, e)
cut_ends In [] (y ∷ ys) [] b ea eb dx dy e = absurd ea
cut_ends In [] (y ∷ ys) (c ∷ a) b ea eb dx dy e = let same : y ≡ c = cc in absurd (ea (subst In same dy.0))
cut_ends In (x ∷ xs) [] a [] ea eb dx dy e = absurd eb
cut_ends In (x ∷ xs) [] a (c ∷ b) ea eb dx dy e = let same : x ≡ c = cc in absurd (eb (subst In same dx.0))
cut_ends In (x ∷ xs) (y ∷ ys) a b ea eb dx dy e =
    let head : x ≡ y = cc in
    let tails : xs ++ a ≡ ys ++ b = cc in
    let rest = cut_ends In xs ys a b ea eb dx.1 dy.1 tails in
    ((λ i. head i ∷ rest.0 i), rest.1)

pub cut : (low : ℕ) (xs ys a b : List ℕ) (c : ℕ) → c < low → Above low xs → Above low ys → xs ++ c ∷ a ≡ ys ++ c ∷ b → (xs ≡ ys) × (a ≡ b)
cut low xs ys a b c under dx dy e =
    let parts = cut_ends (λ (k : ℕ). low ≤ k) xs ys (c ∷ a) (c ∷ b) (λ above. absurd (omega arith)) (λ above. absurd (omega arith)) dx dy e in
    (parts.0, ap (drop 1) parts.1)

pub number_ends : (m n : ℕ) (a b : List ℕ) → Ends IsDigit a → Ends IsDigit b → m < 2 ^ 64 → n < 2 ^ 64 → decimal m ++ a ≡ decimal n ++ b → (m ≡ n) × (a ≡ b)
number_ends m n a b ea eb hm hn e =
    let parts = cut_ends IsDigit (decimal m) (decimal n) a b ea eb (Digits-decimal m hm) (Digits-decimal n hn) e in
    (decimal_injective m n hm hn parts.0, parts.1)

pub number_opens : (m n : ℕ) (a b : List ℕ) (c : ℕ) → c < 48 → m < 2 ^ 64 → n < 2 ^ 64 → decimal m ++ c ∷ a ≡ decimal n ++ c ∷ b → (m ≡ n) × (a ≡ b)
number_opens m n a b c low hm hn e =
    let parts = number_ends m n (c ∷ a) (c ∷ b) (λ is. absurd (omega arith)) (λ is. absurd (omega arith)) hm hn e in
    (parts.0, ap (drop 1) parts.1)

pub two_open : (m n j k : ℕ) (a b : List ℕ) → m < 2 ^ 32 → n < 2 ^ 32 → j < 2 ^ 32 → k < 2 ^ 32 → decimal m ++ 32 ∷ (decimal j ++ 10 ∷ a) ≡ decimal n ++ 32 ∷ (decimal k ++ 10 ∷ b) → (m ≡ n) × ((j ≡ k) × (a ≡ b))
two_open m n j k a b hm hn hj hk e =
    let one = number_opens m n _ _ 32 (omega arith) (omega arith) (omega arith) e in
    (one.0, number_opens j k _ _ 10 (omega arith) (omega arith) (omega arith) one.1)

pub signed_opens : (y z : ℤ) (a b : List ℕ) → negsuc (2 ^ 63 - 1) ≤ℤ y → y ≤ℤ pos (2 ^ 63 - 1) → negsuc (2 ^ 63 - 1) ≤ℤ z → z ≤ℤ pos (2 ^ 63 - 1) → signed_decimal y ++ 10 ∷ a ≡ signed_decimal z ++ 10 ∷ b → (y ≡ z) × (a ≡ b)
signed_opens y z a b ly hy lz hz e =
    let parts = cut 45 (signed_decimal y) (signed_decimal z) a b 10 (omega arith) (Above-signed y (mag_small y ly hy)) (Above-signed z (mag_small z lz hz)) e in
    (signed_decimal_injective y z (mag_small y ly hy) (mag_small z lz hz) parts.0, parts.1)

-- one part between a text and the end of a line
pub regroup_one : (p i a : List ℕ) → (p ++ i ++ 10 ∷ []) ++ a ≡ p ++ (i ++ 10 ∷ a)
regroup_one p i a = simp append_assoc

-- two parts between a text and the end of a line
pub regroup_two : (p i s a : List ℕ) → (p ++ i ++ 32 ∷ [] ++ s ++ 10 ∷ []) ++ a ≡ p ++ (i ++ 32 ∷ (s ++ 10 ∷ a))
regroup_two p i s a = simp append_assoc

-- two bytes that differ
pub far : (m n : ℕ) → m ≡ n → n < m → ⊥
far m n e lt = absurd (omega arith)

pub near : (m n : ℕ) → m ≡ n → m < n → ⊥
near m n e lt = absurd (omega arith)
