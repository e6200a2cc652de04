-- What holds of every value that an option may have, along the ways in which decoding puts options together.
use Rattle.std.proofs.Common.{◌≡◌, ℕ, Bool, true, false, cond, ◌&&◌, Option, Some, None, refl}
use Rattle.std.specs.Prelude.{IfSome, ◌==◌}
use Rattle.std.specs.Option.{option_map, option_and_then}
use Rattle.std.proofs.lemmas.Bool.{eqb-true, and_parts}
use Rattle.rv_machine.specs.declared.decoding.Decoded.{Decoded}
use Rattle.rv_machine.specs.Layout.{or_else}
use Rattle.rv_machine.specs.UnitDecode.{only}

pub every_map : {A B : Type 0} (g : A → B) (P : B → Type 0) (o : Option A) → IfSome o (λ a. P (g a)) → IfSome (option_map g o) P
every_map g P None h = _
every_map g P (Some a) h = h

pub every_then : {A B : Type 0} (g : A → Option B) (P : B → Type 0) (o : Option A) → IfSome o (λ a. IfSome (g a) P) → IfSome (option_and_then g o) P
every_then g P None h = _
every_then g P (Some a) h = h

pub every_else : (P : Decoded → Type 0) (o p : Option Decoded) → IfSome o P → IfSome p P → IfSome (or_else o p) P
every_else P None p h g = g
every_else P (Some d) p h g = h

pub every_if : {A : Type 0} (P : A → Type 0) (c : Bool) (x y : Option A) → (c ≡ true → IfSome x P) → (c ≡ false → IfSome y P) → IfSome (cond c x y) P
every_if P true x y h g = h refl
every_if P false x y h g = g refl

pub every_only : (P : Decoded → Type 0) (c : Bool) (o : Option Decoded) → (c ≡ true → IfSome o P) → IfSome (only c o) P
every_only P true o h = h refl
every_only P false o h = _

-- a row of a table by one field, or by two
pub row : {A : Type 0} (P : A → Type 0) (f a : ℕ) (x : A) (rest : Option A) → (f ≡ a → P x) → IfSome rest P → IfSome (cond (f == a) (Some x) rest) P
row P f a x rest h g = every_if P (f == a) (Some x) rest (λ t. h (eqb-true f a t)) (λ t. g)

pub row_2 : {A : Type 0} (P : A → Type 0) (f a g b : ℕ) (x : A) (rest : Option A) → (f ≡ a → g ≡ b → P x) → IfSome rest P → IfSome (cond ((f == a) && (g == b)) (Some x) rest) P
row_2 P f a g b x rest h k = every_if P ((f == a) && (g == b)) (Some x) rest (λ t. h (eqb-true f a (and_parts (f == a) (g == b) t).0) (eqb-true g b (and_parts (f == a) (g == b) t).1)) (λ t. k)

-- a choice by a field
pub choice : {A : Type 0} (P : A → Type 0) (f a : ℕ) (x rest : Option A) → (f ≡ a → IfSome x P) → IfSome rest P → IfSome (cond (f == a) x rest) P
choice P f a x rest h g = every_if P (f == a) x rest (λ t. h (eqb-true f a t)) (λ t. g)

pub row_3 : {A : Type 0} (P : A → Type 0) (f a g b k c : ℕ) (x : A) (rest : Option A) → (f ≡ a → g ≡ b → k ≡ c → P x) → IfSome rest P → IfSome (cond ((f == a) && (g == b) && (k == c)) (Some x) rest) P
row_3 P f a g b k c x rest h r =
    every_if P ((f == a) && (g == b) && (k == c)) (Some x) rest
    (λ t. let parts = and_parts ((f == a) && (g == b)) (k == c) t in let first = and_parts (f == a) (g == b) parts.0 in h (eqb-true f a first.0) (eqb-true g b first.1) (eqb-true k c parts.1))
    (λ t. r)

-- what holds of every value
pub every_value : {A : Type 0} (P : A → Type 0) → ((a : A) → P a) → (o : Option A) → IfSome o P
every_value P h None = _
every_value P h (Some a) = h a
