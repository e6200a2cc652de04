-- What a table has after one of its parts is changed.
use Rattle.std.proofs.Common.{◌≡◌, ℕ, ◌<◌, ◌≤◌, ◌-◌, ◌^◌, Option, Some, None, Bool, true, false, cond, refl, sym, ap, ◌∙◌, arith, Less, Equal, Greater}
use Rattle.std.specs.Prelude.{nat_eq, nat_lt}
use Rattle.std.specs.Option.{option_or}
use Rattle.std.specs.Ordering.{nat_cmp, is_eq}
use Rattle.std.specs.BTreeMap.{get, is_at, Updates, BTreeMap}
use Rattle.std.proofs.lemmas.Bool.{false≢true}
use Rattle.std.proofs.lemmas.Bool.Decides.{nat_tests}

-- a key of the map is at a label where it is that label
pub is_at-label : (label n : ℕ) → is_at (nat_cmp label) n ≡ nat_eq n label
is_at-label label n = on (nat_lt label n) (nat_eq label n) (nat_eq n label) (grind (arith, nat_tests)) (grind (arith, nat_tests))
  where
    on : (lt eq eq' : Bool) → eq ≡ eq' → (lt ≡ true → eq ≡ false) → is_eq (cond lt Less (cond eq Equal Greater)) ≡ eq'
    on true eq eq' same apart = sym (apart refl) ∙ same
    on false true eq' same apart = same
    on false false eq' same apart = same

-- the label's slot among a listing's own is written
pub own_step : {T : Type 0} (low same : Bool) (value : T) (own inner sparse : Option T) → (same ≡ true → low ≡ true) → option_or (cond low (cond same (Some value) own) inner) sparse ≡ cond same (Some value) (option_or (cond low own inner) sparse)
own_step true true value own inner sparse only = refl
own_step true false value own inner sparse only = refl
own_step false true value own inner sparse only = absurd (false≢true (only refl))
own_step false false value own inner sparse only = refl

-- the label's slot among a buffer's is written
pub inner_step : {T : Type 0} (low mid same at : Bool) (value : T) (own inner constants sparse : Option T) → (low ≡ false → mid ≡ true → at ≡ same) → (same ≡ true → low ≡ false) → (same ≡ true → mid ≡ true) → option_or (cond low own (cond mid (cond at (Some value) inner) constants)) sparse ≡ cond same (Some value) (option_or (cond low own (cond mid inner constants)) sparse)
inner_step true mid true at value own inner constants sparse is high only = absurd (false≢true (sym (high refl)))
inner_step true mid false at value own inner constants sparse is high only = refl
inner_step false true true true value own inner constants sparse is high only = refl
inner_step false true true false value own inner constants sparse is high only = absurd (false≢true (is refl refl))
inner_step false true false true value own inner constants sparse is high only = absurd (false≢true (sym (is refl refl)))
inner_step false true false false value own inner constants sparse is high only = refl
inner_step false false true at value own inner constants sparse is high only = absurd (false≢true (only refl))
inner_step false false false at value own inner constants sparse is high only = refl

-- the label's slot among the constants' is written
pub constant_step : {T : Type 0} (low mid same at : Bool) (value : T) (own inner constants sparse : Option T) → (low ≡ false → mid ≡ false → at ≡ same) → (same ≡ true → low ≡ false) → (same ≡ true → mid ≡ false) → option_or (cond low own (cond mid inner (cond at (Some value) constants))) sparse ≡ cond same (Some value) (option_or (cond low own (cond mid inner constants)) sparse)
constant_step true mid true at value own inner constants sparse is high only = absurd (false≢true (sym (high refl)))
constant_step true mid false at value own inner constants sparse is high only = refl
constant_step false true true at value own inner constants sparse is high only = absurd (false≢true (sym (only refl)))
constant_step false true false at value own inner constants sparse is high only = refl
constant_step false false true true value own inner constants sparse is high only = refl
constant_step false false true false value own inner constants sparse is high only = absurd (false≢true (is refl refl))
constant_step false false false true value own inner constants sparse is high only = absurd (false≢true (sym (is refl refl)))
constant_step false false false false value own inner constants sparse is high only = refl

-- the map has a new value for a label that has no slot
pub sparse_step : {T : Type 0} (same : Bool) (value : T) (dense sparse : Option T) → (same ≡ true → dense ≡ None) → option_or dense (cond same (Some value) sparse) ≡ cond same (Some value) (option_or dense sparse)
sparse_step true value None sparse only = refl
sparse_step true value (Some x) sparse only = absurd (cc (only refl))
sparse_step false value dense sparse only = refl
