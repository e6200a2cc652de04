-- Registers that come from the stack: which they may be.
use Rattle.{rv_code.{proofs.OperationActs.{IsIntegerLoad, no_format}, proofs.Words.{AllByRecursion, FloatFormat, is_float_load, load_format, loads_float, or_parts, StackLoad}}, std.proofs.Common.{◌≢◌, ◌≡◌, ℕ, ◌<◌, false, List, [], ◌∷◌, Option, Some, None, subst}}

-- a register below x30 that isn't the stack pointer
pub record IsLoadable (n : ℕ) : Type 0 where
  pub usable : n < 30
  pub apart : n ≢ 2

-- a floating-point register is one of the machine
abbrev pub IsLoadableAs : Option FloatFormat → ℕ → Type 0
IsLoadableAs None n = IsLoadable n
IsLoadableAs (Some format) n = n < 32

abbrev pub AreStackLoads : List StackLoad → Type 0
AreStackLoads loads = AllByRecursion (λ (l : StackLoad). IsLoadableAs (load_format l.op) l.register) loads

-- by a load of integers
pub record IsStackLoad (l : StackLoad) : Type 0 where
  pub register : IsLoadable l.register
  pub integer : IsIntegerLoad l.op

abbrev pub AreLoadable : List StackLoad → Type 0
AreLoadable loads = AllByRecursion IsStackLoad loads

-- where none is of a floating-point register
pub integers_loadable : (loads : List StackLoad) → loads_float loads ≡ false → AreStackLoads loads → AreLoadable loads
integers_loadable [] e h = tt
integers_loadable (l ∷ loads) e h = let both = or_parts (is_float_load l.op) (loads_float loads) e in (record { register = subst (λ o. IsLoadableAs o l.register) (no_format (load_format l.op) both.0) h.0; integer = both.0 }, integers_loadable loads both.1 h.1)

-- none of them is this one
abbrev pub AreOthers : ℕ → List StackLoad → Type 0
AreOthers n loads = AllByRecursion (λ (l : StackLoad). l.register ≢ n) loads

-- no integer register among them is this one
abbrev pub IsOtherAs : Option FloatFormat → ℕ → ℕ → Type 0
IsOtherAs None n m = m ≢ n
IsOtherAs (Some format) n m = Unit {0}

abbrev pub AreOthersAs : ℕ → List StackLoad → Type 0
AreOthersAs n loads = AllByRecursion (λ (l : StackLoad). IsOtherAs (load_format l.op) n l.register) loads

pub integers_other : (n : ℕ) (loads : List StackLoad) → loads_float loads ≡ false → AreOthersAs n loads → AreOthers n loads
integers_other n [] e h = tt
integers_other n (l ∷ loads) e h = let both = or_parts (is_float_load l.op) (loads_float loads) e in (subst (λ o. IsOtherAs o n l.register) (no_format (load_format l.op) both.0) h.0, integers_other n loads both.1 h.1)

pub stack_apart : (loads : List StackLoad) → AreLoadable loads → AreOthers 2 loads
stack_apart [] h = tt
stack_apart (l ∷ loads) h = (h.0.register.apart, stack_apart loads h.1)
