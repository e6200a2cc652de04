-- For callers: the places of labels, the labels that a buffer gives out, and those of constants.
use Rattle.std.specs.Prelude.{ℕ, ◌+◌, ◌^◌, Bool, false, ◌||◌, List, [], ◌∷◌, ◌++◌, Option, Some, nat_eq, nat_lt, if◌then◌else◌}
use Rattle.rv_base.specs.declared.label.MachLabel.{MachLabel}
use Rattle.rv_base.specs.declared.constant.VCodeConstant.{VCodeConstant}
use Rattle.mach_labels.specs.Table.{first_inner, first_constant}
use Rattle.mach_uses.specs.declared.uses.LabelPlace.{LabelPlace}

-- what a bound label adds to those in order of binding
abbrev pub listed : MachLabel → ℕ → List LabelPlace
listed label at = if nat_lt label.number first_inner then record { label = label; offset = at } ∷ [] else []

-- the places of labels with one more
abbrev pub placed : (ℕ → Option ℕ) → ℕ → ℕ → ℕ → Option ℕ
placed place label at other = if nat_eq other label then Some at else place other

-- how many inner labels a buffer can give out: their numbers are below 2^31
abbrev pub inner_count : ℕ
inner_count = 2 ^ 30

-- the label of a constant, by its number
abbrev pub constant_label : VCodeConstant → MachLabel
constant_label constant = record { number = first_constant + constant.number }

-- whether a constant of this number is one of these
abbrev pub is_named : List VCodeConstant → ℕ → Bool
is_named [] number = false
is_named (k ∷ named) number = nat_eq k.number number || is_named named number

-- a constant is named: it comes after the others, unless it was named before
abbrev pub name_more : VCodeConstant → List VCodeConstant → List VCodeConstant
name_more k named = named ++ (if is_named named k.number then [] else k ∷ [])
