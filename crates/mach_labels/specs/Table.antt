-- What a table has for each label.
use Rattle.std.specs.Prelude.{◌≡◌, ℕ, ◌^◌, ◌-◌, Option, Some, nat_eq, nat_lt, if◌then◌else◌}
use Rattle.std.specs.Option.{option_or}
use Rattle.std.specs.BTreeMap.{get}
use Rattle.std.specs.Ordering.{nat_cmp}
use Rattle.mach_labels.specs.declared.table.LabelTable.{LabelTable}
use Rattle.mach_labels.specs.Slots.{slot_of}

-- the number of the first label that a buffer gives out: a listing names only labels below, so the two never meet, and each
-- has half of the numbers below 2^31
abbrev pub first_inner : ℕ
first_inner = 2 ^ 30

-- the number of the first constant's label: each constant has one of its own, by its number
abbrev pub first_constant : ℕ
first_constant = 2 ^ 31

-- what the vectors have: one a listing's labels, one those that a buffer gives out, one the constants'
abbrev pub dense_of : {T : Type 0} → LabelTable T → ℕ → Option T
dense_of table label =
    if nat_lt label first_inner then slot_of table.own.items label else if nat_lt label first_constant then slot_of table.inner.items (label - first_inner) else slot_of table.constants.items (label - first_constant)

-- what the table has for a label
unfoldable pub entry_of : {T : Type 0} → LabelTable T → ℕ → Option T
entry_of table label = option_or (dense_of table label) (get nat_cmp table.sparse label)

-- each label has what it had
abbrev pub Same : {T : Type 0} → LabelTable T → LabelTable T → Type 0
Same old new = (n : ℕ) → entry_of new n ≡ entry_of old n

-- this label has this value, each other one what it had
abbrev pub Puts : {T : Type 0} → ℕ → T → LabelTable T → LabelTable T → Type 0
Puts label value old new = (n : ℕ) → entry_of new n ≡ (if nat_eq n label then Some value else entry_of old n)
