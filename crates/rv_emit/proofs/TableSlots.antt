-- The slots of a branch by a table: each of their uses reaches everywhere.
use Rattle.{rv_code.proofs.LineSlots.number_by, rv_code.specs.Slots.{uses_of, records_of}, rv_emit.proofs.OwnPieces.{Each, each_none, each_more}}
use Rattle.rv_emit.proofs.Terms.{◌≡◌, ℕ, suc, ◌+◌, List, [], ◌∷◌, ◌++◌, map, length, Some, refl, ap, sym, ◌∙◌, subst, arith, slice_get, ℤ, pos, VCodeConstant, IsaFlags, MachLabel}
use Rattle.rv_emit.proofs.Terms.{LabelUse, slots_of, PCRel32, use_at, IsFarUse, number_slots, table_slots, Target, Label, Own, Slot, Op, Fixup, Data, names_of, far_jump, jump_slots, IsPlain}

-- ---- slots whose uses reach everywhere

-- one of these labels
record IsIn (labels : List MachLabel) (label : MachLabel) : Type 0 where
  pub index : ℕ
  pub there : slice_get labels index ≡ Some label

abbrev IsFarAim : List MachLabel → LabelUse → Target → Type 0
IsFarAim labels kind (Label label) = (kind ≡ PCRel32) × IsIn labels label
IsFarAim labels kind (Own k) = ⊥

-- operations, data, and uses of these labels that reach everywhere
abbrev AreFar : List MachLabel → List Slot → Type 0
AreFar labels [] = Unit {0}
AreFar labels (Op d ∷ slots) = AreFar labels slots
AreFar labels (Fixup kind target ops ∷ slots) = IsFarAim labels kind target × AreFar labels slots
AreFar labels (Data bytes ∷ slots) = AreFar labels slots
AreFar labels (first ∷ slots) = ⊥

far_both : (labels : List MachLabel) (slots more : List Slot) → AreFar labels slots → AreFar labels more → AreFar labels (slots ++ more)
far_both labels [] more a b = b
far_both labels (Op d ∷ slots) more a b = far_both labels slots more a b
far_both labels (Fixup kind target ops ∷ slots) more a b = (a.0, far_both labels slots more a.1 b)
far_both labels (Data bytes ∷ slots) more a b = far_both labels slots more a b
far_both labels (first ∷ slots) more a b = absurd a

far_use : (labels : List MachLabel) (allocated at : ℕ) (label : MachLabel) (kind : LabelUse) → kind ≡ PCRel32 → IsIn labels label → IsFarUse labels (use_at at label kind)
far_use labels allocated at label kind is i = subst (λ k. IsFarUse labels (use_at at label k)) (sym is) (record { far = refl; direct = refl; bare = refl; index = i.index; names = i.there })

-- what they add
pub record AddFar (labels : List MachLabel) (slots : List Slot) : Type 0 where
  pub plain : IsPlain slots
  pub uses : (allocated at : ℕ) → Each (IsFarUse labels) (uses_of allocated at slots)
  pub records : (at : ℕ) → records_of at slots ≡ []
  pub names : (named : List VCodeConstant) → names_of slots named ≡ named

add_far : (labels : List MachLabel) (slots : List Slot) → AreFar labels slots → AddFar labels slots
add_far labels [] a = record { plain = tt; uses = λ allocated at. each_none _; records = λ at. refl; names = λ named. refl }
add_far labels (Op d ∷ slots) a = let r = add_far labels slots a in record { plain = r.plain; uses = λ allocated at. r.uses allocated _; records = λ at. r.records _; names = r.names }
add_far labels (Fixup kind (Label label) ops ∷ slots) a =
    let r = add_far labels slots a.1 in
    record { plain = r.plain; uses = λ allocated at. each_more (IsFarUse labels) _ _ (far_use labels allocated at label kind a.0.0 a.0.1) (r.uses allocated _); records = λ at. r.records _; names = r.names }
add_far labels (Fixup kind (Own k) ops ∷ slots) a = absurd a.0
add_far labels (Data bytes ∷ slots) a = let r = add_far labels slots a in record { plain = r.plain; uses = λ allocated at. r.uses allocated _; records = λ at. r.records _; names = r.names }
add_far labels (first ∷ slots) a = absurd a

-- ---- those of a table

-- a number in a register names no label
number_far : (labels : List MachLabel) (flags : IsaFlags) (rd : ℕ) (z : ℤ) → AreFar labels (number_slots flags rd z)
number_far labels flags rd z = number_by (λ ps. AreFar labels (slots_of flags ps)) rd z (λ low. tt) (λ fits none. tt) (λ fits. tt) (λ far. tt)

jumps_far : (all : List MachLabel) (tmp from : ℕ) (labels : List MachLabel) → ((i : ℕ) (l : MachLabel) → slice_get labels i ≡ Some l → slice_get all (from + i) ≡ Some l) → AreFar all (map (far_jump tmp) labels)
jumps_far all tmp from [] there = tt
jumps_far all tmp from (l ∷ labels) there =
    ((refl, record { index = from + 0; there = there 0 l refl }), jumps_far all tmp (suc from) labels (λ i m h. let same : suc from + i ≡ from + suc i = omega arith in ap (slice_get all) same ∙ there (suc i) m h))

table_far : (flags : IsaFlags) (index tmp1 tmp2 : ℕ) (targets : List MachLabel) → AreFar targets (table_slots flags index tmp1 tmp2 targets)
table_far flags index tmp1 tmp2 [] = tt
table_far flags index tmp1 tmp2 (default ∷ labels) =
    let all = default ∷ labels in
    far_both all (number_slots flags tmp2 (pos (length labels))) (jump_slots tmp1 tmp2 default labels) (number_far all flags tmp2 (pos (length labels)))
    ((refl, record { index = 0; there = refl }), jumps_far all tmp2 1 labels (λ i l h. let same : 1 + i ≡ suc i = omega arith in ap (slice_get all) same ∙ h))

pub table_adds : (flags : IsaFlags) (index tmp1 tmp2 : ℕ) (targets : List MachLabel) → AddFar targets (table_slots flags index tmp1 tmp2 targets)
table_adds flags index tmp1 tmp2 targets = add_far targets (table_slots flags index tmp1 tmp2 targets) (table_far flags index tmp1 tmp2 targets)
