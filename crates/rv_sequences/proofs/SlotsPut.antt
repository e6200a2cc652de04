-- The slots that calls put, one call after the other.
use Rattle.rv_code.specs.Pieces.{Word32, Word64}
use Rattle.rv_sequences.proofs.{BufferAfterSlots.{lasts_after_slots, puts_bytes}, Encoded.{word_encodes, half_jump_patchable, half_encodes}, OwnForms.own_word, PlainSlots.plain_keeps, Terms.{Ld, Lw, Trap, ◌≡◌, ◌≢◌, ℕ, ◌+◌, true, false, nat_eq, List, [], ◌∷◌, length, ℤ, IsPatchable, Some, refl, ap}}
use Rattle.rv_sequences.proofs.Terms.{sym, ◌∙◌, subst, arith, inl, inr, ◌++◌, ◌<◌, if◌then◌else◌, ◌%◌, ◌^◌, to_le_bytes, w16, w32, length-append, nat_tests, IsaFlags, MachLabel, Decoded, decode, compressed, Base, Jal, decoded_jump, IntegerCompare, LabelUse, Jal20, RVCJump, word_bytes, half_at}
use Rattle.rv_sequences.proofs.Terms.{use_at, shape_of, bytes_of, allocated_of, with_bytes, with_use, Shape, IsUsable, with_record, Buffer, IsSoundBuffer, PutsAlone, PutsSlots, Label, Slot, Op, Fixup, Data, size_of, PutsSlot, Puts, jump_to, wide_jump_to, branch_to, trap_bytes, trap_slots}
use Rattle.rv_sequences.proofs.Terms.{literal_of, literal_slots, load_over, IrType, RegClass, move_op, move_pieces, move_by, slots_of, bits_of, TrapCode, label_kinds, Lasts, IsPlain, decode_half, IsOwnForm, IsHalf}

-- ---- one call

-- slots that were put are the only part
pub alone : {flags : IsaFlags} {slots : List Slot} {old new : Buffer} → PutsSlots flags slots old new → PutsAlone flags slots old new
alone {flags} {slots} {old} {new} p = (new, p, refl)

-- one slot was put
pub slot_put : {flags : IsaFlags} (slot : Slot) (old new : Buffer) → PutsSlot flags (allocated_of old) slot (shape_of old) (shape_of new) → IsSoundBuffer new → PutsSlots flags (slot ∷ []) old new
slot_put slot old new put sound = record { puts = (shape_of new, put, refl); sound = sound }

-- nothing was put
pub none_put : (flags : IsaFlags) (b : Buffer) → IsSoundBuffer b → PutsAlone flags [] b b
none_put flags b s = (b, record { puts = refl; sound = s }, refl)

-- the word of an operation
pub op_put : (flags : IsaFlags) (old new : Buffer) (w : ℕ) (bytes : List ℕ) (d : Decoded) → d.len ≡ 4 → decode flags w ≡ Some d → bytes ≡ word_bytes w → shape_of new ≡ with_bytes bytes (shape_of old) → IsSoundBuffer new → PutsAlone flags (Op d ∷ []) old new
op_put flags old new w bytes d four e is put sound = alone (slot_put (Op d) old new (word_bytes w, sym four, word_encodes flags w d e, put ∙ ap (λ b. with_bytes b (shape_of old)) is, own_word d (half_at (word_bytes w)) four) sound)

-- a use of a label whose window is a word, as a jump or a branch
pub aim_put_at : (flags : IsaFlags) (kind : LabelUse) (ops : ℤ → List Decoded) (old new : Buffer) (w : ℕ) (label : MachLabel) → IsPatchable flags kind (word_bytes w) ops → shape_of new ≡ with_bytes (word_bytes w) (with_use (use_at (length (bytes_of old)) label kind) (shape_of old)) → IsSoundBuffer new → PutsSlots flags (Fixup kind (Label label) ops ∷ []) old new
aim_put_at flags kind ops old new w label is put sound = slot_put (Fixup kind (Label label) ops) old new (word_bytes w, is, put) sound

-- where there is no c.j, that is the jump
pub whole_jump_put : (flags : IsaFlags) (old new : Buffer) (label : MachLabel) → flags.has_zca ≡ false → PutsSlots flags (wide_jump_to (Label label) ∷ []) old new → PutsSlots flags (jump_to flags (Label label) ∷ []) old new
whole_jump_put flags old new label off p = subst (λ c. PutsSlots flags (Fixup (if c then RVCJump else Jal20) (Label label) (λ d. (if c then compressed (Base Jal) 0 0 0 d else decoded_jump d) ∷ []) ∷ []) old new) (sym off) p

-- and c.j, where there is one
pub half_jump_put : (flags : IsaFlags) → flags.has_zca ≡ true → (old mid new : Buffer) (label : MachLabel) (half here : ℕ) → half ≡ 0xa001 → here ≡ length (bytes_of old) → shape_of mid ≡ with_use (use_at here label RVCJump) (shape_of old) → shape_of new ≡ with_bytes (to_le_bytes w16 half) (shape_of mid) → IsSoundBuffer new → PutsSlots flags (jump_to flags (Label label) ∷ []) old new
half_jump_put flags on old mid new label half here is at used put sound = subst (λ c. PutsSlots flags (Fixup (if c then RVCJump else Jal20) (Label label) (λ d. (if c then compressed (Base Jal) 0 0 0 d else decoded_jump d) ∷ []) ∷ []) old new) (sym on)
    (slot_put (Fixup RVCJump (Label label) (λ d. compressed (Base Jal) 0 0 0 d ∷ [])) old new (0x01 ∷ 0xa0 ∷ [], half_jump_patchable flags on, put ∙ (λ i. with_bytes (to_le_bytes w16 (is i)) (used i)) ∙ ap (λ n. with_bytes (0x01 ∷ 0xa0 ∷ []) (with_use (use_at n label RVCJump) (shape_of old))) at) sound)

-- four bytes longer
pub word_longer : (old new : Buffer) (w : ℕ) (label : MachLabel) (kind : LabelUse) → shape_of new ≡ with_bytes (word_bytes w) (with_use (use_at (length (bytes_of old)) label kind) (shape_of old)) → length (bytes_of new) ≡ length (bytes_of old) + 4
word_longer old new w label kind put = ap (λ s. length s.bytes) put ∙ length-append (bytes_of old) (word_bytes w)

-- a branch, and a jump after it
pub branch_and_jump : {flags : IsaFlags} (kind : IntegerCompare) (t f : MachLabel) (old mid new : Buffer) → PutsSlots flags (branch_to kind (Label t) ∷ []) old mid → PutsSlots flags (jump_to flags (Label f) ∷ []) mid new → PutsSlots flags (branch_to kind (Label t) ∷ jump_to flags (Label f) ∷ []) old new
branch_and_jump {flags} kind t f old mid new x y =
    let p = x.puts in
    record { puts = (shape_of mid, subst (PutsSlot flags (allocated_of old) (branch_to kind (Label t)) (shape_of old)) (sym p.2) p.1, y.puts); sound = y.sound }

-- no move to the same register, and a move to another
pub move_same : (flags : IsaFlags) (class : RegClass) (type : IrType) (rd rs : ℕ) (b : Buffer) → IsSoundBuffer b → rd ≡ rs → PutsAlone flags (slots_of flags (move_pieces class type rd rs)) b b
move_same flags class type rd rs b sound same =
    let e : nat_eq rd rs ≡ true = grind (arith, nat_tests) in
    rw e (none_put flags b sound)

pub move_other : {flags : IsaFlags} (class : RegClass) (type : IrType) (rd rs : ℕ) (old new : Buffer) → rd ≢ rs → PutsAlone flags (Op (move_op flags class type rd rs) ∷ []) old new → PutsAlone flags (slots_of flags (move_pieces class type rd rs)) old new
move_other {flags} class type rd rs old new other p =
    let e : nat_eq rd rs ≡ false = grind (arith, nat_tests) in
    rw e (subst (λ d. PutsAlone flags (Op d ∷ []) old new) (move_by flags class type rd rs) p)

-- ---- one after the other

pub puts_after : (flags : IsaFlags) (allocated : ℕ) (slots more : List Slot) (s t u : Shape LabelUse) → Puts flags allocated slots s t → Puts flags allocated more t u → Puts flags allocated (slots ++ more) s u
puts_after flags allocated [] more s t u p q = subst (λ (x : Shape LabelUse). Puts flags allocated more x u) p q
puts_after flags allocated (slot ∷ slots) more s t u p q = (p.0, p.1, puts_after flags allocated slots more p.0 t u p.2 q)

-- slots that allocate no label, and others after them
pub both_alone : {flags : IsaFlags} (slots more : List Slot) (old mid new : Buffer) → IsPlain slots → PutsAlone flags slots old mid → PutsAlone flags more mid new → PutsAlone flags (slots ++ more) old new
both_alone {flags} slots more old mid new plain a b =
    let first : Puts flags (allocated_of old) slots (shape_of old) (shape_of mid) = subst (λ (x : Buffer). Puts flags (allocated_of old) slots (shape_of old) (shape_of x)) (sym a.2) a.1.puts in
    let same : allocated_of mid ≡ allocated_of old = (plain_keeps flags (allocated_of old) slots (shape_of old) (shape_of mid) plain first).2 in
    let second : Puts flags (allocated_of old) more (shape_of mid) (shape_of b.0) = subst (λ n. Puts flags n more (shape_of mid) (shape_of b.0)) same b.1.puts in
    (b.0, record { puts = puts_after flags (allocated_of old) slots more (shape_of old) (shape_of mid) (shape_of b.0) first second; sound = b.1.sound }, b.2)

pub alone_long : {flags : IsaFlags} (slots : List Slot) (old new : Buffer) → PutsAlone flags slots old new → length (bytes_of new) ≡ length (bytes_of old) + size_of slots
alone_long {flags} slots old new q = ap (λ (b : Buffer). length (bytes_of b)) q.2 ∙ puts_bytes flags (allocated_of old) slots (shape_of old) (shape_of q.0) q.1.puts

pub alone_sound : {flags : IsaFlags} (slots : List Slot) (old new : Buffer) → PutsAlone flags slots old new → IsSoundBuffer new
alone_sound {flags} slots old new q = subst IsSoundBuffer (sym q.2) q.1.sound

-- a label that a use may name stays one
usable_last : {s t : Shape LabelUse} (label : ℕ) → Lasts label_kinds s t → IsUsable s label → IsUsable t label
usable_last label l (inl known) = inl (let more = l.allocated in omega arith)
usable_last label l (inr c) = inr (record { index = c.index; constant = c.constant; there = l.named c.index c.constant c.there; is = c.is })

pub alone_usable : {flags : IsaFlags} (slots : List Slot) (old new : Buffer) (label : ℕ) → PutsAlone flags slots old new → IsUsable (shape_of old) label → IsUsable (shape_of new) label
alone_usable {flags} slots old new label q usable = subst (λ (b : Buffer). IsUsable (shape_of b) label) (sym q.2) (usable_last label (lasts_after_slots flags (allocated_of old) slots (shape_of old) (shape_of q.0) q.1.puts) usable)

-- ---- data and traps

pub bytes_put : (flags : IsaFlags) (old new : Buffer) (bytes : List ℕ) → shape_of new ≡ with_bytes bytes (shape_of old) → IsSoundBuffer new → PutsAlone flags (Data bytes ∷ []) old new
bytes_put flags old new bytes put sound = alone (slot_put (Data bytes) old new put sound)

pub trap_put : (flags : IsaFlags) (old mid new : Buffer) (code : TrapCode) (bytes : List ℕ) → bytes ≡ trap_bytes flags → shape_of mid ≡ with_record (Trap code) (shape_of old) → shape_of new ≡ with_bytes bytes (shape_of mid) → IsSoundBuffer new → PutsAlone flags (trap_slots flags code) old new
trap_put flags old mid new code bytes are recorded put sound = alone (record { puts = (shape_of mid, (tt, recorded), (shape_of new, put ∙ ap (λ b. with_bytes b (shape_of mid)) are, refl)); sound = sound })

pub constant_word : {flags : IsaFlags} (rd : ℕ) (type : IrType) (imm : ℕ) (old new : Buffer) → bits_of type ≡ 32 → PutsAlone flags (load_over flags rd Lw 4 ++ Data (to_le_bytes w32 (imm % 2 ^ 32)) ∷ []) old new → PutsAlone flags (literal_slots flags rd (literal_of type imm)) old new
constant_word {flags} rd type imm old new is p =
    let e : nat_eq (bits_of type) 32 ≡ true = grind (arith, nat_tests) in
    subst (λ c. PutsAlone flags (literal_slots flags rd (if c then Word32 imm else Word64 imm)) old new) (sym e) p

pub constant_double : {flags : IsaFlags} (rd : ℕ) (type : IrType) (imm : ℕ) (old new : Buffer) → bits_of type ≢ 32 → PutsAlone flags (literal_slots flags rd (Word64 imm)) old new → PutsAlone flags (literal_slots flags rd (literal_of type imm)) old new
constant_double {flags} rd type imm old new other p =
    let e : nat_eq (bits_of type) 32 ≡ false = grind (arith, nat_tests) in
    subst (λ c. PutsAlone flags (literal_slots flags rd (if c then Word32 imm else Word64 imm)) old new) (sym e) p

-- ---- instructions of sixteen bits

-- its bytes
half_back : (half : ℕ) → half < 2 ^ 16 → half_at (to_le_bytes w16 half) ≡ half
half_back half fits = omega arith

pub half_put : (flags : IsaFlags) (old new : Buffer) (half : ℕ) (d : Decoded) → IsHalf flags half d → IsOwnForm d half → half < 2 ^ 16 → shape_of new ≡ with_bytes (to_le_bytes w16 half) (shape_of old) → IsSoundBuffer new → PutsAlone flags (Op d ∷ []) old new
half_put flags old new half d is own fits put sound =
    let back = half_back half fits in
    alone (slot_put (Op d) old new (to_le_bytes w16 half, sym is.long, half_encodes flags (to_le_bytes w16 half) d refl (subst (λ n. n < 2 ^ 16) (sym back) fits) (ap (λ n. nat_eq (n % 4) 3) back ∙ is.narrow) (ap (decode_half flags) back ∙ is.decodes), put, subst (IsOwnForm d) (sym back) own) sound)
