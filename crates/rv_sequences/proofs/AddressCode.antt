-- What loads, stores, addresses and numbers put.
use Rattle.rv_sequences.proofs.Terms.{append-nil, decoded_load, decoded_store, far_load, far_store, Load, Store, access_is, access_pieces, access_short, half_load_pieces, half_store_pieces, load_pieces, Piece, slots_append, store_pieces}
use Rattle.{rv_code.specs.Pieces.Word64, rv_sequences.proofs.Terms.{Constant, Do, IsFinePlace, Place, Rri, Sh, has_load, has_store, immediate_pieces, load_most, loaded, slots_of}}
pub use Rattle.rv_inst.proofs.Immediates.{upper_is, lower_is, splits, splits_not}
use Rattle.{rv_sequences.proofs.SlotsPut.{alone, aim_put_at, none_put, both_alone, alone_long, alone_usable}, rv_sequences.proofs.Terms.{Trap, PlaceLabel, ◌≡◌, ◌≢◌, zero, suc, refl, ◌-◌, ◌^◌, ◌<◌, ◌==◌, true, false, ℤ, pos, negsuc, ◌≤ℤ◌, ap, arith, ℕ, ◌+◌, ◌≤◌, List, [], ◌∷◌, ◌++◌, length, Option, Some, sym}}
use Rattle.rv_sequences.proofs.Terms.{subst, ◌∙◌, cast_unsigned, w16, w32, nat_tests, ints, IsSigned, low64, is_near, Location, AtLabel, AtConstant, if◌then◌else◌, ◌&&◌, IsaFlags, VCodeConstant, MachLabel, TrapCode, value_of, IsSplittable, Decoded, Addi, LabelUse}
use Rattle.rv_sequences.proofs.Terms.{word_bytes, use_at, shape_of, bytes_of, allocated_of, with_bytes, with_use, with_record, with_named, Shape, constant_label, Buffer, IsSoundBuffer, PutsAlone, upper_of, lower_of, short_rri, Slot, Op, Fixup, Names, Label, IsPatchable, Puts, access_slots}
use Rattle.rv_sequences.proofs.Terms.{immediate_slots, literal_slots, labelled, lower_slots, naming_slots, offset_slots, number_slots, half_store_slots, load_line_slots, load_slots, moved_to_integer, store_line_slots, store_slots, IsPlain, IsShort, is_low, slots_by, LoadOP, StoreOP}

-- ---- tests of offsets and of their immediates; the immediates that make an offset are its own

pub near : (o : ℤ) → negsuc 2047 ≤ℤ o → o ≤ℤ pos 2047 → is_near o ≡ true
near o low high = grind (arith, ints)

pub far : (o : ℤ) → ¬ (IsSigned 12 o) → is_near o ≡ false
far o h = grind (arith, ints)

pub low64_other : (z : ℤ) → negsuc 524287 ≤ℤ z → z ≤ℤ pos 524287 → z ≢ pos 0 → (low64 z == 0) ≡ false
low64_other (pos zero) a b n = absurd (n refl)
low64_other (pos (suc k)) a b n = grind (arith, nat_tests)
low64_other (negsuc k) a b n = let l : low64 (negsuc k) ≡ 2 ^ 64 - suc k = refl in let h : k < 524288 = omega (arith, ints) in let m : 0 < 2 ^ 64 - suc k = omega arith in grind (arith, nat_tests)

-- the code tests the bits of an immediate
pub bits_zero : (z : ℤ) → negsuc 2047 ≤ℤ z → cast_unsigned w16 z ≡ 0 → z ≡ pos 0
bits_zero (pos n) low e = ap pos e
bits_zero (negsuc n) low e = let h : n < 2048 = omega (arith, ints) in let l : cast_unsigned w16 (negsuc n) ≡ 2 ^ 16 - suc n = refl in absurd (omega arith)

-- ---- one slot

-- a use of a label whose window is a word
pub aim_put : (flags : IsaFlags) (kind : LabelUse) (ops : ℤ → List Decoded) (old new : Buffer) (w : ℕ) (label : MachLabel) → IsPatchable flags kind (word_bytes w) ops → shape_of new ≡ with_bytes (word_bytes w) (with_use (use_at (length (bytes_of old)) label kind) (shape_of old)) → IsSoundBuffer new → PutsAlone flags (Fixup kind (Label label) ops ∷ []) old new
aim_put flags kind ops old new w label is put sound = alone (aim_put_at flags kind ops old new w label is put sound)

pub access_put : (flags : IsaFlags) (old new : Buffer) (trap : Option TrapCode) (code : TrapCode) → trap ≡ Some code → shape_of new ≡ with_record (Trap code) (shape_of old) → IsSoundBuffer new → PutsAlone flags (access_slots trap) old new
access_put flags old new trap code is put sound = subst (λ t. PutsAlone flags (access_slots t) old new) (sym is) (alone (record { puts = (shape_of new, (tt, put), refl); sound = sound }))

-- ---- none of these slots allocates a label, and how long they are

pub longer : {flags : IsaFlags} {bound : ℕ} (slots : List Slot) (old new : Buffer) → IsShort bound slots → PutsAlone flags slots old new → length (bytes_of new) ≤ length (bytes_of old) + bound
longer {flags} slots old new s p = let l = alone_long slots old new p in let h = s.short in omega arith

-- pieces that allocate no label, and others after them
pub pieces_then : {flags : IsaFlags} (ps qs : List Piece) (old mid new : Buffer) → IsPlain (slots_of flags ps) → PutsAlone flags (slots_of flags ps) old mid → PutsAlone flags (slots_of flags qs) mid new → PutsAlone flags (slots_of flags (ps ++ qs)) old new
pieces_then {flags} ps qs old mid new plain p q = subst (λ s. PutsAlone flags s old new) (sym (slots_append flags ps qs)) (both_alone (slots_of flags ps) (slots_of flags qs) old mid new plain p q)

-- the record of an access's trap, and pieces after it
pub access_then : {flags : IsaFlags} (trap : Option TrapCode) (ps : List Piece) (old mid new : Buffer) → PutsAlone flags (access_slots trap) old mid → PutsAlone flags (slots_of flags ps) mid new → PutsAlone flags (slots_of flags (access_pieces trap ++ ps)) old new
access_then {flags} trap ps old mid new p q = subst (λ s. PutsAlone flags s old new) (sym (access_is flags trap ps)) (both_alone (access_slots trap) (slots_of flags ps) old mid new (access_short trap).plain p q)

-- an access to the address in x31, in its word of 32 bits
pub far_load_put : {flags : IsaFlags} (op : LoadOP) (rd : ℕ) (old new : Buffer) → PutsAlone flags (Op (decoded_load op rd 31 (pos 0)) ∷ []) old new → PutsAlone flags (slots_of flags (Do (Load op rd 31 (pos 0)) ∷ [])) old new
far_load_put {flags} op rd old new p = subst (λ d. PutsAlone flags (Op d ∷ []) old new) (sym (far_load flags op rd (pos 0))) p

pub far_store_put : {flags : IsaFlags} (op : StoreOP) (src : ℕ) (old new : Buffer) → PutsAlone flags (Op (decoded_store op 31 src (pos 0)) ∷ []) old new → PutsAlone flags (slots_of flags (Do (Store op 31 src (pos 0)) ∷ [])) old new
far_store_put {flags} op src old new p = subst (λ d. PutsAlone flags (Op d ∷ []) old new) (sym (far_store flags op src (pos 0))) p

-- one piece alone
pub piece_put : {flags : IsaFlags} (slots : List Slot) (old new : Buffer) → PutsAlone flags slots old new → PutsAlone flags (slots ++ []) old new
piece_put {flags} slots old new p = subst (λ s. PutsAlone flags s old new) (sym (append-nil slots)) p

-- ---- by a constant

-- the code of an address is put once its constant is named
pub named_put : {flags : IsaFlags} (slots : Location → List Slot) → ((k : VCodeConstant) → Names k ∷ slots (AtLabel (constant_label k)) ≡ slots (AtConstant k)) → (location : Location) (old mid new : Buffer) → PutsAlone flags (naming_slots location) old mid → PutsAlone flags (slots (labelled location)) mid new → PutsAlone flags (slots location) old new
named_put {flags} slots same (AtConstant k) old mid new p q = subst (λ s. PutsAlone flags s old new) (same k) (both_alone (Names k ∷ []) (slots (AtLabel (constant_label k))) old mid new tt p q)
named_put slots same at old mid new p q = both_alone [] (slots at) old mid new tt p q

-- the constant is named
pub name_put : (flags : IsaFlags) (k : VCodeConstant) (old new : Buffer) → shape_of new ≡ with_named k (shape_of old) → IsSoundBuffer new → PutsAlone flags (Names k ∷ []) old new
name_put flags k old new put sound = alone (record { puts = (shape_of new, put, refl); sound = sound })

-- ---- by an offset

pub near_put : {flags : IsaFlags} (near_pieces : ℤ → List Piece) (others : List Piece) (o n : ℤ) (old new : Buffer) → n ≡ o → negsuc 2047 ≤ℤ n → n ≤ℤ pos 2047 → PutsAlone flags (slots_of flags (near_pieces n)) old new → PutsAlone flags (slots_of flags (if is_near o then near_pieces o else others)) old new
near_put {flags} near_pieces others o n old new e low high p = subst (λ x. PutsAlone flags (slots_of flags (if is_near x then near_pieces x else others)) old new) e (subst (λ c. PutsAlone flags (slots_of flags (if c then near_pieces n else others)) old new) (sym (near n low high)) p)

pub far_put : {flags : IsaFlags} (near_pieces others : List Piece) (o : ℤ) (old new : Buffer) → ¬ (IsSigned 12 o) → PutsAlone flags (slots_of flags others) old new → PutsAlone flags (slots_of flags (if is_near o then near_pieces else others)) old new
far_put {flags} near_pieces others o old new h p = subst (λ c. PutsAlone flags (slots_of flags (if c then near_pieces else others)) old new) (sym (far o h)) p

pub lower_zero_put : (flags : IsaFlags) (rd : ℕ) (lower : ℤ) (b : Buffer) → lower ≡ pos 0 → IsSoundBuffer b → PutsAlone flags (lower_slots flags rd lower) b b
lower_zero_put flags rd lower b e sound = subst (λ c. PutsAlone flags (slots_of flags (if c then [] else Do (Rri Addi rd rd lower) ∷ [])) b b) (sym (ap (λ y. low64 y == 0) e)) (none_put flags b sound)

pub lower_put : {flags : IsaFlags} (rd : ℕ) (lower : ℤ) (old new : Buffer) → negsuc 2047 ≤ℤ lower → lower ≤ℤ pos 2047 → lower ≢ pos 0 → PutsAlone flags (Op (short_rri flags Addi rd rd lower) ∷ []) old new → PutsAlone flags (lower_slots flags rd lower) old new
lower_put {flags} rd lower old new low high other p = subst (λ c. PutsAlone flags (slots_of flags (if c then [] else Do (Rri Addi rd rd lower) ∷ [])) old new) (sym (low64_other lower (omega (arith, ints)) (omega (arith, ints)) other)) p

pub immediates_put : {flags : IsaFlags} (rd : ℕ) (o upper lower : ℤ) (old new : Buffer) → negsuc 524287 ≤ℤ upper → upper ≤ℤ pos 524287 → negsuc 2047 ≤ℤ lower → lower ≤ℤ pos 2047 → value_of upper lower ≡ o → PutsAlone flags (immediate_slots flags rd upper lower) old new → PutsAlone flags (offset_slots flags rd o) old new
immediates_put {flags} rd o upper lower old new a b c d e p =
    subst (λ t. PutsAlone flags (slots_of flags (if t then immediate_pieces rd (upper_of o) (lower_of o) else Constant rd (Word64 (low64 o)) ∷ [])) old new) (sym (splits o upper lower a b c d e))
    (subst (λ u. PutsAlone flags (immediate_slots flags rd u (lower_of o)) old new) (sym (upper_is o upper lower a b c d e))
    (subst (λ l. PutsAlone flags (immediate_slots flags rd upper l) old new) (sym (lower_is o upper lower a b c d e)) p))

pub constant_put : {flags : IsaFlags} (rd : ℕ) (o : ℤ) (old new : Buffer) → ¬ (IsSplittable o) → PutsAlone flags (literal_slots flags rd (Word64 (low64 o))) old new → PutsAlone flags (offset_slots flags rd o) old new
constant_put {flags} rd o old new h p = subst (λ t. PutsAlone flags (slots_of flags (if t then immediate_pieces rd (upper_of o) (lower_of o) else Constant rd (Word64 (low64 o)) ∷ [])) old new) (sym (splits_not o h)) p

-- ---- an upper immediate

-- the code tests its bits
upper_zero : (z : ℤ) → negsuc 524287 ≤ℤ z → cast_unsigned w32 z ≡ 0 → z ≡ pos 0
upper_zero (pos n) low e = ap pos e
upper_zero (negsuc n) low e = let h : n < 524288 = omega (arith, ints) in let l : cast_unsigned w32 (negsuc n) ≡ 2 ^ 32 - suc n = refl in absurd (omega arith)

-- ---- by which way

abbrev PutsNumber : IsaFlags → ℕ → ℤ → Buffer → Buffer → Type 0
PutsNumber flags rd z old new = PutsAlone flags (number_slots flags rd z) old new

pub lower_alone_put : {flags : IsaFlags} (rd : ℕ) (upper lower : ℤ) (old new : Buffer) → negsuc 524287 ≤ℤ upper → upper ≤ℤ pos 524287 → negsuc 2047 ≤ℤ lower → lower ≤ℤ pos 2047 → cast_unsigned w32 upper ≡ 0 → PutsAlone flags (Op (short_rri flags Addi rd 0 lower) ∷ []) old new → PutsNumber flags rd (value_of upper lower) old new
lower_alone_put {flags} rd upper lower old new a b c d zeroed p =
    let z = value_of upper lower in
    let none : (low64 (upper_of z) == 0) ≡ true = ap (λ u. low64 u == 0) (upper_is z upper lower a b c d refl ∙ upper_zero upper a zeroed) in
    let low : is_low z ≡ true = (λ i. splits z upper lower a b c d refl i && none i) in
    subst (λ t. PutsAlone flags (slots_by flags rd z t) old new) (sym low)
    (subst (λ l. PutsAlone flags (Op (short_rri flags Addi rd 0 l) ∷ []) old new) (sym (lower_is z upper lower a b c d refl)) p)

-- as an offset
as_offset : {flags : IsaFlags} (rd : ℕ) (z : ℤ) (old new : Buffer) → is_low z ≡ false → PutsAlone flags (offset_slots flags rd z) old new → PutsNumber flags rd z old new
as_offset {flags} rd z old new high p = subst (λ t. PutsAlone flags (slots_by flags rd z t) old new) (sym high) p

pub both_immediates_put : {flags : IsaFlags} (rd : ℕ) (upper lower : ℤ) (old new : Buffer) → negsuc 524287 ≤ℤ upper → upper ≤ℤ pos 524287 → negsuc 2047 ≤ℤ lower → lower ≤ℤ pos 2047 → upper ≢ pos 0 → PutsAlone flags (immediate_slots flags rd upper lower) old new → PutsNumber flags rd (value_of upper lower) old new
both_immediates_put {flags} rd upper lower old new a b c d other p =
    let z = value_of upper lower in
    let some : (low64 (upper_of z) == 0) ≡ false = ap (λ u. low64 u == 0) (upper_is z upper lower a b c d refl) ∙ low64_other upper a b other in
    as_offset rd z old new (λ i. splits z upper lower a b c d refl i && some i) (immediates_put rd z upper lower old new a b c d refl p)

pub unsplit_put : {flags : IsaFlags} (rd : ℕ) (z : ℤ) (old new : Buffer) → ¬ (IsSplittable z) → PutsAlone flags (offset_slots flags rd z) old new → PutsNumber flags rd z old new
unsplit_put rd z old new h p = as_offset rd z old new (ap (λ s. s && low64 (upper_of z) == 0) (splits_not z h)) p

-- ---- loads and stores of halves by integer registers

-- one load has seven words at most
pub load_is_short : (flags : IsaFlags) (rd : ℕ) (op : LoadOP) (trap : Option TrapCode) (at : Location) → IsShort 28 (load_slots flags rd op trap at)
load_is_short flags rd op trap at = record { plain = (loaded flags rd op trap at).plain; short = load_most flags op rd trap at }

-- a place stays one after code that is put
pub place_last : {flags : IsaFlags} (slots : List Slot) (old new : Buffer) (at : Place) → PutsAlone flags slots old new → IsFinePlace (shape_of old) at → IsFinePlace (shape_of new) at
place_last slots old new (PlaceLabel l) p fine = alone_usable slots old new l.number p fine
place_last slots old new at p fine = fine

-- ---- by a constant

-- the name of a constant has no bytes, so it may come after an operation as well
named_after : (flags : IsaFlags) (allocated : ℕ) (k : VCodeConstant) (d : Decoded) (slots : List Slot) (s t : Shape LabelUse) → Puts flags allocated (Names k ∷ Op d ∷ slots) s t → Puts flags allocated (Op d ∷ Names k ∷ slots) s t
named_after flags allocated k d slots s t p =
    let bytes = p.2.1.0 in
    let mid : Shape LabelUse = with_bytes bytes s in
    (mid, (bytes, p.2.1.1, p.2.1.2, refl, p.2.1.4), (with_named k mid, refl, subst (λ u. Puts flags allocated slots u t) (p.2.1.3 ∙ ap (with_bytes bytes) p.1) p.2.2))

half_store_named : {flags : IsaFlags} (src : ℕ) (trap : Option TrapCode) (at : Location) (old mid new : Buffer) → PutsAlone flags (naming_slots at) old mid → PutsAlone flags (half_store_slots flags src trap (labelled at)) mid new → PutsAlone flags (half_store_slots flags src trap at) old new
half_store_named {flags} src trap (AtConstant k) old mid new p q =
    let named = both_alone (Names k ∷ []) (half_store_slots flags src trap (AtLabel (constant_label k))) old mid new tt p q in
    (named.0, record { puts = named_after flags (allocated_of old) k (moved_to_integer 30 src) (store_slots flags Sh 30 trap (AtLabel (constant_label k))) (shape_of old) (shape_of named.0) named.1.puts; sound = named.1.sound }, named.2)
half_store_named {flags} src trap at old mid new p q = both_alone [] (half_store_slots flags src trap at) old mid new tt p q

-- the code of a line is put once its constant is named
pub load_line_named : (flags : IsaFlags) (rd : ℕ) (op : LoadOP) (trap : Option TrapCode) (k : VCodeConstant) → Names k ∷ load_line_slots flags rd op trap (AtLabel (constant_label k)) ≡ load_line_slots flags rd op trap (AtConstant k)
load_line_named flags rd op trap k = elim (has_load flags op) as (λ has. Names k ∷ slots_of flags (if has then load_pieces op rd trap (AtLabel (constant_label k)) else half_load_pieces rd trap (AtLabel (constant_label k))) ≡ slots_of flags (if has then load_pieces op rd trap (AtConstant k) else half_load_pieces rd trap (AtConstant k))) [ true ↦ refl | false ↦ refl ]

pub store_line_named : {flags : IsaFlags} (op : StoreOP) (src : ℕ) (trap : Option TrapCode) (at : Location) (old mid new : Buffer) → PutsAlone flags (naming_slots at) old mid → PutsAlone flags (store_line_slots flags op src trap (labelled at)) mid new → PutsAlone flags (store_line_slots flags op src trap at) old new
store_line_named {flags} op src trap at old mid new p = elim (has_store flags op) as (λ has. PutsAlone flags (slots_of flags (if has then store_pieces op src trap (labelled at) else half_store_pieces src trap (labelled at))) mid new → PutsAlone flags (slots_of flags (if has then store_pieces op src trap at else half_store_pieces src trap at)) old new) [
  | true ↦ λ q. named_put (store_slots flags op src trap) (λ k. refl) at old mid new p q
  | false ↦ λ q. half_store_named src trap at old mid new p q
]
