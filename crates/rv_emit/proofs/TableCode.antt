-- What tables, symbols, call sites and steps in the making of a frame put.
use Rattle.rv_emit.proofs.Terms.{◌≡◌, ℕ, zero, suc, ◌+◌, ◌-◌, ◌*◌, ◌/◌, ◌%◌, ◌^◌, ◌<◌, ◌≤◌, Bool, true, false, List, [], ◌∷◌, ◌++◌, map, take, drop, length, Some, ℤ, pos, negsuc, ◌≤ℤ◌, ⊎_elim, refl, ap, sym, subst, ◌∙◌, append_assoc, arith, get_or, option_map, AreBytes}
use Rattle.rv_emit.proofs.Terms.{to_le_bytes, cast_signed, w32, w64, ints, length-take, map-append, take_all, take_more, IsaFlags, MachLabel, Base, decode, int_by_opcode, word_opcode, word_funct3, u_bits, i_bits, i_layout, AUIPC, JALR, signed, IsUType, IsIType, decoded}
use Rattle.rv_emit.proofs.Terms.{opcode_decodes, LabelUse, PCRel32, PCRelHi20, PCRelLo12I, with_immediate, PairDecodes, word_at, word_bytes, use_at, shape_of, bytes_of, allocated_of, Shape, with_bytes, with_use, with_record, PutsAlone, Emits, Buffer, IsSoundBuffer}
use Rattle.rv_emit.proofs.Terms.{AppendsIsland, IslandIfNeeded, upper_of, lower_of, decoded_jalr, IsPatchable, AsksNothing, eight_zeros, extend_pieces, slots_of, number_slots, table_slots, far_jump, jump_slots, AreListed, IsListed, word_fits, upper_fresh, lower_fresh}
use Rattle.rv_emit.proofs.Terms.{upper_is, lower_is, Context, table_space, number_of, Inst, Reg, Writable, alone, both_alone, alone_long, even_plain, extend_even, extend_few, number_even, number_few, count_splits, far_jumps_even, far_jumps_long, ExternalName}
use Rattle.rv_emit.{proofs.Terms.{Decoded, Event, Symbol, Records, RelocPair, Address, CallTo, upper_event, lower_event, address_event, call_event}, proofs.VeneerRuns.{pair_decodes, pair_there}}
use Rattle.rv_machine.specs.declared.ops.BaseOp.TheVariants as base
use Rattle.rv_inst.specs.declared.inst.Inst.TheVariants.{BrTable}

-- A branch by a table: jumps in eight bytes, and the words before them.
-- ---- a window of two words

-- two words before a distance is patched in
abbrev pub pair_bytes : ℕ → ℕ → List ℕ
pair_bytes first second = word_bytes first ++ word_bytes second

first_back : (w x : ℕ) → word_at (pair_bytes w x) ≡ w
first_back w x = omega arith

second_back : (w x : ℕ) → word_at (drop 4 (pair_bytes w x)) ≡ x
second_back w x = omega arith

-- numbers that are read as signed ones of few bits

upper_within : (n : ℕ) → n < 2 ^ 20 → (negsuc 524287 ≤ℤ signed (2 ^ 19) n) × (signed (2 ^ 19) n ≤ℤ pos 524287)
upper_within n lt = (grind (arith, ints), grind (arith, ints))

lower_within : (n : ℕ) → n < 2 ^ 12 → (negsuc 2047 ≤ℤ signed (2 ^ 11) n) × (signed (2 ^ 11) n ≤ℤ pos 2047)
lower_within n lt = (grind (arith, ints), grind (arith, ints))

jalr_decodes : (x : ℕ) → word_funct3 x ≡ 0 → int_by_opcode JALR x ≡ Some (i_layout x (Base base.Jalr))
jalr_decodes x z = rw z

-- the upper and the lower immediate that they hold are those of the distance
upper_held : {flags : IsaFlags} {old new : List ℕ} {d : ℤ} (p : PairDecodes flags old new d) → u_bits (word_at new) < 2 ^ 20 → i_bits (word_at (drop 4 new)) < 2 ^ 12 → (upper_of d ≡ p.upper) × (lower_of d ≡ p.lower)
upper_held {d = d} p fu fl =
    let a = subst (λ z. (negsuc 524287 ≤ℤ z) × (z ≤ℤ pos 524287)) (sym p.upper_is) (upper_within _ fu) in
    let l = subst (λ z. (negsuc 2047 ≤ℤ z) × (z ≤ℤ pos 2047)) (sym p.lower_is) (lower_within _ fl) in
    (upper_is d p.upper p.lower a.0 a.1 l.0 l.1 p.sum, lower_is d p.upper p.lower a.0 a.1 l.0 l.1 p.sum)

pub pair_patchable : (flags : IsaFlags) (w x link tmp : ℕ) → w < 2 ^ 32 → x < 2 ^ 32 → IsUType w AUIPC tmp 0 → IsIType x JALR link 0 tmp 0 → IsPatchable flags PCRel32 (pair_bytes w x) (λ d. decoded (Base base.Auipc) tmp 0 0 (upper_of d) ∷ decoded_jalr link tmp (lower_of d) ∷ [])
pair_patchable flags w x link tmp fw fx h g = record {
  long = refl;
  fresh = let a = h.imm_is in let b = g.imm_is in
      let f = upper_fresh w (omega arith) in let e = lower_fresh x (omega arith) in
      (f.0, (f.1.0, (f.1.1.0, (f.1.1.1.0, (e.0, (e.1.0, (e.1.1.0, (e.1.1.1.0, tt))))))));
  patched = λ new d long all same aims mem a there.
      let first : AreBytes (pair_bytes w x) = let b = word_fits w fw in record { first = b.first; second = b.second; third = b.third; fourth = b.fourth } in
      let p = pair_decodes flags (pair_bytes w x) new d first (word_fits x fx) (ap word_opcode (first_back w x) ∙ h.opcode_is) (ap word_opcode (second_back w x) ∙ g.opcode_is) long all same aims in
      let held = upper_held p (omega arith) (omega arith) in
      let upper : decode flags (word_at new) ≡ Some (decoded (Base base.Auipc) tmp 0 0 (upper_of d)) = p.first ∙ ap (λ n. option_map (with_immediate p.upper) (decode flags n)) (first_back w x) ∙ ap (option_map (with_immediate p.upper)) (opcode_decodes flags w AUIPC h.opcode_is refl refl) ∙ (λ i. Some (decoded (Base base.Auipc) (h.rd_is i) 0 0 (sym held.0 i))) in
      let lower : decode flags (word_at (drop 4 new)) ≡ Some (decoded_jalr link tmp (lower_of d)) = p.second ∙ ap (λ n. option_map (with_immediate p.lower) (decode flags n)) (second_back w x) ∙ ap (option_map (with_immediate p.lower)) (opcode_decodes flags x JALR g.opcode_is refl (jalr_decodes x g.funct3_is)) ∙ (λ i. Some (decoded_jalr (g.rd_is i) (g.rs1_is i) (sym held.1 i))) in
      pair_there flags mem a new tmp (upper_of d) (decoded_jalr link tmp (lower_of d)) long there upper lower;
}

-- a word's bytes
pub same_bytes : (x : ℕ) → x < 2 ^ 32 → to_le_bytes w32 x ≡ word_bytes x
same_bytes x fits = let high : x / 16777216 % 256 ≡ x / 16777216 = omega arith in ap (λ n. x % 256 ∷ x / 256 % 256 ∷ x / 65536 % 256 ∷ n ∷ []) high

-- two words that were put one after the other are put as one
pub pair_joined : (w x : ℕ) (s mid t : Shape LabelUse) → mid ≡ with_bytes (word_bytes w) s → x < 2 ^ 32 → t ≡ with_bytes (to_le_bytes w32 x) mid → t ≡ with_bytes (pair_bytes w x) s
pair_joined w x s mid t first fits second = second ∙ (λ i. with_bytes (same_bytes x fits i) (first i)) ∙ ap (λ b. record s { bytes = b }) (append_assoc s.bytes (word_bytes w) (word_bytes x))

-- ---- a jump in eight bytes

pub far_put : (flags : IsaFlags) (tmp : ℕ) (label : MachLabel) (old mid new : Buffer) (w x : ℕ) → IsPatchable flags PCRel32 (pair_bytes w x) (λ d. decoded (Base base.Auipc) tmp 0 0 (upper_of d) ∷ decoded_jalr 0 tmp (lower_of d) ∷ []) → shape_of mid ≡ with_bytes (word_bytes w) (with_use (use_at (length (bytes_of old)) label PCRel32) (shape_of old)) → x < 2 ^ 32 → shape_of new ≡ with_bytes (to_le_bytes w32 x) (shape_of mid) → IsSoundBuffer new → PutsAlone flags (far_jump tmp label ∷ []) old new
far_put flags tmp label old mid new w x is first fits second sound = alone (record {
  puts = (shape_of new, (pair_bytes w x, is, pair_joined w x (with_use (use_at (length (bytes_of old)) label PCRel32) (shape_of old)) (shape_of mid) (shape_of new) first fits second), refl);
  sound = sound;
})

-- ---- the table

-- each of a listing's labels is one
pub each_listed : (labels : List MachLabel) (k : ℕ) (d : MachLabel) → AreListed labels → k < length labels → IsListed (get_or labels k d)
each_listed [] k d h lt = absurd (omega arith)
each_listed (label ∷ labels) zero d h lt = h.0
each_listed (label ∷ labels) (suc k) d h lt = each_listed labels k d h.1 (omega arith)

-- one jump more
pub one_more : {flags : IsaFlags} (tmp : ℕ) (labels : List MachLabel) (k : ℕ) (d : MachLabel) (old mid new : Buffer) → k < length labels → PutsAlone flags (map (far_jump tmp) (take k labels)) old mid → PutsAlone flags (far_jump tmp (get_or labels k d) ∷ []) mid new → PutsAlone flags (map (far_jump tmp) (take (k + 1) labels)) old new
one_more {flags} tmp labels k d old mid new lt p q =
    subst (λ slots. PutsAlone flags slots old new) (sym (ap (map (far_jump tmp)) (take_more labels k d lt) ∙ map-append (far_jump tmp) (take k labels) (get_or labels k d ∷ [])))
    (both_alone (map (far_jump tmp) (take k labels)) (far_jump tmp (get_or labels k d) ∷ []) old mid new (even_plain (map (far_jump tmp) (take k labels)) (far_jumps_even tmp (take k labels))) p q)

-- how long they are
pub some_long : {flags : IsaFlags} (tmp : ℕ) (labels : List MachLabel) (k : ℕ) (old new : Buffer) → k ≤ length labels → PutsAlone flags (map (far_jump tmp) (take k labels)) old new → length (bytes_of new) ≡ length (bytes_of old) + 8 * k
some_long tmp labels k old new le p = omega (arith, alone_long (map (far_jump tmp) (take k labels)) old new p, far_jumps_long tmp (take k labels), length-take k labels)

-- ---- the whole sequence

-- the labels after the default, as the code has them
abbrev pub others : List MachLabel → List MachLabel
others targets = take (length targets - 1) (drop 1 targets)

pub others_fewer : (targets : List MachLabel) → 1 ≤ length targets → length (others targets) + 1 ≡ length targets
others_fewer [] some = absurd (omega arith)
others_fewer (default ∷ labels) some = let e = length-take (length (default ∷ labels) - 1) labels in omega arith

-- a number of few bits, signed, is itself
pub counted : {flags : IsaFlags} {old new : Buffer} (tmp2 n : ℕ) → n < 2 ^ 32 → PutsAlone flags (number_slots flags tmp2 (cast_signed w64 n)) old new → PutsAlone flags (number_slots flags tmp2 (pos n)) old new
counted {flags} {old} {new} tmp2 n lt p = let same : cast_signed w64 n ≡ pos n = grind (arith, ints) in subst (λ z. PutsAlone flags (number_slots flags tmp2 z) old new) same p

-- how long the pieces are before the jumps
pub before_few : {flags : IsaFlags} (index tmp2 n : ℕ) (old mid new : Buffer) → n < 2 ^ 30 → PutsAlone flags (slots_of flags (extend_pieces 31 index false 32)) old mid → PutsAlone flags (number_slots flags tmp2 (pos n)) mid new → length (bytes_of new) ≤ length (bytes_of old) + 16
before_few {flags} index tmp2 n old mid new lt p q =
    omega (arith, alone_long (slots_of flags (extend_pieces 31 index false 32)) old mid p, alone_long (number_slots flags tmp2 (pos n)) mid new q, extend_few flags 31 index, number_few flags tmp2 (pos n) (count_splits n lt))

pub table_put : {flags : IsaFlags} (index tmp1 tmp2 : ℕ) (targets : List MachLabel) (d : MachLabel) (old a b new : Buffer) → 1 ≤ length targets → PutsAlone flags (slots_of flags (extend_pieces 31 index false 32)) old a → PutsAlone flags (number_slots flags tmp2 (pos (length (others targets)))) a b → PutsAlone flags (jump_slots tmp1 tmp2 (get_or targets 0 d) (others targets)) b new → PutsAlone flags (table_slots flags index tmp1 tmp2 targets) old new
table_put index tmp1 tmp2 [] d old a b new some p q r = absurd (omega arith)
table_put {flags} index tmp1 tmp2 (default ∷ labels) d old a b new some p q r =
    let same : others (default ∷ labels) ≡ labels = take_all (length (default ∷ labels) - 1) labels (omega arith) in
    let jumps = subst (λ ls. PutsAlone flags (jump_slots tmp1 tmp2 default ls) b new) same r in
    let extend = slots_of flags (extend_pieces 31 index false 32) in
    let count = number_slots flags tmp2 (pos (length labels)) in
    both_alone extend (count ++ jump_slots tmp1 tmp2 default labels) old a new (even_plain extend (extend_even flags 31 index)) p
    (both_alone count (jump_slots tmp1 tmp2 default labels) a b new (even_plain count (number_even flags tmp2 (pos (length labels)))) (subst (λ ls. PutsAlone flags (number_slots flags tmp2 (pos (length ls))) a b) same q) jumps)

-- ---- the instruction

-- at most one label more is allocated
pub island_few : (space : ℕ) (old new : Buffer) (made : Bool) → IslandIfNeeded space old new made → allocated_of new ≤ 1 + allocated_of old
island_few space old new made m = ⊎_elim (λ (same : (made ≡ false) × (new ≡ old)). let e : allocated_of new ≡ allocated_of old = ap (λ (b : Buffer). allocated_of b) same.1 in omega arith) (λ (put : (made ≡ true) × AppendsIsland old new). let e = put.1.allocated in omega arith) m.put

-- an island, and the sequence after it
pub table_emits : (context : Context) (inst : Inst) (index : Reg) (tmp1 tmp2 : Writable Reg) (targets : List MachLabel) (space : ℕ) (old mid new : Buffer) (made : Bool) → inst ≡ BrTable index tmp1 tmp2 targets → space ≡ table_space (length targets) → IslandIfNeeded space old mid made → (labels : List MachLabel) → labels ≡ targets → PutsAlone context.flags (table_slots context.flags (number_of index) (number_of tmp1.reg) (number_of tmp2.reg) labels) mid new → Emits context inst old new
table_emits context inst index tmp1 tmp2 targets space old mid new made is wide m labels all p =
    let slots = subst (λ ls. PutsAlone context.flags (table_slots context.flags (number_of index) (number_of tmp1.reg) (number_of tmp2.reg) ls) mid new) all p in
    subst (λ i. Emits context i old new) (sym is) (λ setting. (mid, made, subst (λ n. IslandIfNeeded n old mid made) wide m, slots))

-- ---- symbols' addresses, jumps to symbols, call sites and steps in the making of a frame

-- two words, which a linker fills with the distance to a symbol
pub fill_put : (flags : IsaFlags) (symbol : Symbol) (upper lower : ℤ → List Decoded) (old new : Buffer) (w x : ℕ) → IsPatchable flags PCRelHi20 (word_bytes w) upper → IsPatchable flags PCRelLo12I (word_bytes x) lower → shape_of new ≡ with_bytes (word_bytes x) (with_record (lower_event (length (bytes_of old))) (with_bytes (word_bytes w) (with_record (upper_event symbol) (shape_of old)))) → IsSoundBuffer new → PutsAlone flags (RelocPair symbol upper lower ∷ []) old new
fill_put flags symbol upper lower old new w x first second put sound = alone (record { puts = (shape_of new, (word_bytes w, word_bytes x, first, second, put), refl); sound = sound })

-- eight bytes, which it fills with an address
pub address_put : (flags : IsaFlags) (name : ExternalName) (addend : ℤ) (old new : Buffer) → shape_of new ≡ with_bytes eight_zeros (with_record (address_event name addend) (shape_of old)) → IsSoundBuffer new → PutsAlone flags (Address name addend ∷ []) old new
address_put flags name addend old new put sound = alone (record { puts = (shape_of new, put, refl); sound = sound })

-- two words, which it fills as one with the distance to a symbol
pub call_put : (flags : IsaFlags) (name : ExternalName) (ops : ℤ → List Decoded) (old noted mid new : Buffer) (w x : ℕ) → IsPatchable flags PCRel32 (pair_bytes w x) ops → shape_of noted ≡ with_record (call_event name) (shape_of old) → w < 2 ^ 32 → shape_of mid ≡ with_bytes (to_le_bytes w32 w) (shape_of noted) → x < 2 ^ 32 → shape_of new ≡ with_bytes (to_le_bytes w32 x) (shape_of mid) → IsSoundBuffer new → PutsAlone flags (CallTo name ops ∷ []) old new
call_put flags name ops old noted mid new w x is recorded fw first fx second sound =
    alone (record { puts = (shape_of new, (pair_bytes w x, is, (pair_joined w x (with_record (call_event name) (shape_of old)) (shape_of mid) (shape_of new) (first ∙ (λ i. with_bytes (same_bytes w fw i) (recorded i))) fx second)), refl); sound = sound })

-- the record of an event that asks nothing of the bytes after it
pub note_put : (flags : IsaFlags) (event : Event) (old new : Buffer) → AsksNothing event → shape_of new ≡ with_record event (shape_of old) → IsSoundBuffer new → PutsAlone flags (Records event ∷ []) old new
note_put flags event old new none put sound = alone (record { puts = (shape_of new, (none, put), refl); sound = sound })
