-- Offsets, addresses and numbers that are computed in registers, and the way of a machine through a sequence.
pub use Rattle.{rv_code.proofs.LineSlots.{size_append, is_low}, rv_inst.{proofs.ImmediateSums.{IsRead, read_low, sum_of_parts, sum_of_negative, offset_sums, address_sums}, proofs.Sequences.{set_twice, bits_back}}}
use Rattle.rv_code.{proofs.OperationActs.{IsIntegerLoad, jump_acts, jump_len, least_even, least_some, least_few, load_acts_wide, small_number, HasSize}, proofs.Registers.{are_values_set, reads_back}}
use Rattle.rv_code.proofs.Steps.{at_next, goes_at_least, goes_none, goes_second, istep_here, iter_after, iter_one, lands, pc_in_code, step_at}
use Rattle.rv_code.proofs.Words.{Values, upper_of_distance, upper_part, w64, wrap, AddressOf, SlotOf, Symbol, Literal, NameAddress, Word32, Word64, cast_signed, extend_word, inline_size, label_slots, literal_size, literal_slot, literal_slots, lower_word, symbol_slots}
use Rattle.rv_code.proofs.Words.{upper_word, act, address_at, AimsFrom, Allocate, and_parts, at, Base, Based, between, byte, BytesAt, cases_lt, CodeHas, Decoded, decoded, decoded_addi, decoded_load, Environment, Goes, Here, istep, ints, is_splittable, IsaFlags, IsAt}
use Rattle.rv_code.proofs.Words.{IsState, jump_size, Label, load_bytes, load_op, load_over, load_result, LoadOP, Location, low32, low64, lower_of, lower_of_distance, lower_part, MachLabel, Memory, Names, nat_tests, Records, PCRelHi20, reg, Same, same_Some, set_reg}
use Rattle.rv_code.{proofs.Words.{short_jump, signed, Site, size_of, Slot, slot_size, StandsIn, State, to_le_bytes, upper_of, access_slots, Fixup, label_load_slots, PCRelLo12I, TrapCode}, specs.Evaluation.{AreShort, literal_value, symbol_value}, specs.InstRuns.environment}
use Rattle.{rv_code.specs.Sites.symbol_address, rv_machine.specs.Steps.iter}
use Rattle.std.{proofs.Common.{w32, ◌≡◌, ℕ, suc, ◌+◌, ◌-◌, ◌*◌, ◌/◌, ◌%◌, ◌^◌, ◌<◌, ◌≤◌, true, ℤ, pos, negsuc, ◌+ℤ◌, ◌-ℤ◌, arith, ap, ◌∙◌, ⊎_elim, ◌≢◌, List, [], ◌∷◌, ◌++◌, length, Some, refl, sym, subst, lit<, eqb-true, None, ◌==◌, lit≤, unwrap_or, slice_index, rules}, proofs.Common.Option}
use Rattle.rv_ops.specs.declared.memory.LoadOP.TheVariants as loads
use Rattle.rv_machine.specs.declared.ops.BaseOp.TheVariants as base

-- ---- the numbers that upper and lower immediates sum to.

-- the parts of a distance are the immediates of an offset
upper_same : (d : ℤ) → is_splittable d ≡ true → upper_part d ≡ (low64 d + 2 ^ 11) / 2 ^ 12 % 2 ^ 20
upper_same (pos n) h = let e : pos n +ℤ pos 2048 ≡ pos (n + 2048) = omega (arith, ints) in ap (λ z. low32 z / 4096) e ∙ omega arith
upper_same (negsuc n) h =
    let fits : suc n ≤ 2 ^ 31 + 2 ^ 11 = grind (arith, ints, nat_tests) in
    let own : low64 (negsuc n) ≡ 2 ^ 64 - suc n = refl in
    ⊎_elim
    (λ (lt : 2047 < n). let e : negsuc n +ℤ pos 2048 ≡ negsuc (n - 2048) = omega (arith, ints) in ap (λ z. low32 z / 4096) e ∙ omega (arith, fits, own))
    (λ (le : n ≤ 2047). let e : negsuc n +ℤ pos 2048 ≡ pos (2047 - n) = omega (arith, ints) in ap (λ z. low32 z / 4096) e ∙ omega (arith, fits, own)) (cases_lt 2047 n)

lower_same : (d : ℤ) → is_splittable d ≡ true → lower_part (d -ℤ pos 4) ≡ low64 d % 2 ^ 12
lower_same (pos n) h = let e : pos n -ℤ pos 4 +ℤ pos 4 ≡ pos n = omega (arith, ints) in ap (λ z. low32 z % 4096) e ∙ omega arith
lower_same (negsuc n) h =
    let fits : suc n ≤ 2 ^ 31 + 2 ^ 11 = grind (arith, ints, nat_tests) in
    let e : negsuc n -ℤ pos 4 +ℤ pos 4 ≡ negsuc n = omega (arith, ints) in
    let own : low64 (negsuc n) ≡ 2 ^ 64 - suc n = refl in ap (λ z. low32 z % 4096) e ∙ omega (arith, fits, own)

-- the upper part of a distance that two words hold, and the lower part, which the next word has, sum to it
pub parts_sum : (p : ℕ) (d : ℤ) → is_splittable d ≡ true → wrap (wrap (p + low64 (upper_of_distance d) * 2 ^ 12) + low64 (lower_of_distance (d -ℤ pos 4))) ≡ wrap (p + low64 d)
parts_sum p d h = (λ i. wrap (wrap (p + low64 (signed (2 ^ 19) (upper_same d h i)) * 2 ^ 12) + low64 (signed (2 ^ 11) (lower_same d h i)))) ∙ address_sums p d h

-- ---- what the rules give of the place of an address.

-- the register that it counts from is below x30
abbrev pub IsUsableAt : Location → Type 0
IsUsableAt (Based r o) = r < 30
IsUsableAt _ = Unit {0}

-- a register in which the address of a label or a constant is computed isn't x0
abbrev pub IsRealAt : ℕ → Location → Type 0
IsRealAt rd (Based r o) = Unit {0}
IsRealAt rd _ = 0 < rd

-- a register isn't the one that it counts from
abbrev pub IsApartAt : ℕ → Location → Type 0
IsApartAt rd (Based r o) = rd ≢ r
IsApartAt rd _ = Unit {0}

-- ---- offsets and addresses that are computed in a register, exactly.

-- slots stand in the code before others that do
pub stands_split : (site : Site) (allocated from : ℕ) (slots more : List Slot) → StandsIn site allocated from (slots ++ more) → StandsIn site allocated from slots × StandsIn site allocated (from + size_of slots) more
stands_split site allocated from [] more s = (tt, subst (λ n. StandsIn site allocated n more) (omega arith) s)
stands_split site allocated from (Records event ∷ slots) more s = let r = stands_split site allocated from slots more s.1 in ((s.0, r.0), subst (λ n. StandsIn site allocated n more) (omega arith) r.1)
stands_split site allocated from (Names k ∷ slots) more s = let r = stands_split site allocated from slots more s in (r.0, subst (λ n. StandsIn site allocated n more) (omega arith) r.1)
stands_split site allocated from (Allocate ∷ slots) more s = let r = stands_split site allocated from slots more s in (r.0, subst (λ n. StandsIn site allocated n more) (omega arith) r.1)
stands_split site allocated from (Here k ∷ slots) more s = let r = stands_split site allocated from slots more s.1 in ((s.0, r.0), subst (λ n. StandsIn site allocated n more) (omega arith) r.1)
stands_split site allocated from (slot ∷ slots) more s = let r = stands_split site allocated (from + slot_size slot) slots more s.1 in ((s.0, r.0), subst (λ n. StandsIn site allocated n more) (omega arith) r.1)

-- the machine goes on over so many bytes, and a register holds a number
abbrev pub Sets : IsaFlags → ℕ → State → ℕ → ℕ → Type 0
Sets flags size s n x = Goes flags 0 s (at (wrap (s.pc + size)) (set_reg s.values n x))

-- an operation that writes a register
pub sets_one : {site : Site} {offset size : ℕ} {s : State} (d : Decoded) (n x : ℕ) → IsAt site offset size s → 0 < size → CodeHas site offset (d ∷ []) → act d s ≡ Some (at (wrap (s.pc + d.len)) (set_reg s.values n x)) → Sets site.context.flags d.len s n x
sets_one {s = s} d n x h some has acts = goes_at_least (omega arith) (step_at d [] (at (wrap (s.pc + d.len)) (set_reg s.values n x)) h some has acts)

-- before fewer bytes
pub shorter : {site : Site} {offset size : ℕ} {s : State} (k : ℕ) → IsAt site offset size s → k ≤ size → IsAt site offset k s
shorter k h le = record { even = h.even; room = omega arith; placed = h.placed; pc = h.pc }

-- after it
pub set_at : {site : Site} {offset size : ℕ} {s : State} (k n x : ℕ) → IsAt site offset (k + size) s → k % 2 ≡ 0 → IsAt site (offset + k) size (at (wrap (s.pc + k)) (set_reg s.values n x))
set_at {s = s} k n x h even = at_next k (at (wrap (s.pc + k)) (set_reg s.values n x)) h even refl h.placed

-- in exactly so many steps
pub record SetsIn (count : ℕ) (flags : IsaFlags) (size : ℕ) (s : State) (n x : ℕ) : Type 0 where
  pub ran : iter flags count s ≡ Some (at (wrap (s.pc + size)) (set_reg s.values n x))

-- the auipc, the load of bytes that stand after the code, and the jump over them
pub over_goes : {site : Site} {offset : ℕ} {s : State} (allocated rd size x : ℕ) (op : LoadOP) (bytes : List ℕ) → IsIntegerLoad op → 0 < rd → rd < 32 → size < 16 → length bytes ≡ size → ((mem : Memory) (a : ℕ) → BytesAt mem a bytes → load_result (load_op op) mem a ≡ x) → 0 < size → IsState s →
    IsAt site offset (8 + jump_size site.context.flags + size) s → StandsIn site allocated offset (load_over site.context.flags rd op size) → BytesAt s.values.mem (site.base + (offset + 4 + 4 + (short_jump site.context.flags (pos (size + jump_size site.context.flags))).len)) bytes → SetsIn 3 site.context.flags (8 + jump_size site.context.flags + size) s rd x
over_goes {site} {offset} {s} allocated rd size x op bytes integer some lt little long reads filled is_state whole stands there =
    let flags = site.context.flags in
    let j = jump_size flags in
    let few = least_few flags in
    let even = least_even flags in
    let jumps = least_some flags in
    let far = pos (size + j) in
    let jump = short_jump flags far in
    let jump_long : jump.len ≡ j = jump_len flags far in
    let over : low64 far ≡ size + j = small_number (size + j) (omega arith) in
    let a = wrap (s.pc + low64 (pos 0) * 2 ^ 12) in
    let none : low64 (pos 0) ≡ 0 = refl in
    let ahead : low64 (pos (8 + j)) ≡ 8 + j = small_number (8 + j) (omega arith) in
    let s1 = at (wrap (s.pc + 4)) (set_reg s.values rd a) in
    let s2 = at (wrap (s.pc + 8)) (set_reg s.values rd x) in
    let h : IsAt site offset (4 + (4 + jump.len)) s = shorter (4 + (4 + jump.len)) whole (omega arith) in
    let here : s.pc ≡ site.base + offset = pc_in_code h (omega arith) in
    let back : reg s1.values rd ≡ a = reads_back s.values rd a is_state.values some lt in
    let address : wrap (reg s1.values rd + low64 (pos (8 + j))) ≡ site.base + (offset + 4 + 4 + jump.len) = (λ i. wrap (back i + low64 (pos (8 + j)))) ∙ omega (arith, none, ahead, here, there.room, filled, long, jump_long) in
    let read : load_result (load_op op) s.values.mem (wrap (reg s1.values rd + low64 (pos (8 + j)))) ≡ x = ap (load_result (load_op op) s.values.mem) address ∙ reads s.values.mem (site.base + (offset + 4 + 4 + jump.len)) there in
    let next : wrap (s1.pc + 4) ≡ wrap (s.pc + 8) = omega arith in
    let first : istep flags s ≡ Some s1 = istep_here (decoded (Base base.Auipc) rd 0 0 (pos 0)) [] s1 h (omega arith) stands.0 refl in
    let second : istep flags s1 ≡ Some s2 = istep_here (decoded_load op rd rd (pos (8 + j))) [] s2 (set_at 4 rd a h refl) (omega arith) stands.1.0 (load_acts_wide op rd rd (pos (8 + j)) s1 integer ∙ (λ i. Some (at (next i) (set_reg s1.values rd (read i)))) ∙ ap (λ v. Some (at (wrap (s.pc + 8)) v)) (set_twice s.values rd a x)) in
    let h2 : IsAt site (offset + 8) jump.len s2 = set_at 8 rd x (shorter (8 + jump.len) h (omega arith)) refl in
    let jumped : wrap (s2.pc + low64 far) ≡ wrap (s.pc + (8 + j + size)) = (λ i. wrap (s2.pc + over i)) ∙ omega arith in
    let s3 = at (wrap (s.pc + (8 + j + size))) s2.values in
    let third : istep flags s2 ≡ Some s3 = istep_here jump [] s3 h2 (omega arith) (subst (λ n. CodeHas site n (jump ∷ [])) (omega arith) stands.1.1.0) (jump_acts flags far s2 ∙ (λ i. Some (at (jumped i) s2.values))) in
    record { ran = iter_after flags 1 2 s s2 s3 (iter_after flags 1 1 s s1 s2 (iter_one flags s s1 first) (iter_one flags s1 s2 second)) (iter_one flags s2 s3 third) }

-- eight bytes that stand in the memory, as a number
pub eight_there : (mem : Memory) (a w : ℕ) → BytesAt mem a (to_le_bytes w64 w) → load_bytes mem a 8 ≡ wrap w
eight_there mem a w there =
    let each : (k : ℕ) → k < 8 → byte mem (wrap (a + k)) ≡ slice_index (to_le_bytes w64 w) k = λ k lt. let e : wrap (a + k) ≡ a + k = omega arith in ap (byte mem) e ∙ there.there k lt in
    omega (arith, each 0 (lit< tt), each 1 (lit< tt), each 2 (lit< tt), each 3 (lit< tt), each 4 (lit< tt), each 5 (lit< tt), each 6 (lit< tt), each 7 (lit< tt))

-- four bytes that stand in the memory, as a number
four_there : (mem : Memory) (a w : ℕ) → w < 2 ^ 32 → BytesAt mem a (to_le_bytes w32 w) → load_bytes mem a 4 ≡ w
four_there mem a w small at =
    let each : (k : ℕ) → k < 4 → byte mem (wrap (a + k)) ≡ slice_index (to_le_bytes w32 w) k = λ k lt. let e : wrap (a + k) ≡ a + k = omega arith in ap (byte mem) e ∙ at.there k lt in
    omega (arith, each 0 (lit< tt), each 1 (lit< tt), each 2 (lit< tt), each 3 (lit< tt))

-- what stands among the code is loaded, and jumped over
pub literal_long : (flags : IsaFlags) (rd : ℕ) (l : Literal) → size_of (literal_slots flags rd l) ≡ inline_size flags (literal_size l)
literal_long flags rd l =
    let jump = jump_len flags (pos (literal_size l + jump_size flags)) in
    let bytes : slot_size (literal_slot l) ≡ literal_size l = elim l as (λ l. slot_size (literal_slot l) ≡ literal_size l) [ Word32 n ↦ refl | Word64 n ↦ refl | NameAddress name addend ↦ refl ] in
    omega arith

pub literal_goes : {site : Site} {offset : ℕ} {s : State} (first last allocated rd : ℕ) (l : Literal) → 0 < rd → rd < 32 → IsState s → IsAt site offset (inline_size site.context.flags (literal_size l)) s → StandsIn site allocated offset (literal_slots site.context.flags rd l) →
    SetsIn 3 site.context.flags (inline_size site.context.flags (literal_size l)) s rd (literal_value (environment site first last) l)
literal_goes {s = s} first last allocated rd (Word32 n) some lt is_state h stands =
    over_goes allocated rd 4 (extend_word n) loads.Lw (to_le_bytes w32 (n % 2 ^ 32)) refl some lt (lit< tt) refl (λ mem a there. ap (λ m. low64 (cast_signed w32 m)) (four_there mem a (n % 2 ^ 32) (omega arith) there)) (lit< tt) is_state h (stands.0, (stands.1.0, (stands.1.1.0, tt))) (stands.1.1.1.0 s.values.mem h.placed)
literal_goes {s = s} first last allocated rd (Word64 n) some lt is_state h stands =
    over_goes allocated rd 8 (wrap n) loads.Ld (to_le_bytes w64 n) refl some lt (lit< tt) refl (λ mem a there. eight_there mem a n there) (lit< tt) is_state h (stands.0, (stands.1.0, (stands.1.1.0, tt))) (stands.1.1.1.0 s.values.mem h.placed)
literal_goes {site} {s = s} first last allocated rd (NameAddress name addend) some lt is_state h stands =
    let x = symbol_address site (AddressOf name addend) in
    let whole : wrap x ≡ x = omega arith in
    over_goes allocated rd 8 x loads.Ld (to_le_bytes w64 x) refl some lt (lit< tt) refl (λ mem a there. eight_there mem a x there ∙ whole) (lit< tt) is_state h (stands.0, (stands.1.0, (stands.1.1.0, tt))) (stands.1.1.1.0 s.values.mem h.placed)

-- where a label is bound
abbrev pub label_address : Site → MachLabel → ℕ
label_address site l = wrap (site.base + unwrap_or (site.place l.number) 0)

-- the upper part of the distance between two offsets, added to an address
abbrev pub upper_sum : ℕ → ℕ → ℕ → ℕ
upper_sum pc from to = wrap (pc + low64 (upper_of_distance (between from to)) * 2 ^ 12)

-- the first of two words, whatever the second one does
pub upper_goes : {site : Site} {offset size allocated : ℕ} {s : State} (rd : ℕ) (l : MachLabel) → IsAt site offset size s → 0 < size → (a : AimsFrom site allocated offset PCRelHi20 (Label l) (λ d. decoded (Base base.Auipc) rd 0 0 (upper_of_distance d) ∷ [])) → Sets site.context.flags 4 s rd (upper_sum s.pc offset a.to)
upper_goes {offset = offset} {s = s} rd l h some a = sets_one (decoded (Base base.Auipc) rd 0 0 (upper_of_distance (between offset a.to))) rd (upper_sum s.pc offset a.to) h some a.has refl

-- the second one adds the lower part
pub lower_sums : {site : Site} {offset size : ℕ} {s : State} (rd : ℕ) (l : MachLabel) (to to_next : ℕ) → 0 < rd → rd < 32 → AreShort site → IsState s → IsAt site offset size s → site.place l.number ≡ Some to → site.place l.number ≡ Some to_next →
    wrap (reg (set_reg s.values rd (upper_sum s.pc offset to)) rd + low64 (lower_of_distance (between (offset + 4) to_next))) ≡ label_address site l
lower_sums {site} {offset} {s = s} rd l to to_next some lt bounds is_state h bound bound_next =
    let le = bounds.labels l.number to bound in
    let one : to_next ≡ to = same_Some to_next to (sym bound_next ∙ bound) in
    let next : between (offset + 4) to ≡ between offset to -ℤ pos 4 = omega (arith, ints) in
    (λ i. wrap (reads_back s.values rd (upper_sum s.pc offset to) is_state.values some lt i + low64 (lower_of_distance (between (offset + 4) (one i)))))
    ∙ (λ i. wrap (upper_sum (h.pc i) offset to + low64 (lower_of_distance (next i))))
    ∙ parts_sum (wrap (site.base + offset)) (between offset to) (grind (arith, ints, nat_tests)) ∙ lands site.base offset to (omega arith) ∙ ap (λ o. wrap (site.base + unwrap_or o 0)) (sym bound)

-- the first of two words leaves a number in a register, and the second makes another of it
pair_goes : {site : Site} {offset : ℕ} {s : State} (rd x y : ℕ) (first second : Decoded) → IsAt site offset 8 s → CodeHas site offset (first ∷ []) → act first s ≡ Some (at (wrap (s.pc + 4)) (set_reg s.values rd y)) → CodeHas site (offset + 4) (second ∷ []) →
    act second (at (wrap (s.pc + 4)) (set_reg s.values rd y)) ≡ Some (at (wrap (wrap (s.pc + 4) + 4)) (set_reg (set_reg s.values rd y) rd x)) → SetsIn 2 site.context.flags 8 s rd x
pair_goes {site} {offset} {s} rd x y first second h has acts has_second acts_second =
    let flags = site.context.flags in
    let s1 = at (wrap (s.pc + 4)) (set_reg s.values rd y) in
    let s2 = at (wrap (s.pc + 8)) (set_reg s.values rd x) in
    let next : wrap (wrap (s.pc + 4) + 4) ≡ wrap (s.pc + 8) = omega arith in
    let h1 : IsAt site offset 4 s = shorter 4 h (omega arith) in
    let h2 : IsAt site (offset + 4) 4 s1 = set_at 4 rd y h refl in
    record { ran = iter_after flags 1 1 s s1 s2 (iter_one flags s s1 (istep_here first [] s1 h1 (lit< tt) has acts)) (iter_one flags s1 s2 (istep_here second [] s2 h2 (lit< tt) has_second (acts_second ∙ (λ i. Some (at (next i) (set_twice s.values rd y x i)))))) }

pub label_goes : {site : Site} {offset : ℕ} {s : State} (allocated rd : ℕ) (l : MachLabel) → 0 < rd → rd < 32 → AreShort site → IsState s → IsAt site offset 8 s → StandsIn site allocated offset (label_slots rd l) → SetsIn 2 site.context.flags 8 s rd (label_address site l)
label_goes {site} {offset} {s} allocated rd l some lt bounds is_state h stands =
    let a = stands.0 in
    let b = stands.1.0 in
    let y = upper_sum s.pc offset a.to in
    let z = lower_of_distance (between (offset + 4) b.to) in
    let sum = lower_sums rd l a.to b.to some lt bounds is_state h a.reaches.0 b.reaches.0 in
    pair_goes rd (label_address site l) y (upper_word rd (between offset a.to)) (decoded_addi rd rd z) h a.has refl b.has (λ i. Some (at (wrap (wrap (s.pc + 4) + 4)) (set_reg (set_reg s.values rd y) rd (sum i))))

-- what stands after the record of an access's trap
pub after_access : (site : Site) (allocated offset : ℕ) (trap : Option TrapCode) (slots : List Slot) → StandsIn site allocated offset (access_slots trap ++ slots) → StandsIn site allocated offset slots
after_access site allocated offset None slots stands = stands
after_access site allocated offset (Some code) slots stands = stands.1

-- what a label's place holds
pub label_load_goes : {site : Site} {offset : ℕ} {s : State} (allocated rd : ℕ) (op : LoadOP) (trap : Option TrapCode) (l : MachLabel) → IsIntegerLoad op → 0 < rd → rd < 32 → AreShort site → IsState s → IsAt site offset 8 s → StandsIn site allocated offset (label_load_slots rd rd op trap l) →
    SetsIn 2 site.context.flags 8 s rd (load_result (load_op op) s.values.mem (label_address site l))
label_load_goes {site} {offset} {s} allocated rd op trap l integer some lt bounds is_state h stands =
    let a = stands.0 in
    let b = (after_access site allocated (offset + 4) trap (Fixup PCRelLo12I (Label l) (λ d. decoded_load op rd rd (lower_of_distance d) ∷ []) ∷ []) stands.1).0 in
    let y = upper_sum s.pc offset a.to in
    let w = set_reg s.values rd y in
    let z = lower_of_distance (between (offset + 4) b.to) in
    let sum = lower_sums rd l a.to b.to some lt bounds is_state h a.reaches.0 b.reaches.0 in
    pair_goes rd (load_result (load_op op) s.values.mem (label_address site l)) y (upper_word rd (between offset a.to)) (decoded_load op rd rd z) h a.has refl b.has
    (load_acts_wide op rd rd z (at (wrap (s.pc + 4)) w) integer ∙ (λ i. Some (at (wrap (wrap (s.pc + 4) + 4)) (set_reg w rd (load_result (load_op op) s.values.mem (sum i))))))

-- the address of a symbol by the distance to it, or what stands in its slot
pub symbol_goes : {site : Site} {offset : ℕ} {s : State} (first last allocated rd : ℕ) (symbol : Symbol) → 0 < rd → rd < 32 → IsState s → IsAt site offset 8 s → StandsIn site allocated offset (symbol_slots rd symbol) → SetsIn 2 site.context.flags 8 s rd (symbol_value (environment site first last) symbol s.values.mem)
symbol_goes {site} {offset} {s} first last allocated rd symbol some lt is_state h stands =
    let f = stands.0 in
    let y = wrap (s.pc + low64 (upper_of_distance f.distance) * 2 ^ 12) in
    let w = set_reg s.values rd y in
    let z = lower_of_distance (f.distance -ℤ pos 4) in
    let over : wrap (wrap (site.base + offset) + low64 f.distance) ≡ wrap (site.base + offset + low64 f.distance) = omega arith in
    let sum : wrap (reg w rd + low64 z) ≡ symbol_address site symbol = (λ i. wrap (reads_back s.values rd y is_state.values some lt i + low64 z)) ∙ parts_sum s.pc f.distance f.near ∙ (λ i. wrap (h.pc i + low64 f.distance)) ∙ over ∙ f.leads in
    (elim symbol as (λ symbol. wrap (reg w rd + low64 z) ≡ symbol_address site symbol → CodeHas site (offset + 4) (lower_word symbol rd (f.distance -ℤ pos 4) ∷ []) → SetsIn 2 site.context.flags 8 s rd (symbol_value (environment site first last) symbol s.values.mem)) [
      | AddressOf name addend ↦ λ sum has. pair_goes rd _ y (upper_word rd f.distance) (decoded_addi rd rd z) h f.has_upper refl has (λ i. Some (at (wrap (wrap (s.pc + 4) + 4)) (set_reg w rd (sum i))))
      | SlotOf name ↦ λ sum has. pair_goes rd _ y (upper_word rd f.distance) (decoded_load loads.Ld rd rd z) h f.has_upper refl has (λ i. Some (at (wrap (wrap (s.pc + 4) + 4)) (set_reg w rd (load_result (load_op loads.Ld) s.values.mem (sum i)))))
    ]) sum f.has_lower

-- it is the same in values that are the same
pub address_same : (env : Environment) (v w : Values) (loc : Location) → IsUsableAt loc → Same v w → address_at env v loc ≡ address_at env w loc
address_same env v w (Based r o) usable same = λ i. wrap (same.regs r usable i + low64 o)
address_same env v w _ usable same = refl

pub address_fits : (site : Site) (start after : ℕ) (v : Values) (loc : Location) → address_at (environment site start after) v loc < 2 ^ 64
address_fits site start after v (Based r o) = omega arith
address_fits site start after v _ = omega arith

-- ---- the way of a machine through a sequence, by what its values are at each operation.

-- a machine at an offset, before so many bytes of the code, whose values are such
pub record InCourse (site : Site) (offset size : ℕ) (Such : Values → Type 0) (s : State) : Type 0 where
  pub here : IsAt site offset size s
  pub is_state : IsState s
  pub values : Such s.values

-- in some steps the machine comes there
pub record Comes (site : Site) (offset size : ℕ) (Such : Values → Type 0) (s : State) : Type 0 where
  pub state : State
  pub goes : Goes site.context.flags 0 s state
  pub course : InCourse site offset size Such state

pub comes_on : {site : Site} {offset size offset' size' : ℕ} {Such Such' : Values → Type 0} {s : State} → Comes site offset size Such s → ((t : State) → InCourse site offset size Such t → Comes site offset' size' Such' t) → Comes site offset' size' Such' s
comes_on c on = let d = on c.state c.course in record { state = d.state; goes = goes_second c.goes d.goes; course = d.course }

-- it is there
pub comes_here : {site : Site} {offset size : ℕ} {Such : Values → Type 0} {s : State} → InCourse site offset size Such s → Comes site offset size Such s
comes_here {site} {s = s} k = record { state = s; goes = goes_none site.context.flags s; course = k }

-- before fewer bytes
pub course_before : {site : Site} {offset size : ℕ} {Such : Values → Type 0} {s : State} (less : ℕ) → InCourse site offset size Such s → less ≤ size → InCourse site offset less Such s
course_before less k le = record { here = shorter less k.here le; is_state = k.is_state; values = k.values }

-- so many bytes do
pub sets_comes : {site : Site} {offset size : ℕ} {Such : Values → Type 0} {s : State} (After : Values → Type 0) (k n x : ℕ) → k % 2 ≡ 0 → n < 32 → x < 2 ^ 64 → Sets site.context.flags k s n x → InCourse site offset (k + size) Such s → After (set_reg s.values n x) → Comes site (offset + k) size After s
sets_comes {s = s} After k n x even lt fits goes c after =
    record { state = at (wrap (s.pc + k)) (set_reg s.values n x); goes = goes; course = search (rules, arith, (set_at k n x c.here even), (are_values_set s.values n x c.is_state.values lt fits), after) }

pub writes : {site : Site} {offset size : ℕ} {Such : Values → Type 0} {s : State} (After : Values → Type 0) (d : Decoded) (n x : ℕ) → HasSize d → CodeHas site offset (d ∷ []) → act d s ≡ Some (at (wrap (s.pc + d.len)) (set_reg s.values n x)) → n < 32 → x < 2 ^ 64 → InCourse site offset (d.len + size) Such s → After (set_reg s.values n x) → Comes site (offset + d.len) size After s
writes After d n x sized has acts lt fits k after = let some = sized.some in sets_comes After d.len n x sized.even lt fits (sets_one d n x k.here (omega arith) has acts) k after

leads : {site : Site} {offset size : ℕ} {Such : Values → Type 0} {s : State} (d : Decoded) (to more : ℕ) → CodeHas site offset (d ∷ []) → act d s ≡ Some (at (wrap (site.base + to)) s.values) → to % 2 ≡ 0 → to + more ≤ length site.bytes → 0 < size → InCourse site offset size Such s → Comes site to more Such s
leads {site} {s = s} d to more has acts even room some k =
    let t = at (wrap (site.base + to)) s.values in
    record { state = t; goes = goes_at_least (lit≤ tt) (step_at d [] t k.here some has acts); course = search (rules, arith, k, even, room) }

-- ahead by so many bytes
pub goes_ahead : {site : Site} {offset size : ℕ} {Such : Values → Type 0} {s : State} (d : Decoded) (n to more : ℕ) → CodeHas site offset (d ∷ []) → act d s ≡ Some (at (wrap (s.pc + n)) s.values) → to ≡ offset + n → n % 2 ≡ 0 → n + more ≤ size → 0 < size → InCourse site offset size Such s → Comes site to more Such s
goes_ahead {site} {offset} {size} {s = s} d n to more has acts there even fits some k =
    let e : wrap (s.pc + n) ≡ wrap (site.base + to) = omega arith in
    leads d to more has (acts ∙ ap (λ a. Some (at a s.values)) e) (omega arith) (omega arith) some k

-- a number without an upper immediate is its lower one
pub lower_whole : (z : ℤ) → is_low z ≡ true → wrap (0 + low64 (lower_of z)) ≡ wrap (low64 z)
lower_whole z low =
    let both = and_parts (is_splittable z) (low64 (upper_of z) == 0) low in
    let none : low64 (upper_of z) ≡ 0 = eqb-true (low64 (upper_of z)) 0 both.1 in
    omega (arith, (offset_sums z both.0), none)
