-- Bytes in a memory, and the veneers among them.
use Rattle.rv_emit.proofs.Terms.{◌≡◌, ℕ, ◌+◌, ◌<◌, ◌≤◌, List, length, drop, arith, sym, ap, subst, ◌∙◌, zero, suc, ◌-◌, ◌*◌, ◌/◌, ◌%◌, ◌^◌, inl, Bool, true, false, [], ◌∷◌, Some, refl, ℤ, pos, negsuc, ◌+ℤ◌, ◌*ℤ◌, ◌-ℤ◌, lit<, slice_index, slice_set, nat_lt, if◌then◌else◌, get_or-take, get_or-drop, word_opcode, AUIPC, JALR}
use Rattle.rv_emit.proofs.Terms.{length-take, length-drop, Memory, byte, wrap, Values, reg, set_reg, low64, signed, at, fetch, word_at, AreBytes, window, BytesAt, Site, HasOps, LeadsOn, AllBytes, option_map, ints, ltb-true, get_or-set_at, get_or-set_other, SameOutside, IsaFlags, LabelUse, PCRel32}
use Rattle.rv_emit.proofs.Terms.{label_kinds, Aims, marks_of, veneer_of, with_immediate, PairDecodes, Same, decode-patched_pair, Decoded, Base, decoded, Use, IsVia, decoded_jalr, are_values_set, istep_at, comes_one, comes_both, word_there}
use Rattle.rv_machine.specs.{declared.ops.BaseOp.TheVariants.Auipc, Decode.int_decode, Decode.decode}

-- ---- windows

pub window_byte : (bytes : List ℕ) (place size i : ℕ) → i < size → slice_index (window bytes place size) i ≡ slice_index bytes (place + i)
window_byte bytes place size i lt = get_or-take size (drop place bytes) i 0 lt ∙ get_or-drop place bytes i 0

pub window_length : (bytes : List ℕ) (place size : ℕ) → place + size ≤ length bytes → length (window bytes place size) ≡ size
window_length bytes place size le = omega (arith, length-take size (drop place bytes), length-drop place bytes)

pub window_fits : (bytes : List ℕ) (place size : ℕ) → place + size ≤ length bytes → AllBytes bytes → AllBytes (window bytes place size)
window_fits bytes place size le fits = λ k lt.
    let short : k < size = omega (arith, window_length bytes place size le) in
    subst (λ (n : ℕ). n < 256) (sym (window_byte bytes place size k short)) (fits (place + k) (omega arith))

pub window_there : (mem : Memory) (a : ℕ) (bytes : List ℕ) (place size : ℕ) → place + size ≤ length bytes → BytesAt mem a bytes → BytesAt mem (a + place) (window bytes place size)
window_there mem a bytes place size le placed = record {
  room = let r = placed.room in omega (arith, window_length bytes place size le);
  there = λ k lt.
      let short : k < size = omega (arith, window_length bytes place size le) in
      let moved : a + place + k ≡ a + (place + k) = omega arith in
      ap (byte mem) moved ∙ placed.there (place + k) (omega arith) ∙ sym (window_byte bytes place size k short);
}

-- ---- words

-- bytes after the first ones
pub rest_there : (mem : Memory) (a : ℕ) (bytes : List ℕ) (n : ℕ) → n ≤ length bytes → BytesAt mem a bytes → BytesAt mem (a + n) (drop n bytes)
rest_there mem a bytes n le placed = record {
  room = let r = placed.room in omega (arith, length-drop n bytes);
  there = λ k lt.
      let moved : a + n + k ≡ a + (n + k) = omega arith in
      ap (byte mem) moved ∙ placed.there (n + k) (omega (arith, length-drop n bytes)) ∙ sym (get_or-drop n bytes k 0);
}

pub rest_fits : (bytes : List ℕ) (n : ℕ) → n ≤ length bytes → AllBytes bytes → AllBytes (drop n bytes)
rest_fits bytes n le fits = λ k lt. subst (λ (m : ℕ). m < 256) (sym (get_or-drop n bytes k 0)) (fits (n + k) (omega (arith, length-drop n bytes)))

-- ---- the two operations of a veneer

abbrev pub decoded_auipc : ℤ → Decoded
decoded_auipc imm = decoded (Base Auipc) 31 0 0 imm

-- the words of a veneer before its use is patched
old_first : (flags : IsaFlags) → decode flags (word_at (veneer_of PCRel32).bytes) ≡ Some (decoded_auipc (pos 0))
unfolding decode int_decode
old_first flags = refl

old_second : (flags : IsaFlags) → decode flags (word_at (drop 4 (veneer_of PCRel32).bytes)) ≡ Some (decoded_jalr 0 31 (pos 0))
unfolding decode int_decode
old_second flags = refl

pub first_bytes : (bytes : List ℕ) → 4 ≤ length bytes → AllBytes bytes → AreBytes bytes
first_bytes bytes le fits = record { first = fits 0 (omega arith); second = fits 1 (omega arith); third = fits 2 (omega arith); fourth = fits 3 (omega arith) }

-- eight bytes whose window aims at a distance hold the operations of two words, by its upper and its lower part
pub pair_decodes : (flags : IsaFlags) (old new : List ℕ) (d : ℤ) → AreBytes old → AreBytes (drop 4 old) → word_opcode (word_at old) ≡ AUIPC → word_opcode (word_at (drop 4 old)) ≡ JALR → length new ≡ 8 → AllBytes new → SameOutside (marks_of PCRel32) old new → Aims PCRel32 new d → PairDecodes flags old new d
pair_decodes flags old new d first second auipc jalr long fits kept aims =
    decode-patched_pair flags old new d first (first_bytes new (omega arith) fits) second (first_bytes (drop 4 new) (omega (arith, length-drop 4 new)) (rest_fits new 4 (omega arith) fits)) kept auipc (inl jalr) aims

-- the same operations, wherever the bytes stand
pub pair_there : (flags : IsaFlags) (mem : Memory) (a : ℕ) (new : List ℕ) (tmp : ℕ) (upper : ℤ) (second : Decoded) → length new ≡ 8 → BytesAt mem a new → decode flags (word_at new) ≡ Some (decoded (Base Auipc) tmp 0 0 upper) → decode flags (word_at (drop 4 new)) ≡ Some second → HasOps flags mem a (decoded (Base Auipc) tmp 0 0 upper ∷ second ∷ [])
pair_there flags mem a new tmp upper second long placed first next =
    (ap (decode flags) (word_there mem a new (omega arith) placed) ∙ first, (ap (decode flags) (word_there mem (a + 4) (drop 4 new) (omega (arith, length-drop 4 new)) (rest_there mem a new 4 (omega arith) placed)) ∙ next, tt))

-- those of a veneer
pub veneer_there : (flags : IsaFlags) (mem : Memory) (a : ℕ) (new : List ℕ) (d : ℤ) → length new ≡ 8 → BytesAt mem a new → (p : PairDecodes flags (veneer_of PCRel32).bytes new d) → HasOps flags mem a (decoded_auipc p.upper ∷ decoded_jalr 0 31 p.lower ∷ [])
veneer_there flags mem a new d long placed p = pair_there flags mem a new 31 p.upper (decoded_jalr 0 31 p.lower) long placed (p.first ∙ ap (option_map (with_immediate p.upper)) (old_first flags)) (p.second ∙ ap (option_map (with_immediate p.lower)) (old_second flags))

-- ---- where they lead

-- a signed number of few bits
abbrev IsSmall : ℤ → Type 0
IsSmall (pos n) = n < 2 ^ 32
IsSmall (negsuc n) = n < 2 ^ 32

signed_small : (half n : ℕ) → 2 * half < 2 ^ 32 → IsSmall (signed half n)
signed_small half n le = on (nat_lt n half) refl
  where
    on : (c : Bool) → nat_lt n half ≡ c → IsSmall (if c then pos n else negsuc (2 * half - suc n))
    on true h = let lt = ltb-true n half h in omega arith
    on false h = omega arith

-- an upper and a lower part that sum to a distance lead to its end
pair_lands : (base from to : ℕ) (upper lower : ℤ) → IsSmall upper → IsSmall lower → (upper *ℤ pos 4096) +ℤ lower ≡ pos to -ℤ pos from → wrap (wrap (wrap (base + from) + low64 upper * 2 ^ 12) + low64 lower) ≡ wrap (base + to)
pair_lands base from to (pos n) (pos m) hu hl e = omega (arith, ints)
pair_lands base from to (pos n) (negsuc m) hu hl e = let l : low64 (negsuc m) ≡ 2 ^ 64 - suc m = refl in omega (arith, ints)
pair_lands base from to (negsuc n) (pos m) hu hl e = let u : low64 (negsuc n) ≡ 2 ^ 64 - suc n = refl in omega (arith, ints)
pair_lands base from to (negsuc n) (negsuc m) hu hl e = let l : low64 (negsuc m) ≡ 2 ^ 64 - suc m = refl in let u : low64 (negsuc n) ≡ 2 ^ 64 - suc n = refl in omega (arith, ints)

-- ---- steps

-- x31 may hold anything
same_spare : (v w : Values) (x : ℕ) → Same v w → Same v (set_reg w 31 x)
same_spare v w x same = record { regs = λ n lt. same.regs n lt ∙ sym (kept n lt); mem = same.mem }
  where
    kept : (n : ℕ) → n < 30 → reg (set_reg w 31 x) n ≡ reg w n
    kept zero lt = refl
    kept (suc n) lt = get_or-set_other w.regs 30 n x 0 (λ e. omega arith)

-- the two steps
pair_leads : (site : Site) (place to : ℕ) → place % 2 ≡ 0 → to % 2 ≡ 0 → place + 8 ≤ length site.bytes → (p : PairDecodes site.context.flags (veneer_of PCRel32).bytes (window site.bytes place 8) (pos to -ℤ pos place)) → LeadsOn site place to
pair_leads site place to even to_even within p = record {
  run = λ s v placed pc is_state are_values same.
      let flags = site.context.flags in
      let base = site.base in
      let here : s.pc ≡ base + place = pc ∙ omega arith in
      let next : wrap (s.pc + 4) ≡ base + place + 4 = omega arith in
      let x = wrap (s.pc + low64 p.upper * 2 ^ 12) in
      let held : slice_index (slice_set s.values.regs 30 x) 30 ≡ x = get_or-set_at s.values.regs 30 30 x 0 refl (let n = is_state.values.count in omega arith) in
      let has = veneer_there flags s.values.mem (base + place) (window site.bytes place 8) (pos to -ℤ pos place) (window_length site.bytes place 8 within) (window_there s.values.mem base site.bytes place 8 within placed.bytes) p in
      let first : decode flags (fetch s.values.mem s.pc) ≡ Some (decoded_auipc p.upper) = ap (λ a. decode flags (fetch s.values.mem a)) here ∙ has.0 in
      let second : decode flags (fetch s.values.mem (wrap (s.pc + 4))) ≡ Some (decoded_jalr 0 31 p.lower) = ap (λ a. decode flags (fetch s.values.mem a)) next ∙ has.1.0 in
      let spare = same_spare v s.values x same in
      let fits = are_values_set s.values 31 x is_state.values (lit< tt) (omega arith) in
      let lands = pair_lands base place to p.upper p.lower (subst IsSmall (sym p.upper_is) (signed_small (2 ^ 19) _ (lit< tt))) (subst IsSmall (sym p.lower_is) (signed_small (2 ^ 11) _ (lit< tt))) p.sum in
      comes_both flags (wrap (s.pc + 4)) (wrap (base + to)) v s
      (comes_one flags s (wrap (s.pc + 4)) (wrap (s.pc + 4)) v (set_reg s.values 31 x) (istep_at flags s (decoded_auipc p.upper) (omega arith) first refl) refl (omega arith) spare are_values fits (get_or-set_other s.values.regs 30 29 x 0 (λ e. omega arith)) refl)
      (comes_one flags (at (wrap (s.pc + 4)) (set_reg s.values 31 x)) (wrap (slice_index (slice_set s.values.regs 30 x) 30 + low64 p.lower) / 2 * 2) (wrap (base + to)) v (set_reg s.values 31 x)
      (istep_at flags (at (wrap (s.pc + 4)) (set_reg s.values 31 x)) (decoded_jalr 0 31 p.lower) (omega arith) second refl)
      ((λ i. wrap (held i + low64 p.lower) / 2 * 2) ∙ (λ i. wrap (wrap (pc i + low64 p.upper * 2 ^ 12) + low64 p.lower) / 2 * 2) ∙ ap (λ (n : ℕ). n / 2 * 2) lands ∙ omega arith) (omega arith) spare are_values fits refl refl);
}

-- what stands at a veneer of a buffer
pub via_decodes : (flags : IsaFlags) (bytes : List ℕ) (kind : LabelUse) (u : Use LabelUse) (to : ℕ) (g : IsVia label_kinds (veneer_of kind) bytes u to) → AllBytes bytes → PairDecodes flags (veneer_of PCRel32).bytes (window bytes g.at 8) (pos to -ℤ pos g.at)
via_decodes flags bytes kind u to g fits =
    let same_place : g.at + 0 ≡ g.at = omega arith in
    pair_decodes flags (veneer_of PCRel32).bytes (window bytes g.at 8) (pos to -ℤ pos g.at) (record { first = lit< tt; second = lit< tt; third = lit< tt; fourth = lit< tt }) (record { first = lit< tt; second = lit< tt; third = lit< tt; fourth = lit< tt }) refl refl (window_length bytes g.at 8 g.inside) (window_fits bytes g.at 8 g.inside fits)
    (subst (λ n. SameOutside (marks_of PCRel32) (veneer_of PCRel32).bytes (window bytes n 8)) same_place g.own)
    (subst (λ n. Aims PCRel32 (window bytes n 8) (pos to -ℤ pos n)) same_place g.on)

-- where a linker leaves it as it is in the finished code
pub veneer_leads : (site : Site) (final : List ℕ) (kind : LabelUse) (u : Use LabelUse) (to at : ℕ) (g : IsVia label_kinds (veneer_of kind) final u to) → g.at ≡ at → AllBytes final → length site.bytes ≡ length final → window site.bytes at 8 ≡ window final at 8 → to % 2 ≡ 0 → LeadsOn site at to
veneer_leads site final kind u to at g here fits long left even =
    let p = subst (λ n. PairDecodes site.context.flags (veneer_of PCRel32).bytes (window final n 8) (pos to -ℤ pos n)) here (via_decodes site.context.flags final kind u to g fits) in
    pair_leads site at to (subst (λ (n : ℕ). n % 2 ≡ 0) here g.even) even (omega arith) (subst (λ w. PairDecodes site.context.flags (veneer_of PCRel32).bytes w (pos to -ℤ pos at)) (sym left) p)
