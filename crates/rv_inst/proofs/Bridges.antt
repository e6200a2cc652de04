-- From a patched window to what it decodes to.
use Rattle.std.proofs.Common.{◌≡◌, ℕ, ◌+◌, ◌*◌, ◌/◌, ◌%◌, ◌<◌, inl, inr, List, [], ◌∷◌, drop, slice_index, refl, ap, sym, ◌∙◌, ℤ, Option, Some, None, Bool, true, false, arith, bit_and, get_or-drop}
use Rattle.std.specs.Prelude.{nat_eq, ◌==◌, if◌then◌else◌}
use Rattle.std.specs.Option.{option_map}
use Rattle.std.proofs.lemmas.Nat.{and_mask}
use Rattle.std.proofs.lemmas.Nat.Bits.{and_high}
use Rattle.rv_base.specs.LabelUse.{SameOutside}
use Rattle.rv_base.specs.declared.flags.IsaFlags.{IsaFlags}
use Rattle.rv_machine.specs.declared.ops.MOp.{MOp}
use Rattle.rv_machine.specs.declared.ops.MOp.TheVariants.{Base, Alu}
use Rattle.rv_machine.specs.declared.ops.BaseOp.TheVariants.{Auipc, Jal, Jalr}
use Rattle.rv_machine.specs.declared.ops.AluOp.TheVariants.{Int}
use Rattle.rv_machine.specs.declared.ops.IntOp.TheVariants.{Addi}
use Rattle.rv_machine.specs.Layout.{word_opcode, word_rd, word_funct3, word_rs1, word_rs2, b_imm, j_imm, u_imm, i_imm, decoded, b_layout, j_layout, u_layout, i_layout, compressed}
use Rattle.rv_machine.specs.Opcodes.{AUIPC, JAL, JALR, BRANCH, OP_IMM}
use Rattle.rv_machine.specs.Tables.{branch_entry}
use Rattle.rv_machine.specs.Decode.{decode, decode_branch, decode_jalr}
use Rattle.rv_machine.specs.Compressed.{half_op, half_funct3, cj_imm, int_decode_half, decode_half}
use Rattle.rv_machine.proofs.DecodeLaws.{decode_alone, none_fused}
use Rattle.rv_encode.proofs.Decoding.{opcode_decodes}
use Rattle.rv_inst.specs.declared.label_use.LabelUse.TheVariants.{Jal20, PCRel32, B12, PCRelLo12I, RVCJump}
use Rattle.rv_inst.specs.LabelUse.{Aims, marks_of}
use Rattle.rv_inst.specs.LabelUseWords.{word_at, AreBytes, half_at, AreTwoBytes}
use Rattle.rv_inst.specs.LabelUseBridges.{with_immediate, TakesLowerPart, PairDecodes, HalfJumps}

-- ---- bytes and bits that stay

same_seven : (x y : ℕ) → bit_and x 127 ≡ bit_and y 127 → x % 128 ≡ y % 128
same_seven x y e = sym (and_mask x 7) ∙ e ∙ and_mask y 7

same_high : (x y : ℕ) → bit_and x 240 ≡ bit_and y 240 → x / 16 % 16 ≡ y / 16 % 16
same_high x y e = let f : (x / 16 % 16) * 16 ≡ (y / 16 % 16) * 16 = sym (and_high x 4 4) ∙ e ∙ and_high y 4 4 in omega (arith, f)

pub same_low : (x y : ℕ) → bit_and x 15 ≡ bit_and y 15 → x % 16 ≡ y % 16
same_low x y e = sym (and_mask x 4) ∙ e ∙ and_mask y 4

pub same_byte : (x y : ℕ) → x < 256 → y < 256 → bit_and x 255 ≡ bit_and y 255 → x ≡ y
same_byte x y h k e = let f : x % 256 ≡ y % 256 = sym (and_mask x 8) ∙ e ∙ and_mask y 8 in omega (arith, f)

same_one : (x y : ℕ) → bit_and x 1 ≡ bit_and y 1 → x % 2 ≡ y % 2
same_one x y e = sym (and_mask x 1) ∙ e ∙ and_mask y 1

-- a branch's fields outside its distance
pub record SameBranch (f g : ℕ) : Type 0 where
  pub opcode : word_opcode g ≡ word_opcode f
  pub funct3 : word_funct3 g ≡ word_funct3 f
  pub rs1 : word_rs1 g ≡ word_rs1 f
  pub rs2 : word_rs2 g ≡ word_rs2 f

-- a jump's, and those of an upper part
pub record SameUpper (f g : ℕ) : Type 0 where
  pub opcode : word_opcode g ≡ word_opcode f
  pub rd : word_rd g ≡ word_rd f

-- those of a lower part
pub record SameLower (f g : ℕ) : Type 0 where
  pub opcode : word_opcode g ≡ word_opcode f
  pub rd : word_rd g ≡ word_rd f
  pub funct3 : word_funct3 g ≡ word_funct3 f
  pub rs1 : word_rs1 g ≡ word_rs1 f

branch_fields : (a b c d a' b' c' d' : ℕ) → a < 256 → b < 256 → c < 256 → d < 256 → a' < 256 → b' < 256 → c' < 256 → d' < 256 →
    a' % 128 ≡ a % 128 → b' / 16 % 16 ≡ b / 16 % 16 → c' ≡ c → d' % 2 ≡ d % 2 →
    SameBranch (a + 256 * b + 65536 * c + 16777216 * d) (a' + 256 * b' + 65536 * c' + 16777216 * d')
branch_fields a b c d a' b' c' d' ha hb hc hd ha' hb' hc' hd' ea eb ec ed = record { opcode = omega arith; funct3 = omega arith; rs1 = omega arith; rs2 = omega arith }

upper_fields : (a b c d a' b' c' d' : ℕ) → a < 256 → b < 256 → c < 256 → d < 256 → a' < 256 → b' < 256 → c' < 256 → d' < 256 →
    a' ≡ a → b' % 16 ≡ b % 16 → SameUpper (a + 256 * b + 65536 * c + 16777216 * d) (a' + 256 * b' + 65536 * c' + 16777216 * d')
upper_fields a b c d a' b' c' d' ha hb hc hd ha' hb' hc' hd' ea eb = record { opcode = omega arith; rd = omega arith }

lower_fields : (a b c d a' b' c' d' : ℕ) → a < 256 → b < 256 → c < 256 → d < 256 → a' < 256 → b' < 256 → c' < 256 → d' < 256 →
    a' ≡ a → b' ≡ b → c' % 16 ≡ c % 16 → SameLower (a + 256 * b + 65536 * c + 16777216 * d) (a' + 256 * b' + 65536 * c' + 16777216 * d')
lower_fields a b c d a' b' c' d' ha hb hc hd ha' hb' hc' hd' ea eb ec = record { opcode = omega arith; rd = omega arith; funct3 = omega arith; rs1 = omega arith }

same_branch : (old new : List ℕ) → AreBytes old → AreBytes new → SameOutside (marks_of B12) old new → SameBranch (word_at old) (word_at new)
same_branch old new b c s =
    branch_fields (slice_index old 0) (slice_index old 1) (slice_index old 2) (slice_index old 3) (slice_index new 0) (slice_index new 1) (slice_index new 2) (slice_index new 3)
    b.first b.second b.third b.fourth c.first c.second c.third c.fourth
    (same_seven _ _ s.0) (same_high _ _ s.1.0) (same_byte _ _ c.third b.third s.1.1.0) (same_one _ _ s.1.1.1.0)

same_upper : (old new : List ℕ) → AreBytes old → AreBytes new → SameOutside (marks_of Jal20) old new → SameUpper (word_at old) (word_at new)
same_upper old new b c s =
    upper_fields (slice_index old 0) (slice_index old 1) (slice_index old 2) (slice_index old 3) (slice_index new 0) (slice_index new 1) (slice_index new 2) (slice_index new 3)
    b.first b.second b.third b.fourth c.first c.second c.third c.fourth
    (same_byte _ _ c.first b.first s.0) (same_low _ _ s.1.0)

same_lower : (old new : List ℕ) → AreBytes old → AreBytes new → SameOutside (marks_of PCRelLo12I) old new → SameLower (word_at old) (word_at new)
same_lower old new b c s =
    lower_fields (slice_index old 0) (slice_index old 1) (slice_index old 2) (slice_index old 3) (slice_index new 0) (slice_index new 1) (slice_index new 2) (slice_index new 3)
    b.first b.second b.third b.fourth c.first c.second c.third c.fourth
    (same_byte _ _ c.first b.first s.0) (same_byte _ _ c.second b.second s.1.0) (same_low _ _ s.1.1.0)

-- ---- operations by their opcode

word_branch : (flags : IsaFlags) (w : ℕ) → word_opcode w ≡ BRANCH → decode flags w ≡ decode_branch w
word_branch flags w e = decode_alone flags w BRANCH e refl (none_fused BRANCH w refl)

word_jal : (flags : IsaFlags) (w : ℕ) → word_opcode w ≡ JAL → decode flags w ≡ Some (j_layout w (Base Jal))
word_jal flags w e = opcode_decodes flags w JAL e refl refl

word_auipc : (flags : IsaFlags) (w : ℕ) → word_opcode w ≡ AUIPC → decode flags w ≡ Some (u_layout w (Base Auipc))
word_auipc flags w e = opcode_decodes flags w AUIPC e refl refl

word_jalr : (flags : IsaFlags) (w : ℕ) → word_opcode w ≡ JALR → decode flags w ≡ decode_jalr w
word_jalr flags w e = decode_alone flags w JALR e refl (none_fused JALR w refl)

word_addi : (flags : IsaFlags) (w : ℕ) → word_opcode w ≡ OP_IMM → word_funct3 w ≡ 0 → decode flags w ≡ Some (i_layout w (Alu (Int Addi)))
word_addi flags w e z = opcode_decodes flags w OP_IMM e refl (rw z)

map_map : {A B C : Type 0} (g : B → C) (f : A → B) (h : A → C) → ((x : A) → h x ≡ g (f x)) → (o : Option A) → option_map h o ≡ option_map g (option_map f o)
map_map g f h e None = refl
map_map g f h e (Some x) = ap Some (e x)

branch_layout : (op : MOp) (f g : ℕ) (d : ℤ) → SameBranch f g → b_imm g ≡ d → b_layout g op ≡ with_immediate d (b_layout f op)
branch_layout op f g d s n = λ i. decoded op 0 (s.rs1 i) (s.rs2 i) (n i)

jump_layout : (op : MOp) (f g : ℕ) (d : ℤ) → SameUpper f g → j_imm g ≡ d → j_layout g op ≡ with_immediate d (j_layout f op)
jump_layout op f g d s n = λ i. decoded op (s.rd i) 0 0 (n i)

upper_layout : (op : MOp) (f g : ℕ) (d : ℤ) → SameUpper f g → u_imm g ≡ d → u_layout g op ≡ with_immediate d (u_layout f op)
upper_layout op f g d s n = λ i. decoded op (s.rd i) 0 0 (n i)

lower_layout : (op : MOp) (f g : ℕ) (d : ℤ) → SameLower f g → i_imm g ≡ d → i_layout g op ≡ with_immediate d (i_layout f op)
lower_layout op f g d s n = λ i. decoded op (s.rd i) (s.rs1 i) 0 (n i)

branch_word : (flags : IsaFlags) (f g : ℕ) (d : ℤ) → SameBranch f g → word_opcode f ≡ BRANCH → b_imm g ≡ d → decode flags g ≡ option_map (with_immediate d) (decode flags f)
branch_word flags f g d s e n =
    word_branch flags g (s.opcode ∙ e) ∙ ap (option_map (λ op. b_layout g (Base op))) (ap branch_entry s.funct3)
    ∙ map_map (with_immediate d) (λ op. b_layout f (Base op)) (λ op. b_layout g (Base op)) (λ op. branch_layout (Base op) f g d s n) (branch_entry (word_funct3 f))
    ∙ ap (option_map (with_immediate d)) (sym (word_branch flags f e))

jump_word : (flags : IsaFlags) (f g : ℕ) (d : ℤ) → SameUpper f g → word_opcode f ≡ JAL → j_imm g ≡ d → decode flags g ≡ option_map (with_immediate d) (decode flags f)
jump_word flags f g d s e n = word_jal flags g (s.opcode ∙ e) ∙ ap Some (jump_layout (Base Jal) f g d s n) ∙ ap (option_map (with_immediate d)) (sym (word_jal flags f e))

upper_word : (flags : IsaFlags) (f g : ℕ) (d : ℤ) → SameUpper f g → word_opcode f ≡ AUIPC → u_imm g ≡ d → decode flags g ≡ option_map (with_immediate d) (decode flags f)
upper_word flags f g d s e n = word_auipc flags g (s.opcode ∙ e) ∙ ap Some (upper_layout (Base Auipc) f g d s n) ∙ ap (option_map (with_immediate d)) (sym (word_auipc flags f e))

jalr_word : (f g : ℕ) (d : ℤ) → SameLower f g → i_imm g ≡ d → decode_jalr g ≡ option_map (with_immediate d) (decode_jalr f)
jalr_word f g d s n = ap (λ k. if k == 0 then Some (i_layout g (Base Jalr)) else None) s.funct3 ∙ on (word_funct3 f == 0)
  where
    on : (b : Bool) → (if b then Some (i_layout g (Base Jalr)) else None) ≡ option_map (with_immediate d) (if b then Some (i_layout f (Base Jalr)) else None)
    on true = ap Some (lower_layout (Base Jalr) f g d s n)
    on false = refl

lower_word : (flags : IsaFlags) (f g : ℕ) (d : ℤ) → SameLower f g → TakesLowerPart f → i_imm g ≡ d → decode flags g ≡ option_map (with_immediate d) (decode flags f)
lower_word flags f g d s (inl e) n = word_jalr flags g (s.opcode ∙ e) ∙ jalr_word f g d s n ∙ ap (option_map (with_immediate d)) (sym (word_jalr flags f e))
lower_word flags f g d s (inr e) n =
    word_addi flags g (s.opcode ∙ e.0) (s.funct3 ∙ e.1) ∙ ap Some (lower_layout (Alu (Int Addi)) f g d s n) ∙ ap (option_map (with_immediate d)) (sym (word_addi flags f e.0 e.1))

-- ---- the bridges

pub decode-patched_branch : (flags : IsaFlags) (old new : List ℕ) (d : ℤ) → AreBytes old → AreBytes new → SameOutside (marks_of B12) old new → word_opcode (word_at old) ≡ BRANCH → Aims B12 new d →
    decode flags (word_at new) ≡ option_map (with_immediate d) (decode flags (word_at old))
decode-patched_branch flags old new d b c s e n = branch_word flags (word_at old) (word_at new) d (same_branch old new b c s) e n

pub decode-patched_jump : (flags : IsaFlags) (old new : List ℕ) (d : ℤ) → AreBytes old → AreBytes new → SameOutside (marks_of Jal20) old new → word_opcode (word_at old) ≡ JAL → Aims Jal20 new d →
    decode flags (word_at new) ≡ option_map (with_immediate d) (decode flags (word_at old))
decode-patched_jump flags old new d b c s e n = jump_word flags (word_at old) (word_at new) d (same_upper old new b c s) e n

-- the halves of a pair's window
at_four : (s : List ℕ) (i : ℕ) → slice_index (drop 4 s) i ≡ slice_index s (4 + i)
at_four s i = get_or-drop 4 s i 0

first_half : (old new : List ℕ) → SameOutside (marks_of PCRel32) old new → SameOutside (marks_of Jal20) old new
first_half old new s = (s.0, (s.1.0, (s.1.1.0, (s.1.1.1.0, tt))))

second_half : (old new : List ℕ) → SameOutside (marks_of PCRel32) old new → SameOutside (marks_of PCRelLo12I) (drop 4 old) (drop 4 new)
second_half old new s = (at 255 0 s.1.1.1.1.0, (at 255 1 s.1.1.1.1.1.0, (at 15 2 s.1.1.1.1.1.1.0, (at 0 3 s.1.1.1.1.1.1.1.0, tt))))
  where
    at : (m i : ℕ) → bit_and (slice_index new (4 + i)) m ≡ bit_and (slice_index old (4 + i)) m → bit_and (slice_index (drop 4 new) i) m ≡ bit_and (slice_index (drop 4 old) i) m
    at m i e = ap (λ (x : ℕ). bit_and x m) (at_four new i) ∙ e ∙ sym (ap (λ (x : ℕ). bit_and x m) (at_four old i))

pub decode-patched_pair : (flags : IsaFlags) (old new : List ℕ) (d : ℤ) → AreBytes old → AreBytes new → AreBytes (drop 4 old) → AreBytes (drop 4 new) → SameOutside (marks_of PCRel32) old new → word_opcode (word_at old) ≡ AUIPC → TakesLowerPart (word_at (drop 4 old)) → Aims PCRel32 new d →
    PairDecodes flags old new d
decode-patched_pair flags old new d b c b' c' s e a n = record {
  upper = u_imm (word_at new);
  lower = i_imm (word_at (drop 4 new));
  upper_is = refl;
  lower_is = refl;
  first = upper_word flags (word_at old) (word_at new) _ (same_upper old new b c (first_half old new s)) e refl;
  second = lower_word flags (word_at (drop 4 old)) (word_at (drop 4 new)) _ (same_lower (drop 4 old) (drop 4 new) b' c' (second_half old new s)) a refl;
  sum = n;
}

-- ---- a jump of sixteen bits

same_two : (x y : ℕ) → bit_and x 3 ≡ bit_and y 3 → x % 4 ≡ y % 4
same_two x y e = sym (and_mask x 2) ∙ e ∙ and_mask y 2

same_three : (x y : ℕ) → bit_and x 224 ≡ bit_and y 224 → x / 32 % 8 ≡ y / 32 % 8
same_three x y e = let f : (x / 32 % 8) * 32 ≡ (y / 32 % 8) * 32 = sym (and_high x 3 5) ∙ e ∙ and_high y 3 5 in omega (arith, f)

half_jump : (flags : IsaFlags) (half : ℕ) → flags.has_zca ≡ true → half_op half ≡ 1 → half_funct3 half ≡ 5 → decode_half flags half ≡ Some (compressed (Base Jal) 0 0 0 (cj_imm half))
unfolding decode_half int_decode_half
half_jump flags half zca op funct3 = rw (zca, op, funct3) refl

-- the bytes of c.j by 0, with a distance patched in
pub decode-patched_compressed_jump : (flags : IsaFlags) (new : List ℕ) (d : ℤ) → flags.has_zca ≡ true → AreTwoBytes new → SameOutside (marks_of RVCJump) (0x01 ∷ 0xa0 ∷ []) new → Aims RVCJump new d →
    HalfJumps flags (half_at new) d
decode-patched_compressed_jump flags new d zca b s n =
    let low : slice_index new 0 % 4 ≡ 1 = same_two (slice_index new 0) 1 s.0 in
    let high : slice_index new 1 / 32 % 8 ≡ 5 = same_three (slice_index new 1) 160 s.1.0 in
    let op : half_op (half_at new) ≡ 1 = omega (arith, low, b.first) in
    let funct3 : half_funct3 (half_at new) ≡ 5 = omega (arith, high, b.first, b.second) in
    let narrow : half_at new % 4 ≡ 1 = omega (arith, low) in
    record {
      decodes = half_jump flags (half_at new) zca op funct3 ∙ ap (λ z. Some (compressed (Base Jal) 0 0 0 z)) n;
      narrow = ap (λ k. nat_eq k 3) narrow;
      fits = omega (arith, b.first, b.second);
    }
