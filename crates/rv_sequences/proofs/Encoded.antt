-- Words, halfwords and windows that encode operations, wherever their bytes stand.
use Rattle.{rv_machine.specs.{Decode.{int_decode, decode}, declared.ops.IntOp.TheVariants.Addi}, rv_sequences.proofs.Terms.{Eq, Auipc, subst, sym, ◌≡◌, ◌≤◌, ℕ, ◌+◌, ◌*◌, ◌/◌, ◌%◌, ◌^◌, ◌<◌, [], ◌∷◌, pos, Some, refl, ap, ◌∙◌, arith, bit_and, lit<, true, false, nat_eq, List, length, slice_index, ℤ}}
use Rattle.rv_sequences.proofs.Terms.{to_le_bytes, w32, ints, and_mask, and_comm, and_high, IsaFlags, Reg, Real, Virtual, IsFresh, SameOutside, number_of, int_by_opcode, word_opcode, compressed, word_funct3, u_bits, i_layout, i_bits, IntegerCompare, BranchFunct3, branch_of, funct3_of, rs1_of}
use Rattle.rv_sequences.proofs.Terms.{rs2_of, branch_word, BRANCH, JAL, AUIPC, OP_IMM, IsUType, IsIType, decoded_branch, decoded, decoded_load, has_load, branch_decodes, opcode_decodes, B12, Jal20, RVCJump, PCRelHi20, PCRelLo12I, marks_of, Aims, word_bytes, word_at, half_at, AreBytes, decoded_jump}
use Rattle.rv_sequences.proofs.Terms.{jump_word, decoded_addi, option_map, Decoded, Base, Alu, Jal, decode_half, half_funct3, decode_low, Memory, byte, wrap, signed, fetch, LabelUse, with_immediate, decode-patched_branch, decode-patched_jump, decode-patched_compressed_jump, same_low, same_byte}
use Rattle.rv_sequences.proofs.Terms.{BytesAt, AllBytes, Encodes, IsPatchable, Int, LoadOP, load_funct3, load_opcode, load_decodes, upper_of_distance, lower_of_distance}

-- ---- the words that an instruction puts, with no distance in them yet

-- a word's bytes, the least first
pub bytes_of_word : (w : ℕ) → w < 2 ^ 32 → to_le_bytes w32 w ≡ word_bytes w
bytes_of_word w h = let e : w / 16777216 % 256 ≡ w / 16777216 = omega arith in ap (λ (b : ℕ). w % 256 ∷ w / 256 % 256 ∷ w / 65536 % 256 ∷ b ∷ []) e

-- the jump with no distance
pub jump_decodes : (flags : IsaFlags) → decode flags jump_word ≡ Some (decoded_jump (pos 0))
unfolding decode int_decode
jump_decodes flags = refl

-- ---- branches

-- a word with nothing at 7, 11:8 and 31:25 is fresh
branch_fresh : (w : ℕ) → w % 4096 ≡ 0x63 → w < 33554432 → IsFresh (marks_of B12) (word_bytes w)
branch_fresh w low high = (omega (arith, and_high (w % 256) 1 7), (omega (arith, and_mask (w / 256 % 256) 4), (and_comm _ 0, (omega (arith, and_high (w / 16777216) 7 1), tt))))

-- a branch's funct3 has three bits
funct3_small : (b : BranchFunct3) → funct3_of b < 8
funct3_small Eq = lit< tt
funct3_small b = lit< tt

number_small : (r : Reg) → number_of r < 32
number_small (Real p) = p.in_file
number_small (Virtual class index) = lit< tt

-- what the word of a branch is
pub record IsBranch (w : ℕ) (kind : IntegerCompare) : Type 0 where
  pub fits : w < 2 ^ 32
  pub decodes : (flags : IsaFlags) → decode flags w ≡ Some (decoded_branch kind (pos 0))
  pub fresh : IsFresh (marks_of B12) (word_bytes w)
  pub opcode : word_opcode w ≡ 0x63

is_branch : (kind : IntegerCompare) (w f r1 r2 : ℕ) → f < 8 → r1 < 32 → r2 < 32 → w ≡ 0x63 + f * 2 ^ 12 + r1 * 2 ^ 15 + r2 * 2 ^ 20 → f ≡ funct3_of (branch_of kind.kind) → r1 ≡ number_of (rs1_of kind) → r2 ≡ number_of (rs2_of kind) → IsBranch w kind
is_branch kind w f r1 r2 hf h1 h2 e ef e1 e2 = record {
  fits = omega arith;
  decodes = λ flags. branch_decodes flags w kind (pos 0) (omega (arith, ints)) (omega (arith, ints)) (record {
    opcode_is = omega arith;
    funct3_is = omega arith;
    rs1_is = omega arith;
    rs2_is = omega arith;
    imm_is = omega arith;
  });
  fresh = branch_fresh w (omega arith) (omega arith);
  opcode = omega arith;
}

pub branch_word_is : (kind : IntegerCompare) (w : ℕ) → w ≡ branch_word kind → IsBranch w kind
branch_word_is kind w e =
    is_branch kind w (funct3_of (branch_of kind.kind)) (number_of (rs1_of kind)) (number_of (rs2_of kind)) (funct3_small (branch_of kind.kind)) (number_small (rs1_of kind)) (number_small (rs2_of kind)) e refl refl refl

-- ---- words and windows

-- one of the bytes that stand somewhere
byte_there : (mem : Memory) (a k place : ℕ) (bytes : List ℕ) → place ≡ a + k → k < length bytes → BytesAt mem a bytes → byte mem place ≡ slice_index bytes k
byte_there mem a k place bytes e lt at = ap (byte mem) e ∙ at.there k lt

-- the word that bytes begin with
pub word_there : (mem : Memory) (a : ℕ) (bytes : List ℕ) → 4 ≤ length bytes → BytesAt mem a bytes → fetch mem a ≡ word_at bytes
word_there mem a bytes long at =
    let room = at.room in
    omega (arith, byte_there mem a 0 a bytes (omega arith) (omega arith) at, byte_there mem a 1 (wrap (a + 1)) bytes (omega arith) (omega arith) at, byte_there mem a 2 (wrap (a + 2)) bytes (omega arith) (omega arith) at, byte_there mem a 3 (wrap (a + 3)) bytes (omega arith) (omega arith) at)

-- four bytes encode the operation that their word decodes to
pub encodes : (flags : IsaFlags) (bytes : List ℕ) (d : Decoded) → length bytes ≡ 4 → decode flags (word_at bytes) ≡ Some d → Encodes flags bytes (d ∷ [])
encodes flags bytes d four e = λ mem a at. (ap (decode flags) (word_there mem a bytes (omega arith) at) ∙ e, tt)

word_back : (w : ℕ) → word_at (word_bytes w) ≡ w
word_back w = omega arith

-- so do a word's own
pub word_encodes : (flags : IsaFlags) (w : ℕ) (d : Decoded) → decode flags w ≡ Some d → Encodes flags (word_bytes w) (d ∷ [])
word_encodes flags w d e = encodes flags (word_bytes w) d refl (ap (decode flags) (word_back w) ∙ e)

are_bytes : (bytes : List ℕ) → length bytes ≡ 4 → AllBytes bytes → AreBytes bytes
are_bytes bytes four all = record { first = all 0 (omega arith); second = all 1 (omega arith); third = all 2 (omega arith); fourth = all 3 (omega arith) }

pub word_fits : (w : ℕ) → w < 2 ^ 32 → AreBytes (word_bytes w)
word_fits w h = record { first = omega arith; second = omega arith; third = omega arith; fourth = omega arith }

-- a word whose window is patched to a distance decodes to the same operation with that immediate
abbrev Bridge : LabelUse → ℕ → Type 0
Bridge kind opcode = (flags : IsaFlags) (old new : List ℕ) (d : ℤ) → AreBytes old → AreBytes new → SameOutside (marks_of kind) old new → word_opcode (word_at old) ≡ opcode → Aims kind new d → decode flags (word_at new) ≡ option_map (with_immediate d) (decode flags (word_at old))

one_word : (kind : LabelUse) (opcode : ℕ) → Bridge kind opcode → (flags : IsaFlags) (w : ℕ) (decoded : Decoded) → length (marks_of kind) ≡ 4 → w < 2 ^ 32 → word_opcode w ≡ opcode → decode flags w ≡ Some decoded →
    (new : List ℕ) (d : ℤ) → length new ≡ length (marks_of kind) → AllBytes new → SameOutside (marks_of kind) (word_bytes w) new → Aims kind new d → Encodes flags new (with_immediate d decoded ∷ [])
one_word kind opcode bridge flags w decoded four fits is e new d long all kept aims =
    let same : length new ≡ 4 = long ∙ four in
    encodes flags new (with_immediate d decoded) same
    (bridge flags (word_bytes w) new d (word_fits w fits) (are_bytes new same all) kept (ap word_opcode (word_back w) ∙ is) aims
    ∙ ap (λ x. option_map (with_immediate d) (decode flags x)) (word_back w) ∙ ap (option_map (with_immediate d)) e)

-- the window of a jump
pub jump_patchable : (flags : IsaFlags) (w : ℕ) → w ≡ jump_word → IsPatchable flags Jal20 (word_bytes w) (λ d. decoded_jump d ∷ [])
jump_patchable flags w is = subst (λ x. IsPatchable flags Jal20 (word_bytes x) (λ d. decoded_jump d ∷ [])) (sym is) (record {
  long = refl;
  fresh = (refl, (refl, (refl, (refl, tt))));
  patched = one_word Jal20 JAL decode-patched_jump flags jump_word (decoded_jump (pos 0)) refl (lit< tt) refl (jump_decodes flags);
})

-- the window of a branch
pub branch_patchable : (flags : IsaFlags) (kind : IntegerCompare) (w : ℕ) → IsBranch w kind → IsPatchable flags B12 (word_bytes w) (λ d. decoded_branch kind d ∷ [])
branch_patchable flags kind w b = record {
  long = refl;
  fresh = b.fresh;
  patched = one_word B12 BRANCH decode-patched_branch flags w (decoded_branch kind (pos 0)) refl b.fits b.opcode (b.decodes flags);
}

-- ---- halfwords

-- the two bytes after a halfword
abbrev pub high_at : Memory → ℕ → ℕ
high_at mem a = byte mem (wrap (a + 2)) + byte mem (wrap (a + 3)) * 2 ^ 8

-- the word that the machine reads where two bytes stand: they are its low half
pub fetch_half : (mem : Memory) (a : ℕ) (bytes : List ℕ) → BytesAt mem a bytes → length bytes ≡ 2 → fetch mem a ≡ half_at bytes + high_at mem a * 2 ^ 16
fetch_half mem a bytes at two =
    let room = at.room in
    omega (arith, byte_there mem a 0 a bytes (omega arith) (omega arith) at, byte_there mem a 1 (wrap (a + 1)) bytes (omega arith) (omega arith) at)

pub low_funct3 : (mem : Memory) (a : ℕ) (bytes : List ℕ) → BytesAt mem a bytes → length bytes ≡ 2 → half_funct3 (fetch mem a) ≡ half_funct3 (half_at bytes)
low_funct3 mem a bytes at two = let word = fetch_half mem a bytes at two in omega (arith, word)

-- two bytes encode the operation that their halfword decodes to
pub half_encodes : (flags : IsaFlags) (bytes : List ℕ) (d : Decoded) → length bytes ≡ 2 → half_at bytes < 2 ^ 16 → nat_eq (half_at bytes % 4) 3 ≡ false → decode_half flags (half_at bytes) ≡ Some d → Encodes flags bytes (d ∷ [])
half_encodes flags bytes d two fits narrow e = λ mem a at. (ap (decode flags) (fetch_half mem a bytes at two) ∙ decode_low flags (half_at bytes) (high_at mem a) fits narrow ∙ e, tt)

-- the window of a c.j
pub half_jump_patchable : (flags : IsaFlags) → flags.has_zca ≡ true → IsPatchable flags RVCJump (0x01 ∷ 0xa0 ∷ []) (λ d. compressed (Base Jal) 0 0 0 d ∷ [])
half_jump_patchable flags on = record {
  long = refl;
  fresh = (refl, (refl, tt));
  patched = λ new d long all kept aims.
      let jumps = decode-patched_compressed_jump flags new d on (record { first = all 0 (omega arith); second = all 1 (omega arith) }) kept aims in
      half_encodes flags new (compressed (Base Jal) 0 0 0 d) long jumps.fits jumps.narrow jumps.decodes;
}

-- ---- bits of bytes

no_high : (x : ℕ) → x / 16 ≡ 0 → bit_and x 0xf0 ≡ 0
no_high x h = let e : bit_and x 240 ≡ (x / 16 % 16) * 16 = and_high x 4 4 in omega (arith, e)

none : (x : ℕ) → x ≡ 0 → bit_and x 0xff ≡ 0
none x h = let e : bit_and x 255 ≡ x % 256 = and_mask x 8 in omega (arith, e)

-- ---- the upper part

pub upper_fresh : (w : ℕ) → w < 4096 → IsFresh (marks_of PCRelHi20) (word_bytes w)
upper_fresh w h = (and_comm (w % 256) 0, (no_high (w / 256 % 256) (omega arith), (none (w / 65536 % 256) (omega arith), (none (w / 16777216) (omega arith), tt))))

-- a word with the same low twelve bits has the same opcode and register
upper_kept : (w rd a b c d : ℕ) → a < 256 → b < 256 → c < 256 → d < 256 → a ≡ w % 256 → b % 16 ≡ w / 256 % 256 % 16 → IsUType w AUIPC rd 0 →
    IsUType (a + 256 * b + 65536 * c + 16777216 * d) AUIPC rd (u_bits (a + 256 * b + 65536 * c + 16777216 * d))
upper_kept w rd a b c d ha hb hc hd ea eb h = let o = h.opcode_is in let r = h.rd_is in record { opcode_is = omega arith; rd_is = omega arith; imm_is = refl }

upper_in : (w rd : ℕ) (new : List ℕ) → IsUType w AUIPC rd 0 → length new ≡ 4 → AllBytes new → SameOutside (marks_of PCRelHi20) (word_bytes w) new → IsUType (word_at new) AUIPC rd (u_bits (word_at new))
upper_in w rd new h four all same =
    let b = are_bytes new four all in
    upper_kept w rd (slice_index new 0) (slice_index new 1) (slice_index new 2) (slice_index new 3) b.first b.second b.third b.fourth (same_byte (slice_index new 0) (w % 256) b.first (omega arith) same.0) (same_low (slice_index new 1) (w / 256 % 256) same.1.0) h

pub upper_patchable : (flags : IsaFlags) (w rd : ℕ) → w < 2 ^ 32 → IsUType w AUIPC rd 0 → IsPatchable flags PCRelHi20 (word_bytes w) (λ d. decoded (Base Auipc) rd 0 0 (upper_of_distance d) ∷ [])
upper_patchable flags w rd fits h = record {
  long = refl;
  fresh = let e = h.imm_is in upper_fresh w (omega arith);
  patched = λ new d long all same aims. let k = upper_in w rd new h long all same in
      encodes flags new _ long (opcode_decodes flags (word_at new) AUIPC k.opcode_is refl (λ i. Some (decoded (Base Auipc) (k.rd_is i) 0 0 (signed (2 ^ 19) (aims i)))));
}

-- ---- the lower part

pub lower_fresh : (w : ℕ) → w < 1048576 → IsFresh (marks_of PCRelLo12I) (word_bytes w)
lower_fresh w h = (and_comm (w % 256) 0, (and_comm (w / 256 % 256) 0, (no_high (w / 65536 % 256) (omega arith), (none (w / 16777216) (omega arith), tt))))

-- a word with the same low twenty bits has the same fields before its immediate
lower_kept : (w opcode rd funct3 rs a b c d : ℕ) → a < 256 → b < 256 → c < 256 → d < 256 → a ≡ w % 256 → b ≡ w / 256 % 256 → c % 16 ≡ w / 65536 % 256 % 16 → IsIType w opcode rd funct3 rs 0 →
    IsIType (a + 256 * b + 65536 * c + 16777216 * d) opcode rd funct3 rs (i_bits (a + 256 * b + 65536 * c + 16777216 * d))
lower_kept w opcode rd funct3 rs a b c d ha hb hc hd ea eb ec h =
    let o = h.opcode_is in let r = h.rd_is in let f = h.funct3_is in let s = h.rs1_is in
    record { opcode_is = omega arith; rd_is = omega arith; funct3_is = omega arith; rs1_is = omega arith; imm_is = refl }

lower_in : (w opcode rd funct3 rs : ℕ) (new : List ℕ) → IsIType w opcode rd funct3 rs 0 → length new ≡ 4 → AllBytes new → SameOutside (marks_of PCRelLo12I) (word_bytes w) new → IsIType (word_at new) opcode rd funct3 rs (i_bits (word_at new))
lower_in w opcode rd funct3 rs new h four all same =
    let b = are_bytes new four all in
    lower_kept w opcode rd funct3 rs (slice_index new 0) (slice_index new 1) (slice_index new 2) (slice_index new 3) b.first b.second b.third b.fourth (same_byte (slice_index new 0) (w % 256) b.first (omega arith) same.0) (same_byte (slice_index new 1) (w / 256 % 256) b.second (omega arith) same.1.0) (same_low (slice_index new 2) (w / 65536 % 256) same.1.1.0) h

addi_decodes : (w : ℕ) → word_funct3 w ≡ 0 → int_by_opcode OP_IMM w ≡ Some (i_layout w (Alu (Int Addi)))
addi_decodes w z = rw z

pub addi_patchable : (flags : IsaFlags) (w rd rs : ℕ) → w < 2 ^ 32 → IsIType w OP_IMM rd 0 rs 0 → IsPatchable flags PCRelLo12I (word_bytes w) (λ d. decoded_addi rd rs (lower_of_distance d) ∷ [])
addi_patchable flags w rd rs fits h = record {
  long = refl;
  fresh = let e = h.imm_is in lower_fresh w (omega arith);
  patched = λ new d long all same aims. let k = lower_in w OP_IMM rd 0 rs new h long all same in
      encodes flags new _ long (opcode_decodes flags (word_at new) OP_IMM k.opcode_is refl (addi_decodes (word_at new) k.funct3_is ∙ (λ i. Some (decoded_addi (k.rd_is i) (k.rs1_is i) (signed (2 ^ 11) (aims i))))));
}

pub load_patchable : (flags : IsaFlags) (op : LoadOP) (w rd rs : ℕ) → has_load flags op ≡ true → w < 2 ^ 32 → IsIType w (load_opcode op) rd (load_funct3 op) rs 0 → IsPatchable flags PCRelLo12I (word_bytes w) (λ d. decoded_load op rd rs (lower_of_distance d) ∷ [])
load_patchable flags op w rd rs has fits h = record {
  long = refl;
  fresh = let e = h.imm_is in lower_fresh w (omega arith);
  patched = λ new d long all same aims.
      encodes flags new _ long (load_decodes flags op (word_at new) rd rs (i_bits (word_at new)) (lower_of_distance d) has (lower_in w (load_opcode op) rd (load_funct3 op) rs new h long all same) (ap (signed (2 ^ 11)) aims));
}
