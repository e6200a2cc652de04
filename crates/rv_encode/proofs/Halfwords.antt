-- Halfwords with the fields of a compressed operation are decoded as it, under the flags that it needs.
use Rattle.std.proofs.Common.{◌≡◌, ◌≢◌, ℕ, ◌+◌, ◌*◌, ◌/◌, ◌%◌, ◌^◌, ◌<◌, ◌==◌, ◌&&◌, if◌then◌else◌, Bool, true, false, pos, ◌*ℤ◌, Option, Some, None, refl, ap, ◌∙◌, arith}
use Rattle.std.proofs.lemmas.Bool.Decides.{nat_tests}
use Rattle.std.proofs.lemmas.Int.{ints}
use Rattle.rv_base.specs.declared.flags.IsaFlags.{IsaFlags}
use Rattle.rv_imms.specs.declared.imm6.Imm6.{Imm6}
use Rattle.rv_imms.specs.declared.imm12.Imm12.{Imm12}
use Rattle.rv_imms.specs.Bits.{low_bits}
use Rattle.rv_machine.specs.declared.decoding.Decoded.{Decoded}
use Rattle.rv_machine.specs.declared.ops.MOp.TheVariants.{Base, Alu}
use Rattle.rv_machine.specs.declared.ops.BaseOp.TheVariants.{Jal}
use Rattle.rv_machine.specs.declared.ops.AluOp.TheVariants.{Int}
use Rattle.rv_machine.specs.declared.ops.IntOp.TheVariants.{Addi}
use Rattle.rv_machine.specs.State.{signed}
use Rattle.rv_machine.specs.Layout.{bits, compressed, or_else}
use Rattle.rv_machine.specs.Compressed.{half_op, half_funct3, ci_bits, ci_imm, cj_bits, cj_imm, addi16sp_bits, addi16sp_imm, decode_zcb_unary, int_decode_half, unit_decode_half, decode_half, by_quadrant, unit_by_quadrant, quadrant_0, quadrant_1, quadrant_2}
use Rattle.rv_machine.proofs.DecodeLaws.{decode_integer_half}
use Rattle.rv_ops.specs.declared.compressed.CrOp.{CrOp}
use Rattle.rv_ops.specs.declared.compressed.CrOp.TheVariants as cr
use Rattle.rv_ops.specs.declared.compressed.CaOp.{CaOp}
use Rattle.rv_ops.specs.declared.compressed.CaOp.TheVariants as ca
use Rattle.rv_ops.specs.declared.compressed.CjOp.{CjOp}
use Rattle.rv_ops.specs.declared.compressed.CjOp.TheVariants as cj
use Rattle.rv_ops.specs.declared.compressed.CiOp.{CiOp}
use Rattle.rv_ops.specs.declared.compressed.CiOp.TheVariants as ci
use Rattle.rv_ops.specs.declared.compressed.CiwOp.{CiwOp}
use Rattle.rv_ops.specs.declared.compressed.CiwOp.TheVariants as ciw
use Rattle.rv_ops.specs.declared.compressed.CbOp.{CbOp}
use Rattle.rv_ops.specs.declared.compressed.CbOp.TheVariants as cb
use Rattle.rv_ops.specs.declared.compressed.CsznOp.{CsznOp}
use Rattle.rv_ops.specs.declared.compressed.CsznOp.TheVariants as cszn
use Rattle.rv_ops.specs.Compressed.{space_bits, cr_numbers, ca_numbers, cj_numbers, ci_numbers, ciw_numbers, cb_numbers, cszn_numbers}
use Rattle.rv_encode.specs.Layouts.{IsCrType, IsCaType, IsCjType, IsCiType, IsCiwType, IsCbType, IsCuType, cj_low_of, cj_high_of}
use Rattle.rv_encode.specs.Compressed.{DecodesCr, DecodesCr2, ca_op, ca_needs, DecodesCi, decoded_cb, decoded_cszn, cszn_needs}
use Rattle.rv_encode.proofs.Numbers.{signed-low_bits, low_bits_nonzero, signed_sixteens}

-- ---- tests

pub nonzero : (n : ℕ) → 0 < n → (n == 0) ≡ false
nonzero n h = grind (arith, nat_tests)

unequal : (n m : ℕ) → n ≢ m → (n == m) ≡ false
unequal n m h = grind (arith, nat_tests)

pub both : (a b : Bool) → (a && b) ≡ true → (a ≡ true) × (b ≡ true)
both true true h = (refl, refl)
both true false h = absurd (cc)
both false b h = absurd (cc)

-- ---- the quadrant

abbrev in_quadrant : IsaFlags → ℕ → Bool → ℕ → Option Decoded
in_quadrant flags half zca op =
    if zca then
    if op == 0 then quadrant_0 flags half else
    if op == 1 then quadrant_1 flags half else
    if op == 2 then quadrant_2 half else
    None else
    None

pub quadrant_decodes : {d : Decoded} (flags : IsaFlags) (half op : ℕ) → flags.has_zca ≡ true → half_op half ≡ op → in_quadrant flags half true op ≡ Some d → decode_half flags half ≡ Some d
unfolding int_decode_half
quadrant_decodes flags half op zca h is = decode_integer_half flags half ((λ i. in_quadrant flags half (zca i) (h i)) ∙ is)

-- where no floating-point load or store is
pub quadrant_is : (flags : IsaFlags) (half op : ℕ) → half_op half ≡ op → unit_by_quadrant half ≡ None → decode_half flags half ≡ in_quadrant flags half flags.has_zca op
unfolding decode_half int_decode_half unit_decode_half
quadrant_is flags half op h none =
    (λ i. or_else (in_quadrant flags half flags.has_zca (h i)) (if flags.has_zca && flags.has_zcd then none i else None))
    ∙ alone (flags.has_zca && flags.has_zcd) (in_quadrant flags half flags.has_zca op)
  where
    alone : (c : Bool) (o : Option Decoded) → or_else o (if c then None else None) ≡ o
    alone c (Some d) = refl
    alone true None = refl
    alone false None = refl

-- none of quadrant 1 is
quadrant_1_is : (flags : IsaFlags) (half : ℕ) → half_op half ≡ 1 → decode_half flags half ≡ in_quadrant flags half flags.has_zca 1
quadrant_1_is flags half h = quadrant_is flags half 1 h (rw h)

-- ---- without a flag that it needs, a halfword has no operation

pub without_zca : (flags : IsaFlags) (half : ℕ) → flags.has_zca ≡ false → decode_half flags half ≡ None
unfolding decode_half int_decode_half unit_decode_half
without_zca flags half off = λ i. or_else (if off i then by_quadrant flags half else None) (if off i && flags.has_zcd then unit_by_quadrant half else None)

pub two_guards : (a b : Bool) (o : Option Decoded) → (a && b) ≡ false → (if a then (if b then o else None) else None) ≡ None
two_guards true true o off = absurd (cc)
two_guards true false o off = refl
two_guards false b o off = refl

three_guards : (a b c : Bool) (o : Option Decoded) → (a && b && c) ≡ false → (if a then (if b then (if c then o else None) else None) else None) ≡ None
three_guards true b c o off = two_guards b c o off
three_guards false b c o off = refl

-- two of them in one test
joined_guards : (a b c : Bool) (o : Option Decoded) → (a && b && c) ≡ false → (if a then (if b && c then o else None) else None) ≡ None
joined_guards true true true o off = absurd (cc)
joined_guards true true false o off = refl
joined_guards true false c o off = refl
joined_guards false b c o off = refl

-- ---- CR

-- funct4 is funct3 and bit 12
record Funct4 (half funct3 bit12 : ℕ) : Type 0 where
  funct3_is : half_funct3 half ≡ funct3
  bit12_is : bits half 12 12 ≡ bit12

funct4_of : (half funct4 : ℕ) → bits half 15 12 ≡ funct4 → Funct4 half (funct4 / 2) (funct4 % 2)
funct4_of half funct4 h = record { funct3_is = omega (arith, h); bit12_is = omega (arith, h) }

pub cr_decodes : (flags : IsaFlags) (op : CrOp) (half rs2 rd : ℕ) → flags.has_zca ≡ true → IsCrType half (space_bits (cr_numbers op).space) rs2 rd (cr_numbers op).funct4 → DecodesCr op rd rs2 (decode_half flags half)
cr_decodes flags cr.CJr half rs2 rd zca h = tt
cr_decodes flags cr.CMv half rs2 rd zca h =
    λ some. let f = funct4_of half _ h.funct4_is in quadrant_decodes flags half _ zca h.op_is (rw (f.funct3_is, f.bit12_is, h.rs2_is, h.rd_is, nonzero rs2 some))
cr_decodes flags cr.CEbreak half rs2 rd zca h =
    λ x0 none. let f = funct4_of half _ h.funct4_is in quadrant_decodes flags half _ zca h.op_is (rw (f.funct3_is, f.bit12_is, h.rs2_is, h.rd_is, x0, none))
cr_decodes flags cr.CJalr half rs2 rd zca h = tt
cr_decodes flags cr.CAdd half rs2 rd zca h =
    λ some. let f = funct4_of half _ h.funct4_is in quadrant_decodes flags half _ zca h.op_is (rw (f.funct3_is, f.bit12_is, h.rs2_is, h.rd_is, nonzero rs2 some))

pub cr2_decodes : (flags : IsaFlags) (op : CrOp) (half rs1 : ℕ) → flags.has_zca ≡ true → IsCrType half (space_bits (cr_numbers op).space) 0 rs1 (cr_numbers op).funct4 → DecodesCr2 op rs1 (decode_half flags half)
cr2_decodes flags cr.CJr half rs1 zca h =
    λ some. let f = funct4_of half _ h.funct4_is in quadrant_decodes flags half _ zca h.op_is (rw (f.funct3_is, f.bit12_is, h.rs2_is, h.rd_is, nonzero rs1 some))
cr2_decodes flags cr.CMv half rs1 zca h = tt
cr2_decodes flags cr.CEbreak half rs1 zca h = tt
cr2_decodes flags cr.CJalr half rs1 zca h =
    λ some. let f = funct4_of half _ h.funct4_is in quadrant_decodes flags half _ zca h.op_is (rw (f.funct3_is, f.bit12_is, h.rs2_is, h.rd_is, nonzero rs1 some))
cr2_decodes flags cr.CAdd half rs1 zca h = tt

-- ---- CA

-- funct6 is funct3, bit 12 and bits 11 and 10
record Funct6 (half funct3 bit12 bits11 : ℕ) : Type 0 where
  funct3_is : half_funct3 half ≡ funct3
  bit12_is : bits half 12 12 ≡ bit12
  bits11_is : bits half 11 10 ≡ bits11

funct6_of : (half funct6 : ℕ) → bits half 15 10 ≡ funct6 → Funct6 half (funct6 / 8) (funct6 / 4 % 2) (funct6 % 4)
funct6_of half funct6 h = record { funct3_is = omega (arith, h); bit12_is = omega (arith, h); bits11_is = omega (arith, h) }

pub ca_decodes : (flags : IsaFlags) (op : CaOp) (half rs2 rd : ℕ) → ca_needs flags op ≡ true → IsCaType half (space_bits (ca_numbers op).space) rs2 (ca_numbers op).funct2 rd (ca_numbers op).funct6 → decode_half flags half ≡ Some (compressed (Alu (ca_op op)) (8 + rd) (8 + rd) (8 + rs2) (pos 0))
ca_decodes flags ca.CMul half rs2 rd needs h =
    let f = funct6_of half _ h.funct6_is in
    let (further, m) = both (flags.has_zca && flags.has_zcb) flags.has_m needs in
    let (zca, zcb) = both flags.has_zca flags.has_zcb further in
    quadrant_decodes flags half _ zca h.op_is (rw (f.funct3_is, f.bits11_is, f.bit12_is, h.funct2_is, zcb, m, h.rd_is, h.rs2_is))
ca_decodes flags _ half rs2 rd needs h = let f = funct6_of half _ h.funct6_is in quadrant_decodes flags half _ needs h.op_is (rw (f.funct3_is, f.bits11_is, f.bit12_is, h.funct2_is, h.rd_is, h.rs2_is))

pub ca_without : (flags : IsaFlags) (op : CaOp) (half rs2 rd : ℕ) → ca_needs flags op ≡ false → IsCaType half (space_bits (ca_numbers op).space) rs2 (ca_numbers op).funct2 rd (ca_numbers op).funct6 → decode_half flags half ≡ None
ca_without flags ca.CMul half rs2 rd off h =
    let f = funct6_of half _ h.funct6_is in
    quadrant_1_is flags half h.op_is ∙ rw (f.funct3_is, f.bits11_is, f.bit12_is, h.funct2_is) (joined_guards flags.has_zca flags.has_zcb flags.has_m _ off)
ca_without flags _ half rs2 rd off h = without_zca flags half off

-- ---- CI

ci_imm_is : (half : ℕ) (imm : Imm6) → ci_bits half ≡ low_bits (2 ^ 6) imm.value → ci_imm half ≡ imm.value
ci_imm_is half imm h = ap (signed (2 ^ 5)) h ∙ signed-low_bits (2 ^ 5) imm.value (omega (arith, ints)) (omega (arith, ints))

pub ci_decodes : (flags : IsaFlags) (op : CiOp) (half rd : ℕ) (imm : Imm6) → flags.has_zca ≡ true → IsCiType ci_bits half (space_bits (ci_numbers op).space) (low_bits (2 ^ 6) imm.value) rd (ci_numbers op).funct3 → DecodesCi op rd imm.value (decode_half flags half)
ci_decodes flags ci.CAddi half rd imm zca h = quadrant_decodes flags half _ zca h.op_is (rw (h.funct3_is, h.rd_is, ci_imm_is half imm h.imm_is))
ci_decodes flags ci.CAddiw half rd imm zca h = λ some. quadrant_decodes flags half _ zca h.op_is (rw (h.funct3_is, h.rd_is, nonzero rd some, ci_imm_is half imm h.imm_is))
ci_decodes flags ci.CLi half rd imm zca h = quadrant_decodes flags half _ zca h.op_is (rw (h.funct3_is, h.rd_is, ci_imm_is half imm h.imm_is))
ci_decodes flags ci.CAddi16sp half rd imm zca h = tt
ci_decodes flags ci.CLui half rd imm zca h =
    λ other some. quadrant_decodes flags half _ zca h.op_is (rw (h.funct3_is, h.rd_is, unequal rd 2 other, ci_imm_is half imm h.imm_is, h.imm_is, nonzero (low_bits (2 ^ 6) imm.value) (low_bits_nonzero imm some)))
ci_decodes flags ci.CSlli half rd imm zca h = quadrant_decodes flags half _ zca h.op_is (rw (h.funct3_is, h.rd_is, h.imm_is))
ci_decodes flags ci.CLwsp half rd imm zca h = tt
ci_decodes flags ci.CLdsp half rd imm zca h = tt

pub addi16sp_decodes : (flags : IsaFlags) (half : ℕ) (imm : Imm6) → flags.has_zca ≡ true → imm.value ≢ pos 0 → IsCiType addi16sp_bits half 1 (16 * low_bits (2 ^ 6) imm.value) 2 3 → decode_half flags half ≡ Some (compressed (Alu (Int Addi)) 2 2 0 (pos 16 *ℤ imm.value))
addi16sp_decodes flags half imm zca some h =
    let held = h.imm_is in
    let more = low_bits_nonzero imm some in
    let field : 0 < ci_bits half = omega (arith, held, more) in
    let value : addi16sp_imm half ≡ pos 16 *ℤ imm.value = ap (signed (2 ^ 9)) held ∙ signed_sixteens imm in
    quadrant_decodes flags half _ zca h.op_is (rw (h.funct3_is, h.rd_is, nonzero (ci_bits half) field, value))

-- ---- CJ

-- the pieces of a part of its immediate
record LowPieces (half a b c d : ℕ) : Type 0 where
  bit2_is : bits half 2 2 ≡ a
  bits3_is : bits half 5 3 ≡ b
  bit6_is : bits half 6 6 ≡ c
  bit7_is : bits half 7 7 ≡ d

low_pieces : (half a b c d : ℕ) → a < 2 → b < 8 → c < 2 → d < 2 → bits half 7 2 ≡ a + b * 2 + c * 2 ^ 4 + d * 2 ^ 5 → LowPieces half a b c d
low_pieces half a b c d a< b< c< d< h = record { bit2_is = omega (arith, h); bits3_is = omega (arith, h); bit6_is = omega (arith, h); bit7_is = omega (arith, h) }

record HighPieces (half a b c d : ℕ) : Type 0 where
  bit8_is : bits half 8 8 ≡ a
  bits9_is : bits half 10 9 ≡ b
  bit11_is : bits half 11 11 ≡ c
  bit12_is : bits half 12 12 ≡ d

high_pieces : (half a b c d : ℕ) → a < 2 → b < 4 → c < 2 → d < 2 → bits half 12 8 ≡ a + b * 2 + c * 2 ^ 3 + d * 2 ^ 4 → HighPieces half a b c d
high_pieces half a b c d a< b< c< d< h = record { bit8_is = omega (arith, h); bits9_is = omega (arith, h); bit11_is = omega (arith, h); bit12_is = omega (arith, h) }

-- they are all bits of the distance but the lowest
pieces_sum : (n : ℕ) → n / 2 ^ 11 * 2 ^ 11 + n / 2 ^ 10 % 2 * 2 ^ 10 + n / 2 ^ 8 % 2 ^ 2 * 2 ^ 8 + n / 2 ^ 7 % 2 * 2 ^ 7 + n / 2 ^ 6 % 2 * 2 ^ 6 + n / 2 ^ 5 % 2 * 2 ^ 5 + n / 2 ^ 4 % 2 * 2 ^ 4 + n / 2 % 2 ^ 3 * 2 ≡ n / 2 * 2
pieces_sum n = omega arith

pub cj_bits_are : (half n : ℕ) → n < 2 ^ 12 → bits half 7 2 ≡ cj_low_of n → bits half 12 8 ≡ cj_high_of n → cj_bits half ≡ n / 2 * 2
cj_bits_are half n small low high =
    let l = low_pieces half (n / 2 ^ 5 % 2) (n / 2 % 2 ^ 3) (n / 2 ^ 7 % 2) (n / 2 ^ 6 % 2) (omega arith) (omega arith) (omega arith) (omega arith) low in
    let h = high_pieces half (n / 2 ^ 10 % 2) (n / 2 ^ 8 % 2 ^ 2) (n / 2 ^ 4 % 2) (n / 2 ^ 11) (omega arith) (omega arith) (omega arith) (omega arith) high in
    rw (h.bit12_is, h.bit8_is, h.bits9_is, l.bit6_is, l.bit7_is, l.bit2_is, h.bit11_is, l.bits3_is) (pieces_sum n)

pub cj_decodes : (flags : IsaFlags) (op : CjOp) (half : ℕ) (imm : Imm12) → flags.has_zca ≡ true → IsCjType half (space_bits (cj_numbers op).space) (low_bits (2 ^ 12) imm.value) (cj_numbers op).funct3 → decode_half flags half ≡ Some (compressed (Base Jal) 0 0 0 imm.value)
cj_decodes flags cj.CJ half imm zca h =
    let value : cj_imm half ≡ imm.value = ap (signed (2 ^ 11)) h.imm_is ∙ signed-low_bits (2 ^ 11) imm.value (omega (arith, ints)) (omega (arith, ints)) in
    quadrant_decodes flags half _ zca h.op_is (rw (h.funct3_is, value))

-- ---- CIW

pub ciw_decodes : (flags : IsaFlags) (op : CiwOp) (half rd imm : ℕ) → flags.has_zca ≡ true → 0 < imm → IsCiwType half (space_bits (ciw_numbers op).space) rd (4 * imm) (ciw_numbers op).funct3 → decode_half flags half ≡ Some (compressed (Alu (Int Addi)) (8 + rd) 2 0 (pos (4 * imm)))
ciw_decodes flags ciw.CAddi4spn half rd imm zca some h = quadrant_decodes flags half _ zca h.op_is (rw (h.funct3_is, h.rd_is, h.imm_is, nonzero (4 * imm) (omega arith)))

-- ---- CB

pub cb_decodes : (flags : IsaFlags) (op : CbOp) (half rd : ℕ) (imm : Imm6) → flags.has_zca ≡ true → IsCbType half (space_bits (cb_numbers op).space) (low_bits (2 ^ 6) imm.value) rd (cb_numbers op).funct2 (cb_numbers op).funct3 → decode_half flags half ≡ Some (decoded_cb op (8 + rd) imm.value)
cb_decodes flags cb.CSrli half rd imm zca h = quadrant_decodes flags half _ zca h.op_is (rw (h.funct3_is, h.funct2_is, h.rd_is, h.imm_is))
cb_decodes flags cb.CSrai half rd imm zca h = quadrant_decodes flags half _ zca h.op_is (rw (h.funct3_is, h.funct2_is, h.rd_is, h.imm_is))
cb_decodes flags cb.CAndi half rd imm zca h = quadrant_decodes flags half _ zca h.op_is (rw (h.funct3_is, h.funct2_is, h.rd_is, ci_imm_is half imm h.imm_is))

-- ---- Zcb, of one register

-- funct5 is bits 6 and 5, which are 11, and 4 to 2
low_of : (half funct5 : ℕ) → bits half 6 2 ≡ funct5 → bits half 4 2 ≡ funct5 % 8
low_of half funct5 h = omega (arith, h)

cu_decodes : {d : Decoded} (flags : IsaFlags) (half funct5 rd : ℕ) → (flags.has_zca && flags.has_zcb) ≡ true → IsCuType half 1 funct5 rd 0b100111 → funct5 / 8 ≡ 3 → decode_zcb_unary flags half ≡ Some d → decode_half flags half ≡ Some d
cu_decodes flags half funct5 rd needs h among unary =
    let f = funct6_of half _ h.funct6_is in
    let is = h.funct5_is in
    let high : bits half 6 5 ≡ 3 = omega (arith, is, among) in
    let (zca, zcb) = both flags.has_zca flags.has_zcb needs in
    quadrant_decodes flags half _ zca h.op_is (rw (f.funct3_is, f.bits11_is, f.bit12_is, high, zcb) unary)

pub cszn_decodes : (flags : IsaFlags) (op : CsznOp) (half rd : ℕ) → cszn_needs flags op ≡ true → IsCuType half (space_bits (cszn_numbers op).space) (cszn_numbers op).funct5 rd (cszn_numbers op).funct6 → decode_half flags half ≡ Some (decoded_cszn op (8 + rd))
cszn_decodes flags cszn.CZextb half rd needs h = cu_decodes flags half _ rd needs h refl (rw (low_of half _ h.funct5_is, h.rd_is))
cszn_decodes flags cszn.CSextb half rd needs h =
    let (zcb, zbb) = both (flags.has_zca && flags.has_zcb) flags.has_zbb needs in
    cu_decodes flags half _ rd zcb h refl (rw (low_of half _ h.funct5_is, zbb, h.rd_is))
cszn_decodes flags cszn.CZexth half rd needs h =
    let (zcb, zbb) = both (flags.has_zca && flags.has_zcb) flags.has_zbb needs in
    cu_decodes flags half _ rd zcb h refl (rw (low_of half _ h.funct5_is, zbb, h.rd_is))
cszn_decodes flags cszn.CSexth half rd needs h =
    let (zcb, zbb) = both (flags.has_zca && flags.has_zcb) flags.has_zbb needs in
    cu_decodes flags half _ rd zcb h refl (rw (low_of half _ h.funct5_is, zbb, h.rd_is))
cszn_decodes flags cszn.CZextw half rd needs h =
    let (zcb, zba) = both (flags.has_zca && flags.has_zcb) flags.has_zba needs in
    cu_decodes flags half _ rd zcb h refl (rw (low_of half _ h.funct5_is, zba, h.rd_is))
cszn_decodes flags cszn.CNot half rd needs h = cu_decodes flags half _ rd needs h refl (rw (low_of half _ h.funct5_is, h.rd_is))

cu_is : (flags : IsaFlags) (half funct5 rd : ℕ) → IsCuType half 1 funct5 rd 0b100111 → funct5 / 8 ≡ 3 → decode_half flags half ≡ (if flags.has_zca then (if flags.has_zcb then decode_zcb_unary flags half else None) else None)
cu_is flags half funct5 rd h among =
    let f = funct6_of half _ h.funct6_is in
    let is = h.funct5_is in
    let high : bits half 6 5 ≡ 3 = omega (arith, is, among) in
    quadrant_1_is flags half h.op_is ∙ rw (f.funct3_is, f.bits11_is, f.bit12_is, high)

pub cszn_without : (flags : IsaFlags) (op : CsznOp) (half rd : ℕ) → cszn_needs flags op ≡ false → IsCuType half (space_bits (cszn_numbers op).space) (cszn_numbers op).funct5 rd (cszn_numbers op).funct6 → decode_half flags half ≡ None
cszn_without flags cszn.CZextb half rd off h = cu_is flags half _ rd h refl ∙ two_guards flags.has_zca flags.has_zcb _ off
cszn_without flags cszn.CSextb half rd off h = cu_is flags half _ rd h refl ∙ rw (low_of half _ h.funct5_is) (three_guards flags.has_zca flags.has_zcb flags.has_zbb _ off)
cszn_without flags cszn.CZexth half rd off h = cu_is flags half _ rd h refl ∙ rw (low_of half _ h.funct5_is) (three_guards flags.has_zca flags.has_zcb flags.has_zbb _ off)
cszn_without flags cszn.CSexth half rd off h = cu_is flags half _ rd h refl ∙ rw (low_of half _ h.funct5_is) (three_guards flags.has_zca flags.has_zcb flags.has_zbb _ off)
cszn_without flags cszn.CZextw half rd off h = cu_is flags half _ rd h refl ∙ rw (low_of half _ h.funct5_is) (three_guards flags.has_zca flags.has_zcb flags.has_zba _ off)
cszn_without flags cszn.CNot half rd off h = cu_is flags half _ rd h refl ∙ two_guards flags.has_zca flags.has_zcb _ off
