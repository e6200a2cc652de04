-- The kinds of use: what a window of each encodes, which bits hold it, how far it reaches, and the veneer.
use Rattle.std.specs.Prelude.{◌≡◌, Option, Some, None, ℕ, ◌+◌, ◌-◌, ◌*◌, ◌^◌, ◌/◌, ◌%◌, List, [], ◌∷◌, drop, ℤ, pos, negsuc, ◌+ℤ◌, ◌*ℤ◌, ◌-ℤ◌, int_le, Bool, true, false, ◌&&◌}
use Rattle.rv_base.specs.LabelUse.{Veneer, Kinds}
use Rattle.rv_base.specs.declared.reloc.Reloc.{Reloc}
use Rattle.rv_base.specs.declared.reloc.Reloc.TheVariants.{RiscvCallPlt, RiscvGotHi20, RiscvPCRelHi20, RiscvPCRelLo12I, Abs8}
use Rattle.rv_machine.specs.Layout.{b_imm, j_imm, u_imm, i_imm, u_bits, i_bits}
use Rattle.rv_machine.specs.Compressed.{cj_imm}
use Rattle.rv_inst.specs.declared.label_use.LabelUse.{LabelUse}
use Rattle.rv_inst.specs.declared.label_use.LabelUse.TheVariants.{Jal20, PCRel32, B12, PCRelHi20, PCRelLo12I, RVCJump}
use Rattle.rv_inst.specs.LabelUseWords.{word_at, half_at}

-- the low 32 bits of a signed number
abbrev pub low32 : ℤ → ℕ
low32 (pos n) = n % 4294967296
low32 (negsuc n) = 4294967295 - n % 4294967296

-- the low twenty bits of (d + 0x800) >> 12
abbrev pub upper_part : ℤ → ℕ
upper_part d = low32 (d +ℤ pos 2048) / 4096

-- the low twelve bits of d + 4
abbrev pub lower_part : ℤ → ℕ
lower_part d = low32 (d +ℤ pos 4) % 4096

-- a window encodes a distance or, for the two kinds that hold one part of it, that part
abbrev pub Aims : LabelUse → List ℕ → ℤ → Type 0
Aims Jal20 window d = j_imm (word_at window) ≡ d
Aims B12 window d = b_imm (word_at window) ≡ d
Aims PCRel32 window d = (u_imm (word_at window) *ℤ pos 4096) +ℤ i_imm (word_at (drop 4 window)) ≡ d
Aims PCRelHi20 window d = u_bits (word_at window) ≡ upper_part d
Aims PCRelLo12I window d = i_bits (word_at window) ≡ lower_part d
Aims RVCJump window d = cj_imm (half_at window) ≡ d

-- the bits of the distance: 31:12 of layouts J and U, 31:25 with 11:7 of B, 31:20 of I, 12:2 of CJ
abbrev pub marks_of : LabelUse → List ℕ
marks_of Jal20 = 0x00 ∷ 0xf0 ∷ 0xff ∷ 0xff ∷ []
marks_of B12 = 0x80 ∷ 0x0f ∷ 0x00 ∷ 0xfe ∷ []
marks_of PCRel32 = 0x00 ∷ 0xf0 ∷ 0xff ∷ 0xff ∷ 0x00 ∷ 0x00 ∷ 0xf0 ∷ 0xff ∷ []
marks_of PCRelHi20 = 0x00 ∷ 0xf0 ∷ 0xff ∷ 0xff ∷ []
marks_of PCRelLo12I = 0x00 ∷ 0x00 ∷ 0xf0 ∷ 0xff ∷ []
marks_of RVCJump = 0xfc ∷ 0x1f ∷ []

-- how far an auipc and the signed twelve bits of the instruction after it reach forward: the largest upper part, and the largest
-- lower one
abbrev pub pair_forward : ℕ
pair_forward = (2 ^ 19 - 1) * 2 ^ 12 + (2 ^ 11 - 1)

-- how far a use reaches forward: by one below the half of what its signed field holds, in steps of two bytes but for a pair's
abbrev pub forward_of : LabelUse → ℕ
forward_of Jal20 = (2 ^ 19 - 1) * 2
forward_of B12 = (2 ^ 11 - 1) * 2
forward_of PCRel32 = pair_forward
forward_of PCRelHi20 = pair_forward
forward_of PCRelLo12I = pair_forward
forward_of RVCJump = (2 ^ 10 - 1) * 2

-- and backward: by the half; the two that hold one part of a distance are taken to reach only two bytes further than forward
abbrev pub backward_of : LabelUse → ℕ
backward_of Jal20 = 2 ^ 19 * 2
backward_of B12 = 2 ^ 11 * 2
backward_of PCRel32 = 2 ^ 19 * 2 ^ 12 + 2 ^ 11
backward_of PCRelHi20 = pair_forward + 2
backward_of PCRelLo12I = pair_forward + 2
backward_of RVCJump = 2 ^ 10 * 2

-- whether a distance is in reach
abbrev pub in_range : LabelUse → ℤ → Bool
in_range kind d = int_le (pos 0 -ℤ pos (backward_of kind)) d && int_le d (pos (forward_of kind))

abbrev pub has_veneer_of : LabelUse → Bool
has_veneer_of Jal20 = true
has_veneer_of B12 = true
has_veneer_of PCRel32 = false
has_veneer_of PCRelHi20 = false
has_veneer_of PCRelLo12I = false
has_veneer_of RVCJump = true

-- auipc x31, 0 and jalr x0, 0(x31)
abbrev pub veneer_of : LabelUse → Veneer LabelUse
veneer_of kind = record { bytes = 0x97 ∷ 0x0f ∷ 0x00 ∷ 0x00 ∷ 0x67 ∷ 0x80 ∷ 0x0f ∷ 0x00 ∷ []; place = 0; kind = PCRel32 }

-- all of these
abbrev pub label_kinds : Kinds LabelUse
label_kinds = record { aims = Aims; fields = marks_of; forward = forward_of; backward = backward_of; has_veneer = has_veneer_of; veneer = veneer_of }

-- the pair of a call is filled as a far use is, whatever its addend
abbrev pub kind_of_reloc : Reloc → ℤ → Option LabelUse
kind_of_reloc RiscvCallPlt addend = Some PCRel32
kind_of_reloc RiscvGotHi20 addend = None
kind_of_reloc RiscvPCRelHi20 addend = None
kind_of_reloc RiscvPCRelLo12I addend = None
kind_of_reloc Abs8 addend = None
