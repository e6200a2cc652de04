-- Words with the fields of an operation of two registers are decoded as it, whatever the flags: as an integer one, or one of Zbc or Zbkb.
use Rattle.std.proofs.Common.{◌≡◌, ℕ, ◌+◌, ◌*◌, ◌%◌, ◌^◌, ◌<◌, nat_eq, ◌==◌, ◌&&◌, if◌then◌else◌, not, Bool, true, false, ℤ, pos, Option, Some, None, refl, sym, ap, ◌∙◌, arith}
use Rattle.std.specs.Option.{option_map, option_or}
use Rattle.std.proofs.lemmas.Bool.{eqb-true}
use Rattle.std.proofs.lemmas.Bool.Decides.{nat_tests}
use Rattle.rv_base.specs.declared.flags.IsaFlags.{IsaFlags}
use Rattle.rv_ops.specs.declared.alu.AluOPRRR.{AluOPRRR}
use Rattle.rv_ops.specs.declared.alu.AluOPRRR.TheVariants as rrr
use Rattle.rv_ops.specs.Alu.{rrr_numbers}
use Rattle.rv_ops.specs.Operations.{is_exchanged, rrr_row}
use Rattle.rv_machine.specs.declared.decoding.Decoded.{Decoded}
use Rattle.rv_machine.specs.declared.ops.AluOp.TheVariants.{Bit}
use Rattle.rv_machine.specs.declared.ops.BitOp.TheVariants.{ZextH}
use Rattle.rv_machine.specs.declared.ops.CarryOp.TheVariants.{Packw}
use Rattle.rv_machine.specs.declared.ops.MOp.{MOp}
use Rattle.rv_machine.specs.declared.ops.MOp.TheVariants.{Alu, Carry}
use Rattle.rv_machine.specs.Opcodes.{OP, OP_32}
use Rattle.rv_machine.specs.Layout.{word_opcode, word_funct3, word_rs2, word_funct7, word_funct12}
use Rattle.rv_machine.specs.Tables.{op_entry, op_32_entry, unary_op_32_entry}
use Rattle.rv_machine.specs.UnitTables.{carry_entry, carry_32_entry}
use Rattle.rv_machine.specs.UnitDecode.{unit_by_opcode}
use Rattle.rv_machine.specs.Decode.{or_else, int_by_opcode, decode}
use Rattle.rv_encode.specs.Layouts.{IsRType}
use Rattle.rv_encode.specs.Operations.{decoded, decoded_rrr, r_op}
use Rattle.rv_encode.proofs.Decoding.{opcode_decodes}
use Rattle.rv_encode.proofs.FloatDecoding.{unit_decodes}

-- an entry of a table, and of two tables of which the one stands before the other
pub entry : {A : Type 0} (family : A → MOp) (found : Option A) (op : MOp) (rd rs1 rs2 : ℕ) (imm : ℤ) → option_map family found ≡ Some op → option_map (λ a. decoded (family a) rd rs1 rs2 imm) found ≡ Some (decoded op rd rs1 rs2 imm)
entry family (Some a) op rd rs1 rs2 imm is = ap (option_map (λ m. decoded m rd rs1 rs2 imm)) is
entry family None op rd rs1 rs2 imm is = absurd (cc)

entries : {A B : Type 0} (family : A → MOp) (other : B → MOp) (found : Option A) (later : Option B) (op : MOp) (rd rs1 rs2 : ℕ) → option_or (option_map family found) (option_map other later) ≡ Some op →
    or_else (option_map (λ a. decoded (family a) rd rs1 rs2 (pos 0)) found) (option_map (λ b. decoded (other b) rd rs1 rs2 (pos 0)) later) ≡ Some (decoded op rd rs1 rs2 (pos 0))
entries family other (Some a) later op rd rs1 rs2 is = entry family (Some a) op rd rs1 rs2 (pos 0) is
entries family other None later op rd rs1 rs2 is = entry other later op rd rs1 rs2 (pos 0) is

-- a word is decoded as an integer operation, or else as one of a unit
either_decodes : {d : Decoded} (flags : IsaFlags) (w opcode : ℕ) (a b : Option Decoded) → word_opcode w ≡ opcode → nat_eq (opcode % 4) 3 ≡ true → int_by_opcode opcode w ≡ a → unit_by_opcode flags opcode w ≡ b → or_else a b ≡ Some d → decode flags w ≡ Some d
either_decodes flags w opcode (Some x) b this wide ints units is = opcode_decodes flags w opcode this wide (ints ∙ is)
either_decodes flags w opcode None b this wide ints units is = unit_decodes flags w opcode this wide ints (units ∙ is)

or_none : (o : Option Decoded) → or_else o None ≡ o
or_none (Some d) = refl
or_none None = refl

upper_bits : (w : ℕ) → word_funct12 w ≡ word_funct7 w * 2 ^ 5 + word_rs2 w
upper_bits w = omega arith

-- of x0 it is the operation of one source, and of another register it isn't
of_x0 : (w funct7 rs2 : ℕ) → word_funct7 w ≡ funct7 → word_rs2 w ≡ rs2 → (rs2 == 0) ≡ true → word_funct12 w ≡ funct7 * 2 ^ 5
of_x0 w funct7 rs2 upper lower zero =
    let none : rs2 ≡ 0 = eqb-true rs2 0 zero in
    let all = upper_bits w in
    omega (arith, all, upper, lower, none)

of_other : (w funct7 rs2 funct3 : ℕ) → word_funct7 w ≡ funct7 → word_rs2 w ≡ rs2 → (rs2 == 0) ≡ false → unary_op_32_entry (word_funct12 w) funct3 ≡ None
of_other w funct7 rs2 funct3 upper lower other =
    let few : word_rs2 w < 2 ^ 5 = omega arith in
    let all = upper_bits w in
    let some : ¬ (rs2 ≡ 0) = grind (arith, nat_tests) in
    let differs : ¬ (word_funct12 w ≡ 0x080) = omega (arith, all, lower, few, some) in
    let test : (word_funct12 w == 0x080) ≡ false = grind (arith, nat_tests) in
    ap (λ c. if c && (funct3 == 4) then Some (Bit ZextH) else None) test

pub r_decodes : (flags : IsaFlags) (op : MOp) (w opcode rd funct3 rs1 rs2 funct7 : ℕ) → r_op opcode funct3 rs2 funct7 ≡ Some op → IsRType w opcode rd funct3 rs1 rs2 funct7 → decode flags w ≡ Some (decoded op rd rs1 rs2 (pos 0))
r_decodes flags op w opcode rd funct3 rs1 rs2 funct7 is h = on (opcode == OP) refl is
  where
    of_op : opcode ≡ OP → option_or (option_map Alu (op_entry funct7 funct3)) (option_map Carry (carry_entry funct7 funct3)) ≡ Some op → decode flags w ≡ Some (decoded op rd rs1 rs2 (pos 0))
    of_op this is =
        either_decodes flags w OP _ _ (h.opcode_is ∙ this) refl
        (λ i. option_map (λ a. decoded (Alu a) (h.rd_is i) (h.rs1_is i) (h.rs2_is i) (pos 0)) (op_entry (h.funct7_is i) (h.funct3_is i)))
        (λ i. option_map (λ a. decoded (Carry a) (h.rd_is i) (h.rs1_is i) (h.rs2_is i) (pos 0)) (carry_entry (h.funct7_is i) (h.funct3_is i)))
        (entries Alu Carry (op_entry funct7 funct3) (carry_entry funct7 funct3) op rd rs1 rs2 is)

    on_x0 : (b : Bool) → (rs2 == 0) ≡ b → opcode ≡ OP_32 → option_or (option_map Alu (op_32_entry funct7 funct3)) (if b then option_map Alu (unary_op_32_entry (funct7 * 2 ^ 5) funct3) else option_map Carry (carry_32_entry funct7 funct3)) ≡ Some op → decode flags w ≡ Some (decoded op rd rs1 rs2 (pos 0))
    on_x0 true zero this is =
        opcode_decodes flags w OP_32 (h.opcode_is ∙ this) refl
        ((λ i. or_else (option_map (λ a. decoded (Alu a) (h.rd_is i) (h.rs1_is i) (h.rs2_is i) (pos 0)) (op_32_entry (h.funct7_is i) (h.funct3_is i)))
        (option_map (λ a. decoded (Alu a) (h.rd_is i) (h.rs1_is i) (sym (eqb-true rs2 0 zero) i) (pos 0)) (unary_op_32_entry (of_x0 w funct7 rs2 h.funct7_is h.rs2_is zero i) (h.funct3_is i))))
        ∙ entries Alu Alu (op_32_entry funct7 funct3) (unary_op_32_entry (funct7 * 2 ^ 5) funct3) op rd rs1 rs2 is)
    on_x0 false other this is =
        either_decodes flags w OP_32 _ _ (h.opcode_is ∙ this) refl
        ((λ i. or_else (option_map (λ a. decoded (Alu a) (h.rd_is i) (h.rs1_is i) (h.rs2_is i) (pos 0)) (op_32_entry (h.funct7_is i) (h.funct3_is i)))
        (option_map (λ a. decoded (Alu a) (h.rd_is i) (h.rs1_is i) 0 (pos 0)) (of_other w funct7 rs2 (word_funct3 w) h.funct7_is h.rs2_is other i)))
        ∙ or_none _)
        (λ i. option_map (λ a. decoded (Carry a) (h.rd_is i) (h.rs1_is i) (h.rs2_is i) (pos 0)) (carry_32_entry (h.funct7_is i) (h.funct3_is i)))
        (entries Alu Carry (op_32_entry funct7 funct3) (carry_32_entry funct7 funct3) op rd rs1 rs2 is)

    on_32 : (b : Bool) → (opcode == OP_32) ≡ b → (if b then option_or (option_map Alu (op_32_entry funct7 funct3)) (if rs2 == 0 then option_map Alu (unary_op_32_entry (funct7 * 2 ^ 5) funct3) else option_map Carry (carry_32_entry funct7 funct3)) else None) ≡ Some op → decode flags w ≡ Some (decoded op rd rs1 rs2 (pos 0))
    on_32 true this is = on_x0 (rs2 == 0) refl (eqb-true opcode OP_32 this) is
    on_32 false this is = absurd (cc)

    on : (b : Bool) → (opcode == OP) ≡ b → (if b then option_or (option_map Alu (op_entry funct7 funct3)) (option_map Carry (carry_entry funct7 funct3)) else (if opcode == OP_32 then option_or (option_map Alu (op_32_entry funct7 funct3)) (if rs2 == 0 then option_map Alu (unary_op_32_entry (funct7 * 2 ^ 5) funct3) else option_map Carry (carry_32_entry funct7 funct3)) else None)) ≡ Some op → decode flags w ≡ Some (decoded op rd rs1 rs2 (pos 0))
    on true this is = of_op (eqb-true opcode OP this) is
    on false this is = on_32 (opcode == OP_32) refl is

-- ---- by the operation

rrr_entry : (op : AluOPRRR) (rs2 : ℕ) → r_op (rrr_numbers op).opcode (rrr_numbers op).funct3 rs2 (rrr_numbers op).funct7 ≡ Some (rrr_row op rs2)
rrr_entry rrr.Packw rs2 = on (rs2 == 0)
  where
    on : (b : Bool) → (if b then Some (Alu (Bit ZextH)) else Some (Carry Packw)) ≡ Some (if not b then Carry Packw else Alu (Bit ZextH))
    on true = refl
    on false = refl
rrr_entry _ rs2 = refl

rrr_decodes : (flags : IsaFlags) (op : AluOPRRR) (w rd rs1 rs2 : ℕ) → IsRType w (rrr_numbers op).opcode rd (rrr_numbers op).funct3 rs1 rs2 (rrr_numbers op).funct7 → decode flags w ≡ Some (decoded (rrr_row op rs2) rd rs1 rs2 (pos 0))
rrr_decodes flags op w rd rs1 rs2 h = r_decodes flags (rrr_row op rs2) w _ rd _ rs1 rs2 _ (rrr_entry op rs2) h

-- those that are exchanged are no ones of Zbkb, so that they are the same with either source
exchanged_row : (op : AluOPRRR) (m n : ℕ) → is_exchanged op ≡ true → rrr_row op m ≡ rrr_row op n
exchanged_row rrr.Packw m n exchanged = absurd (cc)
exchanged_row _ m n exchanged = refl

-- an operation of two registers, whose word has them as they are or exchanged
pub rrr_straight : (flags : IsaFlags) (op : AluOPRRR) (w rd rs1 rs2 : ℕ) → is_exchanged op ≡ false → IsRType w (rrr_numbers op).opcode rd (rrr_numbers op).funct3 rs1 rs2 (rrr_numbers op).funct7 → decode flags w ≡ Some (decoded_rrr op rd rs1 rs2)
rrr_straight flags op w rd rs1 rs2 straight h = rw straight (rrr_decodes flags op w rd rs1 rs2 h)

pub rrr_exchanged : (flags : IsaFlags) (op : AluOPRRR) (w rd rs1 rs2 : ℕ) → is_exchanged op ≡ true → IsRType w (rrr_numbers op).opcode rd (rrr_numbers op).funct3 rs2 rs1 (rrr_numbers op).funct7 → decode flags w ≡ Some (decoded_rrr op rd rs1 rs2)
rrr_exchanged flags op w rd rs1 rs2 exchanged h = rw exchanged (rrr_decodes flags op w rd rs2 rs1 h ∙ ap (λ m. Some (decoded m rd rs2 rs1 (pos 0))) (exchanged_row op rs1 rs2 exchanged))
