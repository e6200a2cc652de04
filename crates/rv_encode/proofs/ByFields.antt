-- A word with the fixed fields of an operation, and any registers and immediate, is decoded as that operation with them; and the fields
-- of a layout are all of a word.
use Rattle.std.proofs.Common.{◌≡◌, ℕ, ◌^◌, ◌<◌, ◌==◌, if◌then◌else◌, Bool, true, false, Option, Some, None, refl, ap, ◌∙◌, arith}
use Rattle.std.specs.Option.{option_map}
use Rattle.std.proofs.lemmas.Bool.{eqb-true}
use Rattle.std.proofs.lemmas.Int.{ints}
use Rattle.rv_base.specs.declared.flags.IsaFlags.{IsaFlags}
use Rattle.rv_imms.specs.declared.imm12.Imm12.{Imm12}
use Rattle.rv_imms.specs.Bits.{low_bits}
use Rattle.rv_ops.specs.declared.alu.AluOPRRI.{AluOPRRI}
use Rattle.rv_ops.specs.declared.memory.LoadOP.{LoadOP}
use Rattle.rv_ops.specs.declared.memory.StoreOP.{StoreOP}
use Rattle.rv_ops.specs.Memory.{load_opcode, load_funct3, store_opcode, store_funct3}
use Rattle.rv_machine.specs.declared.decoding.Decoded.{Decoded}
use Rattle.rv_machine.specs.declared.ops.MOp.{MOp}
use Rattle.rv_machine.specs.declared.ops.MOp.TheVariants.{Base, Load, Store, Alu}
use Rattle.rv_machine.specs.declared.ops.BaseOp.TheVariants as base
use Rattle.rv_machine.specs.State.{signed}
use Rattle.rv_machine.specs.Opcodes.{JALR, LOAD, STORE, OP_IMM, OP_IMM_32}
use Rattle.rv_machine.specs.Layout.{s_bits, s_imm}
use Rattle.rv_machine.specs.Tables.{load_entry, store_entry, imm_entry, imm_32_entry}
use Rattle.rv_machine.specs.Decode.{or_else, decode}
use Rattle.rv_encode.specs.Layouts.{IsRType, IsIType, IsSType}
use Rattle.rv_encode.specs.Operations.{decoded, i_op, s_op, IsRowOfRRI, decoded_rri, has_load, has_store, decoded_load, decoded_store}
use Rattle.rv_encode.proofs.Numbers.{signed-low_bits}
use Rattle.rv_encode.proofs.Decoding.{opcode_decodes, i_imm_is, rri_decodes}
use Rattle.rv_encode.proofs.RegisterDecoding.{entry}
use Rattle.rv_encode.proofs.MemoryDecoding.{load_decodes, store_decodes}

first : (o rest : Option Decoded) (d : Decoded) → o ≡ Some d → or_else o rest ≡ Some d
first o rest d is = ap (λ o. or_else o rest) is

-- ---- layout I

pub i_decodes : (flags : IsaFlags) (op : MOp) (w opcode rd funct3 rs1 : ℕ) (imm : Imm12) → i_op opcode funct3 ≡ Some op → IsIType w opcode rd funct3 rs1 (low_bits (2 ^ 12) imm.value) → decode flags w ≡ Some (decoded op rd rs1 0 imm.value)
i_decodes flags op w opcode rd funct3 rs1 imm is h = on_jalr (opcode == JALR) refl is
  where
    of_jalr : opcode ≡ JALR → (if funct3 == 0 then Some (Base base.Jalr) else None) ≡ Some op → decode flags w ≡ Some (decoded op rd rs1 0 imm.value)
    of_jalr this is =
        opcode_decodes flags w JALR (h.opcode_is ∙ this) refl
        ((λ i. if h.funct3_is i == 0 then Some (decoded (Base base.Jalr) (h.rd_is i) (h.rs1_is i) 0 (i_imm_is w imm h.imm_is i)) else None)
        ∙ on (funct3 == 0) is)
      where
        on : (b : Bool) → (if b then Some (Base base.Jalr) else None) ≡ Some op → (if b then Some (decoded (Base base.Jalr) rd rs1 0 imm.value) else None) ≡ Some (decoded op rd rs1 0 imm.value)
        on true is = ap (option_map (λ m. decoded m rd rs1 0 imm.value)) is
        on false is = absurd (cc)

    of_load : opcode ≡ LOAD → option_map Load (load_entry funct3) ≡ Some op → decode flags w ≡ Some (decoded op rd rs1 0 imm.value)
    of_load this is =
        opcode_decodes flags w LOAD (h.opcode_is ∙ this) refl
        ((λ i. option_map (λ a. decoded (Load a) (h.rd_is i) (h.rs1_is i) 0 (i_imm_is w imm h.imm_is i)) (load_entry (h.funct3_is i)))
        ∙ entry Load (load_entry funct3) op rd rs1 0 imm.value is)

    of_op_imm : opcode ≡ OP_IMM → option_map Alu (imm_entry funct3) ≡ Some op → decode flags w ≡ Some (decoded op rd rs1 0 imm.value)
    of_op_imm this is =
        opcode_decodes flags w OP_IMM (h.opcode_is ∙ this) refl
        (first _ _ (decoded op rd rs1 0 imm.value)
        ((λ i. option_map (λ a. decoded (Alu a) (h.rd_is i) (h.rs1_is i) 0 (i_imm_is w imm h.imm_is i)) (imm_entry (h.funct3_is i))) ∙ entry Alu (imm_entry funct3) op rd rs1 0 imm.value is))

    of_op_imm_32 : opcode ≡ OP_IMM_32 → option_map Alu (imm_32_entry funct3) ≡ Some op → decode flags w ≡ Some (decoded op rd rs1 0 imm.value)
    of_op_imm_32 this is =
        opcode_decodes flags w OP_IMM_32 (h.opcode_is ∙ this) refl
        (first _ _ (decoded op rd rs1 0 imm.value)
        ((λ i. option_map (λ a. decoded (Alu a) (h.rd_is i) (h.rs1_is i) 0 (i_imm_is w imm h.imm_is i)) (imm_32_entry (h.funct3_is i))) ∙ entry Alu (imm_32_entry funct3) op rd rs1 0 imm.value is))

    on_32 : (b : Bool) → (opcode == OP_IMM_32) ≡ b → (if b then option_map Alu (imm_32_entry funct3) else None) ≡ Some op → decode flags w ≡ Some (decoded op rd rs1 0 imm.value)
    on_32 true this is = of_op_imm_32 (eqb-true opcode OP_IMM_32 this) is
    on_32 false this is = absurd (cc)

    on_imm : (b : Bool) → (opcode == OP_IMM) ≡ b → (if b then option_map Alu (imm_entry funct3) else (if opcode == OP_IMM_32 then option_map Alu (imm_32_entry funct3) else None)) ≡ Some op → decode flags w ≡ Some (decoded op rd rs1 0 imm.value)
    on_imm true this is = of_op_imm (eqb-true opcode OP_IMM this) is
    on_imm false this is = on_32 (opcode == OP_IMM_32) refl is

    on_load : (b : Bool) → (opcode == LOAD) ≡ b → (if b then option_map Load (load_entry funct3) else (if opcode == OP_IMM then option_map Alu (imm_entry funct3) else (if opcode == OP_IMM_32 then option_map Alu (imm_32_entry funct3) else None))) ≡ Some op → decode flags w ≡ Some (decoded op rd rs1 0 imm.value)
    on_load true this is = of_load (eqb-true opcode LOAD this) is
    on_load false this is = on_imm (opcode == OP_IMM) refl is

    on_jalr : (b : Bool) → (opcode == JALR) ≡ b → (if b then (if funct3 == 0 then Some (Base base.Jalr) else None) else (if opcode == LOAD then option_map Load (load_entry funct3) else (if opcode == OP_IMM then option_map Alu (imm_entry funct3) else (if opcode == OP_IMM_32 then option_map Alu (imm_32_entry funct3) else None)))) ≡ Some op → decode flags w ≡ Some (decoded op rd rs1 0 imm.value)
    on_jalr true this is = of_jalr (eqb-true opcode JALR this) is
    on_jalr false this is = on_load (opcode == LOAD) refl is

-- ---- layout S

s_imm_is : (w : ℕ) (imm : Imm12) → s_bits w ≡ low_bits (2 ^ 12) imm.value → s_imm w ≡ imm.value
s_imm_is w imm h = ap (signed (2 ^ 11)) h ∙ signed-low_bits (2 ^ 11) imm.value (omega (arith, ints)) (omega (arith, ints))

pub s_decodes : (flags : IsaFlags) (op : MOp) (w opcode funct3 rs1 rs2 : ℕ) (imm : Imm12) → s_op opcode funct3 ≡ Some op → IsSType w opcode funct3 rs1 rs2 (low_bits (2 ^ 12) imm.value) → decode flags w ≡ Some (decoded op 0 rs1 rs2 imm.value)
s_decodes flags op w opcode funct3 rs1 rs2 imm is h = on (opcode == STORE) refl is
  where
    value : s_imm w ≡ imm.value
    value = s_imm_is w imm h.imm_is

    on : (b : Bool) → (opcode == STORE) ≡ b → (if b then option_map Store (store_entry funct3) else None) ≡ Some op → decode flags w ≡ Some (decoded op 0 rs1 rs2 imm.value)
    on true this is =
        opcode_decodes flags w STORE (h.opcode_is ∙ eqb-true opcode STORE this) refl
        ((λ i. option_map (λ a. decoded (Store a) 0 (h.rs1_is i) (h.rs2_is i) (value i)) (store_entry (h.funct3_is i)))
        ∙ entry Store (store_entry funct3) op 0 rs1 rs2 imm.value is)
    on false this is = absurd (cc)

-- ---- by a row's numbers

pub row_decodes : (flags : IsaFlags) (op : AluOPRRI) (w opcode rd funct3 rs bits : ℕ) (imm : Imm12) → IsRowOfRRI op imm opcode funct3 bits → IsIType w opcode rd funct3 rs bits → decode flags w ≡ Some (decoded_rri op rd rs imm.value)
row_decodes flags op w opcode rd funct3 rs bits imm row h =
    rri_decodes flags op w rd rs imm (record { opcode_is = h.opcode_is ∙ row.opcode_is; rd_is = h.rd_is; funct3_is = h.funct3_is ∙ row.funct3_is; rs1_is = h.rs1_is; imm_is = h.imm_is ∙ row.bits_are })

pub load_by_row : (flags : IsaFlags) (op : LoadOP) (w opcode rd funct3 rs : ℕ) (imm : Imm12) → has_load flags op ≡ true → opcode ≡ load_opcode op → funct3 ≡ load_funct3 op → IsIType w opcode rd funct3 rs (low_bits (2 ^ 12) imm.value) → decode flags w ≡ Some (decoded_load op rd rs imm.value)
load_by_row flags op w opcode rd funct3 rs imm has this that h =
    load_decodes flags op w rd rs _ imm.value has (record { opcode_is = h.opcode_is ∙ this; rd_is = h.rd_is; funct3_is = h.funct3_is ∙ that; rs1_is = h.rs1_is; imm_is = h.imm_is }) (i_imm_is w imm h.imm_is)

pub store_by_row : (flags : IsaFlags) (op : StoreOP) (w opcode funct3 rs1 rs2 : ℕ) (imm : Imm12) → has_store flags op ≡ true → opcode ≡ store_opcode op → funct3 ≡ store_funct3 op → IsSType w opcode funct3 rs1 rs2 (low_bits (2 ^ 12) imm.value) → decode flags w ≡ Some (decoded_store op rs1 rs2 imm.value)
store_by_row flags op w opcode funct3 rs1 rs2 imm has this that h =
    store_decodes flags op w rs1 rs2 _ imm.value has (record { opcode_is = h.opcode_is ∙ this; funct3_is = h.funct3_is ∙ that; rs1_is = h.rs1_is; rs2_is = h.rs2_is; imm_is = h.imm_is }) (s_imm_is w imm h.imm_is)

-- ---- the fields are all of a word, so words with the same fields are decoded alike

pub r_alike : (flags : IsaFlags) (w v opcode rd funct3 rs1 rs2 funct7 : ℕ) → w < 2 ^ 32 → v < 2 ^ 32 → IsRType w opcode rd funct3 rs1 rs2 funct7 → IsRType v opcode rd funct3 rs1 rs2 funct7 → decode flags w ≡ decode flags v
r_alike flags w v opcode rd funct3 rs1 rs2 funct7 few less h k = ap (decode flags) same
  where
    same : w ≡ v
    same = omega (arith, few, less, h, k)

pub i_alike : (flags : IsaFlags) (w v opcode rd funct3 rs1 imm : ℕ) → w < 2 ^ 32 → v < 2 ^ 32 → IsIType w opcode rd funct3 rs1 imm → IsIType v opcode rd funct3 rs1 imm → decode flags w ≡ decode flags v
i_alike flags w v opcode rd funct3 rs1 imm few less h k = ap (decode flags) same
  where
    same : w ≡ v
    same = omega (arith, few, less, h, k)

pub s_alike : (flags : IsaFlags) (w v opcode funct3 rs1 rs2 imm : ℕ) → w < 2 ^ 32 → v < 2 ^ 32 → IsSType w opcode funct3 rs1 rs2 imm → IsSType v opcode funct3 rs1 rs2 imm → decode flags w ≡ decode flags v
s_alike flags w v opcode funct3 rs1 rs2 imm few less h k = ap (decode flags) same
  where
    same : w ≡ v
    same = omega (arith, few, less, h, k)
