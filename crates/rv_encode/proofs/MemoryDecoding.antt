-- Words with the fields of a load or a store, of an integer register or of a floating-point one, are decoded as it, where the machine has it.
use Rattle.std.proofs.Common.{◌≡◌, ℕ, ◌^◌, true, ℤ, Option, Some, refl, ap, ◌∙◌, arith}
use Rattle.std.specs.Option.{option_map, option_and_then}
use Rattle.std.proofs.lemmas.Int.{ints}
use Rattle.rv_base.specs.declared.flags.IsaFlags.{IsaFlags}
use Rattle.rv_imms.specs.declared.imm12.Imm12.{Imm12}
use Rattle.rv_imms.specs.Bits.{low_bits}
use Rattle.rv_ops.specs.declared.memory.LoadOP.{LoadOP}
use Rattle.rv_ops.specs.declared.memory.LoadOP.TheVariants as loads
use Rattle.rv_ops.specs.declared.memory.StoreOP.{StoreOP}
use Rattle.rv_ops.specs.declared.memory.StoreOP.TheVariants as stores
use Rattle.rv_ops.specs.Memory.{load_opcode, load_funct3, store_opcode, store_funct3}
use Rattle.rv_machine.specs.declared.decoding.Decoded.{Decoded}
use Rattle.rv_machine.specs.declared.ops.MOp.TheVariants.{Load, Store, FloatLoad, FloatStore}
use Rattle.rv_machine.specs.declared.ops.FloatFormat.{FloatFormat}
use Rattle.rv_machine.specs.declared.ops.FloatFormat.TheVariants.{H, S, D}
use Rattle.rv_machine.specs.declared.ops.LoadOp.{LoadOp}
use Rattle.rv_machine.specs.declared.ops.LoadOp.TheVariants as load
use Rattle.rv_machine.specs.declared.ops.StoreOp.{StoreOp}
use Rattle.rv_machine.specs.declared.ops.StoreOp.TheVariants as store
use Rattle.rv_machine.specs.State.{signed}
use Rattle.rv_machine.specs.Opcodes.{LOAD, STORE, LOAD_FP, STORE_FP}
use Rattle.rv_machine.specs.Layout.{i_imm, s_bits, s_imm}
use Rattle.rv_machine.specs.Tables.{load_entry, store_entry}
use Rattle.rv_machine.specs.UnitTables.{width_entry}
use Rattle.rv_machine.specs.UnitDecode.{only, has_format}
use Rattle.rv_machine.specs.Decode.{or_else, decode}
use Rattle.rv_encode.specs.Layouts.{IsIType, IsSType}
use Rattle.rv_encode.specs.Operations.{decoded, decoded_load, decoded_store, has_load, has_store}
use Rattle.rv_encode.proofs.Numbers.{signed-low_bits}
use Rattle.rv_encode.proofs.Decoding.{opcode_decodes}
use Rattle.rv_encode.proofs.FloatDecoding.{unit_decodes}

-- a number of a format that the machine has, before the vectors whose words have the same opcode
of_format : (flags : IsaFlags) (family : FloatFormat → Decoded) (entry : Option FloatFormat) (format : FloatFormat) (rest : Option Decoded) → entry ≡ Some format → has_format flags format ≡ true → or_else (option_and_then (λ f. only (has_format flags f) (Some (family f))) entry) rest ≡ Some (family format)
of_format flags family entry format rest found has = (λ i. or_else (option_and_then (λ f. only (has_format flags f) (Some (family f))) (found i)) rest) ∙ ap (λ c. or_else (only c (Some (family format))) rest) has

-- ---- loads

int_load : (flags : IsaFlags) (op : LoadOp) (w rd funct3 rs bits : ℕ) (imm : ℤ) → load_entry funct3 ≡ Some op → IsIType w LOAD rd funct3 rs bits → i_imm w ≡ imm → decode flags w ≡ Some (decoded (Load op) rd rs 0 imm)
int_load flags op w rd funct3 rs bits imm found h value =
    opcode_decodes flags w LOAD h.opcode_is refl
    ((λ i. option_map (λ op. decoded (Load op) (h.rd_is i) (h.rs1_is i) 0 (value i)) (load_entry (h.funct3_is i)))
    ∙ ap (option_map (λ op. decoded (Load op) rd rs 0 imm)) found)

float_load : (flags : IsaFlags) (format : FloatFormat) (w rd funct3 rs bits : ℕ) (imm : ℤ) → width_entry funct3 ≡ Some format → has_format flags format ≡ true → IsIType w LOAD_FP rd funct3 rs bits → i_imm w ≡ imm → decode flags w ≡ Some (decoded (FloatLoad format) rd rs 0 imm)
float_load flags format w rd funct3 rs bits imm found has h value =
    unit_decodes flags w LOAD_FP h.opcode_is refl refl
    (of_format flags _ _ format _ (ap width_entry h.funct3_is ∙ found) has
    ∙ (λ i. Some (decoded (FloatLoad format) (h.rd_is i) (h.rs1_is i) 0 (value i))))

-- a word with any immediate
pub load_decodes : (flags : IsaFlags) (op : LoadOP) (w rd rs bits : ℕ) (imm : ℤ) → has_load flags op ≡ true → IsIType w (load_opcode op) rd (load_funct3 op) rs bits → i_imm w ≡ imm → decode flags w ≡ Some (decoded_load op rd rs imm)
load_decodes flags loads.Lb w rd rs bits imm has h value = int_load flags load.Lb w rd 0 rs bits imm refl h value
load_decodes flags loads.Lh w rd rs bits imm has h value = int_load flags load.Lh w rd 1 rs bits imm refl h value
load_decodes flags loads.Lw w rd rs bits imm has h value = int_load flags load.Lw w rd 2 rs bits imm refl h value
load_decodes flags loads.Ld w rd rs bits imm has h value = int_load flags load.Ld w rd 3 rs bits imm refl h value
load_decodes flags loads.Lbu w rd rs bits imm has h value = int_load flags load.Lbu w rd 4 rs bits imm refl h value
load_decodes flags loads.Lhu w rd rs bits imm has h value = int_load flags load.Lhu w rd 5 rs bits imm refl h value
load_decodes flags loads.Lwu w rd rs bits imm has h value = int_load flags load.Lwu w rd 6 rs bits imm refl h value
load_decodes flags loads.Flh w rd rs bits imm has h value = float_load flags H w rd 1 rs bits imm refl has h value
load_decodes flags loads.Flw w rd rs bits imm has h value = float_load flags S w rd 2 rs bits imm refl refl h value
load_decodes flags loads.Fld w rd rs bits imm has h value = float_load flags D w rd 3 rs bits imm refl refl h value

-- ---- stores

pub s_imm_is : (w : ℕ) (imm : Imm12) → s_bits w ≡ low_bits (2 ^ 12) imm.value → s_imm w ≡ imm.value
s_imm_is w imm h = ap (signed (2 ^ 11)) h ∙ signed-low_bits (2 ^ 11) imm.value (omega (arith, ints)) (omega (arith, ints))

int_store : (flags : IsaFlags) (op : StoreOp) (w funct3 rs1 rs2 bits : ℕ) (imm : ℤ) → store_entry funct3 ≡ Some op → IsSType w STORE funct3 rs1 rs2 bits → s_imm w ≡ imm → decode flags w ≡ Some (decoded (Store op) 0 rs1 rs2 imm)
int_store flags op w funct3 rs1 rs2 bits imm found h value =
    opcode_decodes flags w STORE h.opcode_is refl
    ((λ i. option_map (λ op. decoded (Store op) 0 (h.rs1_is i) (h.rs2_is i) (value i)) (store_entry (h.funct3_is i)))
    ∙ ap (option_map (λ op. decoded (Store op) 0 rs1 rs2 imm)) found)

float_store : (flags : IsaFlags) (format : FloatFormat) (w funct3 rs1 rs2 bits : ℕ) (imm : ℤ) → width_entry funct3 ≡ Some format → has_format flags format ≡ true → IsSType w STORE_FP funct3 rs1 rs2 bits → s_imm w ≡ imm → decode flags w ≡ Some (decoded (FloatStore format) 0 rs1 rs2 imm)
float_store flags format w funct3 rs1 rs2 bits imm found has h value =
    unit_decodes flags w STORE_FP h.opcode_is refl refl
    (of_format flags _ _ format _ (ap width_entry h.funct3_is ∙ found) has
    ∙ (λ i. Some (decoded (FloatStore format) 0 (h.rs1_is i) (h.rs2_is i) (value i))))

-- a word with any immediate
pub store_decodes : (flags : IsaFlags) (op : StoreOP) (w rs1 rs2 bits : ℕ) (imm : ℤ) → has_store flags op ≡ true → IsSType w (store_opcode op) (store_funct3 op) rs1 rs2 bits → s_imm w ≡ imm → decode flags w ≡ Some (decoded_store op rs1 rs2 imm)
store_decodes flags stores.Sb w rs1 rs2 bits imm has h value = int_store flags store.Sb w 0 rs1 rs2 bits imm refl h value
store_decodes flags stores.Sh w rs1 rs2 bits imm has h value = int_store flags store.Sh w 1 rs1 rs2 bits imm refl h value
store_decodes flags stores.Sw w rs1 rs2 bits imm has h value = int_store flags store.Sw w 2 rs1 rs2 bits imm refl h value
store_decodes flags stores.Sd w rs1 rs2 bits imm has h value = int_store flags store.Sd w 3 rs1 rs2 bits imm refl h value
store_decodes flags stores.Fsh w rs1 rs2 bits imm has h value = float_store flags H w 1 rs1 rs2 bits imm refl has h value
store_decodes flags stores.Fsw w rs1 rs2 bits imm has h value = float_store flags S w 2 rs1 rs2 bits imm refl refl h value
store_decodes flags stores.Fsd w rs1 rs2 bits imm has h value = float_store flags D w 3 rs1 rs2 bits imm refl refl h value
