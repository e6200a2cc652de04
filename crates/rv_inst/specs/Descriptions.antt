-- Instructions of which one row says all that there is to know. Some are one word of a unit, of the machine's operations that the integer
-- machine has not; others compute one register of another by a sequence of words with a loop; and of others, of integer registers, the row
-- itself gives what they mean and their code. All tables over instructions have one row for all of these, which goes by
-- `description_of`. So an instruction that is neither here nor in a table has no row there, and fails to check.
use Rattle.std.specs.Prelude.{◌≡◌, ℕ, Bool, true, false, is_some, not, ◌&&◌, ◌||◌, nat_le, nat_lt, if◌then◌else◌, List, [], ◌∷◌, ◌++◌, ◌+◌, ◌*◌, ◌==◌, ◌^◌, Option, Some, None, length, map, option_map, slice_get, unwrap_or}
use Rattle.std.proofs.Common.{cond, subst}
use Rattle.rv_base.specs.Regs.{class_of, number_of}
use Rattle.rv_base.specs.declared.regs.Reg.{Reg}
use Rattle.rv_base.specs.declared.regs.RegClass.{RegClass}
use Rattle.rv_base.specs.declared.regs.RegClass.TheVariants.{Int, Float as FloatReg}
use Rattle.rv_base.specs.declared.regs.Writable.{Writable}
use Rattle.rv_base.specs.declared.trap.TrapCode.{TrapCode}
use Rattle.rv_base.specs.declared.trap.TrapCode.TheVariants.{BadConversionToInteger}
use Rattle.rv_machine.specs.declared.decoding.Decoded.{Decoded}
use Rattle.rv_ops.specs.FloatFields.{is_width, takes_frm}
use Rattle.rv_ops.specs.Fpu.{fpu_rr_files, fpu_rr_numbers, fpu_rr_widths, fpu_rrr_numbers, fpu_rrr_result, is_to_integer, takes_width}
use Rattle.rv_encode.specs.Operations.{decoded_atomic, decoded_csr_imm, decoded_csr_reg, decoded_fence, decoded_fli, decoded_fpu_rr, decoded_fpu_rrr, decoded_fpu_rrrr}
use Rattle.rv_encode.specs.Registers.{IsRealRegister}
use Rattle.rv_encode.specs.Operations.{decoded, load_op, store_op}
use Rattle.rv_inst.specs.Addresses.{inline_size}
use Rattle.rv_base.specs.IrType.{bits_of}
use Rattle.rv_base.specs.declared.ir_type.IrType.{IrType}
use Rattle.rv_inst.specs.Bits.{extended}
use Rattle.rv_inst.specs.Classes.{is_int_type, is_word_type}
use Rattle.rv_machine.specs.declared.ops.MOp.TheVariants.{Base}
use Rattle.rv_machine.specs.declared.ops.BaseOp.TheVariants.{Auipc as AuipcOp}
use Rattle.rv_inst.specs.Context.{Context}
use Rattle.rv_inst.specs.Effects.{Environment, Meaning, Next, Trap, addresses_from, compares, constant_of, goes, probes_of, put_bytes, symbol_at, zero_bytes}
use Rattle.rv_inst.specs.InstCode.{AtMost, Exactly, InstCode, extend_operation, one_word, trap_size, words}
use Rattle.rv_inst.specs.Limits.{number_limit}
use Rattle.rv_inst.specs.Records.{Recorded, Nothing, TrapAfter, SlotInParts, AddressInParts, AddressLast}
use Rattle.rv_machine.specs.Arithmetic.{low_word}
use Rattle.rv_machine.specs.Memory.{load_result, store_bytes}
use Rattle.rv_machine.specs.State.{Values, reg, set_reg, wrap, low64}
use Rattle.rv_machine.specs.UnitDecode.{is_source}
use Rattle.rv_ops.specs.Atomic.{atomic_op}
use Rattle.rv_ops.specs.Memory.{load_of, store_of}
use Rattle.rv_ops.specs.declared.memory.LoadOP.{LoadOP}
use Rattle.rv_ops.specs.declared.memory.LoadOP.TheVariants.{Ld}
use Rattle.rv_ops.specs.declared.memory.StoreOP.{StoreOP}
use Rattle.rv_ops.specs.declared.memory.StoreOP.TheVariants.{Sd}
use Rattle.rv_inst.specs.declared.inst.Brev8Info.{Brev8Info}
use Rattle.rv_inst.specs.declared.inst.CountInfo.{CountInfo}
use Rattle.rv_inst.specs.declared.inst.Family.{Family}
use Rattle.rv_inst.specs.declared.inst.Family.TheVariants.{Integer, Memory, Control, Symbols, Float}
use Rattle.rv_inst.specs.declared.inst.Inst.{Inst}
use Rattle.rv_inst.specs.declared.inst.Inst.TheVariants.{Nop0, Nop4, EBreak, SequencePoint, Args, Rets, DummyUse, Unwind, EmitIsland, RawData, Lui, Auipc, LoadInlineConst, AluRRR, AluRRImm12, Mov, MovFromPReg, Extend, Select, Load, Store, LoadAddr, LabelAddress, Ret, TrapIf, Jal, CondBr, BrTable, Udf, Jalr, Popcnt, Cltz, Brev8, StackProbeLoop, LoadExtNameGot, LoadExtNameNear, LoadExtNameFar, Call, CallInd, ReturnCall, ReturnCallInd, Fli, FpuRR, FpuRRR, FpuRRRR, CsrReg, CsrImm, Fence, AtomicLoad, AtomicStore, Atomic}
use Rattle.rv_inst.specs.declared.sequence.Computation.{Computation}
use Rattle.rv_inst.specs.declared.sequence.Computation.TheVariants.{Ones, Zeros, ReversedBytes}
use Rattle.rv_inst.specs.declared.sequence.Sequence.{Sequence}
use Rattle.rv_inst.specs.declared.targets.Targets.{Targets}
use Rattle.rv_inst.specs.declared.targets.Targets.TheVariants.{Nowhere, Refers}
use Rattle.rv_inst.specs.declared.units.PlacedReg.{PlacedReg}
use Rattle.rv_inst.specs.declared.units.InstRegs.{InstRegs}
use Rattle.rv_inst.specs.declared.units.Facts.{Facts}

-- its family; the operation that the machine decodes; its registers, in the order of its fields, each with the class that its place asks;
-- the instruction with other registers, where these are given; whether its rounding mode, and its format, are ones that the operation
-- takes; whether a register that the operation doesn't read is x0; and the trap that it may take, which is recorded at its word
pub record UnitWord : Type 0 where
  pub family : Family
  pub operation : Decoded
  pub places : List PlacedReg
  pub with_registers : InstRegs → Inst
  pub rounding : Bool
  pub width : Bool
  pub aside : Bool
  pub trap : Option TrapCode

abbrev pub place : RegClass → Reg → PlacedReg
place class reg = record { class = class; reg = reg }

-- one whose fields are all taken, and which doesn't trap
abbrev pub word_with : Decoded → List PlacedReg → (InstRegs → Inst) → UnitWord
word_with d places with = record { family = Float; operation = d; places = places; with_registers = with; rounding = true; width = true; aside = true; trap = None }

-- a number that no integer of the type asked for is near to
abbrev pub conversion_trap : Bool → Option TrapCode
conversion_trap false = None
conversion_trap true = Some BadConversionToInteger

-- ---- sequences

-- a sum and two temporaries, or a result and three
abbrev pub counts : Computation → CountInfo → Sequence
counts computation info = record { computation = computation; rs = info.rs; tmp1 = info.tmp; tmp2 = info.step; tmp3 = None; rd = info.sum; ty = info.ty }

abbrev pub reverses : Brev8Info → Sequence
reverses info = record { computation = ReversedBytes; rs = info.rs; tmp1 = info.step; tmp2 = info.tmp; tmp3 = Some info.tmp2; rd = info.rd; ty = info.ty }

-- these again, of a sequence
abbrev pub count_info : Sequence → CountInfo
count_info s = record { sum = s.rd; tmp = s.tmp1; step = s.tmp2; rs = s.rs; ty = s.ty }

abbrev pub brev8_info : Writable Reg → Sequence → Brev8Info
brev8_info tmp2 s = record { rs = s.rs; ty = s.ty; step = s.tmp1; tmp = s.tmp2; tmp2 = unwrap_or s.tmp3 tmp2; rd = s.rd }

-- at most so many words
abbrev pub most_words : Computation → ℕ
most_words Ones = 11
most_words (Zeros leading) = 11
most_words ReversedBytes = 19

-- ---- what a row itself gives

-- its family; what the rules and a register allocator ask of it; the instruction with other registers, where these are given; what it means
-- among an environment; its code in a context; and what it records
pub record Given : Type 0 where
  pub family : Family
  pub facts : Facts
  pub with_registers : InstRegs → Inst
  pub meaning : Environment → Values → Meaning
  pub code : Context → InstCode
  pub records : Recorded

abbrev pub regs : Option (Writable Reg) → Option Reg → Option Reg → Option Reg → InstRegs
regs rd rs1 rs2 rs3 = record { rd = rd; rs1 = rs1; rs2 = rs2; rs3 = rs3 }

-- these registers, of which any may be x0, and no temporary, type that may not be taken, number that may be out of its range, label, or jump
abbrev pub only_regs : InstRegs → Facts
only_regs r = record { regs = r; scratch = None; in_steps = false; mistyped = false; beyond = false; targets = Nowhere; jumps = false }

-- a result that is computed in steps, of no other register
abbrev pub stepwise : Writable Reg → Facts
stepwise rd = record (only_regs (regs (Some rd) None None None)) { in_steps = true }

-- it sets its result and goes on
abbrev pub sets : Values → Writable Reg → ℕ → Meaning
sets v rd n = goes Next (set_reg v (number_of rd.reg) n)

-- it puts bytes at an address and goes on
abbrev pub puts : Values → ℕ → List ℕ → Meaning
puts v a bytes = record (goes Next (put_bytes v a bytes)) { writes = addresses_from a (length bytes) }

-- the address in a register
abbrev pub address_in : Reg → Values → ℕ
address_in p v = wrap (reg v (number_of p))

-- the load and the store of an integer type; others have none here
abbrev pub load_for : IrType → LoadOP
load_for type = unwrap_or (load_of type) Ld

abbrev pub store_for : IrType → StoreOP
store_for type = unwrap_or (store_of type) Sd

-- it puts a byte 0 at each of these addresses and goes on
abbrev pub zeroes : Values → List ℕ → Meaning
zeroes v addresses = record (goes Next (zero_bytes v addresses)) { writes = addresses }

-- ---- the table

-- a word of a unit; a sequence, and the instruction with another one; or what the row itself gives
pub data Description : Type 0 where
  Word : UnitWord → Description
  Computes : Sequence → (Sequence → Inst) → Description
  Gives : Given → Description

abbrev pub described : Inst → Option Description
described (Fli width imm rd) = Some (Word (record (word_with (decoded_fli width (number_of rd.reg) imm.value) (place FloatReg rd.reg ∷ [])
    (λ (r : InstRegs). Fli width imm (unwrap_or r.rd rd))) { width = is_width width }))
described (FpuRR op width frm rd rs) = Some (Word (record (word_with (decoded_fpu_rr op width frm (number_of rd.reg) (number_of rs)) (place (fpu_rr_files op).result rd.reg ∷ place (fpu_rr_files op).source rs ∷ [])
    (λ (r : InstRegs). FpuRR op width frm (unwrap_or r.rd rd) (unwrap_or r.rs1 rs))) {
      rounding = takes_frm (fpu_rr_numbers op).rounding frm;
      width = takes_width (fpu_rr_widths op) width;
      trap = conversion_trap (is_to_integer op);
    }))
described (FpuRRR op width frm rd rs1 rs2) = Some (Word (record (word_with (decoded_fpu_rrr op width frm (number_of rd.reg) (number_of rs1) (number_of rs2)) (place (fpu_rrr_result op) rd.reg ∷ place FloatReg rs1 ∷ place FloatReg rs2 ∷ [])
    (λ (r : InstRegs). FpuRRR op width frm (unwrap_or r.rd rd) (unwrap_or r.rs1 rs1) (unwrap_or r.rs2 rs2))) {
      rounding = takes_frm (fpu_rrr_numbers op).rounding frm;
      width = is_width width;
    }))
described (FpuRRRR op width frm rd rs1 rs2 rs3) = Some (Word (record (word_with (decoded_fpu_rrrr op width frm (number_of rd.reg) (number_of rs1) (number_of rs2) (number_of rs3)) (place FloatReg rd.reg ∷ place FloatReg rs1 ∷ place FloatReg rs2 ∷ place FloatReg rs3 ∷ [])
    (λ (r : InstRegs). FpuRRRR op width frm (unwrap_or r.rd rd) (unwrap_or r.rs1 rs1) (unwrap_or r.rs2 rs2) (unwrap_or r.rs3 rs3))) { width = is_width width }))
described (CsrReg op rd rs csr) = Some (Word (word_with (decoded_csr_reg op (number_of rd.reg) (number_of rs)) (place Int rd.reg ∷ place Int rs ∷ [])
    (λ (r : InstRegs). CsrReg op (unwrap_or r.rd rd) (unwrap_or r.rs1 rs) csr)))
described (CsrImm op rd csr imm) = Some (Word (word_with (decoded_csr_imm op (number_of rd.reg) imm.value) (place Int rd.reg ∷ [])
    (λ (r : InstRegs). CsrImm op (unwrap_or r.rd rd) csr imm)))
described (Atomic op rd addr src amo) = Some (Word (record (word_with (decoded_atomic op amo (number_of rd.reg) (number_of addr) (number_of src)) (place Int rd.reg ∷ place Int addr ∷ place Int src ∷ [])
    (λ (r : InstRegs). Atomic op (unwrap_or r.rd rd) (unwrap_or r.rs1 addr) (unwrap_or r.rs2 src) amo)) { aside = is_source (atomic_op op) (number_of src) }))
described Nop0 = None
described Nop4 = None
described EBreak = None
described SequencePoint = None
described (Args args) = None
described (Rets rets) = None
described (DummyUse reg) = None
described (Unwind inst) = None
described (EmitIsland needed_space) = None
described (RawData bytes) = None
described (Lui rd imm) = None
described (Auipc rd imm) = Some (Gives (record {
  family = Integer;
  facts = only_regs (regs (Some rd) None None None);
  with_registers = λ (r : InstRegs). Auipc (unwrap_or r.rd rd) imm;
  meaning = λ env v. sets v rd (wrap (env.start + low64 imm.value * 2 ^ 12));
  code = λ context. one_word (decoded (Base AuipcOp) (number_of rd.reg) 0 0 imm.value);
  records = Nothing;
}))
described (LoadInlineConst rd type imm) = Some (Gives (record {
  family = Integer;
  facts = record (stepwise rd) { mistyped = not (is_word_type type); jumps = true };
  with_registers = λ (r : InstRegs). LoadInlineConst (unwrap_or r.rd rd) type imm;
  meaning = λ env v. sets v rd (constant_of type imm);
  code = λ context. words (Exactly (inline_size context.flags (if bits_of type == 32 then 4 else 8)));
  records = Nothing;
}))
described (AluRRR op rd rs1 rs2) = None
described (AluRRImm12 op rd rs imm) = None
described (Mov rd rm type) = None
described (MovFromPReg rd rm) = None
described (Extend rd rn signed from_bits to_bits) = Some (Gives (record {
  family = Integer;
  facts = record (only_regs (regs (Some rd) (Some rn) None None)) { beyond = not (nat_le 1 from_bits && nat_le from_bits 64) };
  with_registers = λ (r : InstRegs). Extend (unwrap_or r.rd rd) (unwrap_or r.rs1 rn) signed from_bits to_bits;
  meaning = λ env v. sets v rd (extended signed from_bits (reg v (number_of rn)));
  code = λ context. record (words (AtMost 8)) { operation = extend_operation context.flags (number_of rd.reg) (number_of rn) signed from_bits };
  records = Nothing;
}))
described (Select info) = None
described (Load rd op flags from) = None
described (Store src op flags to) = None
described (LoadAddr rd mem) = None
described (LabelAddress dst label) = Some (Gives (record {
  family = Memory;
  facts = record (stepwise dst) { targets = Refers label };
  with_registers = λ (r : InstRegs). LabelAddress (unwrap_or r.rd dst) label;
  meaning = λ env v. sets v dst (env.label label.number);
  code = λ context. words (Exactly 8);
  records = Nothing;
}))
described Ret = None
described (TrapIf cmp code) = Some (Gives (record {
  family = Control;
  facts = only_regs (regs None (Some cmp.rs1) (Some cmp.rs2) None);
  with_registers = λ (r : InstRegs). TrapIf (record cmp { rs1 = unwrap_or r.rs1 cmp.rs1; rs2 = unwrap_or r.rs2 cmp.rs2 }) code;
  meaning = λ env v. goes (if compares cmp v then Trap code else Next) v;
  code = λ context. words (Exactly (4 + trap_size context.flags));
  records = TrapAfter 4 code;
}))
described (Jal label) = None
described (CondBr taken not_taken kind) = None
described (BrTable index tmp1 tmp2 targets) = None
described (Udf code) = None
described (Jalr rd base offset) = None
described (Popcnt info) = Some (Computes (counts Ones info) (λ (s : Sequence). Popcnt (count_info s)))
described (Cltz leading info) = Some (Computes (counts (Zeros leading) info) (λ (s : Sequence). Cltz leading (count_info s)))
described (Brev8 info) = Some (Computes (reverses info) (λ (s : Sequence). Brev8 (brev8_info info.tmp2 s)))
described (StackProbeLoop guard_size probe_count tmp) = Some (Gives (record {
  family = Memory;
  facts = record (only_regs (regs None None None None)) { scratch = Some tmp; jumps = true };
  with_registers = λ (r : InstRegs). StackProbeLoop guard_size probe_count tmp;
  meaning = λ env v. zeroes v (probes_of (reg v 2) (low_word guard_size) (low_word probe_count));
  code = λ context. words (AtMost (number_limit + number_limit + 4 * 5));
  records = Nothing;
}))
described (LoadExtNameGot rd name) = Some (Gives (record {
  family = Symbols;
  facts = stepwise rd;
  with_registers = λ (r : InstRegs). LoadExtNameGot (unwrap_or r.rd rd) name;
  meaning = λ env v. sets v rd (load_result (load_op Ld) v.mem (env.slot name.number));
  code = λ context. words (Exactly 8);
  records = SlotInParts name;
}))
described (LoadExtNameNear rd name offset) = Some (Gives (record {
  family = Symbols;
  facts = stepwise rd;
  with_registers = λ (r : InstRegs). LoadExtNameNear (unwrap_or r.rd rd) name offset;
  meaning = λ env v. sets v rd (symbol_at env name offset);
  code = λ context. words (Exactly 8);
  records = AddressInParts name offset;
}))
described (LoadExtNameFar rd name offset) = Some (Gives (record {
  family = Symbols;
  facts = record (stepwise rd) { jumps = true };
  with_registers = λ (r : InstRegs). LoadExtNameFar (unwrap_or r.rd rd) name offset;
  meaning = λ env v. sets v rd (symbol_at env name offset);
  code = λ context. words (Exactly (inline_size context.flags 8));
  records = AddressLast name offset;
}))
described (Fence pred succ) = Some (Gives (record {
  family = Memory;
  facts = record (only_regs (regs None None None None)) { beyond = nat_lt 15 pred || nat_lt 15 succ };
  with_registers = λ (r : InstRegs). Fence pred succ;
  meaning = λ env v. goes Next v;
  code = λ context. one_word (decoded_fence pred succ);
  records = Nothing;
}))
described (AtomicLoad rd type p) = Some (Gives (record {
  family = Memory;
  facts = record (only_regs (regs (Some rd) (Some p) None None)) { mistyped = not (is_int_type type) };
  with_registers = λ (r : InstRegs). AtomicLoad (unwrap_or r.rd rd) type (unwrap_or r.rs1 p);
  meaning = λ env v. sets v rd (load_result (load_op (load_for type)) v.mem (address_in p v));
  code = λ context. words (AtMost 12);
  records = Nothing;
}))
described (AtomicStore src type p) = Some (Gives (record {
  family = Memory;
  facts = record (only_regs (regs None (Some src) (Some p) None)) { mistyped = not (is_int_type type) };
  with_registers = λ (r : InstRegs). AtomicStore (unwrap_or r.rs1 src) type (unwrap_or r.rs2 p);
  meaning = λ env v. puts v (address_in p v) (store_bytes (store_op (store_for type)) (reg v (number_of src)));
  code = λ context. words (AtMost 8);
  records = Nothing;
}))
described (Call info) = None
described (CallInd info) = None
described (ReturnCall info) = None
described (ReturnCallInd info) = None

pub none_is_some : false ≡ true → ⊥
none_is_some e = subst (λ (b : Bool). cond b ⊥ (Unit {0})) e tt

abbrev pub given : {A : Type 0} → (o : Option A) → is_some o ≡ true → A
given None e = absurd (none_is_some e)
given (Some a) e = a

-- that of an instruction that has one, as its own row tells
abbrev pub description_of : (inst : Inst) → is_some (described inst) ≡ true → Description
description_of inst e = given (described inst) e

-- A word or a sequence, of which the description makes parts, too. In tables of parts and of what follows from them each instruction whose
-- description gives its code has a row of its own.
abbrev pub is_made : Description → Bool
is_made (Word w) = true
is_made (Computes s with) = true
is_made (Gives g) = false

-- ---- words of units

abbrev pub word_in : Option Description → Option UnitWord
word_in None = None
word_in (Some (Word w)) = Some w
word_in (Some (Computes s with)) = None
word_in (Some (Gives g)) = None

abbrev pub unit_word : Inst → Option UnitWord
unit_word inst = word_in (described inst)

abbrev pub registers_in : List PlacedReg → List Reg
registers_in places = map (λ (p : PlacedReg). p.reg) places

abbrev pub places_in : Option UnitWord → List PlacedReg
places_in None = []
places_in (Some w) = w.places

-- whether a register that the operation doesn't read isn't x0
abbrev pub is_idle_in : Option UnitWord → Bool
is_idle_in None = false
is_idle_in (Some w) = not w.aside

abbrev pub trap_in : Option UnitWord → Option TrapCode
trap_in None = None
trap_in (Some w) = w.trap

-- ---- its registers, taken out of it and put back

abbrev pub writable : Reg → Writable Reg
writable r = record { reg = r }

-- that of the result is the first, and the others are read
abbrev pub in_order : List Reg → InstRegs
in_order registers = regs (option_map writable (slice_get registers 0)) (slice_get registers 1) (slice_get registers 2) (slice_get registers 3)

abbrev pub regs_in : Option Description → InstRegs
regs_in None = in_order []
regs_in (Some (Word w)) = in_order (registers_in w.places)
regs_in (Some (Computes s with)) = in_order []
regs_in (Some (Gives g)) = g.facts.regs

abbrev pub described_regs : Inst → InstRegs
described_regs inst = regs_in (described inst)

abbrev pub remade : Inst → Option Description → InstRegs → Inst
remade inst None registers = inst
remade inst (Some (Word w)) registers = w.with_registers registers
remade inst (Some (Computes s with)) registers = inst
remade inst (Some (Gives g)) registers = g.with_registers registers

-- an instruction with other registers, where these are given; one that isn't described by such is as it was
abbrev pub with_registers : Inst → InstRegs → Inst
with_registers inst registers = remade inst (described inst) registers

-- one that it has is replaced where another is given
abbrev pub replaced : {A : Type 0} → Option A → Option A → Option A
replaced other None = None
replaced other (Some own) = Some (unwrap_or other own)

abbrev pub all_replaced : InstRegs → InstRegs → InstRegs
all_replaced other own = regs (replaced other.rd own.rd) (replaced other.rs1 own.rs1) (replaced other.rs2 own.rs2) (replaced other.rs3 own.rs3)

-- ---- what its word asks: registers of the machine, each of the class that its place asks, and fields that its operation takes

abbrev pub AreReal : List Reg → Type 0
AreReal [] = Unit {0}
AreReal (r ∷ rs) = IsRealRegister r × AreReal rs

abbrev pub AreOfClass : List PlacedReg → Type 0
AreOfClass [] = Unit {0}
AreOfClass (p ∷ places) = (class_of p.reg ≡ p.class) × AreOfClass places

abbrev pub IsFineUnit : UnitWord → Type 0
IsFineUnit w = AreReal (registers_in w.places) × AreOfClass w.places × (w.rounding ≡ true) × (w.width ≡ true) × (w.aside ≡ true)

-- ---- what a sequence computes, and of which registers

abbrev pub sequence_in : Option Description → Option Sequence
sequence_in None = None
sequence_in (Some (Word w)) = None
sequence_in (Some (Computes s with)) = Some s
sequence_in (Some (Gives g)) = None

abbrev pub sequence_of : Inst → Option Sequence
sequence_of inst = sequence_in (described inst)

abbrev pub recomputed : Inst → Option Description → Sequence → Inst
recomputed inst None s = inst
recomputed inst (Some (Word w)) s = inst
recomputed inst (Some (Computes own with)) s = with s
recomputed inst (Some (Gives g)) s = inst

-- an instruction with another sequence; one that is none is as it was
abbrev pub with_sequence : Inst → Sequence → Inst
with_sequence inst s = recomputed inst (described inst) s

-- one with another's registers and type, and with as many temporaries as it has
abbrev pub replaced_by : Sequence → Sequence → Sequence
replaced_by other own = record other { computation = own.computation; tmp3 = replaced other.tmp3 own.tmp3 }

abbrev pub third : Option (Writable Reg) → List Reg
third None = []
third (Some w) = w.reg ∷ []

abbrev pub temporaries_in : Sequence → List Reg
temporaries_in s = s.tmp1.reg ∷ s.tmp2.reg ∷ third s.tmp3

-- the registers that are written while the source is still read
abbrev pub changed_by : Sequence → List Reg
changed_by s = temporaries_in s ++ s.rd.reg ∷ []

abbrev pub sequence_registers : Sequence → List Reg
sequence_registers s = s.rs ∷ changed_by s

abbrev pub registers_by : Option Sequence → List Reg
registers_by None = []
registers_by (Some s) = sequence_registers s

-- ---- what is asked of an instruction whose description gives it

abbrev pub facts_in : Option Description → Option Facts
facts_in None = None
facts_in (Some (Word w)) = None
facts_in (Some (Computes s with)) = None
facts_in (Some (Gives g)) = Some g.facts

abbrev pub facts_of : Inst → Option Facts
facts_of inst = facts_in (described inst)

-- of any other nothing is asked here
abbrev pub asked_of : Inst → Facts
asked_of inst = unwrap_or (facts_of inst) (only_regs (regs None None None None))

abbrev pub result_in : Option (Writable Reg) → List Reg
result_in None = []
result_in (Some w) = w.reg ∷ []

abbrev pub source_in : Option Reg → List Reg
source_in None = []
source_in (Some r) = r ∷ []

abbrev pub sources_in : InstRegs → List Reg
sources_in r = source_in r.rs1 ++ (source_in r.rs2 ++ source_in r.rs3)

-- its registers, the result's first
abbrev pub all_in : InstRegs → List Reg
all_in r = result_in r.rd ++ sources_in r

-- and its temporary before them
abbrev pub facts_registers : Facts → List Reg
facts_registers f = result_in f.scratch ++ all_in f.regs

abbrev pub recorded_in : Option Description → Recorded
recorded_in None = Nothing
recorded_in (Some (Word w)) = Nothing
recorded_in (Some (Computes s with)) = Nothing
recorded_in (Some (Gives g)) = g.records

abbrev pub recorded_of : Inst → Recorded
recorded_of inst = recorded_in (described inst)
