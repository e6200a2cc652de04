-- The pieces of an instruction's code: they name registers and labels of the sequence's own, but no length, no address and no flag.
use Rattle.std.specs.Prelude.{◌≡◌, ℕ, ◌+◌, ◌%◌, ◌^◌, ◌<◌, ◌==◌, ◌&&◌, ℤ, pos, false, if◌then◌else◌, List, [], ◌∷◌, ◌++◌, length, nat_eq, Option, Some, None}
use Rattle.std.specs.Int.{to_le_bytes, w32, w64}
use Rattle.rv_base.specs.declared.condcodes.IntCC.{IntCC}
use Rattle.rv_base.specs.declared.constant.VCodeConstant.{VCodeConstant}
use Rattle.rv_base.specs.declared.external_name.ExternalName.{ExternalName}
use Rattle.rv_base.specs.declared.flags.IsaFlags.{IsaFlags}
use Rattle.rv_base.specs.declared.label.MachLabel.{MachLabel}
use Rattle.rv_base.specs.declared.trap.TrapCode.{TrapCode}
use Rattle.rv_ops.specs.declared.alu.AluOPRRR.{AluOPRRR}
use Rattle.rv_ops.specs.declared.alu.AluOPRRI.{AluOPRRI}
use Rattle.rv_ops.specs.declared.alu.AluOPRRI.TheVariants.{Addi}
use Rattle.rv_ops.specs.declared.atomic.AMO.{AMO}
use Rattle.rv_ops.specs.declared.atomic.AtomicOP.{AtomicOP}
use Rattle.rv_ops.specs.declared.float_fields.FRM.TheVariants.{RNE}
use Rattle.rv_ops.specs.declared.float_fields.FpuOPWidth.{FpuOPWidth}
use Rattle.rv_ops.specs.declared.fpu.FpuOPRRR.TheVariants.{Fsgnj}
use Rattle.rv_ops.specs.declared.fpu_rr.FpuOPRR.{FpuOPRR}
use Rattle.rv_ops.specs.declared.memory.LoadOP.{LoadOP}
use Rattle.rv_ops.specs.declared.memory.LoadOP.TheVariants.{Ld, Lw}
use Rattle.rv_ops.specs.declared.memory.StoreOP.{StoreOP}
use Rattle.rv_ops.specs.Compare.{branch_of, is_reversed}
use Rattle.rv_ops.specs.Memory.{is_float_load}
use Rattle.rv_ops.specs.Operations.{immediate_of, shift_limit}
use Rattle.rv_machine.specs.declared.decoding.Decoded.{Decoded}
use Rattle.rv_machine.specs.declared.ops.MOp.TheVariants.{Base}
use Rattle.rv_machine.specs.declared.ops.BaseOp.TheVariants.{Auipc}
use Rattle.rv_machine.specs.State.{low64}
use Rattle.rv_encode.specs.Operations.{decoded, decoded_atomic, decoded_fence, decoded_load, branch_op, decoded_fpu_rr, decoded_fpu_rrr}
use Rattle.rv_inst.specs.Addresses.{inline_size, is_splittable}
use Rattle.rv_inst.specs.Forms.{jump_kind, short_rrr, short_rri, short_lui, short_load, short_store, short_jalr}
use Rattle.rv_inst.specs.LabelUse.{marks_of}
use Rattle.rv_inst.specs.Rules.{is_beyond}
use Rattle.rv_inst.specs.declared.label_use.LabelUse.TheVariants.{B12, PCRelHi20, PCRelLo12I}
use Rattle.mach_records.specs.declared.records.Event.{Event}
use Rattle.mach_records.specs.declared.records.Event.TheVariants as event
use Rattle.rv_code.specs.Immediates.{upper_of, lower_of, upper_of_distance, lower_of_distance}
use Rattle.rv_code.specs.Operations.{decoded_addi, decoded_jalr, short_jump, jump_size}
use Rattle.rv_code.specs.Slots.{Symbol, AddressOf, SlotOf, Slot, Label, Own, Op, Fixup, Data, Records, Names, Allocate, Here, RelocPair, Address, CallTo}

-- an operation of the machine after which the next one is done: of two registers, or of a register and an immediate; an upper immediate
-- in a register; a load or a store, at a register plus an offset; the move of a floating-point register, of a number of some width; a
-- float operation of one source, which rounds to nearest where it rounds; a fence between two sets of accesses; or an atomic operation with
-- its ordering, of a register, the one with the address, and a source
pub data Action : Type 0 where
  Rrr : AluOPRRR → ℕ → ℕ → ℕ → Action
  Rri : AluOPRRI → ℕ → ℕ → ℤ → Action
  Lui : ℕ → ℤ → Action
  Load : LoadOP → ℕ → ℕ → ℤ → Action
  Store : StoreOP → ℕ → ℕ → ℤ → Action
  Copy : FpuOPWidth → ℕ → ℕ → Action
  Frr : FpuOPRR → FpuOPWidth → ℕ → ℕ → Action
  Fence : ℕ → ℕ → Action
  Amo : AtomicOP → AMO → ℕ → ℕ → ℕ → Action

-- what stands among the code: a number of 32 bits, one of 64 bits, or a symbol's address plus a number, which a linker fills
pub data Literal : Type 0 where
  Word32 : ℕ → Literal
  Word64 : ℕ → Literal
  NameAddress : ExternalName → ℤ → Literal

-- what two words reach by the distance to it: a label of the listing, or a symbol or its slot, whose distance a linker fills
pub data Distant : Type 0 where
  OfLabel : MachLabel → Distant
  OfSymbol : Symbol → Distant

-- such an operation; a register that gets what stands among the code, or the address of what is distant, where that is a symbol's slot what
-- stands in it; a load from a label, which may trap; a record of an event, and a constant that is named, at no byte; a branch to an own label
-- where two registers compare so, and a jump to one; an own label that is allocated, and one that is bound here; a jump to a label of the
-- listing; a jump to a symbol, by way of a register, or to a register's address plus an offset, which links in another; or a trap
pub data Piece : Type 0 where
  Do : Action → Piece
  Constant : ℕ → Literal → Piece
  Take : ℕ → Distant → Piece
  LoadFrom : LoadOP → ℕ → Option TrapCode → MachLabel → Piece
  Note : Event → Piece
  Name : VCodeConstant → Piece
  Branch : IntCC → ℕ → ℕ → ℕ → Piece
  Jump : ℕ → Piece
  New : Piece
  Bind : ℕ → Piece
  Go : MachLabel → Piece
  Call : ℕ → ℕ → ExternalName → Piece
  Jalr : ℕ → ℕ → ℤ → Piece
  Trap : TrapCode → Piece

-- ---- the slots that they become

-- in the shortest form that the flags allow
abbrev pub op_of : IsaFlags → Action → Decoded
op_of flags (Rrr op rd a b) = short_rrr flags op rd a b
op_of flags (Rri op rd rs imm) = short_rri flags op rd rs imm
op_of flags (Lui rd imm) = short_lui flags rd imm
op_of flags (Load op rd base offset) = short_load flags op rd base offset
op_of flags (Store op base src offset) = short_store flags op base src offset
op_of flags (Copy width rd rs) = decoded_fpu_rrr Fsgnj width RNE rd rs rs
op_of flags (Frr op width rd rs) = decoded_fpu_rr op width RNE rd rs
op_of flags (Fence pred succ) = decoded_fence pred succ
op_of flags (Amo op amo rd addr src) = decoded_atomic op amo rd addr src

-- the branch by a distance, where two registers compare so
abbrev pub branches : IntCC → ℕ → ℕ → ℤ → Decoded
branches how a b d = decoded (Base (branch_op (branch_of how))) 0 (if is_reversed how then b else a) (if is_reversed how then a else b) d

-- zero bytes that are no operation, as many as the shortest one has, and the record of their trap
abbrev pub trap_bytes : IsaFlags → List ℕ
trap_bytes flags = if flags.has_zca then 0 ∷ 0 ∷ [] else 0 ∷ 0 ∷ 0 ∷ 0 ∷ []

abbrev pub trap_slots : IsaFlags → TrapCode → List Slot
trap_slots flags code = Records (event.Trap code) ∷ Data (trap_bytes flags) ∷ []

-- a load of so many bytes that stand after it and a jump over them
abbrev pub load_over : IsaFlags → ℕ → LoadOP → ℕ → List Slot
load_over flags rd op size =
    Op (decoded (Base Auipc) rd 0 0 (pos 0)) ∷
    Op (decoded_load op rd rd (pos (8 + jump_size flags))) ∷
    Op (short_jump flags (pos (size + jump_size flags))) ∷
    []

-- a literal: by which load, how many bytes it has, and these
abbrev pub literal_load : Literal → LoadOP
literal_load (Word32 n) = Lw
literal_load (Word64 n) = Ld
literal_load (NameAddress name addend) = Ld

abbrev pub literal_size : Literal → ℕ
literal_size (Word32 n) = 4
literal_size (Word64 n) = 8
literal_size (NameAddress name addend) = 8

abbrev pub literal_slot : Literal → Slot
literal_slot (Word32 n) = Data (to_le_bytes w32 (n % 2 ^ 32))
literal_slot (Word64 n) = Data (to_le_bytes w64 n)
literal_slot (NameAddress name addend) = Address name addend

-- after the code that loads it, which jumps over it
abbrev pub literal_slots : IsaFlags → ℕ → Literal → List Slot
literal_slots flags rd l = load_over flags rd (literal_load l) (literal_size l) ++ literal_slot l ∷ []

-- a register is the upper part of the distance to a label, added to the word's own address
abbrev pub upper_word : ℕ → ℤ → Decoded
upper_word rd d = decoded (Base Auipc) rd 0 0 (upper_of_distance d)

abbrev pub upper_at : ℕ → MachLabel → Slot
upper_at rd l = Fixup PCRelHi20 (Label l) (λ d. upper_word rd d ∷ [])

-- the address of a label in a register
abbrev pub label_slots : ℕ → MachLabel → List Slot
label_slots rd l = upper_at rd l ∷ Fixup PCRelLo12I (Label l) (λ d. decoded_addi rd rd (lower_of_distance d) ∷ []) ∷ []

-- the address of a symbol, or what stands in its slot
abbrev pub lower_word : Symbol → ℕ → ℤ → Decoded
lower_word (AddressOf name addend) rd d = decoded_addi rd rd (lower_of_distance d)
lower_word (SlotOf name) rd d = decoded_load Ld rd rd (lower_of_distance d)

abbrev pub symbol_slots : ℕ → Symbol → List Slot
symbol_slots rd symbol = RelocPair symbol (λ d. upper_word rd d ∷ []) (λ d. lower_word symbol rd d ∷ []) ∷ []

abbrev pub distant_slots : ℕ → Distant → List Slot
distant_slots rd (OfLabel l) = label_slots rd l
distant_slots rd (OfSymbol symbol) = symbol_slots rd symbol

-- the trap of an access, where it may trap
abbrev pub access_slots : Option TrapCode → List Slot
access_slots None = []
access_slots (Some code) = Records (event.Trap code) ∷ []

-- the register in which a load from a label has the upper part of its distance: its own, or x31 where that is a floating-point register
abbrev pub label_base : LoadOP → ℕ → ℕ
label_base op rd = if is_float_load op then 31 else rd

-- a load from a label: the lower part of its distance is in the load's word
abbrev pub label_load_slots : ℕ → ℕ → LoadOP → Option TrapCode → MachLabel → List Slot
label_load_slots base rd op trap l =
    upper_at base l ∷ access_slots trap ++ Fixup PCRelLo12I (Label l) (λ d. decoded_load op rd base (lower_of_distance d) ∷ []) ∷ []

-- to a symbol by the distance to it, by way of a register; another one is the address after it
abbrev pub call_to : ℕ → ℕ → ExternalName → Slot
call_to link tmp name = CallTo name (λ d. decoded (Base Auipc) tmp 0 0 (upper_of d) ∷ decoded_jalr link tmp (lower_of d) ∷ [])

abbrev pub slots_for : IsaFlags → Piece → List Slot
slots_for flags (Do a) = Op (op_of flags a) ∷ []
slots_for flags (Constant rd l) = literal_slots flags rd l
slots_for flags (Take rd to) = distant_slots rd to
slots_for flags (LoadFrom op rd trap l) = label_load_slots (label_base op rd) rd op trap l
slots_for flags (Note event) = Records event ∷ []
slots_for flags (Name k) = Names k ∷ []
slots_for flags (Branch how a b k) = Fixup B12 (Own k) (λ d. branches how a b d ∷ []) ∷ []
slots_for flags (Jump k) = Fixup (jump_kind flags) (Own k) (λ d. short_jump flags d ∷ []) ∷ []
slots_for flags New = Allocate ∷ []
slots_for flags (Bind k) = Here k ∷ []
slots_for flags (Go l) = Fixup (jump_kind flags) (Label l) (λ d. short_jump flags d ∷ []) ∷ []
slots_for flags (Call link tmp name) = call_to link tmp name ∷ []
slots_for flags (Jalr link rs offset) = Op (short_jalr flags link rs offset) ∷ []
slots_for flags (Trap code) = trap_slots flags code

abbrev pub slots_of : IsaFlags → List Piece → List Slot
slots_of flags [] = []
slots_of flags (p ∷ ps) = slots_for flags p ++ slots_of flags ps

-- how long they are
abbrev pub piece_size : IsaFlags → Piece → ℕ
piece_size flags (Do a) = (op_of flags a).len
piece_size flags (Constant rd l) = inline_size flags (literal_size l)
piece_size flags (Take rd to) = 8
piece_size flags (LoadFrom op rd trap l) = 8
piece_size flags (Note event) = 0
piece_size flags (Name k) = 0
piece_size flags (Branch how a b k) = 4
piece_size flags (Jump k) = length (marks_of (jump_kind flags))
piece_size flags New = 0
piece_size flags (Bind k) = 0
piece_size flags (Go l) = length (marks_of (jump_kind flags))
piece_size flags (Call link tmp name) = 8
piece_size flags (Jalr link rs offset) = (short_jalr flags link rs offset).len
piece_size flags (Trap code) = length (trap_bytes flags)

abbrev pub pieces_size : IsaFlags → List Piece → ℕ
pieces_size flags [] = 0
pieces_size flags (p ∷ ps) = piece_size flags p + pieces_size flags ps

-- and at most, in whatever forms
abbrev pub piece_most : Piece → ℕ
piece_most (Do a) = 4
piece_most (Constant rd l) = 12 + literal_size l
piece_most (Take rd to) = 8
piece_most (LoadFrom op rd trap l) = 8
piece_most (Note event) = 0
piece_most (Name k) = 0
piece_most (Branch how a b k) = 4
piece_most (Jump k) = 4
piece_most New = 0
piece_most (Bind k) = 0
piece_most (Go l) = 4
piece_most (Call link tmp name) = 8
piece_most (Jalr link rs offset) = 4
piece_most (Trap code) = 4

abbrev pub pieces_most : List Piece → ℕ
pieces_most [] = 0
pieces_most (p ∷ ps) = piece_most p + pieces_most ps

-- ---- what they ask

-- numbers of registers, shift amounts and immediates in their ranges; of what is among the code or distant, no x0, but for a load of a
-- floating-point register
abbrev pub IsInRange : Action → Type 0
IsInRange (Rrr op rd a b) = rd < 32
IsInRange (Rri op rd rs imm) = (rd < 32) × (is_beyond (shift_limit (immediate_of op)) imm ≡ false) × (low64 imm < 2 ^ 64)
IsInRange (Lui rd imm) = rd < 32
IsInRange (Load op rd base offset) = rd < 32
IsInRange (Store op base src offset) = Unit {0}
IsInRange (Copy width rd rs) = rd < 32
IsInRange (Frr op width rd rs) = rd < 32
IsInRange (Fence pred succ) = Unit {0}
IsInRange (Amo op amo rd addr src) = rd < 32

abbrev pub AreInRange : List Piece → Type 0
AreInRange [] = Unit {0}
AreInRange (Do a ∷ ps) = IsInRange a × AreInRange ps
AreInRange (Constant rd l ∷ ps) = ((0 < rd) × (rd < 32)) × AreInRange ps
AreInRange (Take rd to ∷ ps) = ((0 < rd) × (rd < 32)) × AreInRange ps
AreInRange (LoadFrom op rd trap l ∷ ps) = ((is_float_load op ≡ false → 0 < rd) × (rd < 32)) × AreInRange ps
AreInRange (Note event ∷ ps) = AreInRange ps
AreInRange (Name k ∷ ps) = AreInRange ps
AreInRange (Branch how a b k ∷ ps) = AreInRange ps
AreInRange (Jump k ∷ ps) = AreInRange ps
AreInRange (New ∷ ps) = AreInRange ps
AreInRange (Bind k ∷ ps) = AreInRange ps
AreInRange (Go l ∷ ps) = AreInRange ps
AreInRange (Call link tmp name ∷ ps) = AreInRange ps
AreInRange (Jalr link rs offset ∷ ps) = AreInRange ps
AreInRange (Trap code ∷ ps) = AreInRange ps

-- ---- own labels

-- the pieces after an own label's place
abbrev pub after : ℕ → List Piece → Option (List Piece)
after k [] = None
after k (Do a ∷ ps) = after k ps
after k (Constant rd l ∷ ps) = after k ps
after k (Take rd to ∷ ps) = after k ps
after k (LoadFrom op rd trap l ∷ ps) = after k ps
after k (Note event ∷ ps) = after k ps
after k (Name constant ∷ ps) = after k ps
after k (Branch how a b j ∷ ps) = after k ps
after k (Jump j ∷ ps) = after k ps
after k (New ∷ ps) = after k ps
after k (Bind j ∷ ps) = if nat_eq j k then Some ps else after k ps
after k (Go l ∷ ps) = after k ps
after k (Call link tmp name ∷ ps) = after k ps
after k (Jalr link rs offset ∷ ps) = after k ps
after k (Trap code ∷ ps) = after k ps

-- how many are allocated
abbrev pub own_labels : List Piece → ℕ
own_labels [] = 0
own_labels (Do a ∷ ps) = own_labels ps
own_labels (Constant rd l ∷ ps) = own_labels ps
own_labels (Take rd to ∷ ps) = own_labels ps
own_labels (LoadFrom op rd trap l ∷ ps) = own_labels ps
own_labels (Note event ∷ ps) = own_labels ps
own_labels (Name k ∷ ps) = own_labels ps
own_labels (Branch how a b k ∷ ps) = own_labels ps
own_labels (Jump k ∷ ps) = own_labels ps
own_labels (New ∷ ps) = 1 + own_labels ps
own_labels (Bind k ∷ ps) = own_labels ps
own_labels (Go l ∷ ps) = own_labels ps
own_labels (Call link tmp name ∷ ps) = own_labels ps
own_labels (Jalr link rs offset ∷ ps) = own_labels ps
own_labels (Trap code ∷ ps) = own_labels ps

-- an own label is bound in a whole
abbrev pub IsBoundIn : List Piece → ℕ → Type 0
IsBoundIn whole k = (qs : List Piece) × (after k whole ≡ Some qs)

-- each own label that pieces use or bind is one of so many
abbrev pub AreAmong : ℕ → List Piece → Type 0
AreAmong total [] = Unit {0}
AreAmong total (Do a ∷ ps) = AreAmong total ps
AreAmong total (Constant rd l ∷ ps) = AreAmong total ps
AreAmong total (Take rd to ∷ ps) = AreAmong total ps
AreAmong total (LoadFrom op rd trap l ∷ ps) = AreAmong total ps
AreAmong total (Note event ∷ ps) = AreAmong total ps
AreAmong total (Name k ∷ ps) = AreAmong total ps
AreAmong total (Branch how a b k ∷ ps) = (k < total) × AreAmong total ps
AreAmong total (Jump k ∷ ps) = (k < total) × AreAmong total ps
AreAmong total (New ∷ ps) = AreAmong total ps
AreAmong total (Bind k ∷ ps) = (k < total) × AreAmong total ps
AreAmong total (Go l ∷ ps) = AreAmong total ps
AreAmong total (Call link tmp name ∷ ps) = AreAmong total ps
AreAmong total (Jalr link rs offset ∷ ps) = AreAmong total ps
AreAmong total (Trap code ∷ ps) = AreAmong total ps

-- pieces use and bind no own label but those that they allocate, and bind each of these
pub record AreClosedPieces (whole : List Piece) : Type 0 where
  pub among : AreAmong (own_labels whole) whole
  pub bound : (k : ℕ) → k < own_labels whole → IsBoundIn whole k

-- none of them names a label of the listing, or a constant
abbrev pub IsNoLabel : Distant → Type 0
IsNoLabel (OfLabel l) = ⊥
IsNoLabel (OfSymbol symbol) = Unit {0}

abbrev pub GoNowhere : List Piece → Type 0
GoNowhere [] = Unit {0}
GoNowhere (Do a ∷ ps) = GoNowhere ps
GoNowhere (Constant rd l ∷ ps) = GoNowhere ps
GoNowhere (Take rd to ∷ ps) = IsNoLabel to × GoNowhere ps
GoNowhere (LoadFrom op rd trap l ∷ ps) = ⊥
GoNowhere (Note event ∷ ps) = GoNowhere ps
GoNowhere (Name k ∷ ps) = ⊥
GoNowhere (Branch how a b k ∷ ps) = GoNowhere ps
GoNowhere (Jump k ∷ ps) = GoNowhere ps
GoNowhere (New ∷ ps) = GoNowhere ps
GoNowhere (Bind k ∷ ps) = GoNowhere ps
GoNowhere (Go l ∷ ps) = ⊥
GoNowhere (Call link tmp name ∷ ps) = GoNowhere ps
GoNowhere (Jalr link rs offset ∷ ps) = GoNowhere ps
GoNowhere (Trap code ∷ ps) = GoNowhere ps

-- ---- a number in a register

-- by an upper and a lower immediate, or by the upper alone where the lower is 0
abbrev pub lower_pieces : ℕ → ℤ → List Piece
lower_pieces rd lower = if low64 lower == 0 then [] else Do (Rri Addi rd rd lower) ∷ []

abbrev pub immediate_pieces : ℕ → ℤ → ℤ → List Piece
immediate_pieces rd upper lower = Do (Lui rd upper) ∷ lower_pieces rd lower

-- by these, or from among the code
abbrev pub offset_pieces : ℕ → ℤ → List Piece
offset_pieces rd o = if is_splittable o then immediate_pieces rd (upper_of o) (lower_of o) else Constant rd (Word64 (low64 o)) ∷ []

-- of 64 bits, by its lower immediate alone where the upper one is 0
abbrev pub number_pieces : ℕ → ℤ → List Piece
number_pieces rd z = if is_splittable z && low64 (upper_of z) == 0 then Do (Rri Addi rd 0 (lower_of z)) ∷ [] else offset_pieces rd z
