-- The pieces of addresses, loads and stores, and of frames that are taken away.
use Rattle.std.specs.Prelude.{ℕ, ◌==◌, ℤ, pos, if◌then◌else◌, List, [], ◌∷◌, ◌++◌, Option, Some, None}
use Rattle.rv_base.specs.declared.flags.IsaFlags.{IsaFlags}
use Rattle.rv_base.specs.declared.frame.FrameLayout.{FrameLayout}
use Rattle.rv_base.specs.declared.ir_type.IrType.{IrType}
use Rattle.rv_base.specs.declared.trap.TrapCode.{TrapCode}
use Rattle.rv_ops.specs.declared.alu.AluOPRRR.TheVariants.{Add, Or}
use Rattle.rv_ops.specs.declared.alu.AluOPRRI.TheVariants.{Addi}
use Rattle.rv_ops.specs.declared.float_fields.FpuOPWidth.TheVariants.{S}
use Rattle.rv_ops.specs.declared.fpu_rr.FpuOPRR.TheVariants.{FmvXFmt, FmvFmtX}
use Rattle.rv_ops.specs.declared.memory.LoadOP.{LoadOP}
use Rattle.rv_ops.specs.declared.memory.LoadOP.TheVariants.{Lh}
use Rattle.rv_ops.specs.declared.memory.StoreOP.{StoreOP}
use Rattle.rv_ops.specs.declared.memory.StoreOP.TheVariants.{Sh}
use Rattle.rv_machine.specs.State.{low64}
use Rattle.rv_encode.specs.Operations.{has_load, has_store}
use Rattle.rv_inst.specs.Descriptions.{load_for, store_for}
use Rattle.rv_inst.specs.Addresses.{Location, Based, AtLabel, AtConstant, is_near}
use Rattle.rv_inst.specs.Halves.{high_bits}
use Rattle.rv_inst.specs.Returns.{StackLoad, restores, frame_above}
use Rattle.mach_uses.specs.Labels.{constant_label}
use Rattle.mach_records.specs.declared.records.Event.TheVariants as event
use Rattle.rv_code.specs.Pieces.{Action, Rrr, Rri, Lui, Load, Store, Frr, Fence, Piece, Do, Take, LoadFrom, Note, Name, OfLabel, number_pieces, offset_pieces}

-- any address; a constant's is that of its label, once the constant is named
abbrev pub address_pieces : ℕ → Location → List Piece
address_pieces rd (Based r o) = if is_near o then Do (Rri Addi rd r o) ∷ [] else offset_pieces rd o ++ Do (Rrr Add rd rd r) ∷ []
address_pieces rd (AtLabel l) = Take rd (OfLabel l) ∷ []
address_pieces rd (AtConstant k) = Name k ∷ Take rd (OfLabel (constant_label k)) ∷ []

-- the trap of an access, where it may trap
abbrev pub access_pieces : Option TrapCode → List Piece
access_pieces None = []
access_pieces (Some code) = Note (event.Trap code) ∷ []

-- an operation at a register plus an offset
abbrev pub Access : Type 0
Access = ℕ → ℤ → Action

-- at any address, which is computed in x31
abbrev pub far_pieces : Access → Option TrapCode → Location → List Piece
far_pieces access trap at = address_pieces 31 at ++ (access_pieces trap ++ Do (access 31 (pos 0)) ∷ [])

-- at once, where the offset is near
abbrev pub based_pieces : Access → Option TrapCode → ℕ → ℤ → List Piece
based_pieces access trap r o = if is_near o then access_pieces trap ++ Do (access r o) ∷ [] else far_pieces access trap (Based r o)

-- a load
abbrev pub load_pieces : LoadOP → ℕ → Option TrapCode → Location → List Piece
load_pieces op rd trap (Based r o) = based_pieces (Load op rd) trap r o
load_pieces op rd trap (AtLabel l) = LoadFrom op rd trap l ∷ []
load_pieces op rd trap (AtConstant k) = Name k ∷ LoadFrom op rd trap (constant_label k) ∷ []

-- the sets of accesses of a fence: reads, writes, and both
abbrev pub reads : ℕ
reads = 2

abbrev pub writes : ℕ
writes = 1

abbrev pub reads_and_writes : ℕ
reads_and_writes = 3

-- an integer that is read after all that was read and written, and before all else
abbrev pub atomic_load_pieces : IrType → ℕ → ℕ → List Piece
atomic_load_pieces type rd p = Do (Fence reads_and_writes reads_and_writes) ∷ Do (Load (load_for type) rd p (pos 0)) ∷ Do (Fence reads reads_and_writes) ∷ []

-- one that is written after all that was read and written
abbrev pub atomic_store_pieces : IrType → ℕ → ℕ → List Piece
atomic_store_pieces type src p = Do (Fence reads_and_writes writes) ∷ Do (Store (store_for type) p src (pos 0)) ∷ []

-- a store
abbrev pub store_access : StoreOP → ℕ → Access
store_access op src base offset = Store op base src offset

abbrev pub store_pieces : StoreOP → ℕ → Option TrapCode → Location → List Piece
store_pieces op src trap (Based r o) = based_pieces (store_access op src) trap r o
store_pieces op src trap (AtLabel l) = far_pieces (store_access op src) trap (AtLabel l)
store_pieces op src trap (AtConstant k) = far_pieces (store_access op src) trap (AtConstant k)

-- A half by integer registers, where the machine has no load, or no store, of halves: one that is loaded into x31 gets ones above it, and
-- goes to its floating-point register; one that is stored comes from there to x30.
abbrev pub boxing_pieces : ℕ → List Piece
boxing_pieces rd = Do (Lui 30 high_bits) ∷ Do (Rrr Or 31 31 30) ∷ Do (Frr FmvFmtX S rd 31) ∷ []

abbrev pub half_load_pieces : ℕ → Option TrapCode → Location → List Piece
half_load_pieces rd trap at = load_pieces Lh 31 trap at ++ boxing_pieces rd

abbrev pub half_store_pieces : ℕ → Option TrapCode → Location → List Piece
half_store_pieces src trap at = Do (Frr FmvXFmt S 30 src) ∷ store_pieces Sh 30 trap at

-- the load, or the store, of a line
abbrev pub load_line_pieces : IsaFlags → LoadOP → ℕ → Option TrapCode → Location → List Piece
load_line_pieces flags op rd trap at = if has_load flags op then load_pieces op rd trap at else half_load_pieces rd trap at

abbrev pub store_line_pieces : IsaFlags → StoreOP → ℕ → Option TrapCode → Location → List Piece
store_line_pieces flags op src trap at = if has_store flags op then store_pieces op src trap at else half_store_pieces src trap at

-- ---- frames

-- loads from the stack, one after the other
abbrev pub stack_load_pieces : IsaFlags → List StackLoad → List Piece
stack_load_pieces flags [] = []
stack_load_pieces flags (l ∷ loads) = load_line_pieces flags l.op l.register None (Based 2 l.offset) ++ stack_load_pieces flags loads

-- the stack pointer rises: by addi, or by a number in x31; not at all by 0
abbrev pub far_step_pieces : ℤ → List Piece
far_step_pieces z = number_pieces 31 z ++ Do (Rrr Add 2 2 31) ∷ []

abbrev pub stack_step_pieces : ℤ → List Piece
stack_step_pieces z = if low64 z == 0 then [] else if is_near z then Do (Rri Addi 2 2 z) ∷ [] else far_step_pieces z

-- a frame is taken away
abbrev pub return_pieces : IsaFlags → FrameLayout → ℕ → List Piece
return_pieces flags frame arguments = stack_load_pieces flags (restores frame) ++ stack_step_pieces (pos (frame_above frame arguments))
