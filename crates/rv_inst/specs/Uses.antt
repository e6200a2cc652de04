-- The uses of labels that an instruction makes, those of constants among them, and how far they reach.
use Rattle.std.specs.Prelude.{ℕ, ◌+◌, ◌-◌, Bool, true, false, if◌then◌else◌, List, [], ◌∷◌, Option, Some, None}
use Rattle.rv_base.specs.declared.call.TryCallInfo.{TryCallInfo}
use Rattle.rv_base.specs.declared.flags.IsaFlags.{IsaFlags}
use Rattle.rv_base.specs.declared.label.MachLabel.{MachLabel}
use Rattle.rv_inst.specs.declared.inst.Line.{Line}
use Rattle.rv_inst.specs.declared.inst.Line.TheVariants.{Inst as Put, Bind}
use Rattle.rv_inst.specs.declared.inst.Inst.{Inst}
use Rattle.rv_inst.specs.declared.inst.CondBrTarget.{CondBrTarget}
use Rattle.rv_inst.specs.declared.inst.CondBrTarget.TheVariants.{Label, Fallthrough}
use Rattle.rv_inst.specs.declared.label_use.LabelUse.{LabelUse}
use Rattle.rv_inst.specs.declared.label_use.LabelUse.TheVariants.{Jal20, B12, PCRelHi20, PCRelLo12I, RVCJump}
use Rattle.rv_inst.specs.declared.targets.Targets.{Targets}
use Rattle.rv_inst.specs.declared.targets.Targets.TheVariants.{Nowhere, Jumps, Branches, Refers, RefersConstant}
use Rattle.rv_inst.specs.Context.{Context}
use Rattle.rv_inst.specs.Forms.{jump_kind, jump_size}
use Rattle.rv_inst.specs.LabelUse.{forward_of}
use Rattle.rv_inst.specs.Operands.{targets_of, try_call_of}
use Rattle.rv_inst.specs.Sizes.{inst_code}
use Rattle.mach_uses.specs.Labels.{constant_label}
use Rattle.mach_uses.specs.declared.uses.Use.{Use}

abbrev pub use_at : ℕ → MachLabel → LabelUse → Use LabelUse
use_at offset label kind = record { offset = offset; label = label; kind = kind; veneer = None }

abbrev pub branch_uses : IsaFlags → ℕ → CondBrTarget → CondBrTarget → List (Use LabelUse)
branch_uses flags start Fallthrough not_taken = []
branch_uses flags start (Label t) Fallthrough = use_at start t B12 ∷ []
branch_uses flags start (Label t) (Label f) = use_at start t B12 ∷ use_at (start + 4) f (jump_kind flags) ∷ []

-- an address is taken by its upper and its lower part, in two words
abbrev pub target_uses : IsaFlags → ℕ → Targets → List (Use LabelUse)
target_uses flags start Nowhere = []
target_uses flags start (Jumps label) = use_at start label (jump_kind flags) ∷ []
target_uses flags start (Branches taken not_taken) = branch_uses flags start taken not_taken
target_uses flags start (Refers label) = use_at start label PCRelHi20 ∷ use_at (start + 4) label PCRelLo12I ∷ []
target_uses flags start (RefersConstant constant read) =
    use_at start (constant_label constant) PCRelHi20 ∷ use_at (start + 4) (constant_label constant) PCRelLo12I ∷ []

-- a call that ends its block goes on by a jump, which is its last instruction
abbrev pub uses_by : IsaFlags → ℕ → ℕ → Option TryCallInfo → Targets → List (Use LabelUse)
uses_by flags start end None targets = target_uses flags start targets
uses_by flags start end (Some t) targets = use_at (end - jump_size flags) t.continuation (jump_kind flags) ∷ []

-- where they begin: at the start, or after a word of four bytes
abbrev pub uses_start : Bool → ℕ → ℕ
uses_start false start = start
uses_start true start = start + 4

-- the uses of an instruction between two offsets, in the order in which it names their labels, or for its constant
abbrev pub uses_in : Context → ℕ → ℕ → Inst → List (Use LabelUse)
uses_in context start end inst = uses_by context.flags (uses_start (inst_code context inst).led start) end (try_call_of inst) (targets_of inst)

-- how far a jump reaches
abbrev pub jump_reach : IsaFlags → ℕ
jump_reach flags = if flags.has_zca then forward_of RVCJump else forward_of Jal20

-- how far the shortest use that may go by a veneer reaches, counted from the line's start: that of a jump of sixteen bits, or
-- else a branch's, or else a jump's
abbrev pub target_reach : IsaFlags → Targets → ℕ
target_reach flags Nowhere = forward_of Jal20
target_reach flags (Jumps label) = jump_reach flags
target_reach flags (Branches taken not_taken) = if flags.has_zca then forward_of RVCJump else forward_of B12
target_reach flags (Refers label) = forward_of Jal20
target_reach flags (RefersConstant constant read) = forward_of Jal20

abbrev pub inst_reach : IsaFlags → Option TryCallInfo → Targets → ℕ
inst_reach flags None targets = target_reach flags targets
inst_reach flags (Some t) targets = jump_reach flags

abbrev pub least_reach : Context → Line → ℕ
least_reach context (Put inst) = inst_reach context.flags (try_call_of inst) (targets_of inst)
least_reach context (Bind label) = forward_of Jal20
