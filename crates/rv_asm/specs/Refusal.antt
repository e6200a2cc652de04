-- Why a job is refused: the first cause, in the order in which the causes are looked for.
use Rattle.std.specs.Prelude.{◌≡◌, ℕ, suc, ◌+◌, ◌^◌, Bool, false, ◌||◌, nat_eq, nat_lt, if◌then◌else◌, List, [], ◌∷◌, length, Option, Some, None, Result, Ok, Err}
use Rattle.std.specs.List.{list_any}
use Rattle.rv_base.specs.declared.constant.Constant.{Constant}
use Rattle.rv_base.specs.declared.frame.FrameLayout.{FrameLayout}
use Rattle.rv_base.specs.declared.label.MachLabel.{MachLabel}
use Rattle.rv_inst.specs.Context.{Context, context_of}
use Rattle.rv_inst.specs.declared.job.Job.{Job}
use Rattle.rv_inst.specs.declared.inst.Line.{Line}
use Rattle.rv_inst.specs.declared.inst.Line.TheVariants.{Inst as Put, Bind}
use Rattle.rv_inst.specs.declared.error.Rule.{Rule}
use Rattle.rv_inst.specs.declared.error.EmitError.{EmitError}
use Rattle.rv_inst.specs.declared.error.EmitError.TheVariants.{BadFrame, Malformed, LabelTwice, UnboundLabel, TooLarge, OutOfMemory}
use Rattle.rv_inst.specs.Frames.{is_bad_frame, is_unrestorable_for}
use Rattle.rv_inst.specs.Operands.{named_labels, tail_call_of}
use Rattle.rv_inst.specs.Rules.{first_of, broken_rule}
use Rattle.rv_inst.specs.Sizes.{line_sum}

abbrev pub malformed : ℕ → Option Rule → Option EmitError
malformed index None = None
malformed index (Some rule) = Some (Malformed index rule)

-- whether a line is a tail call that can't restore a frame
abbrev pub is_unfit : FrameLayout → Line → Bool
is_unfit frame (Put inst) = is_unrestorable_for frame (tail_call_of inst)
is_unfit frame (Bind label) = false

-- a frame that no function has, or that one of these lines can't restore
abbrev pub has_bad_frame : FrameLayout → List Line → Bool
has_bad_frame frame lines = is_bad_frame frame || list_any (is_unfit frame) lines

abbrev pub bad_frame : FrameLayout → List Line → Option EmitError
bad_frame frame lines = if has_bad_frame frame lines then Some BadFrame else None

-- the first line that breaks a rule in the context, the first of them all having an index
abbrev pub broken_from : Context → ℕ → List Line → Option EmitError
broken_from context index [] = None
broken_from context index (line ∷ lines) = first_of (malformed index (broken_rule context line)) (broken_from context (suc index) lines)

-- whether a line binds a label
abbrev pub binds : Line → ℕ → Bool
binds (Bind l) label = nat_eq l.number label
binds (Put inst) label = false

-- whether one of these lines binds a label
abbrev pub is_bound : List Line → ℕ → Bool
is_bound [] label = false
is_bound (line ∷ lines) label = binds line label || is_bound lines label

-- a label that is bound already, by this test, is bound twice
abbrev pub twice_of : (ℕ → Bool) → MachLabel → Option EmitError
twice_of bound l = if bound l.number then Some (LabelTwice l.number) else None

abbrev pub twice_in : (ℕ → Bool) → Line → Option EmitError
twice_in bound (Bind l) = twice_of bound l
twice_in bound (Put inst) = None

-- the first line that binds a label which is bound already, before or by a line in front of it
abbrev pub twice_from : (ℕ → Bool) → List Line → Option EmitError
twice_from bound [] = None
twice_from bound (line ∷ lines) = first_of (twice_in bound line) (twice_from (λ label. binds line label || bound label) lines)

-- the first of these labels that isn't bound
abbrev pub unbound_among : (ℕ → Bool) → List MachLabel → Option EmitError
unbound_among bound [] = None
unbound_among bound (l ∷ labels) = if bound l.number then unbound_among bound labels else Some (UnboundLabel l.number)

-- the first line that names a label that isn't bound
abbrev pub unbound_in : (ℕ → Bool) → List Line → Option EmitError
unbound_in bound [] = None
unbound_in bound (line ∷ lines) = first_of (unbound_among bound (named_labels line)) (unbound_in bound lines)

-- the bytes that constants count for: of each its own, and 16 that its alignment may take
abbrev pub constants_sum : List Constant → ℕ
constants_sum [] = 0
constants_sum (c ∷ constants) = length c.bytes + 16 + constants_sum constants

-- and those that lines do
abbrev pub lines_sum : Context → List Line → ℕ
lines_sum context [] = 0
lines_sum context (line ∷ lines) = line_sum context line + lines_sum context lines

-- the bytes that lines and all constants count for, which their code doesn't pass
abbrev pub size_sum : Context → List Line → ℕ
size_sum context lines = constants_sum context.constants + lines_sum context lines

-- they count for at most this many bytes, which is well below the limit of code
abbrev pub size_limit : ℕ
size_limit = 2 ^ 30

-- lines and constants that count for more than branches and spans are sure to take
abbrev pub too_large : Context → List Line → Option EmitError
too_large context lines = if nat_lt size_limit (size_sum context lines) then Some TooLarge else None

-- why lines are refused in a context, if they are
unfoldable pub lines_refusal : Context → List Line → Option EmitError
lines_refusal context lines =
    first_of
    (broken_from context 0 lines)
    (first_of (twice_from (λ label. false) lines) (first_of (unbound_in (is_bound lines) lines) (too_large context lines)))

-- why a job is refused, if it is
unfoldable pub refusal : Job → Option EmitError
refusal job = first_of (bad_frame job.frame job.lines) (lines_refusal (context_of job) job.lines)

-- what a look for an error returns; out of memory may come at any time
abbrev pub Finds : {X : Type 0} → Option EmitError → Result X EmitError → Type 0
Finds found (Ok x) = found ≡ None
Finds found (Err OutOfMemory) = Unit {0}
Finds found (Err BadFrame) = found ≡ Some BadFrame
Finds found (Err (Malformed index rule)) = found ≡ Some (Malformed index rule)
Finds found (Err (LabelTwice label)) = found ≡ Some (LabelTwice label)
Finds found (Err (UnboundLabel label)) = found ≡ Some (UnboundLabel label)
Finds found (Err TooLarge) = found ≡ Some TooLarge
