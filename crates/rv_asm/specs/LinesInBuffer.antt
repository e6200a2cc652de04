-- What stands in the buffer after some lines: what the loop of `assemble` keeps, and what one line adds. Links of the
-- proof.
use Rattle.std.specs.Prelude.{◌≡◌, ◌≢◌, ℕ, ◌+◌, ◌-◌, ◌*◌, ◌%◌, ◌^◌, ◌<◌, ◌≤◌, ◌⊎◌, Bool, true, false, List, [], ◌++◌, length, Option, Some, None, is_some, slice_get}
use Rattle.std.specs.List.{AllByRecursion}
use Rattle.rv_base.specs.declared.flags.IsaFlags.{IsaFlags}
use Rattle.rv_base.specs.declared.label.MachLabel.{MachLabel}
use Rattle.rv_base.specs.Frame.{sp_to_args_end}
use Rattle.rv_base.specs.LabelUse.{code_limit}
use Rattle.mach_labels.specs.Table.{first_inner, first_constant}
use Rattle.rv_inst.specs.Context.{Context}
use Rattle.rv_inst.specs.declared.inst.Line.{Line}
use Rattle.rv_inst.specs.declared.inst.Line.TheVariants.{Inst as Put, Bind}
use Rattle.rv_inst.specs.declared.inst.Inst.{Inst}
use Rattle.rv_inst.specs.declared.code.LineSpan.{LineSpan}
use Rattle.rv_inst.specs.declared.code.CallReturn.{CallReturn}
use Rattle.rv_inst.specs.declared.label_use.LabelUse.{LabelUse}
use Rattle.rv_inst.specs.Operands.{named_labels, tail_call_of}
use Rattle.rv_inst.specs.Rules.{broken_rule}
use Rattle.rv_inst.specs.LabelUse.{label_kinds, has_veneer_of}
use Rattle.mach_uses.specs.declared.uses.Use.{Use}
use Rattle.mach_uses.specs.Reach.{CanReach, due_by}
use Rattle.mach_buffer.specs.Shape.{Shape}
use Rattle.mach_buffer.specs.Buffer.{shape_of, bytes_of, uses_of, place_of, labels_of, allocated_of, records_of, registered_of, named_of, constants_of}
use Rattle.mach_uses.specs.Labels.{listed}
use Rattle.mach_buffer.specs.Constants.{reserve_of, AllStand}
use Rattle.mach_buffer.specs.Islands.{is_far}
use Rattle.rv_sequences.specs.Emitted.{Buffer, IsSoundBuffer, HasLeast, HasReturn, HasWindows, pending, IslandIfNeeded}
use Rattle.rv_sequences.specs.NewConstants.{StandInTurn}
use Rattle.rv_emit.specs.Emission.{EmitsIn}
use Rattle.rv_sequences.specs.Images.{FieldsStand}
use Rattle.rv_code.specs.InstParts.{parts_of}
use Rattle.rv_emit.specs.Standing.{GapStandsIn, PartsIn}
use Rattle.rv_code.specs.declared.state.EmitVState.{EmitVState}
use Rattle.rv_code.specs.declared.state.EmitVState.TheVariants.{Unknown}
use Rattle.rv_emit.specs.State.{setting_after, setting_beyond}
use Rattle.rv_asm.specs.Reported.{start_of, end_of, end_before, binds_from, line_returns, records_from, constants_named, StandApart}
use Rattle.rv_base.specs.declared.frame.FrameLayout.{FrameLayout}
use Rattle.rv_inst.specs.Frames.{is_bad_frame_for}
use Rattle.rv_asm.specs.Refusal.{binds, is_bound, size_sum}
use Rattle.rv_inst.specs.Sizes.{IsOfSize, Request, first_in, inst_size, request_of, line_space, line_sum}
use Rattle.rv_asm.specs.Spans.{Gap, from_of, to_of}

-- ---- where lines stand

-- in the gap of an instruction stands nothing, or, where it asks for one, an island
abbrev pub GapAsked : IsaFlags → Option Request → Shape LabelUse → ℕ → ℕ → Type 0
GapAsked flags None f from to = from ≡ to
GapAsked flags (Some r) f from to = GapStandsIn flags f from to

-- and before it, and around it, stand as many bytes as it may have
pub record SpansIn (context : Context) (inst : Inst) (f : Shape LabelUse) (start from to end : ℕ) : Type 0 where
  pub first : start ≤ from
  pub gap : GapAsked context.flags (request_of context inst) f from to
  pub last : to ≤ end
  pub begins : IsOfSize (first_in (request_of context inst)) (from - start)
  pub size : IsOfSize (inst_size context inst) (from - start + (end - to))
  pub least : is_some (request_of context inst) ≡ true → HasLeast context inst (from - start) (end - to)
  pub back : HasReturn context inst start end

-- the parts of an instruction stand between two offsets, by some setting of the vector unit; a bind has no bytes
abbrev pub LineStands : Context → Line → Buffer → ℕ → ℕ → ℕ → ℕ → Type 0
LineStands context (Put inst) b start from to end =
    (setting : EmitVState) ×
    PartsIn context.flags (parts_of context setting inst) (shape_of b) start end ×
    SpansIn context inst (shape_of b) start from to end
LineStands context (Bind label) b start from to end = (start ≡ end) × (place_of b label.number ≡ Some start) × (from ≡ to)

-- after the offset where the line before ends stands nothing, or an island, and then the line
pub record StandsAfter (context : Context) (line : Line) (b : Buffer) (before start from to end : ℕ) : Type 0 where
  pub gap : GapStandsIn context.flags (shape_of b) before start
  pub there : LineStands context line b start from to end
  pub even : start % 2 ≡ 0
  pub within : start ≤ length (bytes_of b)
  pub ends : end ≤ length (bytes_of b)

-- each line stands at its span, and before it nothing or an island; the constants that islands took with them stand, one after
-- the other, and apart from the words of instructions; and what relocations fill is apart from the windows of uses
pub record LinesStand (context : Context) (lines : List Line) (spans : List LineSpan) (gaps : List Gap) (b : Buffer) : Type 0 where
  pub count : length spans ≡ length lines
  pub gap_count : length gaps ≡ length lines
  pub indices : (i : ℕ) (s : LineSpan) → slice_get spans i ≡ Some s → s.index ≡ i
  pub each :
      (i : ℕ) (line : Line) →
      slice_get lines i ≡ Some line →
      StandsAfter context line b (end_before spans i) (start_of spans i) (from_of gaps i) (to_of gaps i) (end_of spans i)
  pub ends : length (bytes_of b) ≡ end_before spans (length lines)
  pub first : start_of spans 0 ≡ 0
  pub nothing : length lines ≡ 0 → uses_of b ≡ []
  pub records : records_of b ≡ records_from context spans 0 lines
  pub registered : registered_of b ≡ context.constants
  pub named : named_of b ≡ constants_named lines
  pub stand : AllStand label_kinds (shape_of b)
  pub in_turn : StandInTurn (shape_of b)
  pub apart : StandApart context lines spans gaps (constants_of b)
  pub windows : HasWindows b
  pub fields : FieldsStand (shape_of b)
  pub sound : IsSoundBuffer b

-- ---- labels

-- a line of these names a label of this number
pub record IsNamed (lines : List Line) (number : ℕ) : Type 0 where
  pub index : ℕ
  pub line : Line
  pub there : slice_get lines index ≡ Some line
  pub place : ℕ
  pub label : MachLabel
  pub names : slice_get (named_labels line) place ≡ Some label
  pub is : label.number ≡ number

-- the labels that are bound are those of binds; each use may go by a veneer or reaches all code, and its label is bound, named by
-- a line, or among those of constants
pub record Named (lines : List Line) (spans : List LineSpan) (b : Buffer) : Type 0 where
  pub labels : labels_of b ≡ binds_from spans 0 lines
  pub unbound : (label : ℕ) → label < first_inner → is_bound lines label ≡ false → place_of b label ≡ None
  pub kinds : (j : ℕ) (u : Use LabelUse) → slice_get (uses_of b) j ≡ Some u → (has_veneer_of u.kind ≡ true) ⊎ (is_far label_kinds u ≡ true)
  pub named :
      (j : ℕ) (u : Use LabelUse) →
      slice_get (uses_of b) j ≡ Some u →
      (is_some (place_of b u.label.number) ≡ true) ⊎ IsNamed lines u.label.number ⊎ (first_constant ≤ u.label.number)

-- ---- reach and room

-- Reach holds, and the bytes with a veneer for each pending use and the constants that don't stand yet are within the size of
-- lines and constants
pub record Sized (context : Context) (lines : List Line) (b : Buffer) : Type 0 where
  pub reach : CanReach (length (bytes_of b)) (pending b)
  pub size : length (bytes_of b) + 8 * length (pending b) + reserve_of (shape_of b) ≤ size_sum context lines
  pub allocated : 8 * allocated_of b ≤ size_sum context lines

-- ---- one line more

-- whether a line can't take the frame away
abbrev pub is_stuck : FrameLayout → Line → Bool
is_stuck frame (Put inst) = is_bad_frame_for frame (tail_call_of inst)
is_stuck frame (Bind label) = false

-- what a line asks, in its context, of the buffer
pub record CanPut (context : Context) (line : Line) (b : Buffer) : Type 0 where
  pub rule : broken_rule context line ≡ None
  pub frame : sp_to_args_end context.frame < 2 ^ 31
  pub fit : is_stuck context.frame line ≡ false
  pub sound : IsSoundBuffer b
  pub reach : CanReach (length (bytes_of b)) (pending b)
  pub few : allocated_of b + 1 < 2 ^ 29
  pub room : length (bytes_of b) + 8 * length (pending b) + reserve_of (shape_of b) + line_sum context line + 49 < code_limit
  pub unbound : (label : ℕ) → binds line label ≡ true → place_of b label ≡ None

-- an instruction was put, after an island where one was needed
pub record InstPut (context : Context) (setting : EmitVState) (inst : Inst) (old new : Buffer) (span : LineSpan) : Type 0 where
  pub mid : Buffer
  pub made : Bool
  pub room : IslandIfNeeded line_space old mid made
  pub emitted : EmitsIn context (setting_beyond made setting) inst mid new
  pub reach : CanReach (length (bytes_of new)) (pending new)
  pub start : span.start ≡ length (bytes_of mid)
  pub end : span.end ≡ length (bytes_of new)

-- a label was bound
pub record BindPut (label : MachLabel) (old new : Buffer) (span : LineSpan) : Type 0 where
  pub low : label.number < first_inner
  pub bound : place_of new label.number ≡ Some (length (bytes_of old))
  pub kept : (other : ℕ) → other ≢ label.number → place_of new other ≡ place_of old other
  pub unbound : place_of old label.number ≡ None
  pub labels : labels_of new ≡ labels_of old ++ listed label (length (bytes_of old))
  pub bytes : bytes_of new ≡ bytes_of old
  pub uses : uses_of new ≡ uses_of old
  pub allocated : allocated_of new ≡ allocated_of old
  pub records : records_of new ≡ records_of old
  pub registered : registered_of new ≡ registered_of old
  pub named : named_of new ≡ named_of old
  pub constants : constants_of new ≡ constants_of old
  pub fewer : (end : ℕ) → due_by end (pending new) ≤ due_by end (pending old)
  pub sound : IsSoundBuffer new
  pub start : span.start ≡ length (bytes_of old)
  pub end : span.end ≡ length (bytes_of old)

-- the vector unit's setting known after an instruction before which an island was put where one was needed, by that known before
abbrev pub InstSetting : Context → Inst → Buffer → EmitVState → EmitVState → Type 0
InstSetting context inst old before after =
    (mid : Buffer) ×
    (made : Bool) ×
    IslandIfNeeded line_space old mid made ×
    (after ≡ setting_after context mid inst (setting_beyond made before))

-- and after a line: nothing is known where a label is bound
abbrev pub LineSetting : Context → Line → Buffer → EmitVState → EmitVState → Type 0
LineSetting context (Put inst) old before after = InstSetting context inst old before after
LineSetting context (Bind label) old before after = after ≡ Unknown

-- by the vector unit's setting known before the line
abbrev pub LinePut : Context → EmitVState → Line → Buffer → Buffer → LineSpan → Type 0
LinePut context setting (Put inst) old new span = InstPut context setting inst old new span
LinePut context setting (Bind label) old new span = BindPut label old new span

-- the call of a line returns within it
abbrev pub ReturnsWithin : IsaFlags → Line → LineSpan → Type 0
ReturnsWithin flags line span = AllByRecursion (λ (r : CallReturn). r.offset ≤ span.end) (line_returns flags span.index span.start line)
