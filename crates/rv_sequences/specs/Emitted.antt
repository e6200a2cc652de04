-- What an instruction puts into a buffer: links of the proof.
use Rattle.std.specs.Prelude.{◌≡◌, ℕ, ◌+◌, ◌*◌, ◌%◌, ◌^◌, ◌<◌, ◌≤◌, ◌⊎◌, ◌≢◌, Bool, true, false, List, [], ◌∷◌, ◌++◌, length, take, Option, Some, None, is_some, slice_get}
use Rattle.rv_base.specs.declared.call.TryCallInfo.{TryCallInfo}
use Rattle.rv_base.specs.declared.flags.IsaFlags.{IsaFlags}
use Rattle.rv_base.specs.declared.label.MachLabel.{MachLabel}
use Rattle.rv_base.specs.Frame.{sp_to_args_end}
use Rattle.rv_base.specs.LabelUse.{code_limit}
use Rattle.mach_labels.specs.Table.{first_inner, first_constant}
use Rattle.rv_inst.specs.declared.inst.Inst.{Inst}
use Rattle.rv_inst.specs.declared.inst.Inst.TheVariants.{ReturnCall}
use Rattle.rv_inst.specs.declared.inst.Line.TheVariants.{Inst as Put}
use Rattle.rv_inst.specs.declared.label_use.LabelUse.{LabelUse}
use Rattle.rv_inst.specs.declared.label_use.LabelUse.TheVariants.{Jal20}
use Rattle.rv_inst.specs.LabelUse.{label_kinds, has_veneer_of, forward_of}
use Rattle.rv_inst.specs.LabelUseWords.{word_bytes}
use Rattle.rv_inst.specs.Context.{Context}
use Rattle.rv_inst.specs.Forms.{jump_size}
use Rattle.rv_inst.specs.Operands.{Return, return_of, table_of, inst_ways, inst_constant, tail_call_of, try_call_of, named_by}
use Rattle.rv_inst.specs.Frames.{is_bad_frame_for}
use Rattle.rv_inst.specs.Rules.{inst_rule}
use Rattle.rv_inst.specs.Sizes.{IsOfSize, first_in, space_in, inst_size, most_bytes, request_of, line_space, inst_sum, inst_records}
use Rattle.rv_inst.specs.Uses.{use_at, uses_in, least_reach}
use Rattle.mach_buffer.specs.declared.buffer.MachBuffer.{MachBuffer}
use Rattle.mach_uses.specs.declared.uses.Use.{Use}
use Rattle.mach_buffer.specs.Islands.{aligned, island_end, is_far, AddsOwn}
use Rattle.mach_uses.specs.Reach.{AllOf, is_needed, is_reached}
use Rattle.mach_buffer.specs.Buffer.{shape_of, bytes_of, uses_of, place_of, labels_of, allocated_of, records_of, registered_of, named_of, constants_of, pending_of, IsSound}
use Rattle.mach_buffer.specs.Shape.{Shape, with_allocated}
use Rattle.mach_buffer.specs.Constants.{end_after, reserve_of, AllStand}
use Rattle.mach_buffer.specs.Growth.{Lasts}
use Rattle.mach_buffer.specs.Windows.{AreWindows}
use Rattle.rv_sequences.specs.Images.{FieldsStand}
use Rattle.rv_sequences.specs.NewConstants.{AddsConstants}
use Rattle.rv_code.specs.Slots.{Label, own_label}
use Rattle.rv_sequences.specs.Puts.{Puts}
use Rattle.rv_code.specs.InstParts.{wide_jump_to}
use Rattle.rv_code.specs.Operations.{jump_word}

-- ---- buffers of code

abbrev pub Buffer : Type 0
Buffer = MachBuffer LabelUse

abbrev pub IsSoundBuffer : Buffer → Type 0
IsSoundBuffer b = IsSound label_kinds b

-- the windows of uses stand in the bytes, fresh and apart from one another and from veneers
abbrev pub HasWindows : Buffer → Type 0
HasWindows b = AreWindows label_kinds (bytes_of b) (uses_of b)

-- the deadlines of the pending uses
abbrev pub pending : Buffer → List ℕ
pending b = pending_of label_kinds b

-- ---- bytes and uses

-- bytes and uses were put at the end; no label was allocated or bound, and no constant registered or put
pub record AppendsCode (code : List ℕ) (own : List (Use LabelUse)) (old new : Buffer) : Type 0 where
  pub bytes : bytes_of new ≡ bytes_of old ++ code
  pub uses : uses_of new ≡ uses_of old ++ own
  pub places : place_of new ≡ place_of old
  pub labels : labels_of new ≡ labels_of old
  pub allocated : allocated_of new ≡ allocated_of old
  pub registered : registered_of new ≡ registered_of old
  pub constants : constants_of new ≡ constants_of old
  pub sound : IsSoundBuffer new

-- bytes and uses were put at the end, and so many labels were allocated and bound, which were not bound before and which no use
-- named; no other label was allocated or bound, and no constant registered or put
pub record AppendsSequence (count : ℕ) (code : List ℕ) (own : List (Use LabelUse)) (old new : Buffer) : Type 0 where
  pub bytes : bytes_of new ≡ bytes_of old ++ code
  pub uses : uses_of new ≡ uses_of old ++ own
  pub allocated : allocated_of new ≡ allocated_of old + count
  pub unbound : (k : ℕ) → k < count → place_of old (own_label (allocated_of old) k).number ≡ None
  pub unnamed : (k : ℕ) → k < count → (j : ℕ) (u : Use LabelUse) → slice_get (uses_of old) j ≡ Some u → u.label.number ≢ (own_label (allocated_of old) k).number
  pub bound : (k : ℕ) → k < count → is_some (place_of new (own_label (allocated_of old) k).number) ≡ true
  pub places : (label : ℕ) → ((k : ℕ) → k < count → label ≢ (own_label (allocated_of old) k).number) → place_of new label ≡ place_of old label
  pub labels : labels_of new ≡ labels_of old
  pub registered : registered_of new ≡ registered_of old
  pub constants : constants_of new ≡ constants_of old
  pub sound : IsSoundBuffer new

-- a use of one of these labels that reaches it wherever it stands in code, and never goes by a veneer
pub record IsFarUse (labels : List MachLabel) (u : Use LabelUse) : Type 0 where
  pub far : is_far label_kinds u ≡ true
  pub direct : has_veneer_of u.kind ≡ false
  pub bare : u.veneer ≡ None
  pub index : ℕ
  pub names : slice_get labels index ≡ Some u.label

-- a use of one of so many own labels, which is bound within its reach, so that it never waits for a veneer
pub record IsOwnUse (count allocated : ℕ) (place : ℕ → Option ℕ) (u : Use LabelUse) : Type 0 where
  pub index : ℕ
  pub own : index < count
  pub names : u.label ≡ own_label allocated index
  pub served : has_veneer_of u.kind ≡ true
  pub bare : u.veneer ≡ None
  pub reached : is_reached label_kinds (place u.label.number) u ≡ true

-- ---- an island

-- an island was put: a jump to a new label that is bound at the end, the veneers of all that was pending, and the constants that
-- waited; and nothing else, so it ends where these do
pub record AppendsIsland (old new : Buffer) : Type 0 where
  pub after_island : MachLabel
  pub allocated_label : after_island.number ≡ first_inner + allocated_of old
  pub jumped : Shape LabelUse
  pub puts : (flags : IsaFlags) → Puts flags (allocated_of old + 1) (wide_jump_to (Label after_island) ∷ []) (with_allocated (shape_of old)) jumped
  pub lasts : Lasts label_kinds jumped (shape_of new)
  pub allocated : allocated_of new ≡ allocated_of old + 1
  pub jump : take (length (bytes_of old) + 4) (bytes_of new) ≡ bytes_of old ++ word_bytes jump_word
  pub longer : length (bytes_of old) + 4 ≤ length (bytes_of new)
  pub own : AddsOwn label_kinds (length (bytes_of old) + 4) (uses_of old ++ use_at (length (bytes_of old)) after_island Jal20 ∷ []) (uses_of new)
  pub bound : place_of new after_island.number ≡ Some (length (bytes_of new))
  pub places : (label : ℕ) → label < first_constant → label ≢ after_island.number → place_of new label ≡ place_of old label
  pub labels : labels_of new ≡ labels_of old
  pub records : records_of new ≡ records_of old
  pub registered : registered_of new ≡ registered_of old
  pub named : named_of new ≡ named_of old
  pub settled : pending new ≡ []
  pub end :
      length (bytes_of new) ≡ island_end (end_after (shape_of old)) (aligned (length (bytes_of old) + 4)) (length (pending old)) (length (bytes_of old) + forward_of Jal20)
  pub taken : length (constants_of new) ≡ length (named_of new)
  pub whole : length (bytes_of new) % 4 ≡ 0
  pub short : length (bytes_of new) + reserve_of (shape_of new) ≤ length (bytes_of old) + 17 + 8 * length (pending old) + reserve_of (shape_of old)
  pub windows : HasWindows old → HasWindows new
  pub adds : AddsConstants (shape_of old) (shape_of new)
  pub constants : HasWindows old → AllStand label_kinds (shape_of old) → AllStand label_kinds (shape_of new)
  pub sound : IsSoundBuffer new

-- an island was put exactly where one is needed before so many bytes
pub record IslandIfNeeded (distance : ℕ) (old new : Buffer) (made : Bool) : Type 0 where
  pub asked : made ≡ is_needed (length (bytes_of old)) distance (pending old)
  pub put : ((made ≡ false) × (new ≡ old)) ⊎ ((made ≡ true) × AppendsIsland old new)

-- ---- an instruction's bytes

-- an island stands between two buffers exactly where one is needed before so many bytes, if so many are asked for
abbrev pub IslandAsked : Option ℕ → Buffer → Buffer → Type 0
IslandAsked None old new = new ≡ old
IslandAsked (Some space) old new = (made : Bool) × IslandIfNeeded space old new made

-- where a call returns is among the bytes between two offsets, and so is the jump with which it goes on
pub record HasReturn (context : Context) (inst : Inst) (start end : ℕ) : Type 0 where
  pub returns : (r : Return) → return_of context.flags inst ≡ Some r → start + r.offset ≤ end
  pub goes_on : (t : TryCallInfo) → try_call_of inst ≡ Some t → start + jump_size context.flags ≤ end

-- the last bytes of a tail call to a symbol, which a linker fills
abbrev pub filled_last : Inst → ℕ
filled_last (ReturnCall info) = 8
filled_last inst = 0

-- of one that asks for an island: a call returns before it, and what a linker fills of a tail call stands after it
pub record HasLeast (context : Context) (inst : Inst) (first rest : ℕ) : Type 0 where
  pub returns : (r : Return) → return_of context.flags inst ≡ Some r → r.offset ≤ first
  pub filled : filled_last inst ≤ rest

-- The bytes of an instruction were put at the end, those before the island that it asks for and those after it, with the island between
-- them where one is needed. Together they are as many as it may have. Its uses were put, those of its table's labels and of its own
-- labels besides, which it allocates and binds, at most five and none where it asks for an island; and its records; and its constant was
-- named. What stands before an island keeps windows and fields, and what stands after it lasts.
pub record Appends (context : Context) (inst : Inst) (old new : Buffer) : Type 0 where
  pub mid : Buffer
  pub last : Buffer
  pub front : List ℕ
  pub code : List ℕ
  pub own : ℕ
  pub direct : List (Use LabelUse)
  pub first : AppendsCode front [] old mid
  pub unnamed : named_of mid ≡ named_of old
  pub island : IslandAsked (space_in (request_of context inst) (length code)) mid last
  pub adds : AppendsSequence own code (uses_in context (length (bytes_of old)) (length (bytes_of new)) inst ++ direct) last new
  pub few : own ≤ 5
  pub alone : is_some (request_of context inst) ≡ true → own ≡ 0
  pub each : (j : ℕ) (u : Use LabelUse) → slice_get direct j ≡ Some u → IsFarUse (table_of inst) u ⊎ IsOwnUse own (allocated_of last) (place_of new) u
  pub records : records_of new ≡ records_of old ++ inst_records context (length (bytes_of old)) (length (bytes_of new)) inst
  pub named : named_of new ≡ named_by (inst_constant inst) (named_of old)
  pub begins : IsOfSize (first_in (request_of context inst)) (length front)
  pub within : (space : ℕ) → space_in (request_of context inst) (length code) ≡ Some space → length code ≤ space
  pub fits : IsOfSize (inst_size context inst) (length front + length code)
  pub stands : HasWindows old → FieldsStand (shape_of old) → HasWindows mid × FieldsStand (shape_of mid)
  pub lasts : Lasts label_kinds (shape_of last) (shape_of new)
  pub least : is_some (request_of context inst) ≡ true → HasLeast context inst (length front) (length code)
  pub back : HasReturn context inst (length (bytes_of old)) (length (bytes_of new))

-- ---- an instruction

-- what an instruction asks, in its context, of the buffer
pub record CanEmit (context : Context) (inst : Inst) (b : Buffer) : Type 0 where
  pub rule : inst_rule context inst ≡ None
  pub frame : sp_to_args_end context.frame < 2 ^ 31
  pub restores : is_bad_frame_for context.frame (tail_call_of inst) ≡ false
  pub sound : IsSoundBuffer b
  pub calm : is_needed (length (bytes_of b)) line_space (pending b) ≡ false
  pub few : allocated_of b < 2 ^ 29
  pub room : length (bytes_of b) + inst_sum context inst + reserve_of (shape_of b) + 8 * length (pending b) + 32 < code_limit

-- ---- bounds

-- How much longer a buffer is, an island apart, and what more is pending: bytes before the island that an instruction asks for, where
-- it asks for one, and bytes after it, both together at most as many as the instruction's kind may have; and at most as many uses as
-- there are labels to which it goes, maybe by a veneer, each of which reaches as far as the least of its kind.
pub record IsBounded (context : Context) (inst : Inst) (old new : Buffer) : Type 0 where
  pub before : Buffer
  pub after : Buffer
  pub first : ℕ
  pub rest : ℕ
  pub starts : length (bytes_of before) ≡ length (bytes_of old) + first
  pub island : IslandAsked (space_in (request_of context inst) rest) before after
  pub ends : length (bytes_of new) ≡ length (bytes_of after) + rest
  pub most : first + rest ≤ most_bytes context inst
  pub added : List ℕ
  pub keeps : pending before ≡ pending old
  pub adds : pending new ≡ pending after ++ added
  pub few : length added ≤ length (inst_ways inst)
  pub late : AllOf (λ d. length (bytes_of old) + least_reach context (Put inst) ≤ d) added
