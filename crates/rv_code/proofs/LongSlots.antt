-- Slots of tables and tail calls: how long they are, and that they are self-contained.
use Rattle.{rv_base.{specs.declared.call.TryCallInfo.TryCallInfo, specs.declared.call.UserStackMap.UserStackMap}, rv_code.proofs.LineOperands.{of_both, setup_by}}
use Rattle.rv_code.{proofs.LineSlots.{is_low, slots_by, number_by, numbers, number_few as number_most, IsPlain, HaveContents, HaveWords, none, nothing, one, both_pieces, closed_append, line_loaded, size_append, size_both, split_short, based_most, load_most, half_most}, proofs.LineSlots.either_most}
use Rattle.rv_code.proofs.OperationActs.{jalr_sized, jump_len, least_even, load_sized, lui_sized, rri_sized, rrr_sized}
use Rattle.rv_code.proofs.Words.{short_jump, Literal, NameAddress, Word32, Word64, literal_size, literal_slot, literal_slots, Rri, number_pieces, Piece, Add, Addi, address_slots, Fixup, AllByRecursion, Allocate, AreClosed, AreFineResults, AreSelfContained, Based}
use Rattle.rv_code.proofs.Words.{call_event, CallRetPair, Data, extend_pieces, ExternalName, frame_above, FrameLayout, half_load_slots, has_load, Here, here_at, InReg, Int, ints, is_near, is_splittable, IsaFlags, IsFineResult, jump_size, Ld, length-append, Lh}
use Rattle.rv_code.proofs.Words.{load_line_slots, LoadOP, loads_unless, location_loads, low64, lower_of, MachLabel, MachRecord, number_of, number_slots, OnStack, Op, Own, PReg, Reg, restores, result_load, result_loads, RetLocation, return_size, return_slots, saved_load}
use Rattle.rv_code.{proofs.Words.{saves_from, setup_loads, short_jalr, short_rri, short_rrr, size_of, Slli, Slot, slots_of, sp_to_fp_of, Srli, stack_load_slots, stack_step_slots, StackLoad, t0_slots, table_slots, tail_slots, typed_loads, upper_of, Writable, Do}, proofs.Words.offset_pieces}
use Rattle.rv_code.{specs.Accesses.{far_step_pieces, load_line_pieces, stack_load_pieces, stack_step_pieces, return_pieces, half_load_pieces, load_pieces}, specs.Calls.{patch_notes, return_notes, rest_pieces}, specs.Pieces.{Note, Call, Jalr, Rrr}, specs.Tables.{far_jump, jump_slots}}
use Rattle.{rv_inst.{specs.Limits.return_limit, specs.Sizes.fall}, std.proofs.Common.{rules, ◌≡◌, ℕ, ◌+◌, ◌^◌, ◌*◌, ◌≤◌, Bool, true, false, List, [], ◌∷◌, length, Option, Some, None, ℤ, pos, ◌-ℤ◌, arith, lit≤, refl, subst, sym, ◌-◌, ◌%◌, ◌<◌, ◌++◌, map, ap, ◌==◌, suc, if◌then◌else◌}}
use Rattle.rv_code.specs.Pieces as piece
use Rattle.mach_records.specs.declared.records.Event.TheVariants as event

-- ---- how many bytes loads from the stack have: 28 at most, halves by integer registers among them, whose offset is at most 2^30.

abbrev pub IsShortLoad : IsaFlags → StackLoad → Type 0
IsShortLoad flags l = size_of (load_line_slots flags l.register l.op None (Based 2 l.offset)) ≤ 28

-- by the machine's own load
own_short : (flags : IsaFlags) (op : LoadOP) (rd : ℕ) (o : ℤ) → has_load flags op ≡ true → size_of (load_line_slots flags rd op None (Based 2 o)) ≤ 28
own_short flags op rd o has = subst (λ (c : Bool). size_of (slots_of flags (if c then load_pieces op rd None (Based 2 o) else half_load_pieces rd None (Based 2 o))) ≤ 28) (sym has) (load_most flags op rd None (Based 2 o))

-- a half by integer registers
half_short : (flags : IsaFlags) (rd n : ℕ) → n ≤ 2 ^ 30 → size_of (half_load_slots flags rd None (Based 2 (pos n))) ≤ 28
half_short flags rd n le =
    let o = pos n in
    let sum : size_of (address_slots flags 31 (Based 2 o)) ≤ 12 = either_most flags _ _ (is_near o) 12 (omega (arith, (rri_sized flags Addi 31 2 o).few)) (omega (arith, size_both flags (offset_pieces 31 o) (Do (Rrr Add 31 31 2) ∷ []), split_short flags 31 o (grind (arith, ints)), (rrr_sized flags Add 31 31 2).few)) in
    half_most {most = 16} flags rd None (Based 2 o) (based_most flags (piece.Load Lh 31) None 2 o 12 (λ base offset. (load_sized flags Lh 31 base offset).few) sum)

abbrev pub AreShortLoads : IsaFlags → List StackLoad → Type 0
AreShortLoads flags loads = AllByRecursion (IsShortLoad flags) loads

pub loads_most : (flags : IsaFlags) (loads : List StackLoad) → AreShortLoads flags loads → size_of (stack_load_slots flags loads) ≤ 28 * length loads
loads_most flags [] short = lit≤ tt
loads_most flags (l ∷ loads) short = omega (arith, short.0, loads_most flags loads short.1, size_both flags (load_line_pieces flags l.op l.register None (Based 2 l.offset)) (stack_load_pieces flags loads))

pub saves_short : (flags : IsaFlags) (offset : ℤ) (saves : List (Writable PReg)) → AreShortLoads flags (saves_from offset saves)
saves_short flags offset [] = tt
saves_short flags offset (r ∷ saves) = (own_short flags (saved_load r.reg.class) r.reg.number offset (elim r.reg.class as (λ c. has_load flags (saved_load c) ≡ true) [ Int ↦ refl | _ ↦ refl ]), saves_short flags (offset -ℤ pos 8) saves)

pub eight_short : (flags : IsaFlags) (rd : ℕ) (offset : ℤ) → size_of (load_line_slots flags rd Ld None (Based 2 offset)) ≤ 28
eight_short flags rd offset = own_short flags Ld rd offset refl

pub setup_short : (flags : IsaFlags) (frame : FrameLayout) → AreShortLoads flags (setup_loads frame)
setup_short flags frame = setup_by (AreShortLoads flags) frame tt (eight_short flags 1 (pos (sp_to_fp_of frame + 8)), (eight_short flags 8 (pos (sp_to_fp_of frame)), tt))

pub restores_short : (flags : IsaFlags) (frame : FrameLayout) → AreShortLoads flags (restores frame)
restores_short flags frame =
    let offset = pos (sp_to_fp_of frame) -ℤ pos 8 in
    of_both (IsShortLoad flags) (saves_from offset frame.clobbered_callee_saves) (setup_loads frame) (saves_short flags offset frame.clobbered_callee_saves) (setup_short flags frame)

located_short : (flags : IsaFlags) (r : Reg) (location : RetLocation) → IsFineResult r location → AreShortLoads flags (location_loads r location)
located_short flags r (InReg s) h = tt
located_short flags r (OnStack offset type) h =
    elim (result_load type) as (λ op. AreShortLoads flags (typed_loads (number_of r) offset op))
    [ None ↦ tt | Some op ↦ (either_most flags _ _ (has_load flags op) 28 (load_most flags op (number_of r) None (Based 2 (pos offset))) (half_short flags (number_of r) offset h.2), tt) ]

pub results_short : (flags : IsaFlags) (defs : List CallRetPair) → AreFineResults defs → AreShortLoads flags (result_loads defs)
results_short flags [] h = tt
results_short flags (d ∷ defs) h = of_both (IsShortLoad flags) (location_loads d.vreg.reg d.location) (result_loads defs) (located_short flags d.vreg.reg d.location h.0) (results_short flags defs h.1)

-- a call that may be patched loads none
pub unless_short : (flags : IsaFlags) (patchable : Bool) (defs : List CallRetPair) → AreFineResults defs → AreShortLoads flags (loads_unless patchable defs)
unless_short flags true defs h = tt
unless_short flags false defs h = results_short flags defs h

-- ---- the length of the slots of a branch by a table.

-- slots that use, allocate and bind no own label, each of an even length
abbrev pub AreEven : List Slot → Type 0
AreEven [] = Unit {0}
AreEven (Op d ∷ slots) = (d.len % 2 ≡ 0) × AreEven slots
AreEven (Fixup kind (Own k) ops ∷ slots) = ⊥
AreEven (Data bytes ∷ slots) = (length bytes % 2 ≡ 0) × AreEven slots
AreEven (Allocate ∷ slots) = ⊥
AreEven (Here k ∷ slots) = ⊥
AreEven (slot ∷ slots) = AreEven slots

pub even_plain : (slots : List Slot) → AreEven slots → IsPlain slots
even_plain [] e = tt
even_plain (Fixup kind (Own k) ops ∷ slots) e = absurd e
even_plain (slot ∷ slots) e = search (rules, even_plain slots)

pub even_closed : (here : ℕ → Option ℕ) (at : ℕ) (slots : List Slot) → AreEven slots → AreClosed here at slots
even_closed here at [] e = tt
even_closed here at (Fixup kind (Own k) ops ∷ slots) e = absurd e
even_closed here at (slot ∷ slots) e = search (rules, λ (at : ℕ). even_closed here at slots)

pub extend_even : (flags : IsaFlags) (rd rn : ℕ) → AreEven (slots_of flags (extend_pieces rd rn false 32))
extend_even flags rd rn = ((rri_sized flags Slli rd rn (pos 32)).even, ((rri_sized flags Srli rd rd (pos 32)).even, tt))

pub extend_few : (flags : IsaFlags) (rd rn : ℕ) → size_of (slots_of flags (extend_pieces rd rn false 32)) ≤ 8
extend_few flags rd rn = let a = (rri_sized flags Slli rd rn (pos 32)).few in let b = (rri_sized flags Srli rd rd (pos 32)).few in omega arith

-- of what stands among the code
pub literal_even : (flags : IsaFlags) (rd : ℕ) (l : Literal) → AreEven (literal_slots flags rd l)
literal_even flags rd l =
    let jump : (short_jump flags (pos (literal_size l + jump_size flags))).len % 2 ≡ 0 = omega (arith, jump_len flags (pos (literal_size l + jump_size flags)), least_even flags) in
    (refl, (refl, (jump, elim l as (λ l. AreEven (literal_slot l ∷ [])) [ Word32 n ↦ (refl, tt) | Word64 n ↦ (refl, tt) | NameAddress name addend ↦ tt ])))

pub number_even : (flags : IsaFlags) (rd : ℕ) (z : ℤ) → AreEven (number_slots flags rd z)
number_even flags rd z =
    let up = (lui_sized flags rd (upper_of z)).even in
    number_by (λ ps. AreEven (slots_of flags ps)) rd z (λ low. ((rri_sized flags Addi rd 0 (lower_of z)).even, tt)) (λ fits none. (up, tt)) (λ fits. (up, ((rri_sized flags Addi rd rd (lower_of z)).even, tt))) (λ far. literal_even flags rd (Word64 (low64 z)))

-- a number of few bits is put by immediates
pub number_few : (flags : IsaFlags) (rd : ℕ) (z : ℤ) → is_splittable z ≡ true → size_of (number_slots flags rd z) ≤ 8
number_few flags rd z splits = elim (is_low z) as (λ low. size_of (slots_by flags rd z low) ≤ 8) [ true ↦ omega (arith, (rri_sized flags Addi rd 0 (lower_of z)).few) | false ↦ split_short flags rd z splits ]

pub count_splits : (n : ℕ) → n < 2 ^ 30 → is_splittable (pos n) ≡ true
count_splits n lt = grind (arith, ints)

pub far_jumps_even : (tmp : ℕ) (labels : List MachLabel) → AreEven (map (far_jump tmp) labels)
far_jumps_even tmp [] = tt
far_jumps_even tmp (label ∷ labels) = far_jumps_even tmp labels

pub far_jumps_long : (tmp : ℕ) (labels : List MachLabel) → size_of (map (far_jump tmp) labels) ≡ 8 * length labels
far_jumps_long tmp [] = refl
far_jumps_long tmp (label ∷ labels) = let e = far_jumps_long tmp labels in omega arith

pub jumps_long : (tmp1 tmp2 : ℕ) (default : MachLabel) (labels : List MachLabel) → size_of (jump_slots tmp1 tmp2 default labels) ≡ 28 + 8 * length labels
jumps_long tmp1 tmp2 default labels = let e = far_jumps_long tmp2 labels in omega arith

pub table_contained : (flags : IsaFlags) (index tmp1 tmp2 : ℕ) (targets : List MachLabel) → AreSelfContained (table_slots flags index tmp1 tmp2 targets)
table_contained flags index tmp1 tmp2 [] = tt
table_contained flags index tmp1 tmp2 (default ∷ labels) =
    let extend = slots_of flags (extend_pieces 31 index false 32) in
    let number = number_slots flags tmp2 (pos (length labels)) in
    let jumps = jump_slots tmp1 tmp2 default labels in
    let here = λ (k : ℕ). here_at k 0 (table_slots flags index tmp1 tmp2 (default ∷ labels)) in
    let jumps_even : AreEven jumps = (refl, (refl, (refl, (refl, (refl, far_jumps_even tmp2 labels))))) in
    closed_append here 0 (size_of extend) extend (number ++ jumps) (omega arith) (even_closed here 0 extend (extend_even flags 31 index))
    (closed_append here (size_of extend) (size_of extend + size_of number) number jumps refl ((numbers flags tmp2 (pos (length labels))).closed here (size_of extend)) (even_closed here (size_of extend + size_of number) jumps jumps_even))

-- four bytes less than the space before which an island is asked for; so many labels need at most two instructions for their number
pub table_short : (flags : IsaFlags) (index tmp1 tmp2 : ℕ) (targets : List MachLabel) → length targets ≤ 2 ^ 30 → size_of (table_slots flags index tmp1 tmp2 targets) ≤ 36 + 8 * length targets
table_short flags index tmp1 tmp2 [] few = lit≤ tt
table_short flags index tmp1 tmp2 (default ∷ labels) few =
    let number = number_slots flags tmp2 (pos (length labels)) in
    let jumps = jump_slots tmp1 tmp2 default labels in
    omega (arith, size_append (slots_of flags (extend_pieces 31 index false 32)) (number ++ jumps), size_append number jumps, extend_few flags 31 index, number_few flags tmp2 (pos (length labels)) (count_splits (length labels) (omega arith)), jumps_long tmp1 tmp2 default labels)

-- ---- what tail calls add to a buffer: an island where one is needed, and then their words; and that their parts are self-contained.

-- loads from the stack
pub loads_counted : (flags : IsaFlags) (loads : List StackLoad) → HaveWords (stack_load_slots flags loads)
loads_counted flags [] = nothing
loads_counted flags (l ∷ loads) = both_pieces flags _ (stack_load_pieces flags loads) (line_loaded flags l.register l.op None (Based 2 l.offset)) (loads_counted flags loads)

-- a step of the stack pointer
pub steps_counted : (flags : IsaFlags) (z : ℤ) → HaveWords (stack_step_slots flags z)
steps_counted flags z = by (low64 z == 0) (is_near z)
  where
    by : (none_at_all small : Bool) → HaveWords (slots_of flags (if none_at_all then [] else if small then Do (Rri Addi 2 2 z) ∷ [] else far_step_pieces z))
    by true small = nothing
    by false true = one (short_rri flags Addi 2 2 z) (rri_sized flags Addi 2 2 z).even
    by false false = both_pieces flags (number_pieces 31 z) (Do (Rrr Add 2 2 31) ∷ []) (numbers flags 31 z) (one (short_rrr flags Add 2 2 31) (rrr_sized flags Add 2 2 31).even)

-- a frame is taken away
pub returns_counted : (flags : IsaFlags) (frame : FrameLayout) (arguments : ℕ) → HaveWords (return_slots flags frame arguments)
returns_counted flags frame arguments = both_pieces flags (stack_load_pieces flags (restores frame)) (stack_step_pieces (pos (frame_above frame arguments))) (loads_counted flags (restores frame)) (steps_counted flags (pos (frame_above frame arguments)))

-- the records of a call
abbrev pub call_records : ExternalName → ℕ → List MachRecord
call_records name at = record { offset = at; event = event.CallSite } ∷ record { offset = at; event = call_event name } ∷ []

pub tail_contents : (flags : IsaFlags) (frame : FrameLayout) (arguments : ℕ) (name : ExternalName) → HaveContents 8 none (call_records name) None (tail_slots flags frame arguments name)
tail_contents flags frame arguments name =
    let pair : HaveContents 8 none (call_records name) None (slots_of flags (Note event.CallSite ∷ Call 0 31 name ∷ [])) = record { plain = tt; within = lit≤ tt; uses = λ allocated start. refl; records = λ start. let e : start ≡ start + 8 - 8 = omega arith in ap (call_records name) e; names = λ named. refl; closed = λ here start. tt } in
    both_pieces flags (return_pieces flags frame arguments) (Note event.CallSite ∷ Call 0 31 name ∷ []) (returns_counted flags frame arguments) pair

pub t0_contents : (flags : IsaFlags) (frame : FrameLayout) (arguments : ℕ) → HaveWords (t0_slots flags frame arguments)
t0_contents flags frame arguments = both_pieces flags (return_pieces flags frame arguments) (Jalr 0 5 (pos 0) ∷ []) (returns_counted flags frame arguments) (one (short_jalr flags 0 5 (pos 0)) (jalr_sized flags 0 5 (pos 0)).even)

pub tail_contained : (flags : IsaFlags) (frame : FrameLayout) (arguments : ℕ) (name : ExternalName) → AreSelfContained (tail_slots flags frame arguments name)
tail_contained flags frame arguments name = (tail_contents flags frame arguments name).closed _ 0

pub t0_contained : (flags : IsaFlags) (frame : FrameLayout) (arguments : ℕ) → AreSelfContained (t0_slots flags frame arguments)
t0_contained flags frame arguments = (t0_contents flags frame arguments).closed _ 0

pub step_most : (flags : IsaFlags) (z : ℤ) → size_of (stack_step_slots flags z) ≤ 24
step_most flags z = by (low64 z == 0) (is_near z)
  where
    by : (none_at_all small : Bool) → size_of (slots_of flags (if none_at_all then [] else if small then Do (Rri Addi 2 2 z) ∷ [] else far_step_pieces z)) ≤ 24
    by true small = lit≤ tt
    by false true = omega (arith, (rri_sized flags Addi 2 2 z).few)
    by false false = omega (arith, size_both flags (number_pieces 31 z) (Do (Rrr Add 2 2 31) ∷ []), number_most flags 31 z, (rrr_sized flags Add 2 2 31).few)

pub saves_long : (offset : ℤ) (saves : List (Writable PReg)) → length (saves_from offset saves) ≡ length saves
saves_long offset [] = refl
saves_long offset (r ∷ saves) = ap suc (saves_long (offset -ℤ pos 8) saves)

pub setup_few : (frame : FrameLayout) → length (setup_loads frame) ≤ 2
setup_few frame = setup_by (λ loads. length loads ≤ 2) frame (lit≤ tt) (lit≤ tt)

-- what takes a frame away
pub return_short : (flags : IsaFlags) (frame : FrameLayout) (arguments : ℕ) → return_size flags frame arguments ≤ return_limit frame
return_short flags frame arguments =
    let above = pos (frame_above frame arguments) in
    omega (arith, size_both flags (stack_load_pieces flags (restores frame)) (stack_step_pieces above), loads_most flags (restores frame) (restores_short flags frame), step_most flags above)

pub return_most : (flags : IsaFlags) (frame : FrameLayout) (arguments : ℕ) → return_size flags frame arguments ≤ 28 * length frame.clobbered_callee_saves + 80
return_most flags frame arguments =
    let offset = pos (sp_to_fp_of frame) -ℤ pos 8 in
    omega (arith, return_short flags frame arguments, length-append (saves_from offset frame.clobbered_callee_saves) (setup_loads frame), saves_long offset frame.clobbered_callee_saves, setup_few frame)

-- ---- what stands after the words of a call: records have no bytes

pub notes_long : (flags : IsaFlags) (frame : FrameLayout) (entries : Option UserStackMap) (t : Option TryCallInfo) (ps : List Piece) → size_of (slots_of flags (return_notes frame entries t ++ ps)) ≡ size_of (slots_of flags ps)
notes_long flags frame None t ps = omega arith
notes_long flags frame (Some entries) t ps = omega arith

patch_long : (flags : IsaFlags) (patchable : Bool) (n : ℕ) (ps : List Piece) → size_of (slots_of flags (patch_notes patchable n ++ ps)) ≡ size_of (slots_of flags ps)
patch_long flags false n ps = refl
patch_long flags true n ps = omega arith

pub rest_long : (flags : IsaFlags) (frame : FrameLayout) (popped : ℕ) (patchable : Bool) (n : ℕ) (entries : Option UserStackMap) (t : Option TryCallInfo) (last : List Piece) → size_of (slots_of flags (rest_pieces frame popped patchable n entries t last)) ≡ size_of (stack_step_slots flags (fall popped)) + size_of (slots_of flags last)
rest_long flags frame popped patchable n entries t last =
    let more = patch_notes patchable n ++ last in
    omega (arith, notes_long flags frame entries t (stack_step_pieces (fall popped) ++ more), size_both flags (stack_step_pieces (fall popped)) more, patch_long flags patchable n last)
