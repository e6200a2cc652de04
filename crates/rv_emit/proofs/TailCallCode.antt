-- What a tail call puts: loads of what a frame saved, a step of the stack pointer, and a jump.
use Rattle.{rv_code.proofs.LineSlots.slots_append, rv_code.specs.Accesses.{return_pieces, far_step_pieces, load_line_pieces, stack_load_pieces, stack_step_pieces}, rv_code.specs.Calls.{patch_notes, rest_pieces, return_notes, map_notes}, rv_code.specs.Pieces.{Do, Rri, slots_of}}
use Rattle.rv_emit.proofs.Terms.{FitsSigned, ◌≡◌, ℕ, zero, suc, ◌+◌, ◌*◌, ◌<◌, ◌≤◌, Bool, true, false, List, [], ◌∷◌, ◌++◌, take, length, Option, Some, None, ℤ, pos, refl, ap, sym, subst, ◌∙◌, append_assoc, append-nil, arith, ◌≢◌, get_or, slice_index_or, ◌==◌, ◌-ℤ◌}
use Rattle.rv_emit.proofs.Terms.{if◌then◌else◌, ints, to_z-of_z, length-take, take_more, nat_tests, cast_signed, w64, CallInfo, TryCallInfo, UserStackMap, ExternalName, Reg, Int, IsReal, number_of, IsaFlags, FrameLayout, PReg, Real, Virtual, Writable, sp_to_fp_of, Addi}
use Rattle.rv_emit.proofs.Terms.{Ld, IsIntRegister, IsRealRegister, bytes_of, low64, Based, is_near, short_jalr, StackLoad, saved_load, saves_from, setup_loads, restores, frame_above, site_event, steps_counted, loads_counted, fall, call_size, return_size}
use Rattle.rv_emit.proofs.Terms.{PutsAlone, PutsParts, Buffer, IsSoundBuffer, IslandIfNeeded, load_line_slots, stack_load_slots, stack_step_slots, return_slots, call_to, tail_slots, t0_slots, call_slots, call_ind_slots, Slot, Op, Ask, Slots}
use Rattle.{rv_emit.proofs.Terms.{IsPlain, both_alone, alone_long, none_put, AreShortLoads, loads_most, saves_short, saves_long, returns_counted}, rv_sequences.proofs.AddressCode.pieces_then}
use Rattle.rv_code.specs.Pieces as piece
use Rattle.mach_records.specs.declared.records.Event.TheVariants as event

-- ---- loads

-- the load of a saved register
abbrev pub eight_at : Writable PReg → ℤ → StackLoad
eight_at r offset = record { register = r.reg.number; op = saved_load r.reg.class; offset = offset }

pub loads_plain : (flags : IsaFlags) (loads : List StackLoad) → IsPlain (stack_load_slots flags loads)
loads_plain flags loads = (loads_counted flags loads).plain

loads_both : (flags : IsaFlags) (first more : List StackLoad) → stack_load_slots flags (first ++ more) ≡ stack_load_slots flags first ++ stack_load_slots flags more
loads_both flags [] more = refl
loads_both flags (l ∷ first) more =
    let own = load_line_slots flags l.register l.op None (Based 2 l.offset) in
    let line = load_line_pieces flags l.op l.register None (Based 2 l.offset) in
    slots_append flags line (stack_load_pieces flags (first ++ more)) ∙ ap (λ slots. own ++ slots) (loads_both flags first more) ∙ sym (append_assoc own (stack_load_slots flags first) (stack_load_slots flags more))
    ∙ ap (λ slots. slots ++ stack_load_slots flags more) (sym (slots_append flags line (stack_load_pieces flags first)))

-- loads, and others after them
pub loads_then : {flags : IsaFlags} (first more : List StackLoad) (old mid new : Buffer) → PutsAlone flags (stack_load_slots flags first) old mid → PutsAlone flags (stack_load_slots flags more) mid new → PutsAlone flags (stack_load_slots flags (first ++ more)) old new
loads_then {flags} first more old mid new p q = subst (λ slots. PutsAlone flags slots old new) (sym (loads_both flags first more)) (both_alone (stack_load_slots flags first) (stack_load_slots flags more) old mid new (loads_plain flags first) p q)

saves_both : (o : ℤ) (first more : List (Writable PReg)) → saves_from o (first ++ more) ≡ saves_from o first ++ saves_from (o -ℤ pos (8 * length first)) more
saves_both o [] more = let same : o ≡ o -ℤ pos (8 * 0) = omega (arith, ints) in ap (λ x. saves_from x more) same
saves_both o (r ∷ first) more = let lower : o -ℤ pos 8 -ℤ pos (8 * length first) ≡ o -ℤ pos (8 * suc (length first)) = omega (arith, ints) in ap (λ loads. eight_at r o ∷ loads) (saves_both (o -ℤ pos 8) first more ∙ ap (λ x. saves_from (o -ℤ pos 8) first ++ saves_from x more) lower)

saves_more : (o : ℤ) (saves : List (Writable PReg)) (k : ℕ) (d : Writable PReg) → k < length saves → saves_from o (take (k + 1) saves) ≡ saves_from o (take k saves) ++ eight_at (get_or saves k d) (o -ℤ pos (8 * k)) ∷ []
saves_more o saves k d lt =
    let long : length (take k saves) ≡ k = length-take k saves ∙ omega arith in
    ap (saves_from o) (take_more saves k d lt) ∙ saves_both o (take k saves) (get_or saves k d ∷ []) ∙ ap (λ n. saves_from o (take k saves) ++ eight_at (get_or saves k d) (o -ℤ pos (8 * n)) ∷ []) long

-- the register of an index, as the loop reads it
pub saved_at : (saves : List (Writable PReg)) (k : ℕ) (r : Writable PReg) → k < length saves → r ≡ slice_index_or saves k r → r ≡ get_or saves k r
saved_at saves k r lt e = e ∙ same saves k r lt
  where
    same : (saves : List (Writable PReg)) (k : ℕ) (d : Writable PReg) → k < length saves → slice_index_or saves k d ≡ get_or saves k d
    same [] k d lt = absurd (omega arith)
    same (r ∷ saves) zero d lt = refl
    same (r ∷ saves) (suc k) d lt = same saves k d (omega arith)

-- a load alone
one_load : (flags : IsaFlags) (l : StackLoad) (old new : Buffer) → PutsAlone flags (load_line_slots flags l.register l.op None (Based 2 l.offset)) old new → PutsAlone flags (stack_load_slots flags (l ∷ [])) old new
one_load flags l old new p = subst (λ ps. PutsAlone flags (slots_of flags ps) old new) (sym (append-nil (load_line_pieces flags l.op l.register None (Based 2 l.offset)))) p

-- one more, as the loop puts it
pub saved_more : {flags : IsaFlags} (o : ℤ) (saves : List (Writable PReg)) (k index : ℕ) (r : Writable PReg) (old mid new : Buffer) → k < length saves → r ≡ slice_index_or saves k r → index ≡ k → PutsAlone flags (stack_load_slots flags (saves_from o (take k saves))) old mid → PutsAlone flags (load_line_slots flags r.reg.number (saved_load r.reg.class) None (Based 2 (o -ℤ pos (8 * index)))) mid new → PutsAlone flags (stack_load_slots flags (saves_from o (take (k + 1) saves))) old new
saved_more {flags} o saves k index r old mid new lt read is p q =
    let next = eight_at (get_or saves k r) (o -ℤ pos (8 * k)) in
    let there = subst (λ x. PutsAlone flags (load_line_slots flags x.reg.number (saved_load x.reg.class) None (Based 2 (o -ℤ pos (8 * k)))) mid new) (saved_at saves k r lt read)
    (subst (λ n. PutsAlone flags (load_line_slots flags r.reg.number (saved_load r.reg.class) None (Based 2 (o -ℤ pos (8 * n)))) mid new) is q) in
    subst (λ loads. PutsAlone flags (stack_load_slots flags loads) old new) (sym (saves_more o saves k r lt)) (loads_then (saves_from o (take k saves)) (next ∷ []) old mid new p (one_load flags next mid new there))

-- the return address and the frame pointer
pub no_setup : (flags : IsaFlags) (frame : FrameLayout) (old new : Buffer) → frame.setup_area_size ≡ 0 → PutsAlone flags [] old new → PutsAlone flags (stack_load_slots flags (setup_loads frame)) old new
no_setup flags frame old new empty p =
    let e : (frame.setup_area_size == 0) ≡ true = grind (arith, nat_tests) in
    subst (λ c. PutsAlone flags (stack_load_slots flags (if c then [] else record { register = 1; op = Ld; offset = pos (sp_to_fp_of frame + 8) } ∷ record { register = 8; op = Ld; offset = pos (sp_to_fp_of frame) } ∷ [])) old new) (sym e) p

pub setup_put : (flags : IsaFlags) (frame : FrameLayout) (old mid new : Buffer) → frame.setup_area_size ≢ 0 → PutsAlone flags (load_line_slots flags 1 Ld None (Based 2 (pos (sp_to_fp_of frame + 8)))) old mid → PutsAlone flags (load_line_slots flags 8 Ld None (Based 2 (pos (sp_to_fp_of frame)))) mid new → PutsAlone flags (stack_load_slots flags (setup_loads frame)) old new
setup_put flags frame old mid new some p q =
    let e : (frame.setup_area_size == 0) ≡ false = grind (arith, nat_tests) in
    let link : StackLoad = record { register = 1; op = Ld; offset = pos (sp_to_fp_of frame + 8) } in
    let pointer : StackLoad = record { register = 8; op = Ld; offset = pos (sp_to_fp_of frame) } in
    subst (λ c. PutsAlone flags (stack_load_slots flags (if c then [] else link ∷ pointer ∷ [])) old new) (sym e) (loads_then (link ∷ []) (pointer ∷ []) old mid new (one_load flags link old mid p) (one_load flags pointer mid new q))

-- ---- the stack pointer's step

-- a number that is 0 as 64 bits is 0
other_bits : (z : ℤ) → FitsSigned w64 z → z ≢ pos 0 → (low64 z == 0) ≡ false
other_bits z fits some = let e : low64 z ≢ 0 = λ zeroed. some (sym (to_z-of_z w64 z fits) ∙ ap (cast_signed w64) zeroed) in grind (arith, nat_tests)

abbrev step_by : IsaFlags → ℤ → Bool → Bool → List Slot
step_by flags z zeroed near = slots_of flags (if zeroed then [] else if near then Do (Rri Addi 2 2 z) ∷ [] else far_step_pieces z)

pub some_step : (flags : IsaFlags) (z : ℤ) (near : Bool) (old new : Buffer) → FitsSigned w64 z → z ≢ pos 0 → is_near z ≡ near → PutsAlone flags (step_by flags z false near) old new → PutsAlone flags (stack_step_slots flags z) old new
some_step flags z near old new fits some is p =
    subst (λ c. PutsAlone flags (step_by flags z c (is_near z)) old new) (sym (other_bits z fits some)) (subst (λ c. PutsAlone flags (step_by flags z false c) old new) (sym is) p)

-- a register of the machine is an integer register
pub real_int : (r : Reg) (n : ℕ) → IsReal r Int n → IsIntRegister r
real_int (Real p) n h = h.0
real_int (Virtual class index) n h = absurd h

pub real_any : (r : Reg) (n : ℕ) → IsReal r Int n → IsRealRegister r
real_any (Real p) n h = refl
real_any (Virtual class index) n h = absurd h

-- ---- the whole frame

pub loads_room : {flags : IsaFlags} (loads : List StackLoad) (old new : Buffer) → AreShortLoads flags loads → PutsAlone flags (stack_load_slots flags loads) old new → length (bytes_of new) ≤ length (bytes_of old) + 28 * length loads
loads_room {flags} loads old new short p = let a = alone_long (stack_load_slots flags loads) old new p in let b = loads_most flags loads short in omega arith

pub saves_room : {flags : IsaFlags} (o : ℤ) (saves : List (Writable PReg)) (old new : Buffer) → PutsAlone flags (stack_load_slots flags (saves_from o saves)) old new → length (bytes_of new) ≤ length (bytes_of old) + 28 * length saves
saves_room {flags} o saves old new p = let a = loads_room (saves_from o saves) old new (saves_short flags o saves) p in let b = saves_long o saves in omega arith

pub return_put : {flags : IsaFlags} (frame : FrameLayout) (arguments : ℕ) (old a b new : Buffer) → PutsAlone flags (stack_load_slots flags (saves_from (pos (sp_to_fp_of frame) -ℤ pos 8) frame.clobbered_callee_saves)) old a → PutsAlone flags (stack_load_slots flags (setup_loads frame)) a b → PutsAlone flags (stack_step_slots flags (pos (frame_above frame arguments))) b new → PutsAlone flags (return_slots flags frame arguments) old new
return_put {flags} frame arguments old a b new p q r =
    let loads = loads_then (saves_from (pos (sp_to_fp_of frame) -ℤ pos 8) frame.clobbered_callee_saves) (setup_loads frame) old a b p q in
    pieces_then (stack_load_pieces flags (restores frame)) (stack_step_pieces (pos (frame_above frame arguments))) old b new (loads_plain flags (restores frame)) loads r

-- ---- an island, and the tail call after it

pub tail_put : {flags : IsaFlags} (frame : FrameLayout) (arguments : ℕ) (name : ExternalName) (size link tmp : ℕ) (old mid a b new : Buffer) (made : Bool) → size ≡ return_size flags frame arguments → link ≡ 0 → tmp ≡ 31 → IslandIfNeeded (size + 8) old mid made → PutsAlone flags (return_slots flags frame arguments) mid a → PutsAlone flags (slots_of flags (piece.Note event.CallSite ∷ [])) a b → PutsAlone flags (call_to link tmp name ∷ []) b new → PutsParts flags (Ask (return_size flags frame arguments + 8) ∷ Slots (tail_slots flags frame arguments name) ∷ []) old new
tail_put {flags} frame arguments name size link tmp old mid a b new made measured zero_link spare island p q r =
    let last = pieces_then (piece.Note event.CallSite ∷ []) (piece.Call 0 31 name ∷ []) a b new tt q (subst (λ s. PutsAlone flags (s ∷ []) b new) (λ i. call_to (zero_link i) (spare i) name) r) in
    (mid, made, subst (λ n. IslandIfNeeded (n + 8) old mid made) measured island, pieces_then (return_pieces flags frame arguments) (piece.Note event.CallSite ∷ piece.Call 0 31 name ∷ []) mid a new (returns_counted flags frame arguments).plain p last)

pub t0_put : {flags : IsaFlags} (frame : FrameLayout) (arguments size link target : ℕ) (old mid a new : Buffer) (made : Bool) → size ≡ return_size flags frame arguments → link ≡ 0 → target ≡ 5 → IslandIfNeeded (size + 4) old mid made → PutsAlone flags (return_slots flags frame arguments) mid a → PutsAlone flags (Op (short_jalr flags link target (pos 0)) ∷ []) a new → PutsParts flags (Ask (return_size flags frame arguments + 4) ∷ Slots (t0_slots flags frame arguments) ∷ []) old new
t0_put {flags} frame arguments size link target old mid a new made measured zero_link fifth island p q =
    let jump = subst (λ d. PutsAlone flags (Op d ∷ []) a new) (λ i. short_jalr flags (zero_link i) (fifth i) (pos 0)) q in
    (mid, made, subst (λ n. IslandIfNeeded (n + 4) old mid made) measured island, pieces_then (return_pieces flags frame arguments) (piece.Jalr 0 5 (pos 0) ∷ []) mid a new (returns_counted flags frame arguments).plain p jump)

-- ---- calls that return

-- the records of a call's return, and what stands before and after them
pub returned_put : {flags : IsaFlags} (frame : FrameLayout) (entries : Option UserStackMap) (t : Option TryCallInfo) (old mid new : Buffer) → PutsAlone flags (slots_of flags (map_notes frame entries)) old mid → PutsAlone flags (slots_of flags (piece.Note (site_event frame t) ∷ [])) mid new → PutsAlone flags (slots_of flags (return_notes frame entries t)) old new
returned_put {flags} frame entries t old mid new p q = pieces_then (map_notes frame entries) (piece.Note (site_event frame t) ∷ []) old mid new (elim entries as (λ e. IsPlain (slots_of flags (map_notes frame e))) [ None ↦ tt | Some e ↦ tt ]) p q

-- records have no bytes
pub returned_long : {flags : IsaFlags} (frame : FrameLayout) (entries : Option UserStackMap) (t : Option TryCallInfo) (old new : Buffer) → PutsAlone flags (slots_of flags (return_notes frame entries t)) old new → length (bytes_of new) ≡ length (bytes_of old)
returned_long frame None t old new p = let a = alone_long _ old new p in omega arith
returned_long frame (Some entries) t old new p = let a = alone_long _ old new p in omega arith

-- what comes after the words of a call
rest_put : {flags : IsaFlags} (frame : FrameLayout) (popped n : ℕ) (patchable : Bool) (entries : Option UserStackMap) (t : Option TryCallInfo) (a b c new : Buffer) → PutsAlone flags (slots_of flags (return_notes frame entries t)) a b → PutsAlone flags (stack_step_slots flags (fall popped)) b c → PutsAlone flags (slots_of flags (patch_notes patchable n)) c new → PutsAlone flags (slots_of flags (rest_pieces frame popped patchable n entries t [])) a new
rest_put {flags} frame popped n patchable entries t a b c new q r s =
    let notes = patch_notes patchable n in
    pieces_then (return_notes frame entries t) (stack_step_pieces (fall popped) ++ (notes ++ [])) a b new (elim entries as (λ e. IsPlain (slots_of flags (return_notes frame e t))) [ None ↦ tt | Some e ↦ tt ]) q
    (pieces_then (stack_step_pieces (fall popped)) (notes ++ []) b c new (steps_counted flags (fall popped)).plain r
    (subst (λ ps. PutsAlone flags (slots_of flags ps) c new) (sym (append-nil notes)) s))

pub call_begun : {flags : IsaFlags} (frame : FrameLayout) (info : CallInfo ExternalName) (link tmp : ℕ) (old a b c new : Buffer) → link ≡ 1 → tmp ≡ 1 → PutsAlone flags (call_to link tmp info.dest ∷ []) old a → PutsAlone flags (slots_of flags (return_notes frame info.stack_map info.try_call_info)) a b → PutsAlone flags (stack_step_slots flags (fall info.callee_pop_size)) b c → PutsAlone flags (slots_of flags (patch_notes info.patchable (call_size flags 8 info.callee_pop_size))) c new → PutsAlone flags (call_slots flags frame info []) old new
call_begun {flags} frame info link tmp old a b c new one spare p q r s =
    pieces_then (piece.Call 1 1 info.dest ∷ []) _ old a new tt (subst (λ s. PutsAlone flags (s ∷ []) old a) (λ i. call_to (one i) (spare i) info.dest) p)
    (rest_put frame info.callee_pop_size (call_size flags 8 info.callee_pop_size) info.patchable info.stack_map info.try_call_info a b c new q r s)

pub call_ind_begun : {flags : IsaFlags} (frame : FrameLayout) (info : CallInfo Reg) (link : ℕ) (old a b new : Buffer) → IsSoundBuffer new → link ≡ 1 → PutsAlone flags (Op (short_jalr flags link (number_of info.dest) (pos 0)) ∷ []) old a → PutsAlone flags (slots_of flags (return_notes frame info.stack_map info.try_call_info)) a b → PutsAlone flags (stack_step_slots flags (fall info.callee_pop_size)) b new → PutsAlone flags (call_ind_slots flags frame info []) old new
call_ind_begun {flags} frame info link old a b new sound one p q r =
    pieces_then (piece.Jalr 1 (number_of info.dest) (pos 0) ∷ []) _ old a new tt (subst (λ n. PutsAlone flags (Op (short_jalr flags n (number_of info.dest) (pos 0)) ∷ []) old a) one p)
    (rest_put frame info.callee_pop_size 0 false info.stack_map info.try_call_info a b new new q r (none_put flags new sound))
