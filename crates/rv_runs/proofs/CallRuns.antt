-- Calls, from where they are made and from where they return, and tail calls.
use Rattle.{rv_base.{specs.Frame.sp_to_fp_of, specs.declared.call.CallInfo.CallInfo, specs.declared.call.ReturnCallInfo.ReturnCallInfo, specs.declared.regs.PReg.PReg}, rv_code.{proofs.LineOperands.{call_ind_kept, call_kept, unless_loadable}, proofs.LineSlots.size_both, proofs.LongSlots.rest_long}}
use Rattle.rv_code.{proofs.Reaching.stands_both, proofs.StackLoads.{AreLoadable, AreOthers, integers_loadable, integers_other, stack_apart}, proofs.StackRuns.{loaded_other, loads_come}, specs.Accesses.{stack_load_pieces, stack_step_pieces, return_pieces}}
use Rattle.{rv_code.{specs.Calls.{call_ind_pieces, call_pieces, patch_notes, rest_pieces, return_notes, try_pieces}, specs.InstParts.{after_call, result_slots, try_slots}, specs.InstRuns.ResumesIn, specs.Sites.LinksFrom}, rv_inst.{specs.Addresses.is_splittable, specs.Meaning.{resumed, symbol_at}}}
use Rattle.{rv_inst.{specs.Returns.{loads_unless, result_loads, saved_load, saves_from, setup_loads}, specs.Sizes.fall}, rv_runs.{proofs.Exits.{RunsHere, but_then_same, comes_out, goes_out, same_but, writes_beside}, proofs.PlainRuns.jump_out}}
use Rattle.rv_runs.proofs.Words.{AddressOf, AreStackLoads, Ask, Base, CallSite, Comes, ComesOut, EmitVState, Enters, ExternalName, Float, FrameLayout, GapIn, Goes, InCourse, Piece, slots_of, Inst, IsAs, IsAt, IsPlacedAt, IsRestorable, IsState, Keeps, Ld}
use Rattle.rv_runs.proofs.Words.{Decoded, CodeHas, Leave, Part, PartsStand, Reg, Resumes, Return, Site, Slot, Slots, StackLoad, StandsIn, State, TailCall, TryCallInfo, UserStackMap, Values, Writable, address_sums, are_values_set, at}
use Rattle.rv_runs.proofs.Words.{back_number, call_parts, code_after, comes_goes, comes_on, course_before, decoded, decoded_jalr, environment, fallen, frame_above, frame_left, goes_first, goes_none, goes_second, inst_rule, is_bad_frame_for, is_float_class, is_float_load}
use Rattle.rv_runs.proofs.Words.{is_integer, is_restorable, jalr_acts, jalr_sized, keeps, led_on, list_any, loads_float, low64, lower_of, not_true, number_of, or_parts, parts_of, plus_none, reads_back, reads_other, reg, restores, restores_float, return_of, return_slots}
use Rattle.rv_runs.{proofs.Words.{same_Some, set_at, set_reg, set_twice, short_jalr, size_of, small_number, spare_set, stack_load_slots, stack_loaded, stack_step_slots, step_at, step_comes, symbol_address, t0_other, tail_call_of, try_call_of, try_exit, upper_of}, proofs.Words.{window_some, wrap}}
use Rattle.std.{proofs.Common.{Bool, List, None, Option, Some, [], ap, arith, false, if◌then◌else◌, length, lit<, not, pos, refl, rules, subst, suc, sym, true, zero, ℕ, ℤ, ◌%◌, ◌*◌, ◌++◌, ◌+◌, ◌-ℤ◌, ◌-◌, ◌/◌, ◌<◌, ◌==◌, ◌^◌, ◌||◌, ◌∙◌, ◌∷◌, ◌≡◌, ◌≤◌}, proofs.lemmas.List.Folds.list_any-append}
use Rattle.rv_machine.specs.declared.ops.BaseOp.TheVariants as base
use Rattle.rv_code.specs.Pieces as piece
use Rattle.rv_inst.specs.declared.inst.Inst.TheVariants.{Call, CallInd, ReturnCall, ReturnCallInd}

-- A tail call takes the frame away, and leaves the code to a symbol or to the address in t0.

-- ---- the frame

-- what was saved is restored, and the stack pointer rises
pub return_comes : {site : Site} {offset size : ℕ} {v : Values} {s : State} (allocated arguments : ℕ) → IsRestorable site.context.frame → AreLoadable (restores site.context.frame) → StandsIn site allocated offset (return_slots site.context.flags site.context.frame arguments) → InCourse site offset (size_of (return_slots site.context.flags site.context.frame arguments) + size) (IsAs v) s →
    Comes site (offset + size_of (return_slots site.context.flags site.context.frame arguments)) size (IsAs (frame_left site.context.frame arguments v)) s
return_comes {site} {offset} {size} {v} {s} allocated arguments h loadable stands k =
    let loads = restores site.context.frame in
    let n = frame_above site.context.frame arguments in
    let first = stack_load_slots site.context.flags loads in
    let rest = stack_step_slots site.context.flags (pos n) in
    let long = size_both site.context.flags (stack_load_pieces site.context.flags loads) (stack_step_pieces (pos n)) in
    let over : offset + size_of first + size_of rest ≡ offset + size_of (return_slots site.context.flags site.context.frame arguments) = omega arith in
    let both = stands_both site allocated offset (stack_load_pieces site.context.flags loads) (stack_step_pieces (pos n)) stands in
    let rise : low64 (pos n) ≡ n = small_number n (let small = h.small in omega arith) in
    subst (λ m. Comes site m size (IsAs (frame_left site.context.frame arguments v)) s) over
    (comes_on (loads_come allocated (reg v 2) loads loadable refl both.0 (course_before (size_of first + (size_of rest + size)) k (omega arith)))
    (λ t k1. subst (λ (w : Values). Comes site (offset + size_of first + size_of rest) size (IsAs w) t) (λ i. set_reg (stack_loaded (reg v 2) loads v) 2 (wrap ((loaded_other (reg v 2) 2 loads v (stack_apart loads loadable)) i + rise i))) (step_comes allocated (pos n) both.1 k1)))

-- ---- after an island, where one is needed

-- the machine where parts are entered
pub entered : {site : Site} {start after : ℕ} {parts : List Part} {s : State} {v : Values} → Enters site start after parts s v → start ≤ length site.bytes → InCourse site start 0 (IsAs v) s
entered e le = record { here = record { even = e.even; room = omega arith; placed = e.placed; pc = e.pc }; is_state = e.is_state; values = record { same = same_but [] e.same; are_values = e.are_values } }

-- past an island or nothing
pub gap_comes : {site : Site} {from to size : ℕ} {u : Values} {s : State} → GapIn site from to → to + size ≤ length site.bytes → InCourse site from 0 (IsAs u) s → Comes site to size (IsAs u) s
gap_comes {site} gap room k =
    let c = led_on gap.leads k.here.placed k.here.pc k.is_state in
    record { state = c.state; goes = comes_goes c; course = search (rules, but_then_same, c, k, (subst (IsPlacedAt site) (sym c.kept) k.here.placed), (gap.even k.here.even)) }

-- slots stand where the machine comes, with these values
pub record IsLeft (site : Site) (slots : List Slot) (w : Values) (s : State) : Type 0 where
  pub allocated : ℕ
  pub offset : ℕ
  pub stands : StandsIn site allocated offset slots
  pub comes : Comes site offset (size_of slots) (IsAs w) s

-- those that restore the frame, and the rest
pub frame_enters : {site : Site} {start after : ℕ} {s : State} {v : Values} (space : ℕ) (slots : List Slot) → Enters site start after (Ask space ∷ Slots slots ∷ []) s v → IsLeft site slots v s
frame_enters space slots e = record { allocated = e.stands.2.0; offset = e.stands.0; stands = e.stands.2.1; comes = gap_comes {size = size_of slots} e.stands.1 (omega arith) (entered e (omega arith)) }

-- the frame is taken away before the rest of the slots
frame_leaves : {site : Site} {start after : ℕ} {s : State} {v : Values} (space arguments : ℕ) (rest : List Piece) → IsRestorable site.context.frame → AreLoadable (restores site.context.frame) → Enters site start after (Ask space ∷ Slots (slots_of site.context.flags (return_pieces site.context.flags site.context.frame arguments ++ rest)) ∷ []) s v → IsLeft site (slots_of site.context.flags rest) (frame_left site.context.frame arguments v) s
frame_leaves {site} {s = s} {v} space arguments rest h loadable e =
    let first = return_pieces site.context.flags site.context.frame arguments in
    let y = frame_enters space (slots_of site.context.flags (first ++ rest)) e in
    let both = stands_both site y.allocated y.offset first rest y.stands in
    record { allocated = y.allocated; offset = y.offset + size_of (slots_of site.context.flags first); stands = both.1; comes = comes_on (subst (λ n. Comes site y.offset n (IsAs v) s) (size_both site.context.flags first rest) y.comes) (λ t k. return_comes y.allocated arguments h loadable both.0 k) }

-- ---- two words that go by way of a register

abbrev pub way_words : ℕ → ℕ → ℤ → List Decoded
way_words link tmp d = decoded (Base base.Auipc) tmp 0 0 (upper_of d) ∷ decoded_jalr link tmp (lower_of d) ∷ []

-- the upper part of a distance, added to an address
abbrev pub upper_sum : ℕ → ℤ → ℕ
upper_sum pc d = wrap (pc + low64 (upper_of d) * 2 ^ 12)

-- the machine goes by the distance; the register of the way holds the upper part's sum, and that of the link the address after both words
pub way_goes : {site : Site} {offset : ℕ} {s : State} (link tmp : ℕ) (d : ℤ) → is_splittable d ≡ true → 0 < tmp → tmp < 32 → IsState s → IsAt site offset 8 s → CodeHas site offset (way_words link tmp d) → Goes site.context.flags 1 s (at (wrap (s.pc + low64 d) / 2 * 2) (set_reg (set_reg s.values tmp (upper_sum s.pc d)) link (wrap (s.pc + 8))))
way_goes {site} {offset} {s} link tmp d near some lt is_state h has =
    let first = decoded (Base base.Auipc) tmp 0 0 (upper_of d) in
    let second = decoded_jalr link tmp (lower_of d) in
    let s1 = at (wrap (s.pc + 4)) (set_reg s.values tmp (upper_sum s.pc d)) in
    let there : wrap (reg s1.values tmp + low64 (lower_of d)) ≡ wrap (s.pc + low64 d) = (λ i. wrap (reads_back s.values tmp (upper_sum s.pc d) is_state.values some lt i + low64 (lower_of d))) ∙ address_sums s.pc d near in
    let next : wrap (wrap (s.pc + 4) + 4) ≡ wrap (s.pc + 8) = omega arith in
    goes_first (step_at first (second ∷ []) s1 h (omega arith) has refl)
    (step_at {size = 4} second [] (at (wrap (s.pc + low64 d) / 2 * 2) (set_reg s1.values link (wrap (s.pc + 8)))) (set_at 4 tmp (upper_sum s.pc d) h refl) (omega arith) (code_after site offset first (second ∷ []) has) (λ i. Some (at (there i / 2 * 2) (set_reg s1.values link (next i)))))

-- ---- to a symbol

pub call_goes : {site : Site} {offset : ℕ} {s : State} (link tmp : ℕ) (name : ExternalName) → 0 < tmp → tmp < 32 → IsState s → IsAt site offset 8 s → (f : LinksFrom site offset name (way_words link tmp)) →
    Goes site.context.flags 1 s (at (symbol_address site (AddressOf name (pos 0)) / 2 * 2) (set_reg (set_reg s.values tmp (upper_sum s.pc f.distance)) link (wrap (s.pc + 8))))
call_goes {site} {offset} {s} link tmp name some lt is_state h f =
    let there : wrap (s.pc + low64 f.distance) ≡ symbol_address site (AddressOf name (pos 0)) = (let leads = f.leads in let pc = h.pc in omega arith) in
    subst (λ a. Goes site.context.flags 1 s (at (a / 2 * 2) (set_reg (set_reg s.values tmp (upper_sum s.pc f.distance)) link (wrap (s.pc + 8))))) there (way_goes link tmp f.distance f.near some lt is_state h f.has)

pub symbol_out : {site : Site} {start after : ℕ} {s : State} {w : Values} (name : ExternalName) → IsLeft site (slots_of site.context.flags (piece.Note CallSite ∷ piece.Call 0 31 name ∷ [])) w s → ComesOut site start after (Leave (symbol_at (environment site start after) name (pos 0) / 2 * 2)) [] w s
symbol_out {site} {w = w} name l =
    let c = l.comes.course in
    let t = l.comes.state in
    let x = upper_sum t.pc l.stands.1.0.distance in
    let values = are_values_set t.values 31 x c.is_state.values (lit< tt) (omega arith) in
    comes_out (at (symbol_address site (AddressOf name (pos 0)) / 2 * 2) (set_reg t.values 31 x)) (goes_second l.comes.goes (call_goes 0 31 name (lit< tt) (lit< tt) c.is_state c.here l.stands.1.0)) refl (search (rules, arith, spare_set, values, c))

-- ---- to the address in t0

-- which it still holds
pub register_out : {site : Site} {start after : ℕ} {s : State} {w : Values} (x : ℕ) → reg w 5 ≡ x → x < 2 ^ 64 → IsLeft site (slots_of site.context.flags (piece.Jalr 0 5 (pos 0) ∷ [])) w s → ComesOut site start after (Leave (x / 2 * 2)) [] w s
register_out {site} {w = w} x kept fits l =
    let flags = site.context.flags in
    let c = l.comes.course in
    let t = l.comes.state in
    let there : wrap (reg t.values 5 + low64 (pos 0)) / 2 * 2 ≡ x / 2 * 2 = (λ i. wrap ((sym (c.values.same.regs 5 (lit< tt) refl) ∙ kept) i + low64 (pos 0)) / 2 * 2) ∙ ap (λ n. n / 2 * 2) (plus_none x fits) in
    let u = at (x / 2 * 2) t.values in
    comes_out u (goes_second l.comes.goes (step_at (short_jalr flags 0 5 (pos 0)) [] u c.here (omega (arith, (jalr_sized flags 0 5 (pos 0)).some)) l.stands.0 (jalr_acts flags 0 5 (pos 0) t c.is_state ∙ (λ i. Some (at (there i) t.values))))) refl (search (rules, arith, c))

t0_kept : (frame : FrameLayout) (arguments : ℕ) (v : Values) → AreOthers 5 (restores frame) → reg (frame_left frame arguments v) 5 ≡ reg v 5
t0_kept frame arguments v others =
    let loads = restores frame in
    reads_other (stack_loaded (reg v 2) loads v) 2 5 (wrap (reg v 2 + frame_above frame arguments)) (λ e. absurd (omega arith)) ∙ loaded_other (reg v 2) 5 loads v others

-- ---- the instructions, where no floating-point register is restored

no_float : (saves : List (Writable PReg)) (offset : ℤ) → list_any (λ (r : Writable PReg). is_float_class r.reg.class) saves ≡ false → loads_float (saves_from offset saves) ≡ false
no_float [] offset e = refl
no_float (r ∷ saves) offset e =
    let both = or_parts (is_float_class r.reg.class) _ e in
    (elim r.reg.class as (λ c. is_float_class c ≡ false → (is_float_load (saved_load c) || loads_float (saves_from (offset -ℤ pos 8) saves)) ≡ false) [ Float ↦ λ e. absurd (cc) | _ ↦ λ e. (no_float saves (offset -ℤ pos 8) both.1) ]) both.0

pub restores_none : (frame : FrameLayout) (tail : TailCall) → restores_float frame (Some tail) ≡ false → loads_float (restores frame) ≡ false
restores_none frame tail e =
    let from = pos (sp_to_fp_of frame) -ℤ pos 8 in
    let setup = elim (frame.setup_area_size == 0) as (λ none. loads_float (if none then [] else record { register = 1; op = Ld; offset = pos (sp_to_fp_of frame + 8) } ∷ record { register = 8; op = Ld; offset = pos (sp_to_fp_of frame) } ∷ []) ≡ false) [ true ↦ refl | false ↦ refl ] in
    list_any-append (λ (l : StackLoad). is_float_load l.op) (saves_from from frame.clobbered_callee_saves) (setup_loads frame) ∙ (λ i. no_float frame.clobbered_callee_saves from e i || setup i)

-- what is restored is of integer registers
integer_restores : (frame : FrameLayout) (tail : TailCall) → IsRestorable frame → restores_float frame (Some tail) ≡ false → AreLoadable (restores frame)
integer_restores frame tail h core = integers_loadable (restores frame) (restores_none frame tail core) h.registers

pub return_call_runs : (site : Site) (setting : EmitVState) (start after : ℕ) (s : State) (v : Values) (info : ReturnCallInfo ExternalName) → restores_float site.context.frame (tail_call_of (ReturnCall info)) ≡ false →
    is_bad_frame_for site.context.frame (tail_call_of (ReturnCall info)) ≡ false → RunsHere site setting (ReturnCall info) start after s v
return_call_runs site setting start after s v info core fine e clear =
    let tail : TailCall = record { stack_arg_size = info.new_stack_arg_size; by_register = false } in
    let h = is_restorable site.context.frame tail fine in
    symbol_out info.dest (frame_leaves _ info.new_stack_arg_size (piece.Note CallSite ∷ piece.Call 0 31 info.dest ∷ []) h (integer_restores site.context.frame tail h core) e)

pub return_call_ind_runs : (site : Site) (setting : EmitVState) (start after : ℕ) (s : State) (v : Values) (info : ReturnCallInfo Reg) → number_of info.dest ≡ 5 → restores_float site.context.frame (tail_call_of (ReturnCallInd info)) ≡ false →
    is_bad_frame_for site.context.frame (tail_call_of (ReturnCallInd info)) ≡ false → RunsHere site setting (ReturnCallInd info) start after s v
return_call_ind_runs site setting start after s v info fifth core fine e clear =
    let n = info.new_stack_arg_size in
    let frame = site.context.frame in
    let tail : TailCall = record { stack_arg_size = n; by_register = true } in
    let h = is_restorable frame tail fine in
    subst (λ m. ComesOut site start after (Leave (reg v m / 2 * 2)) [] (frame_left frame n v) s) (sym fifth)
    (register_out (reg v 5) (t0_kept frame n v (integers_other 5 (restores frame) (restores_none frame tail core) (t0_other frame n fine))) (e.are_values.fits 5) (frame_leaves _ n (piece.Jalr 0 5 (pos 0) ∷ []) h (integer_restores frame tail h core) e))

-- A call leaves the code to a symbol or to the address in a register, and leaves in ra where it returns to; from there on the
-- stack pointer falls, and results are loaded.

-- ---- a call is made

-- a machine elsewhere that holds in ra a number, as these values then do
links_out : {site : Site} {start after : ℕ} {parts : List Part} {s : State} {v : Values} (a x : ℕ) → a < 2 ^ 64 → x < 2 ^ 64 → Enters site start after parts s v → Goes site.context.flags 1 s (at a (set_reg s.values 1 x)) → ComesOut site start after (Leave a) [] (set_reg v 1 x) s
links_out {s = s} a x there fits e goes = comes_out (at a (set_reg s.values 1 x)) goes refl (writes_beside a 1 x there (lit< tt) fits e)

-- the words of a call stand at its start, and something after them
record Begins (site : Site) (start after : ℕ) (call : List Piece → List Piece) : Type 0 where
  last : List Piece
  allocated : ℕ
  stands : StandsIn site allocated start (slots_of site.context.flags (call last))
  within : start + size_of (slots_of site.context.flags (call last)) ≤ after

begins : {site : Site} (start after : ℕ) (call : List Piece → List Piece) (loads : List StackLoad) (t : Option TryCallInfo) → PartsStand site start after (call_parts site.context.flags call loads t) → Begins site start after call
begins {site} start after call [] t (allocated, stands, ends) = record { last = try_pieces t; allocated = allocated; stands = stands; within = omega arith }
begins {site} start after call (l ∷ loads) t (allocated, stands, (mid, gap, (more, rest, ends))) = record { last = []; allocated = allocated; stands = stands; within = let within = gap.within in omega arith }

-- to a symbol
pub call_out : {site : Site} {start after : ℕ} {s : State} {v : Values} (info : CallInfo ExternalName) → Enters site start after (call_parts site.context.flags (call_pieces site.context.flags site.context.frame info) (loads_unless info.patchable info.defs) info.try_call_info) s v →
    ComesOut site start after (Leave (symbol_at (environment site start after) info.dest (pos 0) / 2 * 2)) [] (set_reg v 1 (wrap (wrap (site.base + start) + 8))) s
call_out {site} {start} {after} {s} info e =
    let b = begins start after (call_pieces site.context.flags site.context.frame info) (loads_unless info.patchable info.defs) info.try_call_info e.stands in
    let f = b.stands.0 in
    let a = symbol_address site (AddressOf info.dest (pos 0)) / 2 * 2 in
    links_out a (wrap (wrap (site.base + start) + 8)) (omega arith) (omega arith) e (subst (λ (w : Values). Goes site.context.flags 1 s (at a w)) (set_twice s.values 1 (upper_sum s.pc f.distance) (wrap (s.pc + 8)) ∙ (λ i. set_reg s.values 1 (wrap (e.pc i + 8))))
    (call_goes 1 1 info.dest (lit< tt) (lit< tt) e.is_state (search (rules, arith, e, b)) f))

-- to the address in a register, which is read before ra is written
pub call_ind_out : {site : Site} {start after : ℕ} {s : State} {v : Values} (info : CallInfo Reg) → number_of info.dest < 30 →
    Enters site start after (call_parts site.context.flags (call_ind_pieces site.context.frame info) (result_loads info.defs) info.try_call_info) s v → ComesOut site start after (Leave (reg v (number_of info.dest) / 2 * 2)) []
    (set_reg v 1 (wrap (wrap (site.base + start) + (short_jalr site.context.flags 1 (number_of info.dest) (pos 0)).len))) s
call_ind_out {site} {start} {after} {s} {v} info usable e =
    let flags = site.context.flags in
    let dest = number_of info.dest in
    let d = short_jalr flags 1 dest (pos 0) in
    let b = begins start after (call_ind_pieces site.context.frame info) (result_loads info.defs) info.try_call_info e.stands in
    let some = (jalr_sized flags 1 dest (pos 0)).some in
    let a = reg v dest / 2 * 2 in
    let x = wrap (wrap (site.base + start) + d.len) in
    let there : wrap (reg s.values dest + low64 (pos 0)) / 2 * 2 ≡ a = (λ i. wrap (sym (e.same.regs dest usable) i + low64 (pos 0)) / 2 * 2) ∙ ap (λ n. n / 2 * 2) (plus_none (reg v dest) (e.are_values.fits dest)) in
    links_out a x (omega arith) (omega arith) e (step_at d [] (at a (set_reg s.values 1 x)) (search (rules, arith, e, b)) some b.stands.0 (jalr_acts flags 1 dest (pos 0) s e.is_state ∙ (λ i. Some (at (there i) (set_reg s.values 1 (wrap (e.pc i + d.len)))))))

-- ---- a call returns

falls_come : {site : Site} {offset size : ℕ} {s : State} {v : Values} (allocated popped : ℕ) → popped < 2 ^ 31 → StandsIn site allocated offset (after_call site.context.flags popped) → InCourse site offset (size_of (after_call site.context.flags popped) + size) (IsAs v) s → Comes site (offset + size_of (after_call site.context.flags popped)) size (IsAs (fallen popped v)) s
falls_come {site} {offset} {size} {s} {v} allocated popped few stands k =
    let falls = (elim popped as (λ n. n < 2 ^ 31 → wrap (reg v 2 + low64 (fall n)) ≡ wrap (reg v 2 + (2 ^ 64 - n))) [ zero ↦ λ few. omega arith | suc n ↦ λ few. ap (λ m. wrap (reg v 2 + m)) (back_number (suc n) (omega arith) (omega arith)) ]) few in
    subst (λ (w : Values). Comes site (offset + size_of (after_call site.context.flags popped)) size (IsAs w) s) (ap (set_reg v 2) falls) (step_comes allocated (fall popped) stands k)

pub continues : {site : Site} {start after from : ℕ} {s : State} {u : Values} (allocated : ℕ) (t : Option TryCallInfo) → StandsIn site allocated from (try_slots site.context.flags t) → from + size_of (try_slots site.context.flags t) ≡ after → Comes site from (size_of (try_slots site.context.flags t)) (IsAs u) s → ComesOut site start after (try_exit t) [] u s
continues allocated None stands ends c = goes_out c.goes (comes_out c.state (goes_none _ c.state) (let pc = c.course.here.pc in omega arith) (search (rules, c.course)))
continues {site} allocated (Some t) stands ends c = goes_out c.goes (jump_out t.continuation c.course.here (let some = window_some site.context.flags in omega arith) stands.0 (search (rules, c.course)))

-- what comes after records stands where they do
notes_past : (site : Site) (allocated at : ℕ) (entries : Option UserStackMap) (t : Option TryCallInfo) (ps : List Piece) → StandsIn site allocated at (slots_of site.context.flags (return_notes site.context.frame entries t ++ ps)) → StandsIn site allocated at (slots_of site.context.flags ps)
notes_past site allocated at None t ps h = h.1
notes_past site allocated at (Some entries) t ps h = h.1.1

patch_past : (site : Site) (allocated at n : ℕ) (patchable : Bool) (ps : List Piece) → StandsIn site allocated at (slots_of site.context.flags (patch_notes patchable n ++ ps)) → StandsIn site allocated at (slots_of site.context.flags ps)
patch_past site allocated at n false ps h = h
patch_past site allocated at n true ps h = h.1

-- the step of the stack pointer stands there, and what comes after it
rest_split : (site : Site) (allocated at popped : ℕ) (patchable : Bool) (n : ℕ) (entries : Option UserStackMap) (t : Option TryCallInfo) (last : List Piece) → StandsIn site allocated at (slots_of site.context.flags (rest_pieces site.context.frame popped patchable n entries t last)) → StandsIn site allocated at (after_call site.context.flags popped) × StandsIn site allocated (at + size_of (after_call site.context.flags popped)) (slots_of site.context.flags last)
rest_split site allocated at popped patchable n entries t last h =
    let more = patch_notes patchable n ++ last in
    let both = stands_both site allocated at (stack_step_pieces (fall popped)) more (notes_past site allocated at entries t (stack_step_pieces (fall popped) ++ more) h) in
    (both.0, patch_past site allocated (at + size_of (after_call site.context.flags popped)) n patchable last both.1)

-- the machine where a call returns, before so many bytes
resumes_at : {site : Site} {start after from : ℕ} {parts : List Part} {s : State} {v : Values} (size : ℕ) → from % 2 ≡ 0 → from + size ≤ after → Resumes site start after from parts s v → InCourse site from size (IsAs v) s
resumes_at size even room h = search (rules, arith, same_but, h)

-- the words of a call, after the first of which stands the rest
pub record Opens (site : Site) (start offset popped n : ℕ) (patchable : Bool) (entries : Option UserStackMap) (t : Option TryCallInfo) (call : List Piece → List Piece) : Type 0 where
  pub even : offset % 2 ≡ 0
  pub rest : (allocated : ℕ) (last : List Piece) → StandsIn site allocated start (slots_of site.context.flags (call last)) → StandsIn site allocated (start + offset) (slots_of site.context.flags (rest_pieces site.context.frame popped patchable n entries t last))
  pub long : (last : List Piece) → size_of (slots_of site.context.flags (call last)) ≡ offset + size_of (slots_of site.context.flags (rest_pieces site.context.frame popped patchable n entries t last))

-- The stack pointer has fallen where loads stand, past an island where one stands, and a jump after them where the call ends its block.
pub record IsAtLoads (site : Site) (after : ℕ) (loads : List StackLoad) (t : Option TryCallInfo) (u : Values) (s : State) : Type 0 where
  pub there : IsLeft site (result_slots site.context.flags loads t) u s
  pub ends : there.offset + size_of (result_slots site.context.flags loads t) ≡ after

pub comes_to_loads : {site : Site} {start after : ℕ} {s : State} {v : Values} (offset popped n : ℕ) (patchable : Bool) (entries : Option UserStackMap) (t : Option TryCallInfo) (call : List Piece → List Piece) (loads : List StackLoad) → popped < 2 ^ 31 → Opens site start offset popped n patchable entries t call → Resumes site start after (start + offset) (call_parts site.context.flags call loads t) s v → IsAtLoads site after loads t (fallen popped v) s
comes_to_loads {site} {start} {after} {s} {v} offset popped n patchable entries t call [] few o h =
    let step = after_call site.context.flags popped in
    let jump = try_slots site.context.flags t in
    let allocated = h.stands.0 in
    let rest = rest_long site.context.flags site.context.frame popped patchable n entries t (try_pieces t) in
    let long = o.long (try_pieces t) in
    let both = rest_split site allocated (start + offset) popped patchable n entries t (try_pieces t) (o.rest allocated (try_pieces t) h.stands.1) in
    record {
      there = record { allocated = allocated; offset = start + offset + size_of step; stands = both.1; comes = falls_come allocated popped few both.0 (resumes_at (size_of step + size_of jump) (omega arith) (omega arith) h) };
      ends = omega arith;
    }
comes_to_loads {site} {start} {after} {s} {v} offset popped n patchable entries t call (l ∷ loads) few o h =
    let flags = site.context.flags in
    let step = after_call flags popped in
    let there : start + size_of (slots_of flags (call [])) ≡ start + offset + size_of step = omega (arith, o.long [], rest_long flags site.context.frame popped patchable n entries t []) in
    let falls = falls_come {size = 0} h.stands.0 popped few (rest_split site h.stands.0 (start + offset) popped patchable n entries t [] (o.rest h.stands.0 [] h.stands.1)).0 (resumes_at (size_of step + 0) (omega arith) (omega arith) h) in
    record {
      there = record { allocated = h.stands.2.2.0; offset = h.stands.2.0; stands = h.stands.2.2.1; comes = comes_on falls (λ s1 k1. gap_comes {size = size_of (result_slots flags (l ∷ loads) t)} (subst (λ m. GapIn site m h.stands.2.0) there h.stands.2.1) (omega arith) k1) };
      ends = h.stands.2.2.2;
    }

-- the loads stand before the jump, and the machine comes to them
pub loads_first : {site : Site} {after : ℕ} {loads : List StackLoad} {t : Option TryCallInfo} {u : Values} {s : State} (a : IsAtLoads site after loads t u s) → Comes site a.there.offset (size_of (stack_load_slots site.context.flags loads) + size_of (try_slots site.context.flags t)) (IsAs u) s × StandsIn site a.there.allocated a.there.offset (stack_load_slots site.context.flags loads) ×
    StandsIn site a.there.allocated (a.there.offset + size_of (stack_load_slots site.context.flags loads)) (try_slots site.context.flags t) × (a.there.offset + size_of (stack_load_slots site.context.flags loads) + size_of (try_slots site.context.flags t) ≡ after)
loads_first {site} {loads = loads} {t} {u} {s} a =
    let long = size_both site.context.flags (stack_load_pieces site.context.flags loads) (try_pieces t) in
    let both = stands_both site a.there.allocated a.there.offset (stack_load_pieces site.context.flags loads) (try_pieces t) a.there.stands in
    let ends = a.ends in
    (subst (λ n. Comes site a.there.offset n (IsAs u) s) long a.there.comes, both.0, both.1, omega arith)

-- the stack pointer falls, results are loaded, past an island where one stands, and then control goes on
resumes_out : {site : Site} {start after : ℕ} {s : State} {v : Values} (offset popped n : ℕ) (patchable : Bool) (entries : Option UserStackMap) (t : Option TryCallInfo) (call : List Piece → List Piece) (loads : List StackLoad) → popped < 2 ^ 31 →
    AreStackLoads loads → Opens site start offset popped n patchable entries t call → not (loads_float loads) ≡ true →
    Resumes site start after (start + offset) (call_parts site.context.flags call loads t) s v → ComesOut site start after (try_exit t) [] (resumed (record { offset = offset; popped = popped; loads = loads }) v) s
resumes_out {v = v} offset popped n patchable entries t call loads few loadable o core h =
    let u = fallen popped v in
    let a = comes_to_loads offset popped n patchable entries t call loads few o h in
    let y = loads_first a in
    continues a.there.allocated t y.2 y.3 (comes_on y.0 (λ s1 k1. loads_come a.there.allocated (reg u 2) loads (integers_loadable loads (not_true (loads_float loads) core) loadable) refl y.1 k1))

-- what holds of every call and return, by what opens the two kinds of call, and of the integer core where no floating-point register is loaded
pub by_call : (site : Site) (start : ℕ) (setting : EmitVState) (P : Return → List Part → Option TryCallInfo → Bool → Type 0) →
    ((offset popped n : ℕ) (patchable : Bool) (entries : Option UserStackMap) (t : Option TryCallInfo) (call : List Piece → List Piece) (loads : List StackLoad) → popped < 2 ^ 31 → AreStackLoads loads → Opens site start offset popped n patchable entries t call →
    P (record { offset = offset; popped = popped; loads = loads }) (call_parts site.context.flags call loads t) t (not (loads_float loads))) →
    (inst : Inst) (r : Return) → Keeps inst → return_of site.context.flags inst ≡ Some r → P r (parts_of site.context setting inst) (try_call_of inst) (is_integer inst)
by_call site start setting P on (Call info) r k is =
    let c = call_kept info k in
    subst (λ q. P q (parts_of site.context setting (Call info)) info.try_call_info (is_integer (Call info))) (same_Some _ r is)
    (on 8 info.callee_pop_size _ info.patchable info.stack_map info.try_call_info (call_pieces site.context.flags site.context.frame info) (loads_unless info.patchable info.defs)
    c.few (unless_loadable info.patchable info.defs c.loadable) (record { even = refl; rest = λ allocated last stands. stands.1; long = λ last. refl }))
by_call site start setting P on (CallInd info) r k is =
    let c = call_ind_kept info k in
    subst (λ q. P q (parts_of site.context setting (CallInd info)) info.try_call_info (is_integer (CallInd info))) (same_Some _ r is)
    (on (short_jalr site.context.flags 1 (number_of info.dest) (pos 0)).len info.callee_pop_size 0 false info.stack_map info.try_call_info (call_ind_pieces site.context.frame info) (result_loads info.defs)
    c.few c.loadable (record { even = (jalr_sized site.context.flags 1 (number_of info.dest) (pos 0)).even; rest = λ allocated last stands. stands.1; long = λ last. refl }))
by_call site start setting P on _ r k is = absurd (cc)

-- every instruction of the integer core that breaks no rule and returns runs on as it means from where it does
pub inst_resumes : (site : Site) (setting : EmitVState) (inst : Inst) (r : Return) → is_integer inst ≡ true → inst_rule site.context inst ≡ None → return_of site.context.flags inst ≡ Some r → ResumesIn site setting inst r
inst_resumes site setting inst r core rule is =
    record { run = λ start after s v. by_call site start setting (λ q parts t integer. integer ≡ true → Resumes site start after (start + q.offset) parts s v → ComesOut site start after (try_exit t) [] (resumed q v) s) resumes_out inst r (keeps site.context inst rule) is core }
