-- Calls and tail calls on the machine with all units, where registers of both files come from the stack.
use Rattle.rv_code.{proofs.LineSlots.size_both, proofs.Reaching.stands_both, proofs.StackLoads.{AreOthersAs, IsLoadableAs, IsOtherAs}, proofs.StackRuns.{integer_loaded, line_comes, one_other as integer_other}, specs.Accesses.{stack_load_pieces, stack_step_pieces, load_line_pieces, return_pieces}}
use Rattle.{rv_inst.specs.Meaning.loaded, rv_runs.{proofs.CallRuns.{IsLeft, Opens, by_call, call_ind_out, call_out, comes_to_loads, continues, frame_enters, loads_first, register_out, restores_none, symbol_out}, proofs.Exits.all_same, proofs.FloatMemory.{line_even, line_load}}}
use Rattle.rv_runs.proofs.UnitRuns.{FullSteps, more_steps, no_steps}
use Rattle.rv_runs.proofs.Words.{AreStackLoads, Ask, Based, CallSite, Comes, ComesOut, EmitVState, Enters, Exit, FloatFormat, FrameLayout, FullComesOut, FullEnds, FullState, FullValues, InCourse, Inst, IsAs, Piece, slots_of, IsAt, IsFullState, IsRestorable}
use Rattle.rv_runs.proofs.Words.{Keeps, Leave, Resumes, Return, Site, Slot, Slots, StackLoad, StandsIn, State, TailCall, TryCallInfo, UserStackMap, Values, call_parts, call_usable, code_limit, comes_here, environment, fallen, fiter_none}
use Rattle.rv_runs.proofs.Words.{float_loaded, frame_above, frame_left, inst_effect, inst_exit, inst_temporaries, integer_run, is_bad_frame_for, is_float_load, is_restorable, load_format, load_line_slots, loads_float, low64, or_parts, parts_of, put, reads_other, reg}
use Rattle.rv_runs.proofs.Words.{restores, restores_float, return_of, return_slots, same_Some, size_of, slots_alone, small_number, stack_load_slots, stack_loaded, stack_step_slots, step_comes, t0_other, tail_call_of, target_fine, try_call_of, try_exit, with_ints, wrap}
use Rattle.{rv_runs.specs.FullReturns.{full_left, full_loaded, full_resumed, loaded_as, set_int}, std.proofs.Common.{Bool, List, None, Option, Some, [], ap, arith, false, is_some, length, lit<, pos, refl, rules, subst, sym, true, ℕ, ◌*◌, ◌++◌, ◌+◌, ◌/◌, ◌<◌, ◌^◌, ◌∙◌, ◌∷◌, ◌≡◌, ◌≤◌, ◌%◌}}
use Rattle.rv_code.specs.Pieces as piece
use Rattle.rv_inst.specs.declared.inst.Inst.TheVariants.{Call, CallInd, ReturnCall, ReturnCallInd}

-- Registers of both files come from the stack, on the machine with all units: integer words are lifted, and each load of a floating-point
-- register is one exact row after them.

-- ---- the machine's way

-- at an offset, before so many bytes of the code, with values that are the same as these
pub record FullCourse (site : Site) (offset size : ℕ) (v : FullValues) (b : FullState) : Type 0 where
  pub here : IsAt site offset size b.state
  pub ints : IsAs v.ints b.state.values
  pub units : v.units ≡ b.units
  pub is_state : IsFullState b

-- it comes there
abbrev pub FullComes : Site → ℕ → ℕ → FullValues → FullState → Type 0
FullComes site offset size v b = FullSteps site (FullCourse site offset size v) b

-- as the integer machine does by integer words
pub integers_come : {site : Site} {offset size : ℕ} {u : Values} (v : FullValues) (b : FullState) → v.units ≡ b.units → IsFullState b → Comes site offset size (IsAs u) b.state → FullComes site offset size (with_ints u v) b
integers_come {site} v b units full c = record { steps = c.goes.steps; state = put c.state b; ran = integer_run site.context.flags c.goes.steps c.state b c.goes.ran; answers = refl; setting = refl; there = search (rules, c.course, units, full) }

pub in_course : {site : Site} {offset size : ℕ} {v : FullValues} {b : FullState} → FullCourse site offset size v b → InCourse site offset size (IsAs v.ints) b.state
in_course k = record { here = k.here; is_state = k.is_state.state; values = k.ints }

-- and ends where integer words come out from there
pub ends_by : {site : Site} {start after offset size : ℕ} {exit : Exit} {made : FullValues} {b : FullState} (c : FullComes site offset size made b) → ComesOut site start after exit [] made.ints c.state.state → FullEnds site start after exit [] made [] b
ends_by c out = record { steps = c.steps; state = c.state; ran = c.ran; last = out; units = c.there.units; is_state = c.there.is_state; answers = c.answers; setting = c.setting }

pub ends_at_once : {site : Site} {start after : ℕ} {exit : Exit} {free : List ℕ} {b : FullState} {w : Values} (v : FullValues) → v.units ≡ b.units → IsFullState b → ComesOut site start after exit free w b.state → FullEnds site start after exit free (with_ints w v) [] b
ends_at_once {site} {b = b} v units full out = record { steps = 0; state = b; ran = fiter_none site.context.flags b; last = out; units = units; is_state = full; answers = refl; setting = refl }

-- ---- what loads leave

-- an integer register that isn't among them keeps its value
one_other : (l : StackLoad) (format : Option FloatFormat) (a n : ℕ) (v : FullValues) → IsOtherAs format n l.register → reg (loaded_as format l a v).ints n ≡ reg v.ints n
one_other l None a n v other = integer_other l.op l.register a n v.ints other
one_other l (Some format) a n v other = refl

pub full_other : (sp n : ℕ) (loads : List StackLoad) (v : FullValues) → AreOthersAs n loads → reg (full_loaded sp loads v).ints n ≡ reg v.ints n
full_other sp n [] v others = refl
full_other sp n (l ∷ loads) v others =
    let a = wrap (sp + low64 l.offset) in
    full_other sp n loads (loaded_as (load_format l.op) l a v) others.1 ∙ one_other l (load_format l.op) a n v others.0

stack_other : (format : Option FloatFormat) (n : ℕ) → IsLoadableAs format n → IsOtherAs format 2 n
stack_other None n h = h.apart
stack_other (Some format) n h = tt

pub stack_kept : (loads : List StackLoad) → AreStackLoads loads → AreOthersAs 2 loads
stack_kept [] h = tt
stack_kept (l ∷ loads) h = (stack_other (load_format l.op) l.register h.0, stack_kept loads h.1)

pub loaded_integers : (sp : ℕ) (loads : List StackLoad) (v : FullValues) → loads_float loads ≡ false → full_loaded sp loads v ≡ with_ints (stack_loaded sp loads v.ints) v
loaded_integers sp [] v e = refl
loaded_integers sp (l ∷ loads) v e =
    let a = wrap (sp + low64 l.offset) in
    let both = or_parts (is_float_load l.op) (loads_float loads) e in
    ap (full_loaded sp loads) ((elim (load_format l.op) as (λ f. is_some f ≡ false → loaded_as f l a v ≡ with_ints (loaded l.op l.register a v.ints) v) [ None ↦ λ e. refl | Some format ↦ λ e. absurd (cc) ]) both.0)
    ∙ loaded_integers sp loads (with_ints (loaded l.op l.register a v.ints) v) both.1

pub left_integers : (frame : FrameLayout) (tail : TailCall) (arguments : ℕ) (v : FullValues) → restores_float frame (Some tail) ≡ false → full_left frame arguments v ≡ with_ints (frame_left frame arguments v.ints) v
left_integers frame tail arguments v e = ap (λ u. set_int u 2 (wrap (reg v.ints 2 + frame_above frame arguments))) (loaded_integers (reg v.ints 2) (restores frame) v (restores_none frame tail e))

-- ---- one load

-- where code is short enough for every distance in it, and labels are bound in it
module _ {site : Site} (short : length site.bytes < code_limit) (labels : (label at : ℕ) → site.place label ≡ Some at → at ≤ length site.bytes) where
  one_comes : {offset size : ℕ} {v : FullValues} {b : FullState} (allocated : ℕ) (l : StackLoad) (format : Option FloatFormat) → load_format l.op ≡ format → IsLoadableAs format l.register → StandsIn site allocated offset (load_line_slots site.context.flags l.register l.op None (Based 2 l.offset)) → FullCourse site offset (size_of (load_line_slots site.context.flags l.register l.op None (Based 2 l.offset)) + size) v b → FullComes site (offset + size_of (load_line_slots site.context.flags l.register l.op None (Based 2 l.offset))) size (loaded_as format l (wrap (reg v.ints 2 + low64 l.offset)) v) b
  one_comes {offset} {size} {v} {b} allocated l None is h stands k =
      subst (λ w. FullComes site (offset + (size_of (load_line_slots site.context.flags l.register l.op None (Based 2 l.offset)))) size (with_ints w v) b) (sym (integer_loaded l.op l.register (wrap (reg v.ints 2 + low64 l.offset)) v.ints (ap is_some is)))
      (integers_come v b k.units k.is_state (line_comes allocated l.register 2 l.op l.offset (ap is_some is) h.usable (lit< tt) stands (in_course k)))
  one_comes {offset} {size} {v} {b} allocated l (Some format) is h stands k =
      let slots = load_line_slots site.context.flags l.register l.op None (Based 2 l.offset) in
      let n = size_of slots in
      let e : Enters site offset (offset + n) (slots_alone slots) b.state v.ints = search (rules, arith, short, labels, stands, k, all_same) in
      let own_even : (offset + n) % 2 ≡ 0 = (let even = line_even site.context.flags l.register l.op None (Based 2 l.offset) in let starts = e.even in omega arith) in
      let out : FullComesOut site (offset + n) [] (float_loaded format l.register (wrap (reg v.ints 2 + low64 l.offset)) v) [] b = line_load l.register l.op None (Based 2 l.offset) format is h (lit< tt) e k.units k.is_state in
      record { steps = out.steps; state = out.state; ran = out.ran; answers = out.answers; setting = out.setting; there = search (rules, arith, out) }

  -- loads one after the other, each of which counts from the same stack pointer
  pub full_loads_come : {size : ℕ} (allocated sp : ℕ) (loads : List StackLoad) (offset : ℕ) (v : FullValues) (b : FullState) → AreStackLoads loads → reg v.ints 2 ≡ sp → StandsIn site allocated offset (stack_load_slots site.context.flags loads) → FullCourse site offset (size_of (stack_load_slots site.context.flags loads) + size) v b → FullComes site (offset + size_of (stack_load_slots site.context.flags loads)) size (full_loaded sp loads v) b
  full_loads_come {size} allocated sp [] offset v b h from stands k =
      let there : offset ≡ offset + 0 = omega arith in
      subst (λ n. FullComes site n size v b) there (no_steps (subst (λ n. FullCourse site offset n v b) (omega arith) k))
  full_loads_come {size} allocated sp (l ∷ loads) offset v b h from stands k =
      let first = load_line_slots site.context.flags l.register l.op None (Based 2 l.offset) in
      let rest = stack_load_slots site.context.flags loads in
      let long = size_both site.context.flags (load_line_pieces site.context.flags l.op l.register None (Based 2 l.offset)) (stack_load_pieces site.context.flags loads) in
      let over : offset + size_of first + size_of rest ≡ offset + size_of (stack_load_slots site.context.flags (l ∷ loads)) = omega arith in
      let both = stands_both site allocated offset (load_line_pieces site.context.flags l.op l.register None (Based 2 l.offset)) (stack_load_pieces site.context.flags loads) stands in
      let a = wrap (sp + low64 l.offset) in
      let one = one_comes {size = size_of rest + size} allocated l (load_format l.op) refl h.0 both.0 (subst (λ n. FullCourse site offset n v b) (omega arith) k) in
      subst (λ n. FullComes site n size (full_loaded sp (l ∷ loads) v) b) over
      (more_steps (subst (λ r. FullComes site (offset + size_of first) (size_of rest + size) (loaded_as (load_format l.op) l (wrap (r + low64 l.offset)) v) b) from one)
      (λ c k1. full_loads_come allocated sp loads (offset + size_of first) (loaded_as (load_format l.op) l a v) c h.1 (one_other l (load_format l.op) a 2 v (stack_other (load_format l.op) l.register h.0) ∙ from) both.1 k1))

-- A call whose results are of both files: it leaves the code as any call does, and from where it returns it runs on as it means on the
-- machine with all units.

-- what makes the call is of integers, whatever its results are
pub call_starts : {site : Site} {start after : ℕ} {s : State} {v : Values} (setting : EmitVState) (inst : Inst) (r : Return) → Keeps inst → return_of site.context.flags inst ≡ Some r → Enters site start after (parts_of site.context setting inst) s v →
    ComesOut site start after (inst_exit (environment site start after) inst v) (inst_temporaries inst) (inst_effect (environment site start after) inst v) s
call_starts setting (Call info) r k is e = call_out info e
call_starts setting (CallInd info) r k is e = call_ind_out info (call_usable info k).1 e
call_starts setting _ r k is e = absurd (cc)

module _ {site : Site} (short : length site.bytes < code_limit) (labels : (label at : ℕ) → site.place label ≡ Some at → at ≤ length site.bytes) {start after : ℕ} {v : FullValues} {b : FullState} (units : v.units ≡ b.units) (full : IsFullState b) where
  loaded_out : (offset popped n : ℕ) (patchable : Bool) (entries : Option UserStackMap) (t : Option TryCallInfo) (call : List Piece → List Piece) (loads : List StackLoad) → popped < 2 ^ 31 → AreStackLoads loads → Opens site start offset popped n patchable entries t call → Resumes site start after (start + offset) (call_parts site.context.flags call loads t) b.state v.ints → FullEnds site start after (try_exit t) [] (full_resumed (record { offset = offset; popped = popped; loads = loads }) v) [] b
  loaded_out offset popped n patchable entries t call loads few loadable o h =
      let u = fallen popped v.ints in
      let a = comes_to_loads offset popped n patchable entries t call loads few o h in
      let y = loads_first a in
      let c = more_steps (integers_come v b units full y.0) (λ c k. full_loads_come short labels a.there.allocated (reg u 2) loads a.there.offset (with_ints u v) c loadable refl y.1 k) in
      ends_by c (continues a.there.allocated t y.2 y.3 (comes_here (in_course c.there)))

  pub full_resumes : (setting : EmitVState) (inst : Inst) (r : Return) → Keeps inst → return_of site.context.flags inst ≡ Some r → Resumes site start after (start + r.offset) (parts_of site.context setting inst) b.state v.ints →
      FullEnds site start after (try_exit (try_call_of inst)) [] (full_resumed r v) [] b
  full_resumes setting inst r k is = by_call site start setting (λ q parts t integer. Resumes site start after (start + q.offset) parts b.state v.ints → FullEnds site start after (try_exit t) [] (full_resumed q v) [] b) loaded_out inst r k is

-- A tail call from a frame that saves registers of both files restores them, on the machine with all units, and leaves the code.

-- the frame is taken away before the rest of the slots
record FullLeft (site : Site) (arguments : ℕ) (rest : List Slot) (v : FullValues) (b : FullState) : Type 0 where
  offset : ℕ
  comes : FullComes site offset (size_of rest) (full_left site.context.frame arguments v) b
  left : IsLeft site rest (full_left site.context.frame arguments v).ints comes.state.state

t0_kept : (frame : FrameLayout) (arguments : ℕ) (v : FullValues) → AreOthersAs 5 (restores frame) → reg (full_left frame arguments v).ints 5 ≡ reg v.ints 5
t0_kept frame arguments v others = reads_other (full_loaded (reg v.ints 2) (restores frame) v).ints 2 5 (wrap (reg v.ints 2 + frame_above frame arguments)) (λ e. absurd (omega arith)) ∙ full_other (reg v.ints 2) 5 (restores frame) v others

module _ {site : Site} (short : length site.bytes < code_limit) (labels : (label at : ℕ) → site.place label ≡ Some at → at ≤ length site.bytes) where
  -- what was saved is restored, and the stack pointer rises
  return_comes : {offset size : ℕ} {v : FullValues} {b : FullState} (allocated arguments : ℕ) → IsRestorable site.context.frame → StandsIn site allocated offset (return_slots site.context.flags site.context.frame arguments) → FullCourse site offset (size_of (return_slots site.context.flags site.context.frame arguments) + size) v b → FullComes site (offset + size_of (return_slots site.context.flags site.context.frame arguments)) size (full_left site.context.frame arguments v) b
  return_comes {offset} {size} {v} {b} allocated arguments h stands k =
      let loads = restores site.context.frame in
      let n = frame_above site.context.frame arguments in
      let first = stack_load_slots site.context.flags loads in
      let rest = stack_step_slots site.context.flags (pos n) in
      let long = size_both site.context.flags (stack_load_pieces site.context.flags loads) (stack_step_pieces (pos n)) in
      let over : offset + size_of first + size_of rest ≡ offset + size_of (return_slots site.context.flags site.context.frame arguments) = omega arith in
      let both = stands_both site allocated offset (stack_load_pieces site.context.flags loads) (stack_step_pieces (pos n)) stands in
      let u = full_loaded (reg v.ints 2) loads v in
      let rise : low64 (pos n) ≡ n = small_number n (let small = h.small in omega arith) in
      let kept : reg u.ints 2 ≡ reg v.ints 2 = full_other (reg v.ints 2) 2 loads v (stack_kept loads h.registers) in
      subst (λ m. FullComes site m size (full_left site.context.frame arguments v) b) over
      (more_steps (full_loads_come short labels allocated (reg v.ints 2) loads offset v b h.registers refl both.0 (subst (λ m. FullCourse site offset m v b) (omega arith) k))
      (λ c k1. subst (λ w. FullComes site (offset + size_of first + size_of rest) size w c) (λ i. set_int u 2 (wrap (kept i + rise i))) (integers_come u c k1.units k1.is_state (step_comes {size = size} allocated (pos n) both.1 (in_course k1)))))

  frame_leaves : {start after : ℕ} {v : FullValues} {b : FullState} (space arguments : ℕ) (rest : List Piece) → IsRestorable site.context.frame → v.units ≡ b.units → IsFullState b → Enters site start after (Ask space ∷ Slots (slots_of site.context.flags (return_pieces site.context.flags site.context.frame arguments ++ rest)) ∷ []) b.state v.ints → FullLeft site arguments (slots_of site.context.flags rest) v b
  frame_leaves {v = v} {b} space arguments rest h units full e =
      let first = return_pieces site.context.flags site.context.frame arguments in
      let y = frame_enters space (slots_of site.context.flags (first ++ rest)) e in
      let both = stands_both site y.allocated y.offset first rest y.stands in
      let n = y.offset + size_of (slots_of site.context.flags first) in
      let c = more_steps (integers_come v b units full (subst (λ n. Comes site y.offset n (IsAs v.ints) b.state) (size_both site.context.flags first rest) y.comes)) (λ c k. return_comes {size = size_of (slots_of site.context.flags rest)} y.allocated arguments h both.0 k) in
      record { offset = n; comes = c; left = record { allocated = y.allocated; offset = n; stands = both.1; comes = comes_here (in_course c.there) } }

  module _ {start after : ℕ} {v : FullValues} {b : FullState} (units : v.units ≡ b.units) (full : IsFullState b) where
    pub full_leaves : (setting : EmitVState) (inst : Inst) (tail : TailCall) → Keeps inst → tail_call_of inst ≡ Some tail → is_bad_frame_for site.context.frame (tail_call_of inst) ≡ false → Enters site start after (parts_of site.context setting inst) b.state v.ints →
        FullEnds site start after (inst_exit (environment site start after) inst v.ints) (inst_temporaries inst) (full_left site.context.frame tail.stack_arg_size v) [] b
    full_leaves setting (ReturnCall info) tail k is fine e =
        let n = info.new_stack_arg_size in
        let l = frame_leaves _ n (piece.Note CallSite ∷ piece.Call 0 31 info.dest ∷ []) (is_restorable site.context.frame (record { stack_arg_size = n; by_register = false }) fine) units full e in
        subst (λ (t : TailCall). FullEnds site start after (inst_exit (environment site start after) (ReturnCall info) v.ints) [] (full_left site.context.frame t.stack_arg_size v) [] b) (same_Some _ tail is) (ends_by l.comes (symbol_out info.dest l.left))
    full_leaves setting (ReturnCallInd info) tail k is fine e =
        let n = info.new_stack_arg_size in
        let frame = site.context.frame in
        let l = frame_leaves _ n (piece.Jalr 0 5 (pos 0) ∷ []) (is_restorable frame (record { stack_arg_size = n; by_register = true }) fine) units full e in
        subst (λ (t : TailCall). FullEnds site start after (inst_exit (environment site start after) (ReturnCallInd info) v.ints) [] (full_left frame t.stack_arg_size v) [] b) (same_Some _ tail is)
        (subst (λ m. FullEnds site start after (Leave (reg v.ints m / 2 * 2)) [] (full_left frame n v) [] b) (sym (target_fine info k).1) (ends_by l.comes (register_out (reg v.ints 5) (t0_kept frame n v (t0_other frame n fine)) (e.are_values.fits 5) l.left)))
    full_leaves setting _ tail k is fine e = absurd (cc)
