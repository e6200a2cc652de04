-- What calls put: the call, and the results that are loaded after it.
use Rattle.{rv_code.{specs.Accesses.{stack_load_pieces, load_line_pieces}, specs.Calls.try_pieces, specs.InstParts.result_slots, specs.Pieces.{Piece, slots_of}}, rv_emit.{proofs.CallSlots.IsCall, proofs.MostBytes.all_load, proofs.ReachAfterInst.{reach_within, still_pending}}}
use Rattle.rv_emit.proofs.TailCallCode.{loads_plain, loads_room, loads_then}
use Rattle.rv_emit.proofs.Terms.{◌≡◌, ℕ, ◌+◌, ◌≤◌, false, List, [], ◌∷◌, ◌++◌, length, append-nil, append_assoc, Option, pos, ap, ◌∙◌, subst, arith, zero, suc, ◌*◌, ◌<◌, Bool, cond, take, Some, None, refl, sym, TryCallInfo, IsaFlags, Context, StackLoad, typed_loads}
use Rattle.rv_emit.proofs.Terms.{location_loads, result_loads, result_load, line_space, results_space, Inst, shape_of, bytes_of, allocated_of, reserve_of, reserve_from, CanReach, is_needed, PutsAlone, PutsParts, Buffer, IsSoundBuffer, AppendsCode, pending, IslandIfNeeded}
use Rattle.rv_emit.proofs.Terms.{try_slots, stack_load_slots, loading_parts, load_line_slots, Ask, Slots, plain_put, alone_long, get_or, count_by, take_more, CallRetPair, IrType, LoadOP, Based, I8, load_of, is_stacked}
use Rattle.{rv_emit.proofs.Terms.{IsFineResult, AreFineResults, results_short}, rv_sequences.proofs.AddressCode.pieces_then, std.proofs.lemmas.List.Sums.sum_by-take-le}

-- ---- a call without loads

pub call_put : {context : Context} {inst : Inst} {own : ℕ} {call : List Piece → List Piece} {loads : List StackLoad} {t : Option TryCallInfo} (last : List Piece) (old mid new : Buffer) → IsCall context inst own call loads t →
    PutsAlone context.flags (slots_of context.flags (call [])) old mid → PutsAlone context.flags (slots_of context.flags last) mid new → PutsAlone context.flags (slots_of context.flags (call last)) old new
call_put {context} {call = call} last old mid new is p q = subst (λ ps. PutsAlone context.flags (slots_of context.flags ps) old new) (is.joined last) (pieces_then (call []) last old mid new is.first.plain p q)

-- how long its words are at most
pub call_few_after : {context : Context} {inst : Inst} {own : ℕ} {call : List Piece → List Piece} {loads : List StackLoad} {t : Option TryCallInfo} (old mid : Buffer) → IsCall context inst own call loads t →
    PutsAlone context.flags (slots_of context.flags (call [])) old mid → length (bytes_of mid) ≤ length (bytes_of old) + 32
call_few_after {context} {call = call} old mid is p = omega (arith, alone_long (slots_of context.flags (call [])) old mid p, is.short, is.few)

-- ---- a call with loads

pub loading_put : {flags : IsaFlags} (call : List Piece → List Piece) (loads : List StackLoad) (t : Option TryCallInfo) (old mid new : Buffer) → PutsAlone flags (slots_of flags (call [])) old mid → PutsParts flags (Ask (results_space loads) ∷ Slots (result_slots flags loads t) ∷ []) mid new → PutsParts flags (loading_parts flags call loads t) old new
loading_put {flags} call loads t old mid new p q = (p.0, p.1, subst (λ (b : Buffer). PutsParts flags (Ask (results_space loads) ∷ Slots (result_slots flags loads t) ∷ []) b new) p.2 q)

-- what holds after the words of a call, where no island was needed before the line
pub record Begun (old mid : Buffer) : Type 0 where
  pub few : length (bytes_of mid) ≤ length (bytes_of old) + 32
  pub few_pending : length (pending mid) ≡ length (pending old)
  pub reserve : reserve_of (shape_of mid) ≡ reserve_of (shape_of old)
  pub allocated : allocated_of mid ≡ allocated_of old
  pub reach : CanReach (length (bytes_of mid)) (pending mid)
  pub sound : IsSoundBuffer mid

pub call_begins : {context : Context} {inst : Inst} {own : ℕ} {call : List Piece → List Piece} {loads : List StackLoad} {t : Option TryCallInfo} (old mid : Buffer) → IsCall context inst own call loads t →
    is_needed (length (bytes_of old)) line_space (pending old) ≡ false → PutsAlone context.flags (slots_of context.flags (call [])) old mid → Begun old mid
call_begins {context} {call = call} old mid is calm p =
    let a = plain_put context.flags (slots_of context.flags (call [])) old mid is.first.plain p in
    let code = subst (λ us. AppendsCode a.code us old mid) (is.first.uses (allocated_of old) (length (bytes_of old))) a.adds in
    let few : length (bytes_of mid) ≤ length (bytes_of old) + 32 = call_few_after old mid is p in
    record {
      few = few;
      few_pending = ap length (still_pending code);
      reserve = λ j. reserve_from (code.places j) 0 (code.registered j);
      allocated = code.allocated;
      reach = reach_within line_space old mid calm (omega arith) (still_pending code);
      sound = code.sound;
    }

-- ---- one more

results_both : (first more : List CallRetPair) → result_loads (first ++ more) ≡ result_loads first ++ result_loads more
results_both [] more = refl
results_both (d ∷ first) more = let own = location_loads d.vreg.reg d.location in ap (λ loads. own ++ loads) (results_both first more) ∙ sym (append_assoc own (result_loads first) (result_loads more))

results_more : (defs : List CallRetPair) (k : ℕ) (d : CallRetPair) → k < length defs → result_loads (take (k + 1) defs) ≡ result_loads (take k defs) ++ location_loads (get_or defs k d).vreg.reg (get_or defs k d).location
results_more defs k d lt = ap result_loads (take_more defs k d lt) ∙ results_both (take k defs) (get_or defs k d ∷ []) ∙ ap (λ loads. result_loads (take k defs) ++ loads) (append-nil (location_loads (get_or defs k d).vreg.reg (get_or defs k d).location))

pub result_put : {flags : IsaFlags} (defs : List CallRetPair) (k : ℕ) (d : CallRetPair) (old mid new : Buffer) → k < length defs → PutsAlone flags (stack_load_slots flags (result_loads (take k defs))) old mid → PutsAlone flags (stack_load_slots flags (location_loads (get_or defs k d).vreg.reg (get_or defs k d).location)) mid new → PutsAlone flags (stack_load_slots flags (result_loads (take (k + 1) defs))) old new
result_put {flags} defs k d old mid new lt p q = subst (λ loads. PutsAlone flags (stack_load_slots flags loads) old new) (sym (results_more defs k d lt)) (loads_then (result_loads (take k defs)) (location_loads (get_or defs k d).vreg.reg (get_or defs k d).location) old mid new p q)

-- how long they are at most
front_fine : (defs : List CallRetPair) (k : ℕ) → AreFineResults defs → AreFineResults (take k defs)
front_fine defs zero h = tt
front_fine [] (suc k) h = tt
front_fine (d ∷ defs) (suc k) h = (h.0, front_fine defs k h.1)

pub results_long : {flags : IsaFlags} (defs : List CallRetPair) (k : ℕ) (old new : Buffer) → AreFineResults defs → PutsAlone flags (stack_load_slots flags (result_loads (take k defs))) old new → length (bytes_of new) ≤ length (bytes_of old) + 28 * count_by is_stacked defs
results_long {flags} defs k old new h p =
    let fine = front_fine defs k h in
    omega (arith, loads_room (result_loads (take k defs)) old new (results_short flags (take k defs) fine) p, all_load (take k defs) fine, sum_by-take-le (λ (d : CallRetPair). cond (is_stacked d) 1 0) defs k)

-- the result of an index is fine
pub each_fine : (defs : List CallRetPair) (k : ℕ) (d : CallRetPair) → AreFineResults defs → k < length defs → IsFineResult (get_or defs k d).vreg.reg (get_or defs k d).location
each_fine [] k d h lt = absurd (omega arith)
each_fine (r ∷ defs) zero d h lt = h.0
each_fine (r ∷ defs) (suc k) d h lt = each_fine defs k d h.1 (omega arith)

-- ---- one of them

-- a result's load is that of its type
pub typed_is : (type : IrType) → result_load type ≡ load_of type
typed_is I8 = refl
typed_is _ = refl

pub typed_put : {flags : IsaFlags} (register offset : ℕ) (op : LoadOP) (found : Option LoadOP) (old new : Buffer) → found ≡ Some op → PutsAlone flags (load_line_slots flags register op None (Based 2 (pos offset))) old new → PutsAlone flags (stack_load_slots flags (typed_loads register offset found)) old new
typed_put {flags} register offset op found old new is p =
    subst (λ o. PutsAlone flags (stack_load_slots flags (typed_loads register offset o)) old new) (sym is)
    (subst (λ ps. PutsAlone flags (slots_of flags ps) old new) (sym (append-nil (load_line_pieces flags op register None (Based 2 (pos offset))))) p)

-- ---- an island, and all of them after it

pub asked_put : {flags : IsaFlags} (defs : List CallRetPair) (t : Option TryCallInfo) (space : ℕ) (old mid last new : Buffer) (made : Bool) → space ≡ results_space (result_loads defs) → IslandIfNeeded space old mid made → PutsAlone flags (stack_load_slots flags (result_loads defs)) mid last → PutsAlone flags (try_slots flags t) last new → PutsParts flags (Ask (results_space (result_loads defs)) ∷ Slots (result_slots flags (result_loads defs) t) ∷ []) old new
asked_put {flags} defs t space old mid last new made is island p q = (mid, made, subst (λ n. IslandIfNeeded n old mid made) is island, pieces_then (stack_load_pieces flags (result_loads defs)) (try_pieces t) mid last new (loads_plain flags (result_loads defs)) p q)
