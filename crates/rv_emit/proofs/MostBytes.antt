-- How many bytes the sequences of each kind have at most, and what counts for them.
use Rattle.rv_base.specs.declared.call.RetLocation.TheVariants.{Reg as InReg, Stack as OnStack}
use Rattle.rv_emit.proofs.Terms.{◌≡◌, ◌⊎◌, ℕ, ◌+◌, ◌*◌, ◌≤◌, Bool, true, false, List, [], ◌∷◌, length, Option, Some, None, refl, arith, lit≤, pos, ◌-ℤ◌, cond, nat_eq, count_by, if◌then◌else◌, length-append, sp_to_fp_of, AMode, RegOffset, sym, ◌∙◌, IsSome, IsFineResult, AreFineResults, call_kept}
use Rattle.rv_emit.proofs.Terms.{call_ind_kept, CallRetPair, RetLocation, TryCallInfo, Reg, load_size, ways_of, ways_by, inst_ways, address_targets, Nowhere, Branches, IsaFlags, FrameLayout, number_of, LoadOP, has_load, has_store, Context, inst_rule, Exactly, AtMost, most_of, move_size, branch_size}
use Rattle.rv_emit.proofs.Terms.{most_bytes, call_limit, sequence_limit, call_request, request_of, inst_sum, no_extra, StackLoad, saves_from, setup_loads, restores, typed_loads, location_loads, result_loads, loads_unless, result_load, is_on_stack, is_stacked, CondBrTarget, Fallthrough, Inst, least_few}
use Rattle.{rv_emit.proofs.Terms.{saves_long, setup_few, table_fine, keeps, data_kept, given_code, is_some, Unknown}, rv_inst.{specs.Descriptions.facts_of, specs.declared.inst.CondBrTarget.TheVariants.Label}}
use Rattle.{rv_inst.specs.declared.inst.Inst.TheVariants.{BrTable, Call, CallInd, CondBr, EmitIsland, Jal, Load, LoadAddr, Mov, MovFromPReg, RawData, ReturnCall, ReturnCallInd, Store, Udf}, std.{proofs.lemmas.Bool.leb-true, proofs.lemmas.List.Sums.sum_by-cons}}

-- ---- pieces

-- at most ten words, with so many bytes more where the set has no such access
access_most : (has : Bool) (more : ℕ) → more ≤ 12 → (if has then 28 else 28 + more) ≤ 40
access_most true more few = lit≤ tt
access_most false more few = omega arith

-- a call that asks for no island loads nothing
call_alone : (own : ℕ) (loads : List StackLoad) → own ≤ 8 → call_request own loads ≡ None → call_limit own loads ≤ sequence_limit
call_alone own [] few asks = omega (arith, few)
call_alone own (l ∷ loads) few asks = absurd (cc)

-- a branch with a jump after it, and a constant among the code
branch_few : (flags : IsaFlags) (t f : CondBrTarget) → branch_size flags t f ≤ 8
branch_few flags Fallthrough f = lit≤ tt
branch_few flags (Label t) Fallthrough = lit≤ tt
branch_few flags (Label t) (Label f) = omega (arith, least_few flags)

move_few : (rd rs : ℕ) → most_of (move_size rd rs) ≤ 4
move_few rd rs = elim (nat_eq rd rs) as (λ c. most_of (if c then Exactly 0 else AtMost 4) ≤ 4) [ true ↦ lit≤ tt | false ↦ lit≤ tt ]

-- a load for each result on the stack
typed_one : (register offset : ℕ) (op : Option LoadOP) → IsSome op → length (typed_loads register offset op) ≡ 1
typed_one register offset None some = absurd (cc)
typed_one register offset (Some op) some = refl

each_loads : (r : Reg) (location : RetLocation) → IsFineResult r location → length (location_loads r location) ≡ cond (is_on_stack location) 1 0
each_loads r (InReg s) fine = refl
each_loads r (OnStack offset type) fine = typed_one (number_of r) offset (result_load type) fine.1

pub all_load : (defs : List CallRetPair) → AreFineResults defs → length (result_loads defs) ≡ count_by is_stacked defs
all_load [] h = refl
all_load (d ∷ defs) h = length-append (location_loads d.vreg.reg d.location) (result_loads defs) ∙ (λ i. each_loads d.vreg.reg d.location h.0 i + all_load defs h.1 i) ∙ sym (sum_by-cons (λ (x : CallRetPair). cond (is_stacked x) 1 0) d defs)

-- none where a call may be patched
unless_counted : (patchable : Bool) (defs : List CallRetPair) → AreFineResults defs → length (loads_unless patchable defs) ≤ count_by is_stacked defs
unless_counted true defs h = omega arith
unless_counted false defs h = omega (arith, all_load defs h)

-- how many labels some kinds go to, and how many registers a frame restores
try_ways : (t : Option TryCallInfo) → length (ways_by t Nowhere) ≤ 1
try_ways t = elim t as (λ t. length (ways_by t Nowhere) ≤ 1) [ None ↦ lit≤ tt | Some t ↦ lit≤ tt ]

branch_ways : (t f : CondBrTarget) → length (ways_of (Branches t f)) ≤ 2
branch_ways Fallthrough Fallthrough = lit≤ tt
branch_ways (Label t) Fallthrough = lit≤ tt
branch_ways t f = lit≤ tt

address_ways : (read : ℕ) (at : AMode) → length (ways_of (address_targets read at)) ≡ 0
address_ways read (RegOffset r o) = refl
address_ways read at = refl

restores_few : (frame : FrameLayout) → length (restores frame) ≤ length frame.clobbered_callee_saves + 2
restores_few frame =
    let from = pos (sp_to_fp_of frame) -ℤ pos 8 in
    omega (arith, length-append (saves_from from frame.clobbered_callee_saves) (setup_loads frame), saves_long from frame.clobbered_callee_saves, setup_few frame)

-- ---- the table

-- where it asks for no island, no kind has more than so many, with a veneer for each label to which it goes
pub most_in_sequence : (context : Context) (inst : Inst) → inst_rule context inst ≡ None → request_of context inst ≡ None → most_bytes context inst + 8 * length (inst_ways inst) ≤ sequence_limit
most_in_sequence context (EmitIsland needed_space) rule asks = absurd (cc)
most_in_sequence context (BrTable index tmp1 tmp2 targets) rule asks = absurd (cc)
most_in_sequence context (Call info) rule asks = omega (arith, call_alone 8 (loads_unless info.patchable info.defs) (lit≤ tt) asks, try_ways info.try_call_info)
most_in_sequence context (CallInd info) rule asks = omega (arith, call_alone 4 (result_loads info.defs) (lit≤ tt) asks, try_ways info.try_call_info)
most_in_sequence context (ReturnCall info) rule asks = absurd (cc)
most_in_sequence context (ReturnCallInd info) rule asks = absurd (cc)
most_in_sequence context (Load rd op flags from) rule asks = omega (arith, address_ways (load_size op) from, access_most (has_load context.flags op) 12 (lit≤ tt))
most_in_sequence context (Store src op flags to) rule asks = omega (arith, address_ways 0 to, access_most (has_store context.flags op) 4 (lit≤ tt))
most_in_sequence context (LoadAddr rd mem) rule asks = omega (arith, address_ways 0 mem)
most_in_sequence context (CondBr t f kind) rule asks = omega (arith, branch_ways t f, branch_few context.flags t f)
most_in_sequence context (RawData bytes) rule asks = let size : (length bytes ≡ 4) ⊎ (length bytes ≡ 8) = data_kept bytes (keeps context _ rule) in omega arith
most_in_sequence context (Mov rd rm type) rule asks = omega (arith, move_few (number_of rd.reg) (number_of rm))
most_in_sequence context (MovFromPReg rd rm) rule asks = omega (arith, move_few (number_of rd.reg) rm.number)
most_in_sequence context (Udf code) rule asks = omega (arith, least_few context.flags)
most_in_sequence context (Jal label) rule asks = omega (arith, least_few context.flags)
most_in_sequence context inst rule asks = (elim (is_some (facts_of inst)) as (λ c. is_some (facts_of inst) ≡ c → most_bytes context inst + 8 * length (inst_ways inst) ≤ sequence_limit)
    [ true ↦ λ e. (given_code context Unknown inst e).few | false ↦ λ none. leb-true (most_bytes context inst + 8 * length (inst_ways inst)) sequence_limit (cc) ]) refl

-- and with two islands, it counts for as many
pub most_counts : (context : Context) (inst : Inst) → inst_rule context inst ≡ None → most_bytes context inst + 8 * length (inst_ways inst) + 34 ≤ inst_sum context inst
most_counts context (EmitIsland needed_space) rule = omega arith
most_counts context (BrTable index tmp1 tmp2 targets) rule = omega (arith, (table_fine index tmp1 tmp2 targets (keeps context _ rule)).4)
most_counts context (Call info) rule = omega (arith, unless_counted info.patchable info.defs (call_kept info (keeps context _ rule)).results, no_extra 8 (loads_unless info.patchable info.defs), try_ways info.try_call_info)
most_counts context (CallInd info) rule = omega (arith, all_load info.defs (call_ind_kept info (keeps context _ rule)).results, no_extra 4 (result_loads info.defs), try_ways info.try_call_info)
most_counts context (ReturnCall info) rule = omega (arith, restores_few context.frame)
most_counts context (ReturnCallInd info) rule = omega (arith, restores_few context.frame)
most_counts context inst rule = omega (arith, most_in_sequence context inst rule refl)
