-- An instruction keeps its bounds: how many bytes it puts, how many uses more are pending, and how far they reach.
use Rattle.rv_emit.proofs.{OwnPieces.Each, OwnPieces.each_more, OwnPieces.each_none, ReachAfterInst.few_deadlines, ReachAfterInst.first_use, ReachAfterInst.fits_most, ReachAfterInst.pending_adds, ReachAfterInst.pending_at, ReachAfterInst.still_pending, ReachAfterInst.uses_late}
use Rattle.rv_emit.proofs.Terms.{◌≡◌, ℕ, ◌+◌, ◌≤◌, Bool, true, false, cond, List, [], ◌∷◌, length, length-append, Option, Some, None, suc, refl, ap, ◌∙◌, arith, ◌-◌, if◌then◌else◌, TryCallInfo, Context, jump_kind, jump_size, label_kinds, forward_of, targets_of, ways_of, ways_by, inst_ways, lit≤}
use Rattle.rv_emit.proofs.Terms.{try_call_of, inst_size, use_at, target_uses, target_reach, jump_reach, inst_reach, uses_by, uses_in, least_reach, Fallthrough, Inst, LabelUse, Jal20, B12, PCRelLo12I, RVCJump, Targets, Nowhere, Jumps, Branches, Refers, RefersConstant, Use, bytes_of, place_of, AllOf}
use Rattle.{rv_emit.proofs.Terms.{deadline, deadlines, constant_label, Buffer, Appends, IsBounded}, rv_inst.specs.{declared.inst.CondBrTarget.TheVariants.Label, declared.inst.Line.TheVariants.Inst as Put}}

-- ---- how far uses reach

-- a jump reaches as far as the shortest of its line that may be a jump or a branch, and a branch as the shortest that is one
reaches_least : (short : Bool) → ((if short then 2046 else 1048574) ≤ forward_of (if short then RVCJump else Jal20)) × ((if short then 2046 else 4094) ≤ forward_of (if short then RVCJump else Jal20)) × ((if short then 2046 else 4094) ≤ 4094)
reaches_least short = elim short as (λ short. ((if short then 2046 else 1048574) ≤ forward_of (if short then RVCJump else Jal20)) × ((if short then 2046 else 4094) ≤ forward_of (if short then RVCJump else Jal20)) × ((if short then 2046 else 4094) ≤ 4094)) [ true ↦ (lit≤ tt, lit≤ tt, lit≤ tt) | false ↦ (lit≤ tt, lit≤ tt, lit≤ tt) ]

-- each reaches as far as the shortest of its line
pub uses_least : (context : Context) (start end : ℕ) (inst : Inst) → ((t : TryCallInfo) → try_call_of inst ≡ Some t → start + jump_size context.flags ≤ end) → Each (λ u. start + least_reach context (Put inst) ≤ deadline label_kinds u) (uses_in context start end inst)
uses_least context start end inst room = by (try_call_of inst) refl
  where
    begin : ℕ
    begin = first_use context inst start

    on : (targets : Targets) → Each (λ u. begin + target_reach context.flags targets ≤ deadline label_kinds u) (target_uses context.flags begin targets)
    on Nowhere = each_none _
    on (Jumps label) = each_more (λ u. begin + target_reach context.flags (Jumps label) ≤ deadline label_kinds u) _ [] (omega (arith, (reaches_least context.flags.has_zca).0)) (each_none _)
    on (Branches Fallthrough not_taken) = each_none _
    on (Branches (Label t) Fallthrough) = each_more (λ u. begin + target_reach context.flags (Branches (Label t) Fallthrough) ≤ deadline label_kinds u) _ [] (omega (arith, (reaches_least context.flags.has_zca).2)) (each_none _)
    on (Branches (Label t) (Label f)) =
        each_more (λ u. begin + target_reach context.flags (Branches (Label t) (Label f)) ≤ deadline label_kinds u) _ (use_at (begin + 4) f (jump_kind context.flags) ∷ []) (omega (arith, (reaches_least context.flags.has_zca).2))
        (each_more (λ u. begin + target_reach context.flags (Branches (Label t) (Label f)) ≤ deadline label_kinds u) _ [] (omega (arith, (reaches_least context.flags.has_zca).1)) (each_none _))
    on (Refers label) =
        each_more (λ u. begin + 1048574 ≤ deadline label_kinds u) _ (use_at (begin + 4) label PCRelLo12I ∷ []) (omega arith) (each_more (λ u. begin + 1048574 ≤ deadline label_kinds u) _ [] (omega arith) (each_none _))
    on (RefersConstant k read) =
        each_more (λ u. begin + 1048574 ≤ deadline label_kinds u) _ (use_at (begin + 4) (constant_label k) PCRelLo12I ∷ []) (omega arith) (each_more (λ u. begin + 1048574 ≤ deadline label_kinds u) _ [] (omega arith) (each_none _))

    sooner : (reach : ℕ) (uses : List (Use LabelUse)) → Each (λ u. begin + reach ≤ deadline label_kinds u) uses → Each (λ u. start + reach ≤ deadline label_kinds u) uses
    sooner reach uses each k u h = let far = each k u h in let late = uses_late context inst start in omega (arith, far, late)

    by : (t : Option TryCallInfo) → try_call_of inst ≡ t → Each (λ u. start + inst_reach context.flags t (targets_of inst) ≤ deadline label_kinds u) (uses_by context.flags begin end t (targets_of inst))
    by None goes = sooner (target_reach context.flags (targets_of inst)) (target_uses context.flags begin (targets_of inst)) (on (targets_of inst))
    by (Some t) goes = each_more (λ u. start + jump_reach context.flags ≤ deadline label_kinds u) _ [] (omega (arith, (reaches_least context.flags.has_zca).0, room t goes)) (each_none _)

-- what holds of the deadline of each use holds of those that pass a test
all_deadlines : (P : ℕ → Type 0) (test : Use LabelUse → Bool) (uses : List (Use LabelUse)) → Each (λ u. P (deadline label_kinds u)) uses → AllOf P (deadlines test label_kinds uses)
all_deadlines P test [] each = tt
all_deadlines P test (u ∷ uses) each =
    let rest = all_deadlines P test uses (λ k v h. each (suc k) v h) in
    elim (test u) as (λ c. AllOf P (cond c (deadline label_kinds u ∷ deadlines test label_kinds uses) (deadlines test label_kinds uses))) [ true ↦ (each 0 u refl, rest) | false ↦ rest ]

-- ---- how many

-- no more are pending than it goes to labels
pub few_ways : (context : Context) (place : ℕ → Option ℕ) (start end : ℕ) (inst : Inst) → length (deadlines (pending_at place) label_kinds (uses_in context start end inst)) ≤ length (inst_ways inst)
few_ways context place start end inst = by (try_call_of inst)
  where
    begin : ℕ
    begin = first_use context inst start

    of_uses : (uses : List (Use LabelUse)) (most : ℕ) → length uses ≤ most → length (deadlines (pending_at place) label_kinds uses) ≤ most
    of_uses uses most le = let few = few_deadlines (pending_at place) label_kinds uses in omega arith

    on : (targets : Targets) → length (deadlines (pending_at place) label_kinds (target_uses context.flags begin targets)) ≤ length (ways_of targets)
    on Nowhere = omega arith
    on (Jumps label) = of_uses (use_at begin label (jump_kind context.flags) ∷ []) 1 (omega arith)
    on (Branches Fallthrough not_taken) = omega arith
    on (Branches (Label t) Fallthrough) = of_uses (use_at begin t B12 ∷ []) 1 (omega arith)
    on (Branches (Label t) (Label f)) = of_uses (use_at begin t B12 ∷ use_at (begin + 4) f (jump_kind context.flags) ∷ []) 2 (omega arith)
    on (Refers label) = omega arith
    on (RefersConstant k read) = omega arith

    by : (t : Option TryCallInfo) → length (deadlines (pending_at place) label_kinds (uses_by context.flags begin end t (targets_of inst))) ≤ length (ways_by t (targets_of inst))
    by None = on (targets_of inst)
    by (Some t) = of_uses (use_at (end - jump_size context.flags) t.continuation (jump_kind context.flags) ∷ []) 1 (omega arith)

-- ---- bounds

-- what an instruction adds keeps its bounds
pub emit_bounded : (context : Context) (inst : Inst) (old new : Buffer) → Appends context inst old new → IsBounded context inst old new
emit_bounded context inst old new a =
    let own = uses_in context (length (bytes_of old)) (length (bytes_of new)) inst in
    record {
      before = a.mid;
      after = a.last;
      first = length a.front;
      rest = length a.code;
      starts = ap length a.first.bytes ∙ length-append (bytes_of old) a.front;
      island = a.island;
      ends = ap length a.adds.bytes ∙ length-append (bytes_of a.last) a.code;
      most = fits_most (inst_size context inst) _ a.fits;
      added = deadlines (pending_at (place_of new)) label_kinds own;
      keeps = still_pending a.first;
      adds = pending_adds context inst old new a;
      few = few_ways context (place_of new) (length (bytes_of old)) (length (bytes_of new)) inst;
      late = all_deadlines (λ d. length (bytes_of old) + least_reach context (Put inst) ≤ d) (pending_at (place_of new)) own (uses_least context (length (bytes_of old)) (length (bytes_of new)) inst a.back.goes_on);
    }
