-- How a sequence and an island keep Reach, and what is pending after them.
use Rattle.{rv_code.proofs.MadeOfPieces.jump_reach, rv_emit.proofs.{Islands.deadlines_as, OwnPieces.Each, OwnPieces.each_none, OwnPieces.each_more, OwnPieces.jump_served, MostBytes.most_in_sequence}}
use Rattle.rv_emit.proofs.Terms.{◌≡◌, ◌⊎◌, inl, inr, ℕ, suc, ◌+◌, ◌*◌, ◌≤◌, Bool, true, false, cond, List, [], ◌∷◌, ◌++◌, length, Option, Some, None, refl, ap, sym, ◌∙◌, subst, arith, ⊎_elim, append_assoc, is_none, not, ◌&&◌, ◌-◌, length-append, append-nil, TryCallInfo, MachLabel, IsaFlags}
use Rattle.rv_emit.proofs.Terms.{jump_kind, jump_size, Context, Inst, Fallthrough, LabelUse, B12, PCRelHi20, PCRelLo12I, label_kinds, has_veneer_of, targets_of, try_call_of, Targets, Nowhere, Jumps, Branches, Refers, RefersConstant, constant_label, is_far, Kinds, Use, CanReach, HasSlack, deadline}
use Rattle.rv_emit.proofs.Terms.{deadlines, is_pending, is_reached, is_needed, bytes_of, uses_of, place_of, deadlines_append, none_from, slack_use, slack_less, slack_not_needed, reach_from_slack, Buffer, pending, IsFarUse, IsOwnUse, Appends, AppendsCode, IslandAsked, IslandIfNeeded, CanEmit, Size}
use Rattle.rv_emit.proofs.Terms.{Exactly, AtMost, IsOfSize, most_of, Request, first_in, space_in, request_of, inst_size, is_some, lit≤, line_space, inst_code, sequence_limit, use_at, target_uses, uses_by, uses_in, uses_start, named_kept}
use Rattle.{rv_emit.proofs.Terms.least_few, rv_inst.specs.declared.inst.CondBrTarget.TheVariants.Label}
use Rattle.rv_inst.specs.declared.inst.Inst.TheVariants.{BrTable, Call, CallInd, EmitIsland, ReturnCall, ReturnCallInd}

-- whether a use is pending
abbrev pub pending_at : (ℕ → Option ℕ) → Use LabelUse → Bool
pending_at place = is_pending label_kinds place

-- ---- uses of an instruction

-- where its uses begin: not before the instruction
abbrev pub first_use : Context → Inst → ℕ → ℕ
first_use context inst start = uses_start (inst_code context inst).led start

pub uses_late : (context : Context) (inst : Inst) (start : ℕ) → start ≤ first_use context inst start
uses_late context inst start = elim (inst_code context inst).led as (λ led. start ≤ uses_start led start) [ true ↦ omega arith | false ↦ omega arith ]

-- what holds of each list of uses that an instruction may have, from where they begin, holds of its own
pub each_uses : (P : List (Use LabelUse) → Type 0) (context : Context) (start end : ℕ) (inst : Inst) → ((label : MachLabel) → P (use_at (end - jump_size context.flags) label (jump_kind context.flags) ∷ [])) → P [] → ((label : MachLabel) → P (use_at start label (jump_kind context.flags) ∷ [])) → ((t : MachLabel) → P (use_at start t B12 ∷ [])) → ((t f : MachLabel) → P (use_at start t B12 ∷ use_at (start + 4) f (jump_kind context.flags) ∷ [])) → ((label : MachLabel) → P (use_at start label PCRelHi20 ∷ use_at (start + 4) label PCRelLo12I ∷ [])) → P (uses_by context.flags start end (try_call_of inst) (targets_of inst))
each_uses P context start end inst continued none jump one two address = by (try_call_of inst)
  where
    on : (targets : Targets) → P (target_uses context.flags start targets)
    on Nowhere = none
    on (Jumps label) = jump label
    on (Branches Fallthrough not_taken) = none
    on (Branches (Label t) Fallthrough) = one t
    on (Branches (Label t) (Label f)) = two t f
    on (Refers label) = address label
    on (RefersConstant constant read) = address (constant_label constant)

    by : (t : Option TryCallInfo) → P (uses_by context.flags start end t (targets_of inst))
    by None = on (targets_of inst)
    by (Some t) = continued t.continuation

-- at most two
pub few_uses : (context : Context) (start end : ℕ) (inst : Inst) → length (uses_in context start end inst) ≤ 2
few_uses context start end inst = each_uses (λ us. length us ≤ 2) context (first_use context inst start) end inst (λ label. omega arith) (omega arith) (λ label. omega arith) (λ t. omega arith) (λ t f. omega arith) (λ label. omega arith)

-- what holds of each use that may stand in a sequence holds of those of an instruction
pub each_use : (P : Use LabelUse → Type 0) (context : Context) (start end : ℕ) (inst : Inst) → ((label : MachLabel) → P (use_at (end - jump_size context.flags) label (jump_kind context.flags))) → ((label : MachLabel) → P (use_at start label (jump_kind context.flags))) → ((label : MachLabel) → P (use_at start label B12)) → ((label : MachLabel) → P (use_at (start + 4) label (jump_kind context.flags))) → ((label : MachLabel) → P (use_at start label PCRelHi20)) → ((label : MachLabel) → P (use_at (start + 4) label PCRelLo12I)) → Each P (uses_by context.flags start end (try_call_of inst) (targets_of inst))
each_use P context start end inst continued jump branch second upper lower =
    each_uses (Each P) context start end inst (λ label. each_more P _ [] (continued label) (each_none P)) (each_none P)
    (λ label. each_more P _ [] (jump label) (each_none P))
    (λ t. each_more P _ [] (branch t) (each_none P))
    (λ t f. each_more P _ (use_at (start + 4) f (jump_kind context.flags) ∷ []) (branch t) (each_more P _ [] (second f) (each_none P)))
    (λ label. each_more P _ (use_at (start + 4) label PCRelLo12I ∷ []) (upper label) (each_more P _ [] (lower label) (each_none P)))

-- each reaches over 1900 bytes after the instruction
pub uses_far : (context : Context) (start end : ℕ) (inst : Inst) → end ≤ start + sequence_limit → Each (λ u. end + 1900 ≤ deadline label_kinds u) (uses_in context start end inst)
uses_far context start end inst le =
    let late = uses_late context inst start in
    let far = (jump_reach context.flags).0 in
    let few = least_few context.flags in
    each_use (λ u. end + 1900 ≤ deadline label_kinds u) context (first_use context inst start) end inst (λ label. omega arith) (λ label. omega arith) (λ label. omega arith) (λ label. omega arith) (λ label. omega arith) (λ label. omega arith)

-- a use may go by a veneer, or reaches all code
abbrev pub IsServed : Use LabelUse → Type 0
IsServed u = (has_veneer_of u.kind ≡ true) ⊎ (is_far label_kinds u ≡ true)

pub uses_kinds : (context : Context) (start end : ℕ) (inst : Inst) → Each IsServed (uses_in context start end inst)
uses_kinds context start end inst = each_use IsServed context (first_use context inst start) end inst (λ label. inl (jump_served context.flags)) (λ label. inl (jump_served context.flags)) (λ label. inl refl) (λ label. inl (jump_served context.flags)) (λ label. inr refl) (λ label. inr refl)

-- none has a veneer yet
pub uses_bare : (context : Context) (start end : ℕ) (inst : Inst) → Each (λ u. u.veneer ≡ None) (uses_in context start end inst)
uses_bare context start end inst = each_use (λ u. u.veneer ≡ None) context (first_use context inst start) end inst (λ label. refl) (λ label. refl) (λ label. refl) (λ label. refl) (λ label. refl) (λ label. refl)

-- ---- what is pending

pub few_deadlines : {L : Type 0} (test : Use L → Bool) (kinds : Kinds L) (uses : List (Use L)) → length (deadlines test kinds uses) ≤ length uses
few_deadlines test kinds [] = omega arith
few_deadlines test kinds (u ∷ uses) =
    let le = few_deadlines test kinds uses in
    elim (test u) as (λ c. length (cond c (deadline kinds u ∷ deadlines test kinds uses) (deadlines test kinds uses)) ≤ suc (length uses)) [ true ↦ omega arith | false ↦ omega arith ]

-- a use that reaches everywhere is never pending
pub far_never_pending : {labels : List MachLabel} (place : ℕ → Option ℕ) (u : Use LabelUse) → IsFarUse labels u → pending_at place u ≡ false
far_never_pending place u f = λ i. f.direct i && (is_none u.veneer && not (is_reached label_kinds (place u.label.number) u))

-- nor is one of an own label
own_never_pending : {count allocated : ℕ} (place : ℕ → Option ℕ) (u : Use LabelUse) → IsOwnUse count allocated place u → pending_at place u ≡ false
own_never_pending place u o = (λ i. has_veneer_of u.kind && (is_none u.veneer && not (o.reached i))) ∙ never (has_veneer_of u.kind) (is_none u.veneer)
  where
    never : (a b : Bool) → (a && (b && false)) ≡ false
    never true true = refl
    never true false = refl
    never false b = refl

-- so neither is any beside those that may go by a veneer
pub direct_never_pending : (context : Context) (inst : Inst) (old new : Buffer) (p : Appends context inst old new) → Each (λ u. pending_at (place_of new) u ≡ false) p.direct
direct_never_pending context inst old new p j u h = ⊎_elim (λ f. far_never_pending (place_of new) u f) (λ o. own_never_pending (place_of new) u o) (p.each j u h)

-- what isn't pending stays so where labels that are bound stay so
pub pending_still : (place new_place : ℕ → Option ℕ) → ((label at : ℕ) → place label ≡ Some at → new_place label ≡ Some at) → (u : Use LabelUse) → pending_at place u ≡ false → pending_at new_place u ≡ false
pending_still place new_place kept u none = on (place u.label.number) refl
  where
    less : (a b c : Bool) → (a && (b && true)) ≡ false → (a && (b && c)) ≡ false
    less false b c h = refl
    less true false c h = refl
    less true true c h = absurd (cc)

    on : (o : Option ℕ) → place u.label.number ≡ o → pending_at new_place u ≡ false
    on None e = less (has_veneer_of u.kind) (is_none u.veneer) (not (is_reached label_kinds (new_place u.label.number) u)) (sym (λ i. has_veneer_of u.kind && (is_none u.veneer && not (is_reached label_kinds (e i) u))) ∙ none)
    on (Some at) e = (λ i. has_veneer_of u.kind && (is_none u.veneer && not (is_reached label_kinds ((kept u.label.number at e ∙ sym e) i) u))) ∙ none

-- what is pending after bytes, uses of no label but theirs: what was before, and their uses that are
code_pending : {code : List ℕ} {own : List (Use LabelUse)} {old new : Buffer} → AppendsCode code own old new → pending new ≡ pending old ++ deadlines (pending_at (place_of old)) label_kinds own
code_pending {own = own} {old} a = (λ i. deadlines (pending_at (a.places i)) label_kinds (a.uses i)) ∙ deadlines_append (pending_at (place_of old)) label_kinds (uses_of old) own

-- so the same is pending where there are none
pub still_pending : {code : List ℕ} {old new : Buffer} → AppendsCode code [] old new → pending new ≡ pending old
still_pending {old = old} a = code_pending a ∙ append-nil (pending old)

-- the uses that were there before an instruction are pending after it as they were
before_pending : (context : Context) (inst : Inst) (old new : Buffer) (a : Appends context inst old new) → deadlines (pending_at (place_of new)) label_kinds (uses_of a.last) ≡ pending a.last
before_pending context inst old new a = deadlines_as (pending_at (place_of new)) (pending_at (place_of a.last)) label_kinds (uses_of a.last) (λ j u h i. has_veneer_of u.kind && (is_none u.veneer && not (is_reached label_kinds (named_kept a.adds j u h i) u)))

-- what is pending after an instruction: what was before its last bytes, and its own uses that are
pub pending_adds : (context : Context) (inst : Inst) (old new : Buffer) (a : Appends context inst old new) → pending new ≡ pending a.last ++ deadlines (pending_at (place_of new)) label_kinds (uses_in context (length (bytes_of old)) (length (bytes_of new)) inst)
pending_adds context inst old new a =
    let test = pending_at (place_of new) in
    let own = uses_in context (length (bytes_of old)) (length (bytes_of new)) inst in
    let rest : deadlines test label_kinds (own ++ a.direct) ≡ deadlines test label_kinds own = deadlines_append test label_kinds own a.direct ∙ ap (λ ds. deadlines test label_kinds own ++ ds) (none_from test label_kinds a.direct (direct_never_pending context inst old new a)) ∙ append-nil _ in
    ap (deadlines test label_kinds) a.adds.uses ∙ deadlines_append test label_kinds (uses_of a.last) (own ++ a.direct) ∙ (λ i. before_pending context inst old new a i ++ rest i)

-- ---- Reach

-- no more than a size has at most
pub fits_most : (size : Size) (n : ℕ) → IsOfSize size n → n ≤ most_of size
fits_most (Exactly m) n e = omega arith
fits_most (AtMost m) n le = le

-- uses are recorded: eight bytes of slack for each
pub slack_uses : (test : Use LabelUse → Bool) (cur slack : ℕ) (uses own : List (Use LabelUse)) → Each (λ u. cur + slack + 8 * length own ≤ deadline label_kinds u) own → HasSlack cur (slack + 8 * length own) (deadlines test label_kinds uses) → HasSlack cur slack (deadlines test label_kinds (uses ++ own))
slack_uses test cur slack uses [] far h = subst (λ us. HasSlack cur slack (deadlines test label_kinds us)) (sym (append-nil uses)) (slack_less cur (slack + 8 * 0) cur slack _ (omega arith) h)
slack_uses test cur slack uses (u ∷ own) far h =
    let first : HasSlack cur (slack + 8 * length own) (deadlines test label_kinds (uses ++ u ∷ [])) =
    slack_use test label_kinds cur (slack + 8 * length own) uses u (omega (arith, far 0 u refl)) (slack_less cur (slack + 8 * suc (length own)) cur (slack + 8 * length own + 8) _ (omega arith) h) in
    subst (λ us. HasSlack cur slack (deadlines test label_kinds us)) (append_assoc uses (u ∷ []) own)
    (slack_uses test cur slack (uses ++ u ∷ []) own (λ k v e. let f = far (suc k) v e in omega arith) first)

-- no island is needed where one was just put, or where none was needed
pub calm_after : (distance : ℕ) (old new : Buffer) (made : Bool) → IslandIfNeeded distance old new made → is_needed (length (bytes_of new)) distance (pending new) ≡ false
calm_after distance old new made m = ⊎_elim
    (λ same. subst (λ (b : Buffer). is_needed (length (bytes_of b)) distance (pending b) ≡ false) (sym same.1) (sym m.asked ∙ same.0))
    (λ put. ap (is_needed (length (bytes_of new)) distance) put.1.settled)
    m.put

-- where no island is needed before so many bytes, Reach holds after fewer, where no more is pending
pub reach_within : (distance : ℕ) (old new : Buffer) → is_needed (length (bytes_of old)) distance (pending old) ≡ false → length (bytes_of new) ≤ length (bytes_of old) + distance → pending new ≡ pending old → CanReach (length (bytes_of new)) (pending new)
reach_within distance old new calm le same =
    subst (CanReach (length (bytes_of new))) (sym same)
    (reach_from_slack (length (bytes_of new)) (pending old) (slack_less (length (bytes_of old) + distance) 30 (length (bytes_of new)) 14 (pending old) (omega arith) (slack_not_needed (length (bytes_of old)) distance (pending old) calm)))

-- where none is needed before a line, Reach holds
pub reach_calm : (b : Buffer) → is_needed (length (bytes_of b)) line_space (pending b) ≡ false → CanReach (length (bytes_of b)) (pending b)
reach_calm b calm = reach_within line_space b b calm (omega arith) refl

-- ---- and after an instruction

-- one that asks for an island has at most the use of the jump with which it goes on
asked_uses : (context : Context) (inst : Inst) (start end : ℕ) → is_some (request_of context inst) ≡ true → uses_in context start end inst ≡ uses_by context.flags start end (try_call_of inst) Nowhere
asked_uses context (EmitIsland space) start end asks = refl
asked_uses context (BrTable index tmp1 tmp2 targets) start end asks = refl
asked_uses context (Call info) start end asks = refl
asked_uses context (CallInd info) start end asks = refl
asked_uses context (ReturnCall info) start end asks = refl
asked_uses context (ReturnCallInd info) start end asks = refl
asked_uses context _ start end asks = absurd (cc)

-- which is in its last bytes
last_use : (flags : IsaFlags) (start end : ℕ) (t : Option TryCallInfo) → (length (uses_by flags start end t Nowhere) ≤ 1) × Each (λ u. end + 1900 ≤ deadline label_kinds u) (uses_by flags start end t Nowhere)
last_use flags start end None = (lit≤ tt, each_none _)
last_use flags start end (Some t) = (lit≤ tt, let far = (jump_reach flags).0 in let few = least_few flags in each_more (λ u. end + 1900 ≤ deadline label_kinds u) _ [] (omega arith) (each_none _))

-- where no island is needed before so many bytes, with so much slack besides as uses need, Reach holds after as many
reach_by : (context : Context) (inst : Inst) (old new : Buffer) (a : Appends context inst old new) (distance : ℕ) → is_needed (length (bytes_of a.last)) distance (pending a.last) ≡ false → length (bytes_of new) + 8 * length (uses_in context (length (bytes_of old)) (length (bytes_of new)) inst) ≤ length (bytes_of a.last) + distance + 16 →
    length (uses_in context (length (bytes_of old)) (length (bytes_of new)) inst) ≤ 2 → Each (λ u. length (bytes_of new) + 1900 ≤ deadline label_kinds u) (uses_in context (length (bytes_of old)) (length (bytes_of new)) inst) → CanReach (length (bytes_of new)) (pending new)
reach_by context inst old new a distance calm le few late =
    let cur = length (bytes_of new) in
    let own = uses_in context (length (bytes_of old)) cur inst in
    let spare : HasSlack cur (14 + 8 * length own) (pending a.last) = slack_less (length (bytes_of a.last) + distance) 30 cur (14 + 8 * length own) (pending a.last) (omega arith) (slack_not_needed (length (bytes_of a.last)) distance (pending a.last) calm) in
    let far : Each (λ u. cur + 14 + 8 * length own ≤ deadline label_kinds u) own = λ k u e. let f = late k u e in omega arith in
    let test = pending_at (place_of new) in
    let before = sym (before_pending context inst old new a) in
    let whole : pending new ≡ deadlines test label_kinds (uses_of a.last ++ own) = pending_adds context inst old new a ∙ ap (λ ds. ds ++ deadlines test label_kinds own) before ∙ sym (deadlines_append test label_kinds (uses_of a.last) own) in
    reach_from_slack cur (pending new) (subst (HasSlack cur 14) (sym whole) (slack_uses test cur 14 (uses_of a.last) own far (subst (HasSlack cur (14 + 8 * length own)) before spare)))

pub reach_after : (context : Context) (inst : Inst) (old new : Buffer) → CanEmit context inst old → Appends context inst old new → CanReach (length (bytes_of new)) (pending new)
reach_after context inst old new can a = by (request_of context inst) refl a.island
  where
    long : length (bytes_of new) ≡ length (bytes_of a.last) + length a.code
    long = ap length a.adds.bytes ∙ length-append (bytes_of a.last) a.code

    by : (r : Option Request) → request_of context inst ≡ r → IslandAsked (space_in r (length a.code)) a.mid a.last → CanReach (length (bytes_of new)) (pending new)
    by None asks same =
        let none : length a.front ≡ 0 = subst (λ r. IsOfSize (first_in r) (length a.front)) asks a.begins in
        let level : length (bytes_of a.last) ≡ length (bytes_of old) = ap (λ (b : Buffer). length (bytes_of b)) same ∙ ap length a.first.bytes ∙ length-append (bytes_of old) a.front ∙ omega (arith, none) in
        let waits : pending a.last ≡ pending old = ap (λ b. pending b) same ∙ still_pending a.first in
        let few = fits_most (inst_size context inst) _ a.fits in
        let most = most_in_sequence context inst can.rule asks in
        let near : length (bytes_of new) ≤ length (bytes_of old) + sequence_limit = omega (arith, long, level, few, most) in
        let count = few_uses context (length (bytes_of old)) (length (bytes_of new)) inst in
        reach_by context inst old new a line_space ((λ i. is_needed (level i) line_space (waits i)) ∙ can.calm) (omega (arith, near, level, count)) count (uses_far context (length (bytes_of old)) (length (bytes_of new)) inst near)
    by (Some r) asks (made, room) =
        let own = asked_uses context inst (length (bytes_of old)) (length (bytes_of new)) (ap is_some asks) in
        let last = last_use context.flags (length (bytes_of old)) (length (bytes_of new)) (try_call_of inst) in
        let le = a.within (r.space (length a.code)) (ap (λ r. space_in r (length a.code)) asks) in
        let one : length (uses_in context (length (bytes_of old)) (length (bytes_of new)) inst) ≤ 1 = subst (λ us. length us ≤ 1) (sym own) last.0 in
        reach_by context inst old new a (r.space (length a.code)) (calm_after (r.space (length a.code)) a.mid a.last made room) (omega (arith, long, le, one)) (omega (arith, one)) (subst (Each (λ u. length (bytes_of new) + 1900 ≤ deadline label_kinds u)) (sym own) last.1)
