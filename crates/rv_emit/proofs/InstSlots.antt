-- How the code of an instruction is made: what it adds to a buffer, and that its parts are self-contained.
use Rattle.{rv_code.{proofs.LineSlots.size_both, specs.Accesses.return_pieces, specs.InstParts.described_parts, specs.Slots.{uses_of, records_of}}, rv_emit.{proofs.CallSlots.{IsCall, call_adds, call_blocks, call_is, call_ind_is}, proofs.Islands.{KeepsLow, asked_keeps, room_named, room_records, room_sound}}}
use Rattle.rv_emit.{proofs.OwnPieces.{Each, each_none, made_appends}, proofs.TableSlots.table_adds}
use Rattle.rv_emit.proofs.Terms.{none_put, ◌≡◌, true, false, ⊎_elim, ◌⊎◌, inl, ℕ, ◌+◌, ◌*◌, ◌^◌, ◌≤◌, List, [], ◌∷◌, ◌++◌, length, Option, Some, None, pos, refl, ap, sym, ◌∙◌, arith, lit≤, subst, same_Some, number_of, TrapCode, code_limit, IntegerCompare, Context, inst_rule, UnitWord, Inst}
use Rattle.rv_emit.proofs.Terms.{CondBrTarget, Fallthrough, TryCallInfo, StackLoad, Exactly, AtMost, IsOfSize, Request, first_in, space_in, request_of, inst_size, inst_sum, inst_records, uses_in, return_of, filled_last, is_some, VCodeConstant, inst_constant, named_by, table_of, EmitVState, Decoded}
use Rattle.rv_emit.proofs.Terms.{Buffer, IsSoundBuffer, Appends, AppendsCode, HasReturn, IsFarUse, IslandAsked, bytes_of, allocated_of, named_of, PutsParts, EmitsIn, Part, Ask, Slots, Slot, Op, size_of, names_of, AreSelfContained, PartsAreSelfContained, access_records, access_slots, branch_slots}
use Rattle.rv_emit.proofs.Terms.{call_parts, parts_of, slots_of, Piece, HasSize, rrr_sized, rri_sized, lui_sized, jalr_sized, ebreak_sized, window_long, IsPlain, IsSummed, summed, plain_put, put_long, code_none, no_own, low_kept, IsMadeOf, made_contained, mov_made, mov_from_preg_made, IsGiven}
use Rattle.rv_emit.proofs.Terms.{given_code, select_made, udf_made, sequence_made, load_summed, store_summed, load_contained, store_contained, load_addr_summed, address_contained, location_of, unwind_summed, table_contained, table_short, tail_contained, tail_contents, t0_contained}
use Rattle.{rv_emit.proofs.Terms.{t0_contents, return_short, AreShortLoads, unless_short, results_short, table_fine, call_kept, call_ind_kept, data_kept, keeps}, rv_inst.{specs.Descriptions.{Description, Word, Computes, Gives, description_of, facts_of, is_made, most_words, none_is_some}, specs.declared.units.Facts.Facts}}
use Rattle.rv_inst.specs.declared.inst.CondBrTarget.TheVariants.{Label as ToLabel}
use Rattle.rv_inst.specs.declared.inst.Inst.TheVariants.{AluRRImm12, AluRRR, Args, BrTable, Call, CallInd, CondBr, DummyUse, EBreak, EmitIsland, Jal, Jalr, Load, LoadAddr, Lui, Mov, MovFromPReg, Nop0, Nop4, RawData, Ret, Rets, ReturnCall, ReturnCallInd, Select, SequencePoint, Store, Udf, Unwind}
use Rattle.rv_code.specs.Pieces as piece
use Rattle.mach_records.specs.declared.records.Event.TheVariants as event
use Rattle.rv_ops.specs.declared.memory.LoadOP.TheVariants as loads

-- ---- how the code of an instruction is made

-- what the parts of an instruction's code are: that each part is self-contained, and what they add
record IsCode (context : Context) (inst : Inst) (parts : List Part) : Type 0 where
  contained : PartsAreSelfContained parts
  appends : (old new : Buffer) → IsSoundBuffer old → HasReturn context inst (length (bytes_of old)) (length (bytes_of new)) → inst_sum context inst ≤ code_limit → PutsParts context.flags parts old new → Appends context inst old new

-- that it uses, records and names nothing
record IsBare (context : Context) (inst : Inst) : Type 0 where
  uses : (start end : ℕ) → [] ≡ uses_in context start end inst
  records : (start end : ℕ) → [] ≡ inst_records context start end inst
  names : (named : List VCodeConstant) → named ≡ named_by (inst_constant inst) named

-- nothing is put
empty : {context : Context} {inst : Inst} → inst_size context inst ≡ Exactly 0 → request_of context inst ≡ None → IsBare context inst → IsCode context inst []
empty {context} {inst} size asks bare = record {
  contained = tt;
  appends = λ old new s back small p.
      summed {slots = []} (record { plain = tt; fits = subst (λ s. IsOfSize s 0) (sym size) refl; uses = λ allocated start. bare.uses start _; records = λ start. bare.records start _; names = bare.names }) asks s back
      (subst (λ (b : Buffer). PutsParts context.flags (Slots [] ∷ []) old b) (sym p) (none_put context.flags old s));
}

-- slots that allocate no label and bind none
plain : {context : Context} {inst : Inst} {slots : List Slot} → IsSummed context inst slots → request_of context inst ≡ None → AreSelfContained slots → IsCode context inst (Slots slots ∷ [])
plain is asks contained = record { contained = (contained, tt); appends = λ old new s back small p. summed is asks s back p }

-- pieces
made : {context : Context} {inst : Inst} {pieces : List Piece} → IsMadeOf context inst pieces → IsCode context inst (Slots (slots_of context.flags pieces) ∷ [])
made m = record { contained = (made_contained m, tt); appends = λ old new s back small p. made_appends m s back p }

-- an island where one is needed, and slots that allocate no label and bind none, whose uses reach everywhere
after : {context : Context} {inst : Inst} {slots : List Slot} {space : ℕ} {r : Request} → return_of context.flags inst ≡ None → filled_last inst ≤ size_of slots → request_of context inst ≡ Some r → r.first ≡ Exactly 0 → r.space (size_of slots) ≡ space → (inst_sum context inst ≤ code_limit → size_of slots ≤ space) → IsPlain slots → AreSelfContained slots → (inst_sum context inst ≤ code_limit → IsOfSize (inst_size context inst) (size_of slots)) →
    ((allocated at : ℕ) → Each (IsFarUse (table_of inst)) (uses_of allocated at slots)) → ((start end : ℕ) → [] ≡ uses_in context start end inst) → ((first at : ℕ) → records_of at slots ≡ inst_records context first (at + size_of slots) inst) → ((named : List VCodeConstant) → names_of slots named ≡ named_by (inst_constant inst) named) → IsCode context inst (Ask space ∷ Slots slots ∷ [])
after {context} {inst} {slots} {space} {r} returns filled asks first spaced within plain contained fits far uses records names = record {
  contained = (contained, tt);
  appends = λ old new s back small (mid, made, room, p).
      let a = plain_put context.flags slots mid new plain p in
      let asked : space_in (request_of context inst) (length a.code) ≡ Some space = ap (λ q. space_in q (length a.code)) asks ∙ ap (λ n. Some (r.space n)) a.long ∙ ap (λ n. Some n) spaced in
      record {
        mid = old;
        last = mid;
        front = [];
        code = a.code;
        own = 0;
        direct = uses_of (allocated_of mid) (length (bytes_of mid)) slots;
        first = code_none old s;
        unnamed = refl;
        island = subst (λ n. IslandAsked n old mid) (sym asked) (made, room);
        adds = no_own a.code _ mid new (subst (λ us. AppendsCode a.code (us ++ uses_of (allocated_of mid) (length (bytes_of mid)) slots) mid new) (uses (length (bytes_of old)) (length (bytes_of new))) a.adds);
        few = lit≤ tt;
        alone = λ some. refl;
        each = λ j u h. inl (far (allocated_of mid) (length (bytes_of mid)) j u h);
        records = a.records ∙ (λ i. room_records space old mid made room i ++ (records (length (bytes_of old)) (length (bytes_of mid)) ∙ ap (λ n. inst_records context (length (bytes_of old)) n inst) (sym (put_long a))) i);
        named = a.named ∙ names (named_of mid) ∙ ap (named_by (inst_constant inst)) (room_named space old mid made room);
        begins = subst (λ q. IsOfSize (first_in q) 0) (sym asks) (subst (λ s. IsOfSize s 0) (sym first) refl);
        within = λ n e. let same = same_Some _ n (sym asked ∙ e) in let le = within small in omega (arith, same, a.long, le);
        fits = subst (IsOfSize (inst_size context inst)) (omega (arith, a.long)) (fits small);
        stands = λ windows fields. (windows, fields);
        lasts = a.lasts;
        least = λ some. record { returns = λ r e. absurd (let none = ap is_some (sym returns ∙ e) in cc); filled = omega (arith, a.long, filled) };
        back = back;
      };
}

-- an island where one is needed, and nothing after it
island : (context : Context) (space : ℕ) → IsCode context (EmitIsland space) (Ask space ∷ [])
island context space = record {
  contained = tt;
  appends = λ old new s back small (mid, made, room, same).
      (after {context = context} {inst = EmitIsland space} {slots = []} refl (omega arith) refl refl refl (λ small. omega arith) tt tt (λ small. lit≤ tt) (λ allocated at. each_none _) (λ start end. refl) (λ first at. refl) (λ named. refl)).appends old new s back small
      (mid, made, room, subst (λ (b : Buffer). PutsParts context.flags (Slots [] ∷ []) mid b) (sym same) (none_put context.flags mid (room_sound space old mid made room s)));
}

-- a call
calling : {context : Context} {inst : Inst} {own : ℕ} {call : List Piece → List Piece} {loads : List StackLoad} {t : Option TryCallInfo} → IsCall context inst own call loads t → AreShortLoads context.flags loads → IsCode context inst (call_parts context.flags call loads t)
calling {loads = loads} is short = record { contained = call_blocks loads is; appends = λ old new s back small p. call_adds loads old new is short s p }

-- an operation
operation : {context : Context} {inst : Inst} {d : Decoded} → HasSize d → inst_size context inst ≡ AtMost 4 → request_of context inst ≡ None → IsBare context inst → IsCode context inst (Slots (Op d ∷ []) ∷ [])
operation {d = d} size most asks bare =
    plain (record { plain = tt; fits = subst (λ s. IsOfSize s (d.len + 0)) (sym most) (omega (arith, size.few)); uses = λ allocated start. bare.uses start _; records = λ start. bare.records start _; names = bare.names }) asks (size.even, tt)

-- of a unit, after the record of its trap where it may trap
unit : {context : Context} {inst : Inst} (w : UnitWord) → w.operation.len ≡ 4 → inst_size context inst ≡ AtMost 4 → request_of context inst ≡ None → ((start end : ℕ) → [] ≡ uses_in context start end inst) →
    ((start end : ℕ) → access_records start w.trap ≡ inst_records context start end inst) → ((named : List VCodeConstant) → named ≡ named_by (inst_constant inst) named) → IsCode context inst (Slots (access_slots w.trap ++ Op w.operation ∷ []) ∷ [])
unit {context} {inst} w four most asks uses records names = on w.trap records
  where
    few : (n : ℕ) → n ≤ 4 → IsOfSize (inst_size context inst) n
    few n le = subst (λ s. IsOfSize s n) (sym most) le

    on : (trap : Option TrapCode) → ((start end : ℕ) → access_records start trap ≡ inst_records context start end inst) → IsCode context inst (Slots (access_slots trap ++ Op w.operation ∷ []) ∷ [])
    on None records = plain (record { plain = tt; fits = few _ (omega arith); uses = λ allocated start. uses start _; records = λ start. records start _; names = names }) asks (omega arith, tt)
    on (Some code) records = plain (record { plain = tt; fits = few _ (omega arith); uses = λ allocated start. uses start _; records = λ start. records start _; names = names }) asks (omega arith, tt)

-- of a word or a sequence: how long a word of it is, how many bytes it has at most, and its trap
abbrev word_length : (d : Description) → is_made d ≡ true → ℕ
word_length (Word w) e = w.operation.len
word_length (Computes s with) e = 4
word_length (Gives g) e = absurd (none_is_some e)

abbrev most_in : (d : Description) → is_made d ≡ true → ℕ
most_in (Word w) e = 4
most_in (Computes s with) e = 4 * most_words s.computation
most_in (Gives g) e = absurd (none_is_some e)

abbrev trap_of : (d : Description) → is_made d ≡ true → Option TrapCode
trap_of (Word w) e = w.trap
trap_of (Computes s with) e = None
trap_of (Gives g) e = absurd (none_is_some e)

described : {context : Context} {inst : Inst} (d : Description) (e : is_made d ≡ true) → word_length d e ≡ 4 → inst_size context inst ≡ AtMost (most_in d e) → request_of context inst ≡ None → ((start end : ℕ) → [] ≡ uses_in context start end inst) → ((start end : ℕ) → access_records start (trap_of d e) ≡ inst_records context start end inst) → inst_constant inst ≡ None → IsCode context inst (described_parts context.flags d e)
described (Word w) e four most asks uses records none = unit w four most asks uses records (λ named. sym (ap (λ k. named_by k named) none))
described {context} {inst} (Computes s with) e four most asks uses records none = made (sequence_made context inst s most asks uses records none)
described (Gives g) e four most asks uses records none = absurd (none_is_some e)

-- one whose description gives its code
given_is_code : {context : Context} {setting : EmitVState} {inst : Inst} {f : Facts} → IsGiven context setting inst f → IsCode context inst (parts_of context setting inst)
given_is_code {context} {inst = inst} g =
    let code = ⊎_elim (λ summed. plain summed g.asks g.contained) (λ pieces. subst (λ slots. IsCode context inst (Slots slots ∷ [])) pieces.1 (made pieces.2)) g.form in
    subst (IsCode context inst) (sym g.parts) code

-- a branch, and a jump or none
branches : (context : Context) (kind : IntegerCompare) (taken not_taken : CondBrTarget) → IsCode context (CondBr taken not_taken kind) (Slots (branch_slots context.flags kind taken not_taken) ∷ [])
branches context kind Fallthrough not_taken = plain (record { plain = tt; fits = refl; uses = λ allocated start. refl; records = λ start. refl; names = λ named. refl }) refl tt
branches context kind (ToLabel t) Fallthrough = plain (record { plain = tt; fits = refl; uses = λ allocated start. refl; records = λ start. refl; names = λ named. refl }) refl (tt, tt)
branches context kind (ToLabel t) (ToLabel f) = plain (record { plain = tt; fits = omega (arith, window_long context.flags); uses = λ allocated start. refl; records = λ start. refl; names = λ named. refl }) refl (tt, (tt, tt))

inst_is_code : (context : Context) (setting : EmitVState) (inst : Inst) → inst_rule context inst ≡ None → IsCode context inst (parts_of context setting inst)
inst_is_code context setting Nop0 rule = empty refl refl (record { uses = λ start end. refl; records = λ start end. refl; names = λ named. refl })
inst_is_code context setting Nop4 rule = operation (record { even = refl; some = omega arith; few = omega arith }) refl refl (record { uses = λ start end. refl; records = λ start end. refl; names = λ named. refl })
inst_is_code context setting EBreak rule = operation (ebreak_sized context.flags) refl refl (record { uses = λ start end. refl; records = λ start end. refl; names = λ named. refl })
inst_is_code context setting SequencePoint rule = empty refl refl (record { uses = λ start end. refl; records = λ start end. refl; names = λ named. refl })
inst_is_code context setting (Args args) rule = empty refl refl (record { uses = λ start end. refl; records = λ start end. refl; names = λ named. refl })
inst_is_code context setting (Rets rets) rule = empty refl refl (record { uses = λ start end. refl; records = λ start end. refl; names = λ named. refl })
inst_is_code context setting (DummyUse reg) rule = empty refl refl (record { uses = λ start end. refl; records = λ start end. refl; names = λ named. refl })
inst_is_code context setting (EmitIsland space) rule = island context space
inst_is_code context setting (RawData bytes) rule =
    let size : (length bytes ≡ 4) ⊎ (length bytes ≡ 8) = data_kept bytes (keeps context _ rule) in
    plain (record { plain = tt; fits = omega arith; uses = λ allocated start. refl; records = λ start. refl; names = λ named. refl }) refl (omega arith, tt)
inst_is_code context setting (Lui rd imm) rule = operation (lui_sized context.flags (number_of rd.reg) imm.value) refl refl (record { uses = λ start end. refl; records = λ start end. refl; names = λ named. refl })
inst_is_code context setting (AluRRR op rd rs1 rs2) rule = operation (rrr_sized context.flags op (number_of rd.reg) (number_of rs1) (number_of rs2)) refl refl (record { uses = λ start end. refl; records = λ start end. refl; names = λ named. refl })
inst_is_code context setting (AluRRImm12 op rd rs imm) rule = operation (rri_sized context.flags op (number_of rd.reg) (number_of rs) imm.value) refl refl (record { uses = λ start end. refl; records = λ start end. refl; names = λ named. refl })
inst_is_code context setting (Mov rd rm type) rule = made (mov_made context rd rm type)
inst_is_code context setting (MovFromPReg rd rm) rule = made (mov_from_preg_made context rd rm)
inst_is_code context setting (Select info) rule = made (select_made context info)
inst_is_code context setting (Load rd op flags from) rule = let at = location_of context.frame from in plain (load_summed context rd op flags from) refl (load_contained context.flags (number_of rd.reg) op flags.trap at)
inst_is_code context setting (Store src op flags to) rule = let at = location_of context.frame to in plain (store_summed context to op flags src) refl (store_contained context.flags op (number_of src) flags.trap at)
inst_is_code context setting (LoadAddr rd mem) rule = let at = location_of context.frame mem in plain (load_addr_summed context rd mem) refl (address_contained context.flags (number_of rd.reg) at)
inst_is_code context setting Ret rule = operation (jalr_sized context.flags 0 1 (pos 0)) refl refl (record { uses = λ start end. refl; records = λ start end. refl; names = λ named. refl })
inst_is_code context setting (Jal label) rule = plain (record { plain = tt; fits = omega (arith, window_long context.flags); uses = λ allocated start. refl; records = λ start. refl; names = λ named. refl }) refl (tt, tt)
inst_is_code context setting (CondBr taken not_taken kind) rule = branches context kind taken not_taken
inst_is_code context setting (BrTable index tmp1 tmp2 targets) rule =
    let far = table_adds context.flags (number_of index) (number_of tmp1.reg) (number_of tmp2.reg) targets in
    let most = λ (few : length targets ≤ 2 ^ 30). table_short context.flags (number_of index) (number_of tmp1.reg) (number_of tmp2.reg) targets few in
    let some = (table_fine index tmp1 tmp2 targets (keeps context _ rule)).4 in
    after refl (omega arith) refl refl refl (λ small. let few = most (omega arith) in omega (arith, some, few)) far.plain (table_contained context.flags (number_of index) (number_of tmp1.reg) (number_of tmp2.reg) targets)
    (λ small. let few = most (omega arith) in omega (arith, some, few)) far.uses (λ start end. refl) (λ first at. far.records at) far.names
inst_is_code context setting (Udf code) rule = made (udf_made context code)
inst_is_code context setting (Jalr rd base offset) rule = operation (jalr_sized context.flags (number_of rd.reg) (number_of base) offset.value) refl refl (record { uses = λ start end. refl; records = λ start end. refl; names = λ named. refl })
inst_is_code context setting (Call info) rule = calling (call_is context info) (unless_short context.flags info.patchable info.defs (call_kept info (keeps context _ rule)).results)
inst_is_code context setting (CallInd info) rule = calling (call_ind_is context info) (results_short context.flags info.defs (call_ind_kept info (keeps context _ rule)).results)
inst_is_code context setting (ReturnCall info) rule =
    let c = tail_contents context.flags context.frame info.new_stack_arg_size info.dest in
    let long = size_both context.flags (return_pieces context.flags context.frame info.new_stack_arg_size) (piece.Note event.CallSite ∷ piece.Call 0 31 info.dest ∷ []) in
    after refl (omega (arith, long)) refl refl (omega (arith, long)) (λ small. omega (arith, long)) c.plain (tail_contained context.flags context.frame info.new_stack_arg_size info.dest)
    (λ small. omega (arith, long, return_short context.flags context.frame info.new_stack_arg_size)) (λ allocated at. subst (Each (IsFarUse _)) (sym (c.uses allocated at)) (each_none _)) (λ start end. refl) (λ first at. c.records at) c.names
inst_is_code context setting (ReturnCallInd info) rule =
    let c = t0_contents context.flags context.frame info.new_stack_arg_size in
    let jump = (jalr_sized context.flags 0 5 (pos 0)).few in
    let long = size_both context.flags (return_pieces context.flags context.frame info.new_stack_arg_size) (piece.Jalr 0 5 (pos 0) ∷ []) in
    after refl (omega (arith, long)) refl refl (omega (arith, long)) (λ small. omega (arith, long)) c.plain (t0_contained context.flags context.frame info.new_stack_arg_size)
    (λ small. omega (arith, long, return_short context.flags context.frame info.new_stack_arg_size)) (λ allocated at. subst (Each (IsFarUse _)) (sym (c.uses allocated at)) (each_none _)) (λ start end. refl) (λ first at. c.records at) c.names
inst_is_code context setting (Unwind inst) rule = plain (unwind_summed context inst) refl tt
inst_is_code context setting inst rule = (elim (is_some (facts_of inst)) as (λ c. is_some (facts_of inst) ≡ c → IsCode context inst (parts_of context setting inst)) [
  | true ↦ λ e. given_is_code (given_code context setting inst e)
  | false ↦ λ none. let d = description_of inst refl in let e : is_made d ≡ true = cc in subst (IsCode context inst) (cc) (described d e (cc) (cc) (cc) (λ start end. cc) (λ start end. cc) (cc))
]) refl

-- each part of an instruction is self-contained
pub parts_are_self_contained : (context : Context) (setting : EmitVState) (inst : Inst) → inst_rule context inst ≡ None → PartsAreSelfContained (parts_of context setting inst)
parts_are_self_contained context setting inst rule = (inst_is_code context setting inst rule).contained

-- where a call returns is among its bytes
has_return : (context : Context) (setting : EmitVState) (inst : Inst) (old new : Buffer) → inst_rule context inst ≡ None → IsSoundBuffer old → EmitsIn context setting inst old new → HasReturn context inst (length (bytes_of old)) (length (bytes_of new))
has_return context setting (Call info) old new rule s p = (call_adds _ old new (call_is context info) (unless_short context.flags info.patchable info.defs (call_kept info (keeps context _ rule)).results) s p).back
has_return context setting (CallInd info) old new rule s p = (call_adds _ old new (call_ind_is context info) (results_short context.flags info.defs (call_ind_kept info (keeps context _ rule)).results) s p).back
has_return context setting inst old new rule s p = record { returns = λ r e. absurd (cc); goes_on = λ t e. absurd (cc) }

-- what an instruction adds
pub appends : (context : Context) (setting : EmitVState) (inst : Inst) (old new : Buffer) → inst_rule context inst ≡ None → inst_sum context inst ≤ code_limit → IsSoundBuffer old → EmitsIn context setting inst old new → Appends context inst old new
appends context setting inst old new rule small s p = (inst_is_code context setting inst rule).appends old new s (has_return context setting inst old new rule s p) small p

-- it keeps labels of lines as they are
pub emitted_keeps : (context : Context) (inst : Inst) (old new : Buffer) → Appends context inst old new → KeepsLow old new
emitted_keeps context inst old new a =
    let first = no_own a.front [] old a.mid a.first in
    let island = asked_keeps _ a.mid a.last a.island in
    (a.adds.labels ∙ island.0 ∙ first.labels, λ label low. low_kept a.adds label low ∙ island.1 label low ∙ low_kept first label low)
