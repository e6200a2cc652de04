-- Which instructions' code forgets the vector unit's setting.
use Rattle.{rv_base.{specs.Regs.class_of, specs.declared.condcodes.IntCC.IntCC, specs.declared.mem_flags.MemFlagsData.MemFlagsData}, rv_code.{proofs.LineSlots.offset_by, proofs.MadeOfPieces.moves_keep}}
use Rattle.rv_code.{proofs.Forgetting.{before_none, either, last_any, piece_forgets, pieces_forget, slots_forget}, specs.Forgetting.{is_inline, slot_forgets}, proofs.Registers.or_true}
use Rattle.rv_code.{specs.Accesses.{Access, access_pieces, address_pieces, based_pieces, boxing_pieces, far_pieces, half_load_pieces, half_store_pieces, load_line_pieces, load_pieces, return_pieces, store_access, store_line_pieces, store_pieces}, specs.Choices.{choice_pieces, move_action, move_pieces, same_numbers, select_pieces}}
use Rattle.rv_code.{specs.InstParts.result_slots, specs.Pieces.{Action, Rrr, Rri, Note, offset_pieces}, specs.Sequences.{pieces_by, sequence_pieces}}
use Rattle.rv_emit.proofs.Terms.{AMode, ◌≢◌, subst, code_given, bits_of, ◌≡◌, refl, sym, ap, ◌∙◌, arith, ints, Bool, true, false, not, ◌&&◌, ◌||◌, if◌then◌else◌, nat_eq, ℕ, ℤ, pos, List, [], ◌∷◌, ◌++◌, Option, Some, None, length, map, ◌≤◌, TrapCode, I64, Reg}
use Rattle.rv_emit.proofs.Terms.{Int, number_of, Writable, MachLabel, TryCallInfo, LoadOP, StoreOP, Add, Addi, has_load, has_store, Based, AtLabel, is_near, is_splittable, location_of, Context, Inst, Calls, family_of, loads_unless, result_loads, StackLoad, Piece, Do, slots_of, Slot, Slots}
use Rattle.{rv_emit.{proofs.Terms.{Ask, EmitVState, parts_of, slots_alone, call_parts, number_slots, call_pieces, call_ind_pieces, try_pieces, extend_pieces, jump_slots, Buffer, bytes_of, pending, is_needed}, specs.State.{parts_forget, setting_after, setting_beyond}}, rv_inst.specs.Addresses.{Location, AtConstant}}
use Rattle.rv_inst.{specs.Descriptions.{asked_of, facts_of, given, only_regs, regs, sequence_of}, specs.Operands.{all_of, written_in}, specs.Sizes.results_space, specs.declared.units.Facts.Facts, specs.declared.inst.Family.TheVariants.{Integer, Loop, Memory, Symbols}}
use Rattle.rv_inst.{specs.declared.inst.SelectInfo.SelectInfo, specs.declared.sequence.Computation.Computation, specs.declared.sequence.Computation.TheVariants.Zeros}
use Rattle.{rv_inst.specs.declared.inst.Inst.TheVariants.{AluRRImm12, AluRRR, BrTable, Nop0, Call, CallInd, Load, LoadAddr, Lui, Mov, MovFromPReg, ReturnCall, ReturnCallInd, Select, Store}, rv_ops.{specs.declared.memory.LoadOP.TheVariants.Lh, specs.declared.memory.StoreOP.TheVariants.Sh}, std.{specs.List.list_any, specs.Prelude.unwrap_or}}
use mathlib.Core.Bool.{or-false}
use Rattle.rv_code.specs.Pieces as piece
use Rattle.mach_records.specs.declared.records.Event.TheVariants as event

-- ---- addresses, loads and stores: by whether their offset is made by immediates

offset_forgets : (wide : Bool) (rd : ℕ) (o : ℤ) → pieces_forget wide (offset_pieces rd o) ≡ (not (is_splittable o) && wide)
offset_forgets wide rd o = offset_by (λ ps. pieces_forget wide ps ≡ (not (is_splittable o) && wide)) rd o (λ fits none. ap (λ c. not c && wide) (sym fits)) (λ fits. ap (λ c. not c && wide) (sym fits)) (λ far. or-false wide ∙ ap (λ c. not c && wide) (sym far))

address_forgets : (wide : Bool) (rd : ℕ) (loc : Location) → pieces_forget wide (address_pieces rd loc) ≡ (is_inline loc && wide)
address_forgets wide rd (Based r o) = (elim (is_near o) as (λ c. is_near o ≡ c → pieces_forget wide (if c then Do (Rri Addi rd r o) ∷ [] else offset_pieces rd o ++ Do (Rrr Add rd rd r) ∷ []) ≡ (not (is_splittable o) && wide))
    [ true ↦ λ near. (let fits : is_splittable o ≡ true = grind (arith, ints) in ap (λ c. not c && wide) (sym fits)) | false ↦ λ far. before_none wide (offset_pieces rd o) (Do (Rrr Add rd rd r) ∷ []) _ (offset_forgets wide rd o) refl ]) refl
address_forgets wide rd (AtLabel l) = refl
address_forgets wide rd (AtConstant k) = refl

access_none : (wide : Bool) (trap : Option TrapCode) (a : Action) → pieces_forget wide (access_pieces trap ++ Do a ∷ []) ≡ false
access_none wide None a = refl
access_none wide (Some code) a = refl

far_forgets : (wide : Bool) (access : Access) (trap : Option TrapCode) (loc : Location) → pieces_forget wide (far_pieces access trap loc) ≡ (is_inline loc && wide)
far_forgets wide access trap loc = before_none wide (address_pieces 31 loc) (access_pieces trap ++ Do (access 31 (pos 0)) ∷ []) _ (address_forgets wide 31 loc) (access_none wide trap (access 31 (pos 0)))

based_forgets : (wide : Bool) (access : Access) (trap : Option TrapCode) (r : ℕ) (o : ℤ) → pieces_forget wide (based_pieces access trap r o) ≡ (not (is_splittable o) && wide)
based_forgets wide access trap r o = (elim (is_near o) as (λ c. is_near o ≡ c → pieces_forget wide (if c then access_pieces trap ++ Do (access r o) ∷ [] else far_pieces access trap (Based r o)) ≡ (not (is_splittable o) && wide))
    [ true ↦ λ near. access_none wide trap (access r o) ∙ (let fits : is_splittable o ≡ true = grind (arith, ints) in ap (λ c. not c && wide) (sym fits)) | false ↦ λ far. far_forgets wide access trap (Based r o) ]) refl

load_forgets : (wide : Bool) (op : LoadOP) (rd : ℕ) (trap : Option TrapCode) (loc : Location) → pieces_forget wide (load_pieces op rd trap loc) ≡ (is_inline loc && wide)
load_forgets wide op rd trap (Based r o) = based_forgets wide (piece.Load op rd) trap r o
load_forgets wide op rd trap (AtLabel l) = refl
load_forgets wide op rd trap (AtConstant k) = refl

store_forgets : (wide : Bool) (op : StoreOP) (src : ℕ) (trap : Option TrapCode) (loc : Location) → pieces_forget wide (store_pieces op src trap loc) ≡ (is_inline loc && wide)
store_forgets wide op src trap (Based r o) = based_forgets wide (store_access op src) trap r o
store_forgets wide op src trap loc = far_forgets wide (store_access op src) trap loc

-- ---- instructions

abbrev pub Forgets : Context → Inst → Bool → Type 0
Forgets context inst c = (b : Buffer) (setting : EmitVState) → setting_after context b inst setting ≡ setting_beyond c setting

-- one whose code is these pieces
made : {inst : Inst} {c : Bool} (context : Context) (other : Inst) → inst ≡ other → (ps : List Piece) → pieces_forget (not context.flags.has_zca) ps ≡ c → ((setting : EmitVState) → parts_of context setting other ≡ slots_alone (slots_of context.flags ps)) → Forgets context inst c
made context other is ps e parts b setting = ap (λ c. setting_beyond c setting) (ap (parts_forget b) (ap (parts_of context setting) is ∙ parts setting) ∙ or-false _ ∙ slots_forget context.flags ps ∙ e)

pub loads_forget : {inst : Inst} {rd : Writable Reg} {op : LoadOP} {flags : MemFlagsData} {from : AMode} {c : Bool} (context : Context) → inst ≡ Load rd op flags from → c ≡ (is_inline (location_of context.frame from) && not context.flags.has_zca) → Forgets context inst c
loads_forget {rd = rd} {op} {flags} {from} context is same =
    let w = not context.flags.has_zca in let n = number_of rd.reg in let loc = location_of context.frame from in
    made context (Load rd op flags from) is (load_line_pieces context.flags op n flags.trap loc) (either (λ ps. pieces_forget w ps ≡ (is_inline loc && w)) (has_load context.flags op) (load_pieces op n flags.trap loc) (half_load_pieces n flags.trap loc)
    (load_forgets w op n flags.trap loc) (before_none w (load_pieces Lh 31 flags.trap loc) (boxing_pieces n) _ (load_forgets w Lh 31 flags.trap loc) refl) ∙ sym same) (λ setting. refl)

pub stores_forget : {inst : Inst} {src : Reg} {op : StoreOP} {flags : MemFlagsData} {to : AMode} {c : Bool} (context : Context) → inst ≡ Store src op flags to → c ≡ (is_inline (location_of context.frame to) && not context.flags.has_zca) → Forgets context inst c
stores_forget {src = src} {op} {flags} {to} context is same =
    let w = not context.flags.has_zca in let n = number_of src in let loc = location_of context.frame to in
    made context (Store src op flags to) is (store_line_pieces context.flags op n flags.trap loc) (either (λ ps. pieces_forget w ps ≡ (is_inline loc && w)) (has_store context.flags op) (store_pieces op n flags.trap loc) (half_store_pieces n flags.trap loc)
    (store_forgets w op n flags.trap loc) (store_forgets w Sh 30 flags.trap loc) ∙ sym same) (λ setting. refl)

pub addresses_forget : {inst : Inst} {rd : Writable Reg} {mem : AMode} {c : Bool} (context : Context) → inst ≡ LoadAddr rd mem → c ≡ (is_inline (location_of context.frame mem) && not context.flags.has_zca) → Forgets context inst c
addresses_forget {rd = rd} {mem} context is same = let loc = location_of context.frame mem in made context (LoadAddr rd mem) is (address_pieces (number_of rd.reg) loc) (address_forgets _ (number_of rd.reg) loc ∙ sym same) (λ setting. refl)

choice_none : (wide : Bool) (rds first second : List Reg) (how : IntCC) (a b : ℕ) → pieces_forget wide (choice_pieces rds first second how a b) ≡ false
choice_none wide rds first second how a b = moves_keep (λ ps. pieces_forget wide ps ≡ false) rds first _ (λ a ps h. h) (moves_keep (λ ps. pieces_forget wide ps ≡ false) rds second _ (λ a ps h. h) refl)

select_none : (wide : Bool) (info : SelectInfo) → pieces_forget wide (select_pieces info) ≡ false
select_none wide info =
    let choice = choice_none wide (written_in info.dst) in
    either (λ ps. pieces_forget wide ps ≡ false) (same_numbers (map number_of (all_of info.y)) (map number_of (written_in info.dst))) _ _ (choice (all_of info.y) (all_of info.x) _ _ _) (choice (all_of info.x) (all_of info.y) _ _ _)

-- one whose description gives its code: where that jumps
given_forgets : (context : Context) (inst : Inst) (f : Facts) → facts_of inst ≡ Some f → Forgets context inst (f.jumps && not context.flags.has_zca)
given_forgets context inst f is b setting = let g = code_given context setting inst f is in ap (λ c. setting_beyond c setting) (ap (parts_forget b) g.parts ∙ or-false _ ∙ g.forgets)

pub integers_stay : (context : Context) (inst : Inst) → family_of inst ≡ Integer → facts_of inst ≡ None → Forgets context inst false
integers_stay context (Lui rd imm) family other = made context (Lui rd imm) refl (Do (piece.Lui (number_of rd.reg) imm.value) ∷ []) refl (λ setting. refl)
integers_stay context (AluRRR op rd rs1 rs2) family other = made context (AluRRR op rd rs1 rs2) refl (Do (Rrr op (number_of rd.reg) (number_of rs1) (number_of rs2)) ∷ []) refl (λ setting. refl)
integers_stay context (AluRRImm12 op rd rs imm) family other = made context (AluRRImm12 op rd rs imm) refl (Do (Rri op (number_of rd.reg) (number_of rs) imm.value) ∷ []) refl (λ setting. refl)
integers_stay context (Mov rd rm type) family other =
    made context (Mov rd rm type) refl (move_pieces (class_of rd.reg) type (number_of rd.reg) (number_of rm)) (either (λ ps. pieces_forget (not context.flags.has_zca) ps ≡ false) (nat_eq (number_of rd.reg) (number_of rm)) [] (Do (move_action (class_of rd.reg) type (number_of rd.reg) (number_of rm)) ∷ []) refl refl) (λ setting. refl)
integers_stay context (MovFromPReg rd rm) family other =
    made context (MovFromPReg rd rm) refl (move_pieces Int I64 (number_of rd.reg) rm.number) (either (λ ps. pieces_forget (not context.flags.has_zca) ps ≡ false) (nat_eq (number_of rd.reg) rm.number) [] (Do (move_action Int I64 (number_of rd.reg) rm.number) ∷ []) refl refl) (λ setting. refl)
integers_stay context (Select info) family other = made context (Select info) refl (select_pieces info) (select_none _ info) (λ setting. refl)
integers_stay context inst family other = λ b setting. cc

-- each that takes a symbol has such a description, and so has each that is about memory but these three
pub symbols_given : (inst : Inst) → family_of inst ≡ Symbols → facts_of inst ≢ None
symbols_given Nop0 family none = absurd (cc)
symbols_given inst family none = absurd (cc)

pub memory_given : (inst : Inst) → ((rd : Writable Reg) (op : LoadOP) (flags : MemFlagsData) (from : AMode) → inst ≢ Load rd op flags from) → ((src : Reg) (op : StoreOP) (flags : MemFlagsData) (to : AMode) → inst ≢ Store src op flags to) →
    ((rd : Writable Reg) (mem : AMode) → inst ≢ LoadAddr rd mem) → family_of inst ≡ Memory → facts_of inst ≢ None
memory_given (Load rd op flags from) load store address family none = load rd op flags from refl
memory_given (Store src op flags to) load store address family none = store src op flags to refl
memory_given (LoadAddr rd mem) load store address family none = address rd mem refl
memory_given inst load store address family none = absurd (cc)

-- by what is asked of it
pub asked_forgets : (context : Context) (inst : Inst) (jumps : Bool) → jumps ≡ ((asked_of inst).jumps && not context.flags.has_zca) → (facts_of inst ≡ None → Forgets context inst false) → Forgets context inst jumps
asked_forgets context inst jumps is other = subst (Forgets context inst) (sym is) (on (facts_of inst) refl)
  where
    on : (facts : Option Facts) → facts_of inst ≡ facts → Forgets context inst ((unwrap_or facts (only_regs (regs None None None None))).jumps && not context.flags.has_zca)
    on (Some f) e = given_forgets context inst f e
    on None e = other e

-- ---- loops: each jumps back to its start

computation_forgets : (wide : Bool) (computation : Computation) (rd tmp1 tmp2 tmp3 rs bits : ℕ) → pieces_forget wide (pieces_by computation rd tmp1 tmp2 tmp3 rs bits) ≡ wide
computation_forgets true (Zeros true) rd tmp1 tmp2 tmp3 rs bits = refl
computation_forgets false (Zeros true) rd tmp1 tmp2 tmp3 rs bits = refl
computation_forgets _ _ rd tmp1 tmp2 tmp3 rs bits = refl

pub loops_forget : (context : Context) (inst : Inst) → family_of inst ≡ Loop → Forgets context inst (not context.flags.has_zca)
loops_forget context Nop0 family = absurd (cc)
loops_forget context inst family =
    let s = given (sequence_of inst) (cc) in
    made context inst refl (sequence_pieces s) (computation_forgets _ s.computation (number_of s.rd.reg) (number_of s.tmp1.reg) (number_of s.tmp2.reg) (number_of (unwrap_or s.tmp3 s.tmp2).reg) (number_of s.rs) (bits_of s.ty)) (λ setting. cc)

-- ---- calls, and branches by a table

-- slots that forget, after an island
forgets_after : (b : Buffer) (space : ℕ) (slots : List Slot) → list_any slot_forgets slots ≡ true → parts_forget b (Ask space ∷ Slots slots ∷ []) ≡ true
forgets_after b space slots e = ap (λ c. is_needed (length (bytes_of b)) space (pending b) || (c || false)) e ∙ or_true _

tail_forgets : (context : Context) (b : Buffer) (space : ℕ) (front back : List Piece) → pieces_forget (not context.flags.has_zca) back ≡ true → parts_forget b (Ask space ∷ Slots (slots_of context.flags (front ++ back)) ∷ []) ≡ true
tail_forgets context b space front back e = forgets_after b space (slots_of context.flags (front ++ back)) (slots_forget context.flags (front ++ back) ∙ last_any (piece_forgets (not context.flags.has_zca)) front back e)

call_forgets : (context : Context) (b : Buffer) (call : List Piece → List Piece) (loads : List StackLoad) (t : Option TryCallInfo) → ((last : List Piece) → pieces_forget (not context.flags.has_zca) (call last) ≡ true) → parts_forget b (call_parts context.flags call loads t) ≡ true
call_forgets context b call [] t h = ap (λ c. c || false) (slots_forget context.flags (call (try_pieces t)) ∙ h _)
call_forgets context b call (l ∷ loads) t h = ap (λ c. c || parts_forget b (Ask (results_space (l ∷ loads)) ∷ Slots (result_slots context.flags (l ∷ loads) t) ∷ [])) (slots_forget context.flags (call []) ∙ h _)

pub calls_forget : (context : Context) (inst : Inst) → family_of inst ≡ Calls → Forgets context inst true
calls_forget context (Call info) family = λ b setting. ap (λ c. setting_beyond c setting) (call_forgets context b (call_pieces context.flags context.frame info) (loads_unless info.patchable info.defs) info.try_call_info (λ last. refl))
calls_forget context (CallInd info) family = λ b setting. ap (λ c. setting_beyond c setting) (call_forgets context b (call_ind_pieces context.frame info) (result_loads info.defs) info.try_call_info (λ last. refl))
calls_forget context (ReturnCall info) family = λ b setting. ap (λ c. setting_beyond c setting) (tail_forgets context b _ (return_pieces context.flags context.frame info.new_stack_arg_size) (Note event.CallSite ∷ piece.Call 0 31 info.dest ∷ []) refl)
calls_forget context (ReturnCallInd info) family = λ b setting. ap (λ c. setting_beyond c setting) (tail_forgets context b _ (return_pieces context.flags context.frame info.new_stack_arg_size) (piece.Jalr 0 5 (pos 0) ∷ []) refl)
calls_forget context inst family = λ b setting. cc

-- there is one label at least
pub table_forgets : (context : Context) (index : Reg) (tmp1 tmp2 : Writable Reg) (targets : List MachLabel) → 1 ≤ length targets → Forgets context (BrTable index tmp1 tmp2 targets) true
table_forgets context index tmp1 tmp2 [] some b setting = absurd (omega arith)
table_forgets context index tmp1 tmp2 (default ∷ labels) some b setting =
    let index = slots_of context.flags (extend_pieces 31 (number_of index) false 32) in
    let count = number_slots context.flags (number_of tmp2.reg) (pos (length labels)) in
    let jumps = jump_slots (number_of tmp1.reg) (number_of tmp2.reg) default labels in
    ap (λ c. setting_beyond c setting) (forgets_after b _ (index ++ (count ++ jumps)) (last_any slot_forgets index (count ++ jumps) (last_any slot_forgets count jumps refl)))
