-- What loads, stores, addresses, calls and returns that break no rule give, and what the words of each instruction ask.
use Rattle.{rv_base.{specs.AMode.{IsNear, base_of, own_offset, registers_of}, specs.declared.call.CallArgPair.CallArgPair, specs.declared.call.ReturnCallInfo.ReturnCallInfo, specs.declared.constant.Constant.Constant}, rv_code.proofs.Courses.{IsUsableAt, IsRealAt, IsApartAt}}
use Rattle.rv_code.{proofs.Operands.{Keeps, AreUsable, are_usable, not_zero, listed, or_left, or_right, is_real, numbers_differ, keeps, none_of_both, not_false, usable_of, number_low, by_none, other_number, one_class}, proofs.OperationActs.{IsIntegerLoad, IsIntegerStore}}
use Rattle.rv_code.proofs.StackLoads.{IsLoadable, IsLoadableAs, AreStackLoads, IsOtherAs, AreOthersAs}
use Rattle.rv_code.proofs.Words.{address_targets, AllByRecursion, AMode, AreFineResults, AreOfClass, AreReal, breaks_none, CallInfo, CallRetPair, class_of, Const, Context, def_registers, differ_in_class, either_into, eqb-false, exceeds_arguments, ExternalName, Float, FrameLayout, I8, InReg, Inst}
use Rattle.rv_code.proofs.Words.{inst_rule, inst_sum, Int, ints, is_base, is_buffer_label, is_distant, is_fifth, is_high, is_high_at, is_int_class, is_int_type, is_into_stack, is_loaded_from, is_not_of, is_on_stack, is_other_class, is_out_of_place, is_reserved, is_shorter, is_stack, is_unloadable}
use Rattle.rv_code.proofs.Words.{is_vector_class, is_virtual, is_zero, IsFineAddress, IsFineResult, IsFineUnit, IsIntRegister, IsUsable, labels_of, lacks_constant, lacks_named, Ld, leb-false, line_size, list_any, load_class, load_format, load_size, LoadOP, loads_unless, location_differs, location_loads}
use Rattle.rv_code.proofs.Words.{location_of, location_registers, ltb-false, MemFlagsData, number_of, OnStack, or_parts, PReg, Real, Reg, RegClass, registers_in, RegOffset, restores, result_loads, results_clash, RetLocation, same_class, saved_load, saves_from, setup_loads, slice_get_within}
use Rattle.{rv_code.{proofs.Words.{sp_to_args_end, sp_to_fp_of, StackLoad, inst_registers, is_float_load, is_misplaced, IsRealRegister, store_class, StoreOP, tail_call_of, UnitWord, use_registers, Vector, Virtual, Writable}, specs.Usable.{IsFineSequence, KeepsRules}}, rv_inst.specs.Context.context_by}
use Rattle.rv_inst.{specs.Descriptions.{sequence_of, sequence_registers, third, unit_word}, specs.Frames.{is_unsaved, is_t0, is_bad_frame, is_bad_frame_for}, specs.declared.inst.Inst.TheVariants.{Nop0, Call, CallInd, Load, LoadAddr, ReturnCall, ReturnCallInd, Store}, specs.declared.sequence.Sequence.Sequence}
use Rattle.rv_inst.specs.declared.tail_calls.TailCall.{TailCall}
use Rattle.std.{proofs.Common.{◌≡◌, ℕ, ◌<◌, false, List, [], ◌∷◌, length, Option, Some, None, refl, ap, subst, lit<, arith, ◌-◌, ◌^◌, not, ℤ, pos, negsuc, ◌+◌, true, ◌-ℤ◌, ◌++◌, ◌==◌, Bool, sym, ◌∙◌, ◌*◌, ◌≤◌, ◌||◌, ◌&&◌, if◌then◌else◌, int_lt, is_none, IfSome, slice_get, nat_le, rules, eqb-true}, proofs.Common.unwrap_or}
use Rattle.rv_inst.specs.declared.error.Rule.TheVariants as rule

-- ---- what an instruction that is of some kind, and breaks no rule, gives.

-- it keeps the rules of its context
pub keeps_rules : (context : Context) (inst : Inst) → inst_rule context inst ≡ None → KeepsRules context.constants inst
keeps_rules context inst e = record { flags = context.flags; frame = context.frame; rule = e }

-- what its kind keeps
pub kept : {constants : List Constant} {inst other : Inst} → inst ≡ other → KeepsRules constants inst → Keeps other
kept {constants} {inst} {other} is h = subst Keeps is (keeps (context_by h.flags h.frame constants) inst h.rule)

-- integer registers below x30, where each of its registers is to be one
pub ints_kept : {constants : List Constant} {inst other : Inst} → inst ≡ other → KeepsRules constants inst → is_misplaced other ≡ list_any is_other_class (inst_registers other) → AreUsable (inst_registers other)
ints_kept {constants} {inst} {other} is h all = let k = kept is h in are_usable (inst_registers other) k.real (sym all ∙ k.placed) k.free

-- the constant that is named among those that there are
constant_there : {constants : List Constant} {inst other : Inst} → inst ≡ other → KeepsRules constants inst → lacks_constant constants other ≡ false
constant_there {constants} {inst} {other} is h = subst (λ i. lacks_constant constants i ≡ false) is (breaks_none (context_by h.flags h.frame constants) inst h.rule rule.Constant)

-- ---- what loads, stores and addresses that break no rule give of their registers, offsets and labels.

near : (o : ℤ) → is_distant o ≡ false → IsNear o
near o e = let both = or_parts (int_lt o (negsuc (2 ^ 62 - 1))) (int_lt (pos (2 ^ 62)) o) e in (omega (arith, ints), omega (arith, ints))

-- a constant that doesn't lack bytes is there
is_there : (constants : List Constant) (size n : ℕ) → is_shorter (slice_get constants n) size ≡ false → n < length constants
is_there constants size n e =
    (elim (slice_get constants n) as (λ o. slice_get constants n ≡ o → is_shorter o size ≡ false → n < length constants)
    [ None ↦ λ there lacks. absurd (cc) | Some c ↦ λ there lacks. slice_get_within constants n c there ]) refl e

fine_address : (constants : List Constant) (size : ℕ) (mode : AMode) → AreUsable (registers_of mode) → is_distant (own_offset mode) ≡ false → list_any is_buffer_label (labels_of (address_targets size mode)) ≡ false → lacks_named constants (address_targets size mode) ≡ false → IsFineAddress constants mode
fine_address constants size (RegOffset r o) all e labels there = search (rules, all, near, is_there, listed)
fine_address constants size _ all e labels there = search (rules, all, near, is_there, listed)

usable_at : (frame : FrameLayout) (mode : AMode) → AreUsable (registers_of mode) → IsUsableAt (location_of frame mode)
usable_at frame (RegOffset r o) all = search rules
usable_at frame _ all = search rules

real_at : (frame : FrameLayout) (r : Reg) (mode : AMode) → IsUsable r → (is_none (base_of mode) && is_zero r) ≡ false → IsRealAt (number_of r) (location_of frame mode)
real_at frame r (Const k) h e = search (rules, not_zero)
real_at frame r _ h e = search (rules, not_zero)

apart_at : (frame : FrameLayout) (r : Reg) (mode : AMode) → IsUsable r → AreUsable (registers_of mode) → is_base r (base_of mode) ≡ false → 0 < number_of r → IsApartAt (number_of r) (location_of frame mode)
apart_at frame r (Const k) h all e real = search rules
apart_at frame r _ h all e real = search (rules, numbers_differ)

-- a register that an access moves, and those that its address counts from
record IsAccess (class : RegClass) (r : Reg) (mode : AMode) : Type 0 where
  real : is_virtual r ≡ false
  placed : is_not_of class r ≡ false
  free : is_reserved r ≡ false
  address : AreUsable (registers_of mode)

access : (class : RegClass) (r : Reg) (mode : AMode) → list_any is_virtual (r ∷ registers_of mode) ≡ false → (is_not_of class r || list_any is_other_class (registers_of mode)) ≡ false → list_any is_reserved (r ∷ registers_of mode) ≡ false → IsAccess class r mode
access class r mode real placed free =
    search (rules, or_left, real, placed, free, (are_usable (registers_of mode) (or_right (is_virtual r) _ real) (or_right (is_not_of class r) _ placed) (or_right (is_reserved r) _ free)))

-- an integer register, where the class asked is theirs
usable_int : (class : RegClass) (r : Reg) (mode : AMode) → class ≡ Int → IsAccess class r mode → IsUsable r
usable_int class r mode is a = usable_of r a.real (subst (λ asked. is_not_of asked r ≡ false) is a.placed) a.free

-- of integers
pub record LoadKept (frame : FrameLayout) (rd : Writable Reg) (from : AMode) : Type 0 where
  pub usable : IsUsable rd.reg
  pub based : IsUsableAt (location_of frame from)
  pub real : IsRealAt (number_of rd.reg) (location_of frame from)

loads_int : (op : LoadOP) → IsIntegerLoad op → load_class op ≡ Int
loads_int op integer = ap (λ c. if c then Float else Int) integer

pub load_kept : (frame : FrameLayout) (rd : Writable Reg) (op : LoadOP) (flags : MemFlagsData) (from : AMode) → IsIntegerLoad op → Keeps (Load rd op flags from) → LoadKept frame rd from
load_kept frame rd op flags from integer k =
    let a = access (load_class op) rd.reg from k.real k.placed k.free in
    let usable = usable_int (load_class op) rd.reg from (loads_int op integer) a in
    record { usable = usable; based = usable_at frame from a.address; real = real_at frame rd.reg from usable k.counted }

pub store_kept : (frame : FrameLayout) (to : AMode) (op : StoreOP) (flags : MemFlagsData) (src : Reg) → IsIntegerStore op → Keeps (Store src op flags to) → IsUsable src × IsUsableAt (location_of frame to)
store_kept frame to op flags src integer k = let a = access (store_class op) src to k.real k.placed k.free in (usable_int (store_class op) src to (ap (λ c. if c then Float else Int) integer) a, usable_at frame to a.address)

-- what their words ask
pub load_fine : {constants : List Constant} {inst : Inst} {rd : Writable Reg} {op : LoadOP} {flags : MemFlagsData} {from : AMode} → inst ≡ Load rd op flags from → KeepsRules constants inst → IsRealRegister rd.reg × (is_float_load op ≡ false → IsIntRegister rd.reg) × IsFineAddress constants from
load_fine {constants} {inst} {rd} {op} {flags} {from} is h =
    let k = kept is h in let a = access (load_class op) rd.reg from k.real k.placed k.free in
    (is_real rd.reg a.real, (λ integer. (usable_int (load_class op) rd.reg from (loads_int op integer) a).0), fine_address constants (load_size op) from a.address k.ranged k.listed (constant_there is h))

pub store_fine : {constants : List Constant} {inst : Inst} {to : AMode} {op : StoreOP} {flags : MemFlagsData} {src : Reg} → inst ≡ Store src op flags to → KeepsRules constants inst → IsRealRegister src × IsFineAddress constants to
store_fine {constants} {inst} {to} {op} {flags} {src} is h = let k = kept is h in let a = access (store_class op) src to k.real k.placed k.free in (is_real src a.real, fine_address constants 0 to a.address k.ranged k.listed (constant_there is h))

pub load_addr_fine : {constants : List Constant} {inst : Inst} {rd : Writable Reg} {mem : AMode} → inst ≡ LoadAddr rd mem → KeepsRules constants inst → IsIntRegister rd.reg × IsFineAddress constants mem
load_addr_fine {constants} {inst} {rd} {mem} is h = let k = kept is h in let all = ints_kept is h refl in (all.0.0, fine_address constants 0 mem all.1 k.ranged k.listed (constant_there is h))

-- of any register
pub full_load_kept : (frame : FrameLayout) (rd : Writable Reg) (op : LoadOP) (flags : MemFlagsData) (from : AMode) → Keeps (Load rd op flags from) → (number_of rd.reg < 32) × IsUsableAt (location_of frame from)
full_load_kept frame rd op flags from k = let a = access (load_class op) rd.reg from k.real k.placed k.free in (number_low rd.reg a.real, usable_at frame from a.address)

pub full_store_kept : (frame : FrameLayout) (to : AMode) (op : StoreOP) (flags : MemFlagsData) (src : Reg) → Keeps (Store src op flags to) → IsUsableAt (location_of frame to)
full_store_kept frame to op flags src k = usable_at frame to (access (store_class op) src to k.real k.placed k.free).address

pub record LoadAddrKept (frame : FrameLayout) (rd : Writable Reg) (mem : AMode) : Type 0 where
  pub usable : IsUsable rd.reg
  pub real : 0 < number_of rd.reg
  pub based : IsUsableAt (location_of frame mem)
  pub apart : IsApartAt (number_of rd.reg) (location_of frame mem)

pub load_addr_kept : (frame : FrameLayout) (rd : Writable Reg) (mem : AMode) → Keeps (LoadAddr rd mem) → LoadAddrKept frame rd mem
load_addr_kept frame rd mem k =
    let all = are_usable (rd.reg ∷ registers_of mem) k.real k.placed k.free in
    let real = not_zero rd.reg all.0 k.counted in
    record { usable = all.0; real = real; based = usable_at frame mem all.1; apart = apart_at frame rd.reg mem all.0 all.1 k.apart real }

-- ---- what a frame that a tail call can take away gives.

-- a saved register is a floating-point register, or an integer register below x30 that isn't the stack pointer
class_loadable : (class : RegClass) (n : ℕ) (in_file : n < 32) → is_unsaved (record { class = class; number = n; in_file = in_file }) ≡ false → IsLoadableAs (load_format (saved_load class)) n
class_loadable Int n low saved =
    let last = or_parts (n == 2 || n == 8) (nat_le 30 n) (or_right (n == 1) _ (or_right (n == 0) _ saved)) in
    record { usable = leb-false 30 n last.1; apart = eqb-false n 2 (or_left (n == 2) (n == 8) last.0) }
class_loadable _ n low saved = search rules

class_other : (class : RegClass) (n : ℕ) → (is_int_class class && n == 5) ≡ false → is_vector_class class ≡ false → IsOtherAs (load_format (saved_load class)) 5 n
class_other Int n apart saved = search (rules, eqb-false)
class_other _ n apart saved = search rules

pub of_both : {A : Type 0} (P : A → Type 0) (xs ys : List A) → AllByRecursion P xs → AllByRecursion P ys → AllByRecursion P (xs ++ ys)
of_both P [] ys h g = g
of_both P (x ∷ xs) ys h g = (h.0, of_both P xs ys h.1 g)

-- return address and frame pointer, where they were saved
abbrev setup_pair : FrameLayout → List StackLoad
setup_pair frame = record { register = 1; op = Ld; offset = pos (sp_to_fp_of frame + 8) } ∷ record { register = 8; op = Ld; offset = pos (sp_to_fp_of frame) } ∷ []

pub setup_by : (P : List StackLoad → Type 0) (frame : FrameLayout) → P [] → P (setup_pair frame) → P (setup_loads frame)
setup_by P frame none both = elim (frame.setup_area_size == 0) as (λ c. P (if c then [] else setup_pair frame)) [ true ↦ none | false ↦ both ]

-- what holds of each register that was saved, none of which meets a test, and of those two, holds of all that is restored
restored : (P : StackLoad → Type 0) (frame : FrameLayout) (test : Writable PReg → Bool) → ((p : PReg) (offset : ℤ) → test (record { reg = p }) ≡ false → is_unsaved p ≡ false → P (record { register = p.number; op = saved_load p.class; offset = offset })) →
    AllByRecursion P (setup_pair frame) → list_any test frame.clobbered_callee_saves ≡ false → list_any (λ (r : Writable PReg). is_unsaved r.reg) frame.clobbered_callee_saves ≡ false → AllByRecursion P (restores frame)
restored P frame test each pair e f = of_both P _ (setup_loads frame) (saved (pos (sp_to_fp_of frame) -ℤ pos 8) frame.clobbered_callee_saves e f) (setup_by (AllByRecursion P) frame tt pair)
  where
    saved : (offset : ℤ) (saves : List (Writable PReg)) → list_any test saves ≡ false → list_any (λ (r : Writable PReg). is_unsaved r.reg) saves ≡ false → AllByRecursion P (saves_from offset saves)
    saved offset [] e f = tt
    saved offset (r ∷ saves) e f = let s = or_parts (test r) _ e in let t = or_parts (is_unsaved r.reg) _ f in (each r.reg offset s.0 t.0, saved (offset -ℤ pos 8) saves s.1 t.1)

-- a frame that a tail call can take away: what it restores, and how large it is
pub record IsRestorable (frame : FrameLayout) : Type 0 where
  pub registers : AreStackLoads (restores frame)
  pub small : sp_to_args_end frame < 2 ^ 31

pub is_restorable : (frame : FrameLayout) (tail : TailCall) → is_bad_frame_for frame (Some tail) ≡ false → IsRestorable frame
is_restorable frame tail e =
    let parts = or_parts (nat_le (2 ^ 31) (sp_to_args_end frame)) _ (or_left (is_bad_frame frame) _ e) in
    let pair : AreStackLoads (setup_pair frame) = (record { usable = lit< tt; apart = λ e. absurd (omega arith) }, (record { usable = lit< tt; apart = λ e. absurd (omega arith) }, tt)) in
    let registers = restored (λ (l : StackLoad). IsLoadableAs (load_format l.op) l.register) frame (λ r. is_unsaved r.reg) (λ p offset saved same. class_loadable p.class p.number p.in_file saved) pair parts.1 parts.1 in
    record { registers = registers; small = leb-false (2 ^ 31) (sp_to_args_end frame) parts.0 }

-- t0 isn't restored, where a tail call goes through it
pub t0_other : (frame : FrameLayout) (size : ℕ) → is_bad_frame_for frame (Some (record { stack_arg_size = size; by_register = true })) ≡ false → AreOthersAs 5 (restores frame)
t0_other frame size e =
    let bad = or_parts (is_bad_frame frame) _ e in
    restored (λ (l : StackLoad). IsOtherAs (load_format l.op) 5 l.register) frame (λ r. is_t0 r.reg) (λ p offset other saved. class_other p.class p.number other (or_left (is_vector_class p.class) _ saved))
    ((λ e. absurd (omega arith)), ((λ e. absurd (omega arith)), tt)) bad.1 (or_right (nat_le (2 ^ 31) (sp_to_args_end frame)) _ bad.0)

-- ---- what a call that breaks no rule gives: how far the stack pointer falls, and that its results on the stack can be loaded.

in_integer : (r : Reg) → is_virtual r ≡ false → is_reserved r ≡ false → not (same_class (class_of r) Int) ≡ false → is_stack r ≡ false → IsLoadable (number_of r)
in_integer r real free class apart = let usable = usable_of r real class free in record { usable = usable.1; apart = other_number 2 r usable apart }

-- a result by where it is, and one on the stack by its type
located : (r : Reg) (location : RetLocation) → is_virtual r ≡ false → is_reserved r ≡ false → location_differs r location ≡ false → (is_on_stack location && not (is_loaded_from location)) ≡ false → (is_on_stack location && is_stack r) ≡ false → is_high_at location ≡ false →
    IsFineResult r location × AreStackLoads (location_loads r location)
located r (InReg s) real free class type apart near = (tt, tt)
located r (OnStack offset I8) real free class type apart near = search (rules, is_real, in_integer, number_low, ltb-false)
located r (OnStack offset _) real free class type apart near = search (rules, is_real, in_integer, number_low, ltb-false)

-- all of them
all_kept : (defs : List CallRetPair) → list_any is_virtual (def_registers defs) ≡ false → list_any is_reserved (def_registers defs) ≡ false → list_any (λ (d : CallRetPair). location_differs d.vreg.reg d.location) defs ≡ false →
    list_any is_unloadable defs ≡ false → list_any is_high defs ≡ false → results_clash defs ≡ false → AreFineResults defs × AreStackLoads (result_loads defs)
all_kept [] reals frees places types nears aparts = (tt, tt)
all_kept (d ∷ defs) reals frees places types nears aparts =
    let real = or_parts (is_virtual d.vreg.reg) _ reals in let free = or_parts (is_reserved d.vreg.reg) _ frees in
    let placed = or_parts (location_differs d.vreg.reg d.location) _ places in let typed = or_parts (is_unloadable d) _ types in
    let near = or_parts (is_high d) _ nears in let apart = or_parts (is_into_stack d) _ aparts in
    let one = located d.vreg.reg d.location real.0 free.0 placed.0 typed.0 apart.0 near.0 in
    let others = all_kept defs (none_of_both is_virtual (location_registers d.location) (def_registers defs) real.1).1 (none_of_both is_reserved (location_registers d.location) (def_registers defs) free.1).1 placed.1 typed.1 near.1 (or_right (list_any (either_into d) defs) _ apart.1) in
    ((one.0, others.0), of_both (λ (l : StackLoad). IsLoadableAs (load_format l.op) l.register) (location_loads d.vreg.reg d.location) (result_loads defs) one.1 others.1)

-- what it gives
pub record CallKept (popped : ℕ) (defs : List CallRetPair) : Type 0 where
  pub few : popped < 2 ^ 31
  pub results : AreFineResults defs
  pub loadable : AreStackLoads (result_loads defs)

results_kept : (popped : ℕ) (uses : List CallArgPair) (defs : List CallRetPair) → list_any is_virtual (use_registers uses ++ def_registers defs) ≡ false → list_any is_reserved (use_registers uses ++ def_registers defs) ≡ false →
    (list_any (λ (p : CallArgPair). differ_in_class p.vreg p.preg) uses || list_any (λ (d : CallRetPair). location_differs d.vreg.reg d.location) defs) ≡ false →
    list_any is_unloadable defs ≡ false → (nat_le (2 ^ 31) popped || list_any is_high defs) ≡ false → results_clash defs ≡ false → CallKept popped defs
results_kept popped uses defs real free placed typed ranged apart =
    let few = or_parts (nat_le (2 ^ 31) popped) _ ranged in
    let all = all_kept defs (none_of_both is_virtual (use_registers uses) (def_registers defs) real).1 (none_of_both is_reserved (use_registers uses) (def_registers defs) free).1 (or_right (list_any (λ (p : CallArgPair). differ_in_class p.vreg p.preg) uses) _ placed) typed few.1 apart in
    record { few = leb-false (2 ^ 31) popped few.0; results = all.0; loadable = all.1 }

pub call_kept : (info : CallInfo ExternalName) → Keeps (Call info) → CallKept info.callee_pop_size info.defs
call_kept info k = results_kept info.callee_pop_size info.uses info.defs k.real k.free k.placed k.typed k.ranged k.apart

pub call_ind_kept : (info : CallInfo Reg) → Keeps (CallInd info) → CallKept info.callee_pop_size info.defs
call_ind_kept info k = results_kept info.callee_pop_size info.uses info.defs (or_right (is_virtual info.dest) _ k.real) (or_right (is_reserved info.dest) _ k.free) (or_right (is_other_class info.dest) _ k.placed) k.typed k.ranged k.apart

-- those of a call that may be patched are none
pub unless_loadable : (patchable : Bool) (defs : List CallRetPair) → AreStackLoads (result_loads defs) → AreStackLoads (loads_unless patchable defs)
unless_loadable true defs h = tt
unless_loadable false defs h = h

-- ---- what a tail call that breaks no rule gives: its register is t0, and its frame can be taken away.

fifth_fine : (r : Reg) → is_fifth r ≡ true → IsIntRegister r × (number_of r ≡ 5)
fifth_fine (Real p) e = (elim p.class as (λ c. (is_int_class c && p.number == 5) ≡ true → (c ≡ Int) × (p.number ≡ 5)) [ Int ↦ λ f. (refl, eqb-true p.number 5 f) | Float ↦ λ f. absurd (cc) | Vector ↦ λ f. absurd (cc) ]) e
fifth_fine (Virtual class index) e = absurd (cc)

pub target_fine : (info : ReturnCallInfo Reg) → Keeps (ReturnCallInd info) → IsIntRegister info.dest × (number_of info.dest ≡ 5)
target_fine info k = fifth_fine info.dest (not_false (is_fifth info.dest) (or_left (not (is_fifth info.dest)) _ k.placed))

-- by the rule of its arguments
pub tail_kept : (context : Context) (inst : Inst) (tail : TailCall) → tail_call_of inst ≡ Some tail → inst_rule context inst ≡ None → tail.stack_arg_size ≤ context.frame.tail_args_size
tail_kept context inst tail is none = ltb-false context.frame.tail_args_size tail.stack_arg_size (ap (exceeds_arguments context.frame) (sym is) ∙ breaks_none context inst none rule.TailArgs)

-- how many bytes it counts for
pub tail_sum : (context : Context) (inst : Inst) (info : ReturnCallInfo ExternalName) → inst ≡ ReturnCall info → inst_sum context inst ≡ line_size + 32 * length context.frame.clobbered_callee_saves
tail_sum context inst info is = ap (inst_sum context) is ∙ omega arith

pub jump_sum : (context : Context) (inst : Inst) (info : ReturnCallInfo Reg) → inst ≡ ReturnCallInd info → inst_sum context inst ≡ line_size + 32 * length context.frame.clobbered_callee_saves
jump_sum context inst info is = ap (inst_sum context) is ∙ omega arith

-- ---- words of units, and sequences.

unit_fine : (w : UnitWord) → list_any is_virtual (registers_in w.places) ≡ false → (list_any is_out_of_place w.places || not w.aside) ≡ false → not w.rounding ≡ false → not w.width ≡ false → IsFineUnit w
unit_fine w real placed rounded wide =
    (by_none is_virtual AreReal tt (λ r rs one others. (is_real r one, others)) (registers_in w.places) real, by_none is_out_of_place AreOfClass tt (λ p ps one others. (sym (one_class (class_of p.reg) p.class one), others)) w.places (or_left (list_any is_out_of_place w.places) (not w.aside) placed), not_false w.rounding rounded, not_false w.width wide, not_false w.aside (or_right (list_any is_out_of_place w.places) (not w.aside) placed))

-- what the word of a unit asks
pub word_fine : (inst : Inst) → Keeps inst → IfSome (unit_word inst) (λ (w : UnitWord). IsFineUnit w)
word_fine Nop0 k = tt
word_fine inst k = search (rules, k, unit_fine)

third_fine : (s : Sequence) (tmp3 : Option (Writable Reg)) → AreUsable (s.rs ∷ s.tmp1.reg ∷ s.tmp2.reg ∷ third tmp3 ++ s.rd.reg ∷ []) → IsIntRegister (unwrap_or tmp3 s.tmp2).reg × IsIntRegister s.rd.reg
third_fine s None all = (all.1.1.0.0, all.1.1.1.0.0)
third_fine s (Some w) all = (all.1.1.1.0.0, all.1.1.1.1.0.0)

computation_fine : (s : Sequence) → list_any is_virtual (sequence_registers s) ≡ false → list_any is_other_class (sequence_registers s) ≡ false → list_any is_reserved (sequence_registers s) ≡ false → not (is_int_type s.ty) ≡ false → IsFineSequence s
computation_fine s real placed free typed =
    let all = are_usable (sequence_registers s) real placed free in
    let rest = third_fine s s.tmp3 all in
    record { rs = all.0.0; tmp1 = all.1.0.0; tmp2 = all.1.1.0.0; tmp3 = rest.0; rd = rest.1; typed = not_false (is_int_type s.ty) typed }

-- what the sequence of a computation asks
pub sequence_fine : (inst : Inst) → Keeps inst → IfSome (sequence_of inst) (λ (s : Sequence). IsFineSequence s)
sequence_fine Nop0 k = tt
sequence_fine inst k = search (rules, k, computation_fine)
