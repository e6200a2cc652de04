-- What an instruction that breaks no rule gives: of its registers, numbers and targets.
use Rattle.{mach_labels.specs.Table.first_inner, rv_base.{specs.ValueRegs.{count_of as value_count}, specs.declared.value_regs.ValueRegs.ValueRegs}, rv_code.{proofs.Registers.{IsCount, count_of}, proofs.ReversedBytes.{Reversal, IsReversal}}}
use Rattle.rv_code.proofs.Words.{all_of, AllByRecursion, and_parts, AreListed, AreMoves, AVirtual, bits_of, breaks_none, CallInfo, canonical_type, clash, class_of, Context, differ_at_places, differ_in_class, eqb-false, Float, has_bad_rounding}
use Rattle.rv_code.proofs.Words.{has_bad_size, has_bad_type, has_bad_width, has_clash, has_empty_table, has_zero, I8, Inst, inst_registers, inst_rule, Int, IntegerCompare, IrType, is_buffer_label, is_float, is_float_class, is_int_class, is_int_type, is_misplaced}
use Rattle.rv_code.proofs.Words.{is_movable, is_not_of, is_one_of, is_other_class, is_out_of_place, is_out_of_range, is_real_x, is_reserved, is_stack_or_frame, is_uneven, is_vector, is_vector_class, is_virtual, is_zero, IsFineChoice, IsFineTarget, IsFineTry}
use Rattle.rv_code.proofs.Words.{IsIntRegister, IsListed, IsMove, IsRealRegister, IsUsable, labels_of, lacks_target, leb-false, leb-true, list_any, MachLabel, number_of, or_cases, or_parts, PReg, Real, Reg, RegClass}
use Rattle.rv_code.{proofs.Words.{registers_in, same_class, same_register, SelectInfo, table_of, target_labels, targets_of, try_call_of, try_labels, TryCallInfo, values_differ, Vector, Writable, written_in}, specs.UnitRuns.{IsUsableIn, AreUsableIn}}
use Rattle.rv_inst.{proofs.PlainInsts.not_true, specs.Core.is_integer, specs.Descriptions.{counts, reverses, sequence_registers}, specs.Rules.{is_stack, sequence_faults}, specs.declared.inst.Brev8Info.Brev8Info, specs.declared.inst.CondBrTarget.CondBrTarget}
use Rattle.rv_inst.{specs.declared.inst.CondBrTarget.TheVariants.{Label as ToLabel}, specs.declared.inst.CountInfo.CountInfo, specs.declared.inst.Inst.TheVariants.Brev8, specs.declared.sequence.Computation.Computation, specs.declared.units.PlacedReg.PlacedReg}
use Rattle.std.{proofs.Common.{⊎_elim, ◌≡◌, ◌⊎◌, inl, inr, ℕ, ◌<◌, Bool, true, false, List, [], ◌∷◌, ◌++◌, length, Option, Some, None, arith, refl, sym, subst, eqb-true, ◌∙◌, ◌≢◌, ◌==◌, not, ◌≤◌, rules, ◌%◌, ap, nat_le, ◌||◌, ◌&&◌}, proofs.lemmas.List.Folds.list_any-append}
pub use Rattle.rv_code.specs.Usable.{AreUsable}
use Rattle.rv_inst.specs.declared.error.Rule.TheVariants as rule
use Rattle.rv_inst.specs.declared.inst.Inst.TheVariants.{BrTable, CallInd, Mov, MovFromPReg, RawData, Select}

-- ---- what an instruction that breaks no rule gives: integer registers below x30, numbers in range, and branches with a target.

pub not_false : (a : Bool) → not a ≡ false → a ≡ true
not_false true e = refl
not_false false e = absurd (cc)

pub or_left : (a b : Bool) → (a || b) ≡ false → a ≡ false
or_left a b e = (or_parts a b e).0

pub or_right : (a b : Bool) → (a || b) ≡ false → b ≡ false
or_right a b e = (or_parts a b e).1

-- the registers of a move have one class
pub one_class : (r s : RegClass) → not (same_class r s) ≡ false → s ≡ r
one_class Int Int h = refl
one_class _ _ h = search rules

pub is_usable : (r : Reg) → is_virtual r ≡ false → is_other_class r ≡ false → is_reserved r ≡ false → IsUsable r
is_usable (Real p) v h g = let is = one_class Int p.class h in (is, leb-false 30 p.number ((λ i. is_int_class (sym is i) && nat_le 30 p.number) ∙ g))
is_usable (AVirtual class index) v h g = absurd (cc)

pub are_usable : (rs : List Reg) → list_any is_virtual rs ≡ false → list_any is_other_class rs ≡ false → list_any is_reserved rs ≡ false → AreUsable rs
are_usable [] v h g = tt
are_usable (r ∷ rs) v h g = (
  is_usable r (or_left (is_virtual r) _ v) (or_left (is_other_class r) _ h) (or_left (is_reserved r) _ g),
  are_usable rs (or_right (is_virtual r) _ v) (or_right (is_other_class r) _ h) (or_right (is_reserved r) _ g),
)

-- a test that holds of none of two lists holds of none of either
pub none_of_both : {A : Type 0} (test : A → Bool) (xs ys : List A) → list_any test (xs ++ ys) ≡ false → (list_any test xs ≡ false) × (list_any test ys ≡ false)
none_of_both test xs ys e = or_parts (list_any test xs) (list_any test ys) (sym (list_any-append test xs ys) ∙ e)

-- what holds of nothing, and of one more element that fails a test, holds where none passes it
pub by_none : {A : Type 0} (test : A → Bool) (Q : List A → Type 0) → Q [] → ((x : A) (xs : List A) → test x ≡ false → Q xs → Q (x ∷ xs)) → (xs : List A) → list_any test xs ≡ false → Q xs
by_none test Q none more [] e = none
by_none test Q none more (x ∷ xs) e = let parts = or_parts (test x) _ e in more x xs parts.0 (by_none test Q none more xs parts.1)

none_of : (test : Reg → Bool) (rs : List Reg) → list_any test rs ≡ false → AllByRecursion (λ r. test r ≡ false) rs
none_of test = by_none test _ tt (λ r rs one others. (one, others))

-- two usable registers that aren't the same have different numbers
pub numbers_differ : (r s : Reg) → IsUsable r → IsUsable s → same_register r s ≡ false → number_of r ≢ number_of s
numbers_differ (Real p) (Real q) hr hs e = eqb-false p.number q.number ((λ i. same_class (sym hr.0 i) (sym hs.0 i) && (p.number == q.number)) ∙ e)
numbers_differ _ _ hr hs e = search rules

-- so one that is none of these differs from each
apart_from : (r : Reg) (ss : List Reg) → IsUsable r → AreUsable ss → is_one_of r ss ≡ false → AllByRecursion (λ (s : Reg). number_of r ≢ number_of s) ss
apart_from r [] h all e = tt
apart_from r (s ∷ ss) h all e = let parts = or_parts (same_register r s) _ e in (numbers_differ r s h all.0 parts.0, apart_from r ss h all.1 parts.1)

-- and registers that are written from one another and from all that are read
abbrev AllApart : List Reg → List Reg → Type 0
AllApart [] inputs = Unit {0}
AllApart (r ∷ outputs) inputs = AllByRecursion (λ (s : Reg). number_of r ≢ number_of s) (outputs ++ inputs) × AllApart outputs inputs

pub all_apart : (outputs inputs : List Reg) → AreUsable (outputs ++ inputs) → clash outputs inputs ≡ false → AllApart outputs inputs
all_apart [] inputs all e = tt
all_apart (r ∷ outputs) inputs all e =
    let first = is_one_of r (outputs ++ inputs) in
    (apart_from r (outputs ++ inputs) all.0 all.1 (or_left first _ e), all_apart outputs inputs all.1 (or_right first _ e))

-- what an instruction that breaks no rule doesn't break
pub record Keeps (inst : Inst) : Type 0 where
  pub real : list_any is_virtual (inst_registers inst) ≡ false
  pub placed : is_misplaced inst ≡ false
  pub free : list_any is_reserved (inst_registers inst) ≡ false
  pub counted : has_zero inst ≡ false
  pub apart : has_clash inst ≡ false
  pub typed : has_bad_type inst ≡ false
  pub ranged : is_out_of_range inst ≡ false
  pub rounded : has_bad_rounding inst ≡ false
  pub wide : has_bad_width inst ≡ false
  pub tabled : has_empty_table inst ≡ false
  pub aimed : lacks_target inst ≡ false
  pub listed_try : list_any is_buffer_label (try_labels (try_call_of inst)) ≡ false
  pub listed : list_any is_buffer_label (labels_of (targets_of inst)) ≡ false
  pub listed_table : list_any is_buffer_label (table_of inst) ≡ false
  pub sized : has_bad_size inst ≡ false

pub keeps : (context : Context) (inst : Inst) → inst_rule context inst ≡ None → Keeps inst
keeps context inst e =
    let kept = breaks_none context inst e in
    let labels = none_of_both is_buffer_label (try_labels (try_call_of inst) ++ labels_of (targets_of inst)) (table_of inst) (kept rule.Label) in
    let calls = none_of_both is_buffer_label (try_labels (try_call_of inst)) (labels_of (targets_of inst)) labels.0 in
    record {
      real = kept rule.Virtual;
      placed = kept rule.Class;
      free = kept rule.Reserved;
      counted = kept rule.Zero;
      apart = kept rule.Clash;
      typed = kept rule.BadType;
      ranged = kept rule.Range;
      rounded = kept rule.Rounding;
      wide = kept rule.Width;
      tabled = kept rule.EmptyTable;
      aimed = kept rule.NoTarget;
      listed_try = calls.0;
      listed = calls.1;
      listed_table = labels.1;
      sized = kept rule.DataSize;
    }

pub is_real : (r : Reg) → is_virtual r ≡ false → IsRealRegister r
is_real (Real p) e = refl
is_real (AVirtual class index) e = absurd (cc)

pub move_kept : (rd : Writable Reg) (rm : Reg) (type : IrType) → Keeps (Mov rd rm type) → IsMove rd.reg rm type
move_kept rd rm type k =
    let class = one_class (class_of rd.reg) (class_of rm) k.placed in
    search (rules, is_real, or_left, k, (or_right (is_virtual rd.reg) _ k.real), class, (subst (λ c. is_movable c type ≡ true) class (not_false (is_movable (class_of rm) type) k.typed)))

pub move_usable : (rd : Writable Reg) (rm : Reg) (type : IrType) → is_integer (Mov rd rm type) ≡ true → Keeps (Mov rd rm type) → IsUsable rd.reg × IsUsable rm
move_usable rd rm type core k =
    let m = move_kept rd rm type k in
    let int = (elim (class_of rd.reg) as (λ c. not (is_float_class c) ≡ true → is_movable c type ≡ true → not (is_int_class c) ≡ false) [ Int ↦ λ e h. refl | Float ↦ λ e h. absurd (cc) | Vector ↦ λ e h. absurd (cc) ]) core m.typed in
    let all = are_usable (rd.reg ∷ rm ∷ []) k.real (λ i. int i || ((subst (λ c. not (is_int_class c) ≡ false) (sym m.class) int) i || false)) k.free in
    (all.0, all.1.0)

pub preg_usable : (rd : Writable Reg) (rm : PReg) → Keeps (MovFromPReg rd rm) → IsUsable rd.reg × IsUsable (Real rm)
preg_usable rd rm k =
    let second = (elim (is_int_class rm.class) as (λ a. not (a && rm.number == 2 || a && rm.number == 8) ≡ false → not a ≡ false) [ true ↦ λ f. refl | false ↦ λ f. absurd (cc) ]) (or_right (is_other_class rd.reg) _ k.placed) in
    let all = are_usable (rd.reg ∷ Real rm ∷ []) k.real (λ i. (or_left (is_other_class rd.reg) (not (is_stack_or_frame rm)) k.placed) i || (second i || false)) k.free in
    (all.0, all.1.0)

-- data has four or eight bytes
pub data_kept : (bytes : List ℕ) → Keeps (RawData bytes) → (length bytes ≡ 4) ⊎ (length bytes ≡ 8)
data_kept bytes k = ⊎_elim (λ e. inl (eqb-true (length bytes) 4 e)) (λ e. inr (eqb-true (length bytes) 8 e)) (or_cases (length bytes == 4) (length bytes == 8) (not_false _ k.sized))

-- an integer register that isn't one of a number
pub other_number : (n : ℕ) (r : Reg) → IsUsable r → is_real_x n r ≡ false → number_of r ≢ n
other_number n (Real p) u h = eqb-false p.number n ((λ i. is_int_class (sym u.0 i) && p.number == n) ∙ h)
other_number n (AVirtual class index) u h = absurd u.0

pub not_zero : (r : Reg) → IsUsable r → is_zero r ≡ false → 0 < number_of r
not_zero r u h = let other = other_number 0 r u h in omega arith

-- the register with the address that is called
pub call_usable : (info : CallInfo Reg) → Keeps (CallInd info) → IsUsable info.dest
call_usable info k = is_usable info.dest (or_left (is_virtual info.dest) _ k.real) (or_left (is_other_class info.dest) _ k.placed) (or_left (is_reserved info.dest) _ k.free)

pub listed : (label : MachLabel) (more : Bool) → (is_buffer_label label || more) ≡ false → IsListed label
listed label more e = leb-false first_inner label.number (or_left (is_buffer_label label) more e)

pub listed_targets : (taken not_taken : CondBrTarget) → list_any is_buffer_label (target_labels taken ++ target_labels not_taken) ≡ false → IsFineTarget taken × IsFineTarget not_taken
listed_targets (ToLabel t) (ToLabel f) e = (listed t _ e, listed f false (or_right (is_buffer_label t) _ e))
listed_targets _ _ e = search (rules, listed)

pub listed_try : (t : Option TryCallInfo) → list_any is_buffer_label (try_labels t) ≡ false → IsFineTry t
listed_try None e = tt
listed_try (Some t) e = listed t.continuation _ e

-- ---- what a count that breaks no rule gives: registers below x30 that differ, and at most 64 bits.

-- an integer type of at most 64 bits has some bits, and at most 64, those of whole bytes
pub some_bits : (type : IrType) → not (is_int_type type) ≡ false → (1 ≤ bits_of type) × (bits_of type ≤ 64) × (bits_of type % 8 ≡ 0)
some_bits I8 e = search (rules, arith)
some_bits _ e = search (rules, arith)

pub is_count : (info : CountInfo) (computation : Computation) → AreUsable (sequence_registers (counts computation info)) → (sequence_faults (counts computation info)).zeroed ≡ false → (sequence_faults (counts computation info)).clashing ≡ false → not (is_int_type info.ty) ≡ false → IsCount (count_of info.sum info.tmp info.step info.rs info.ty)
is_count info computation all zeroed clashing typed =
    let changed = info.tmp.reg ∷ info.step.reg ∷ info.sum.reg ∷ [] in
    let apart = all_apart changed (info.rs ∷ []) (all.1.0, (all.1.1.0, (all.1.1.1.0, (all.0, tt)))) clashing in
    let sum_tmp : number_of info.sum.reg ≢ number_of info.tmp.reg = λ e. apart.0.1.0 (sym e) in
    let sum_step : number_of info.sum.reg ≢ number_of info.step.reg = λ e. apart.1.0.0 (sym e) in
    search (rules, all, apart, sum_tmp, sum_step, (none_of is_zero changed zeroed), (some_bits info.ty typed), not_zero)

-- ---- what a reversal of bits that breaks no rule gives: registers below x30 that differ, and the bits of at most eight bytes.

abbrev pub reversal_of : Brev8Info → Reversal
reversal_of info = record { rd = number_of info.rd.reg; tmp = number_of info.tmp.reg; tmp2 = number_of info.tmp2.reg; step = number_of info.step.reg; rs = number_of info.rs; bits = bits_of info.ty }

pub is_reversal : (info : Brev8Info) → Keeps (Brev8 info) → IsReversal (reversal_of info)
is_reversal info k =
    let all = are_usable (sequence_registers (reverses info)) k.real k.placed k.free in
    let changed = info.step.reg ∷ info.tmp.reg ∷ info.tmp2.reg ∷ info.rd.reg ∷ [] in
    let apart = all_apart changed (info.rs ∷ []) (all.1.0, (all.1.1.0, (all.1.1.1.0, (all.1.1.1.1.0, (all.0, tt))))) k.apart in
    let rd_step : number_of info.rd.reg ≢ number_of info.step.reg = λ e. apart.0.1.1.0 (sym e) in
    let rd_tmp : number_of info.rd.reg ≢ number_of info.tmp.reg = λ e. apart.1.0.1.0 (sym e) in
    let rd_tmp2 : number_of info.rd.reg ≢ number_of info.tmp2.reg = λ e. apart.1.1.0.0 (sym e) in
    let tmp_step : number_of info.tmp.reg ≢ number_of info.step.reg = λ e. apart.0.0 (sym e) in
    let tmp2_step : number_of info.tmp2.reg ≢ number_of info.step.reg = λ e. apart.0.1.0 (sym e) in
    search (rules, all, apart, rd_step, rd_tmp, rd_tmp2, tmp_step, tmp2_step, (none_of is_zero changed k.counted), (some_bits info.ty k.typed), not_zero)

-- ---- what a branch by a table that breaks no rule gives: registers below x30 that differ, and labels of a listing, one at least.

pub table_fine : (index : Reg) (tmp1 tmp2 : Writable Reg) (targets : List MachLabel) → Keeps (BrTable index tmp1 tmp2 targets) → IsIntRegister index × IsIntRegister tmp1.reg × IsIntRegister tmp2.reg × AreListed targets × (1 ≤ length targets)
table_fine index tmp1 tmp2 targets k =
    let all = are_usable (index ∷ tmp1.reg ∷ tmp2.reg ∷ []) k.real k.placed k.free in
    (all.0.0, all.1.0.0, all.1.1.0.0, by_none is_buffer_label AreListed tt (λ label labels one others. (listed label false (λ i. one i || false), others)) targets k.listed_table, (let other = eqb-false (length targets) 0 k.tabled in omega arith))

-- the registers of a branch by a table, by their numbers: those that are written aren't x0, and differ from all others
pub record IsTable (index tmp1 tmp2 : ℕ) : Type 0 where
  pub index_usable : index < 30
  pub tmp1_usable : tmp1 < 30
  pub tmp2_usable : tmp2 < 30
  pub tmp1_written : 0 < tmp1
  pub tmp2_written : 0 < tmp2
  pub apart : tmp1 ≢ tmp2

pub is_table : (index : Reg) (tmp1 tmp2 : Writable Reg) (targets : List MachLabel) → Keeps (BrTable index tmp1 tmp2 targets) → IsTable (number_of index) (number_of tmp1.reg) (number_of tmp2.reg)
is_table index tmp1 tmp2 targets k =
    let all = are_usable (index ∷ tmp1.reg ∷ tmp2.reg ∷ []) k.real k.placed k.free in
    search (rules, all, (none_of is_zero (tmp1.reg ∷ tmp2.reg ∷ []) k.counted), (all_apart (tmp1.reg ∷ tmp2.reg ∷ []) (index ∷ []) (all.1.0, (all.1.1.0, (all.0, tt))) k.apart), not_zero)

-- ---- what the rules ask of a temporary that no allocator chooses: a register below x30 that is neither x0 nor sp.

pub record IsScratch (tmp : ℕ) : Type 0 where
  pub usable : tmp < 30
  pub written : 0 < tmp
  pub other : tmp ≢ 2

pub is_scratch : (tmp : Writable Reg) (more : Bool) → list_any is_virtual (tmp.reg ∷ []) ≡ false → list_any is_other_class (tmp.reg ∷ []) ≡ false → list_any is_reserved (tmp.reg ∷ []) ≡ false → (list_any is_zero (tmp.reg ∷ []) || more) ≡ false → list_any is_stack (tmp.reg ∷ []) ≡ false → IsScratch (number_of tmp.reg)
is_scratch tmp more real placed free counted apart =
    let usable = (are_usable (tmp.reg ∷ []) real placed free).0 in
    search (rules, usable, (not_zero tmp.reg usable (or_left (is_zero tmp.reg) false (or_left (is_zero tmp.reg || false) more counted))), (other_number 2 tmp.reg usable (or_left (is_stack tmp.reg) false apart)))

-- ---- what a word of a unit that breaks no rule gives: registers of the machine, each in its place, and fields that its operation takes.

pub below_30 : (n : ℕ) → nat_le 30 n ≡ false → n < 30
below_30 n h = leb-false 30 n h

-- of any register
pub number_low : (r : Reg) → is_virtual r ≡ false → number_of r < 32
number_low (Real p) e = p.in_file
number_low (AVirtual class index) e = absurd (cc)

-- of class Int
pub usable_of : (r : Reg) → is_virtual r ≡ false → is_not_of Int r ≡ false → is_reserved r ≡ false → IsUsable r
usable_of r real is free = is_usable r real (ap (λ c. not (is_int_class c)) (sym (one_class (class_of r) Int is))) free

-- a register of the machine that has the class asked, and isn't x30 or x31
is_usable_in : (asked : RegClass) (r : Reg) → is_virtual r ≡ false → is_not_of asked r ≡ false → is_reserved r ≡ false → IsUsableIn asked (number_of r)
is_usable_in Int r real is free = (usable_of r real is free).1
is_usable_in _ r real is free = number_low r real

pub are_usable_in : (places : List PlacedReg) → list_any is_virtual (registers_in places) ≡ false → list_any is_out_of_place places ≡ false → list_any is_reserved (registers_in places) ≡ false → AreUsableIn places
are_usable_in [] real placed free = tt
are_usable_in (p ∷ places) real placed free = (
  is_usable_in p.class p.reg (or_left (is_virtual p.reg) _ real) (or_left (is_out_of_place p) _ placed) (or_left (is_reserved p.reg) _ free),
  are_usable_in places (or_right (is_virtual p.reg) _ real) (or_right (is_out_of_place p) _ placed) (or_right (is_reserved p.reg) _ free),
)

-- ---- what a number of bits and a choice that break no rule give.

-- from one bit to 64
pub some_in_64 : (bits : ℕ) → not (nat_le 1 bits && nat_le bits 64) ≡ false → (1 ≤ bits) × (bits ≤ 64)
some_in_64 bits ranged = let both = and_parts (nat_le 1 bits) (nat_le bits 64) (not_false (nat_le 1 bits && nat_le bits 64) ranged) in (leb-true 1 bits both.0, leb-true bits 64 both.1)

-- a register that is moved to another at its place
place_move : (r s : Reg) → is_virtual r ≡ false → is_virtual s ≡ false → differ_in_class r s ≡ false → is_vector r ≡ false → IsMove r s (canonical_type (class_of r))
place_move r s real other alike vector =
    let typed = (elim (class_of r) as (λ c. is_vector_class c ≡ false → is_movable c (canonical_type c) ≡ true) [ Int ↦ λ e. refl | Float ↦ λ e. refl | Vector ↦ λ e. absurd (cc) ]) vector in
    record { to = is_real r real; from = is_real s other; class = one_class (class_of r) (class_of s) alike; typed = typed }

-- what the rule on classes leaves
has_classes : (results xs ys : List Reg) (condition : IntegerCompare) → (list_any is_other_class (condition.rs1 ∷ condition.rs2 ∷ []) || values_differ results xs ys) ≡ false →
    (is_other_class condition.rs1 ≡ false) × (is_other_class condition.rs2 ≡ false) × (differ_at_places results xs ≡ false) × (differ_at_places results ys ≡ false) × (list_any is_vector (results ++ xs ++ ys) ≡ false)
has_classes results xs ys condition e =
    let halves = or_parts (list_any is_other_class (condition.rs1 ∷ condition.rs2 ∷ [])) (values_differ results xs ys) e in
    let compared = none_of is_other_class (condition.rs1 ∷ condition.rs2 ∷ []) halves.0 in
    let first = or_parts (differ_at_places results xs) (differ_at_places results ys || (differ_at_places xs ys || list_any is_vector (results ++ xs ++ ys))) halves.1 in
    let second = or_parts (differ_at_places results ys) (differ_at_places xs ys || list_any is_vector (results ++ xs ++ ys)) first.1 in
    (compared.0, compared.1.0, first.0, second.0, or_right (differ_at_places xs ys) _ second.1)

-- registers that are moved to others at their places
places_moved : (rs ss : List Reg) → list_any is_virtual rs ≡ false → list_any is_virtual ss ≡ false → differ_at_places rs ss ≡ false → list_any is_vector rs ≡ false → AreMoves rs ss
places_moved (r ∷ rs) (s ∷ ss) real others alike vector =
    let p = or_parts (is_virtual r) _ real in let q = or_parts (is_virtual s) _ others in let a = or_parts (differ_in_class r s) _ alike in let v = or_parts (is_vector r) _ vector in
    (place_move r s p.0 q.0 a.0 v.0, places_moved rs ss p.1 q.1 a.1 v.1)
places_moved _ _ real others alike vector = search rules

pub select_fine : (dst : ValueRegs (Writable Reg)) (condition : IntegerCompare) (x y : ValueRegs Reg) → Keeps (Select (record { dst = dst; condition = condition; x = x; y = y })) → IsFineChoice dst condition x y
select_fine dst condition x y k =
    let ds = written_in dst in let xs = all_of x in let ys = all_of y in
    let h = has_classes ds xs ys condition k.placed in
    let real = none_of_both is_virtual (ds ++ condition.rs1 ∷ condition.rs2 ∷ xs) ys k.real in
    let inputs = none_of_both is_virtual ds (condition.rs1 ∷ condition.rs2 ∷ xs) real.0 in
    let one = or_parts (is_virtual condition.rs1) _ inputs.1 in let two = or_parts (is_virtual condition.rs2) _ one.1 in
    let free = (none_of_both is_reserved ds (condition.rs1 ∷ condition.rs2 ∷ xs) (none_of_both is_reserved (ds ++ condition.rs1 ∷ condition.rs2 ∷ xs) ys k.free).0).1 in
    let vector = (none_of_both is_vector ds xs (none_of_both is_vector (ds ++ xs) ys h.4).0).0 in
    let counts = and_parts (value_count dst == value_count x) (value_count dst == value_count y) (not_false _ (or_left (is_uneven dst x y) _ k.apart)) in
    record {
      rs1 = (is_usable condition.rs1 one.0 h.0 (or_left (is_reserved condition.rs1) _ free)).0;
      rs2 = (is_usable condition.rs2 two.0 h.1 (or_left (is_reserved condition.rs2) _ (or_right (is_reserved condition.rs1) _ free))).0;
      x = places_moved ds xs inputs.0 two.1 h.2 vector;
      y = places_moved ds ys inputs.0 real.1 h.3 vector;
      x_count = eqb-true (value_count dst) (value_count x) counts.0;
      y_count = eqb-true (value_count dst) (value_count y) counts.1;
    }

neither : (rs : List Reg) → list_any is_float rs ≡ false → list_any is_vector rs ≡ false → list_any is_other_class rs ≡ false
neither [] e f = refl
neither (r ∷ rs) e f =
    let p = or_parts (is_float r) (list_any is_float rs) e in
    let q = or_parts (is_vector r) (list_any is_vector rs) f in
    (λ i. ((elim (class_of r) as (λ c. is_float_class c ≡ false → is_vector_class c ≡ false → not (is_int_class c) ≡ false) [ Int ↦ λ e f. refl | Float ↦ λ e f. absurd (cc) | Vector ↦ λ e f. absurd (cc) ]) p.0 q.0) i || neither rs p.1 q.1 i)

-- they are all of them where none is a floating-point register
pub all_integers : (info : SelectInfo) → is_integer (Select info) ≡ true → Keeps (Select info) → list_any is_other_class (inst_registers (Select info)) ≡ false
all_integers info core k =
    let ds = written_in info.dst in let xs = all_of info.x in let ys = all_of info.y in
    let h = has_classes ds xs ys info.condition k.placed in
    let values = none_of_both is_other_class (ds ++ xs) ys (neither (ds ++ xs ++ ys) (not_true (list_any is_float (ds ++ xs ++ ys)) core) h.4) in
    let both = none_of_both is_other_class ds xs values.0 in
    let inputs = info.condition.rs1 ∷ info.condition.rs2 ∷ xs in
    list_any-append is_other_class (ds ++ inputs) ys ∙ (λ i. (list_any-append is_other_class ds inputs ∙ (λ j. both.0 j || (h.0 j || (h.1 j || both.1 j)))) i || values.1 i)
