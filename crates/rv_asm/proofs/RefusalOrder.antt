-- What holds of lines that are not refused, by index: above all, which labels are bound; and what one pass over lines finds.
use Rattle.rv_asm.proofs.Words.{[], AllByRecursion, ap, arith, bad_frame, Bind, binding_line, binds, Bool, broken_from, broken_rule, code_limit, compares, cond_both, CondBrTarget, Constant, constants_sum, Context, context_of, EmitError, Environment, eqb-true, Exit, exit_of}
use Rattle.rv_asm.proofs.Words.{Fallthrough, false, Finds, first_of, FrameLayout, has_bad_frame, if◌then◌else◌, inner_count, Inst, inst_labels, is_bound, is_stuck, is_unfit, IsPlainLine, IsSurveyed, Job, le-ltb, leb-false, length, Line, line_sum, lines_sum, List, list_any, low_word, ltb-false}
use Rattle.rv_asm.proofs.Words.{MachLabel, malformed, named_labels, nat_eq, nat_le, nat_lt, Next, None, number_of, Option, or_parts, Put, refl, reg, Result, return_exit, same_Some, size_limit, size_sum, slice_get, Some, sp_to_args_end, subst, suc, sym, table_of, tail_call_of, TailCall, take}
use Rattle.rv_asm.proofs.Words.{target_exit, target_labels, target_names as labels_of, targets_of, To, ToLabel as Label, too_large, Trap, true, try_call_of, try_exit, try_labels, TryCallInfo, twice_from, twice_in, unbound_among, unbound_in, unwrap_or, Values, zero, ℕ, ◌*◌, ◌++◌, ◌+◌, ◌<◌}
use Rattle.{rv_asm.proofs.Words.{◌^◌, ◌||◌, ◌∙◌, ◌∷◌, ◌≡◌, ◌≤◌}, rv_asm.specs.Refusal.{lines_refusal, refusal}, rv_inst.specs.Frames.{is_bad_frame, is_bad_frame_for, is_unrestorable_for}, rv_inst.specs.Plain.IsPlain, rv_inst.specs.declared.error.EmitError.TheVariants.BadFrame}
use mathlib.Core.Path.{fun_ext}
use Rattle.{mach_labels.specs.declared.table.LabelTable.LabelTable, rv_inst.{specs.declared.error.Rule.Rule, specs.declared.inst.Inst.TheVariants.{BrTable, Jal, TrapIf, CondBr}}}

-- ---- what is so of each

-- what is so of each is so of the one at a place
pub all_at : {X : Type 0} (P : X → Type 0) (xs : List X) → AllByRecursion P xs → (i : ℕ) (x : X) → slice_get xs i ≡ Some x → P x
all_at P [] all i x h = absurd (cc)
all_at P (y ∷ xs) all zero x h = subst P (same_Some y x h) all.0
all_at P (y ∷ xs) all (suc i) x h = all_at P xs all.1 i x h

pub all_both : {X : Type 0} (P : X → Type 0) (xs ys : List X) → AllByRecursion P xs → AllByRecursion P ys → AllByRecursion P (xs ++ ys)
all_both P [] ys h g = g
all_both P (x ∷ xs) ys h g = (h.0, all_both P xs ys h.1 g)

pub all_first : {X : Type 0} (P : X → Type 0) (xs ys : List X) → AllByRecursion P (xs ++ ys) → AllByRecursion P xs
all_first P [] ys h = tt
all_first P (x ∷ xs) ys h = (h.0, all_first P xs ys h.1)

-- ---- labels that are bound

-- these labels are bound
abbrev pub AllBound : List Line → List MachLabel → Type 0
AllBound lines labels = AllByRecursion (λ (l : MachLabel). is_bound lines l.number ≡ true) labels

-- an exit to a label goes to one that is bound
abbrev pub ExitBound : List Line → Exit → Type 0
ExitBound lines (To label) = is_bound lines label ≡ true
ExitBound lines exit = Unit {0}

branch_bound : (lines : List Line) (c : Bool) (t f : CondBrTarget) → AllBound lines (target_labels t ++ target_labels f) → ExitBound lines (if c then target_exit t else target_exit f)
branch_bound lines c Fallthrough Fallthrough b = cond_both c Next Next (ExitBound lines) (λ e. tt) (λ e. tt)
branch_bound lines c Fallthrough (Label f) b = cond_both c Next (To f.number) (ExitBound lines) (λ e. tt) (λ e. b.0)
branch_bound lines c (Label t) Fallthrough b = cond_both c (To t.number) Next (ExitBound lines) (λ e. b.0) (λ e. tt)
branch_bound lines c (Label t) (Label f) b = cond_both c (To t.number) (To f.number) (ExitBound lines) (λ e. b.0) (λ e. b.1.0)

-- a label of a table, by whether there is one of the index
table_bound : (lines : List Line) (default : MachLabel) (labels : List MachLabel) (index : ℕ) → is_bound lines default.number ≡ true → AllBound lines labels → is_bound lines (unwrap_or (slice_get labels index) default).number ≡ true
table_bound lines default [] index b all = b
table_bound lines default (l ∷ labels) zero b all = all.0
table_bound lines default (l ∷ labels) (suc i) b all = table_bound lines default labels i b all.1

-- a call goes on to a label that it names
try_bound : (lines : List Line) (t : Option TryCallInfo) (more : List MachLabel) → AllBound lines (try_labels t ++ more) → ExitBound lines (try_exit t)
try_bound lines None more b = tt
try_bound lines (Some t) more b = b.0

pub return_bound : (lines : List Line) (inst : Inst) → AllBound lines (inst_labels inst) → ExitBound lines (return_exit (Put inst))
return_bound lines inst b = try_bound lines (try_call_of inst) (labels_of (targets_of inst)) (all_first (λ (l : MachLabel). is_bound lines l.number ≡ true) (try_labels (try_call_of inst) ++ labels_of (targets_of inst)) (table_of inst) b)

pub exit_bound : (lines : List Line) (env : Environment) (line : Line) (v : Values) → AllBound lines (named_labels line) → ExitBound lines (exit_of env line v)
exit_bound lines env (Put (Jal label)) v b = b.0
exit_bound lines env (Put (CondBr t f kind)) v b = branch_bound lines (compares kind v) t f (all_first (λ (l : MachLabel). is_bound lines l.number ≡ true) (target_labels t ++ target_labels f) [] b)
exit_bound lines env (Put (BrTable index tmp1 tmp2 [])) v b = tt
exit_bound lines env (Put (BrTable index tmp1 tmp2 (default ∷ labels))) v b = table_bound lines default labels (low_word (reg v (number_of index))) b.0 b.1
exit_bound lines env (Put (TrapIf cmp code)) v b = cond_both (compares cmp v) (Trap code) Next (ExitBound lines) (λ e. tt) (λ e. tt)
exit_bound lines env line v b = tt

-- the first line that binds a label
pub bind_at : (lines : List Line) (label : ℕ) → is_bound lines label ≡ true → (l : MachLabel) × (slice_get lines (binding_line lines label) ≡ Some (Bind l)) × (l.number ≡ label)
bind_at [] label e = absurd (cc)
bind_at (Put inst ∷ lines) label e = bind_at lines label e
bind_at (Bind l ∷ lines) label e =
    cond_both (nat_eq l.number label) 0 (suc (binding_line lines label)) (λ n. (m : MachLabel) × (slice_get (Bind l ∷ lines) n ≡ Some (Bind m)) × (m.number ≡ label))
    (λ h. (l, refl, eqb-true l.number label h)) (λ h. bind_at lines label ((λ i. sym h i || is_bound lines label) ∙ e))

-- ==== What holds of lines that are not refused, by index.

-- where a test holds of none, it holds of each not
pub none_any : {X : Type 0} (test : X → Bool) (xs : List X) → list_any test xs ≡ false → AllByRecursion (λ x. test x ≡ false) xs
none_any test [] h = tt
none_any test (x ∷ xs) h = let both = or_parts (test x) _ h in (both.0, none_any test xs both.1)

-- What is looked for among the labels of a set is looked for among those that the lines bind.
pub finds_by_test : {X : Type 0} (bound test : ℕ → Bool) (lines : List Line) (r : Result X EmitError) → ((label : ℕ) → bound label ≡ test label) → Finds (unbound_in bound lines) r → Finds (unbound_in test lines) r
finds_by_test bound test lines r same found = subst (λ (t : ℕ → Bool). Finds (unbound_in t lines) r) (fun_ext same) found

-- ---- the parts of a refusal

none_both : {X : Type 0} (a b : Option X) → first_of a b ≡ None → (a ≡ None) × (b ≡ None)
none_both None b e = (refl, e)
none_both (Some x) b e = absurd (cc)

pub record Parts (context : Context) (lines : List Line) : Type 0 where
  pub broken : broken_from context 0 lines ≡ None
  pub twice : twice_from (λ label. false) lines ≡ None
  pub unbound : unbound_in (is_bound lines) lines ≡ None
  pub large : too_large context lines ≡ None

pub parts : (context : Context) (lines : List Line) → lines_refusal context lines ≡ None → Parts context lines
unfolding lines_refusal
parts context lines e =
    let e1 = (none_both (broken_from context 0 lines) _ e).1 in
    let e2 = (none_both (twice_from (λ label. false) lines) _ e1).1 in
    record { broken = (none_both _ _ e).0; twice = (none_both _ _ e1).0; unbound = (none_both _ _ e2).0; large = (none_both (unbound_in (is_bound lines) lines) _ e2).1 }

-- a job that isn't refused: its lines aren't, and its frame is one that all of them can restore
pub accepted_lines : (job : Job) → refusal job ≡ None → lines_refusal (context_of job) job.lines ≡ None
unfolding refusal
accepted_lines job e = (none_both (bad_frame job.frame job.lines) _ e).1

-- what is an error where a test holds is none, so it doesn't hold
pub test_none : {X : Type 0} (c : Bool) (x : X) → (if c then Some x else None) ≡ None → c ≡ false
test_none true x e = absurd (cc)
test_none false x e = refl

pub accepted_frame : (job : Job) → refusal job ≡ None → has_bad_frame job.frame job.lines ≡ false
unfolding refusal
accepted_frame job e = test_none (has_bad_frame job.frame job.lines) BadFrame (none_both (bad_frame job.frame job.lines) _ e).0

-- its sizes sum to less than 2^31
pub frame_small : (frame : FrameLayout) (lines : List Line) → has_bad_frame frame lines ≡ false → sp_to_args_end frame < 2 ^ 31
frame_small frame lines e = leb-false (2 ^ 31) (sp_to_args_end frame) (or_parts (nat_le (2 ^ 31) (sp_to_args_end frame)) _ (or_parts (is_bad_frame frame) _ e).0).0

not_stuck : (frame : FrameLayout) (tail : Option TailCall) → is_bad_frame frame ≡ false → is_unrestorable_for frame tail ≡ false → is_bad_frame_for frame tail ≡ false
not_stuck frame None sound fit = refl
not_stuck frame (Some tail) sound fit = λ i. sound i || fit i

pub none_stuck : (frame : FrameLayout) (lines : List Line) → has_bad_frame frame lines ≡ false → (i : ℕ) (line : Line) → slice_get lines i ≡ Some line → is_stuck frame line ≡ false
none_stuck frame lines e i (Put inst) at = not_stuck frame (tail_call_of inst) (or_parts (is_bad_frame frame) _ e).0 (all_at (λ (l : Line). is_unfit frame l ≡ false) lines (none_any (is_unfit frame) lines (or_parts (is_bad_frame frame) _ e).1) i (Put inst) at)
none_stuck frame lines e i (Bind label) at = refl

-- ---- rules

pub rule_none : (index : ℕ) (rule : Option Rule) → malformed index rule ≡ None → rule ≡ None
rule_none index None e = refl
rule_none index (Some r) e = absurd (cc)

unbroken : (context : Context) (index : ℕ) (lines : List Line) → broken_from context index lines ≡ None → AllByRecursion (λ (l : Line). broken_rule context l ≡ None) lines
unbroken context index [] e = tt
unbroken context index (line ∷ lines) e = (rule_none index (broken_rule context line) (none_both _ _ e).0, unbroken context (suc index) lines (none_both (malformed index (broken_rule context line)) _ e).1)

-- no line breaks a rule
pub no_rule_broken : (context : Context) (lines : List Line) → lines_refusal context lines ≡ None → (i : ℕ) (line : Line) → slice_get lines i ≡ Some line → broken_rule context line ≡ None
no_rule_broken context lines e = all_at (λ (l : Line). broken_rule context l ≡ None) lines (unbroken context 0 lines (parts context lines e).broken)

-- ---- labels that are bound

-- what a line binds is bound neither before these lines nor by those of them in front of it
pub not_before : (bound : ℕ → Bool) (lines : List Line) (n : ℕ) (l : MachLabel) → twice_from bound lines ≡ None → slice_get lines n ≡ Some (Bind l) → (is_bound (take n lines) l.number || bound l.number) ≡ false
not_before bound [] n l e h = absurd (cc)
not_before bound (line ∷ lines) zero l e h = test_none (bound l.number) _ (subst (λ x. twice_in bound x ≡ None) (same_Some line (Bind l) h) (none_both _ _ e).0)
not_before bound (line ∷ lines) (suc n) l e h =
    let later = or_parts (is_bound (take n lines) l.number) _ (not_before (λ label. binds line label || bound label) lines n l (none_both (twice_in bound line) _ e).1 h) in
    let here = or_parts (binds line l.number) _ later.1 in
    λ j. (here.0 j || later.0 j) || here.1 j

-- ---- labels that are named

pub label_bound : (c : Bool) (x : Option EmitError) (e : EmitError) → (if c then x else Some e) ≡ None → (c ≡ true) × (x ≡ None)
label_bound true x e h = (refl, h)
label_bound false x e h = absurd (cc)

all_bound : (all : List Line) (labels : List MachLabel) → unbound_among (is_bound all) labels ≡ None → AllBound all labels
all_bound all [] e = tt
all_bound all (l ∷ labels) e = let h = label_bound (is_bound all l.number) _ _ e in (h.0, all_bound all labels h.1)

-- each label that a line names is bound
pub names_bound : (all lines : List Line) → unbound_in (is_bound all) lines ≡ None → (i : ℕ) (line : Line) → slice_get lines i ≡ Some line → AllBound all (named_labels line)
names_bound all [] e i line h = absurd (cc)
names_bound all (l ∷ lines) e zero line h = subst (λ (l : Line). AllBound all (named_labels l)) (same_Some l line h) (all_bound all (named_labels l) (none_both _ _ e).0)
names_bound all (l ∷ lines) e (suc i) line h = names_bound all lines (none_both (unbound_among (is_bound all) (named_labels l)) _ e).1 i line h

-- ---- sizes

-- the lines and the constants count for no more bytes than they may
pub sum_small : (context : Context) (lines : List Line) → lines_refusal context lines ≡ None → size_sum context lines ≤ size_limit
sum_small context lines e = ltb-false size_limit (size_sum context lines) (test_none (nat_lt size_limit (size_sum context lines)) _ (parts context lines e).large)

-- the first lines and the next one count for no more than all
pub lines_take : (context : Context) (lines : List Line) (n : ℕ) (line : Line) → slice_get lines n ≡ Some line → lines_sum context (take n lines) + line_sum context line ≤ lines_sum context lines
lines_take context [] n line h = absurd (cc)
lines_take context (l ∷ lines) zero line h = let same : line_sum context l ≡ line_sum context line = ap (line_sum context) (same_Some _ _ h) in omega arith
lines_take context (l ∷ lines) (suc n) line h = let rest = lines_take context lines n line h in omega arith

pub lines_small : (context : Context) (lines : List Line) → lines_refusal context lines ≡ None → (i : ℕ) (line : Line) → slice_get lines i ≡ Some line → line_sum context line ≤ code_limit
lines_small context lines e i line h = let all = sum_small context lines e in let one = lines_take context lines i line h in omega arith

count_least : (constants : List Constant) → 16 * length constants ≤ constants_sum constants
count_least [] = omega arith
count_least (c ∷ constants) = let rest = count_least constants in omega (arith, rest)

-- and the constants are no more than a buffer takes
pub constants_few : (context : Context) (lines : List Line) → lines_refusal context lines ≡ None → length context.constants ≤ inner_count
constants_few context lines e = omega (arith, sum_small context lines e, count_least context.constants)

-- ==== Jobs that were surveyed: a line of a plain instruction; and that a surveyed job is refused for a label that isn't bound, if at all.

-- a line of a plain instruction
pub plain_line : (context : Context) (inst : Inst) → IsPlain inst → IsPlainLine context (Put inst)
plain_line context inst p = record { fit = ap (is_unrestorable_for context.frame) p.tail; rule = p.rules context; size = p.size context }

-- ---- a surveyed job

first_of_none : {X : Type 0} (a : Option X) → first_of a None ≡ a
first_of_none None = refl
first_of_none (Some x) = refl

only_unbound : (job : Job) (bound : LabelTable (Unit {0})) → IsSurveyed (context_of job) job.lines bound → refusal job ≡ unbound_in (is_bound job.lines) job.lines
unfolding refusal lines_refusal
only_unbound job bound s = grind (arith, s.frame, s.rules, s.once, le-ltb size_limit (size_sum (context_of job) job.lines) s.size, first_of_none)

pub finds_unbound : (job : Job) (bound : LabelTable (Unit {0})) (r : Result (Unit {0}) EmitError) → IsSurveyed (context_of job) job.lines bound → Finds (unbound_in (is_bound job.lines) job.lines) r → Finds (refusal job) r
finds_unbound job bound r s found = subst (λ cause. Finds cause r) (sym (only_unbound job bound s)) found
