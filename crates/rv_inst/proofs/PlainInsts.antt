-- Instructions with usable registers, and with numbers and labels in their range, break no rule.
use Rattle.std.proofs.Common.{ℕ, ◌≡◌, Bool, true, false, List, [], ◌∷◌, Some, None, cond, refl, ap, ◌∙◌}
use Rattle.std.specs.Prelude.{◌&&◌, ◌||◌, ◌++◌, not, is_none, if◌then◌else◌}
use Rattle.std.proofs.lemmas.List.{append-nil}
use Rattle.std.specs.List.{list_any, list_all, find}
use Rattle.rv_base.specs.declared.amode.AMode.{AMode}
use Rattle.rv_base.specs.declared.amode.AMode.TheVariants.{RegOffset, SPOffset, FPOffset, SlotOffset, IncomingArg, Const, Label as LabelAt}
use Rattle.rv_base.specs.AMode.{registers_of, own_offset, base_of}
use Rattle.rv_base.specs.declared.constant.Constant.{Constant}
use Rattle.rv_base.specs.declared.ir_type.IrType.{IrType}
use Rattle.rv_base.specs.declared.label.MachLabel.{MachLabel}
use Rattle.rv_base.specs.declared.mem_flags.MemFlagsData.{MemFlagsData}
use Rattle.rv_base.specs.declared.regs.Reg.{Reg}
use Rattle.rv_base.specs.declared.regs.RegClass.{RegClass}
use Rattle.rv_base.specs.declared.regs.RegClass.TheVariants.{Int, Float, Vector}
use Rattle.rv_base.specs.declared.regs.Writable.{Writable}
use Rattle.rv_base.specs.Regs.{class_of}
use Rattle.rv_imms.specs.declared.imm12.Imm12.{Imm12}
use Rattle.rv_imms.specs.declared.imm20.Imm20.{Imm20}
use Rattle.rv_ops.specs.declared.alu.AluOPRRR.{AluOPRRR}
use Rattle.rv_ops.specs.declared.alu.AluOPRRI.{AluOPRRI}
use Rattle.rv_ops.specs.declared.memory.LoadOP.{LoadOP}
use Rattle.rv_ops.specs.declared.memory.StoreOP.{StoreOP}
use Rattle.rv_ops.specs.Operations.{immediate_of, shift_limit}
use Rattle.rv_ops.specs.Memory.{load_size, is_float_load, is_float_store}
use Rattle.rv_ops.specs.declared.compare.IntegerCompare.{IntegerCompare}
use Rattle.rv_inst.specs.declared.inst.Inst.{Inst}
use Rattle.rv_inst.specs.declared.inst.Inst.TheVariants.{Lui, AluRRR, AluRRImm12, Mov, Load, Store, Jal, CondBr}
use Rattle.rv_inst.specs.declared.inst.CondBrTarget.{CondBrTarget}
use Rattle.rv_inst.specs.declared.error.Rule.{Rule}
use Rattle.rv_inst.specs.declared.error.Rule.TheVariants as rule
use Rattle.rv_inst.specs.declared.targets.Targets.TheVariants.{Nowhere}
use Rattle.rv_inst.specs.Operands.{inst_registers, inst_labels, tail_call_of, target_labels, labels_of, address_targets}
use Rattle.rv_inst.specs.Addresses.{is_distant}
use Rattle.rv_inst.specs.Context.{Context}
use Rattle.rv_inst.specs.Faults.{lacks_constant}
use Rattle.rv_inst.specs.Rules.{is_virtual, is_other_class, is_reserved, is_int_class, same_class, is_not_of, differ_in_class, is_int_type, is_buffer_label, is_beyond, is_fallthrough, has_other_class, faults_of, is_zero, lacks_named, exceeds_arguments, every_rule, breaks, is_movable}
use Rattle.rv_inst.specs.Sizes.{inst_sum, line_size}
use Rattle.rv_inst.specs.Plain.{is_usable, is_plain_address, IsPlain, is_plain}

-- ---- registers

pub and_left : (a b : Bool) → (a && b) ≡ true → a ≡ true
and_left true b e = refl
and_left false b e = absurd (cc)

pub and_right : (a b : Bool) → (a && b) ≡ true → b ≡ true
and_right true b e = e
and_right false b e = absurd (cc)

pub not_true : (a : Bool) → not a ≡ true → a ≡ false
not_true true e = absurd (cc)
not_true false e = refl

not_virtual : (r : Reg) → is_usable r ≡ true → is_virtual r ≡ false
not_virtual r e = not_true _ (and_left _ _ e)

not_other : (r : Reg) → is_usable r ≡ true → is_other_class r ≡ false
not_other r e = not_true _ (and_left _ _ (and_right _ _ e))

not_reserved : (r : Reg) → is_usable r ≡ true → is_reserved r ≡ false
not_reserved r e = not_true _ (and_right _ _ (and_right _ _ e))

-- a test that holds of no usable register holds of none of these
none_of : (test : Reg → Bool) → ((r : Reg) → is_usable r ≡ true → test r ≡ false) → (rs : List Reg) → list_all is_usable rs ≡ true → list_any test rs ≡ false
none_of test fails [] e = refl
none_of test fails (r ∷ rs) e = λ i. fails r (and_left _ _ e) i || none_of test fails rs (and_right _ _ e) i

-- two integer registers are of one class
one_class : (r s : Reg) → list_all is_usable (r ∷ s ∷ []) ≡ true → differ_in_class r s ≡ false
one_class r s e = both (class_of r) (class_of s) (not_other r (and_left _ _ e)) (not_other s (and_left _ _ (and_right _ _ e)))
  where
    both : (c d : RegClass) → not (is_int_class c) ≡ false → not (is_int_class d) ≡ false → not (same_class c d) ≡ false
    both Int Int e f = refl
    both Int Float e f = absurd (cc)
    both Int Vector e f = absurd (cc)
    both Float d e f = absurd (cc)
    both Vector d e f = absurd (cc)

-- an integer register has the class that a move takes
int_moved : (r : Reg) (type : IrType) → is_usable r ≡ true → is_int_type type ≡ true → not (is_movable (class_of r) type) ≡ false
int_moved r type e f = by (class_of r) (not_other r e)
  where
    by : (c : RegClass) → not (is_int_class c) ≡ false → not (is_movable c type) ≡ false
    by Int e = ap not f
    by Float e = absurd (cc)
    by Vector e = absurd (cc)

-- and is in its place, where none of floating-point numbers is asked for
int_placed : (r : Reg) (float : Bool) → float ≡ false → is_usable r ≡ true → is_not_of (if float then Float else Int) r ≡ false
int_placed r float int e = (λ i. is_not_of (if int i then Float else Int) r) ∙ by (class_of r) (not_other r e)
  where
    by : (c : RegClass) → not (is_int_class c) ≡ false → not (same_class c Int) ≡ false
    by Int e = refl
    by Float e = absurd (cc)
    by Vector e = absurd (cc)

-- ---- instructions

-- where none of some rules is broken none is found
none_found : {X : Type 0} (test : X → Bool) (xs : List X) → ((x : X) → test x ≡ false) → find test xs ≡ None
none_found test [] fails = refl
none_found test (x ∷ xs) fails = (λ i. cond (fails x i) (Some x) (find test xs)) ∙ none_found test xs fails

-- one whose registers are usable, and that breaks none of the other rules
plain : (inst : Inst) → list_all is_usable (inst_registers inst) ≡ true → faults_of inst ≡ has_other_class false → ((constants : List Constant) → lacks_constant constants inst ≡ false) → list_any is_buffer_label (inst_labels inst) ≡ false → tail_call_of inst ≡ None → ((context : Context) → inst_sum context inst ≡ line_size) → IsPlain inst
plain inst usable sound named labels tail size = record {
  rules = λ context. none_found (breaks context inst) every_rule (kept context);
  size = size;
  tail = tail;
}
  where
    kept : (context : Context) (r : Rule) → breaks context inst r ≡ false
    kept context rule.Virtual = none_of is_virtual not_virtual (inst_registers inst) usable
    kept context rule.Class = ap (λ f. f.class) sound
    kept context rule.Reserved = none_of is_reserved not_reserved (inst_registers inst) usable
    kept context rule.Zero = ap (λ f. f.zeroed) sound
    kept context rule.Clash = ap (λ f. f.clashing) sound
    kept context rule.BadType = ap (λ f. f.type) sound
    kept context rule.Range = ap (λ f. f.range) sound
    kept context rule.Rounding = ap (λ f. f.rounding) sound
    kept context rule.Width = ap (λ f. f.width) sound
    kept context rule.Constant = named context.constants
    kept context rule.EmptyTable = ap (λ f. f.table) sound
    kept context rule.NoTarget = ap (λ f. f.target) sound
    kept context rule.Label = labels
    kept context rule.TailArgs = ap (exceeds_arguments context.frame) tail
    kept context rule.DataSize = ap (λ f. f.size) sound

pub plain_rrr : (op : AluOPRRR) (rd : Writable Reg) (rs1 rs2 : Reg) → list_all is_usable (rd.reg ∷ rs1 ∷ rs2 ∷ []) ≡ true → IsPlain (AluRRR op rd rs1 rs2)
plain_rrr op rd rs1 rs2 e = plain (AluRRR op rd rs1 rs2) e (ap has_other_class (none_of is_other_class not_other (rd.reg ∷ rs1 ∷ rs2 ∷ []) e)) (λ constants. refl) refl refl (λ context. refl)

pub plain_rri : (op : AluOPRRI) (rd : Writable Reg) (rs : Reg) (imm : Imm12) → list_all is_usable (rd.reg ∷ rs ∷ []) ≡ true → is_beyond (shift_limit (immediate_of op)) imm.value ≡ false → IsPlain (AluRRImm12 op rd rs imm)
plain_rri op rd rs imm e near = plain (AluRRImm12 op rd rs imm) e (λ i. record (has_other_class (none_of is_other_class not_other (rd.reg ∷ rs ∷ []) e i)) { range = near i }) (λ constants. refl) refl refl (λ context. refl)

pub plain_lui : (rd : Writable Reg) (imm : Imm20) → is_usable rd.reg ≡ true → IsPlain (Lui rd imm)
plain_lui rd imm e = let one : list_all is_usable (rd.reg ∷ []) ≡ true = ap (λ b. b && true) e in plain (Lui rd imm) one (ap has_other_class (none_of is_other_class not_other (rd.reg ∷ []) one)) (λ constants. refl) refl refl (λ context. refl)

pub plain_mov : (rd : Writable Reg) (rm : Reg) (type : IrType) → list_all is_usable (rd.reg ∷ rm ∷ []) ≡ true → is_int_type type ≡ true → IsPlain (Mov rd rm type)
plain_mov rd rm type e taken = plain (Mov rd rm type) e (λ i. record (has_other_class (one_class rd.reg rm e i)) { type = int_moved rm type (and_left _ _ (and_right _ _ e)) taken i }) (λ constants. refl) refl refl (λ context. refl)

pub plain_jal : (label : MachLabel) → is_buffer_label label ≡ false → IsPlain (Jal label)
plain_jal label own = plain (Jal label) refl refl (λ constants. refl) (ap (λ b. b || false) own) refl (λ context. refl)

pub plain_branch : (taken not_taken : CondBrTarget) (kind : IntegerCompare) → list_all is_usable (kind.rs1 ∷ kind.rs2 ∷ []) ≡ true → is_fallthrough taken ≡ false → list_any is_buffer_label (target_labels taken ++ target_labels not_taken) ≡ false → IsPlain (CondBr taken not_taken kind)
plain_branch taken not_taken kind e goes own =
    let labels = ap (list_any is_buffer_label) (append-nil (target_labels taken ++ target_labels not_taken)) ∙ own in
    plain (CondBr taken not_taken kind) e (λ i. record (has_other_class (none_of is_other_class not_other (kind.rs1 ∷ kind.rs2 ∷ []) e i)) { target = goes i }) (λ constants. refl) labels refl (λ context. refl)

record PlainAddress (mode : AMode) : Type 0 where
  usable : list_all is_usable (registers_of mode) ≡ true
  based : is_none (base_of mode) ≡ false
  near : is_distant (own_offset mode) ≡ false
  targets : (read : ℕ) → address_targets read mode ≡ Nowhere

plain_address : (mode : AMode) → is_plain_address mode ≡ true → PlainAddress mode
plain_address (RegOffset r o) e = record { usable = ap (λ b. b && true) (and_left _ _ e); based = refl; near = not_true _ (and_right _ _ e); targets = λ read. refl }
plain_address (SPOffset o) e = record { usable = refl; based = refl; near = not_true _ e; targets = λ read. refl }
plain_address (FPOffset o) e = record { usable = refl; based = refl; near = not_true _ e; targets = λ read. refl }
plain_address (SlotOffset o) e = record { usable = refl; based = refl; near = not_true _ e; targets = λ read. refl }
plain_address (IncomingArg o) e = record { usable = refl; based = refl; near = not_true _ e; targets = λ read. refl }
plain_address (Const k) e = absurd (cc)
plain_address (LabelAt l) e = absurd (cc)

-- a register beside those of an address
usable_and : (r : Reg) (rs : List Reg) → is_usable r ≡ true → list_all is_usable rs ≡ true → list_all is_usable (r ∷ rs) ≡ true
usable_and r rs e f = λ i. e i && f i

pub plain_load : (rd : Writable Reg) (op : LoadOP) (flags : MemFlagsData) (from : AMode) → is_float_load op ≡ false → is_usable rd.reg ≡ true → is_plain_address from ≡ true → IsPlain (Load rd op flags from)
plain_load rd op flags from int e f =
    let a = plain_address from f in
    let all = usable_and rd.reg (registers_of from) e a.usable in
    plain (Load rd op flags from) all
    (λ i. record (has_other_class (int_placed rd.reg (is_float_load op) int e i || none_of is_other_class not_other (registers_of from) a.usable i)) { zeroed = a.based i && is_zero rd.reg; range = a.near i })
    (λ constants. ap (lacks_named constants) (a.targets (load_size op))) (λ i. list_any is_buffer_label (labels_of (a.targets (load_size op) i) ++ [])) refl (λ context. refl)

pub plain_store : (to : AMode) (op : StoreOP) (flags : MemFlagsData) (src : Reg) → is_float_store op ≡ false → is_usable src ≡ true → is_plain_address to ≡ true → IsPlain (Store src op flags to)
plain_store to op flags src int e f =
    let a = plain_address to f in
    let all = usable_and src (registers_of to) e a.usable in
    plain (Store src op flags to) all
    (λ i. record (has_other_class (int_placed src (is_float_store op) int e i || none_of is_other_class not_other (registers_of to) a.usable i)) { range = a.near i })
    (λ constants. ap (lacks_named constants) (a.targets 0)) (λ i. list_any is_buffer_label (labels_of (a.targets 0 i) ++ [])) refl (λ context. refl)

-- all of them
pub breaks_none : (inst : Inst) → is_plain inst ≡ true → IsPlain inst
breaks_none (Lui rd imm) e = plain_lui rd imm e
breaks_none (AluRRR op rd rs1 rs2) e = plain_rrr op rd rs1 rs2 e
breaks_none (AluRRImm12 op rd rs imm) e = plain_rri op rd rs imm (and_left _ _ e) (not_true _ (and_right _ _ e))
breaks_none (Mov rd rm type) e = plain_mov rd rm type (and_left _ _ e) (and_right _ _ e)
breaks_none (Load rd op access from) e = plain_load rd op access from (not_true _ (and_left _ _ e)) (and_left _ _ (and_right _ _ e)) (and_right _ _ (and_right _ _ e))
breaks_none (Store src op access to) e = plain_store to op access src (not_true _ (and_left _ _ e)) (and_left _ _ (and_right _ _ e)) (and_right _ _ (and_right _ _ e))
breaks_none (Jal label) e = plain_jal label (not_true _ e)
breaks_none (CondBr taken not_taken kind) e = plain_branch taken not_taken kind (and_left _ _ e) (not_true _ (and_left _ _ (and_right _ _ e))) (not_true _ (and_right _ _ (and_right _ _ e)))
breaks_none _ e = absurd (cc)
