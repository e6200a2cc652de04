-- Which operations, pieces and slots forget the vector unit's setting: none does by its actions, so it is a matter of jumps and calls.
use Rattle.{rv_base.specs.declared.flags.IsaFlags.IsaFlags, rv_code.{proofs.OperationActs.{short_load_either, short_store_either}, proofs.Registers.or_true, specs.Forgetting.{forgets, op_forgets, slot_forgets}, specs.Operations.{decoded_jump, short_jump}, specs.Pieces.{Action, Branch, Constant, Do, Go, Jump, LoadFrom, OfSymbol, Piece, Rri, Rrr, Take, Word32, op_of, slots_for, slots_of}, specs.Slots.SlotOf}}
use Rattle.{rv_encode.specs.Operations.{branch_op, decoded, decoded_rri, decoded_rrr, load_of_format, load_op, load_row, store_of_format, store_op, store_row}, rv_inst.specs.Forms.{chosen, form_lui, form_rri, form_rrr, immediate_form, register_form, zca_rri, zca_rrr}}
use Rattle.rv_machine.{specs.Layout.compressed, specs.declared.decoding.Decoded.Decoded, specs.declared.ops.AluOp.AluOp, specs.declared.ops.MOp.MOp, specs.declared.ops.MOp.TheVariants.{Alu, Base}}
use Rattle.rv_ops.{specs.Compare.branch_of, specs.Memory.{load_format, store_format}, specs.Operations.{Computation, ImmediateForm, OfCarry, OfIntegers, RegisterForm, immediate_of, is_carry_line, is_exchanged, kept_bits, row_of, rri_op, rri_operation, rrr_op, rrr_operation, rrr_row}, specs.declared.alu.AluOPRRR.AluOPRRR, specs.declared.memory.LoadOP.LoadOP, specs.declared.memory.StoreOP.StoreOP}
use Rattle.std.{proofs.Common.{ap, false, pos, refl, rules, true, ◌++◌, ◌||◌, ◌∙◌, ◌≡◌}, proofs.lemmas.List.Folds.list_any-append, specs.List.list_any, specs.Prelude.{Bool, IfSome, List, None, Option, Some, [], if◌then◌else◌, not, ℕ, ℤ, ◌∷◌}}
use mathlib.Core.Bool.{or-false}
use Rattle.rv_code.specs.Pieces as piece
use Rattle.rv_machine.specs.declared.ops.BaseOp.TheVariants as base
use Rattle.rv_ops.specs.declared.compare.BranchFunct3.TheVariants as branch

-- ---- operations: those of actions, in whichever form they stand, are no jumps

abbrev Stays : Decoded → Type 0
Stays d = forgets d ≡ false

pub either : {A : Type 0} (P : A → Type 0) (c : Bool) (x y : A) → P x → P y → P (if c then x else y)
either P true x y h g = h
either P false x y h g = g

picked : (c : Bool) (x y : Option Decoded) → IfSome x Stays → IfSome y Stays → IfSome (if c then x else y) Stays
picked c x y h g = either (λ o. IfSome o Stays) c x y h g

chosen_stays : (form : Option Decoded) (whole : Decoded) → IfSome form Stays → Stays whole → Stays (chosen form whole)
chosen_stays (Some d) whole h g = h
chosen_stays None whole h g = g

register_stays : (flags : IsaFlags) (way : Option RegisterForm) (op : AluOp) (rd rs1 rs2 : ℕ) → IfSome (register_form flags way op rd rs1 rs2) Stays
register_stays flags None op rd rs1 rs2 = tt
register_stays flags (Some way) op rd rs1 rs2 = search (rules, picked)

immediate_stays : (flags : IsaFlags) (way : Option ImmediateForm) (op : AluOp) (rd rs : ℕ) (imm : ℤ) → IfSome (immediate_form flags way op rd rs imm) Stays
immediate_stays flags None op rd rs imm = tt
immediate_stays flags (Some way) op rd rs imm = search (rules, picked)

load_stays : (op : LoadOP) (bytes : ℕ) → op_forgets bytes (load_row op) ≡ false
load_stays op bytes = elim (load_format op) as (λ f. op_forgets bytes (load_of_format f (load_op op)) ≡ false) [ None ↦ refl | Some format ↦ refl ]

store_stays : (op : StoreOP) (bytes : ℕ) → op_forgets bytes (store_row op) ≡ false
store_stays op bytes = elim (store_format op) as (λ f. op_forgets bytes (store_of_format f (store_op op)) ≡ false) [ None ↦ refl | Some format ↦ refl ]

computed_stays : (does : Computation) (rd rs1 rs2 : ℕ) (imm : ℤ) → Stays (decoded (row_of does) rd rs1 rs2 imm)
computed_stays (OfIntegers op) rd rs1 rs2 imm = refl
computed_stays (OfCarry op) rd rs1 rs2 imm = refl

row_stays : (op : AluOPRRR) (source rd rs1 rs2 : ℕ) → Stays (decoded (rrr_row op source) rd rs1 rs2 (pos 0))
row_stays op source rd rs1 rs2 = either (λ (m : MOp). Stays (decoded m rd rs1 rs2 (pos 0))) (is_carry_line op source) (row_of (rrr_operation op).does) (Alu (rrr_op op)) (computed_stays (rrr_operation op).does rd rs1 rs2 (pos 0)) refl

action_stays : (flags : IsaFlags) (a : Action) → Stays (op_of flags a)
action_stays flags (Rrr op rd a b) =
    chosen_stays (form_rrr flags op rd a b) (decoded_rrr op rd a b) (picked flags.has_zca (zca_rrr flags op rd a b) None (register_stays flags (rrr_operation op).short (rrr_op op) rd a b) tt)
    (either Stays (is_exchanged op) (decoded (rrr_row op b) rd b a (pos 0)) (decoded (rrr_row op b) rd a b (pos 0)) (row_stays op b rd b a) (row_stays op b rd a b))
action_stays flags (Rri op rd rs imm) = chosen_stays (form_rri flags op rd rs imm) (decoded_rri op rd rs imm) (picked flags.has_zca (zca_rri flags op rd rs imm) None (immediate_stays flags (rri_operation op).short (rri_op op) rd rs imm) tt) (computed_stays (rri_operation op).does rd rs 0 (kept_bits (immediate_of op) imm))
action_stays flags (piece.Lui rd imm) = chosen_stays (form_lui flags rd imm) _ (search (rules, picked)) refl
action_stays flags (piece.Load op rd base offset) = short_load_either Stays flags op rd base offset (load_stays op 2) (load_stays op 4)
action_stays flags (piece.Store op base src offset) = short_store_either Stays flags op base src offset (store_stays op 2) (store_stays op 4)
action_stays flags a = refl

jump_forgets : (flags : IsaFlags) (d : ℤ) → forgets (short_jump flags d) ≡ not flags.has_zca
jump_forgets flags d = elim flags.has_zca as (λ c. forgets (if c then compressed (Base base.Jal) 0 0 0 d else decoded_jump d) ≡ not c) [ true ↦ refl | false ↦ refl ]

-- ---- pieces

-- whether a piece forgets, by whether a jump has four bytes
abbrev pub piece_forgets : Bool → Piece → Bool
piece_forgets wide (Constant rd l) = wide
piece_forgets wide (Jump k) = wide
piece_forgets wide (Go l) = wide
piece_forgets wide (piece.Call link tmp name) = true
piece_forgets wide (piece.Jalr link rs offset) = true
piece_forgets wide p = false

abbrev pub pieces_forget : Bool → List Piece → Bool
pieces_forget wide ps = list_any (piece_forgets wide) ps

piece_is : (flags : IsaFlags) (p : Piece) → list_any slot_forgets (slots_for flags p) ≡ piece_forgets (not flags.has_zca) p
piece_is flags (Do a) = ap (λ c. c || false) (action_stays flags a)
piece_is flags (Constant rd (Word32 n)) = or-false _ ∙ jump_forgets flags _
piece_is flags (Constant rd l) = or-false _ ∙ jump_forgets flags _
piece_is flags (Take rd (OfSymbol (SlotOf name))) = refl
piece_is flags (LoadFrom op rd None l) = ap (λ c. (c || false) || false) (load_stays op 4)
piece_is flags (LoadFrom op rd (Some code) l) = ap (λ c. (c || false) || false) (load_stays op 4)
piece_is flags (Branch how a b k) = elim (branch_of how) as (λ o. ((op_forgets 4 (Base (branch_op o)) || false) || false) ≡ false) [ branch.Eq ↦ refl | _ ↦ refl ]
piece_is flags (Jump k) = or-false _ ∙ or-false _ ∙ jump_forgets flags (pos 0)
piece_is flags (Go l) = or-false _ ∙ or-false _ ∙ jump_forgets flags (pos 0)
piece_is flags (piece.Jalr link rs offset) = or-false _ ∙ either (λ form. forgets (chosen form (decoded (Base base.Jalr) link rs 0 offset)) ≡ true) _ (Some (compressed (Base base.Jalr) link rs 0 (pos 0))) None refl refl
piece_is flags p = refl

pub slots_forget : (flags : IsaFlags) (ps : List Piece) → list_any slot_forgets (slots_of flags ps) ≡ pieces_forget (not flags.has_zca) ps
slots_forget flags [] = refl
slots_forget flags (p ∷ ps) = list_any-append slot_forgets (slots_for flags p) (slots_of flags ps) ∙ (λ i. piece_is flags p i || slots_forget flags ps i)

-- two lists, of which the second has one that is such, or none
pub last_any : {A : Type 0} (test : A → Bool) (xs ys : List A) → list_any test ys ≡ true → list_any test (xs ++ ys) ≡ true
last_any test xs ys e = list_any-append test xs ys ∙ ap (λ c. list_any test xs || c) e ∙ or_true (list_any test xs)

pub before_none : (wide : Bool) (ps qs : List Piece) (c : Bool) → pieces_forget wide ps ≡ c → pieces_forget wide qs ≡ false → pieces_forget wide (ps ++ qs) ≡ c
before_none wide ps qs c e none = list_any-append (piece_forgets wide) ps qs ∙ (λ i. e i || none i) ∙ or-false c
