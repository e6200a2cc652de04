-- Plain instructions: those of no operation or of one, jumps and branches, traps, and the addresses of symbols.
use Rattle.std.proofs.Common.{None}
use Rattle.rv_ops.specs.Operations.{is_carry_line, is_carry_unary}
use Rattle.{rv_base.specs.declared.condcodes.IntCC.TheVariants.{SignedGreaterThanOrEqual, SignedLessThanOrEqual, UnsignedGreaterThanOrEqual, UnsignedLessThanOrEqual}, rv_code.{proofs.Evaluation.{distant_fits, literal_fits}, proofs.OperationActs.{branch_acts, low64_small, rrr_fits}}}
use Rattle.rv_code.{proofs.Reaching.Reaches, proofs.Steps.aims_at, specs.Evaluation.{distant_value, literal_value}, specs.InstParts.branch_to, specs.InstRuns.environment, specs.Pieces.{Rrr, AreInRange, Constant, Distant, Literal, OfSymbol, Take}, specs.Slots.{SlotOf, Target}}
use Rattle.{rv_code.specs.Traps.trap_if_pieces, rv_encode.specs.Operations.decoded_branch, rv_imms.{specs.declared.imm12.Imm12.Imm12, specs.declared.imm20.Imm20.Imm20}, rv_inst.{specs.Faults.is_out_of_range, specs.Forms.jump_kind, specs.LabelUse.has_veneer_of, specs.Meaning.{Trap, target_exit}}}
use Rattle.{rv_inst.{specs.Rules.is_fallthrough, specs.declared.inst.CondBrTarget.CondBrTarget, specs.declared.inst.CondBrTarget.TheVariants.{Fallthrough, Label as ToLabel}, specs.declared.label_use.LabelUse.TheVariants.B12}, rv_ops.specs.declared.alu.AluOPRRR.AluOPRRR}
use Rattle.rv_runs.proofs.Exits.{RunsHere, SlotsOut, comes_out, goes_out, label_out, pieces_out, pieces_trap, same_but, starts_at, starts_beside, writes_beside}
use Rattle.rv_runs.proofs.Words.{AVirtual, Addi, Environment, Memory, Piece, are_values_set, byte, next, same_set, AimsFrom, AluOPRRI, Arrives, Base, Bind, ComesOut, Decoded, Do, EmitVState, Enters, Exit, Goes, Int, IntCC, SameBut}
use Rattle.rv_runs.proofs.Words.{IntegerCompare, IrType, IsAt, IsBeside, IsIntRegister, IsUsable, IsaFlags, Label, Ld, Leave, MachLabel, Next, NotEqual, Op, Part, Real, Reg, Rri, Same, Site, Slot, StandsIn, State, To, TrapCode, Values, Writable, act}
use Rattle.rv_runs.proofs.Words.{alu_result_fits, alu_rri, alu_rrr, and_then, at, at_next, between, class_of, compares, complement_of, decoded, evaluate, goes_at_least, goes_none, holds, jalr_acts, jalr_sized, jump_acts, jump_to, least_steps, load_op, load_same, low64}
use Rattle.rv_runs.proofs.Words.{move_pieces, number_of, plus_none, point, reg, rri_op, set_own, set_reg, short_jalr, short_jump, signed_below, size_of, slots_alone, slots_of, step_at, window_some, wrap}
use Rattle.std.{proofs.Common.{Bool, List, Some, [], ap, arith, eqb-true, false, if◌then◌else◌, lit<, lit≤, nat_eq, nat_lt, not, pos, refl, subst, sym, true, ℕ, ◌*◌, ◌+◌, ◌/◌, ◌<◌, ◌^◌, ◌∙◌, ◌∷◌, ◌≡◌, ◌≤◌}, proofs.Math.Bool.not-not}
use Rattle.rv_machine.specs.declared.ops.BaseOp.TheVariants as base
use Rattle.rv_code.specs.Pieces as piece
use Rattle.rv_inst.specs.declared.inst.Inst.TheVariants.{AluRRImm12, AluRRR, Auipc, CondBr, Jalr, Lui, Mov, Ret}

-- The instructions of no operation, and those of one that writes a register.

-- ---- in general

-- nothing is done, and nothing stands there
pub nothing_out : {site : Site} {start after : ℕ} {parts : List Part} {s : State} {v : Values} → start ≡ after → Enters site start after parts s v → ComesOut site start after Next [] v s
nothing_out {site} {start} {after} {parts} {s} same e = comes_out s (goes_none site.context.flags s) (e.pc ∙ ap (λ n. wrap (site.base + n)) same) (starts_beside [] e)

-- one operation writes a register, where x0 drops what is written, and the machine goes to an address
pub writes_out : {site : Site} {start after : ℕ} {s : State} {v : Values} (exit : Exit) (d : Decoded) (pc n x : ℕ) → Enters site start after (slots_alone (Op d ∷ [])) s v → 0 < d.len → least_steps exit ≤ 1 → act d s ≡ Some (at pc (set_reg s.values n x)) → Arrives site start after exit (at pc (set_reg s.values n x)) → pc < 2 ^ 64 → n < 30 → x < 2 ^ 64 → ComesOut site start after exit [] (set_reg v n x) s
writes_out {s = s} exit d pc n x e some one acts arrives pc_fits usable fits =
    let t = at pc (set_reg s.values n x) in
    comes_out t (goes_at_least one (step_at d [] t (starts_at (Op d ∷ []) e) (omega arith) e.stands.1.0 acts)) arrives (writes_beside pc n x pc_fits (omega arith) fits e)

-- and goes on
pub next_out : {site : Site} {start after : ℕ} {s : State} {v : Values} (d : Decoded) (n x : ℕ) → Enters site start after (slots_alone (Op d ∷ [])) s v → 0 < d.len → act d s ≡ Some (at (wrap (s.pc + d.len)) (set_reg s.values n x)) → n < 30 → x < 2 ^ 64 →
    ComesOut site start after Next [] (set_reg v n x) s
next_out {site} {start} {after} {s} d n x e some acts usable fits = writes_out Next d (wrap (s.pc + d.len)) n x e some (lit≤ tt) acts (let pc = e.pc in let ends = e.stands.2 in omega arith) (omega arith) usable fits

-- one piece writes a register
piece_sets : {site : Site} {start after : ℕ} {s : State} {v : Values} (p : Piece) (rd x : ℕ) → rd < 30 → AreInRange (p ∷ []) → next (environment site start after) (p ∷ []) (p ∷ []) s.values [] ≡ Some (point [] (set_reg s.values rd x)) → x < 2 ^ 64 → SlotsOut site start after (slots_of site.context.flags (p ∷ [])) s v [] (set_reg v rd x)
piece_sets {site} {start} {after} {s} {v} p rd x usable range is fits e =
    pieces_out (p ∷ []) [] (set_reg v rd x) range e
    (record { count = 1; values = set_reg s.values rd x; ran = ap (λ o. and_then o (evaluate (environment site start after) 0 (p ∷ []))) is; such = same_but [] (same_set v s.values rd x e.are_values e.is_state.values (omega arith) e.same) })
    (λ all. are_values_set v rd x e.are_values (omega arith) fits)

-- ---- operations of registers and immediates

pub alu_rrr_runs : (site : Site) (setting : EmitVState) (start after : ℕ) (s : State) (v : Values) (op : AluOPRRR) (rd : Writable Reg) (rs1 rs2 : Reg) → is_carry_line op (number_of rs2) ≡ false → IsUsable rd.reg → IsUsable rs1 → IsUsable rs2 → RunsHere site setting (AluRRR op rd rs1 rs2) start after s v
alu_rrr_runs site setting start after s v op rd rs1 rs2 integer h h1 h2 e clear =
    let n = number_of rd.reg in let x = number_of rs1 in let y = number_of rs2 in
    piece_sets (Do (Rrr op n x y)) n (alu_rrr op (reg v x) (reg v y)) h.1 (omega (arith, h.1), tt) (λ i. if not (integer i) then Some (point [] (set_reg s.values n (alu_rrr op (sym (e.same.regs x h1.1) i) (sym (e.same.regs y h2.1) i)))) else None)
    (rrr_fits op (reg v x) (reg v y) (e.are_values.fits x) (e.are_values.fits y)) e

pub alu_rri_runs : (site : Site) (setting : EmitVState) (start after : ℕ) (s : State) (v : Values) (op : AluOPRRI) (rd : Writable Reg) (rs : Reg) (imm : Imm12) → is_carry_unary op ≡ false → IsUsable rd.reg → IsUsable rs → is_out_of_range (AluRRImm12 op rd rs imm) ≡ false →
    RunsHere site setting (AluRRImm12 op rd rs imm) start after s v
alu_rri_runs site setting start after s v op rd rs imm integer h h1 range e clear =
    let n = number_of rd.reg in let x = number_of rs in let small = low64_small imm.value imm.low imm.high in
    piece_sets (Do (Rri op n x imm.value)) n (alu_rri op (reg v x) imm.value) h.1 ((omega (arith, h.1), range, small), tt) (λ i. if not (integer i) then Some (point [] (set_reg s.values n (alu_rri op (sym (e.same.regs x h1.1) i) imm.value))) else None)
    (alu_result_fits (rri_op op) (reg v x) 0 (low64 imm.value) (e.are_values.fits x) (lit< tt) small) e

-- ---- upper immediates, moves, and what is dropped

pub lui_runs : (site : Site) (setting : EmitVState) (start after : ℕ) (s : State) (v : Values) (rd : Writable Reg) (imm : Imm20) → IsUsable rd.reg → RunsHere site setting (Lui rd imm) start after s v
lui_runs site setting start after s v rd imm h e clear = piece_sets (Do (piece.Lui (number_of rd.reg) imm.value)) (number_of rd.reg) (wrap (low64 imm.value * 2 ^ 12)) h.1 (omega (arith, h.1), tt) refl (omega arith) e

pub auipc_runs : (site : Site) (setting : EmitVState) (start after : ℕ) (s : State) (v : Values) (rd : Writable Reg) (imm : Imm20) → IsUsable rd.reg → RunsHere site setting (Auipc rd imm) start after s v
auipc_runs site setting start after s v rd imm h e clear =
    let n = number_of rd.reg in
    next_out (decoded (Base base.Auipc) n 0 0 imm.value) n (wrap (wrap (site.base + start) + low64 imm.value * 2 ^ 12)) e (lit< tt)
    (λ i. Some (at (wrap (s.pc + 4)) (set_reg s.values n (wrap (e.pc i + low64 imm.value * 2 ^ 12)))))
    h.1 (omega arith)

pub int_class : (r : Reg) → IsIntRegister r → class_of r ≡ Int
int_class (Real p) h = h
int_class (AVirtual class index) h = absurd h

-- a move, by whether it is one to itself
pub move_out : {site : Site} {start after : ℕ} {s : State} {v : Values} (own : Bool) (rd rs : ℕ) → nat_eq rd rs ≡ own → rd < 30 → rs < 30 → SlotsOut site start after (slots_of site.context.flags (if own then [] else Do (Rri Addi rd rs (pos 0)) ∷ [])) s v [] (set_reg v rd (reg v rs))
move_out {site} {start} {after} {s} {v} true rd rs test h h1 e = subst (λ (w : Values). ComesOut site start after Next [] w s) (sym (ap (λ n. set_reg v rd (reg v n)) (sym (eqb-true rd rs test)) ∙ set_own v rd)) (nothing_out (let ends = e.stands.2 in omega arith) e)
move_out {site} {start} {after} {s} {v} false rd rs test h h1 e =
    piece_sets (Do (Rri Addi rd rs (pos 0))) rd (reg v rs) h ((omega arith, refl, lit< tt), tt) (λ i. Some (point [] (set_reg s.values rd ((plus_none (reg s.values rs) (e.is_state.values.fits rs) ∙ sym (e.same.regs rs h1)) i)))) (e.are_values.fits rs) e

pub mov_runs : (site : Site) (setting : EmitVState) (start after : ℕ) (s : State) (v : Values) (rd : Writable Reg) (rm : Reg) (type : IrType) → IsUsable rd.reg → IsUsable rm → RunsHere site setting (Mov rd rm type) start after s v
mov_runs site setting start after s v rd rm type h h1 e clear =
    let n = number_of rd.reg in let x = number_of rm in
    move_out (nat_eq n x) n x refl h.1 h1.1 (subst (λ c. Enters site start after (slots_alone (slots_of site.context.flags (move_pieces c type n x))) s v) (int_class rd.reg h.0) e)

-- ---- jumps to a register

pub ret_runs : (site : Site) (setting : EmitVState) (start after : ℕ) (s : State) (v : Values) → RunsHere site setting Ret start after s v
ret_runs site setting start after s v e clear =
    writes_out (Leave (reg v 1 / 2 * 2)) (short_jalr site.context.flags 0 1 (pos 0)) (wrap (reg s.values 1 + 0) / 2 * 2) 0 0 e (jalr_sized site.context.flags 0 1 (pos 0)).some (lit≤ tt) (jalr_acts site.context.flags 0 1 (pos 0) s e.is_state) (omega arith) (omega arith) (lit< tt) (lit< tt)

-- it links, and reads the register before
pub jalr_runs : (site : Site) (setting : EmitVState) (start after : ℕ) (s : State) (v : Values) (rd : Writable Reg) (base : Reg) (offset : Imm12) → IsUsable rd.reg → IsUsable base → RunsHere site setting (Jalr rd base offset) start after s v
jalr_runs site setting start after s v rd base offset h h1 e clear =
    let n = number_of rd.reg in let x = number_of base in
    let d = short_jalr site.context.flags n x offset.value in
    let next : wrap (s.pc + d.len) ≡ wrap (site.base + after) = (let pc = e.pc in let ends = e.stands.2 in omega arith) in
    let target = wrap (reg s.values x + low64 offset.value) / 2 * 2 in
    writes_out (Leave (wrap (reg v x + low64 offset.value) / 2 * 2)) d target n (wrap (site.base + after)) e (jalr_sized site.context.flags n x offset.value).some (lit≤ tt)
    (jalr_acts site.context.flags n x offset.value s e.is_state ∙ (λ i. Some (at target (set_reg s.values n (next i)))))
    (λ i. wrap (sym (e.same.regs x h1.1) i + low64 offset.value) / 2 * 2)
    (omega arith) h.1 (omega arith)

-- The instructions that lead to a label.

-- ---- jumps

-- the machine elsewhere, with the same values
pub moved_beside : {site : Site} {free : List ℕ} {v : Values} {s : State} (pc : ℕ) → pc < 2 ^ 64 → IsBeside site free v s → IsBeside site free v (at pc s.values)
moved_beside pc fits b = record { same = b.same; is_state = record { pc = fits; values = b.is_state.values }; are_values = b.are_values; placed = b.placed }

-- a jump leads to its label, from wherever in an instruction's code it stands
pub jump_out : {site : Site} {start after offset size allocated : ℕ} {free : List ℕ} {v : Values} {s : State} (label : MachLabel) → IsAt site offset size s → 0 < size → AimsFrom site allocated offset (jump_kind site.context.flags) (Label label) (λ d. short_jump site.context.flags d ∷ []) → IsBeside site free v s → ComesOut site start after (To label.number) free v s
jump_out {site} {offset = offset} {s = s} label h some a b =
    let d = between offset a.to in
    let pc = wrap (s.pc + low64 d) in
    let t = at pc s.values in
    label_out (has_veneer_of (jump_kind site.context.flags)) label a.to t a.reaches (step_at (short_jump site.context.flags d) [] t h some a.has (jump_acts site.context.flags d s)) (aims_at a.to h some) (moved_beside pc (omega arith) b)

-- ---- branches

pub compares_same : (kind : IntegerCompare) (v w : Values) → IsUsable kind.rs1 → IsUsable kind.rs2 → Same v w → compares kind v ≡ compares kind w
compares_same kind v w h1 h2 same = λ i. holds kind.kind (same.regs (number_of kind.rs1) h1.1 i) (same.regs (number_of kind.rs2) h2.1 i)

-- a branch by a distance, by whether its comparison holds
pub branch_goes : {site : Site} {offset size allocated : ℕ} {s : State} (target : Target) (kind : IntegerCompare) (c : Bool) → compares kind s.values ≡ c → IsAt site offset size s → 0 < size → (a : AimsFrom site allocated offset B12 target (λ d. decoded_branch kind d ∷ [])) → Goes site.context.flags 1 s (at (if c then wrap (s.pc + low64 (between offset a.to)) else wrap (s.pc + 4)) s.values)
branch_goes {offset = offset} {s = s} target kind c test h some a =
    let d = between offset a.to in
    step_at (decoded_branch kind d) [] (at (if c then wrap (s.pc + low64 d) else wrap (s.pc + 4)) s.values) h some a.has
    (branch_acts kind d s ∙ (λ i. Some (at (if test i then wrap (s.pc + low64 d) else wrap (s.pc + 4)) s.values)))

-- what stands after a branch
abbrev otherwise : IsaFlags → CondBrTarget → List Slot
otherwise flags (ToLabel f) = jump_to flags (Label f) ∷ []
otherwise flags Fallthrough = []

otherwise_out : {site : Site} {start after offset : ℕ} {v : Values} {s : State} (allocated : ℕ) (f : CondBrTarget) → IsAt site offset (size_of (otherwise site.context.flags f)) s → StandsIn site allocated offset (otherwise site.context.flags f) → offset + size_of (otherwise site.context.flags f) ≡ after → IsBeside site [] v s → ComesOut site start after (target_exit f) [] v s
otherwise_out {site} allocated (ToLabel f) h stands ends b = jump_out f h (let some = window_some site.context.flags in omega arith) stands.0 b
otherwise_out {site} {s = s} allocated Fallthrough h stands ends b = comes_out s (goes_none site.context.flags s) (let pc = h.pc in omega arith) b

branch_out : {site : Site} {start after : ℕ} {s : State} {v : Values} (kind : IntegerCompare) (t : MachLabel) (f : CondBrTarget) (c : Bool) → compares kind v ≡ c → IsUsable kind.rs1 → IsUsable kind.rs2 → Enters site start after (slots_alone (branch_to kind (Label t) ∷ otherwise site.context.flags f)) s v → ComesOut site start after (if c then To t.number else target_exit f) [] v s
branch_out {site} {start} {after} {s} {v} kind t f true test h1 h2 e =
    let h = starts_at (branch_to kind (Label t) ∷ otherwise site.context.flags f) e in
    let a = e.stands.1.0 in
    let pc = wrap (s.pc + low64 (between start a.to)) in
    label_out true t a.to (at pc s.values) a.reaches (branch_goes (Label t) kind true (sym (compares_same kind v s.values h1 h2 e.same) ∙ test) h (omega arith) a) (aims_at a.to h (omega arith)) (moved_beside pc (omega arith) (starts_beside [] e))
branch_out {site} {start} {after} {s} {v} kind t f false test h1 h2 e =
    let h = starts_at (branch_to kind (Label t) ∷ otherwise site.context.flags f) e in
    let pc = wrap (s.pc + 4) in
    goes_out (branch_goes (Label t) kind false (sym (compares_same kind v s.values h1 h2 e.same) ∙ test) h (omega arith) e.stands.1.0)
    (otherwise_out e.stands.0 f (at_next 4 (at pc s.values) h refl refl e.placed) e.stands.1.1 (let ends = e.stands.2 in omega arith) (moved_beside pc (omega arith) (starts_beside [] e)))

-- a branch whose taken side is a label
pub cond_br_runs : (site : Site) (setting : EmitVState) (start after : ℕ) (s : State) (v : Values) (kind : IntegerCompare) (t f : CondBrTarget) → IsUsable kind.rs1 → IsUsable kind.rs2 → is_fallthrough t ≡ false → RunsHere site setting (CondBr t f kind) start after s v
cond_br_runs site setting start after s v kind Fallthrough f h1 h2 aimed e clear = absurd (cc)
cond_br_runs site setting start after s v kind (ToLabel t) Fallthrough h1 h2 aimed e clear = branch_out kind t Fallthrough (compares kind v) refl h1 h2 e
cond_br_runs site setting start after s v kind (ToLabel t) (ToLabel f) h1 h2 aimed e clear = branch_out kind t (ToLabel f) (compares kind v) refl h1 h2 e

-- The instructions that trap, and data, which is never entered.

-- ---- a trap where a comparison holds

pub complement_holds : (k : IntCC) (x y : ℕ) → holds (complement_of k) x y ≡ not (holds k x y)
complement_holds NotEqual x y = sym (not-not (nat_eq x y))
complement_holds SignedGreaterThanOrEqual x y = sym (not-not (signed_below x y))
complement_holds SignedLessThanOrEqual x y = sym (not-not (signed_below y x))
complement_holds UnsignedGreaterThanOrEqual x y = sym (not-not (nat_lt x y))
complement_holds UnsignedLessThanOrEqual x y = sym (not-not (nat_lt y x))
complement_holds k x y = refl

-- the branch goes over the trap where the comparison doesn't hold
trap_if_reaches : {env : Environment} {v w : Values} (cmp : IntegerCompare) (code : TrapCode) (c : Bool) → compares cmp v ≡ c → IsUsable cmp.rs1 → IsUsable cmp.rs2 → Same v w → Reaches env (trap_if_pieces cmp code) (point (trap_if_pieces cmp code) w) (if c then piece.Trap code ∷ Bind 0 ∷ [] else []) (SameBut [] v)
trap_if_reaches {env} {v} {w} cmp code c test h1 h2 same =
    let skips = complement_holds cmp.kind (reg w (number_of cmp.rs1)) (reg w (number_of cmp.rs2)) ∙ ap not (sym (compares_same cmp v w h1 h2 same) ∙ test) in
    let goes = λ (b : Bool). and_then (if b then Some (point [] w) else Some (point (piece.Trap code ∷ Bind 0 ∷ []) w)) (evaluate env 0 (trap_if_pieces cmp code)) in
    record { count = 2; values = w; ran = ap goes skips ∙ elim c as (λ c. goes (not c) ≡ Some (point (if c then piece.Trap code ∷ Bind 0 ∷ [] else []) w)) [ true ↦ refl | false ↦ refl ]; such = same_but [] same }

pub trap_if_out : {site : Site} {start after : ℕ} {s : State} {v : Values} (cmp : IntegerCompare) (code : TrapCode) (c : Bool) → compares cmp v ≡ c → IsUsable cmp.rs1 → IsUsable cmp.rs2 → Enters site start after (slots_alone (slots_of site.context.flags (trap_if_pieces cmp code))) s v →
    ComesOut site start after (if c then Trap code else Next) [] v s
trap_if_out {v = v} cmp code true test h1 h2 e = pieces_trap (trap_if_pieces cmp code) (Bind 0 ∷ []) code [] v tt e (trap_if_reaches cmp code true test h1 h2 e.same) (λ fits. e.are_values)
trap_if_out {v = v} cmp code false test h1 h2 e = pieces_out (trap_if_pieces cmp code) [] v tt e (trap_if_reaches cmp code false test h1 h2 e.same) (λ fits. e.are_values)

-- Registers that get what stands among the code, or what is distant.

pub literal_out : {site : Site} {start after : ℕ} {s : State} {v : Values} (rd : ℕ) (l : Literal) → rd < 30 → 0 < rd → SlotsOut site start after (slots_of site.context.flags (Constant rd l ∷ [])) s v [] (set_reg v rd (literal_value (environment site start after) l))
literal_out {site} {start} {after} rd l usable some = piece_sets (Constant rd l) rd (literal_value (environment site start after) l) usable ((some, omega arith), tt) refl (literal_fits (environment site start after) l)

pub distant_out : {site : Site} {start after : ℕ} {s : State} {v : Values} (rd : ℕ) (to : Distant) → rd < 30 → 0 < rd → SlotsOut site start after (slots_of site.context.flags (Take rd to ∷ [])) s v [] (set_reg v rd (distant_value (environment site start after) to v.mem))
distant_out {site} {start} {after} {s} {v} rd to usable some e =
    let env = environment site start after in
    subst (λ x. ComesOut site start after Next [] (set_reg v rd x) s) (sym (distant_same env to v.mem s.values.mem e.same.mem))
    (piece_sets (Take rd to) rd (distant_value env to s.values.mem) usable ((some, omega arith), tt) refl (distant_fits site start after to s e.is_state) e)
  where
    distant_same : (env : Environment) (to : Distant) (m w : Memory) → ((a : ℕ) → byte m a ≡ byte w a) → distant_value env to m ≡ distant_value env to w
    distant_same env (OfSymbol (SlotOf name)) m w same = load_same (load_op Ld) m w (env.slot name.number) same
    distant_same env to m w same = refl
