-- What the machine with all units does at an operation of a unit, and which instructions are one.
use Rattle.{rv_full.proofs.RowsKeep.carry_fits, rv_full.specs.Carry.{carry_result, carry_row}, rv_full.specs.Rows.y_of, rv_machine.specs.declared.ops.CarryOp.CarryOp}
use Rattle.{rv_code.{specs.InstParts.unit_parts, specs.UnitWrites.unit_writes, specs.UnitRuns.{Agree, IsUsableCsr, IsUsableShape, IsUsableSource, IsUsableTarget}}, rv_encode.specs.Operations.{decoded_atomic, decoded_fpu_rrr, decoded_fpu_rrrr, decoded_csr_imm, decoded_csr_reg}, rv_full.specs.Atomics.{csr_result, csr_row}}
use Rattle.rv_full.{specs.Floats.{float_shape, is_move, put_number, shape_row}, specs.Rows.{Absent, OneNumber, Takes, bits_of, entry_of, fits, noted, x_of}, specs.Steps.{Asks, Goes, Halts, fiter, fnext, next_by, stepped, unit_on}, specs.Units.set_frm, specs.declared.answer.Answer.TheVariants.Bits}
use Rattle.{rv_full.{specs.declared.shapes.FloatShape.FloatShape, specs.declared.shapes.FloatShape.TheVariants.{Answered, ToFloat, ToInteger}, specs.declared.shapes.Sources.Sources, specs.declared.shapes.Target.Target}, rv_inst.specs.Descriptions.{UnitWord, unit_word}}
use Rattle.{rv_inst.{specs.declared.inst.Inst.TheVariants.{Atomic, CsrImm, CsrReg, Fli, FpuRR, FpuRRR, FpuRRRR, Nop0}, specs.declared.units.PlacedReg.PlacedReg}, rv_machine.{proofs.UnitOperations.same_step, specs.Steps.step_on, specs.declared.ops.CsrOp.CsrOp}}
use Rattle.{rv_machine.{specs.declared.ops.CsrOp.TheVariants.{Csrrc, Csrrci, Csrrs, Csrrsi, Csrrw, Csrrwi}, specs.declared.ops.FloatOp.TheVariants.{Fli as FloatFli}}, rv_ops.{specs.Atomic.{atomic_op, atomic_width}, specs.Csr.{csr_imm_op, csr_reg_op}, specs.Fpu.{fpu_rr_files, fpu_rr_op, fpu_rrr_op, fpu_rrr_result, fpu_rrrr_op}}}
use Rattle.rv_ops.{specs.declared.csr.CsrImmOP.TheVariants.CsrRWI, specs.declared.csr.CsrRegOP.TheVariants.CsrRW, specs.declared.fpu.FpuOPRRR.TheVariants.Fsgnj, specs.declared.fpu.FpuOPRRRR.TheVariants.Fmadd, specs.declared.fpu_rr.FpuOPRR.FpuOPRR}
use Rattle.rv_ops.specs.declared.fpu_rr.FpuOPRR.TheVariants.{FcvtFmtL, FcvtFmtLu, FcvtFmtW, FcvtFmtWu, FmvFmtX, FmvXFmt}
use Rattle.rv_runs.proofs.Words.{AllByRecursion, Answer, AnswerFits, AreUnits, AreUsableIn, AreValues, CodeHas, Context, D, Decoded, Does, EmitVState, FloatFormat, FullState, FullValues, H, Inst, IsAt, IsUsableIn, IsaFlags, Row, RowAsks, RowGoes, RowsAgree, S, SameFull, Sign, Site, State, Units, act}
use Rattle.rv_runs.proofs.Words.{are_values_set, boxed, cast_signed, decodes_at, extended, fiter_after, fiter_none, format_of, freg, full_at, inputs_of, ints, low64, low_part, number_of, number_row, or_lt, parts_of, put_f, put_units, row_next, same_set, set_freg, unit_row, values_of, wrap}
use Rattle.std.{proofs.Common.{Bool, FitsSigned, List, None, Option, Some, T, [], ap, arith, false, if◌then◌else◌, inl, inr, leb, lt_of_le_of_lt, nat_eq, refl, rules, subst, sym, true, unwrap_or, w16, w32, w64, ℕ, ◌%◌, ◌+◌, ◌-◌, ◌<◌, ◌^◌, ◌∙◌, ◌∷◌, ◌≡◌, ◌⊎◌}, proofs.Math.Facts.{Fits-lt-pow, Fits-of_z, sfits_widen}}
use Rattle.std.{proofs.Math.ListN.length-set, proofs.Math.Seq.get_or-set_other, proofs.lemmas.Bool.cases_eq, proofs.lemmas.Grind.get_or-set_at, proofs.lemmas.Nat.and_le_l}
use mir.{Syntax.Width, Val.hbits}
use Rattle.rv_full.specs.declared.shapes.Sources.TheVariants as sources
use Rattle.rv_full.specs.declared.shapes.Target.TheVariants as target
use Rattle.rv_runs.proofs.AtomicRows.{atomic_agrees}

-- At a unit's operation the machine with all units does its row; and float operations, and those on frm, do the same with values that
-- are the same. That is proved by what an operation reads and writes, and not for each.

-- ---- a step

pub unit_next_at : {site : Site} {offset size : ℕ} (b : FullState) (d : Decoded) (ds : List Decoded) → act d b.state ≡ None → IsAt site offset size b.state → 0 < size → CodeHas site offset (d ∷ ds) → fnext site.context.flags b ≡ row_next (wrap (b.state.pc + d.len)) (unit_row d (values_of b)) b.answers
unfolding fnext
unit_next_at {site} {offset} {size} b d ds unit h some has =
    let even_pc : b.state.pc % 2 ≡ 0 = omega arith in
    let there = decodes_at d ds h some has in
    ap (λ o. next_by site.context.flags o b) (same_step site.context.flags b.state ∙ (λ i. if nat_eq (even_pc i) 0 then step_on (there i) b.state else None) ∙ unit) ∙ (λ i. if nat_eq (even_pc i) 0 then unit_on (there i) b else Halts)

-- one step of the machine with all units
pub fiter_one : (flags : IsaFlags) (b c : FullState) → fnext flags b ≡ Goes c → fiter flags 1 b ≡ Some c
unfolding fiter
fiter_one flags b c next = ap stepped next

-- in some steps it comes where such things hold, takes no answer, and leaves the setting
pub record FullSteps (site : Site) (There : FullState → Type 0) (b : FullState) : Type 0 where
  pub steps : ℕ
  pub state : FullState
  pub ran : fiter site.context.flags steps b ≡ Some state
  pub there : There state
  pub answers : b.answers ≡ state.answers
  pub setting : state.units.setting ≡ b.units.setting

pub no_steps : {site : Site} {There : FullState → Type 0} {b : FullState} → There b → FullSteps site There b
no_steps {site} {b = b} h = record { steps = 0; state = b; ran = fiter_none site.context.flags b; there = h; answers = refl; setting = refl }

pub more_steps : {site : Site} {There There' : FullState → Type 0} {b : FullState} → FullSteps site There b → ((c : FullState) → There c → FullSteps site There' c) → FullSteps site There' b
more_steps {site} {b = b} x on =
    let y = on x.state x.there in
    record { steps = y.steps + x.steps; state = y.state; ran = fiter_after site.context.flags y.steps x.steps b x.state x.ran ∙ y.ran; there = y.there; answers = x.answers ∙ y.answers; setting = y.setting ∙ x.setting }

-- ---- what comes of a row

pub row_comes : (writes : List Answer → List ℕ) (pc : ℕ) (w : FullValues) (x y : Row) (answers : List Answer) → RowsAgree writes w x y → AllByRecursion AnswerFits answers → RowGoes writes pc w x y answers ⊎ RowAsks pc x y answers
row_comes writes pc w (Does x) (Does y) answers r fit = inl (record { took = []; left = answers; made = x; after = y; parted = refl; takes = refl; next = refl; agree = r; fit = fit })
row_comes writes pc w (Takes k f) (Takes l g) [] r fit = inr (record { kind = k; gives = f; takes = refl; lacks = refl; asks = refl })
row_comes writes pc w (Takes k f) (Takes l g) (a ∷ more) r fit =
    let next : (c : Bool) → fits k a ≡ c → row_next pc (Takes l g) (a ∷ more) ≡ (if c then Goes (full_at pc (g a) more) else Asks) = λ c e. (λ i. if fits (sym r.0 i) a then Goes (full_at pc (g a) more) else Asks) ∙ ap (λ t. if t then Goes (full_at pc (g a) more) else Asks) e in
    (elim (fits k a) as (λ c. fits k a ≡ c → RowGoes writes pc w (Takes k f) (Takes l g) (a ∷ more) ⊎ RowAsks pc (Takes k f) (Takes l g) (a ∷ more)) [
      | true ↦ λ e. inl (record { took = a ∷ []; left = more; made = f a; after = g a; parted = refl; takes = ap (λ t. if t then Some (f a, []) else None) e; next = next true e; agree = r.1 a e fit.0; fit = fit.1 })
      | false ↦ λ e. inr (record { kind = k; gives = f; takes = refl; lacks = ap (λ t. if t then Some (f a, more) else None) e; asks = next false e })
    ]) refl
row_comes writes pc w Absent Absent answers r fit = absurd r
row_comes writes pc w x y answers r fit = absurd r

-- ---- registers

pub float_set : (u : Units) (n x : ℕ) → AreUnits u → n < 32 → x < 2 ^ 64 → AreUnits (set_freg u n x)
float_set u n x h lt small = record { float_count = length-set u.floats n x ∙ h.float_count; float_fits = λ m. let old = h.float_fits m in let count = h.float_count in grind (arith, get_or-set_at u.floats n m x 0, get_or-set_other u.floats n m x 0, cases_eq m n); vector_count = h.vector_count; vector_fits = h.vector_fits; frm_fits = h.frm_fits; reserved_fits = h.reserved_fits; avl_fits = h.avl_fits; vtype_fits = h.vtype_fits }

-- bits that are moved between the two files
pub extended_fits : (width : Width) (n : ℕ) → T (leb (hbits width) (hbits w64)) → low64 (cast_signed width n) < 2 ^ 64
extended_fits width n narrow = Fits-lt-pow {w = w64} (Fits-of_z (sfits_widen narrow (let e : FitsSigned width (cast_signed width n) = omega (arith, ints) in e)))

pub extended_small : (format : FloatFormat) (n : ℕ) → n < 2 ^ 64 → extended format n < 2 ^ 64
extended_small H n lt = extended_fits w16 (n % 2 ^ 16) tt
extended_small S n lt = extended_fits w32 (n % 2 ^ 32) tt
extended_small D n lt = lt

-- what goes to frm has three bits
csr_small : (op : CsrOp) (old x imm : ℕ) → old < 8 → csr_result op old x imm < 8
csr_small Csrrw old x imm lt = omega arith
csr_small Csrrs old x imm lt = or_lt 3 old (x % 8) lt (omega arith)
csr_small Csrrc old x imm lt = lt_of_le_of_lt (and_le_l old (7 - x % 8)) lt
csr_small Csrrwi old x imm lt = omega arith
csr_small Csrrsi old x imm lt = or_lt 3 old (imm % 8) lt (omega arith)
csr_small Csrrci old x imm lt = lt_of_le_of_lt (and_le_l old (7 - imm % 8)) lt

-- ---- rows of float operations, and of those on frm, which write no memory

abbrev none_written : List Answer → List ℕ
none_written answers = []

module _ (d : Decoded) (v w : FullValues) (same : SameFull v w) (are_values : AreValues v.ints) (is_values : AreValues w.ints) (are_units : AreUnits w.units) where
  inputs_same : (from : Sources) → IsUsableSource from d → inputs_of from d v ≡ inputs_of from d w
  inputs_same sources.Constant low = refl
  inputs_same sources.Integer low = ap (λ x. x ∷ []) (same.ints.regs d.rs1 low)
  inputs_same sources.One low = ap (λ u. freg u d.rs1 ∷ []) same.units
  inputs_same sources.Two low = ap (λ u. freg u d.rs1 ∷ freg u d.rs2 ∷ []) same.units
  inputs_same sources.Three low = ap (λ u. freg u d.rs1 ∷ freg u d.rs2 ∷ freg u d.rs3 ∷ []) same.units

  -- a number is put into rd, beside units that are equal
  put_agree : (to : Target) (x y : ℕ) (t u : Units) → IsUsableTarget to d → x ≡ y → y < 2 ^ 64 → t ≡ u → AreUnits u → u.setting ≡ w.units.setting → Agree [] w (put_number to d x (put_units t v)) (put_number to d y (put_units u w))
  put_agree target.Integer x y t u low is small equal h setting = subst (λ z. Agree [] w (put_number target.Integer d z (put_units t v)) (put_number target.Integer d y (put_units u w))) (sym is) (search (rules, arith, same_set, are_values_set, same, h, equal, setting))
  put_agree target.Float x y t u low is small equal h setting = let put : set_freg t d.rd x ≡ set_freg u d.rd y = λ i. set_freg (equal i) d.rd (is i) in search (rules, same, put, setting, float_set)

  -- one answer is taken, noted with what it may depend on, and put
  pub number_agrees : (to : Target) (from : Sources) → IsUsableSource from d → IsUsableTarget to d → RowsAgree none_written w (number_row to (inputs_of from d v) d v) (number_row to (inputs_of from d w) d w)
  number_agrees to from source low = (
    refl,
    λ a fit answer.
        put_agree to (unwrap_or (bits_of a) 0) (unwrap_or (bits_of a) 0) (noted (entry_of d v.units (inputs_of from d v) [] a) v.units) (noted (entry_of d w.units (inputs_of from d w) [] a) w.units) low refl ((elim a as (λ a. fits OneNumber a ≡ true → AnswerFits a → unwrap_or (bits_of a) 0 < 2 ^ 64) [ Bits x ↦ λ fit small. small | _ ↦ λ fit small. absurd (cc) ]) fit answer)
        (λ i. noted (entry_of d (same.units i) (inputs_same from source i) [] a) (same.units i))
        (search (rules, are_units)) refl,
  )

  -- frm gets the same of what is the same, and its old value goes to an integer register
  frm_agrees : (op : CsrOp) → d.rd < 30 → csr_result op v.units.frm (x_of d v) d.rs1 ≡ csr_result op w.units.frm (x_of d w) d.rs1 → RowsAgree none_written w (csr_row op d v) (csr_row op d w)
  frm_agrees op low equal = put_agree target.Integer v.units.frm w.units.frm (set_frm v.units (csr_result op v.units.frm (x_of d v) d.rs1)) (set_frm w.units (csr_result op w.units.frm (x_of d w) d.rs1)) low (ap (λ u. u.frm) same.units) (let f = are_units.frm_fits in omega arith)
      (λ i. set_frm (same.units i) (equal i)) (search (rules, are_units, csr_small)) refl

  pub csr_agrees : (op : CsrOp) → IsUsableCsr op d → RowsAgree none_written w (csr_row op d v) (csr_row op d w)
  csr_agrees Csrrw usable = frm_agrees Csrrw usable.0 (λ i. csr_result Csrrw (same.units i).frm (same.ints.regs d.rs1 usable.1 i) d.rs1)
  csr_agrees Csrrs usable = frm_agrees Csrrs usable.0 (λ i. csr_result Csrrs (same.units i).frm (same.ints.regs d.rs1 usable.1 i) d.rs1)
  csr_agrees Csrrc usable = frm_agrees Csrrc usable.0 (λ i. csr_result Csrrc (same.units i).frm (same.ints.regs d.rs1 usable.1 i) d.rs1)
  csr_agrees op usable = frm_agrees op usable.0 (λ i. csr_result op (same.units i).frm 0 d.rs1)

  -- an operation of Zbc or Zbkb computes the same of the same registers
  pub carry_agrees : (op : CarryOp) → d.rd < 30 → d.rs1 < 30 → d.rs2 < 30 → RowsAgree none_written w (carry_row op d v) (carry_row op d w)
  carry_agrees op low first second =
      put_agree target.Integer (carry_result op (x_of d v) (y_of d v)) (carry_result op (x_of d w) (y_of d w)) v.units w.units low (λ i. carry_result op (same.ints.regs d.rs1 first i) (same.ints.regs d.rs2 second i))
      (carry_fits op (x_of d w) (y_of d w) (is_values.fits d.rs1) (is_values.fits d.rs2)) same.units are_units refl

  pub shape_agrees : (shape : FloatShape) (format : FloatFormat) → IsUsableShape shape d → RowsAgree none_written w (shape_row shape format d v) (shape_row shape format d w)
  shape_agrees (Answered from to) format usable = number_agrees to from usable.0 usable.1
  shape_agrees ToInteger format usable = put_agree target.Integer _ (extended format (freg w.units d.rs1)) v.units w.units usable (ap (λ u. extended format (freg u d.rs1)) same.units) (extended_small format (freg w.units d.rs1) (are_units.float_fits d.rs1)) same.units are_units refl
  shape_agrees ToFloat format usable = put_agree target.Float _ (boxed format (low_part format (x_of d w))) v.units w.units usable.1 (λ i. boxed format (low_part format (same.ints.regs d.rs1 usable.0 i)))
      (let fits = is_values.fits d.rs1 in elim format as (λ x. boxed x (low_part x (x_of d w)) < 2 ^ 64) [ D ↦ fits | _ ↦ omega arith ]) same.units are_units refl
  -- a sign's operation is a copy where both sources are one register
  shape_agrees Sign format usable =
      elim (is_move format d) as (λ c. RowsAgree none_written w (if c then Does (put_f d (freg v.units d.rs1) v) else number_row target.Float (inputs_of sources.Two d v) d v) (if c then Does (put_f d (freg w.units d.rs1) w) else number_row target.Float (inputs_of sources.Two d w) d w)) [
        | true ↦ put_agree target.Float (freg v.units d.rs1) (freg w.units d.rs1) v.units w.units usable (ap (λ u. freg u d.rs1) same.units) (are_units.float_fits d.rs1) same.units are_units refl
        | false ↦ number_agrees target.Float sources.Two tt usable
      ]

-- Each kind of instruction that is a word of a unit: its operation is none of integers, and does the same with values that are the same,
-- by its shape; and what such an instruction becomes.

-- An operation of a unit, of these registers, has four bytes and no step on integers; where they are usable its row does the same with
-- values that are the same.
pub record IsUnitOperation (places : List PlacedReg) (d : Decoded) : Type 0 where
  pub long : d.len ≡ 4
  pub none : (s : State) → act d s ≡ None
  pub agrees : (v w : FullValues) → SameFull v w → AreValues v.ints → AreValues w.ints → AreUnits w.units → AreUsableIn places → RowsAgree (unit_writes d v) w (unit_row d v) (unit_row d w)

rr_usable : (op : FpuOPRR) (d : Decoded) → IsUsableIn (fpu_rr_files op).result d.rd → IsUsableIn (fpu_rr_files op).source d.rs1 → IsUsableShape (float_shape (fpu_rr_op op)) d
rr_usable FcvtFmtW d to from = (from, to)
rr_usable FcvtFmtWu d to from = (from, to)
rr_usable FcvtFmtL d to from = (from, to)
rr_usable FcvtFmtLu d to from = (from, to)
rr_usable FmvXFmt d to from = to
rr_usable FmvFmtX d to from = (from, to)
rr_usable op d to from = (tt, to)

-- where an instruction is a word of a unit, that word is one of these
abbrev pub IsOneOf : Option UnitWord → Type 0
IsOneOf None = Unit {0}
IsOneOf (Some w) = IsUnitOperation w.places w.operation

of_shape : (places : List PlacedReg) (d : Decoded) (shape : FloatShape) (format : FloatFormat) → d.len ≡ 4 → ((s : State) → act d s ≡ None) → ((v : FullValues) → unit_row d v ≡ shape_row shape format d v) → ((v : FullValues) → unit_writes d v ≡ none_written) → (AreUsableIn places → IsUsableShape shape d) → IsUnitOperation places d
of_shape places d shape format long none row quiet usable = record {
  long = long;
  none = none;
  agrees = λ v w same are_values is_values are_units low. subst (λ (f : FullValues → Row). RowsAgree (unit_writes d v) w (f v) (f w)) (sym (λ i u. row u i))
      (subst (λ writes. RowsAgree writes w (shape_row shape format d v) (shape_row shape format d w)) (sym (quiet v)) (shape_agrees d v w same are_values is_values are_units shape format (usable low)));
}

kinds : (inst : Inst) → IsOneOf (unit_word inst)
kinds (Fli width imm rd) = of_shape _ _ (float_shape FloatFli) (format_of width) refl (λ s. refl) (λ v. refl) (λ v. refl) (λ usable. (tt, usable.0))
kinds (FpuRR op width frm rd rs) = of_shape _ _ (float_shape (fpu_rr_op op)) (format_of width) refl (λ s. refl) (λ v. refl) (λ v. refl) (λ usable. rr_usable op _ usable.0 usable.1.0)
kinds (FpuRRR op width frm rd rs1 rs2) = of_shape _ _ (float_shape (fpu_rrr_op op)) (format_of width) refl (λ s. refl) (λ v. refl) (λ v. refl) (λ usable. (elim op as (λ o. IsUsableIn (fpu_rrr_result o) (number_of rd.reg) → IsUsableShape (float_shape (fpu_rrr_op o)) (decoded_fpu_rrr op width frm (number_of rd.reg) (number_of rs1) (number_of rs2))) [ Fsgnj ↦ λ u. u | _ ↦ λ u. (tt, u) ]) usable.0)
kinds (FpuRRRR op width frm rd rs1 rs2 rs3) = of_shape _ _ (float_shape (fpu_rrrr_op op)) (format_of width) refl (λ s. refl) (λ v. refl) (λ v. refl) (λ usable. elim op as (λ o. IsUsableShape (float_shape (fpu_rrrr_op o)) (decoded_fpu_rrrr op width frm (number_of rd.reg) (number_of rs1) (number_of rs2) (number_of rs3))) [ Fmadd ↦ (tt, usable.0) | _ ↦ (tt, usable.0) ])
kinds (CsrReg op rd rs csr) =
    let d = decoded_csr_reg op (number_of rd.reg) (number_of rs) in
    record { long = refl; none = λ s. refl; agrees = λ v w same are_values is_values are_units usable. csr_agrees d v w same are_values is_values are_units (csr_reg_op op) (elim op as (λ o. IsUsableCsr (csr_reg_op o) d) [ CsrRW ↦ (usable.0, usable.1.0) | _ ↦ (usable.0, usable.1.0) ]) }
kinds (CsrImm op rd csr imm) =
    let d = decoded_csr_imm op (number_of rd.reg) imm.value in
    record { long = refl; none = λ s. refl; agrees = λ v w same are_values is_values are_units usable. csr_agrees d v w same are_values is_values are_units (csr_imm_op op) (elim op as (λ o. IsUsableCsr (csr_imm_op o) d) [ CsrRWI ↦ (usable.0, tt) | _ ↦ (usable.0, tt) ]) }
kinds (Atomic op rd addr src amo) =
    let d = decoded_atomic op amo (number_of rd.reg) (number_of addr) (number_of src) in
    record { long = refl; none = λ s. refl; agrees = λ v w same are_values is_values are_units usable. atomic_agrees d v w same are_values is_values are_units (record { rd = usable.0; rs1 = usable.1.0; rs2 = usable.1.1.0 }) (atomic_width op) (atomic_op op) }
kinds _ = tt

pub unit_operation : (inst : Inst) (w : UnitWord) → unit_word inst ≡ Some w → IsUnitOperation w.places w.operation
unit_operation inst w e = subst IsOneOf e (kinds inst)

-- what it becomes
pub parts_are : (context : Context) (setting : EmitVState) (inst : Inst) (w : UnitWord) → unit_word inst ≡ Some w → parts_of context setting inst ≡ unit_parts w
parts_are context setting Nop0 w e = absurd (cc)
parts_are context setting inst w e = cc
