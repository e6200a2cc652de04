-- The code of a program's listing computes its value.
use Rattle.std.proofs.Common.{◌≡◌, ℕ, suc, ◌+◌, ◌-◌, ◌*◌, ◌/◌, ◌<◌, ◌≤◌, inl, inr, false, List, [], ◌∷◌, ◌++◌, length, drop, Some, None, slice_get, slice_index, refl, arith, ap, sym, ◌∙◌, lit<, length-append, append_assoc}
use Rattle.std.proofs.lemmas.Bool.Decides.{nat_tests}
use Rattle.rv_base.specs.declared.flags.IsaFlags.{IsaFlags}
use Rattle.rv_inst.specs.declared.code.Code.{Code}
use Rattle.rv_inst.specs.declared.inst.Line.{Line}
use Rattle.rv_inst.specs.declared.inst.Line.TheVariants.{Inst as Put}
use Rattle.rv_inst.specs.declared.inst.Inst.TheVariants.{Ret}
use Rattle.rv_inst.specs.Meaning.{Leave}
use Rattle.rv_machine.specs.State.{State, reg}
use Rattle.rv_asm.specs.FineLines.{plain_job}
use Rattle.rv_asm.specs.Placed.{Addresses}
use Rattle.rv_asm.specs.Reported.{Reported}
use Rattle.rv_asm.specs.Simulation.{At, Out, RunsAsListed}
use Rattle.rv_asm.specs.Users.{int_reg}
use Rattle.rv_asm.proofs.Laws.{entry_is_first_line, nothing_runs, silent_lines_unrecorded}
use Rattle.rv_expr.specs.declared.ops.ExprOp.{ExprOp}
use Rattle.rv_expr.specs.Value.{value, value_of, values_after}
use Rattle.rv_expr.specs.Frame.{frame_size}
use Rattle.rv_expr.specs.Listing.{load_from, op_lines, lines_from, end_lines, listing}
use Rattle.rv_expr.specs.Refusal.{fault_from}
use Rattle.rv_expr.specs.Running.{IsEntered, IsKept, Returns, Computes}
use Rattle.rv_expr.proofs.Accepted.{IsAccepted, head_faultless, rest_faultless}
use Rattle.rv_expr.proofs.Validity.{silent_listing}
use Rattle.rv_expr.proofs.Steps.{Run, IsRun, Stands, Goes, goes_on, is_changed, job_in, line_runs}
use Rattle.rv_expr.proofs.Operations.{Holds, Advanced, advanced_after, start_holds, known_load, listed_at, next_at, operation_runs}

-- ---- operations in turn

operations_run : (r : Run) (inputs : List ℕ) (ops : List ExprOp) (i : ℕ) (known : List ℕ) (k : ℕ) (s : State) (rest : List Line) → IsRun r → Holds r inputs known k s → i ≡ length known → drop k r.lines ≡ lines_from i ops ++ rest → 0 < length rest → fault_from i ops ≡ None → i + length ops ≤ 254 → 8 * (i + length ops) ≤ r.size → Advanced r inputs (values_after inputs known ops) rest s
operations_run r inputs [] i known k s rest h at is follows more fine few room = record { line = k; state = s; reached = nothing_runs r.flags r.code r.base r.symbols r.slots (At k) s at.stands.at; holds = at; follows = follows }
operations_run r inputs (op ∷ ops) i known k s rest h at is follows more fine few room =
    let later = lines_from (suc i) ops ++ rest in
    let v = value_of inputs known op in
    let long = length-append (lines_from (suc i) ops) rest in
    let long_known : length (known ++ v ∷ []) ≡ length known + 1 = length-append known (v ∷ []) in
    let counted : suc i ≡ length (known ++ v ∷ []) = omega arith in
    let a = operation_runs r inputs known i op k s later h at is (follows ∙ append_assoc (op_lines i op) (lines_from (suc i) ops) rest) (omega arith) (head_faultless i op ops fine) (omega arith) (omega arith) in
    advanced_after r inputs (values_after inputs known (op ∷ ops)) rest a.line s a.state a.reached
    (operations_run r inputs ops (suc i) (known ++ v ∷ []) a.line a.state rest h a.holds counted a.follows more (rest_faultless i op ops fine) (omega arith) (omega arith))

values_count : (inputs : List ℕ) (ops : List ExprOp) (known : List ℕ) → length (values_after inputs known ops) ≡ length known + length ops
values_count inputs [] known = omega arith
values_count inputs (op ∷ ops) known =
    let one = length-append known (value_of inputs known op ∷ []) in
    let rest = values_count inputs ops (known ++ value_of inputs known op ∷ []) in
    omega arith

-- ---- the return

kept_unchanged : (n : ℕ) → IsKept n → is_changed n ≡ false
kept_unchanged n (inl low) = grind (arith, nat_tests)
kept_unchanged n (inr (inl middle)) = let from = middle.0 in let to = middle.1 in grind (arith, nat_tests)
kept_unchanged n (inr (inr high)) = let from = high.0 in let to = high.1 in grind (arith, nat_tests)

kept_low : (n : ℕ) → IsKept n → n < 30
kept_low n (inl low) = omega arith
kept_low n (inr (inl middle)) = let to = middle.1 in omega arith
kept_low n (inr (inr high)) = let to = high.1 in omega arith

-- from a line that returns
leaves : (r : Run) (k x : ℕ) (s : State) → IsRun r → Stands r k s → slice_get r.lines k ≡ Some (Put Ret) → reg s.values 10 ≡ x → Goes r r.entry (At k) s → Returns r.flags r.size x r.entry
leaves r k x s h at listed is reached =
    let c = line_runs r k (Put Ret) s s.values (Leave (reg s.values 1 / 2 * 2)) (Out (reg s.values 1 / 2 * 2)) h at listed refl refl (λ env. refl) (λ env. refl) (λ env. λ j below. absurd (omega arith)) (λ p leads. leads) in
    let all = goes_on r (At k) (Out (reg s.values 1 / 2 * 2)) r.entry s c.state reached c.reached in
    record {
      steps = all.steps;
      state = c.state;
      ran = all.ran;
      left = all.stands.pc ∙ ap (λ (a : ℕ). a / 2 * 2) (at.regs 1 (lit< tt) refl);
      answer = sym (c.same.regs 10 (lit< tt)) ∙ is;
      kept = λ m m_kept. sym (c.same.regs m (kept_low m m_kept)) ∙ at.regs m (kept_low m m_kept) (kept_unchanged m m_kept);
      memory = λ a fits outside. sym (c.same.mem a) ∙ at.mem a fits outside;
    }

-- from the lines that end a program
returns_known : (r : Run) (inputs known : List ℕ) (last : ℕ) → IsRun r → Advanced r inputs known (end_lines last) r.entry → last < length known → Returns r.flags r.size (slice_index known last) r.entry
returns_known r inputs known last h a below =
    let c = known_load r inputs known a.line a.state 10 last (lit< tt) (Put Ret ∷ []) h a.holds a.follows (lit< tt) (lit< tt) (lit< tt) refl below in
    leaves r (suc a.line) (slice_index known last) c.state h c.stands (listed_at r.lines (suc a.line) (Put Ret) [] (next_at r.lines a.line (load_from (int_reg 10 (lit< tt)) last) (Put Ret ∷ []) a.follows)) c.here (goes_on r (At a.line) (At (suc a.line)) r.entry a.state c.state a.reached c.reached)

-- ---- programs

abbrev run_of : IsaFlags → List ExprOp → Code → ℕ → Addresses → Addresses → State → Run
run_of flags ops code base symbols slots s = record { lines = listing ops; flags = flags; code = code; base = base; symbols = symbols; slots = slots; size = frame_size (length ops); entry = s }

pub computes_value : (flags : IsaFlags) (ops : List ExprOp) (code : Code) → IsAccepted ops → Reported (plain_job (listing ops) flags) code → RunsAsListed (plain_job (listing ops) flags) code → Computes flags ops code
computes_value flags ops code accepted reported runs = record { from = λ base symbols slots inputs s entered. from base symbols slots inputs s entered }
  where
    from : (base : ℕ) (symbols slots : Addresses) (inputs : List ℕ) (s : State) → IsEntered code base symbols slots (frame_size (length ops)) inputs s → Returns flags (frame_size (length ops)) (value ops inputs) s
    from base symbols slots inputs s entered =
        let r = run_of flags ops code base symbols slots s in
        let some = accepted.some in
        let few = accepted.few in
        let h : IsRun r = record { runs = runs; state = entered.state; small = omega arith; apart = entered.apart } in
        let first = entry_is_first_line (job_in r) code base symbols slots s reported entered.placed entered.state entered.start in
        let stands : Stands r 0 s = record { at = first; regs = λ n below still. refl; mem = λ a fits outside. refl } in
        let a = operations_run r inputs ops 0 [] 0 s (end_lines (length ops - 1)) h (start_holds r inputs 0 s stands entered.args) refl refl (lit< tt) accepted.faultless (omega arith) (omega arith) in
        let count = values_count inputs ops [] in
        returns_known r inputs (values_after inputs [] ops) (length ops - 1) h a (omega arith)

-- nothing of a program's code is left to a linker
pub whole : (flags : IsaFlags) (ops : List ExprOp) (code : Code) → Reported (plain_job (listing ops) flags) code → code.relocs ≡ []
whole flags ops code reported = let none = silent_lines_unrecorded (plain_job (listing ops) flags) code reported (silent_listing flags ops) in none.relocs
