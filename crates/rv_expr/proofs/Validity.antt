-- The lines of a program are fine, so none is refused, and silent, so nothing is left to a linker.
use Rattle.std.proofs.Common.{◌≡◌, ℕ, suc, ◌+◌, ◌*◌, ◌^◌, ◌<◌, ◌≤◌, nat_lt, ◌-◌, ◌%◌, false, ◌||◌, List, [], ◌∷◌, ◌++◌, length, None, refl, arith, ap, lit<, lit≤, length-append}
use Rattle.std.specs.List.{AllByRecursion}
use Rattle.std.proofs.lemmas.Bool.Decides.{nat_tests}
use Rattle.rv_base.specs.declared.flags.IsaFlags.{IsaFlags}
use Rattle.rv_inst.specs.declared.inst.Line.{Line}
use Rattle.rv_inst.specs.declared.inst.Line.TheVariants.{Inst as Put}
use Rattle.rv_inst.specs.declared.inst.Inst.TheVariants.{Ret}
use Rattle.rv_asm.specs.FineLines.{IsFine, IsSilent, AreFine, AreSilent, plain_job}
use Rattle.rv_asm.specs.Refusal.{refusal}
use Rattle.rv_asm.specs.Users.{Context, context_of, int_reg, is_distant, every_rule}
use Rattle.rv_asm.proofs.Laws.{fine_lines_accepted, stack_loads_fine, stack_stores_fine}
use Rattle.rv_expr.specs.declared.ops.BinOp.{BinOp}
use Rattle.rv_expr.specs.declared.ops.ExprOp.{ExprOp}
use Rattle.rv_expr.specs.declared.ops.ExprOp.TheVariants.{Const, Arg, Bin, Pick}
use Rattle.rv_expr.specs.Listing.{load_from, store_to, constant, alu, choice, no_trap, place_offset, op_lines, lines_from, end_lines, listing}
use Rattle.rv_expr.specs.Refusal.{fault_of, fault_from}
use Rattle.rv_expr.proofs.Accepted.{IsAccepted, head_faultless, rest_faultless, binary_earlier, pick_earlier}

all_append : (P : Line → Type 0) (some more : List Line) → AllByRecursion P some → AllByRecursion P more → AllByRecursion P (some ++ more)
all_append P [] more f g = g
all_append P (line ∷ some) more f g = (f.0, all_append P some more f.1 g)

-- ---- each kind of line is fine

near_place : (i : ℕ) → i < 254 → is_distant (place_offset i) ≡ false
near_place i few = ap (λ b. b || false) (above (8 * i + 7) (omega arith))
  where
    above : (n : ℕ) → n < 2 ^ 62 → nat_lt (2 ^ 62 - 1) n ≡ false
    above n low = grind (arith, nat_tests)

fine_load : (context : Context) (n i : ℕ) (in_file : n < 32) → n < 30 → i < 254 → IsFine context (load_from (int_reg n in_file) i)
fine_load context n i in_file low few = stack_loads_fine context no_trap n in_file (place_offset i) low (near_place i few)

fine_store : (context : Context) (n i : ℕ) (in_file : n < 32) → n < 30 → i < 254 → IsFine context (store_to (int_reg n in_file) i)
fine_store context n i in_file low few = stack_stores_fine context no_trap n in_file (place_offset i) low (near_place i few)

fine_constant : (context : Context) (n : ℕ) → IsFine context (constant n)
unfolding every_rule
fine_constant context n = record { rule = refl; fit = refl; binds_none = λ bound. refl; names_none = refl; size = lit≤ tt }

fine_alu : (context : Context) (op : BinOp) → IsFine context (alu op)
unfolding every_rule
fine_alu context op = record { rule = refl; fit = refl; binds_none = λ bound. refl; names_none = refl; size = lit≤ tt }

fine_choice : (context : Context) → IsFine context choice
unfolding every_rule
fine_choice context = record { rule = refl; fit = refl; binds_none = λ bound. refl; names_none = refl; size = lit≤ tt }

fine_return : (context : Context) → IsFine context (Put Ret)
unfolding every_rule
fine_return context = record { rule = refl; fit = refl; binds_none = λ bound. refl; names_none = refl; size = lit≤ tt }

-- ---- programs

fine_op : (context : Context) (i : ℕ) (op : ExprOp) → i < 254 → fault_of i op ≡ None → AreFine context (op_lines i op)
fine_op context i (Const n) few h = (fine_constant context n, (fine_store context 5 i _ (lit< tt) few, tt))
fine_op context i (Arg k) few h = (fine_store context (10 + k % 8) i _ (omega arith) few, tt)
fine_op context i (Bin op x y) few h =
    let e = binary_earlier i x y h in
    let first = e.first in
    let second = e.second in
    (fine_load context 5 x _ (lit< tt) (omega arith), (fine_load context 6 y _ (lit< tt) (omega arith), (fine_alu context op, (fine_store context 5 i _ (lit< tt) few, tt))))
fine_op context i (Pick c x y) few h =
    let e = pick_earlier i c x y h in
    let test = e.test in
    let first = e.first in
    let second = e.second in
    (fine_load context 5 c _ (lit< tt) (omega arith), (fine_load context 6 x _ (lit< tt) (omega arith), (fine_load context 7 y _ (lit< tt) (omega arith), (fine_choice context, (fine_store context 6 i _ (lit< tt) few, tt)))))

fine_from : (context : Context) (i : ℕ) (ops : List ExprOp) → i + length ops ≤ 254 → fault_from i ops ≡ None → AreFine context (lines_from i ops)
fine_from context i [] few h = tt
fine_from context i (op ∷ ops) few h =
    all_append (IsFine context) (op_lines i op) (lines_from (suc i) ops) (fine_op context i op (omega arith) (head_faultless i op ops h))
    (fine_from context (suc i) ops (omega arith) (rest_faultless i op ops h))

fine_listing : (context : Context) (ops : List ExprOp) → IsAccepted ops → AreFine context (listing ops)
fine_listing context ops h =
    let some = h.some in
    let few = h.few in
    all_append (IsFine context) (lines_from 0 ops) (end_lines (length ops - 1)) (fine_from context 0 ops (omega arith) h.faultless)
    (fine_load context 10 (length ops - 1) _ (lit< tt) (omega arith), (fine_return context, tt))

short_op : (i : ℕ) (op : ExprOp) → length (op_lines i op) ≤ 5
short_op i (Const n) = lit≤ tt
short_op i (Arg k) = lit≤ tt
short_op i (Bin op x y) = lit≤ tt
short_op i (Pick c x y) = lit≤ tt

short_from : (i : ℕ) (ops : List ExprOp) → length (lines_from i ops) ≤ 5 * length ops
short_from i [] = lit≤ tt
short_from i (op ∷ ops) =
    let here = short_op i op in
    let rest = short_from (suc i) ops in
    let both = length-append (op_lines i op) (lines_from (suc i) ops) in
    omega arith

short_listing : (ops : List ExprOp) → IsAccepted ops → length (listing ops) < 10000
short_listing ops h =
    let few = h.few in
    let rest = short_from 0 ops in
    let both = length-append (lines_from 0 ops) (end_lines (length ops - 1)) in
    omega arith

-- a program that isn't refused has lines that aren't
pub not_refused : (flags : IsaFlags) (ops : List ExprOp) → IsAccepted ops → refusal (plain_job (listing ops) flags) ≡ None
not_refused flags ops h =
    let short = short_listing ops h in
    fine_lines_accepted (plain_job (listing ops) flags) refl (fine_listing (context_of (plain_job (listing ops) flags)) ops h) (omega arith)

-- ---- nothing of a program is recorded

silent_op : (context : Context) (i : ℕ) (op : ExprOp) → AreSilent context (op_lines i op)
silent_op context i (Const n) = (λ start end. refl, (λ start end. refl, tt))
silent_op context i (Arg k) = (λ start end. refl, tt)
silent_op context i (Bin op x y) = (λ start end. refl, (λ start end. refl, (λ start end. refl, (λ start end. refl, tt))))
silent_op context i (Pick c x y) = (λ start end. refl, (λ start end. refl, (λ start end. refl, (λ start end. refl, (λ start end. refl, tt)))))

silent_from : (context : Context) (i : ℕ) (ops : List ExprOp) → AreSilent context (lines_from i ops)
silent_from context i [] = tt
silent_from context i (op ∷ ops) = all_append (IsSilent context) (op_lines i op) (lines_from (suc i) ops) (silent_op context i op) (silent_from context (suc i) ops)

pub silent_listing : (flags : IsaFlags) (ops : List ExprOp) → AreSilent (context_of (plain_job (listing ops) flags)) (listing ops)
silent_listing flags ops =
    let context = context_of (plain_job (listing ops) flags) in
    all_append (IsSilent context) (lines_from 0 ops) (end_lines (length ops - 1)) (silent_from context 0 ops) (λ start end. refl, (λ start end. refl, tt))
