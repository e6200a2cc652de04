-- A pass of an atomic loop: from its load it comes to its store with the changed number, or leaves, in at most 17 pieces.
use Rattle.std.proofs.Common.{◌≡◌, ◌≢◌, ◌⊎◌, inl, inr, ℕ, zero, suc, ◌+◌, ◌-◌, ◌/◌, ◌%◌, ◌^◌, ◌<◌, ◌≤◌, Bool, true, false, not, nat_eq, if◌then◌else◌, pos, negsuc, List, [], ◌∷◌, ◌++◌, Some, None, append_assoc, arith, refl, sym, ap, subst, ◌∙◌, lit<, lit≤, eqb-true}
use Rattle.std.specs.Prelude.{bit_xor}
use Rattle.std.proofs.lemmas.{Bool.eqb-false, Option.same_Some}
use Rattle.rv_base.specs.CondCodes.{holds}
use Rattle.rv_base.specs.IrType.{bits_of}
use Rattle.rv_base.specs.Regs.{number_of}
use Rattle.rv_base.specs.declared.condcodes.IntCC.{IntCC}
use Rattle.rv_base.specs.declared.condcodes.IntCC.TheVariants.{NotEqual, SignedLessThan, SignedGreaterThan, UnsignedLessThan, UnsignedGreaterThan}
use Rattle.rv_base.specs.declared.ir_type.IrType.{IrType}
use Rattle.rv_base.specs.declared.ir_type.IrType.TheVariants.{I8, I16, I32, I64, I128, F16, F32, F64, F128, Vector}
use Rattle.rv_base.specs.declared.regs.Reg.{Reg}
use Rattle.rv_machine.specs.State.{AreValues, Values, reg, set_reg, wrap}
use Rattle.rv_ops.specs.declared.alu.AluOPRRI.TheVariants.{Addi, Xori}
use Rattle.rv_ops.specs.declared.alu.AluOPRRR.TheVariants as alu
use Rattle.rv_ops.specs.declared.atomic.AtomicRmwOp.{AtomicRmwOp}
use Rattle.rv_ops.specs.declared.atomic.AtomicRmwOp.TheVariants.{Add, Sub, And, Nand, Or, Xor, Xchg, Umin, Umax, Smin, Smax}
use Rattle.rv_inst.specs.AtomicLoops.{combined, is_wide, is_whole, takes_signed}
use Rattle.rv_inst.specs.Bits.{extended}
use Rattle.rv_inst.specs.Classes.{is_int_type}
use Rattle.rv_inst.specs.Fields.{with_part}
use Rattle.rv_inst.specs.Meaning.{Environment}
use Rattle.rv_inst.specs.declared.atomic_loop.AtomicLoop.{AtomicLoop}
use Rattle.rv_inst.specs.declared.atomic_loop.Change.{Change}
use Rattle.rv_inst.specs.declared.atomic_loop.Change.TheVariants.{Combines, Swaps}
use Rattle.rv_code.specs.AtomicLoops.{after_load, choose_pieces, combine_pieces, combined_in, labels_for, loop_load, loop_pieces, merge_pieces, store_and_retry, take_field}
use Rattle.rv_code.specs.Evaluation.{Point, and_then, evaluate, next, point, to}
use Rattle.rv_code.specs.Pieces.{Bind, Branch, Do, Jump, Piece, Rri, after}
use Rattle.rv_code.specs.Usable.{IsFineAtomicLoop}
use Rattle.rv_loops.proofs.RegisterParts.{Sets, Within, each_width, extends, extracts, few_bits, goes_on, in_more, joined, merges, moved, moves, rri_does, rrr_does, sets_again, sets_that, some_bits, such_too}
use Rattle.rv_loops.specs.Passes.{AtLeave, AtStore, KeepsOthers, PassEnds, Leaves, Stores, store_on}

-- ---- registers

-- those of a loop: below x30; dst and t0 are none of the others, and not x0
record AreApart (dst offset x t0 : ℕ) : Type 0 where
  dst_some : 0 < dst
  dst_low : dst < 30
  t0_some : 0 < t0
  t0_low : t0 < 30
  offset_low : offset < 30
  x_low : x < 30
  t0_dst : t0 ≢ dst
  t0_offset : t0 ≢ offset
  t0_x : t0 ≢ x
  dst_offset : dst ≢ offset
  dst_x : dst ≢ x

abbrev ApartOf : AtomicLoop → Type 0
ApartOf l = AreApart (number_of l.dst.reg) (number_of l.offset) (number_of l.operand) (number_of l.t0.reg)

apart_of : (l : AtomicLoop) → IsFineAtomicLoop l → ApartOf l
apart_of l h = record {
  dst_some = h.some_dst;
  dst_low = h.dst.1;
  t0_some = h.some_t0;
  t0_low = h.t0.1;
  offset_low = h.inputs.0.1;
  x_low = h.inputs.1.1.0.1;
  t0_dst = h.t0_apart.0;
  t0_offset = h.t0_apart.1.0;
  t0_x = h.t0_apart.1.1.1.0;
  dst_offset = h.dst_apart.0;
  dst_x = h.dst_apart.1.1.0;
}

-- ---- the field is taken out

-- from the bit on that the offset's register says
abbrev field : Bool → ℕ → ℕ → ℕ → Values → ℕ
field signed bits dst offset v = extended signed bits (reg v dst / 2 ^ (reg v offset % 64))

-- it is in dst, and the number in x30
record Taken (dst part all : ℕ) (v w : Values) : Type 0 where
  old : reg w dst ≡ part
  number : reg w 30 ≡ all
  others : (k : ℕ) → k < 30 → k ≢ dst → reg w k ≡ reg v k
  mem : w.mem ≡ v.mem
  are_values : AreValues w

takes : {env : Environment} {whole ps : List Piece} (signed : Bool) (bits dst offset : ℕ) (v : Values) → 1 ≤ bits → bits ≤ 64 → AreValues v → 0 < dst → dst < 30 → offset < 30 →
    Within 4 env whole (point (take_field dst offset signed bits ++ ps) v) ps (Taken dst (field signed bits dst offset v) (reg v dst) v)
takes signed bits dst offset v one few vs some low low_offset =
    goes_on (moves 30 dst v vs (lit< tt) (lit< tt))
    (λ w h.
    let start = h.others dst (λ e. omega arith) in
    let at = h.others offset (λ e. omega arith) in
    such_too (λ u k. record {
      old = k.holds ∙ (λ i. extended signed bits (start i / 2 ^ (at i % 64)));
      number = k.others 30 (λ e. omega arith) ∙ h.holds;
      others = λ n lt other. k.others n other ∙ h.others n (λ e. omega arith);
      mem = k.mem ∙ h.mem;
      are_values = k.are_values;
    }) (extracts signed bits dst offset dst w one few h.are_values some (omega arith)))

-- ---- what it and the operand give

-- it is in the register of which the field is made, and t0 at most was written
record Combined (op : AtomicRmwOp) (t0 dst x : ℕ) (v w : Values) : Type 0 where
  holds : reg w (combined_in op t0 x) ≡ combined op (reg v dst) (reg v x)
  others : (k : ℕ) → k ≢ t0 → reg w k ≡ reg v k
  mem : w.mem ≡ v.mem
  are_values : AreValues w

-- where an own label stands before the move of dst, and another after it
abbrev AreChoices : List Piece → ℕ → ℕ → List Piece → Type 0
AreChoices whole t0 dst ps = (after 1 whole ≡ Some (Do (Rri Addi t0 dst (pos 0)) ∷ Bind 2 ∷ ps)) × (after 2 whole ≡ Some ps)

abbrev ArePlaced : AtomicRmwOp → List Piece → ℕ → ℕ → List Piece → Type 0
ArePlaced Add whole t0 dst ps = Unit {0}
ArePlaced Sub whole t0 dst ps = Unit {0}
ArePlaced And whole t0 dst ps = Unit {0}
ArePlaced Nand whole t0 dst ps = Unit {0}
ArePlaced Or whole t0 dst ps = Unit {0}
ArePlaced Xor whole t0 dst ps = Unit {0}
ArePlaced Xchg whole t0 dst ps = Unit {0}
ArePlaced Umin whole t0 dst ps = AreChoices whole t0 dst ps
ArePlaced Umax whole t0 dst ps = AreChoices whole t0 dst ps
ArePlaced Smin whole t0 dst ps = AreChoices whole t0 dst ps
ArePlaced Smax whole t0 dst ps = AreChoices whole t0 dst ps

-- by whether dst and the operand compare so
chooses : {env : Environment} {whole ps : List Piece} (how : IntCC) (c : Bool) (t0 dst x : ℕ) (v : Values) → holds how (reg v dst) (reg v x) ≡ c → AreChoices whole t0 dst ps → AreValues v → 0 < t0 → t0 < 32 →
    Within 3 env whole (point (choose_pieces how t0 dst x ++ ps) v) ps (Sets t0 (if c then reg v dst else reg v x) v)
chooses {env} {whole} {ps} how true t0 dst x v test places vs some lt = record {
  count = 3;
  values = set_reg v t0 (wrap (reg v dst + 0));
  few = lit≤ tt;
  ran = ap (λ c. and_then (if c then to (after 1 whole) v [] else Some (point (Do (Rri Addi t0 x (pos 0)) ∷ Jump 2 ∷ Bind 1 ∷ Do (Rri Addi t0 dst (pos 0)) ∷ Bind 2 ∷ ps) v)) (evaluate env 2 whole)) test
      ∙ ap (λ o. and_then (to o v []) (evaluate env 2 whole)) places.0;
  such = moved v t0 dst vs some lt;
}
chooses {env} {whole} {ps} how false t0 dst x v test places vs some lt = record {
  count = 3;
  values = set_reg v t0 (wrap (reg v x + 0));
  few = lit≤ tt;
  ran = ap (λ c. and_then (if c then to (after 1 whole) v [] else Some (point (Do (Rri Addi t0 x (pos 0)) ∷ Jump 2 ∷ Bind 1 ∷ Do (Rri Addi t0 dst (pos 0)) ∷ Bind 2 ∷ ps) v)) (evaluate env 2 whole)) test
      ∙ ap (λ o. and_then (to o (set_reg v t0 (wrap (reg v x + 0))) []) (evaluate env 0 whole)) places.1;
  such = moved v t0 x vs some lt;
}

-- it is in t0
combined_by : {op : AtomicRmwOp} {t0 dst x : ℕ} {v w : Values} → combined_in op t0 x ≡ t0 → Sets t0 (combined op (reg v dst) (reg v x)) v w → Combined op t0 dst x v w
combined_by {w = w} is h = record { holds = ap (reg w) is ∙ h.holds; others = h.others; mem = h.mem; are_values = h.are_values }

-- their common bits are inverted
inverts : {env : Environment} {whole ps : List Piece} (t0 dst x : ℕ) (v : Values) → AreValues v → 0 < t0 → t0 < 32 →
    Within 2 env whole (point (combine_pieces Nand t0 dst x ++ ps) v) ps (Sets t0 (combined Nand (reg v dst) (reg v x)) v)
inverts t0 dst x v vs some lt =
    goes_on (rrr_does alu.And t0 x dst v refl vs some lt)
    (λ w h. such_too (λ u k. sets_again h (sets_that (ap (λ n. bit_xor n (2 ^ 64 - 1)) h.holds) k)) (rri_does Xori t0 t0 (negsuc 0) w refl (lit< tt) h.are_values some lt))

combines : {env : Environment} {whole ps : List Piece} (op : AtomicRmwOp) (t0 dst x : ℕ) (v : Values) → ArePlaced op whole t0 dst ps → AreValues v → 0 < t0 → t0 < 32 →
    Within 3 env whole (point (combine_pieces op t0 dst x ++ ps) v) ps (Combined op t0 dst x v)
combines Add t0 dst x v places vs some lt = in_more 3 (lit≤ tt) (such_too (λ w. combined_by refl) (rrr_does alu.Add t0 dst x v refl vs some lt))
combines Sub t0 dst x v places vs some lt = in_more 3 (lit≤ tt) (such_too (λ w. combined_by refl) (rrr_does alu.Sub t0 dst x v refl vs some lt))
combines And t0 dst x v places vs some lt = in_more 3 (lit≤ tt) (such_too (λ w. combined_by refl) (rrr_does alu.And t0 dst x v refl vs some lt))
combines Nand t0 dst x v places vs some lt = in_more 3 (lit≤ tt) (such_too (λ w. combined_by refl) (inverts t0 dst x v vs some lt))
combines Or t0 dst x v places vs some lt = in_more 3 (lit≤ tt) (such_too (λ w. combined_by refl) (rrr_does alu.Or t0 dst x v refl vs some lt))
combines Xor t0 dst x v places vs some lt = in_more 3 (lit≤ tt) (such_too (λ w. combined_by refl) (rrr_does alu.Xor t0 dst x v refl vs some lt))
combines Xchg t0 dst x v places vs some lt = record { count = 0; values = v; few = lit≤ tt; ran = refl; such = record { holds = refl; others = λ k other. refl; mem = refl; are_values = vs } }
combines Umin t0 dst x v places vs some lt = such_too (λ w. combined_by refl) (chooses UnsignedLessThan _ t0 dst x v refl places vs some lt)
combines Umax t0 dst x v places vs some lt = such_too (λ w. combined_by refl) (chooses UnsignedGreaterThan _ t0 dst x v refl places vs some lt)
combines Smin t0 dst x v places vs some lt = such_too (λ w. combined_by refl) (chooses SignedLessThan _ t0 dst x v refl places vs some lt)
combines Smax t0 dst x v places vs some lt = such_too (λ w. combined_by refl) (chooses SignedGreaterThan _ t0 dst x v refl places vs some lt)

-- a register below x30, too
combined_low : (op : AtomicRmwOp) (t0 x : ℕ) → t0 < 30 → x < 30 → combined_in op t0 x < 30
combined_low Add t0 x low low_x = low
combined_low Sub t0 x low low_x = low
combined_low And t0 x low low_x = low
combined_low Nand t0 x low low_x = low
combined_low Or t0 x low low_x = low
combined_low Xor t0 x low low_x = low
combined_low Xchg t0 x low low_x = low_x
combined_low Umin t0 x low low_x = low
combined_low Umax t0 x low low_x = low
combined_low Smin t0 x low low_x = low
combined_low Smax t0 x low low_x = low

-- ---- the field is made of it

-- the field is in dst, and the number with another one is in x30
record InPart (signed : Bool) (bits dst offset x t0 : ℕ) (f : ℕ → ℕ → ℕ) (v w : Values) : Type 0 where
  old : reg w dst ≡ field signed bits dst offset v
  number : reg w 30 ≡ wrap (with_part (reg v offset % 64) bits (f (field signed bits dst offset v) (reg v x)) (reg v dst))
  regs : (k : ℕ) → k < 30 → k ≢ dst → k ≢ t0 → reg w k ≡ reg v k
  mem : w.mem ≡ v.mem
  are_values : AreValues w

-- from where the field is taken out, and the register of which it is made holds what it and the operand give
makes : {env : Environment} {whole ps : List Piece} {dst offset x t0 : ℕ} (signed : Bool) (f : ℕ → ℕ → ℕ) (ty : IrType) (rs : ℕ) (v w u : Values) → is_int_type ty ≡ true → AreApart dst offset x t0 → rs < 30 →
    Taken dst (field signed (bits_of ty) dst offset v) (reg v dst) v w →
    reg u rs ≡ f (reg w dst) (reg w x) → ((k : ℕ) → k ≢ t0 → reg u k ≡ reg w k) → u.mem ≡ w.mem → AreValues u →
    Within 10 env whole (point (merge_pieces 30 31 offset rs (bits_of ty) ++ ps) u) ps (InPart signed (bits_of ty) dst offset x t0 f v)
makes {dst = dst} {offset} {x} {t0} signed f ty rs v w u int apart low h made same mem us =
    let bits = bits_of ty in
    let at = same offset (λ e. apart.t0_offset (sym e)) ∙ h.others offset apart.offset_low (λ e. apart.dst_offset (sym e)) in
    let number = same 30 (λ e. (let t = apart.t0_low in absurd (omega arith))) ∙ h.number in
    let operand = h.others x apart.x_low (λ e. apart.dst_x (sym e)) in
    let field = made ∙ (λ i. f (h.old i) (operand i)) in
    such_too (λ z k. record {
      old = k.others dst apart.dst_low ∙ same dst (λ e. apart.t0_dst (sym e)) ∙ h.old;
      number = k.holds ∙ (λ i. wrap (with_part (at i % 64) bits (field i) (number i)));
      regs = λ n lt not_dst not_t0. k.others n lt ∙ same n not_t0 ∙ h.others n lt not_dst;
      mem = k.mem ∙ mem ∙ h.mem;
      are_values = k.are_values;
    }) (merges ty offset rs u int us apart.offset_low low)

combines_part : {env : Environment} {whole ps : List Piece} (op : AtomicRmwOp) (ty : IrType) (dst offset x t0 : ℕ) (v : Values) → is_int_type ty ≡ true → AreApart dst offset x t0 → AreValues v →
    ArePlaced op whole t0 dst (merge_pieces 30 31 offset (combined_in op t0 x) (bits_of ty) ++ ps) →
    Within 17 env whole (point (take_field dst offset (takes_signed op) (bits_of ty) ++ (combine_pieces op t0 dst x ++ (merge_pieces 30 31 offset (combined_in op t0 x) (bits_of ty) ++ ps))) v) ps (InPart (takes_signed op) (bits_of ty) dst offset x t0 (combined op) v)
combines_part op ty dst offset x t0 v int apart vs places =
    goes_on (takes (takes_signed op) (bits_of ty) dst offset v (some_bits ty int) (few_bits ty int) vs apart.dst_some apart.dst_low apart.offset_low)
    (λ w h. goes_on (combines op t0 dst x w places h.are_values apart.t0_some (let low = apart.t0_low in omega arith))
    (λ u k. makes (takes_signed op) (combined op) ty (combined_in op t0 x) v w u int apart (combined_low op t0 x apart.t0_low apart.x_low) h k.holds k.others k.mem k.are_values))

-- ---- passes

never_goes_on : (env : Environment) (n : ℕ) (whole : List Piece) (p q : Point) → next env whole p.ahead p.values p.written ≡ None → evaluate env (suc n) whole p ≡ Some q → ⊥
never_goes_on env n whole p q none e = let no : None ≡ Some q = sym (ap (λ o. and_then o (evaluate env n whole)) none) ∙ e in absurd (cc)

-- Where an evaluation can't go on it ends, at one point and after one count of pieces.
pub evaluate_unique : (env : Environment) (m n : ℕ) (whole : List Piece) (p q r : Point) → evaluate env m whole p ≡ Some q → evaluate env n whole p ≡ Some r → next env whole q.ahead q.values q.written ≡ None → next env whole r.ahead r.values r.written ≡ None → (m ≡ n) × (q ≡ r)
evaluate_unique env zero zero whole p q r e f ends_q ends_r = (refl, sym (same_Some p q e) ∙ same_Some p r f)
evaluate_unique env zero (suc n) whole p q r e f ends_q ends_r = absurd (never_goes_on env n whole p r (subst (λ t. next env whole t.ahead t.values t.written ≡ None) (sym (same_Some p q e)) ends_q) f)
evaluate_unique env (suc m) zero whole p q r e f ends_q ends_r = absurd (never_goes_on env m whole p q (subst (λ t. next env whole t.ahead t.values t.written ≡ None) (sym (same_Some p r f)) ends_r) e)
evaluate_unique env (suc m) (suc n) whole p q r e f ends_q ends_r = (elim (next env whole p.ahead p.values p.written) as (λ o. and_then o (evaluate env m whole) ≡ Some q → and_then o (evaluate env n whole) ≡ Some r → (suc m ≡ suc n) × (q ≡ r)) [
  | None ↦ λ e f. absurd (cc)
  | Some t ↦ λ e f. let same = evaluate_unique env m n whole t q r e f ends_q ends_r in (ap suc same.0, same.1)
]) e f

-- in at most so many pieces the evaluation comes to a store, or it leaves
abbrev Ends : ℕ → Environment → List Piece → Point → List Piece → (Values → Type 0) → (Values → Type 0) → Type 0
Ends most env whole p store Stored Left = Within most env whole p store Stored ⊎ Within most env whole p [] Left

ends_after : {m n : ℕ} {env : Environment} {whole ps store : List Piece} {p : Point} {Such Stored Left : Values → Type 0} → Within m env whole p ps Such → ((w : Values) → Such w → Ends n env whole (point ps w) store Stored Left) → Ends (m + n) env whole p store Stored Left
ends_after r on = elim (on r.values r.such) [ inl d ↦ inl (joined r d) | inr d ↦ inr (joined r d) ]

ends_in_more : {m : ℕ} {env : Environment} {whole store : List Piece} {p : Point} {Stored Left : Values → Type 0} (n : ℕ) → m ≤ n → Ends m env whole p store Stored Left → Ends n env whole p store Stored Left
ends_in_more n le r = elim r [ inl d ↦ inl (in_more n le d) | inr d ↦ inr (in_more n le d) ]

-- where dst isn't the expected number it leaves, and else it goes on
compares : {n : ℕ} {env : Environment} {whole ps store : List Piece} {Stored Left : Values → Type 0} (c : Bool) (e dst : ℕ) (w : Values) → nat_eq (reg w e) (reg w dst) ≡ c → after 1 whole ≡ Some [] → (reg w e ≡ reg w dst → Within n env whole (point ps w) store Stored) → (reg w e ≢ reg w dst → Left w) →
    Ends (1 + n) env whole (point (Branch NotEqual e dst 1 ∷ ps) w) store Stored Left
compares {env = env} {whole} {ps} {Stored = Stored} true e dst w test leads on left =
    let here : Within 1 env whole (point (Branch NotEqual e dst 1 ∷ ps) w) ps (λ u. u ≡ w) = record {
      count = 1;
      values = w;
      few = lit≤ tt;
      ran = ap (λ c. and_then (if not c then to (after 1 whole) w [] else Some (point ps w)) (evaluate env 0 whole)) test;
      such = refl;
    } in
    inl (joined here (on (eqb-true (reg w e) (reg w dst) test)))
compares {n} {env} {whole} {ps} false e dst w test leads on left = inr (in_more {m = 1} (1 + n) (omega arith) (record {
  count = 1;
  values = w;
  few = lit≤ tt;
  ran = ap (λ c. and_then (if not c then to (after 1 whole) w [] else Some (point ps w)) (evaluate env 0 whole)) test ∙ ap (λ o. and_then (to o w []) (evaluate env 0 whole)) leads;
  such = left (eqb-false (reg w e) (reg w dst) test);
}))

swaps_part : {env : Environment} {whole ps : List Piece} {Stored Left : Values → Type 0} (ty : IrType) (e dst offset x t0 : ℕ) (v : Values) → is_int_type ty ≡ true → AreApart dst offset x t0 → e < 30 → dst ≢ e → AreValues v → after 1 whole ≡ Some [] →
    ((w : Values) → InPart false (bits_of ty) dst offset x t0 (λ old y. y) v w → reg v e ≡ field false (bits_of ty) dst offset v → Stored w) →
    ((w : Values) → Taken dst (field false (bits_of ty) dst offset v) (reg v dst) v w → reg v e ≢ field false (bits_of ty) dst offset v → Left w) →
    Ends 15 env whole (point (take_field dst offset false (bits_of ty) ++ (Branch NotEqual e dst 1 ∷ (merge_pieces 30 31 offset x (bits_of ty) ++ ps))) v) ps Stored Left
swaps_part ty e dst offset x t0 v int apart e_low dst_e vs leads stored left =
    ends_after (takes false (bits_of ty) dst offset v (some_bits ty int) (few_bits ty int) vs apart.dst_some apart.dst_low apart.offset_low)
    (λ w h.
    let read = h.others e e_low (λ same. dst_e (sym same)) in
    compares _ e dst w refl leads
    (λ same. such_too (λ u k. stored u k (sym read ∙ same ∙ h.old)) (makes false (λ old y. y) ty x v w w int apart apart.x_low h refl (λ k other. refl) refl h.are_values))
    (λ differs. left w h (λ s. differs (read ∙ s ∙ sym h.old))))

-- a number that is compared as it is, once its low bits are in dst
swaps_whole : {env : Environment} {whole start ps : List Piece} {Stored Left : Values → Type 0} (old e dst : ℕ) (v : Values) → dst ≢ e → after 1 whole ≡ Some [] → Within 2 env whole (point start v) (Branch NotEqual e dst 1 ∷ ps) (Sets dst old v) →
    ((w : Values) → Sets dst old v w → reg v e ≡ old → Stored w) → ((w : Values) → Sets dst old v w → reg v e ≢ old → Left w) →
    Ends 3 env whole (point start v) ps Stored Left
swaps_whole old e dst v dst_e leads first stored left =
    ends_after {n = 1} first (λ w h.
    let read = h.others e (λ same. dst_e (sym same)) in
    compares {n = 0} _ e dst w refl leads
    (λ same. record { count = 0; values = w; few = lit≤ tt; ran = refl; such = stored w h (sym read ∙ same ∙ h.holds) })
    (λ differs. left w h (λ s. differs (read ∙ s ∙ sym h.holds))))

-- ---- loops

-- a loop that makes this change, of a field of this type
abbrev loop_of : AtomicLoop → Change → IrType → AtomicLoop
loop_of l change ty = record l { change = change; ty = ty }

stores : {env : Environment} {l : AtomicLoop} {v : Values} → Within 17 env (loop_pieces l) (point (after_load l) v) (store_on l) (AtStore l v) → PassEnds env l v
stores r = Stores r.count r.values r.few r.ran r.such

ends : {env : Environment} {l : AtomicLoop} {v : Values} → Ends 17 env (loop_pieces l) (point (after_load l) v) (store_on l) (AtStore l v) (AtLeave l v) → PassEnds env l v
ends r = elim r [ inl d ↦ stores d | inr d ↦ Leaves d.count d.values d.few d.ran d.such ]

kept : {f : ℕ → ℕ → ℕ} {signed : Bool} (l : AtomicLoop) (v w : Values) → InPart signed (bits_of l.ty) (number_of l.dst.reg) (number_of l.offset) (number_of l.operand) (number_of l.t0.reg) f v w → KeepsOthers l v w
kept l v w k = record { regs = k.regs; mem = k.mem; are_values = k.are_values }

-- ---- a number is combined

-- the pieces that make the field, and on
abbrev making : AtomicLoop → AtomicRmwOp → ℕ → List Piece
making l op bits = merge_pieces 30 31 (number_of l.offset) (combined_in op (number_of l.t0.reg) (number_of l.operand)) bits ++ store_and_retry bits (number_of l.t0.reg) (number_of l.address) 30 []

-- those that combine a part, and those that combine the whole
abbrev of_part : AtomicLoop → AtomicRmwOp → ℕ → List Piece
of_part l op bits =
    take_field (number_of l.dst.reg) (number_of l.offset) (takes_signed op) bits ++ combine_pieces op (number_of l.t0.reg) (number_of l.dst.reg) (number_of l.operand)
    ++ merge_pieces 30 31 (number_of l.offset) (combined_in op (number_of l.t0.reg) (number_of l.operand)) bits ++ store_and_retry bits (number_of l.t0.reg) (number_of l.address) 30 []

abbrev of_whole : AtomicLoop → AtomicRmwOp → ℕ → List Piece
of_whole l op bits = combine_pieces op (number_of l.t0.reg) (number_of l.dst.reg) (number_of l.operand) ++ store_and_retry bits (number_of l.t0.reg) (number_of l.address) (number_of l.t0.reg) []

-- by whether it is the whole
module _ (l : AtomicLoop) (op : AtomicRmwOp) (bits : ℕ) (v : Values) (c : Bool) where
  abbrev start_by : ℕ
  start_by = if c then 0 else reg v (number_of l.offset) % 64

  abbrev old_by : ℕ
  old_by = if c then reg v (number_of l.dst.reg) else extended (takes_signed op) bits (reg v (number_of l.dst.reg) / 2 ^ start_by)

  abbrev number_by : ℕ
  number_by = if c then combined op old_by (reg v (number_of l.operand)) else wrap (with_part start_by bits (combined op old_by (reg v (number_of l.operand))) (reg v (number_of l.dst.reg)))

  abbrev stored_by : ℕ
  stored_by = if c then number_of l.t0.reg else 30

-- what is said by whether it is the whole is what is said of a pass at its store
at_store : {v w : Values} (l : AtomicLoop) (op : AtomicRmwOp) (ty : IrType) (c : Bool) → is_whole (Combines op) (bits_of ty) ≡ c → reg w (number_of l.dst.reg) ≡ old_by l op (bits_of ty) v c → reg w (stored_by l op (bits_of ty) v c) ≡ number_by l op (bits_of ty) v c → KeepsOthers (loop_of l (Combines op) ty) v w →
    AtStore (loop_of l (Combines op) ty) v w
at_store {v} {w} l op ty c is old number others = record {
  old = old ∙ (λ i. old_by l op (bits_of ty) v (sym is i));
  number = (λ i. reg w (stored_by l op (bits_of ty) v (is i))) ∙ number ∙ (λ i. number_by l op (bits_of ty) v (sym is i));
  others = others;
  goes_on = tt;
}

stores_by : {env : Environment} {v : Values} (l : AtomicLoop) (op : AtomicRmwOp) (ty : IrType) (c : Bool) → is_whole (Combines op) (bits_of ty) ≡ c →
    Within 17 env (loop_pieces (loop_of l (Combines op) ty)) (point (if c then of_whole l op (bits_of ty) else of_part l op (bits_of ty)) v) (store_and_retry (bits_of ty) (number_of l.t0.reg) (number_of l.address) (stored_by l op (bits_of ty) v c) []) (AtStore (loop_of l (Combines op) ty) v) →
    PassEnds env (loop_of l (Combines op) ty) v
stores_by {env} {v} l op ty c is r = stores (subst (λ c. Within 17 env (loop_pieces (loop_of l (Combines op) ty)) (point (if c then of_whole l op (bits_of ty) else of_part l op (bits_of ty)) v) (store_and_retry (bits_of ty) (number_of l.t0.reg) (number_of l.address) (stored_by l op (bits_of ty) v c) []) (AtStore (loop_of l (Combines op) ty) v)) (sym is) r)

-- a part is combined
part_ends : (env : Environment) (op : AtomicRmwOp) (ty : IrType) (l : AtomicLoop) (v : Values) → is_whole (Combines op) (bits_of ty) ≡ false → ArePlaced op (loop_pieces (loop_of l (Combines op) ty)) (number_of l.t0.reg) (number_of l.dst.reg) (making l op (bits_of ty)) → IsFineAtomicLoop (loop_of l (Combines op) ty) → AreValues v →
    PassEnds env (loop_of l (Combines op) ty) v
part_ends env op ty l v not_whole places h vs =
    let takes = take_field (number_of l.dst.reg) (number_of l.offset) (takes_signed op) (bits_of ty) in
    let combine = combine_pieces op (number_of l.t0.reg) (number_of l.dst.reg) (number_of l.operand) in
    let merge = merge_pieces 30 31 (number_of l.offset) (combined_in op (number_of l.t0.reg) (number_of l.operand)) (bits_of ty) in
    let store = store_and_retry (bits_of ty) (number_of l.t0.reg) (number_of l.address) 30 [] in
    let order : of_part l op (bits_of ty) ≡ takes ++ (combine ++ (merge ++ store)) = append_assoc (takes ++ combine) merge store ∙ append_assoc takes combine (merge ++ store) in
    stores_by l op ty false not_whole (subst (λ qs. Within 17 env (loop_pieces (loop_of l (Combines op) ty)) (point qs v) store (AtStore (loop_of l (Combines op) ty) v)) (sym order)
    (such_too (λ w k. at_store l op ty false not_whole k.old k.number (kept (loop_of l (Combines op) ty) v w k)) (combines_part op ty (number_of l.dst.reg) (number_of l.offset) (number_of l.operand) (number_of l.t0.reg) v h.typed (apart_of (loop_of l (Combines op) ty) h) vs places)))

-- the whole number is combined, by nand
whole_ends : (env : Environment) (ty : IrType) (l : AtomicLoop) (v : Values) → is_wide (bits_of ty) ≡ true → IsFineAtomicLoop (loop_of l (Combines Nand) ty) → AreValues v → PassEnds env (loop_of l (Combines Nand) ty) v
whole_ends env ty l v wide h vs =
    let apart = apart_of (loop_of l (Combines Nand) ty) h in
    stores_by l Nand ty true wide (in_more 17 (lit≤ tt) (such_too
    (λ w k. at_store l Nand ty true wide (k.others (number_of l.dst.reg) (λ same. apart.t0_dst (sym same))) k.holds (record { regs = λ j lt not_dst not_t0. k.others j not_t0; mem = k.mem; are_values = k.are_values }))
    (inverts (number_of l.t0.reg) (number_of l.dst.reg) (number_of l.operand) v vs apart.t0_some (let low = apart.t0_low in omega arith))))

-- where a choice's labels stand
abbrev IsChoicePlaced : IntCC → Bool → ℕ → ℕ → ℕ → ℕ → ℕ → ℕ → Type 0
IsChoicePlaced how signed dst offset p x t0 bits =
    AreChoices (labels_for Umin ++ Bind 0 ∷ loop_load bits dst p ∷ (take_field dst offset signed bits ++ choose_pieces how t0 dst x ++ merge_pieces 30 31 offset t0 bits ++ store_and_retry bits t0 p 30 [])) t0 dst (merge_pieces 30 31 offset t0 bits ++ store_and_retry bits t0 p 30 [])

choice_placed : (how : IntCC) (signed : Bool) (ty : IrType) (dst offset p x t0 : ℕ) → is_int_type ty ≡ true → IsChoicePlaced how signed dst offset p x t0 (bits_of ty)
choice_placed how true ty dst offset p x t0 int = each_width (IsChoicePlaced how true dst offset p x t0) (refl, refl) (refl, refl) (refl, refl) (refl, refl) ty int
choice_placed how false ty dst offset p x t0 int = each_width (IsChoicePlaced how false dst offset p x t0) (refl, refl) (refl, refl) (refl, refl) (refl, refl) ty int

choice_of : (how : IntCC) (signed : Bool) (ty : IrType) (l : AtomicLoop) → is_int_type ty ≡ true → IsChoicePlaced how signed (number_of l.dst.reg) (number_of l.offset) (number_of l.address) (number_of l.operand) (number_of l.t0.reg) (bits_of ty)
choice_of how signed ty l = choice_placed how signed ty (number_of l.dst.reg) (number_of l.offset) (number_of l.address) (number_of l.operand) (number_of l.t0.reg)

combining_ends : (env : Environment) (op : AtomicRmwOp) (ty : IrType) (l : AtomicLoop) (v : Values) → IsFineAtomicLoop (loop_of l (Combines op) ty) → AreValues v → PassEnds env (loop_of l (Combines op) ty) v
combining_ends env Add ty l v h = part_ends env Add ty l v refl tt h
combining_ends env Sub ty l v h = part_ends env Sub ty l v refl tt h
combining_ends env And ty l v h = part_ends env And ty l v refl tt h
combining_ends env Nand ty l v h = (elim (is_wide (bits_of ty)) as (λ c. is_wide (bits_of ty) ≡ c → AreValues v → PassEnds env (loop_of l (Combines Nand) ty) v) [ true ↦ λ wide. whole_ends env ty l v wide h | false ↦ λ narrow. part_ends env Nand ty l v narrow tt h ]) refl
combining_ends env Or ty l v h = part_ends env Or ty l v refl tt h
combining_ends env Xor ty l v h = part_ends env Xor ty l v refl tt h
combining_ends env Xchg ty l v h = part_ends env Xchg ty l v refl tt h
combining_ends env Umin ty l v h = part_ends env Umin ty l v refl (choice_of UnsignedLessThan false ty l h.typed) h
combining_ends env Umax ty l v h = part_ends env Umax ty l v refl (choice_of UnsignedGreaterThan false ty l h.typed) h
combining_ends env Smin ty l v h = part_ends env Smin ty l v refl (choice_of SignedLessThan true ty l h.typed) h
combining_ends env Smax ty l v h = part_ends env Smax ty l v refl (choice_of SignedGreaterThan true ty l h.typed) h

-- ---- a number is swapped

-- the expected number's register is below x30, too, and isn't dst
expected_apart : (l : AtomicLoop) (expected : Reg) (ty : IrType) → IsFineAtomicLoop (loop_of l (Swaps expected) ty) → (number_of expected < 30) × (number_of l.dst.reg ≢ number_of expected)
expected_apart l expected ty h = (h.inputs.1.1.1.0.1, h.dst_apart.1.1.1.0)

-- what has written dst at most, and x30 and x31
left_others : (l : AtomicLoop) (v w : Values) → ((k : ℕ) → k < 30 → k ≢ number_of l.dst.reg → reg w k ≡ reg v k) → w.mem ≡ v.mem → AreValues w → KeepsOthers l v w
left_others l v w others mem are_values = record { regs = λ k lt not_dst not_t0. others k lt not_dst; mem = mem; are_values = are_values }

swapping_ends : (env : Environment) (expected : Reg) (ty : IrType) (l : AtomicLoop) (v : Values) → IsFineAtomicLoop (loop_of l (Swaps expected) ty) → AreValues v → PassEnds env (loop_of l (Swaps expected) ty) v
swapping_ends env expected I8 l v h vs =
    let e = expected_apart l expected I8 h in
    ends (ends_in_more 17 (lit≤ tt) (swaps_part I8 (number_of expected) (number_of l.dst.reg) (number_of l.offset) (number_of l.operand) (number_of l.t0.reg) v refl (apart_of (loop_of l (Swaps expected) I8) h) e.0 e.1 vs refl
    (λ w k same. record { old = k.old; number = k.number; others = kept (loop_of l (Swaps expected) I8) v w k; goes_on = same })
    (λ w k differs. record { old = k.old; others = left_others (loop_of l (Swaps expected) I8) v w k.others k.mem k.are_values; differs = differs })))
swapping_ends env expected I16 l v h vs =
    let e = expected_apart l expected I16 h in
    ends (ends_in_more 17 (lit≤ tt) (swaps_part I16 (number_of expected) (number_of l.dst.reg) (number_of l.offset) (number_of l.operand) (number_of l.t0.reg) v refl (apart_of (loop_of l (Swaps expected) I16) h) e.0 e.1 vs refl
    (λ w k same. record { old = k.old; number = k.number; others = kept (loop_of l (Swaps expected) I16) v w k; goes_on = same })
    (λ w k differs. record { old = k.old; others = left_others (loop_of l (Swaps expected) I16) v w k.others k.mem k.are_values; differs = differs })))
swapping_ends env expected I32 l v h vs =
    let apart = apart_of (loop_of l (Swaps expected) I32) h in
    let old = reg v (number_of l.dst.reg) / 2 ^ 0 % 2 ^ 32 in
    let is : reg v (number_of l.dst.reg) % 2 ^ 32 ≡ old = omega arith in
    ends (ends_in_more 17 (lit≤ tt) (swaps_whole old (number_of expected) (number_of l.dst.reg) v (expected_apart l expected I32 h).1 refl
    (such_too (λ w. sets_that is) (extends false 32 (number_of l.dst.reg) (number_of l.dst.reg) v (lit≤ tt) (lit≤ tt) vs apart.dst_some (let low = apart.dst_low in omega arith)))
    (λ w k same. record { old = k.holds; number = k.others (number_of l.operand) (λ s. apart.dst_x (sym s)); others = left_others (loop_of l (Swaps expected) I32) v w (λ j lt. k.others j) k.mem k.are_values; goes_on = same })
    (λ w k differs. record { old = k.holds; others = left_others (loop_of l (Swaps expected) I32) v w (λ j lt. k.others j) k.mem k.are_values; differs = differs })))
swapping_ends env expected I64 l v h vs =
    let apart = apart_of (loop_of l (Swaps expected) I64) h in
    let old = reg v (number_of l.dst.reg) / 2 ^ 0 % 2 ^ 64 in
    let is : reg v (number_of l.dst.reg) ≡ old = (let fits = vs.fits (number_of l.dst.reg) in omega arith) in
    ends (ends_in_more 17 (lit≤ tt) (swaps_whole old (number_of expected) (number_of l.dst.reg) v (expected_apart l expected I64 h).1 refl
    (record { count = 0; values = v; few = lit≤ tt; ran = refl; such = record { holds = is; others = λ k other. refl; mem = refl; are_values = vs } })
    (λ w k same. record { old = k.holds; number = k.others (number_of l.operand) (λ s. apart.dst_x (sym s)); others = left_others (loop_of l (Swaps expected) I64) v w (λ j lt. k.others j) k.mem k.are_values; goes_on = same })
    (λ w k differs. record { old = k.holds; others = left_others (loop_of l (Swaps expected) I64) v w (λ j lt. k.others j) k.mem k.are_values; differs = differs })))
swapping_ends env expected I128 l v h vs = let typed = h.typed in absurd (cc)
swapping_ends env expected F16 l v h vs = let typed = h.typed in absurd (cc)
swapping_ends env expected F32 l v h vs = let typed = h.typed in absurd (cc)
swapping_ends env expected F64 l v h vs = let typed = h.typed in absurd (cc)
swapping_ends env expected F128 l v h vs = let typed = h.typed in absurd (cc)
swapping_ends env expected (Vector lanes) l v h vs = let typed = h.typed in absurd (cc)

-- ---- both

ends_by : (env : Environment) (change : Change) (ty : IrType) (l : AtomicLoop) (v : Values) → IsFineAtomicLoop (loop_of l change ty) → AreValues v → PassEnds env (loop_of l change ty) v
ends_by env (Combines op) ty l v h vs = combining_ends env op ty l v h vs
ends_by env (Swaps expected) ty l v h vs = swapping_ends env expected ty l v h vs

pub passes_end : (env : Environment) (l : AtomicLoop) (v : Values) → IsFineAtomicLoop l → AreValues v → PassEnds env l v
passes_end env l v h vs = ends_by env l.change l.ty l v h vs
