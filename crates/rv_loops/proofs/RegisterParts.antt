-- The pieces that take a part out of a register, that make a mask, and that put other bits in a part's place: what they leave, and how many
-- they are.
use Rattle.std.proofs.Common.{◌≡◌, ◌≢◌, ℕ, zero, suc, ◌+◌, ◌-◌, ◌*◌, ◌/◌, ◌%◌, ◌^◌, ◌<◌, ◌≤◌, Bool, true, false, not, if◌then◌else◌, ℤ, pos, negsuc, List, [], ◌∷◌, ◌++◌, Some, None, append_assoc, arith, refl, sym, ap, subst, ◌∙◌, lit<, lit≤, eqb-true, bit_and}
use Rattle.std.specs.Prelude.{bit_or, bit_xor}
use Rattle.std.{proofs.lemmas.Int.ints, proofs.lemmas.Nat.{and_mask, mod_below}, proofs.lemmas.Option.same_Some}
use Rattle.rv_base.specs.IrType.{bits_of}
use Rattle.rv_base.specs.declared.ir_type.IrType.{IrType}
use Rattle.rv_base.specs.declared.ir_type.IrType.TheVariants.{I8, I16, I32, I64, I128, F16, F32, F64, F128, Vector}
use Rattle.rv_machine.proofs.Ranges.{alu_result_fits}
use Rattle.rv_machine.specs.Effects.{alu_result}
use Rattle.rv_machine.specs.State.{AreValues, Values, low64, reg, set_reg, wrap}
use Rattle.rv_ops.specs.Operations.{is_carry_line, is_carry_unary, is_exchanged, rri_op, rrr_op}
use Rattle.rv_ops.specs.declared.alu.AluOPRRI.{AluOPRRI}
use Rattle.rv_ops.specs.declared.alu.AluOPRRI.TheVariants.{Addi, Andi, Slli, Xori}
use Rattle.rv_ops.specs.declared.alu.AluOPRRR.{AluOPRRR}
use Rattle.rv_ops.specs.declared.alu.AluOPRRR.TheVariants as alu
use Rattle.rv_inst.proofs.Parts.{complemented, part_cleared, part_put}
use Rattle.rv_inst.specs.Bits.{extended}
use Rattle.rv_inst.specs.Classes.{is_int_type}
use Rattle.rv_inst.specs.Fields.{with_part, without_part}
use Rattle.rv_inst.specs.Meaning.{Environment, alu_rri, alu_rrr}
use Rattle.rv_inst.specs.Sizes.{is_byte, right_shift}
use Rattle.rv_code.proofs.Registers.{are_values_set, reads_back, reads_other}
use Rattle.rv_code.specs.AtomicLoops.{extract_pieces, mask_pieces, merge_pieces}
use Rattle.rv_code.specs.Choices.{extend_pieces}
use Rattle.rv_code.specs.Evaluation.{Point, and_then, evaluate, next, point}
use Rattle.rv_code.specs.Pieces.{Do, Piece, Rri, Rrr}
use Rattle.rv_loops.proofs.Extensions.{extended_by, right_shift_is}

-- ---- evaluations of so many pieces

-- in at most so many pieces of a whole the evaluation comes where these are ahead, with such values
pub record Within (most : ℕ) (env : Environment) (whole : List Piece) (p : Point) (ps : List Piece) (Such : Values → Type 0) : Type 0 where
  pub count : ℕ
  pub values : Values
  pub few : count ≤ most
  pub ran : evaluate env count whole p ≡ Some (point ps values)
  pub such : Such values

pub evaluate_both : (env : Environment) (m n : ℕ) (whole : List Piece) (p q r : Point) → evaluate env m whole p ≡ Some q → evaluate env n whole q ≡ Some r → evaluate env (m + n) whole p ≡ Some r
evaluate_both env zero n whole p q r e f = let none : 0 + n ≡ n = omega arith in ap (λ k. evaluate env k whole p) none ∙ subst (λ o. evaluate env n whole o ≡ Some r) (sym (same_Some p q e)) f
evaluate_both env (suc m) n whole p q r e f =
    let more : suc m + n ≡ suc (m + n) = omega arith in
    ap (λ k. evaluate env k whole p) more ∙ (elim (next env whole p.ahead p.values p.written) as (λ o. and_then o (evaluate env m whole) ≡ Some q → and_then o (evaluate env (m + n) whole) ≡ Some r) [ None ↦ λ e. absurd (cc) | Some t ↦ λ e. evaluate_both env m n whole t q r e f ]) e

-- and then in so many more
pub joined : {m n : ℕ} {env : Environment} {whole ps qs : List Piece} {p : Point} {Such Such' : Values → Type 0} (r : Within m env whole p ps Such) → Within n env whole (point ps r.values) qs Such' → Within (m + n) env whole p qs Such'
joined {env = env} {whole = whole} {ps = ps} {qs = qs} {p = p} r d = record {
  count = r.count + d.count;
  values = d.values;
  few = (let a = r.few in let b = d.few in omega arith);
  ran = evaluate_both env r.count d.count whole p (point ps r.values) (point qs d.values) r.ran d.ran;
  such = d.such;
}

pub goes_on : {m n : ℕ} {env : Environment} {whole ps qs : List Piece} {p : Point} {Such Such' : Values → Type 0} → Within m env whole p ps Such → ((w : Values) → Such w → Within n env whole (point ps w) qs Such') → Within (m + n) env whole p qs Such'
goes_on r on = joined r (on r.values r.such)

pub such_too : {m : ℕ} {env : Environment} {whole ps : List Piece} {p : Point} {Such Such' : Values → Type 0} → ((w : Values) → Such w → Such' w) → Within m env whole p ps Such → Within m env whole p ps Such'
such_too so r = record { count = r.count; values = r.values; few = r.few; ran = r.ran; such = so r.values r.such }

pub in_more : {m : ℕ} {env : Environment} {whole ps : List Piece} {p : Point} {Such : Values → Type 0} (n : ℕ) → m ≤ n → Within m env whole p ps Such → Within n env whole p ps Such
in_more n le r = record { count = r.count; values = r.values; few = (let a = r.few in omega arith); ran = r.ran; such = r.such }

-- ---- one operation

-- a register was written, and nothing else
pub record Sets (rd x : ℕ) (v w : Values) : Type 0 where
  pub holds : reg w rd ≡ x
  pub others : (k : ℕ) → k ≢ rd → reg w k ≡ reg v k
  pub mem : w.mem ≡ v.mem
  pub are_values : AreValues w

sets : (v : Values) (rd x : ℕ) → AreValues v → 0 < rd → rd < 32 → x < 2 ^ 64 → Sets rd x v (set_reg v rd x)
sets v rd x vs some lt fits = record { holds = reads_back v rd x vs some lt; others = λ k other. reads_other v rd k x other; mem = refl; are_values = are_values_set v rd x vs lt fits }

pub sets_that : {rd x y : ℕ} {v w : Values} → x ≡ y → Sets rd x v w → Sets rd y v w
sets_that is h = record { holds = h.holds ∙ is; others = h.others; mem = h.mem; are_values = h.are_values }

-- it is written twice
pub sets_again : {rd x y : ℕ} {v w u : Values} → Sets rd x v w → Sets rd y w u → Sets rd y v u
sets_again h k = record { holds = k.holds; others = λ n other. k.others n other ∙ h.others n other; mem = k.mem ∙ h.mem; are_values = k.are_values }

pub rrr_does : {env : Environment} {whole ps : List Piece} (op : AluOPRRR) (rd a b : ℕ) (v : Values) → is_carry_line op b ≡ false → AreValues v → 0 < rd → rd < 32 →
    Within 1 env whole (point (Do (Rrr op rd a b) ∷ ps) v) ps (Sets rd (alu_rrr op (reg v a) (reg v b)) v)
rrr_does {env} {whole} {ps} op rd a b v integer vs some lt =
    let x = reg v a in
    let y = reg v b in
    let z = alu_rrr op x y in
    let fits : z < 2 ^ 64 = elim (is_exchanged op) as (λ c. (if c then alu_result (rrr_op op) y x 0 else alu_result (rrr_op op) x y 0) < 2 ^ 64) [
      | true ↦ alu_result_fits (rrr_op op) y x 0 (vs.fits b) (vs.fits a) (lit< tt)
      | false ↦ alu_result_fits (rrr_op op) x y 0 (vs.fits a) (vs.fits b) (lit< tt)
    ] in
    record {
      count = 1;
      values = set_reg v rd z;
      few = lit≤ tt;
      ran = ap (λ c. and_then (if not c then Some (point ps (set_reg v rd z)) else None) (evaluate env 0 whole)) integer;
      such = sets v rd z vs some lt fits;
    }

pub rri_does : {env : Environment} {whole ps : List Piece} (op : AluOPRRI) (rd rs : ℕ) (imm : ℤ) (v : Values) → is_carry_unary op ≡ false → low64 imm < 2 ^ 64 → AreValues v → 0 < rd → rd < 32 →
    Within 1 env whole (point (Do (Rri op rd rs imm) ∷ ps) v) ps (Sets rd (alu_rri op (reg v rs) imm) v)
rri_does {env} {whole} {ps} op rd rs imm v integer small vs some lt =
    let z = alu_rri op (reg v rs) imm in
    record {
      count = 1;
      values = set_reg v rd z;
      few = lit≤ tt;
      ran = ap (λ c. and_then (if not c then Some (point ps (set_reg v rd z)) else None) (evaluate env 0 whole)) integer;
      such = sets v rd z vs some lt (alu_result_fits (rri_op op) (reg v rs) 0 (low64 imm) (vs.fits rs) (lit< tt) small);
    }

-- a register is moved, by addi of 0
pub moved : (v : Values) (rd rs : ℕ) → AreValues v → 0 < rd → rd < 32 → Sets rd (reg v rs) v (set_reg v rd (wrap (reg v rs + 0)))
moved v rd rs vs some lt =
    let fits = vs.fits rs in
    let same : wrap (reg v rs + 0) ≡ reg v rs = omega arith in
    sets_that same (sets v rd (wrap (reg v rs + 0)) vs some lt (omega arith))

pub moves : {env : Environment} {whole ps : List Piece} (rd rs : ℕ) (v : Values) → AreValues v → 0 < rd → rd < 32 → Within 1 env whole (point (Do (Rri Addi rd rs (pos 0)) ∷ ps) v) ps (Sets rd (reg v rs) v)
moves rd rs v vs some lt = record { count = 1; values = set_reg v rd (wrap (reg v rs + 0)); few = lit≤ tt; ran = refl; such = moved v rd rs vs some lt }

-- ---- extensions

pub extends : {env : Environment} {whole ps : List Piece} (signed : Bool) (bits rd rn : ℕ) (v : Values) → 1 ≤ bits → bits ≤ 64 → AreValues v → 0 < rd → rd < 32 →
    Within 2 env whole (point (extend_pieces rd rn signed bits ++ ps) v) ps (Sets rd (extended signed bits (reg v rn)) v)
extends {env} {whole} {ps} signed bits rd rn v one few vs some lt =
    let k = 64 - bits in
    let low : low64 (pos k) < 2 ^ 64 = omega (arith, ints) in
    let y = alu_rri Slli (reg v rn) (pos k) in
    (elim (is_byte signed bits) as (λ c. is_byte signed bits ≡ c →
    Within 2 env whole (point ((if c then Do (Rri Andi rd rn (pos 255)) ∷ [] else Do (Rri Slli rd rn (pos k)) ∷ Do (Rri (right_shift signed) rd rd (pos k)) ∷ []) ++ ps) v) ps (Sets rd (extended signed bits (reg v rn)) v)) [
      | true ↦ λ test.
          let is : alu_rri Andi (reg v rn) (pos 255) ≡ extended signed bits (reg v rn) =
          (elim signed as (λ c. is_byte c bits ≡ true → alu_rri Andi (reg v rn) (pos 255) ≡ extended c bits (reg v rn)) [ true ↦ λ test. absurd (cc) | false ↦ λ test. and_mask (reg v rn) 8 ∙ ap (λ n. reg v rn % 2 ^ n) (sym (eqb-true bits 8 test)) ]) test in
          in_more 2 (lit≤ tt) (such_too (λ w. sets_that is) (rri_does Andi rd rn (pos 255) v refl (lit< tt) vs some lt))
      | false ↦ λ test.
          goes_on (rri_does Slli rd rn (pos k) v refl low vs some lt)
          (λ w h. such_too (λ u second. sets_again h (sets_that (ap (λ x. alu_rri (right_shift signed) x (pos k)) h.holds ∙ extended_by (reg v rn) bits signed one few) second))
          (rri_does (right_shift signed) rd rd (pos k) w (right_shift_is signed) low h.are_values some lt))
    ]) refl

-- ---- a part taken out

pub extracts : {env : Environment} {whole ps : List Piece} (signed : Bool) (bits rd offset rs : ℕ) (v : Values) → 1 ≤ bits → bits ≤ 64 → AreValues v → 0 < rd → rd < 32 →
    Within 3 env whole (point (extract_pieces rd offset rs signed bits ++ ps) v) ps (Sets rd (extended signed bits (reg v rs / 2 ^ (reg v offset % 64))) v)
extracts signed bits rd offset rs v one few vs some lt =
    goes_on (rrr_does alu.Srl rd rs offset v refl vs some lt)
    (λ w h. such_too (λ u k. sets_again h (sets_that (ap (extended signed bits) h.holds) k)) (extends signed bits rd rd w one few h.are_values some lt))

-- ---- a mask

-- what holds of 8, 16, 32 and 64 bits holds of those of integers
pub each_width : (P : ℕ → Type 0) → P 8 → P 16 → P 32 → P 64 → (ty : IrType) → is_int_type ty ≡ true → P (bits_of ty)
each_width P a b c d I8 e = a
each_width P a b c d I16 e = b
each_width P a b c d I32 e = c
each_width P a b c d I64 e = d
each_width P a b c d I128 e = absurd (cc)
each_width P a b c d F16 e = absurd (cc)
each_width P a b c d F32 e = absurd (cc)
each_width P a b c d F64 e = absurd (cc)
each_width P a b c d F128 e = absurd (cc)
each_width P a b c d (Vector v) e = absurd (cc)

pub some_bits : (ty : IrType) → is_int_type ty ≡ true → 1 ≤ bits_of ty
some_bits = each_width (λ bits. 1 ≤ bits) (lit≤ tt) (lit≤ tt) (lit≤ tt) (lit≤ tt)

pub few_bits : (ty : IrType) → is_int_type ty ≡ true → bits_of ty ≤ 64
few_bits = each_width (λ bits. bits ≤ 64) (lit≤ tt) (lit≤ tt) (lit≤ tt) (lit≤ tt)

-- that pieces make so many ones
abbrev Masks : Environment → List Piece → List Piece → ℕ → Values → List Piece → ℕ → Type 0
Masks env whole ps rd v qs bits = Within 3 env whole (point (qs ++ ps) v) ps (Sets rd (2 ^ bits - 1) v)

-- of 64 ones the low ones stay
narrowed : {env : Environment} {whole ps : List Piece} (bits rd : ℕ) (v : Values) → 1 ≤ bits → bits ≤ 64 → (2 ^ 64 - 1) % 2 ^ bits ≡ 2 ^ bits - 1 → AreValues v → 0 < rd → rd < 32 →
    Masks env whole ps rd v (Do (Rri Addi rd 0 (negsuc 0)) ∷ extend_pieces rd rd false bits) bits
narrowed bits rd v one few is vs some lt =
    goes_on (rri_does Addi rd 0 (negsuc 0) v refl (lit< tt) vs some lt)
    (λ w h. such_too (λ u k. sets_again h (sets_that (ap (λ x. x % 2 ^ bits) h.holds ∙ is) k)) (extends false bits rd rd w one few h.are_values some lt))

pub masks : {env : Environment} {whole ps : List Piece} (ty : IrType) (rd : ℕ) (v : Values) → is_int_type ty ≡ true → AreValues v → 0 < rd → rd < 32 →
    Within 3 env whole (point (mask_pieces rd (bits_of ty) ++ ps) v) ps (Sets rd (2 ^ bits_of ty - 1) v)
masks {env} {whole} {ps} ty rd v int vs some lt = each_width (λ bits. Masks env whole ps rd v (mask_pieces rd bits) bits)
    (in_more 3 (lit≤ tt) (rri_does Addi rd 0 (pos 255) v refl (lit< tt) vs some lt))
    (narrowed 16 rd v (lit≤ tt) (lit≤ tt) refl vs some lt)
    (narrowed 32 rd v (lit≤ tt) (lit≤ tt) refl vs some lt)
    (in_more 3 (lit≤ tt) (rri_does Addi rd 0 (negsuc 0) v refl (lit< tt) vs some lt))
    ty int

-- ---- other bits in a part's place, in x30 by way of x31

-- these numbers are in x30 and x31, and nothing else was written
record HasBoth (x y : ℕ) (v w : Values) : Type 0 where
  whole : reg w 30 ≡ x
  part : reg w 31 ≡ y
  others : (k : ℕ) → k < 30 → reg w k ≡ reg v k
  mem : w.mem ≡ v.mem
  are_values : AreValues w

set_part : {x y z t : ℕ} {v w u : Values} → HasBoth x y v w → t ≡ z → Sets 31 t w u → HasBoth x z v u
set_part h is k = record {
  whole = k.others 30 (λ e. absurd (omega arith)) ∙ h.whole;
  part = k.holds ∙ is;
  others = λ n lt. k.others n (λ e. omega arith) ∙ h.others n lt;
  mem = k.mem ∙ h.mem;
  are_values = k.are_values;
}

set_whole : {x y z t : ℕ} {v w u : Values} → HasBoth x y v w → t ≡ z → Sets 30 t w u → HasBoth z y v u
set_whole h is k = record {
  whole = k.holds ∙ is;
  part = k.others 31 (λ e. absurd (omega arith)) ∙ h.part;
  others = λ n lt. k.others n (λ e. omega arith) ∙ h.others n lt;
  mem = k.mem ∙ h.mem;
  are_values = k.are_values;
}

-- x30 was written, and x31 holds anything
pub record Merged (x : ℕ) (v w : Values) : Type 0 where
  pub holds : reg w 30 ≡ x
  pub others : (k : ℕ) → k < 30 → reg w k ≡ reg v k
  pub mem : w.mem ≡ v.mem
  pub are_values : AreValues w

-- zeros where the part is
masked : (o bits n : ℕ) → o ≤ 64 → n < 2 ^ 64 → bit_and n (bit_xor (wrap ((2 ^ bits - 1) * 2 ^ o)) (2 ^ 64 - 1)) ≡ without_part o bits n
masked o bits n le lt = ap (bit_and n) (complemented (wrap ((2 ^ bits - 1) * 2 ^ o)) (mod_below ((2 ^ bits - 1) * 2 ^ o) (2 ^ 64) (lit< tt))) ∙ part_cleared o bits n le lt

-- x31 is shifted left by the offset
shifts : {x y : ℕ} {env : Environment} {whole ps : List Piece} {v w : Values} (offset : ℕ) → offset < 30 → HasBoth x y v w → Within 1 env whole (point (Do (Rrr alu.Sll 31 31 offset) ∷ ps) w) ps (HasBoth x (wrap (y * 2 ^ (reg v offset % 64))) v)
shifts {w = w} offset low h = such_too (λ u. set_part h (λ i. wrap (h.part i * 2 ^ (h.others offset low i % 64)))) (rrr_does alu.Sll 31 31 offset w refl h.are_values (lit< tt) (lit< tt))

-- the part is cleared
clears : {env : Environment} {whole ps : List Piece} (ty : IrType) (offset : ℕ) (v : Values) → is_int_type ty ≡ true → AreValues v → offset < 30 →
    Within 6 env whole (point (mask_pieces 31 (bits_of ty) ++ Do (Rrr alu.Sll 31 31 offset) ∷ Do (Rri Xori 31 31 (negsuc 0)) ∷ Do (Rrr alu.And 30 30 31) ∷ ps) v) ps (λ w. (y : ℕ) × HasBoth (without_part (reg v offset % 64) (bits_of ty) (reg v 30)) y v w)
clears ty offset v int vs low =
    let n = reg v 30 in
    let o = reg v offset % 64 in
    let bits = bits_of ty in
    let small : o < 64 = mod_below (reg v offset) 64 (lit< tt) in
    let m = wrap ((2 ^ bits - 1) * 2 ^ o) in
    let c = bit_xor m (2 ^ 64 - 1) in
    let start : HasBoth n (reg v 31) v v = record { whole = refl; part = refl; others = λ k lt. refl; mem = refl; are_values = vs } in
    goes_on (such_too (λ w. set_part start refl) (masks ty 31 v int vs (lit< tt) (lit< tt)))
    (λ w h. goes_on (shifts offset low h)
    (λ w2 h2. goes_on (such_too (λ u. set_part h2 (ap (λ t. bit_xor t (2 ^ 64 - 1)) h2.part)) (rri_does Xori 31 31 (negsuc 0) w2 refl (lit< tt) h2.are_values (lit< tt) (lit< tt)))
    (λ w3 h3. such_too (λ u k. (c, set_whole h3 ((λ i. bit_and (h3.whole i) (h3.part i)) ∙ masked o bits n (omega arith) (vs.fits 30)) k)) (rrr_does alu.And 30 30 31 w3 refl h3.are_values (lit< tt) (lit< tt)))))

-- the low bits of a register are put where it is cleared
puts : {x y : ℕ} {env : Environment} {whole ps : List Piece} {v w : Values} (ty : IrType) (offset rs : ℕ) → is_int_type ty ≡ true → offset < 30 → rs < 30 → HasBoth x y v w →
    Within 4 env whole (point (extend_pieces 31 rs false (bits_of ty) ++ Do (Rrr alu.Sll 31 31 offset) ∷ Do (Rrr alu.Or 30 30 31) ∷ ps) w) ps (Merged (bit_or x (wrap (reg v rs % 2 ^ bits_of ty * 2 ^ (reg v offset % 64)))) v)
puts {x} {w = w} ty offset rs int low low_rs h =
    goes_on (such_too (λ u. set_part h (ap (λ t. t % 2 ^ bits_of ty) (h.others rs low_rs))) (extends false (bits_of ty) 31 rs w (some_bits ty int) (few_bits ty int) h.are_values (lit< tt) (lit< tt)))
    (λ w2 h2. goes_on (shifts offset low h2)
    (λ w3 h3. such_too (λ u k. let last = set_whole h3 (λ i. bit_or (h3.whole i) (h3.part i)) k in record { holds = last.whole; others = last.others; mem = last.mem; are_values = last.are_values }) (rrr_does alu.Or 30 30 31 w3 refl h3.are_values (lit< tt) (lit< tt))))

pub merges : {env : Environment} {whole ps : List Piece} (ty : IrType) (offset rs : ℕ) (v : Values) → is_int_type ty ≡ true → AreValues v → offset < 30 → rs < 30 →
    Within 10 env whole (point (merge_pieces 30 31 offset rs (bits_of ty) ++ ps) v) ps (Merged (wrap (with_part (reg v offset % 64) (bits_of ty) (reg v rs) (reg v 30))) v)
merges {env} {whole} {ps} ty offset rs v int vs low low_rs =
    let bits = bits_of ty in
    let n = reg v 30 in
    let o = reg v offset % 64 in
    let small : o < 64 = mod_below (reg v offset) 64 (lit< tt) in
    let shift = Do (Rrr alu.Sll 31 31 offset) in
    let mask = mask_pieces 31 bits in
    let clear = shift ∷ Do (Rri Xori 31 31 (negsuc 0)) ∷ Do (Rrr alu.And 30 30 31) ∷ [] in
    let extend = extend_pieces 31 rs false bits in
    let set = shift ∷ Do (Rrr alu.Or 30 30 31) ∷ [] in
    let order : merge_pieces 30 31 offset rs bits ++ ps ≡ mask ++ (clear ++ (extend ++ (set ++ ps))) =
    append_assoc (mask ++ clear) (extend ++ set) ps
    ∙ ap (λ qs. (mask ++ clear) ++ qs) (append_assoc extend set ps)
    ∙ append_assoc mask clear (extend ++ (set ++ ps)) in
    let Such = Merged (wrap (with_part o bits (reg v rs) n)) v in
    subst (λ qs. Within 10 env whole (point qs v) ps Such) (sym order)
    (goes_on (clears ty offset v int vs low)
    (λ w h. such_too (λ u k. record { holds = k.holds ∙ part_put o bits (reg v rs) n (omega arith) (vs.fits 30); others = k.others; mem = k.mem; are_values = k.are_values }) (puts ty offset rs int low low_rs h.1)))
