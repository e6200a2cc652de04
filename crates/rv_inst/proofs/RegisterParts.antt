-- What the instructions of parts of registers make of the values.
use Rattle.std.proofs.Common.{◌≡◌, ◌≢◌, ℕ, zero, suc, ◌-◌, ◌*◌, ◌/◌, ◌%◌, ◌^◌, ◌<◌, ◌≤◌, Bool, true, List, [], ◌∷◌, ◌++◌, length, refl, sym, ap, ◌∙◌, subst, arith, bit_and, lit<, ℤ, pos, negsuc, ◌≤ℤ◌}
use Rattle.std.specs.Prelude.{bit_or, bit_xor}
use lib.Dec.{T_prop}
use lib.Signed.{le_z}
use Rattle.std.proofs.lemmas.List.{get_or-set_other, length-set, set_comm}
use Rattle.std.proofs.lemmas.Nat.{mod_below}
use Rattle.rv_base.specs.declared.ir_type.IrType.{IrType}
use Rattle.rv_base.specs.declared.ir_type.IrType.TheVariants.{I8, I16, I32, I64, I128, F16, F32, F64, F128, Vector}
use Rattle.rv_base.specs.declared.regs.Reg.{Reg}
use Rattle.rv_base.specs.declared.regs.Writable.{Writable}
use Rattle.rv_base.specs.IrType.{bits_of}
use Rattle.rv_base.specs.Regs.{number_of}
use Rattle.rv_imms.specs.declared.imm12.Imm12.{Imm12}
use Rattle.rv_machine.specs.State.{Values, AreValues, reg, set_reg, wrap}
use Rattle.rv_ops.specs.declared.alu.AluOPRRR.TheVariants.{And, Sll}
use Rattle.rv_inst.specs.declared.inst.Inst.{Inst}
use Rattle.rv_inst.specs.declared.inst.Inst.TheVariants.{AluRRR}
use Rattle.rv_inst.specs.Bits.{extended}
use Rattle.rv_inst.specs.Classes.{is_int_type}
use Rattle.rv_inst.specs.Fields.{without_part, with_part, mask_insts, extract_insts, unset_insts, set_insts, merge_insts, not_of, part_start, SetsRegisterBy, IsNoneOf, Extracts, Unsets, Sets, Merges}
use Rattle.rv_inst.specs.Meaning.{Environment, Next, inst_effect}
use Rattle.rv_inst.specs.Sequences.{insts_effect, insts_exit, SetsRegister}
use Rattle.rv_inst.proofs.Parts.{complemented, part_cleared, part_put}
use Rattle.rv_inst.proofs.Sequences.{number_below, set_twice, reads_set}

-- ---- registers

-- another register is as it was
reads_other : (v : Values) (n m x : ℕ) → m ≢ n → reg (set_reg v n x) m ≡ reg v m
reads_other v zero m x other = refl
reads_other v (suc n) zero x other = refl
reads_other v (suc n) (suc m) x other = get_or-set_other v.regs n m x 0 (λ e. other (ap suc e))

count_set : (v : Values) (n x : ℕ) → length (set_reg v n x).regs ≡ length v.regs
count_set v zero x = refl
count_set v (suc n) x = length-set v.regs n x

-- two registers may be written in either order
set_apart : (v : Values) (n m x y : ℕ) → n ≢ m → set_reg (set_reg v n x) m y ≡ set_reg (set_reg v m y) n x
set_apart v zero m x y apart = refl
set_apart v (suc n) zero x y apart = refl
set_apart v (suc n) (suc m) x y apart = λ i. record { regs = set_comm v.regs n m x y (λ e. apart (ap suc e)) i; mem = v.mem }

-- what is computed of a register that was written
read_back : (v w : Values) (n x : ℕ) (f : ℕ → ℕ) → length v.regs ≡ 31 → n < 32 → set_reg w n (f (reg (set_reg v n x) n)) ≡ set_reg w n (f x)
read_back v w zero x f count lt = refl
read_back v w (suc n) x f count lt = ap (λ y. set_reg w (suc n) (f y)) (reads_set v (suc n) x count (omega arith) lt)

-- a register is written again, with what is computed of it
again : (v : Values) (n x : ℕ) (f : ℕ → ℕ) → length v.regs ≡ 31 → n < 32 → set_reg (set_reg v n x) n (f (reg (set_reg v n x) n)) ≡ set_reg v n (f x)
again v n x f count lt = set_twice v n x (f (reg (set_reg v n x) n)) ∙ read_back v v n x f count lt

-- ---- immediates

abbrev imm12 : (z : ℤ) → negsuc 2047 ≤ℤ z → z ≤ℤ pos 2047 → Imm12
imm12 z low high = record { value = z; low = low; high = high }

same_order : {a b : ℤ} (p q : a ≤ℤ b) → p ≡ q
same_order {a} {b} p q = λ i. record { le = T_prop (le_z a b) p.le q.le i }

-- an immediate is that of its value
pub imm12_is : (imm other : Imm12) → imm.value ≡ other.value → imm ≡ other
imm12_is imm other e =
    let at : ℤ → Type 0 = λ z. (low : negsuc 2047 ≤ℤ z) (high : z ≤ℤ pos 2047) → imm ≡ imm12 z low high in
    subst at e (λ low high i. imm12 imm.value (same_order imm.low low i) (same_order imm.high high i)) other.low other.high

-- ---- types

-- what holds of integers of 8, 16, 32 and 64 bits
each_int : (P : IrType → Type 0) → P I8 → P I16 → P I32 → P I64 → (ty : IrType) → is_int_type ty ≡ true → P ty
each_int P a b c d I8 e = a
each_int P a b c d I16 e = b
each_int P a b c d I32 e = c
each_int P a b c d I64 e = d
each_int P a b c d I128 e = absurd (cc)
each_int P a b c d F16 e = absurd (cc)
each_int P a b c d F32 e = absurd (cc)
each_int P a b c d F64 e = absurd (cc)
each_int P a b c d F128 e = absurd (cc)
each_int P a b c d (Vector v) e = absurd (cc)

-- ---- a mask

-- all 64 bits are ones, and then the low ones stay
narrowed : (v : Values) (n bits : ℕ) → length v.regs ≡ 31 → n < 32 → (2 ^ 64 - 1) % 2 ^ bits ≡ 2 ^ bits - 1 → set_reg (set_reg v n (2 ^ 64 - 1)) n (reg (set_reg v n (2 ^ 64 - 1)) n % 2 ^ bits) ≡ set_reg v n (2 ^ bits - 1)
narrowed v n bits count lt e = again v n (2 ^ 64 - 1) (λ x. x % 2 ^ bits) count lt ∙ ap (set_reg v n) e

pub mask_sets : (rd : Writable Reg) (ty : IrType) → is_int_type ty ≡ true → SetsRegister (mask_insts rd ty) (number_of rd.reg) (2 ^ bits_of ty - 1)
mask_sets rd ty int = each_int (λ t. SetsRegister (mask_insts rd t) (number_of rd.reg) (2 ^ bits_of t - 1))
    (record { effect = λ at v count. refl; onward = λ at v. refl })
    (record { effect = λ at v count. narrowed v (number_of rd.reg) 16 count (number_below rd.reg) refl; onward = λ at v. refl })
    (record { effect = λ at v count. narrowed v (number_of rd.reg) 32 count (number_below rd.reg) refl; onward = λ at v. refl })
    (record { effect = λ at v count. refl; onward = λ at v. refl })
    ty int

-- ---- a part taken out

pub extracts : (signed : Bool) (rd : Writable Reg) (offset rs : Reg) (ty : IrType) → Extracts signed rd offset rs ty (extract_insts signed rd offset rs ty)
extracts signed rd offset rs ty = record {
  effect = λ at v count. again v (number_of rd.reg) (reg v (number_of rs) / 2 ^ part_start offset v) (extended signed (bits_of ty)) count (number_below rd.reg);
  onward = λ at v. refl;
}

-- ---- a part cleared, and put

-- instructions after others: what these make of what the first made
effect_after : (at : ℕ → Environment) (xs ys : List Inst) (v : Values) → (next : ℕ → Environment) × (insts_effect at (xs ++ ys) v ≡ insts_effect next ys (insts_effect at xs v))
effect_after at [] ys v = (at, refl)
effect_after at (x ∷ xs) ys v = effect_after (λ k. at (suc k)) xs ys (inst_effect (at 0) x v)

-- a temporary is shifted left by the offset, which it isn't
moved : (v : Values) (tmp offset x : ℕ) → length v.regs ≡ 31 → tmp < 32 → tmp ≢ offset →
    set_reg (set_reg v tmp x) tmp (wrap (reg (set_reg v tmp x) tmp * 2 ^ (reg (set_reg v tmp x) offset % 64))) ≡ set_reg v tmp (wrap (x * 2 ^ (reg v offset % 64)))
moved v tmp offset x count lt apart =
    ap (λ o. set_reg (set_reg v tmp x) tmp (wrap (reg (set_reg v tmp x) tmp * 2 ^ (o % 64)))) (reads_other v tmp offset x (λ e. apart (sym e)))
    ∙ again v tmp x (λ t. wrap (t * 2 ^ (reg v offset % 64))) count lt

-- an operation of a register and of the temporary, which it isn't
met : (v : Values) (tmp rd y : ℕ) (f : ℕ → ℕ → ℕ) → length v.regs ≡ 31 → 0 < tmp → tmp < 32 → tmp ≢ rd →
    set_reg (set_reg v tmp y) rd (f (reg (set_reg v tmp y) rd) (reg (set_reg v tmp y) tmp)) ≡ set_reg (set_reg v tmp y) rd (f (reg v rd) y)
met v tmp rd y f count some lt apart =
    λ i. set_reg (set_reg v tmp y) rd (f (reads_other v tmp rd y (λ e. apart (sym e)) i) (reads_set v tmp y count some lt i))

-- what unset leaves in its temporary: zeros where the part is
kept_mask : ℕ → ℕ → ℕ
kept_mask o bits = bit_xor (wrap ((2 ^ bits - 1) * 2 ^ o)) (2 ^ 64 - 1)

masked : (o bits n : ℕ) → o ≤ 64 → n < 2 ^ 64 → bit_and n (kept_mask o bits) ≡ without_part o bits n
unfolding kept_mask
masked o bits n le lt = ap (bit_and n) (complemented (wrap ((2 ^ bits - 1) * 2 ^ o)) (mod_below ((2 ^ bits - 1) * 2 ^ o) (2 ^ 64) (lit< tt))) ∙ part_cleared o bits n le lt

-- the three that follow the mask
cleared : (at : ℕ → Environment) (v : Values) (rd tmp : Writable Reg) (offset : Reg) (bits : ℕ) → AreValues v → 0 < number_of tmp.reg → IsNoneOf tmp.reg (rd.reg ∷ offset ∷ []) →
    insts_effect at (AluRRR Sll tmp tmp.reg offset ∷ not_of tmp tmp.reg ∷ AluRRR And rd rd.reg tmp.reg ∷ []) (set_reg v (number_of tmp.reg) (2 ^ bits - 1))
    ≡ set_reg (set_reg v (number_of tmp.reg) (kept_mask (part_start offset v) bits)) (number_of rd.reg) (without_part (part_start offset v) bits (reg v (number_of rd.reg)))
unfolding kept_mask
cleared at v rd tmp offset bits vs some apart =
    let t = number_of tmp.reg in
    let r = number_of rd.reg in
    let lt = number_below tmp.reg in
    let o = part_start offset v in
    let complement : ℕ → ℕ = λ m. bit_xor m (2 ^ 64 - 1) in
    let low = mod_below (reg v (number_of offset)) 64 (lit< tt) in
    ap (λ w. set_reg (set_reg w t (complement (reg w t))) r (bit_and (reg (set_reg w t (complement (reg w t))) r) (reg (set_reg w t (complement (reg w t))) t))) (moved v t (number_of offset) (2 ^ bits - 1) vs.count lt apart.1.0)
    ∙ ap (λ w. set_reg w r (bit_and (reg w r) (reg w t))) (again v t (wrap ((2 ^ bits - 1) * 2 ^ o)) complement vs.count lt)
    ∙ met v t r (kept_mask o bits) bit_and vs.count some lt apart.0
    ∙ ap (set_reg (set_reg v t (kept_mask o bits)) r) (masked o bits (reg v r) (omega (arith, low)) (vs.fits r))

pub unsets : (rd tmp : Writable Reg) (offset : Reg) (ty : IrType) → is_int_type ty ≡ true → Unsets rd tmp offset ty (unset_insts rd tmp offset ty)
unsets rd tmp offset ty int some apart = record { left = λ v. kept_mask (part_start offset v) (bits_of ty); effect = effect; onward = onward }
  where
    effect : (at : ℕ → Environment) (v : Values) → AreValues v →
        insts_effect at (unset_insts rd tmp offset ty) v
        ≡ set_reg (set_reg v (number_of tmp.reg) (kept_mask (part_start offset v) (bits_of ty))) (number_of rd.reg) (without_part (part_start offset v) (bits_of ty) (reg v (number_of rd.reg)))
    effect at v vs =
        let rest = AluRRR Sll tmp tmp.reg offset ∷ not_of tmp tmp.reg ∷ AluRRR And rd rd.reg tmp.reg ∷ [] in
        let after = effect_after at (mask_insts tmp ty) rest v in
        after.1
        ∙ ap (insts_effect after.0 rest) ((mask_sets tmp ty int).effect at v vs.count)
        ∙ cleared after.0 v rd tmp offset (bits_of ty) vs some apart

    onward : (at : ℕ → Environment) (v : Values) → insts_exit at (unset_insts rd tmp offset ty) v ≡ Next
    onward = each_int (λ type. (at : ℕ → Environment) (v : Values) → insts_exit at (unset_insts rd tmp offset type) v ≡ Next) (λ at v. refl) (λ at v. refl) (λ at v. refl) (λ at v. refl) ty int

-- what set makes, whose temporary holds what it puts
put_effect : (at : ℕ → Environment) (v : Values) (rd tmp : Writable Reg) (offset rs : Reg) (ty : IrType) → length v.regs ≡ 31 → 0 < number_of tmp.reg → IsNoneOf tmp.reg (rd.reg ∷ offset ∷ []) →
    insts_effect at (set_insts rd tmp offset rs ty) v
    ≡ set_reg (set_reg v (number_of tmp.reg) (wrap (reg v (number_of rs) % 2 ^ bits_of ty * 2 ^ part_start offset v))) (number_of rd.reg) (bit_or (reg v (number_of rd.reg)) (wrap (reg v (number_of rs) % 2 ^ bits_of ty * 2 ^ part_start offset v)))
put_effect at v rd tmp offset rs ty count some apart =
    let t = number_of tmp.reg in
    let r = number_of rd.reg in
    let lt = number_below tmp.reg in
    let x = reg v (number_of rs) % 2 ^ bits_of ty in
    ap (λ w. set_reg w r (bit_or (reg w r) (reg w t))) (moved v t (number_of offset) x count lt apart.1.0)
    ∙ met v t r (wrap (x * 2 ^ part_start offset v)) bit_or count some lt apart.0

pub sets : (rd tmp : Writable Reg) (offset rs : Reg) (ty : IrType) → Sets rd tmp offset rs ty (set_insts rd tmp offset rs ty)
sets rd tmp offset rs ty some apart = record {
  left = λ v. wrap (reg v (number_of rs) % 2 ^ bits_of ty * 2 ^ part_start offset v);
  effect = λ at v vs. put_effect at v rd tmp offset rs ty vs.count some apart;
  onward = λ at v. refl;
}

-- ---- both

-- what was last written of a temporary and a register stays
last_stays : (v : Values) (t r a n b z : ℕ) → t ≢ r → set_reg (set_reg (set_reg (set_reg v t a) r n) t b) r z ≡ set_reg (set_reg v t b) r z
last_stays v t r a n b z apart =
    ap (λ w. set_reg w r z) (set_apart (set_reg v t a) r t n b (λ e. apart (sym e)))
    ∙ set_twice (set_reg (set_reg v t a) t b) r n z
    ∙ ap (λ w. set_reg w r z) (set_twice v t a b)

pub merges : (rd tmp : Writable Reg) (offset rs : Reg) (ty : IrType) → is_int_type ty ≡ true → Merges rd tmp offset rs ty (merge_insts rd tmp offset rs ty)
merges rd tmp offset rs ty int some free kept = record { left = put; effect = effect; onward = onward }
  where
    t : ℕ
    t = number_of tmp.reg

    r : ℕ
    r = number_of rd.reg

    apart : IsNoneOf tmp.reg (rd.reg ∷ offset ∷ [])
    apart = (free.0, (free.1.0, tt))

    first : SetsRegisterBy (unset_insts rd tmp offset ty) (number_of tmp.reg) (number_of rd.reg) (λ v. without_part (part_start offset v) (bits_of ty) (reg v (number_of rd.reg)))
    first = unsets rd tmp offset ty int some apart

    without : Values → ℕ
    without v = without_part (part_start offset v) (bits_of ty) (reg v r)

    put : Values → ℕ
    put v = wrap (reg v (number_of rs) % 2 ^ bits_of ty * 2 ^ part_start offset v)

    -- the values after the first, with the temporary, and then with the register
    begun : Values → Values
    begun v = set_reg v t (first.left v)

    between : Values → Values
    between v = set_reg (begun v) r (without v)

    begun_count : (v : Values) → length v.regs ≡ 31 → length (begun v).regs ≡ 31
    begun_count v count = count_set v t (first.left v) ∙ count

    unchanged : (v : Values) (other : Reg) → number_of tmp.reg ≢ number_of other → number_of rd.reg ≢ number_of other → reg (between v) (number_of other) ≡ reg v (number_of other)
    unchanged v other not_tmp not_rd =
        reads_other (begun v) r (number_of other) (without v) (λ e. not_rd (sym e)) ∙ reads_other v t (number_of other) (first.left v) (λ e. not_tmp (sym e))

    same : (v : Values) → put (between v) ≡ put v
    same v = λ i. wrap (unchanged v rs free.1.1.0 kept.1.0 i % 2 ^ bits_of ty * 2 ^ (unchanged v offset free.1.0 kept.0 i % 64))

    -- what the second then leaves in the register
    value : (v : Values) → AreValues v → set_reg (set_reg (between v) t (put v)) r (bit_or (reg (between v) r) (put v)) ≡ set_reg (set_reg (between v) t (put v)) r (wrap (with_part (part_start offset v) (bits_of ty) (reg v (number_of rs)) (reg v r)))
    value v vs =
        let low = mod_below (reg v (number_of offset)) 64 (lit< tt) in
        read_back (begun v) (set_reg (between v) t (put v)) r (without v) (λ n. bit_or n (put v)) (begun_count v vs.count) (number_below rd.reg)
        ∙ ap (set_reg (set_reg (between v) t (put v)) r) (part_put (part_start offset v) (bits_of ty) (reg v (number_of rs)) (reg v r) (omega (arith, low)) (vs.fits r))

    effect : (at : ℕ → Environment) (v : Values) → AreValues v →
        insts_effect at (merge_insts rd tmp offset rs ty) v ≡ set_reg (set_reg v t (put v)) r (wrap (with_part (part_start offset v) (bits_of ty) (reg v (number_of rs)) (reg v r)))
    effect at v vs =
        let after = effect_after at (unset_insts rd tmp offset ty) (set_insts rd tmp offset rs ty) v in
        let count = count_set (begun v) r (without v) ∙ begun_count v vs.count in
        after.1
        ∙ ap (insts_effect after.0 (set_insts rd tmp offset rs ty)) (first.effect at v vs)
        ∙ put_effect after.0 (between v) rd tmp offset rs ty count some apart
        ∙ ap (λ y. set_reg (set_reg (between v) t y) r (bit_or (reg (between v) r) y)) (same v)
        ∙ value v vs
        ∙ last_stays v t r (first.left v) (without v) (put v) (wrap (with_part (part_start offset v) (bits_of ty) (reg v (number_of rs)) (reg v r))) free.0

    onward : (at : ℕ → Environment) (v : Values) → insts_exit at (merge_insts rd tmp offset rs ty) v ≡ Next
    onward = each_int (λ type. (at : ℕ → Environment) (v : Values) → insts_exit at (merge_insts rd tmp offset rs type) v ≡ Next) (λ at v. refl) (λ at v. refl) (λ at v. refl) (λ at v. refl) ty int
