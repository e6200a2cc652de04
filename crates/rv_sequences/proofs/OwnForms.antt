-- What was chosen to stand for an operation in sixteen bits is the operation's own form: c.addi16sp, where that holds the immediate.
use Rattle.{rv_machine.specs.declared.ops.CarryOp.TheVariants.Packw, rv_machine.specs.declared.ops.MOp.TheVariants.Carry}
use Rattle.rv_sequences.proofs.Terms.{◌≡◌, ℕ, Bool, true, false, Option, Some, None, ℤ, pos, refl, ap, sym, ◌∙◌, arith, eqb-true, ◌==◌, ◌&&◌, not, if◌then◌else◌, true≢false, and_parts, IsaFlags, Decoded, MOp, Base, Alu, Lui, Jal, Jalr, Ebreak, AluOp, Int, Mul, Bit, IntOp, bare_form, compressed}
use Rattle.rv_sequences.proofs.Terms.{AluOPRRR, AluOPRRI, LoadOP, StoreOP, load_format, store_format, decoded, load_op, load_of_format, store_op, store_of_format, decoded_rrr, decoded_rri, sp, is_short, is_equal, is_scaled, is_six_bits, form_where, chosen, either_form, zext_w_form, form_rrr}
use Rattle.rv_sequences.proofs.Terms.{form_lui, form_jalr, form_ebreak, zca_rrr, zca_rri, addi_form, andi_form, move_form, is_move, is_addi16sp, is_addi4spn, is_li, is_addi, short_rrr, short_rri, short_lui, short_jalr, short_ebreak, short_load, short_store, IsAddi16spFirst, IsOwnForm, decoded_jump}
use Rattle.rv_sequences.proofs.Terms.{short_jump, short_load_either, short_store_either, WhereHalf, Encoded, Half, Word}
use Rattle.rv_machine.specs.declared.ops.IntOp.TheVariants as int
use Rattle.rv_machine.specs.declared.ops.MulOp.TheVariants as mul
use Rattle.rv_machine.specs.declared.ops.BitOp.TheVariants as bit
use Rattle.rv_ops.specs.declared.alu.AluOPRRR.TheVariants as rrr
use Rattle.rv_ops.specs.declared.alu.AluOPRRI.TheVariants as rri

-- ---- operations other than addi

abbrev pub is_addi_int : IntOp → Bool
is_addi_int int.Addi = true
is_addi_int _ = false

abbrev pub is_addi_alu : AluOp → Bool
is_addi_alu (Int op) = is_addi_int op
is_addi_alu _ = false

abbrev pub is_addi_op : MOp → Bool
is_addi_op (Alu op) = is_addi_alu op
is_addi_op _ = false

abbrev pub is_other : Decoded → Type 0
is_other d = is_addi_op d.op ≡ false

abbrev AllOther : Option Decoded → Type 0
AllOther None = Unit {0}
AllOther (Some d) = is_other d

where_other : (guard : Bool) (op : MOp) (rd rs1 rs2 : ℕ) (imm : ℤ) → is_addi_op op ≡ false → AllOther (form_where guard (compressed op rd rs1 rs2 imm))
where_other true op rd rs1 rs2 imm h = h
where_other false op rd rs1 rs2 imm h = tt

if_other : (c : Bool) (x y : Option Decoded) → AllOther x → AllOther y → AllOther (if c then x else y)
if_other true x y h g = h
if_other false x y h g = g

chosen_other : (form : Option Decoded) (whole : Decoded) → AllOther form → is_other whole → is_other (chosen form whole)
chosen_other None whole h g = g
chosen_other (Some form) whole h g = h

zca_rrr_other : (flags : IsaFlags) (op : AluOPRRR) (rd rs1 rs2 : ℕ) → AllOther (zca_rrr flags op rd rs1 rs2)
zca_rrr_other flags rrr.Mul rd rs1 rs2 = if_other (flags.has_zcb && flags.has_m) (either_form (Mul mul.Mul) rd rs1 rs2) None (where_other _ (Alu (Mul mul.Mul)) _ _ _ _ refl) tt
zca_rrr_other flags rrr.Adduw rd rs1 rs2 = if_other (flags.has_zcb && flags.has_zba) (zext_w_form rd rs1 rs2) None (where_other _ (Alu (Bit bit.AddUw)) _ _ _ _ refl) tt
zca_rrr_other flags _ rd rs1 rs2 = search where_other

whole_rrr_other : (op : AluOPRRR) (rd rs1 rs2 : ℕ) → is_other (decoded_rrr op rd rs1 rs2)
whole_rrr_other rrr.Packw rd rs1 rs2 = elim (rs2 == 0) as (λ c. is_addi_op (if not c then Carry Packw else Alu (Bit bit.ZextH)) ≡ false) [ true ↦ refl | false ↦ refl ]
whole_rrr_other _ rd rs1 rs2 = refl

pub rrr_other : (flags : IsaFlags) (op : AluOPRRR) (rd rs1 rs2 : ℕ) → is_other (short_rrr flags op rd rs1 rs2)
rrr_other flags op rd rs1 rs2 = chosen_other (form_rrr flags op rd rs1 rs2) (decoded_rrr op rd rs1 rs2) (if_other flags.has_zca (zca_rrr flags op rd rs1 rs2) None (zca_rrr_other flags op rd rs1 rs2) tt) (whole_rrr_other op rd rs1 rs2)

pub lui_other : (flags : IsaFlags) (rd : ℕ) (imm : ℤ) → is_other (short_lui flags rd imm)
lui_other flags rd imm = chosen_other (form_lui flags rd imm) (decoded (Base Lui) rd 0 0 imm) (where_other _ (Base Lui) _ _ _ _ refl) refl

pub jalr_other : (flags : IsaFlags) (rd base : ℕ) (offset : ℤ) → is_other (short_jalr flags rd base offset)
jalr_other flags rd base offset = chosen_other (form_jalr flags rd base offset) (decoded (Base Jalr) rd base 0 offset) (where_other _ (Base Jalr) _ _ _ _ refl) refl

pub ebreak_other : (flags : IsaFlags) → is_other (short_ebreak flags)
ebreak_other flags = chosen_other (form_ebreak flags) (bare_form (Base Ebreak)) (where_other flags.has_zca (Base Ebreak) 0 0 0 (pos 0) refl) refl

-- a load or a store is none, of whichever file
pub load_other : (flags : IsaFlags) (op : LoadOP) (rd base : ℕ) (offset : ℤ) → is_other (short_load flags op rd base offset)
load_other flags op rd base offset = let other : is_addi_op (load_of_format (load_format op) (load_op op)) ≡ false = elim (load_format op) as (λ f. is_addi_op (load_of_format f (load_op op)) ≡ false) [ None ↦ refl | Some f ↦ refl ] in short_load_either is_other flags op rd base offset other other

pub store_other : (flags : IsaFlags) (op : StoreOP) (base src : ℕ) (offset : ℤ) → is_other (short_store flags op base src offset)
store_other flags op base src offset = let other : is_addi_op (store_of_format (store_format op) (store_op op)) ≡ false = elim (store_format op) as (λ f. is_addi_op (store_of_format f (store_op op)) ≡ false) [ None ↦ refl | Some f ↦ refl ] in short_store_either is_other flags op base src offset other other

pub jump_other : (flags : IsaFlags) (distance : ℤ) → is_other (short_jump flags distance)
jump_other flags distance = elim flags.has_zca as (λ c. is_addi_op (if c then compressed (Base Jal) 0 0 0 distance else decoded_jump distance).op ≡ false) [ true ↦ refl | false ↦ refl ]

-- no form of these is one of addi
pub other_own : (e : Encoded) (d : Decoded) → is_other d → WhereHalf e (IsOwnForm d)
other_own (Half half) d other = λ rd imm e. absurd (true≢false (sym (ap (λ (x : Decoded). is_addi_op x.op) e) ∙ other))
other_own (Word word) d other = tt

not_short : (x y : Decoded) → x.len ≡ 4 → y.len ≡ 2 → x ≡ y → ⊥
not_short x y four two e = let same : x.len ≡ y.len = ap (λ (z : Decoded). z.len) e in absurd (omega (arith, four, two, same))

-- nor is one of four bytes
pub own_word : (d : Decoded) (half : ℕ) → d.len ≡ 4 → IsOwnForm d half
own_word d half four rd imm e = absurd (not_short d (compressed (Alu (Int int.Addi)) rd rd 0 imm) four refl e)

-- ---- addi

-- the forms of addi by what is tested, in turn
abbrev form_by : Bool → Bool → Bool → Bool → Bool → Bool → ℕ → ℕ → ℤ → Option Decoded
form_by moves lifts near loads adds small rd rs imm =
    if moves then move_form rd rs else
    if lifts then Some (compressed (Alu (Int int.Addi)) sp sp 0 imm) else
    if near then Some (compressed (Alu (Int int.Addi)) rd sp 0 imm) else
    if loads then form_where small (compressed (Alu (Int int.Addi)) rd 0 0 imm) else
    if adds then form_where small (compressed (Alu (Int int.Addi)) rd rd 0 imm) else
    None

-- c.addi16sp holds the immediate of an addi whose form is one of sp and of an immediate that c.addi16sp holds
inverse : (moves lifts near loads adds small : Bool) (rd rs : ℕ) (imm : ℤ) (whole : Decoded) (r : ℕ) (i : ℤ) → whole.len ≡ 4 → (near ≡ true → is_short rd ≡ true) → (adds ≡ true → is_addi16sp rd rd imm ≡ lifts) → chosen (form_by moves lifts near loads adds small rd rs imm) whole ≡ compressed (Alu (Int int.Addi)) r r 0 i → is_addi16sp r r i ≡ true → lifts ≡ true
inverse true lifts near loads adds small rd rs imm whole r i four short same e holds = absurd (true≢false (sym (ap (λ (x : Decoded). is_addi_op x.op) e)))
inverse false true near loads adds small rd rs imm whole r i four short same e holds = refl
inverse false false true loads adds small rd rs imm whole r i four short same e holds =
    let two : rd ≡ 2 = ap (λ (x : Decoded). x.rd) e ∙ sym (ap (λ (x : Decoded). x.rs1) e) in
    absurd (true≢false (sym (short refl) ∙ ap is_short two))
inverse false false false true adds true rd rs imm whole r i four short same e holds =
    let zero : 0 ≡ r = ap (λ (x : Decoded). x.rs1) e in
    absurd (true≢false (sym holds ∙ sym (ap (λ n. is_addi16sp n n i) zero)))
inverse false false false false true true rd rs imm whole r i four short same e holds =
    let to : rd ≡ r = ap (λ (x : Decoded). x.rd) e in
    let by : imm ≡ i = ap (λ (x : Decoded). x.imm) e in
    absurd (true≢false (sym holds ∙ (λ k. is_addi16sp (sym to k) (sym to k) (sym by k)) ∙ same refl))
inverse false false false loads adds small rd rs imm whole r i four short same e holds = absurd (not_short whole (compressed (Alu (Int int.Addi)) r r 0 i) four refl e)

first_of : (a b c : Bool) → (a && b && c) ≡ true → a ≡ true
first_of a b c h = (and_parts a b (and_parts (a && b) c h).0).0

same_registers : (rd rs : ℕ) (imm : ℤ) → is_addi rd rs imm ≡ true → is_addi16sp rd rd imm ≡ is_addi16sp rd rs imm
same_registers rd rs imm e = ap (λ n. is_addi16sp rd n imm) (eqb-true rd rs (first_of (rd == rs) (not (rs == 0)) (not (is_equal imm (pos 0))) e))

form_inverse : (c : Bool) (rd rs : ℕ) (imm : ℤ) (r : ℕ) (i : ℤ) → chosen (if c then addi_form rd rs imm else None) (decoded_rri rri.Addi rd rs imm) ≡ compressed (Alu (Int int.Addi)) r r 0 i → is_addi16sp r r i ≡ true → is_addi16sp rd rs imm ≡ true
form_inverse true rd rs imm r i e holds = inverse (is_move rd rs imm) (is_addi16sp rd rs imm) (is_addi4spn rd rs imm) (is_li rd rs) (is_addi rd rs imm) (is_six_bits imm) rd rs imm (decoded_rri rri.Addi rd rs imm) r i refl (λ h. first_of (is_short rd) (rs == sp) (not (is_equal imm (pos 0))) (and_parts (is_short rd && (rs == sp) && not (is_equal imm (pos 0))) (is_scaled 4 255 imm) h).0) (same_registers rd rs imm) e holds
form_inverse false rd rs imm r i e holds = absurd (not_short (decoded_rri rri.Addi rd rs imm) (compressed (Alu (Int int.Addi)) r r 0 i) refl refl e)

addi_own : (flags : IsaFlags) (rd rs : ℕ) (imm : ℤ) (e : Encoded) → WhereHalf e (IsAddi16spFirst rd rs imm) → WhereHalf e (IsOwnForm (short_rri flags rri.Addi rd rs imm))
addi_own flags rd rs imm (Half half) first = λ r i e holds. first (form_inverse flags.has_zca rd rs imm r i e holds)
addi_own flags rd rs imm (Word word) first = tt

-- ---- operations of an immediate

others : (flags : IsaFlags) (form : Option Decoded) (whole : Decoded) (e : Encoded) → AllOther form → is_other whole → WhereHalf e (IsOwnForm (chosen (if flags.has_zca then form else None) whole))
others flags form whole e h g = other_own e (chosen (if flags.has_zca then form else None) whole) (chosen_other (if flags.has_zca then form else None) whole (if_other flags.has_zca form None h tt) g)

andi_other : (flags : IsaFlags) (rd rs : ℕ) (imm : ℤ) → AllOther (andi_form flags rd rs imm)
andi_other flags rd rs imm =
    if_other (flags.has_zcb && (rd == rs) && is_short rs && is_equal imm (pos 255)) (Some (compressed (Alu (Int int.Andi)) rd rd 0 (pos 255))) (if (rd == rs) && is_short rs then form_where (is_six_bits imm) (compressed (Alu (Int int.Andi)) rd rd 0 imm) else None)
    refl
    (if_other ((rd == rs) && is_short rs) (form_where (is_six_bits imm) (compressed (Alu (Int int.Andi)) rd rd 0 imm)) None (where_other _ (Alu (Int int.Andi)) _ _ _ _ refl) tt)

pub rri_own : (flags : IsaFlags) (op : AluOPRRI) (rd rs : ℕ) (imm : ℤ) (e : Encoded) → (op ≡ rri.Addi → WhereHalf e (IsAddi16spFirst rd rs imm)) → WhereHalf e (IsOwnForm (short_rri flags op rd rs imm))
rri_own flags rri.Addi rd rs imm e first = addi_own flags rd rs imm e (first refl)
rri_own flags rri.Ori rd rs imm e first = others flags (zca_rri flags rri.Ori rd rs imm) (decoded_rri rri.Ori rd rs imm) e (if_other (is_move rd rs imm) (move_form rd rs) None refl tt) refl
rri_own flags rri.Andi rd rs imm e first = others flags (andi_form flags rd rs imm) (decoded_rri rri.Andi rd rs imm) e (andi_other flags rd rs imm) refl
rri_own flags op rd rs imm e first = others flags (zca_rri flags op rd rs imm) (decoded_rri op rd rs imm) e (search where_other) refl
