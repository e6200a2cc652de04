-- A sequence's code is put, piece by piece.
use Rattle.{rv_base.specs.declared.regs.RegClass.TheVariants.Int, rv_sequences.proofs.{BufferAfterSlots.puts_bytes, PlainSlots.plain_keeps, SlotsPut.{alone, puts_after}, Terms.{◌≡◌, true, refl, subst, ◌≢◌, ℕ, suc, ◌+◌, ◌^◌, ◌<◌, ◌≤◌, ℤ, Bool, false, nat_eq, [], ◌∷◌, ◌++◌, List, length}}}
use Rattle.rv_sequences.proofs.Terms.{drop-cons, append_assoc, arith, sym, ap, ◌∙◌, unwrap_or, if◌then◌else◌, IrType, F16, F32, F64, Reg, Real, Virtual, Float, class_of, number_of, IsIntRegister, D, is_width, width_of, is_float_type, is_movable, IsMove, drop_of_length-le, or_parts, nat_tests}
use Rattle.rv_sequences.proofs.Terms.{IsaFlags, MachLabel, branch_of, is_reversed, IntegerCompare, Decoded, Base, decoded, decoded_branch, branch_op, is_among, use_at, LabelUse, B12, first_inner, inner_count, shape_of, allocated_of, Shape, with_bytes, with_use, Buffer, IsSoundBuffer, PutsAlone}
use Rattle.rv_sequences.proofs.Terms.{PutsSlots, branch_to, Puts, IsPatchable, Label, own_label, RegClass, move_action, move_pieces, Action, Piece, Do, Branch, branches, slots_for, slots_of, pieces_most, shown, pieces_of, AreSound, IsLabelled, IsBaseFor, IsNext, CodePiece, OwnLabels}
use Rattle.rv_sequences.proofs.Terms.{canonical_type, cast_signed, code_most, drop, get_or, lit≤, None, Some, IsPlain, most_of, number_by, number_pieces, number_slots, pieces_few, pieces_long, w64}
use Rattle.rv_code.specs.AtomicLoops.{extract_pieces, merge_pieces}
use Rattle.rv_code.specs.Choices.{extend_pieces}
use Rattle.rv_sequences.proofs.PartsCode.{actions_most, actions_plain, extend_few, extract_few, merge_few}
use Rattle.rv_sequences.specs.declared.code.CodePiece.TheVariants as code

-- ---- the class of an integer register, and the format of a floating-point register that is moved

pub int_class : (r : Reg) → IsIntRegister r → class_of r ≡ Int
int_class (Real p) h = h
int_class (Virtual class index) h = absurd h

of_width : (type : IrType) → is_float_type type ≡ true → is_width (unwrap_or (width_of type) D) ≡ true
of_width F16 e = refl
of_width F32 e = refl
of_width F64 e = refl
of_width type e = absurd (cc)

pub float_width : (rd rm : Reg) (type : IrType) → IsMove rd rm type → class_of rd ≡ Float → is_width (unwrap_or (width_of type) D) ≡ true
float_width rd rm type m e = of_width type (subst (λ c. is_movable c type ≡ true) e m.typed)

-- ---- a branch

chosen_number : (c : Bool) (x y : Reg) → number_of (if c then x else y) ≡ (if c then number_of x else number_of y)
chosen_number true x y = refl
chosen_number false x y = refl

same_branch : (kind : IntegerCompare) → ◌≡◌ {A = ℤ → List Decoded} (λ d. decoded_branch kind d ∷ []) (λ d. branches kind.kind (number_of kind.rs1) (number_of kind.rs2) d ∷ [])
same_branch kind = λ i d. decoded (Base (branch_op (branch_of kind.kind))) 0 (chosen_number (is_reversed kind.kind) kind.rs2 kind.rs1 i) (chosen_number (is_reversed kind.kind) kind.rs1 kind.rs2 i) d ∷ []

-- the label that a sequence allocated as its k-th, by the number of its first
is_own : (label : MachLabel) (base k allocated : ℕ) → label.number ≡ base + k → base ≡ first_inner + allocated → label ≡ own_label allocated k
is_own label base k allocated number is = let e : label.number ≡ first_inner + (allocated + k) = omega (arith, number, is) in λ i. record { number = e i }

pub branch_puts : (flags : IsaFlags) (kind : IntegerCompare) (label : MachLabel) (base k allocated : ℕ) (old new : Buffer) → label.number ≡ base + k → base ≡ first_inner + allocated → PutsSlots flags (branch_to kind (Label label) ∷ []) old new → Puts flags allocated (slots_for flags (Branch kind.kind (number_of kind.rs1) (number_of kind.rs2) k)) (shape_of old) (shape_of new)
branch_puts flags kind label base k allocated old new number is p =
    let q = p.puts in
    (q.0, (q.1.0, subst (IsPatchable flags B12 q.1.0) (same_branch kind) q.1.1, q.1.2 ∙ ap (λ l. with_bytes q.1.0 (with_use (use_at (length (shape_of old).bytes) l B12) (shape_of old))) (is_own label base k allocated number is)), q.2)

-- ---- a move

-- it binds no label
move_plain : (flags : IsaFlags) (own : Bool) (a : Action) → IsPlain (slots_of flags (if own then [] else Do a ∷ []))
move_plain flags true a = tt
move_plain flags false a = tt

-- whatever labels were allocated before
pub move_puts : {flags : IsaFlags} (allocated : ℕ) (class : RegClass) (type : IrType) (rd rs : ℕ) (old new : Buffer) → PutsAlone flags (slots_of flags (move_pieces class type rd rs)) old new → Puts flags allocated (slots_of flags (move_pieces class type rd rs)) (shape_of old) (shape_of new)
move_puts {flags} allocated class type rd rs old new p = subst (λ (b : Buffer). Puts flags allocated (slots_of flags (move_pieces class type rd rs)) (shape_of old) (shape_of b)) (sym p.2)
    ((elim (nat_eq rd rs) as (λ own. Puts flags (allocated_of old) (slots_of flags (if own then [] else Do (move_action class type rd rs) ∷ [])) (shape_of old) (shape_of p.0) → Puts flags allocated (slots_of flags (if own then [] else Do (move_action class type rd rs) ∷ [])) (shape_of old) (shape_of p.0)) [ true ↦ λ put. put | false ↦ λ put. put ]) p.1.puts)

-- ---- a number

number_plain : (flags : IsaFlags) (rd : ℕ) (z : ℤ) → IsPlain (slots_of flags (number_pieces rd z))
number_plain flags rd z = number_by (λ ps. IsPlain (slots_of flags ps)) rd z (λ low. tt) (λ fits none. tt) (λ fits. tt) (λ far. tt)

-- whatever labels were allocated before
pub number_puts : {flags : IsaFlags} (allocated rd : ℕ) (z : ℤ) (old new : Buffer) → PutsAlone flags (number_slots flags rd z) old new → Puts flags allocated (slots_of flags (number_pieces rd z)) (shape_of old) (shape_of new)
number_puts {flags} allocated rd z old new p = subst (λ (b : Buffer). Puts flags allocated (slots_of flags (number_pieces rd z)) (shape_of old) (shape_of b)) (sym p.2)
    (number_by (λ ps. Puts flags (allocated_of old) (slots_of flags ps) (shape_of old) (shape_of p.0) → Puts flags allocated (slots_of flags ps) (shape_of old) (shape_of p.0)) rd z (λ low put. put) (λ fits none put. put) (λ fits put. put) (λ far put. put) p.1.puts)

-- ---- pieces, and others after them

slots_both : (flags : IsaFlags) (ps qs : List Piece) → slots_of flags (ps ++ qs) ≡ slots_of flags ps ++ slots_of flags qs
slots_both flags [] qs = refl
slots_both flags (p ∷ ps) qs = ap (λ slots. slots_for flags p ++ slots) (slots_both flags ps qs) ∙ sym (append_assoc (slots_for flags p) (slots_of flags ps) (slots_of flags qs))

-- a piece has no more bytes than that
most_shown : (x : CodePiece) → pieces_most (shown x) ≤ most_of x
most_shown (code.Move rd rs) = elim (nat_eq (number_of rd.reg) (number_of rs)) as (λ own. pieces_most (if own then [] else Do (move_action (class_of rd.reg) (canonical_type (class_of rd.reg)) (number_of rd.reg) (number_of rs)) ∷ []) ≤ 4) [ true ↦ lit≤ tt | false ↦ lit≤ tt ]
most_shown (code.Extend rd rn signed bits) = actions_most (extend_few (number_of rd.reg) (number_of rn) signed bits)
most_shown (code.Extract rd offset rs signed bits) = actions_most (extract_few (number_of rd.reg) (number_of offset) (number_of rs) signed bits)
most_shown (code.Merge rd tmp offset rs bits) = actions_most (merge_few (number_of rd.reg) (number_of tmp.reg) (number_of offset) (number_of rs) bits)
most_shown (code.Number rd value) = number_by (λ ps. pieces_most ps ≤ 20) (number_of rd.reg) (cast_signed w64 value) (λ low. lit≤ tt) (λ fits none. lit≤ tt) (λ fits. lit≤ tt) (λ far. lit≤ tt)
most_shown x = lit≤ tt

puts_more : (flags : IsaFlags) (allocated : ℕ) (s t u : Shape LabelUse) (x : CodePiece) (left : List CodePiece) → Puts flags allocated (slots_of flags (shown x)) s t → Puts flags allocated (slots_of flags (pieces_of left)) t u → Puts flags allocated (slots_of flags (pieces_of (x ∷ left))) s u
puts_more flags allocated s t u x left put more = subst (λ slots. Puts flags allocated slots s u) (sym (slots_both flags (shown x) (pieces_of left))) (puts_after flags allocated (slots_of flags (shown x)) (slots_of flags (pieces_of left)) s t u put more)

-- ---- the loop

-- the buffer where these pieces are left of all: the labels that were allocated, and those of them that are bound
pub record Putting (flags : IsaFlags) (all : List CodePiece) (start : Shape LabelUse) (left : List CodePiece) (own : OwnLabels) (now : Shape LabelUse) : Type 0 where
  pub bound : List ℕ
  pub count : own.count + start.allocated ≡ now.allocated
  pub base : 0 < own.count → own.base ≡ first_inner + start.allocated
  pub low : own.base < 2 ^ 31
  pub unbound : (k : ℕ) → k < own.count → is_among bound k ≡ false → now.place (first_inner + (start.allocated + k)) ≡ None
  pub sound : AreSound left
  pub labelled : IsLabelled own.count bound left
  pub puts : (t : Shape LabelUse) → Puts flags start.allocated (slots_of flags (pieces_of left)) now t → Puts flags start.allocated (slots_of flags (pieces_of all)) start t
  pub room : length now.bytes + code_most left ≤ length start.bytes + code_most all

-- the piece that is next
pub first_left : (xs : List CodePiece) (i : ℕ) (x : CodePiece) → x ≡ get_or xs i x → i < length xs → drop i xs ≡ x ∷ drop (i + 1) xs
first_left xs i x is lt = let e : suc i ≡ i + 1 = omega arith in drop-cons xs i x lt ∙ (λ j. sym is j ∷ drop (e j) xs)

-- where it needs the first label's number, that is known
pub known_base : {flags : IsaFlags} {all left : List CodePiece} {start now : Shape LabelUse} {own : OwnLabels} (x : CodePiece) → Putting flags all start (x ∷ left) own now → IsBaseFor own.base start.allocated x
known_base (code.Branch kind label) k = let lt = k.labelled.0 in k.base (omega arith)
known_base (code.Jump label) k = let lt = k.labelled.0 in k.base (omega arith)
known_base (code.Bind label) k = let lt = k.labelled.0 in k.base (omega arith)
known_base x k = tt

-- a piece leaves room for the others
room_left : {flags : IsaFlags} {all left : List CodePiece} {start now : Shape LabelUse} {own : OwnLabels} (next_shape : Shape LabelUse) (x : CodePiece) → Putting flags all start (x ∷ left) own now → Puts flags start.allocated (slots_of flags (shown x)) now next_shape → length next_shape.bytes + code_most left ≤ length start.bytes + code_most all
room_left {flags} {start = start} {now = now} next_shape x k put = omega (arith, puts_bytes flags start.allocated (slots_of flags (shown x)) now next_shape put, pieces_long flags (shown x), pieces_few flags (shown x), most_shown x, k.room)

-- after a piece that leaves all labels as they were
same_labels : {flags : IsaFlags} {all left : List CodePiece} {start now next_shape : Shape LabelUse} {own next : OwnLabels} (x : CodePiece) (k : Putting flags all start (x ∷ left) own now) → IsLabelled own.count k.bound left → IsPlain (slots_of flags (shown x)) → next ≡ own → Puts flags start.allocated (slots_of flags (shown x)) now next_shape → Putting flags all start left next next_shape
same_labels {flags} {all} {left} {start} {now} {next_shape} {own} {next} x k labelled plain same put =
    let kept = plain_keeps flags start.allocated (slots_of flags (shown x)) now next_shape plain put in
    subst (λ o. Putting flags all start left o next_shape) (sym same) (record {
      bound = k.bound;
      count = k.count ∙ sym kept.2;
      base = k.base;
      low = k.low;
      unbound = λ j lt other. ap (λ (p : ℕ → _). p (first_inner + (start.allocated + j))) kept.0 ∙ k.unbound j lt other;
      sound = k.sound.1;
      labelled = labelled;
      puts = λ t p. k.puts t (puts_more flags start.allocated now next_shape t x left put p);
      room = room_left next_shape x k put;
    })

goes_on : {flags : IsaFlags} {all left : List CodePiece} {start now next_shape : Shape LabelUse} {own next : OwnLabels} (x : CodePiece) → start.allocated < inner_count → Putting flags all start (x ∷ left) own now → IsNext own next x now next_shape → Puts flags start.allocated (slots_of flags (shown x)) now next_shape → Putting flags all start left next next_shape
goes_on (code.Rrr op rd rs1 rs2) few k same put = same_labels (code.Rrr op rd rs1 rs2) k k.labelled tt same put
goes_on (code.Rri op rd rs imm) few k same put = same_labels (code.Rri op rd rs imm) k k.labelled tt same put
goes_on (code.Fence pred succ) few k same put = same_labels (code.Fence pred succ) k k.labelled tt same put
goes_on (code.Load op rd base offset) few k same put = same_labels (code.Load op rd base offset) k k.labelled tt same put
goes_on (code.Store op base src offset) few k same put = same_labels (code.Store op base src offset) k k.labelled tt same put
goes_on {flags} (code.Number rd value) few k same put = same_labels (code.Number rd value) k k.labelled (number_plain flags (number_of rd.reg) (cast_signed w64 value)) same put
goes_on {flags} (code.Extend rd rn signed bits) few k same put = same_labels (code.Extend rd rn signed bits) k k.labelled (actions_plain flags (extend_pieces (number_of rd.reg) (number_of rn) signed bits) (extend_few (number_of rd.reg) (number_of rn) signed bits).actions) same put
goes_on {flags} (code.Extract rd offset rs signed bits) few k same put = same_labels (code.Extract rd offset rs signed bits) k k.labelled (actions_plain flags (extract_pieces (number_of rd.reg) (number_of offset) (number_of rs) signed bits) (extract_few (number_of rd.reg) (number_of offset) (number_of rs) signed bits).actions) same put
goes_on {flags} (code.Merge rd tmp offset rs bits) few k same put = same_labels (code.Merge rd tmp offset rs bits) k k.labelled (actions_plain flags (merge_pieces (number_of rd.reg) (number_of tmp.reg) (number_of offset) (number_of rs) bits) (merge_few (number_of rd.reg) (number_of tmp.reg) (number_of offset) (number_of rs) bits).actions) same put
goes_on (code.Atomic op rd addr src) few k same put = same_labels (code.Atomic op rd addr src) k k.labelled tt same put
goes_on {flags} (code.Move rd rs) few k same put = same_labels (code.Move rd rs) k k.labelled (move_plain flags (nat_eq (number_of rd.reg) (number_of rs)) _) same put
goes_on (code.Branch kind label) few k same put = same_labels (code.Branch kind label) k k.labelled.1 tt same put
goes_on (code.Jump label) few k same put = same_labels (code.Jump label) k k.labelled.1 tt same put
goes_on (code.Trap trap) few k same put = same_labels (code.Trap trap) k k.labelled tt same put
goes_on {flags} {all} {left} {start} {now} {next_shape} {own} {next} code.New few k n put =
    let base : next.base ≡ first_inner + start.allocated = omega (arith, k.count, n.1) in
    record {
      bound = k.bound;
      count = omega (arith, k.count, n.0, ap (λ s. s.allocated) (put.2 ∙ put.1));
      base = λ some. base;
      low = omega arith;
      unbound = λ j lt other. by j lt other (nat_eq j own.count) refl;
      sound = k.sound.1;
      labelled = subst (λ m. IsLabelled m k.bound left) (sym n.0) k.labelled;
      puts = λ t p. k.puts t (puts_more flags start.allocated now next_shape t code.New left put p);
      room = room_left next_shape code.New k put;
    }
  where
    by : (j : ℕ) → j < next.count → is_among k.bound j ≡ false → (c : Bool) → nat_eq j own.count ≡ c → next_shape.place (first_inner + (start.allocated + j)) ≡ None
    by j lt other true test =
        let count = k.count in
        let is : j ≡ own.count = grind (arith, nat_tests) in
        let e : first_inner + (start.allocated + j) ≡ first_inner + now.allocated = omega arith in
        ap next_shape.place e ∙ n.2
    by j lt other false test =
        let more = n.0 in
        let differ : j ≢ own.count = grind (arith, nat_tests) in
        ap (λ s. s.place (first_inner + (start.allocated + j))) (put.2 ∙ put.1) ∙ k.unbound j (omega arith) other
goes_on {flags} {all} {left} {start} {now} {next_shape} {own} {next} (code.Bind label) few k same put = subst (λ o. Putting flags all start left o next_shape) (sym same) (record {
  bound = label ∷ k.bound;
  count = k.count ∙ sym (ap (λ s. s.allocated) (put.2 ∙ put.1.1));
  base = k.base;
  low = k.low;
  unbound = λ j lt other.
      let parts = or_parts (nat_eq label j) (is_among k.bound j) other in
      let test = parts.0 in
      let e : nat_eq (first_inner + (start.allocated + j)) (first_inner + (start.allocated + label)) ≡ false = grind (arith, nat_tests) in
      ap (λ s. s.place (first_inner + (start.allocated + j))) (put.2 ∙ put.1.1) ∙ ap (λ c. if c then Some (length now.bytes) else now.place (first_inner + (start.allocated + j))) e ∙ k.unbound j lt parts.1;
  sound = k.sound.1;
  labelled = k.labelled.2;
  puts = λ t p. k.puts t (puts_more flags start.allocated now next_shape t (code.Bind label) left put p);
  room = room_left next_shape (code.Bind label) k put;
})

-- one more piece was put
pub puts_next : {flags : IsaFlags} {all : List CodePiece} {start now next_shape : Shape LabelUse} {own next : OwnLabels} (i : ℕ) (x : CodePiece) → x ≡ get_or all i x → i < length all → start.allocated < inner_count → Putting flags all start (drop i all) own now → IsNext own next x now next_shape → ((allocated : ℕ) → IsBaseFor own.base allocated x → Puts flags allocated (slots_of flags (shown x)) now next_shape) → Putting flags all start (drop (i + 1) all) next next_shape
puts_next {flags} {all} {start} {now} {next_shape} {own} {next} i x is lt few k n put =
    let k1 = subst (λ ps. Putting flags all start ps own now) (first_left all i x is lt) k in
    goes_on x few k1 n (put start.allocated (known_base x k1))

-- all were
pub all_put : {flags : IsaFlags} (all : List CodePiece) (i : ℕ) (own : OwnLabels) (old new : Buffer) → length all ≤ i → Putting flags all (shape_of old) (drop i all) own (shape_of new) → IsSoundBuffer new → PutsAlone flags (slots_of flags (pieces_of all)) old new
all_put {flags} all i own old new le k sound =
    alone (record { puts = (subst (λ ps. Putting flags all (shape_of old) ps own (shape_of new)) (drop_of_length-le all le) k).puts (shape_of new) refl; sound = sound })

-- at most one label more
pub next_few : (own next : OwnLabels) (s t : Shape LabelUse) (x : CodePiece) → IsNext own next x s t → next.count ≤ 1 + own.count
next_few own next s t code.New more = let e = more.0 in omega arith
next_few own next s t x same = let e = ap (λ (o : OwnLabels). o.count) same in omega arith
