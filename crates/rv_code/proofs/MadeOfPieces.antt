-- Instructions that pieces make: how long they are, and that they are self-contained.
use Rattle.{mach_records.specs.declared.records.Event.TheVariants.Trap as TrapEvent, rv_base.specs.declared.value_regs.ValueRegs.TheVariants.{One, Two}, rv_code.{proofs.Courses.read_low, proofs.Evaluation.{action_sized, piece_even, slots_long, trap_long}, proofs.LineSlots.{IsPlain, is_low, offset_by, closed_append, number_by, size_append, IsSummed}}}
use Rattle.rv_code.{proofs.LongSlots.{even_plain, even_closed, literal_even}, proofs.OperationActs.{jalr_sized, jump_len, least_few, window_long}}
use Rattle.rv_code.proofs.Words.{Constant, Data, trap_bytes, Slli, Trap, TrapCode, VCodeConstant, Writable, and_parts, cast_signed, jump_size, low_word, number_pieces, slots_of, uses_in, w64, written_in, AddressOf, Allocate, ExternalName, Here, Literal, NameAddress, Names, OfLabel, OfSymbol, Records, Slot, SlotOf}
use Rattle.rv_code.proofs.Words.{Symbol, Take, Word32, Word64, address_event, literal_of, literal_size, literal_slots, slot_size, slots_for, symbol_slots, IsInRange, low64, lower_of, offset_pieces, Addi, Action, after, all_of, Andi, AreAmong, AreClosed, AreClosedPieces, AreSelfContained, AtMost, B12}
use Rattle.rv_code.proofs.Words.{backward_of, Bind, bits_of, Branch, canonical_type, choice_pieces, class_of, complement_of, Context, Do, Exactly, extend_pieces, forward_of, GoNowhere, here_at, I64, Inst, inst_constant, inst_records, inst_size, Int, IntCC, IntegerCompare, IrType, is_byte, IsaFlags}
use Rattle.rv_code.proofs.Words.{IsBoundIn, IsBoundNear, IsOfSize, Jal20, Jump, jump_kind, LabelUse, move_action, move_op, move_pieces, move_size, moves_then, named_by, names_of, New, number_of, op_of, own_labels, Piece, piece_most, piece_size, pieces_most, pieces_size, PReg, records_of, Reg, RegClass}
use Rattle.rv_code.{proofs.Words.{request_of, right_shift, Rri, RVCJump, same_numbers, select_pieces, SelectInfo, size_of}, specs.Pieces.{Go, Jalr, LoadFrom, Name}, specs.Probes.{probe_pieces, probe_turn}, specs.Sequences.{pieces_by, sequence_pieces, zeros_pieces}, specs.Traps.trap_if_pieces}
use Rattle.{rv_code.{proofs.Forgetting.{either, pieces_forget, slots_forget}, specs.Forgetting.slot_forgets, specs.InstParts.{parts_of, slots_alone}, specs.Accesses.{atomic_load_pieces, atomic_store_pieces}, specs.declared.state.EmitVState.EmitVState}, rv_inst.specs.Descriptions.{Gives, described, load_for, store_for, facts_in, facts_of, given, most_words, none_is_some, recorded_in, recorded_of}}
use Rattle.rv_inst.{specs.declared.sequence.Computation.Computation, specs.declared.sequence.Computation.TheVariants.Zeros, specs.declared.sequence.Sequence.Sequence, specs.Limits.sequence_limit, specs.Operands.inst_ways}
use Rattle.rv_inst.{specs.Records.{Recorded, TrapAfter, SlotInParts, AddressInParts, AddressLast}, specs.Sizes.most_bytes, specs.declared.units.Facts.Facts}
use Rattle.rv_inst.specs.declared.inst.Inst.TheVariants.{AtomicLoad, AtomicStore, Auipc, Extend, Fence, LabelAddress, LoadExtNameFar, LoadExtNameGot, LoadExtNameNear, LoadInlineConst, Mov, MovFromPReg, Select, StackProbeLoop, TrapIf, Udf}
use Rattle.std.{proofs.Common.{rules, ◌≡◌, ℕ, ℤ, ◌+◌, ◌≤◌, Bool, true, false, nat_eq, [], ◌∷◌, List, length, Option, Some, None, is_some, unwrap_or, zero, ◌&&◌, arith, refl, lit≤, sym, subst, ap, lit<, suc, ◌*◌, ◌<◌, ◌++◌, map, pos, ◌∙◌, ◌-◌, if◌then◌else◌, ⊎_elim, ◌%◌, ◌^◌, inl, inr, ◌⊎◌}, proofs.lemmas.Option.same_Some, specs.List.list_any, specs.Prelude.{not, ◌==◌, ◌||◌}}
use Rattle.rv_code.specs.Pieces as piece
use mathlib.Core.Bool.{or-false, or_self}
use borrow.Author.Count.{below_more, below_none}

-- ---- how long pieces are, and that those which use no own label but what they allocate and bind are self-contained, in whatever forms.

piece_few : (flags : IsaFlags) (p : Piece) → piece_size flags p ≤ piece_most p
piece_few flags (Do a) = (action_sized flags a).few
piece_few flags (Constant rd l) = omega (arith, least_few flags)
piece_few flags (Jalr link rs offset) = (jalr_sized flags link rs offset).few
piece_few flags _ = omega (arith, window_long flags, least_few flags, trap_long flags)

pub pieces_long : (flags : IsaFlags) (ps : List Piece) → size_of (slots_of flags ps) ≡ pieces_size flags ps
pieces_long flags [] = refl
pieces_long flags (p ∷ ps) = omega (arith, size_append (slots_for flags p) (slots_of flags ps), slots_long flags p, pieces_long flags ps)

pub pieces_few : (flags : IsaFlags) (ps : List Piece) → pieces_size flags ps ≤ pieces_most ps
pieces_few flags [] = lit≤ tt
pieces_few flags (p ∷ ps) = let a = piece_few flags p in let b = pieces_few flags ps in omega arith

-- a piece that neither allocates nor binds a label
abbrev pub BindsNone : Piece → Type 0
BindsNone New = ⊥
BindsNone (Bind k) = ⊥
BindsNone p = Unit {0}

pub binds_none : (flags : IsaFlags) (p : Piece) → BindsNone p → IsPlain (slots_for flags p)
binds_none flags (Constant rd l) h = even_plain (literal_slots flags rd l) (literal_even flags rd l)
binds_none flags (Take rd (OfLabel l)) h = tt
binds_none flags (LoadFrom op rd None l) h = tt
binds_none flags (LoadFrom op rd (Some code) l) h = tt
binds_none flags New h = absurd h
binds_none flags (Bind k) h = absurd h
binds_none flags p h = tt

-- a label is bound after slots that bind none
here_past : (k at : ℕ) (slots more : List Slot) → IsPlain slots → here_at k at (slots ++ more) ≡ here_at k (at + size_of slots) more
here_past k at [] more h = ap (λ n. here_at k n more) (omega arith)
here_past k at (Records event ∷ slots) more h = here_past k at slots more h ∙ ap (λ n. here_at k n more) (omega arith)
here_past k at (Names name ∷ slots) more h = here_past k at slots more h ∙ ap (λ n. here_at k n more) (omega arith)
here_past k at (Allocate ∷ slots) more h = absurd h
here_past k at (Here j ∷ slots) more h = absurd h
here_past k at (slot ∷ slots) more h = here_past k (at + slot_size slot) slots more h ∙ ap (λ n. here_at k n more) (omega arith)

-- an own label is bound near enough for each kind of use that reaches over all pieces
bound_near : (flags : IsaFlags) (kind : LabelUse) (from end k : ℕ) → 2046 ≤ forward_of kind → 2046 ≤ backward_of kind → from ≤ end → end ≤ 2046 → (at : ℕ) (whole qs : List Piece) → after k whole ≡ Some qs → at + pieces_size flags whole ≤ end → IsBoundNear (here_at k at (slots_of flags whole)) kind from
bound_near flags kind from end k f b le small at [] qs e room = absurd (cc)
bound_near flags kind from end k f b le small at (New ∷ ps) qs e room = bound_near flags kind from end k f b le small at ps qs e (omega arith)
bound_near flags kind from end k f b le small at (Bind j ∷ ps) qs e room =
    (elim (nat_eq j k) as (λ c. (if c then Some ps else after k ps) ≡ Some qs → IsBoundNear (if c then Some at else here_at k at (slots_of flags ps)) kind from)
    [ true ↦ λ g. record { to = at; there = refl; forward = omega arith; backward = omega arith } | false ↦ λ g. bound_near flags kind from end k f b le small at ps qs g (omega arith) ]) e
bound_near flags kind from end k f b le small at (p ∷ ps) qs e room =
    let slots = slots_for flags p in
    subst (λ o. IsBoundNear o kind from) (sym (here_past k at slots (slots_of flags ps) (binds_none flags p tt))) (bound_near flags kind from end k f b le small (at + size_of slots) ps qs e (omega (arith, slots_long flags p)))

pub jump_reach : (flags : IsaFlags) → (2046 ≤ forward_of (jump_kind flags)) × (2046 ≤ backward_of (jump_kind flags))
jump_reach flags = elim flags.has_zca as (λ c. (2046 ≤ forward_of (if c then RVCJump else Jal20)) × (2046 ≤ backward_of (if c then RVCJump else Jal20))) [ true ↦ (lit≤ tt, lit≤ tt) | false ↦ (lit≤ tt, lit≤ tt) ]

-- a piece that uses no own label
abbrev UsesNone : Piece → Type 0
UsesNone (Branch how a b k) = ⊥
UsesNone (Jump k) = ⊥
UsesNone p = Unit {0}

uses_none : (flags : IsaFlags) (here : ℕ → Option ℕ) (at : ℕ) (p : Piece) → UsesNone p → AreClosed here at (slots_for flags p)
uses_none flags here at (Do a) h = ((action_sized flags a).even, tt)
uses_none flags here at (Constant rd l) h = even_closed here at (literal_slots flags rd l) (literal_even flags rd l)
uses_none flags here at (Take rd (OfLabel l)) h = (tt, (tt, tt))
uses_none flags here at (LoadFrom op rd None l) h = (tt, (tt, tt))
uses_none flags here at (LoadFrom op rd (Some code) l) h = (tt, (tt, tt))
uses_none flags here at (Go l) h = (tt, tt)
uses_none flags here at (Jalr link rs offset) h = ((jalr_sized flags link rs offset).even, tt)
uses_none flags here at (Trap code) h = (piece_even flags (Trap code), tt)
uses_none flags here at (Branch how a b k) h = absurd h
uses_none flags here at (Jump k) h = absurd h
uses_none flags here at p h = tt

closed : (flags : IsaFlags) (whole : List Piece) (at end : ℕ) (ps : List Piece) → pieces_size flags whole ≤ end → end ≤ 2046 → at + pieces_size flags ps ≤ end → AreClosedPieces whole → AreAmong (own_labels whole) ps → AreClosed (λ k. here_at k 0 (slots_of flags whole)) at (slots_of flags ps)
closed flags whole at end [] all small le c among = tt
closed flags whole at end (Branch how x y k ∷ ps) all small le c among = let b = c.bound k among.0 in (bound_near flags B12 at end k (lit≤ tt) (lit≤ tt) (omega arith) small 0 whole b.0 b.1 (omega arith), closed flags whole (at + 4) end ps all small (omega arith) c among.1)
closed flags whole at end (Jump k ∷ ps) all small le c among = let b = c.bound k among.0 in let r = jump_reach flags in (bound_near flags (jump_kind flags) at end k r.0 r.1 (omega arith) small 0 whole b.0 b.1 (omega arith), closed flags whole (at + piece_size flags (Jump k)) end ps all small (omega arith) c among.1)
closed flags whole at end (p ∷ ps) all small le c among =
    let slots = slots_for flags p in
    let here = λ (k : ℕ). here_at k 0 (slots_of flags whole) in
    closed_append here at (at + size_of slots) slots (slots_of flags ps) refl (uses_none flags here at p tt) (closed flags whole (at + size_of slots) end ps all small (omega (arith, slots_long flags p)) c (rest p among))
  where
    rest : (p : Piece) → AreAmong (own_labels whole) (p ∷ ps) → AreAmong (own_labels whole) ps
    rest (Branch how x y k) h = h.1
    rest (Jump k) h = h.1
    rest (Bind k) h = h.1
    rest p h = h

-- ---- an instruction that pieces make: how many bytes it has, and what it records and names.

-- by no label but its own; its bytes and records are the pieces', of which it may have so many bytes
pub record IsMadeOf (context : Context) (inst : Inst) (pieces : List Piece) : Type 0 where
  pub closed : AreClosedPieces pieces
  pub fits : IsOfSize (inst_size context inst) (pieces_size context.flags pieces)
  pub within : pieces_most pieces ≤ 2046
  pub nowhere : GoNowhere pieces
  pub owns : own_labels pieces ≤ 5
  pub asks : request_of context inst ≡ None
  pub uses : (start end : ℕ) → [] ≡ uses_in context start end inst
  pub records : (start : ℕ) → records_of start (slots_of context.flags pieces) ≡ inst_records context start (start + pieces_size context.flags pieces) inst
  pub names : (named : List VCodeConstant) → named ≡ named_by (inst_constant inst) named

-- it has no more bytes than pieces may have
pub fits_most : {most : ℕ} (flags : IsaFlags) (pieces : List Piece) → pieces_most pieces ≤ most → pieces_size flags pieces ≤ most
fits_most flags pieces le = omega (arith, pieces_few flags pieces, le)

-- by its closed pieces, where it uses no label of the listing, and records and names nothing
made_by : (context : Context) (inst : Inst) (pieces : List Piece) → AreClosedPieces pieces → IsOfSize (inst_size context inst) (pieces_size context.flags pieces) → pieces_most pieces ≤ 2046 → GoNowhere pieces → own_labels pieces ≤ 5 → request_of context inst ≡ None →
    ((start end : ℕ) → [] ≡ uses_in context start end inst) → ((start : ℕ) → records_of start (slots_of context.flags pieces) ≡ inst_records context start (start + pieces_size context.flags pieces) inst) → inst_constant inst ≡ None → IsMadeOf context inst pieces
made_by context inst pieces closed fits within nowhere owns asks uses records none =
    record { closed = closed; fits = fits; within = within; nowhere = nowhere; owns = owns; asks = asks; uses = uses; records = records; names = λ named. sym (ap (λ k. named_by k named) none) }

pub made_contained : {context : Context} {inst : Inst} {pieces : List Piece} → IsMadeOf context inst pieces → AreSelfContained (slots_of context.flags pieces)
made_contained {context} {pieces = pieces} m = let within = m.within in let few = pieces_few context.flags pieces in closed context.flags pieces 0 (pieces_size context.flags pieces) pieces (omega arith) (omega arith) (omega arith) m.closed m.closed.among

-- and so they name no constant
pub pieces_name : (flags : IsaFlags) (ps : List Piece) (named : List VCodeConstant) → GoNowhere ps → names_of (slots_of flags ps) named ≡ named
pieces_name flags [] named h = refl
pieces_name flags (Constant rd (Word32 n) ∷ ps) named h = pieces_name flags ps named h
pieces_name flags (Constant rd l ∷ ps) named h = pieces_name flags ps named h
pieces_name flags (Take rd (OfLabel l) ∷ ps) named h = absurd h.0
pieces_name flags (Take rd to ∷ ps) named h = pieces_name flags ps named h.1
pieces_name flags (LoadFrom op rd trap l ∷ ps) named h = absurd h
pieces_name flags (Name constant ∷ ps) named h = absurd h
pieces_name flags (Go l ∷ ps) named h = absurd h
pieces_name flags (p ∷ ps) named h = pieces_name flags ps named h

-- ---- the sequences that compute one register of another: they are closed, and of at most so many words.

abbrev all_bound : ℕ → List Piece → Bool
all_bound zero whole = true
all_bound (suc n) whole = is_some (after n whole) && all_bound n whole

is_bound : (o : Option (List Piece)) → is_some o ≡ true → (qs : List Piece) × (o ≡ Some qs)
is_bound None e = absurd (cc)
is_bound (Some qs) e = (qs, refl)

bound_below : (whole : List Piece) (n : ℕ) → all_bound n whole ≡ true → (k : ℕ) → k < n → IsBoundIn whole k
bound_below whole zero e k lt = absurd (omega arith)
bound_below whole (suc n) e k lt =
    let both = and_parts (is_some (after n whole)) (all_bound n whole) e in
    below_more (IsBoundIn whole) n (bound_below whole n both.1) (is_bound (after n whole) both.0) k (omega arith)

computation_made : (context : Context) (inst : Inst) (c : Computation) (rd tmp1 tmp2 tmp3 rs bits : ℕ) → inst_size context inst ≡ AtMost (4 * most_words c) → request_of context inst ≡ None → ((start end : ℕ) → [] ≡ uses_in context start end inst) → ((start end : ℕ) → [] ≡ inst_records context start end inst) → inst_constant inst ≡ None → IsMadeOf context inst (pieces_by c rd tmp1 tmp2 tmp3 rs bits)
computation_made context inst (Zeros true) rd tmp1 tmp2 tmp3 rs bits size asks uses records name = let ps = zeros_pieces true rd tmp1 tmp2 rs bits in made_by context inst ps (record { among = search rules; bound = bound_below ps 2 refl }) (subst (λ s. IsOfSize s (pieces_size context.flags ps)) (sym size) (fits_most context.flags ps (lit≤ tt))) (lit≤ tt) tt (lit≤ tt) asks uses (λ start. records start _) name
computation_made context inst (Zeros false) rd tmp1 tmp2 tmp3 rs bits size asks uses records name = let ps = zeros_pieces false rd tmp1 tmp2 rs bits in made_by context inst ps (record { among = search rules; bound = bound_below ps 2 refl }) (subst (λ s. IsOfSize s (pieces_size context.flags ps)) (sym size) (fits_most context.flags ps (lit≤ tt))) (lit≤ tt) tt (lit≤ tt) asks uses (λ start. records start _) name
computation_made context inst c rd tmp1 tmp2 tmp3 rs bits size asks uses records name = let ps = pieces_by c rd tmp1 tmp2 tmp3 rs bits in made_by context inst ps (record { among = search rules; bound = bound_below ps (own_labels ps) refl }) (subst (λ s. IsOfSize s (pieces_size context.flags ps)) (sym size) (fits_most context.flags ps (lit≤ tt))) (lit≤ tt) tt (lit≤ tt) asks uses (λ start. records start _) name

pub sequence_made : (context : Context) (inst : Inst) (s : Sequence) → inst_size context inst ≡ AtMost (4 * most_words s.computation) → request_of context inst ≡ None → ((start end : ℕ) → [] ≡ uses_in context start end inst) → ((start end : ℕ) → [] ≡ inst_records context start end inst) → inst_constant inst ≡ None → IsMadeOf context inst (sequence_pieces s)
sequence_made context inst s = computation_made context inst s.computation (number_of s.rd.reg) (number_of s.tmp1.reg) (number_of s.tmp2.reg) (number_of (unwrap_or s.tmp3 s.tmp2).reg) (number_of s.rs) (bits_of s.ty)

-- ---- the instructions that move and extend a register and that choose one of two values: the pieces that make them, and how long they are.

-- what an operation leaves true of the pieces after it is true of operations
actions_keep : (P : List Piece → Type 0) (actions : List Action) → ((a : Action) (ps : List Piece) → P ps → P (Do a ∷ ps)) → P [] → P (map Do actions)
actions_keep P [] step h = h
actions_keep P (a ∷ actions) step h = step a (map Do actions) (actions_keep P actions step h)

actions_most : (actions : List Action) → pieces_most (map Do actions) ≡ 4 * length actions
actions_most [] = refl
actions_most (a ∷ actions) = let e = actions_most actions in omega arith

-- they make an instruction of which there may be so many, and which has no uses, labels and records, and names no constant
actions_made : (context : Context) (inst : Inst) (actions : List Action) → IsOfSize (inst_size context inst) (pieces_size context.flags (map Do actions)) → length actions ≤ 3 → request_of context inst ≡ None → ((start end : ℕ) → [] ≡ uses_in context start end inst) → ((start end : ℕ) → [] ≡ inst_records context start end inst) → inst_constant inst ≡ None → IsMadeOf context inst (map Do actions)
actions_made context inst actions fits few asks uses records name =
    let most = actions_most actions in
    let none = actions_keep (λ ps. own_labels ps ≡ 0) actions (λ a ps e. e) refl in
    made_by context inst (map Do actions) (record { among = actions_keep (AreAmong _) actions (λ a ps h. h) tt; bound = λ k lt. absurd (omega arith) }) fits (omega arith) (actions_keep GoNowhere actions (λ a ps h. h) tt) (omega (arith, none)) asks uses
    (λ start. actions_keep (λ ps. (at : ℕ) → records_of at (slots_of context.flags ps) ≡ []) actions (λ a ps h at. h (at + (op_of context.flags a).len)) (λ at. refl) start ∙ records start _) name

-- the same operation in the same form
pub move_by : (flags : IsaFlags) (class : RegClass) (type : IrType) (rd rs : ℕ) → move_op flags class type rd rs ≡ op_of flags (move_action class type rd rs)
move_by flags Int type rd rs = refl
move_by flags _ type rd rs = refl

move_made : (context : Context) (inst : Inst) (class : RegClass) (type : IrType) (rd rs : ℕ) → inst_size context inst ≡ move_size rd rs → request_of context inst ≡ None → ((start end : ℕ) → [] ≡ uses_in context start end inst) → ((start end : ℕ) → [] ≡ inst_records context start end inst) → inst_constant inst ≡ None → IsMadeOf context inst (move_pieces class type rd rs)
move_made context inst class type rd rs size asks uses records none =
    let a = move_action class type rd rs in
    (elim (nat_eq rd rs) as (λ c. inst_size context inst ≡ (if c then Exactly 0 else AtMost 4) → IsMadeOf context inst (if c then [] else Do a ∷ [])) [
      | true ↦ λ e. actions_made context inst [] (subst (λ s. IsOfSize s 0) (sym e) refl) (lit≤ tt) asks uses records none
      | false ↦ λ e. actions_made context inst (a ∷ []) (subst (λ s. IsOfSize s (pieces_size context.flags (Do a ∷ []))) (sym e) (fits_most context.flags (Do a ∷ []) (lit≤ tt))) (lit≤ tt) asks uses records none
    ]) size

pub mov_made : (context : Context) (rd : Writable Reg) (rm : Reg) (type : IrType) → IsMadeOf context (Mov rd rm type) (move_pieces (class_of rd.reg) type (number_of rd.reg) (number_of rm))
mov_made context rd rm type = move_made context (Mov rd rm type) (class_of rd.reg) type (number_of rd.reg) (number_of rm) refl refl (λ start end. refl) (λ start end. refl) refl

pub mov_from_preg_made : (context : Context) (rd : Writable Reg) (rm : PReg) → IsMadeOf context (MovFromPReg rd rm) (move_pieces Int I64 (number_of rd.reg) rm.number)
mov_from_preg_made context rd rm = move_made context (MovFromPReg rd rm) Int I64 (number_of rd.reg) rm.number refl refl (λ start end. refl) (λ start end. refl) refl

extend_made : (context : Context) (rd : Writable Reg) (rn : Reg) (signed : Bool) (from_bits to_bits : ℕ) → IsMadeOf context (Extend rd rn signed from_bits to_bits) (extend_pieces (number_of rd.reg) (number_of rn) signed from_bits)
extend_made context rd rn signed from_bits to_bits =
    let inst = Extend rd rn signed from_bits to_bits in
    let low = Rri Andi (number_of rd.reg) (number_of rn) (pos 255) in
    let up = Rri Slli (number_of rd.reg) (number_of rn) (pos (64 - from_bits)) in
    let back = Rri (right_shift signed) (number_of rd.reg) (number_of rd.reg) (pos (64 - from_bits)) in
    elim (is_byte signed from_bits) as (λ c. IsMadeOf context inst (if c then Do low ∷ [] else Do up ∷ Do back ∷ [])) [
      | true ↦ actions_made context inst (low ∷ []) (fits_most context.flags (Do low ∷ []) (lit≤ tt)) (lit≤ tt) refl (λ start end. refl) (λ start end. refl) refl
      | false ↦ actions_made context inst (up ∷ back ∷ []) (fits_most context.flags (Do up ∷ Do back ∷ []) (lit≤ tt)) (lit≤ tt) refl (λ start end. refl) (λ start end. refl) refl
    ]

-- the operation of a whole register's move
abbrev whole_move : Reg → Reg → Action
whole_move rd rs = move_action (class_of rd) (canonical_type (class_of rd)) (number_of rd) (number_of rs)

-- what an operation leaves true of the pieces after it is true after moves
pub moves_keep : (P : List Piece → Type 0) (rds sources : List Reg) (more : List Piece) → ((a : Action) (ps : List Piece) → P ps → P (Do a ∷ ps)) → P more → P (moves_then rds sources more)
moves_keep P (rd ∷ rds) (rs ∷ sources) more step h =
    let rest = moves_keep P rds sources more step h in
    elim (nat_eq (number_of rd) (number_of rs)) as (λ c. P ((if c then [] else Do (whole_move rd rs) ∷ []) ++ moves_then rds sources more)) [ true ↦ rest | false ↦ step (whole_move rd rs) _ rest ]
moves_keep P _ _ more step h = h

-- and of a choice, after its label
choice_keeps : (P : List Piece → Type 0) (rds first second : List Reg) (how : IntCC) (a b : ℕ) → ((a : Action) (ps : List Piece) → P ps → P (Do a ∷ ps)) → ((ps : List Piece) → P ps → P (Branch how a b 0 ∷ ps)) → P (Bind 0 ∷ []) → P (moves_then rds first (Branch how a b 0 ∷ moves_then rds second (Bind 0 ∷ [])))
choice_keeps P rds first second how a b step branch end = moves_keep P rds first _ step (branch _ (moves_keep P rds second _ step end))

pub moves_after : (rds sources : List Reg) (more : List Piece) → after 0 (moves_then rds sources more) ≡ after 0 more
moves_after rds sources more = moves_keep (λ ps. after 0 ps ≡ after 0 more) rds sources more (λ a ps e. e) refl

moves_most : (rds sources : List Reg) (more : List Piece) → pieces_most (moves_then rds sources more) ≤ 4 * length rds + pieces_most more
moves_most (rd ∷ rds) (rs ∷ sources) more =
    let le = moves_most rds sources more in
    elim (nat_eq (number_of rd) (number_of rs)) as (λ c. pieces_most ((if c then [] else Do (whole_move rd rs) ∷ []) ++ moves_then rds sources more) ≤ 4 * suc (length rds) + pieces_most more) [ true ↦ omega arith | false ↦ omega arith ]
moves_most _ _ more = omega arith

choice_owns : (rds first second : List Reg) (how : IntCC) (a b : ℕ) → own_labels (choice_pieces rds first second how a b) ≡ 1
choice_owns rds first second how a b = ap (λ n. 1 + n) (choice_keeps (λ ps. own_labels ps ≡ 0) rds first second how a b (λ a ps e. e) (λ ps e. e) refl)

choice_made : (context : Context) (info : SelectInfo) (first second : List Reg) (how : IntCC) → IsMadeOf context (Select info) (choice_pieces (written_in info.dst) first second how (number_of info.condition.rs1) (number_of info.condition.rs2))
choice_made context info first second how =
    let rds = written_in info.dst in
    let a = number_of info.condition.rs1 in
    let b = number_of info.condition.rs2 in
    let pieces = choice_pieces rds first second how a b in
    let P = IsBoundIn pieces in
    let owns = choice_owns rds first second how a b in
    let here : P 0 = (_, choice_keeps (λ ps. after 0 ps ≡ Some []) rds first second how a b (λ a ps e. e) (λ ps e. e) refl) in
    let among = subst (λ n. AreAmong n pieces) (sym owns) (choice_keeps (AreAmong 1) rds first second how a b (λ a ps h. h) (λ ps h. (lit< tt, h)) (lit< tt, tt)) in
    let results : length rds ≤ 2 = elim info.dst as (λ dst. length (written_in dst) ≤ 2) [ One r ↦ lit≤ tt | Two r s ↦ lit≤ tt ] in
    let few : pieces_most pieces ≤ 24 = omega (arith, results, moves_most rds first (Branch how a b 0 ∷ moves_then rds second (Bind 0 ∷ [])), moves_most rds second (Bind 0 ∷ [])) in
    made_by context (Select info) pieces (record { among = among; bound = subst (λ n. (k : ℕ) → k < n → P k) (sym owns) (below_more P 0 (below_none P) here) }) (fits_most context.flags pieces few) (omega arith)
    (choice_keeps GoNowhere rds first second how a b (λ a ps h. h) (λ ps h. h) tt) (omega (arith, owns)) refl (λ start end. refl)
    (choice_keeps (λ ps. (at : ℕ) → records_of at (slots_of context.flags ps) ≡ []) rds first second how a b (λ a ps h at. h (at + (op_of context.flags a).len)) (λ ps h at. h (at + 4)) (λ at. refl)) refl

pub select_made : (context : Context) (info : SelectInfo) → IsMadeOf context (Select info) (select_pieces info)
select_made context info =
    let rds = written_in info.dst in
    let a = number_of info.condition.rs1 in
    let b = number_of info.condition.rs2 in
    elim (same_numbers (map number_of (all_of info.y)) (map number_of rds)) as (λ c. IsMadeOf context (Select info) (if c then choice_pieces rds (all_of info.y) (all_of info.x) (complement_of info.condition.kind) a b else choice_pieces rds (all_of info.x) (all_of info.y) info.condition.kind a b))
    [ true ↦ choice_made context info (all_of info.y) (all_of info.x) (complement_of info.condition.kind) | false ↦ choice_made context info (all_of info.x) (all_of info.y) info.condition.kind ]

-- ---- a trap, and one where a comparison holds: the pieces that make them, and how long they are.

pub udf_made : (context : Context) (code : TrapCode) → IsMadeOf context (Udf code) (Trap code ∷ [])
udf_made context code =
    let t = trap_long context.flags in
    made_by context (Udf code) (Trap code ∷ []) (record { among = tt; bound = λ k lt. absurd (omega arith) }) (omega arith) (lit≤ tt) tt (lit≤ tt) refl (λ start end. refl) (λ start. refl) refl

trap_if_made : (context : Context) (cmp : IntegerCompare) (code : TrapCode) → IsMadeOf context (TrapIf cmp code) (trap_if_pieces cmp code)
trap_if_made context cmp code =
    let P = IsBoundIn (trap_if_pieces cmp code) in
    let t = trap_long context.flags in
    made_by context (TrapIf cmp code) (trap_if_pieces cmp code) (record { among = (lit< tt, (lit< tt, tt)); bound = below_more P 0 (below_none P) (_, refl) }) (omega arith) (lit≤ tt) tt (lit≤ tt) refl (λ start end. refl) (λ start. refl) refl

-- ---- a number in a register, and the probes of the stack, which are two and a loop: the pieces that make them, and how long they are.

-- what an operation in range and a constant leave true of the pieces after it is true after it: of an offset's pieces, and of a number's
lower_fits : (z : ℤ) → low64 (lower_of z) < 2 ^ 64
lower_fits z = ⊎_elim (λ a. omega (arith, a.0, a.1)) (λ a. omega (arith, a.0, a.1)) (read_low (2 ^ 11) (low64 z % 2 ^ 12) (omega arith) (omega arith))

pub offset_keeps : (P : List Piece → Type 0) (rd : ℕ) (o : ℤ) (more : List Piece) → ((a : Action) (ps : List Piece) → (rd < 32 → IsInRange a) → P ps → P (Do a ∷ ps)) → ((n : ℕ) (ps : List Piece) → P ps → P (Constant rd (Word64 n) ∷ ps)) → P more → P (offset_pieces rd o ++ more)
offset_keeps P rd o more step constant h = offset_by (λ ps. P (ps ++ more)) rd o (λ fits none. step _ more (λ lt. lt) h) (λ fits. step _ _ (λ lt. lt) (step _ more (λ lt. (lt, refl, lower_fits o)) h)) (λ far. constant _ more h)

pub number_keeps : (P : List Piece → Type 0) (rd : ℕ) (z : ℤ) (more : List Piece) → ((a : Action) (ps : List Piece) → (rd < 32 → IsInRange a) → P ps → P (Do a ∷ ps)) → ((n : ℕ) (ps : List Piece) → P ps → P (Constant rd (Word64 n) ∷ ps)) → P more → P (number_pieces rd z ++ more)
number_keeps P rd z more step constant h = elim (is_low z) as (λ low. P ((if low then Do (Rri Addi rd 0 (lower_of z)) ∷ [] else offset_pieces rd z) ++ more)) [ true ↦ step _ more (λ lt. (lt, refl, lower_fits z)) h | false ↦ offset_keeps P rd z more step constant h ]

number_most : (rd : ℕ) (z : ℤ) (more : List Piece) → pieces_most (number_pieces rd z ++ more) ≤ 20 + pieces_most more
number_most rd z more = number_by (λ ps. pieces_most (ps ++ more) ≤ 20 + pieces_most more) rd z (λ low. omega arith) (λ fits none. omega arith) (λ fits. omega arith) (λ far. omega arith)

-- both numbers leave true of the loop what each piece of them does
probe_keeps : (P : List Piece → Type 0) (tmp guard count : ℕ) → ((a : Action) (ps : List Piece) → P ps → P (Do a ∷ ps)) → ((rd n : ℕ) (ps : List Piece) → P ps → P (Constant rd (Word64 n) ∷ ps)) → P (Bind 0 ∷ probe_turn tmp) → P (number_pieces 31 (cast_signed w64 (guard * count)) ++ (number_pieces tmp (pos guard) ++ Bind 0 ∷ probe_turn tmp))
probe_keeps P tmp guard count step constant h = number_keeps P 31 (cast_signed w64 (guard * count)) _ (λ a ps ranged. step a ps) (constant 31) (number_keeps P tmp (pos guard) _ (λ a ps ranged. step a ps) (constant tmp) h)

-- where the loop's label and the end's stand
pub probe_places : (tmp guard count : ℕ) → (after 0 (probe_pieces tmp guard count) ≡ Some (probe_turn tmp)) × (after 1 (probe_pieces tmp guard count) ≡ Some [])
probe_places tmp guard count = (probe_keeps (λ ps. after 0 ps ≡ Some (probe_turn tmp)) tmp guard count (λ a ps e. e) (λ rd n ps e. e) refl, probe_keeps (λ ps. after 1 ps ≡ Some []) tmp guard count (λ a ps e. e) (λ rd n ps e. e) refl)

probe_made : (context : Context) (guard count : ℕ) (tmp : Writable Reg) → IsMadeOf context (StackProbeLoop guard count tmp) (probe_pieces (number_of tmp.reg) (low_word guard) (low_word count))
probe_made context guard count tmp =
    let t = number_of tmp.reg in
    let g = low_word guard in
    let n = low_word count in
    let pieces = probe_pieces t g n in
    let P = IsBoundIn pieces in
    let places = probe_places t g n in
    let owns : own_labels pieces ≡ 2 = ap (λ k. 1 + (1 + k)) (probe_keeps (λ ps. own_labels ps ≡ 0) t g n (λ a ps e. e) (λ rd n ps e. e) refl) in
    let among = subst (λ k. AreAmong k pieces) (sym owns) (probe_keeps (AreAmong 2) t g n (λ a ps h. h) (λ rd n ps h. h) (lit< tt, (lit< tt, (lit< tt, (lit< tt, tt))))) in
    let few : pieces_most pieces ≤ 60 = omega (arith, number_most 31 (cast_signed w64 (g * n)) (number_pieces t (pos g) ++ Bind 0 ∷ probe_turn t), number_most t (pos g) (Bind 0 ∷ probe_turn t)) in
    made_by context (StackProbeLoop guard count tmp) pieces (record { among = among; bound = subst (λ m. (k : ℕ) → k < m → P k) (sym owns) (below_more P 1 (below_more P 0 (below_none P) (_, places.0)) (_, places.1)) }) (fits_most context.flags pieces few) (omega arith)
    (probe_keeps GoNowhere t g n (λ a ps h. h) (λ rd n ps h. h) tt) (omega (arith, owns)) refl (λ start end. refl)
    (probe_keeps (λ ps. (at : ℕ) → records_of at (slots_of context.flags ps) ≡ []) t g n (λ a ps h at. h _) (λ rd n ps h at. h _) (λ at. refl)) refl

probe_forgets : (wide : Bool) (tmp guard count : ℕ) → pieces_forget wide (probe_pieces tmp guard count) ≡ wide
probe_forgets wide tmp guard count = probe_keeps (λ ps. pieces_forget wide ps ≡ wide) tmp guard count (λ a ps h. h) (λ rd n ps h. ap (λ c. wide || c) h ∙ or_self wide) (or-false wide)

-- ---- what stands among the code, and what is distant: one piece that makes an instruction, and how long it is.

literal_made : (context : Context) (inst : Inst) (rd : ℕ) (l : Literal) → IsOfSize (inst_size context inst) (pieces_size context.flags (Constant rd l ∷ [])) → request_of context inst ≡ None → ((start end : ℕ) → [] ≡ uses_in context start end inst) →
    ((start : ℕ) → records_of start (slots_of context.flags (Constant rd l ∷ [])) ≡ inst_records context start (start + pieces_size context.flags (Constant rd l ∷ [])) inst) → inst_constant inst ≡ None → IsMadeOf context inst (Constant rd l ∷ [])
literal_made context inst rd l fits asks uses records none =
    let few = elim l as (λ l. 12 + literal_size l + 0 ≤ 2046) [ Word32 n ↦ lit≤ tt | _ ↦ lit≤ tt ] in
    made_by context inst (Constant rd l ∷ []) (record { among = tt; bound = λ k lt. absurd (omega arith) }) fits few tt (lit≤ tt) asks uses records none

-- a constant of a type, which is of four bytes or of eight
constant_size : (type : IrType) (imm : ℕ) → literal_size (literal_of type imm) ≡ (if bits_of type == 32 then 4 else 8)
constant_size type imm = elim (bits_of type == 32) as (λ c. literal_size (if c then Word32 imm else Word64 imm) ≡ (if c then 4 else 8)) [ true ↦ refl | false ↦ refl ]

constant_quiet : (flags : IsaFlags) (rd : ℕ) (type : IrType) (imm start : ℕ) → records_of start (slots_of flags (Constant rd (literal_of type imm) ∷ [])) ≡ []
constant_quiet flags rd type imm start = elim (bits_of type == 32) as (λ c. records_of start (slots_of flags (Constant rd (if c then Word32 imm else Word64 imm) ∷ [])) ≡ []) [ true ↦ refl | false ↦ refl ]

constant_made : (context : Context) (rd : Writable Reg) (type : IrType) (imm : ℕ) → IsMadeOf context (LoadInlineConst rd type imm) (Constant (number_of rd.reg) (literal_of type imm) ∷ [])
constant_made context rd type imm =
    literal_made context (LoadInlineConst rd type imm) (number_of rd.reg) (literal_of type imm) (omega (arith, constant_size type imm)) refl (λ start end. refl) (constant_quiet context.flags (number_of rd.reg) type imm) refl

far_made : (context : Context) (rd : Writable Reg) (name : ExternalName) (offset : ℤ) → IsMadeOf context (LoadExtNameFar rd name offset) (Constant (number_of rd.reg) (NameAddress name offset) ∷ [])
far_made context rd name offset =
    let jump = jump_len context.flags (pos (8 + jump_size context.flags)) in
    literal_made context (LoadExtNameFar rd name offset) (number_of rd.reg) (NameAddress name offset) (omega arith) refl (λ start end. refl) (λ start. ap (λ at. record { offset = at; event = address_event name offset } ∷ []) (omega arith)) refl

symbol_made : (context : Context) (inst : Inst) (rd : ℕ) (symbol : Symbol) → IsOfSize (inst_size context inst) 8 → request_of context inst ≡ None → ((start end : ℕ) → [] ≡ uses_in context start end inst) →
    ((start : ℕ) → records_of start (symbol_slots rd symbol) ≡ inst_records context start (start + 8) inst) → inst_constant inst ≡ None → IsMadeOf context inst (Take rd (OfSymbol symbol) ∷ [])
symbol_made context inst rd symbol fits asks uses records none = made_by context inst (Take rd (OfSymbol symbol) ∷ []) (record { among = tt; bound = λ k lt. absurd (omega arith) }) fits (lit≤ tt) (tt, tt) (lit≤ tt) asks uses records none

got_made : (context : Context) (rd : Writable Reg) (name : ExternalName) → IsMadeOf context (LoadExtNameGot rd name) (Take (number_of rd.reg) (OfSymbol (SlotOf name)) ∷ [])
got_made context rd name = symbol_made context (LoadExtNameGot rd name) (number_of rd.reg) (SlotOf name) refl refl (λ start end. refl) (λ start. refl) refl

near_made : (context : Context) (rd : Writable Reg) (name : ExternalName) (offset : ℤ) → IsMadeOf context (LoadExtNameNear rd name offset) (Take (number_of rd.reg) (OfSymbol (AddressOf name offset)) ∷ [])
near_made context rd name offset = symbol_made context (LoadExtNameNear rd name offset) (number_of rd.reg) (AddressOf name offset) refl refl (λ start end. refl) (λ start. refl) refl

-- ---- instructions whose descriptions give their code: what each becomes.

-- where a trap is recorded, its bytes stand among the slots, after so many others
abbrev pub TrapsStand : IsaFlags → Recorded → List Slot → Type 0
TrapsStand flags (TrapAfter at code) slots = (before : List Slot) × (more : List Slot) × (slots ≡ before ++ Data (trap_bytes flags) ∷ more) × (size_of before ≡ at)
TrapsStand flags recorded slots = Unit {0}

-- Its slots are self-contained, and use and bind no label of their own, or are those of pieces. Beside veneers for the labels that it names
-- it has no more bytes than one may have that asks for no island; and nothing is known of the setting after it where it jumps in four bytes.
pub record IsGiven (context : Context) (setting : EmitVState) (inst : Inst) (f : Facts) : Type 0 where
  pub slots : List Slot
  pub parts : parts_of context setting inst ≡ slots_alone slots
  pub contained : AreSelfContained slots
  pub form : IsSummed context inst slots ⊎ ((pieces : List Piece) × (slots_of context.flags pieces ≡ slots) × IsMadeOf context inst pieces)
  pub asks : request_of context inst ≡ None
  pub few : most_bytes context inst + 8 * length (inst_ways inst) ≤ sequence_limit
  pub forgets : list_any slot_forgets slots ≡ (f.jumps && not context.flags.has_zca)
  pub traps : TrapsStand context.flags (recorded_of inst) slots

given_by : {context : Context} {setting : EmitVState} {inst : Inst} {f : Facts} (pieces : List Piece) → parts_of context setting inst ≡ slots_alone (slots_of context.flags pieces) → IsMadeOf context inst pieces → most_bytes context inst + 8 * length (inst_ways inst) ≤ sequence_limit →
    pieces_forget (not context.flags.has_zca) pieces ≡ (f.jumps && not context.flags.has_zca) → TrapsStand context.flags (recorded_of inst) (slots_of context.flags pieces) → IsGiven context setting inst f
given_by {context} pieces parts made few forgets traps =
    record { slots = slots_of context.flags pieces; parts = parts; contained = made_contained made; form = inr (pieces, refl, made); asks = made.asks; few = few; forgets = slots_forget context.flags pieces ∙ forgets; traps = traps }

pub given_code : (context : Context) (setting : EmitVState) (inst : Inst) (e : is_some (facts_of inst) ≡ true) → IsGiven context setting inst (given (facts_of inst) e)
given_code context setting (Auipc rd imm) e = record { slots = _; parts = refl; contained = (refl, tt); form = inl (record { plain = tt; fits = lit≤ tt; uses = λ allocated start. refl; records = λ start. refl; names = λ named. refl }); asks = refl; few = lit≤ tt; forgets = refl; traps = tt }
given_code context setting (LabelAddress dst label) e = record { slots = _; parts = refl; contained = (tt, (tt, tt)); form = inl (record { plain = tt; fits = refl; uses = λ allocated start. refl; records = λ start. refl; names = λ named. refl }); asks = refl; few = lit≤ tt; forgets = refl; traps = tt }
given_code context setting (LoadInlineConst rd type imm) e =
    let few = elim (bits_of type == 32) as (λ c. (if c then 4 else 8) ≤ 8) [ true ↦ lit≤ tt | false ↦ lit≤ tt ] in
    given_by _ refl (constant_made context rd type imm) (omega (arith, few, least_few context.flags)) (or-false _) tt
given_code context setting (Extend rd rn signed from_bits to_bits) e = given_by _ refl (extend_made context rd rn signed from_bits to_bits) (lit≤ tt) (either (λ ps. pieces_forget (not context.flags.has_zca) ps ≡ false) (is_byte signed from_bits) _ _ refl refl) tt
given_code context setting (TrapIf cmp code) e =
    let front = slots_of context.flags (New ∷ Branch (complement_of cmp.kind) (number_of cmp.rs1) (number_of cmp.rs2) 0 ∷ []) ++ Records (TrapEvent code) ∷ [] in
    given_by _ refl (trap_if_made context cmp code) (omega (arith, least_few context.flags)) refl (front, Here 0 ∷ [], refl, omega arith)
given_code context setting (StackProbeLoop guard_size probe_count tmp) e = given_by _ refl (probe_made context guard_size probe_count tmp) (lit≤ tt) (probe_forgets _ (number_of tmp.reg) (low_word guard_size) (low_word probe_count)) tt
given_code context setting (LoadExtNameGot rd name) e = given_by _ refl (got_made context rd name) (lit≤ tt) refl tt
given_code context setting (LoadExtNameNear rd name offset) e = given_by _ refl (near_made context rd name offset) (lit≤ tt) refl tt
given_code context setting (LoadExtNameFar rd name offset) e = given_by _ refl (far_made context rd name offset) (omega (arith, least_few context.flags)) (or-false _) tt
given_code context setting (Fence pred succ) e =
    given_by _ refl (actions_made context (Fence pred succ) (piece.Fence pred succ ∷ []) (lit≤ tt) (lit≤ tt) refl (λ start end. refl) (λ start end. refl) refl) (lit≤ tt) refl tt
given_code context setting (AtomicLoad rd type p) e =
    let pieces = atomic_load_pieces type (number_of rd.reg) (number_of p) in
    given_by pieces refl (actions_made context (AtomicLoad rd type p) (piece.Fence 3 3 ∷ piece.Load (load_for type) (number_of rd.reg) (number_of p) (pos 0) ∷ piece.Fence 2 3 ∷ []) (fits_most context.flags pieces (lit≤ tt)) (lit≤ tt) refl (λ start end. refl) (λ start end. refl) refl) (lit≤ tt) refl tt
given_code context setting (AtomicStore src type p) e =
    let pieces = atomic_store_pieces type (number_of src) (number_of p) in
    given_by pieces refl (actions_made context (AtomicStore src type p) (piece.Fence 3 1 ∷ piece.Store (store_for type) (number_of p) (number_of src) (pos 0) ∷ []) (fits_most context.flags pieces (lit≤ tt)) (lit≤ tt) refl (λ start end. refl) (λ start end. refl) refl) (lit≤ tt) refl tt
given_code context setting inst e = absurd (none_is_some e)

given_some : {A : Type 0} (o : Option A) (a : A) (e : is_some o ≡ true) → o ≡ Some a → given o e ≡ a
given_some None a e is = absurd (none_is_some e)
given_some (Some b) a e is = same_Some b a is

pub code_given : (context : Context) (setting : EmitVState) (inst : Inst) (f : Facts) → facts_of inst ≡ Some f → IsGiven context setting inst f
code_given context setting inst f is = let e = ap is_some is in subst (λ (f : Facts). IsGiven context setting inst f) (given_some (facts_of inst) f e is) (given_code context setting inst e)

-- an instruction that records a trap is one of these
pub trap_given : {at : ℕ} {code : TrapCode} (inst : Inst) → recorded_of inst ≡ TrapAfter at code → (f : Facts) × (facts_of inst ≡ Some f)
trap_given {at} {code} inst is = (elim (described inst) as (λ d. recorded_in d ≡ TrapAfter at code → (f : Facts) × (facts_in d ≡ Some f)) [ None ↦ λ e. absurd (cc) | Some (Gives g) ↦ λ e. (g.facts, refl) | Some d ↦ λ e. absurd (cc) ]) is

-- what fills a field has bytes for it
abbrev pub HasRoom : Recorded → ℕ → Type 0
HasRoom (SlotInParts name) bytes = 8 ≤ bytes
HasRoom (AddressInParts name addend) bytes = 8 ≤ bytes
HasRoom (AddressLast name addend) bytes = 8 ≤ bytes
HasRoom recorded bytes = Unit {0}

pub has_room : (context : Context) (inst : Inst) (bytes : ℕ) → IsOfSize (inst_size context inst) bytes → HasRoom (recorded_of inst) bytes
has_room context (LoadExtNameGot rd name) bytes size = omega (arith, size)
has_room context (LoadExtNameNear rd name offset) bytes size = omega (arith, size)
has_room context (LoadExtNameFar rd name offset) bytes size = omega (arith, size)
has_room context inst bytes size = tt
