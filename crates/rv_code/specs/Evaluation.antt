-- What pieces compute: values alone, with own labels as places in the list, and the addresses of all else in an environment.
use Rattle.std.specs.Prelude.{◌≡◌, ◌⊎◌, Bool, true, false, not, ℕ, ℤ, zero, suc, ◌+◌, ◌%◌, ◌*◌, ◌^◌, ◌<◌, ◌≤◌, if◌then◌else◌, List, [], ◌∷◌, length, Option, Some, None}
use Rattle.rv_base.specs.CondCodes.{holds}
use Rattle.rv_base.specs.LabelUse.{code_limit}
use Rattle.rv_machine.specs.Arithmetic.{extend_word}
use Rattle.rv_machine.specs.Memory.{load_result, store_bytes}
use Rattle.rv_machine.specs.State.{State, Memory, IsState, Values, reg, set_reg, wrap, low64}
use Rattle.rv_machine.specs.Steps.{iter}
use Rattle.rv_encode.specs.Operations.{load_op, store_op}
use Rattle.rv_ops.specs.Memory.{is_float_load, is_float_store}
use Rattle.rv_inst.specs.Meaning.{Environment, symbol_at, alu_rrr, alu_rri, put_bytes, addresses_from, AreOutside}
use Rattle.rv_code.specs.Chains.{IsAt}
use Rattle.rv_base.specs.declared.label.MachLabel.{MachLabel}
use Rattle.rv_ops.specs.declared.memory.LoadOP.{LoadOP}
use Rattle.rv_ops.specs.Operations.{is_carry_line, is_carry_unary}
use Rattle.rv_ops.specs.declared.memory.LoadOP.TheVariants.{Ld}
use Rattle.rv_code.specs.InstRuns.{environment}
use Rattle.rv_code.specs.Pieces.{Action, Rrr, Rri, Lui, Load, Store, Copy, Frr, Fence, Amo, Literal, Word32, Word64, NameAddress, Distant, OfLabel, OfSymbol, Piece, Do, Constant, Take, LoadFrom, Note, Name, Branch, Jump, New, Bind, Go, Call, Jalr, Trap, after, slots_of, pieces_size, AreInRange, GoNowhere}
use Rattle.rv_code.specs.Sites.{Site, StandsIn}
use Rattle.rv_code.specs.Slots.{Symbol, AddressOf, SlotOf}

-- ---- values

-- where a load or a store goes
abbrev pub address : Values → ℕ → ℤ → ℕ
address v base offset = wrap (reg v base + low64 offset)

-- whether an operation is one of integers; of any other the machine with all units alone says what it does
abbrev pub is_of_integers : Action → Bool
is_of_integers (Rrr op rd a b) = not (is_carry_line op b)
is_of_integers (Rri op rd rs imm) = not (is_carry_unary op)
is_of_integers (Lui rd imm) = true
is_of_integers (Load op rd base offset) = not (is_float_load op)
is_of_integers (Store op base src offset) = not (is_float_store op)
is_of_integers (Copy width rd rs) = false
is_of_integers (Frr op width rd rs) = false
is_of_integers (Fence pred succ) = true
is_of_integers (Amo op amo rd addr src) = false

-- what an operation makes of the values
abbrev pub effect : Action → Values → Values
effect (Rrr op rd a b) v = set_reg v rd (alu_rrr op (reg v a) (reg v b))
effect (Rri op rd rs imm) v = set_reg v rd (alu_rri op (reg v rs) imm)
effect (Lui rd imm) v = set_reg v rd (wrap (low64 imm * 2 ^ 12))
effect (Load op rd base offset) v = set_reg v rd (load_result (load_op op) v.mem (address v base offset))
effect (Store op base src offset) v = put_bytes v (address v base offset) (store_bytes (store_op op) (reg v src))
effect (Copy width rd rs) v = v
effect (Frr op width rd rs) v = v
effect (Fence pred succ) v = v
effect (Amo op amo rd addr src) v = v

-- the addresses that were written, store by store, once it writes its own
abbrev pub wrote : Action → Values → List (List ℕ) → List (List ℕ)
wrote (Rrr op rd a b) v m = m
wrote (Rri op rd rs imm) v m = m
wrote (Lui rd imm) v m = m
wrote (Load op rd base offset) v m = m
wrote (Store op base src offset) v m = addresses_from (address v base offset) (length (store_bytes (store_op op) (reg v src))) ∷ m
wrote (Copy width rd rs) v m = m
wrote (Frr op width rd rs) v m = m
wrote (Fence pred succ) v m = m
wrote (Amo op amo rd addr src) v m = m

-- what a literal loads
abbrev pub literal_value : Environment → Literal → ℕ
literal_value env (Word32 n) = extend_word n
literal_value env (Word64 n) = wrap n
literal_value env (NameAddress name addend) = symbol_at env name addend

-- the address of a symbol plus a number, or what stands in its slot
abbrev pub symbol_value : Environment → Symbol → Memory → ℕ
symbol_value env (AddressOf name addend) mem = symbol_at env name addend
symbol_value env (SlotOf name) mem = load_result (load_op Ld) mem (env.slot name.number)

abbrev pub distant_value : Environment → Distant → Memory → ℕ
distant_value env (OfLabel l) mem = env.label l.number
distant_value env (OfSymbol symbol) mem = symbol_value env symbol mem

-- the pieces that are still ahead, the values, and the addresses that were written
pub record Point : Type 0 where
  pub ahead : List Piece
  pub values : Values
  pub written : List (List ℕ)

abbrev pub at : List Piece → Values → List (List ℕ) → Point
at ps v m = record { ahead = ps; values = v; written = m }

-- where nothing was written
abbrev pub point : List Piece → Values → Point
point ps v = at ps v []

abbrev pub to : Option (List Piece) → Values → List (List ℕ) → Option Point
to None v m = None
to (Some ps) v m = Some (at ps v m)

-- what a label's place holds
abbrev pub label_value : Environment → LoadOP → MachLabel → Memory → ℕ
label_value env op l mem = load_result (load_op op) mem (env.label l.number)

-- one piece of a whole; none where it leads out of it, or is no operation of integers
abbrev pub next : Environment → List Piece → List Piece → Values → List (List ℕ) → Option Point
next env whole [] v m = None
next env whole (Do a ∷ ps) v m = if is_of_integers a then Some (at ps (effect a v) (wrote a v m)) else None
next env whole (Constant rd l ∷ ps) v m = Some (at ps (set_reg v rd (literal_value env l)) m)
next env whole (Take rd to ∷ ps) v m = Some (at ps (set_reg v rd (distant_value env to v.mem)) m)
next env whole (LoadFrom op rd trap l ∷ ps) v m = if is_float_load op then None else Some (at ps (set_reg v rd (label_value env op l v.mem)) m)
next env whole (Note event ∷ ps) v m = Some (at ps v m)
next env whole (Name k ∷ ps) v m = Some (at ps v m)
next env whole (Branch how a b k ∷ ps) v m = if holds how (reg v a) (reg v b) then to (after k whole) v m else Some (at ps v m)
next env whole (Jump k ∷ ps) v m = to (after k whole) v m
next env whole (New ∷ ps) v m = Some (at ps v m)
next env whole (Bind k ∷ ps) v m = Some (at ps v m)
next env whole (Go l ∷ ps) v m = None
next env whole (Call link tmp name ∷ ps) v m = None
next env whole (Jalr link rs offset ∷ ps) v m = None
next env whole (Trap code ∷ ps) v m = None

abbrev pub and_then : Option Point → (Point → Option Point) → Option Point
and_then None f = None
and_then (Some p) f = f p

-- so many
abbrev pub evaluate : Environment → ℕ → List Piece → Point → Option Point
evaluate env zero whole p = Some p
evaluate env (suc n) whole p = and_then (next env whole p.ahead p.values p.written) (evaluate env n whole)

-- how many steps of the machine they are at most: one for each operation, but two for what is distant, and three for a constant, which is
-- loaded and jumped over
abbrev pub steps_for : List Piece → ℕ
steps_for [] = 0
steps_for (Do a ∷ ps) = 1
steps_for (Constant rd l ∷ ps) = 3
steps_for (Take rd to ∷ ps) = 2
steps_for (LoadFrom op rd trap l ∷ ps) = 2
steps_for (Note event ∷ ps) = 0
steps_for (Name k ∷ ps) = 0
steps_for (Branch how a b k ∷ ps) = 1
steps_for (Jump k ∷ ps) = 1
steps_for (New ∷ ps) = 0
steps_for (Bind k ∷ ps) = 0
steps_for (Go l ∷ ps) = 0
steps_for (Call link tmp name ∷ ps) = 0
steps_for (Jalr link rs offset ∷ ps) = 0
steps_for (Trap code ∷ ps) = 0

abbrev pub steps_on : Option Point → (Point → ℕ) → ℕ
steps_on None f = 0
steps_on (Some p) f = f p

abbrev pub steps_of : Environment → ℕ → List Piece → Point → ℕ
steps_of env zero whole p = 0
steps_of env (suc n) whole p = steps_for p.ahead + steps_on (next env whole p.ahead p.values p.written) (steps_of env n whole)

-- ---- on the machine

-- code that is short enough for every distance in it, and in which labels are bound
pub record AreShort (site : Site) : Type 0 where
  pub short : length site.bytes < code_limit
  pub labels : (label at : ℕ) → site.place label ≡ Some at → at ≤ length site.bytes

-- slots of a whole stand in finished code, whose end is that offset; where they name labels, it is short
pub record StandIn (site : Site) (allocated start end : ℕ) (whole : List Piece) : Type 0 where
  pub stand : StandsIn site allocated start (slots_of site.context.flags whole)
  pub even : start % 2 ≡ 0
  pub ends : start + pieces_size site.context.flags whole ≡ end
  pub room : end ≤ length site.bytes
  pub ranges : AreInRange whole
  pub bounds : GoNowhere whole ⊎ AreShort site

-- a machine with these values where these pieces are ahead, of code from an offset on
pub record IsAtPoint (site : Site) (allocated start end : ℕ) (p : Point) (s : State) : Type 0 where
  pub offset : ℕ
  pub within : start ≤ offset
  pub here : IsAt site offset (pieces_size site.context.flags p.ahead) s
  pub stand : StandIn site allocated offset end p.ahead
  pub is_state : IsState s
  pub values : s.values ≡ p.values

-- in at most so many steps the machine comes there
pub record ComesToPoint (most : ℕ) (site : Site) (allocated start end : ℕ) (p : Point) (s : State) : Type 0 where
  pub state : State
  pub steps : ℕ
  pub few : steps ≤ most
  pub ran : iter site.context.flags steps s ≡ Some state
  pub there : IsAtPoint site allocated start end p state

-- all that was written is outside the code
abbrev pub AllOutside : Site → List (List ℕ) → Type 0
AllOutside site [] = Unit {0}
AllOutside site (addresses ∷ m) = AreOutside site.base (length site.bytes) addresses × AllOutside site m

-- where pieces stand that write no byte of the code, the machine's steps over them are what the evaluation says, at most so many
abbrev pub PiecesRun : Type 0
PiecesRun =
    (site : Site) (first last allocated start end : ℕ) (whole : List Piece) →
    StandIn site allocated start end whole →
    (n : ℕ) (p q : Point) (s : State) →
    evaluate (environment site first last) n whole p ≡ Some q →
    AllOutside site q.written →
    IsAtPoint site allocated start end p s →
    ComesToPoint (steps_of (environment site first last) n whole p) site allocated start end q s
