-- What one pass of an atomic loop makes of the number that it has loaded: links of the proof.
use Rattle.std.specs.Prelude.{◌≡◌, ◌≢◌, ℕ, ◌<◌, ◌≤◌, if◌then◌else◌, List, [], ◌∷◌, Some}
use Rattle.rv_base.specs.IrType.{bits_of}
use Rattle.rv_base.specs.Regs.{number_of}
use Rattle.rv_machine.specs.State.{AreValues, Values, reg}
use Rattle.rv_inst.specs.AtomicLoops.{changed_number, field_start, held, is_whole}
use Rattle.rv_inst.specs.Meaning.{Environment}
use Rattle.rv_inst.specs.declared.atomic_loop.AtomicLoop.{AtomicLoop}
use Rattle.rv_inst.specs.declared.atomic_loop.Change.{Change}
use Rattle.rv_inst.specs.declared.atomic_loop.Change.TheVariants.{Combines, Swaps}
use Rattle.rv_code.specs.AtomicLoops.{after_load, loop_pieces, store_and_retry}
use Rattle.rv_code.specs.Evaluation.{evaluate, point}
use Rattle.rv_code.specs.Pieces.{Piece, Bind}
use Rattle.rv_code.specs.Usable.{IsFineAtomicLoop}

-- what follows the branch back
abbrev pub after_retry : Change → List Piece
after_retry (Combines op) = []
after_retry (Swaps expected) = Bind 1 ∷ []

-- the register that a loop stores: x30, in which the field was changed; or that of the number itself, where it is changed as a whole
abbrev pub whole_in : Change → ℕ → ℕ → ℕ
whole_in (Combines op) t0 x = t0
whole_in (Swaps expected) t0 x = x

abbrev pub stored_in : AtomicLoop → ℕ
stored_in l = if is_whole l.change (bits_of l.ty) then whole_in l.change (number_of l.t0.reg) (number_of l.operand) else 30

-- its store, and what follows
abbrev pub store_on : AtomicLoop → List Piece
store_on l = store_and_retry (bits_of l.ty) (number_of l.t0.reg) (number_of l.address) (stored_in l) (after_retry l.change)

-- the field of the number that was loaded to dst
abbrev pub field_of : AtomicLoop → Values → ℕ
field_of l v = held l.change (bits_of l.ty) (field_start l v) (reg v (number_of l.dst.reg))

-- registers other than those that a pass writes, and memory, are as they were
pub record KeepsOthers (l : AtomicLoop) (v w : Values) : Type 0 where
  pub regs : (k : ℕ) → k < 30 → k ≢ number_of l.dst.reg → k ≢ number_of l.t0.reg → reg w k ≡ reg v k
  pub mem : w.mem ≡ v.mem
  pub are_values : AreValues w

-- whether a pass goes on to its store: not where it swaps, and the field isn't the expected number
abbrev pub GoesOn : Change → Values → ℕ → Type 0
GoesOn (Combines op) v old = Unit {0}
GoesOn (Swaps expected) v old = reg v (number_of expected) ≡ old

abbrev pub Differs : Change → Values → ℕ → Type 0
Differs (Combines op) v old = ⊥
Differs (Swaps expected) v old = reg v (number_of expected) ≢ old

-- at its store a pass has the field in dst, and the changed number in the register that is stored
pub record AtStore (l : AtomicLoop) (v w : Values) : Type 0 where
  pub old : reg w (number_of l.dst.reg) ≡ field_of l v
  pub number : reg w (stored_in l) ≡ changed_number l.change (bits_of l.ty) (field_start l v) (reg v (number_of l.dst.reg)) (reg v (number_of l.operand))
  pub others : KeepsOthers l v w
  pub goes_on : GoesOn l.change v (field_of l v)

-- where it leaves it has the field in dst
pub record AtLeave (l : AtomicLoop) (v w : Values) : Type 0 where
  pub old : reg w (number_of l.dst.reg) ≡ field_of l v
  pub others : KeepsOthers l v w
  pub differs : Differs l.change v (field_of l v)

-- from the values after its load a pass comes to its store, or leaves, in at most 17 pieces
pub data PassEnds (env : Environment) (l : AtomicLoop) (v : Values) : Type 0 where
  Stores : (n : ℕ) (w : Values) →
      n ≤ 17 →
      evaluate env n (loop_pieces l) (point (after_load l) v) ≡ Some (point (store_on l) w) →
      AtStore l v w →
      PassEnds env l v
  Leaves : (n : ℕ) (w : Values) →
      n ≤ 17 →
      evaluate env n (loop_pieces l) (point (after_load l) v) ≡ Some (point [] w) →
      AtLeave l v w →
      PassEnds env l v

-- that of every loop whose registers and type keep the rules
abbrev pub PassesEnd : Type 0
PassesEnd = (env : Environment) (l : AtomicLoop) (v : Values) → IsFineAtomicLoop l → AreValues v → PassEnds env l v
