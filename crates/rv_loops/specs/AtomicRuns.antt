-- How an atomic loop of a listing runs, wherever its pieces stand in finished code and whatever others write meanwhile: it ends with one
-- change, with one read, or asking for an answer.
use Rattle.std.specs.Prelude.{◌≡◌, ◌≢◌, ◌⊎◌, ℕ, ◌+◌, ◌*◌, ◌<◌, ◌≤◌, Bool, true, List, ◌∷◌, ◌++◌, length, Some, None}
use Rattle.rv_base.specs.IrType.{bits_of}
use Rattle.rv_base.specs.Regs.{number_of}
use Rattle.rv_machine.specs.State.{IsState, Memory, Values, byte, reg, wrap}
use Rattle.rv_full.specs.declared.answer.Answer.{Answer}
use Rattle.rv_full.specs.declared.answer.Answer.TheVariants.{Success}
use Rattle.rv_full.specs.declared.units.Reservation.{Reservation}
use Rattle.rv_full.specs.Atomics.{number_at, number_put, width_bytes}
use Rattle.rv_full.specs.Shared.{Shared, interfere}
use Rattle.rv_full.specs.Steps.{Asks, fiter, fnext, fstep}
use Rattle.rv_full.specs.Units.{FullState, Units, set_reserved}
use Rattle.rv_inst.specs.AtomicLoops.{changed_number, field_start, held}
use Rattle.rv_inst.specs.Meaning.{AreOutside, addresses_from}
use Rattle.rv_inst.specs.declared.atomic_loop.AtomicLoop.{AtomicLoop}
use Rattle.rv_code.specs.AtomicLoops.{loop_pieces, width_for}
use Rattle.rv_code.specs.Evaluation.{StandIn}
use Rattle.rv_code.specs.Sites.{IsPlacedAt, Site}
use Rattle.rv_code.specs.Usable.{IsFineAtomicLoop}
use Rattle.rv_loops.specs.Alone.{AllFailed}
use Rattle.rv_loops.specs.Passes.{Differs, GoesOn}
use Rattle.rv_loops.specs.SharedLoops.{Passes, Quiet, reservation_at}
use Rattle.rv_loops.specs.SharedRuns.{AllClear, Keeps, OnPieces, Still}

-- a loop of a listing, where it ends in the code, the values and units from which it is entered, and the address of its number
pub record Entered : Type 0 where
  pub site : Site
  pub end : ℕ
  pub loop : AtomicLoop
  pub values : Values
  pub units : Units

abbrev pub bits_in : Entered → ℕ
bits_in e = bits_of e.loop.ty

abbrev pub address_in : Entered → ℕ
address_in e = reg e.values (number_of e.loop.address)

-- the bytes of the number, and how many
abbrev pub size_in : Entered → ℕ
size_in e = width_bytes (width_for (bits_in e))

abbrev pub reserved_in : Entered → Reservation
reserved_in e = reservation_at (width_for (bits_in e)) (address_in e)

-- the number in a memory, and what its field holds
abbrev pub number_in : Entered → Memory → ℕ
number_in e mem = number_at (width_for (bits_in e)) mem (address_in e)

abbrev pub field_in : Entered → Memory → ℕ
field_in e mem = held e.loop.change (bits_in e) (field_start e.loop e.values) (number_in e mem)

-- At its end `dst` has a number, and the other registers what they had, but t0, x30 and x31; units are as they were, but for a
-- reservation, and these answers are left.
pub record HasEnded (e : Entered) (old : ℕ) (more : List Answer) (b : FullState) : Type 0 where
  pub pc : b.state.pc ≡ wrap (e.site.base + e.end)
  pub placed : IsPlacedAt e.site b.state.values.mem
  pub is_state : IsState b.state
  pub dst : reg b.state.values (number_of e.loop.dst.reg) ≡ old
  pub others : (k : ℕ) → k < 30 → k ≢ number_of e.loop.dst.reg → k ≢ number_of e.loop.t0.reg → reg b.state.values k ≡ reg e.values k
  pub units : set_reserved b.units None ≡ set_reserved e.units None
  pub answers : b.answers ≡ more

-- Its last pass begins after others, whose stores failed, at a state whose memory holds the number that it loads. From there on steps that
-- write no memory lead to another state; the number's bytes are reserved there, unless others wrote to one of them meanwhile.
pub record LastOf (e : Entered) (took : List Answer) (a : Shared) : Type 0 where
  pub first : Shared
  pub earlier : Passes e.site.context.flags (reserved_in e) 17 took a first
  pub between : ℕ
  pub touched : Bool
  pub last : Shared
  pub still : Still e.site.context.flags (reserved_in e) between first touched last
  pub short : between ≤ 18
  pub keeps : Keeps (reserved_in e) (λ j. byte first.full.state.values.mem (wrap (address_in e + j))) touched last.full

-- It changes the field once: one step writes memory, where the number's bytes still are what the last load found, and at most one step
-- follows.
pub record ChangesOnce (e : Entered) (answers : List Answer) (a : Shared) : Type 0 where
  pub took : List Answer
  pub more : List Answer
  pub parted : answers ≡ took ++ Success true ∷ more
  pub pass : LastOf e took a
  pub same :
      (j : ℕ) →
      j < size_in e →
      byte pass.last.full.state.values.mem (wrap (address_in e + j)) ≡ byte pass.first.full.state.values.mem (wrap (address_in e + j))
  pub goes_on : GoesOn e.loop.change e.values (field_in e pass.first.full.state.values.mem)
  pub stored : FullState
  pub stores_it : fstep e.site.context.flags pass.last.full ≡ Some stored
  pub memory :
      stored.state.values.mem
      ≡ number_put (width_for (bits_in e))
      (changed_number e.loop.change (bits_in e) (field_start e.loop e.values) (number_in e pass.first.full.state.values.mem) (reg e.values (number_of e.loop.operand)))
      pass.last.full.state.values.mem
      (address_in e)
  pub final : Shared
  pub rest : ℕ
  pub little : rest ≤ 1
  pub leaves : Quiet e.site.context.flags rest (interfere pass.last.later stored) final
  pub none : final.full.units.reserved ≡ None
  pub ended : HasEnded e (field_in e pass.first.full.state.values.mem) more final.full

-- it finds another number than the expected one in the field, and no step writes memory
pub record ReadsOnce (e : Entered) (answers : List Answer) (a : Shared) : Type 0 where
  pub took : List Answer
  pub more : List Answer
  pub parted : answers ≡ took ++ more
  pub pass : LastOf e took a
  pub differs : Differs e.loop.change e.values (field_in e pass.first.full.state.values.mem)
  pub ended : HasEnded e (field_in e pass.first.full.state.values.mem) more pass.last.full

-- it asks at its store, since no answer of its kind is first among those that are left
pub record AsksAtStore (e : Entered) (answers : List Answer) (a : Shared) : Type 0 where
  pub took : List Answer
  pub more : List Answer
  pub parted : answers ≡ took ++ more
  pub pass : LastOf e took a
  pub asks : fnext e.site.context.flags pass.last.full ≡ Asks
  pub left : pass.last.full.answers ≡ more

-- from its start, outside whose code the number is, and others write
abbrev pub AtomicLoopsRun : Type 0
AtomicLoopsRun =
    (e : Entered) (allocated start : ℕ) →
    StandIn e.site allocated start e.end (loop_pieces e.loop) →
    IsFineAtomicLoop e.loop →
    AreOutside e.site.base (length e.site.bytes) (addresses_from (address_in e) (size_in e)) →
    (answers : List Answer) (a : Shared) →
    OnPieces e.site allocated start e.end (loop_pieces e.loop) e.values.regs e.units answers a.full →
    AllClear e.site a.later →
    ChangesOnce e answers a ⊎ (ReadsOnce e answers a ⊎ AsksAtStore e answers a)

-- ---- where no one else writes

-- so many steps lead there, of at most 20 for each answer that was taken and 20 more
pub record Leads (e : Entered) (took : List Answer) (b c : FullState) : Type 0 where
  pub steps : ℕ
  pub few : steps ≤ 20 * length took + 20
  pub ran : fiter e.site.context.flags steps b ≡ Some c

-- it changes the field of the number in its memory, after stores that failed
pub record ChangesAlone (e : Entered) (answers : List Answer) (b : FullState) : Type 0 where
  pub took : List Answer
  pub more : List Answer
  pub parted : answers ≡ took ++ Success true ∷ more
  pub failed : AllFailed took
  pub goes_on : GoesOn e.loop.change e.values (field_in e b.state.values.mem)
  pub final : FullState
  pub leads : Leads e took b final
  pub memory :
      final.state.values.mem
      ≡ number_put (width_for (bits_in e))
      (changed_number e.loop.change (bits_in e) (field_start e.loop e.values) (number_in e b.state.values.mem) (reg e.values (number_of e.loop.operand)))
      b.state.values.mem
      (address_in e)
  pub none : final.units.reserved ≡ None
  pub ended : HasEnded e (field_in e b.state.values.mem) more final

-- it finds another number than the expected one there
pub record ReadsAlone (e : Entered) (answers : List Answer) (b : FullState) : Type 0 where
  pub took : List Answer
  pub more : List Answer
  pub parted : answers ≡ took ++ more
  pub failed : AllFailed took
  pub differs : Differs e.loop.change e.values (field_in e b.state.values.mem)
  pub final : FullState
  pub leads : Leads e took b final
  pub memory : final.state.values.mem ≡ b.state.values.mem
  pub reserved : final.units.reserved ≡ Some (reserved_in e)
  pub ended : HasEnded e (field_in e b.state.values.mem) more final

-- it asks at its store
pub record AsksAlone (e : Entered) (answers : List Answer) (b : FullState) : Type 0 where
  pub took : List Answer
  pub more : List Answer
  pub parted : answers ≡ took ++ more
  pub failed : AllFailed took
  pub final : FullState
  pub leads : Leads e took b final
  pub asks : fnext e.site.context.flags final ≡ Asks
  pub left : final.answers ≡ more

abbrev pub AtomicLoopsAlone : Type 0
AtomicLoopsAlone =
    (e : Entered) (allocated start : ℕ) →
    StandIn e.site allocated start e.end (loop_pieces e.loop) →
    IsFineAtomicLoop e.loop →
    AreOutside e.site.base (length e.site.bytes) (addresses_from (address_in e) (size_in e)) →
    (answers : List Answer) (b : FullState) →
    OnPieces e.site allocated start e.end (loop_pieces e.loop) e.values.regs e.units answers b →
    ChangesAlone e answers b ⊎ (ReadsAlone e answers b ⊎ AsksAlone e answers b)
