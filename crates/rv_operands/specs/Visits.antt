-- What a visitor does with the requests of an instruction. Two lists stand for them: as they were asked, with the registers before the
-- call, and as they were answered, with the registers after it.
use Rattle.std.specs.Prelude.{◌≡◌, List, [], ◌∷◌, ◌++◌, Result, OnOk, OnErr}
use Rattle.rv_base.specs.declared.regs.Reg.{Reg}
use Rattle.rv_base.specs.declared.constraint.Constraint.{Constraint}
use Rattle.rv_base.specs.declared.out_of_memory.OutOfMemory.{OutOfMemory}
use Rattle.rv_base.specs.Operands.{registers_of}

-- all were recorded as they were asked, and the registers that the visitor gave are those of the answers
pub record AreVisited {S : Type 0} (recorded : S → List Constraint) (given : S → List Reg) (old new : S) (asked answered : List Constraint) : Type 0 where
  pub recorded_more : recorded new ≡ recorded old ++ asked
  pub given_more : given new ≡ given old ++ registers_of answered

-- the first of them were, and the others are as they were, and weren't recorded
pub record IsStopped {S : Type 0} (recorded : S → List Constraint) (given : S → List Reg) (old new : S) (asked answered : List Constraint) : Type 0 where
  pub first_asked : List Constraint
  pub first_answered : List Constraint
  pub left : List Constraint
  pub all_asked : asked ≡ first_asked ++ left
  pub all_answered : answered ≡ first_answered ++ left
  pub visited : AreVisited recorded given old new first_asked first_answered

-- all where a call succeeds, and the first ones where it is out of memory
pub record AreHandedOver {S : Type 0} (recorded : S → List Constraint) (given : S → List Reg) (result : Result (Unit {0}) OutOfMemory) (old new : S) (asked answered : List Constraint) : Type 0 where
  pub all : OnOk result (AreVisited recorded given old new asked answered)
  pub first_ones : OnErr result (IsStopped recorded given old new asked answered)

-- one request: none, where a call is out of memory
pub record IsUnasked {S : Type 0} (recorded : S → List Constraint) (given : S → List Reg) (old new : S) (asked answered : Constraint) : Type 0 where
  pub recorded_same : recorded new ≡ recorded old
  pub given_same : given new ≡ given old
  pub kept : answered ≡ asked

pub record IsHandedOver {S : Type 0} (recorded : S → List Constraint) (given : S → List Reg) (result : Result (Unit {0}) OutOfMemory) (old new : S) (asked answered : Constraint) : Type 0 where
  pub done : OnOk result (AreVisited recorded given old new (asked ∷ []) (answered ∷ []))
  pub unasked : OnErr result (IsUnasked recorded given old new asked answered)
