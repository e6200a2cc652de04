use Rattle.rv_sequences.proofs.{CodePut.Putting, Terms.{◌≤◌, drop, shape_of, IsSoundBuffer}}
use Rattle.rv_sequences.proofs.code.put_code.Given as goal

abbrev pub invariant-loop-piece : goal.invariant-loop-piece
invariant-loop-piece l = Putting l.flags l.code (shape_of l.fn.sink) (drop l.piece-index l.code) l.own (shape_of l.sink) × IsSoundBuffer l.sink × (l.own.count ≤ l.piece-index)
