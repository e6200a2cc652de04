-- The pieces of a trap where a comparison holds.
use Rattle.std.specs.Prelude.{List, [], ◌∷◌}
use Rattle.rv_base.specs.declared.trap.TrapCode.{TrapCode}
use Rattle.rv_base.specs.CondCodes.{complement_of}
use Rattle.rv_base.specs.Regs.{number_of}
use Rattle.rv_ops.specs.declared.compare.IntegerCompare.{IntegerCompare}
use Rattle.rv_code.specs.Pieces.{Piece, Branch, New, Bind, Trap}

-- a branch over it, to a label after it, where the comparison doesn't hold
abbrev pub trap_if_pieces : IntegerCompare → TrapCode → List Piece
trap_if_pieces cmp code = New ∷ Branch (complement_of cmp.kind) (number_of cmp.rs1) (number_of cmp.rs2) 0 ∷ Trap code ∷ Bind 0 ∷ []
