use Rattle.rv_inst.proofs.Moves.{bytes_type}
use Rattle.rv_inst.proofs.inst.Inst.canonical_type_for_rc.Goals as goal

pub returns-in-Vector : goal.returns-in-Vector
returns-in-Vector c = rw c.in-Vector.is (bytes_type _)
