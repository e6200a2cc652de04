use Rattle.rv_machine.specs.Steps.{fetch}
use Rattle.rv_machine.proofs.DecodeLaws.{decode_zero}
use Rattle.rv_machine.proofs.laws.zero_is_no_operation.Goals as goal

pub returns : goal.returns
returns c = λ flags mem pc zero. decode_zero flags (fetch mem pc) zero
