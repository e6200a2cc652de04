use Rattle.std.proofs.Common.{rules}
use lib.Ieee as Ieee
use Rattle.rv_host.proofs.choices.no_number.Goals as goal

pub returns-in-Single : goal.returns-in-Single
unfolding Ieee.to_bits
returns-in-Single c = search rules

pub returns-in-Double : goal.returns-in-Double
unfolding Ieee.to_bits
returns-in-Double c = search rules
