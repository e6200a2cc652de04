use Rattle.std.proofs.Common.{rules}
use Rattle.rv_vector.proofs.Distinct.{distinct}
use Rattle.rv_vector.proofs.vtype.VType.encode.Goals as goal

pub returns-clause-injective : goal.returns-clause-injective
returns-clause-injective c other e = distinct other c.args.self.now (search rules)
