use Rattle.rv_listing.proofs.RegisterNames.{names_read}
use Rattle.rv_listing.proofs.registers.register.Goals as goal

pub returns-in-empty-clause-names : goal.returns-in-empty-clause-names
returns-in-empty-clause-names c = names_read

pub returns-in-len1-up-clause-names : goal.returns-in-len1-up-clause-names
returns-in-len1-up-clause-names c = names_read

pub returns-in-Some-clause-names : goal.returns-in-Some-clause-names
returns-in-Some-clause-names c = names_read

pub returns-in-None-clause-names : goal.returns-in-None-clause-names
returns-in-None-clause-names c = names_read
