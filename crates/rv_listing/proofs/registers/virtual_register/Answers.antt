use Rattle.rv_listing.proofs.Ranges.{virtual_is, virtual_high}
use Rattle.rv_listing.proofs.registers.virtual_register.Goals as goal

pub returns-then-number-lt2097152 : goal.returns-then-number-lt2097152
returns-then-number-lt2097152 c = virtual_is c.args.number _ _

pub returns-else-number-lt2097152 : goal.returns-else-number-lt2097152
returns-else-number-lt2097152 c = virtual_high c.args.number c.if-number-lt2097152.false
