use Rattle.std.proofs.Common.{arith, ap, ◌∙◌}
use Rattle.rv_base.specs.declared.regs.RegClass.TheVariants.{Int}
use Rattle.rv_listing.specs.Registers.{real}
use Rattle.rv_listing.proofs.ByDigit.{read_by_digit}
use Rattle.rv_listing.proofs.registers.by_digit.Goals as goal

pub returns : goal.returns
returns c = read_by_digit c.args.letter c.args.digit _ c.real.result (omega arith) (omega arith) (omega arith) (omega arith) (c.real.ensures ∙ ap (real Int) c.from.ensures)
