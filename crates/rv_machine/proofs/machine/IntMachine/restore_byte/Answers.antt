use Rattle.std.proofs.Common.{◌∙◌}
use Rattle.rv_machine.proofs.Memory.{restored, cleared}
use Rattle.rv_machine.proofs.machine.IntMachine.restore_byte.Goals as goal

pub returns-in-Some : goal.returns-in-Some
returns-in-Some c = λ m byte was wrote. restored c.set_byte.result m c.args.self.now c.set_byte.new.self c.args.at c.in-Some.byte byte (was ∙ c.in-Some.is) wrote c.set_byte.ensures.ok c.set_byte.ensures.absent

pub returns-in-None : goal.returns-in-None
returns-in-None c = λ m byte was wrote. cleared m c.args.self.now c.clear_byte.new.self c.args.at byte (was ∙ c.in-None.is) wrote c.clear_byte.ensures
