use Rattle.rv_operands.proofs.Requests.{both_after, ends_within}
use Rattle.rv_operands.proofs.Parts.{choice_handed}
use Rattle.rv_operands.proofs.groups.chooses.Goals as goal

pub returns-in_err-reads_two_late-clause-handed : goal.returns-in_err-reads_two_late-clause-handed
returns-in_err-reads_two_late-clause-handed g c = choice_handed c.args.info.now (record c.args.info.now { condition = record c.args.info.now.condition { rs1 = c.reads_two_late.new.rs1; rs2 = c.reads_two_late.new.rs2 } }) (ends_within _ c.from_residual.ensures.0 c.in_err-reads_two_late.ensures.handed)

pub returns-clause-handed : goal.returns-clause-handed
returns-clause-handed g c = choice_handed c.args.info.now (record { dst = c.chooses_between.new.dst; condition = record c.args.info.now.condition { rs1 = c.reads_two_late.new.rs1; rs2 = c.reads_two_late.new.rs2 }; x = c.chooses_between.new.x; y = c.chooses_between.new.y }) (both_after c.in_ok-reads_two_late.ensures.handed c.chooses_between.ensures.handed)
