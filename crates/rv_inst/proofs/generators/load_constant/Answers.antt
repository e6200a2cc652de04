use Rattle.std.proofs.Common.{refl}
use Rattle.rv_inst.proofs.Constants.{made_constant, inline_constant}
use Rattle.rv_inst.proofs.generators.load_constant.Goals as goal
use Rattle.rv_inst.proofs.generators.load_constant.Goals.{in-None+in_ok-push-in-None, in-Some+in_ok-put_split-in-Some}

pub returns-clause-insts : goal.returns-clause-insts
returns-clause-insts c = elim c.match-generate_imm.branch [
  | in-None+in_ok-push-in-None w ↦ inline_constant c.args.ty c.args.rd c.args.value c.match-generate_imm.insts.items w.in-None.ensures (rw (w.insts-is, w.in_ok-push-in-None.ensures.ok, c.new-insts.ensures.items) refl)
  | in-Some+in_ok-put_split-in-Some w ↦ made_constant c.args.ty c.args.rd c.args.value w.in-Some.upper w.in-Some.lower c.match-generate_imm.insts.items w.in-Some.ensures (rw (w.insts-is, w.in_ok-put_split-in-Some.ensures.insts, c.new-insts.ensures.items) refl)
]
