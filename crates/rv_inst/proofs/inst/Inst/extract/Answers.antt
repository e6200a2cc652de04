use Rattle.rv_inst.proofs.RegisterParts.{extracts}
use Rattle.rv_inst.proofs.Sequences.{ok_instead}
use Rattle.std.proofs.Common.{false, sym, subst}
use Rattle.rv_inst.specs.Fields.{Extracts}
use Rattle.rv_inst.proofs.inst.Inst.extract.Goals as goal

pub returns-clause-extracts : goal.returns-clause-extracts
returns-clause-extracts c =
    ok_instead c.extract_insts.result _ _ (λ insts are. subst (Extracts false c.args.rd c.args.offset c.args.rs c.args.ty) (sym are) (extracts false c.args.rd c.args.offset c.args.rs c.args.ty)) c.extract_insts.ensures.insts
