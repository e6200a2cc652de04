use Rattle.std.proofs.Common.{ap, sym, ◌∙◌}
use Rattle.rv_base.specs.declared.call.CallInfo.{CallInfo}
use Rattle.rv_base.specs.declared.external_name.ExternalName.{ExternalName}
use Rattle.rv_base.specs.declared.regs.Reg.{Reg}
use Rattle.rv_inst.proofs.ResultLoads.{call_asks, call_ind_asks}
use Rattle.rv_inst.proofs.inst.Inst.asks_for_island.Goals as goal

pub returns-then-not-info : goal.returns-then-not-info
returns-then-not-info c = λ context. c.any_is_loaded.ensures ∙ call_asks context c.args.self.now c.in-Call.info c.as_slice.result.now c.in-Call.is (c.as_slice.ensures ∙ ap (λ (i : CallInfo ExternalName). i.defs) c.as_ref-info.ensures) (ap (λ (i : CallInfo ExternalName). i.patchable) (sym c.as_ref-info.ensures) ∙ c.if-not-info.true)

pub returns-in-CallInd : goal.returns-in-CallInd
returns-in-CallInd c = λ context. c.any_is_loaded-in-CallInd.ensures ∙ call_ind_asks context c.args.self.now c.in-CallInd.info c.as_slice-in-CallInd.result.now c.in-CallInd.is (c.as_slice-in-CallInd.ensures ∙ ap (λ (i : CallInfo Reg). i.defs) c.as_ref.ensures)
