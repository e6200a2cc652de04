-- What the parts of an instruction do, wherever they stand in finished code.
use Rattle.std.specs.Prelude.{◌≡◌, false, true, None, Some}
use Rattle.rv_inst.specs.Core.{is_integer, is_integer_in}
use Rattle.rv_inst.specs.Frames.{is_bad_frame_for}
use Rattle.rv_inst.specs.Operands.{Return, return_of, tail_call_of}
use Rattle.rv_inst.specs.Rules.{inst_rule}
use Rattle.rv_inst.specs.declared.inst.Inst.{Inst}
use Rattle.rv_code.specs.InstRuns.{ResumesIn, RunsIn}
use Rattle.rv_code.specs.Sites.{Site}
use Rattle.rv_code.specs.declared.state.EmitVState.{EmitVState}

-- those of an instruction of the integer core that breaks no rule, in a frame that it can take away, run as it means
abbrev pub PartsRun : Type 0
PartsRun =
    (site : Site) (setting : EmitVState) (inst : Inst) →
    is_integer_in site.context.frame inst ≡ true →
    inst_rule site.context inst ≡ None →
    is_bad_frame_for site.context.frame (tail_call_of inst) ≡ false →
    RunsIn site setting inst

-- and what is left of one that returns runs on as it means from there
abbrev pub CallsResume : Type 0
CallsResume =
    (site : Site) (setting : EmitVState) (inst : Inst) (r : Return) →
    is_integer inst ≡ true →
    inst_rule site.context inst ≡ None →
    return_of site.context.flags inst ≡ Some r →
    ResumesIn site setting inst r
