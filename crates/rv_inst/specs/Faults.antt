-- For the functions of check: which rules of its own an instruction breaks, one by one.
use Rattle.std.specs.Prelude.{Bool, false, List, Option, None, Some}
use Rattle.rv_base.specs.declared.constant.Constant.{Constant}
use Rattle.rv_inst.specs.Operands.{targets_of}
use Rattle.rv_inst.specs.Rules.{Faults, faults_of, lacks_named, sequence_faults}
use Rattle.rv_inst.specs.declared.inst.Inst.{Inst}
use Rattle.rv_inst.specs.declared.sequence.Sequence.{Sequence}

abbrev pub is_misplaced : Inst → Bool
is_misplaced inst = (faults_of inst).class

abbrev pub has_zero : Inst → Bool
has_zero inst = (faults_of inst).zeroed

abbrev pub has_clash : Inst → Bool
has_clash inst = (faults_of inst).clashing

abbrev pub has_bad_type : Inst → Bool
has_bad_type inst = (faults_of inst).type

abbrev pub is_out_of_range : Inst → Bool
is_out_of_range inst = (faults_of inst).range

abbrev pub has_bad_rounding : Inst → Bool
has_bad_rounding inst = (faults_of inst).rounding

abbrev pub has_bad_width : Inst → Bool
has_bad_width inst = (faults_of inst).width

abbrev pub has_empty_table : Inst → Bool
has_empty_table inst = (faults_of inst).table

abbrev pub lacks_target : Inst → Bool
lacks_target inst = (faults_of inst).target

abbrev pub has_bad_size : Inst → Bool
has_bad_size inst = (faults_of inst).size

-- whether an instruction names a constant that isn't there, or reads more bytes than it has
abbrev pub lacks_constant : List Constant → Inst → Bool
lacks_constant constants inst = lacks_named constants (targets_of inst)

-- whether a sequence breaks a rule, where an instruction is one
abbrev pub sequence_breaks : (Faults → Bool) → Option Sequence → Bool
sequence_breaks rule None = false
sequence_breaks rule (Some s) = rule (sequence_faults s)
