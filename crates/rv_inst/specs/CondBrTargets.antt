-- Where a branch goes on one of its two sides.
use Rattle.std.specs.Prelude.{ℕ, List, ◌++◌, Option, Some, None, codes}
use Rattle.std.specs.Fmt.{decimal}
use Rattle.rv_base.specs.declared.label.MachLabel.{MachLabel}
use Rattle.rv_inst.specs.declared.inst.CondBrTarget.{CondBrTarget}
use Rattle.rv_inst.specs.declared.inst.CondBrTarget.TheVariants.{Label, Fallthrough}

-- its label, where it has one
abbrev pub label_of : CondBrTarget → Option MachLabel
label_of (Label label) = Some label
label_of Fallthrough = None

-- how it is written
abbrev pub text_of : CondBrTarget → List ℕ
text_of (Label label) = codes "label" ++ decimal label.number
text_of Fallthrough = codes "0"
