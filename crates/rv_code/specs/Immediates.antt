-- The upper and the lower immediate of an offset, and of a distance to a label.
use Rattle.std.specs.Prelude.{◌^◌, ℤ}
use Rattle.rv_machine.specs.State.{signed}
pub use Rattle.rv_inst.specs.Immediates.{upper_of, lower_of}
use Rattle.rv_inst.specs.LabelUse.{upper_part, lower_part}

-- those of a distance; the lower one counts from the word before its own
abbrev pub upper_of_distance : ℤ → ℤ
upper_of_distance d = signed (2 ^ 19) (upper_part d)

abbrev pub lower_of_distance : ℤ → ℤ
lower_of_distance d = signed (2 ^ 11) (lower_part d)
