-- Where addresses are, as emission has them.
use Rattle.rv_base.specs.Regs.{number_of}
use Rattle.rv_encode.specs.Registers.{IsIntRegister}
use Rattle.rv_inst.specs.Addresses.{Location, Based, AtLabel}
use Rattle.rv_inst.specs.declared.label_use.LabelUse.{LabelUse}
use Rattle.mach_buffer.specs.Shape.{Shape, IsUsable}
use Rattle.rv_sequences.specs.declared.memory.Place.{Place}
use Rattle.rv_sequences.specs.declared.memory.Place.TheVariants as place

abbrev pub location_at : Place → Location
location_at (place.Based r o) = Based (number_of r) o
location_at (place.AtLabel l) = AtLabel l

-- an integer register, or a label that a use in a buffer may name
abbrev pub IsFinePlace : Shape LabelUse → Place → Type 0
IsFinePlace s (place.Based r o) = IsIntRegister r
IsFinePlace s (place.AtLabel l) = IsUsable s l.number
