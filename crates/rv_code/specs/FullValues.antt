-- Values of the machine with all units: those that are taken as the same, and registers of any class.
use Rattle.std.specs.Prelude.{◌≡◌, ℕ, if◌then◌else◌, List, [], ◌∷◌, map}
use Rattle.rv_base.specs.declared.regs.Reg.{Reg}
use Rattle.rv_base.specs.declared.regs.RegClass.{RegClass}
use Rattle.rv_base.specs.declared.regs.RegClass.TheVariants.{Int, Float, Vector}
use Rattle.rv_base.specs.Regs.{class_of, number_of}
use Rattle.rv_machine.specs.State.{reg, set_reg}
use Rattle.rv_inst.specs.Meaning.{compares}
use Rattle.rv_inst.specs.Operands.{all_of, written_in}
use Rattle.rv_inst.specs.SameValues.{Same, SameBut}
use Rattle.rv_inst.specs.declared.inst.SelectInfo.{SelectInfo}
use Rattle.rv_full.specs.Rows.{put_units}
use Rattle.rv_full.specs.Units.{FullValues, freg, set_freg, vreg, set_vreg}

-- the integers are the same, and the units equal: their registers, frm, the reservation, the setting and the trace
pub record SameFull (v w : FullValues) : Type 0 where
  pub ints : Same v.ints w.ints
  pub units : v.units ≡ w.units

-- the same, but for integer registers that may hold anything
pub record SameFullBut (free : List ℕ) (v w : FullValues) : Type 0 where
  pub ints : SameBut free v.ints w.ints
  pub units : v.units ≡ w.units

-- ---- registers of any class

-- what a register holds, by its file and its number
abbrev pub value_in : RegClass → FullValues → ℕ → ℕ
value_in Int v n = reg v.ints n
value_in Float v n = freg v.units n
value_in Vector v n = vreg v.units n

abbrev pub value_of : FullValues → Reg → ℕ
value_of v r = value_in (class_of r) v (number_of r)

-- a value goes to a register
abbrev pub put_in : RegClass → FullValues → ℕ → ℕ → FullValues
put_in Int v n x = record { ints = set_reg v.ints n x; units = v.units }
put_in Float v n x = put_units (set_freg v.units n x) v
put_in Vector v n x = put_units (set_vreg v.units n x) v

-- registers get values, each its own
abbrev pub put_all : FullValues → List Reg → List ℕ → FullValues
put_all v [] xs = v
put_all v (r ∷ rs) [] = v
put_all v (r ∷ rs) (x ∷ xs) = put_all (put_in (class_of r) v (number_of r) x) rs xs

-- of two values one goes to registers: the first where a comparison holds, and else the second
abbrev pub chosen : SelectInfo → FullValues → FullValues
chosen info v = put_all v (written_in info.dst) (map (value_of v) (if compares info.condition v.ints then all_of info.x else all_of info.y))
