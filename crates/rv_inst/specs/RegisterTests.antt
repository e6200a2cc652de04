-- The tests over registers, alone and in their places, by their names.
use Rattle.std.specs.Prelude.{Bool}
use Rattle.rv_base.specs.declared.regs.Reg.{Reg}
use Rattle.rv_inst.specs.declared.registers.RegisterTest.{RegisterTest}
use Rattle.rv_inst.specs.declared.registers.RegisterTest.TheVariants.{Virtual, OtherClass, Reserved}
use Rattle.rv_inst.specs.declared.units.PlacedReg.{PlacedReg}
use Rattle.rv_inst.specs.declared.units.PlaceTest.{PlaceTest}
use Rattle.rv_inst.specs.declared.units.PlaceTest.TheVariants.{Register, OutOfPlace}
use Rattle.rv_inst.specs.Rules.{is_virtual, is_other_class, is_reserved, is_out_of_place}

abbrev pub test_of : RegisterTest → Reg → Bool
test_of Virtual r = is_virtual r
test_of OtherClass r = is_other_class r
test_of Reserved r = is_reserved r

abbrev pub place_test : PlaceTest → PlacedReg → Bool
place_test (Register test) p = test_of test p.reg
place_test OutOfPlace p = is_out_of_place p
