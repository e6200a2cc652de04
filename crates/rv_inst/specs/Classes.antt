-- The classes of registers and of types, and the types that instructions of integers take.
use Rattle.std.specs.Prelude.{Bool, true, false, ◌&&◌, nat_le, Option, Some, None}
use Rattle.rv_base.specs.IrType.{bits_of}
use Rattle.rv_base.specs.declared.ir_type.IrType.{IrType}
use Rattle.rv_base.specs.declared.ir_type.IrType.TheVariants.{I8, I16, I32, I64, I128, F16, F32, F64, F128, Vector as VectorOf}
use Rattle.rv_base.specs.declared.regs.RegClass.{RegClass}
use Rattle.rv_base.specs.declared.regs.RegClass.TheVariants.{Int, Float, Vector}

abbrev pub is_int_class : RegClass → Bool
is_int_class Int = true
is_int_class Float = false
is_int_class Vector = false

abbrev pub is_float_class : RegClass → Bool
is_float_class Int = false
is_float_class Float = true
is_float_class Vector = false

abbrev pub is_vector_class : RegClass → Bool
is_vector_class Int = false
is_vector_class Float = false
is_vector_class Vector = true

abbrev pub same_class : RegClass → RegClass → Bool
same_class Int s = is_int_class s
same_class Float s = is_float_class s
same_class Vector s = is_vector_class s

-- the class of a type's registers; integers and floating-point numbers of 128 bits have none
abbrev pub class_for : IrType → Option RegClass
class_for I8 = Some Int
class_for I16 = Some Int
class_for I32 = Some Int
class_for I64 = Some Int
class_for I128 = None
class_for F16 = Some Float
class_for F32 = Some Float
class_for F64 = Some Float
class_for F128 = None
class_for (VectorOf v) = Some Vector

abbrev pub has_class : Option RegClass → RegClass → Bool
has_class None class = false
has_class (Some asked) class = same_class asked class

-- an integer of at most 64 bits
abbrev pub is_int_type : IrType → Bool
is_int_type type = has_class (class_for type) Int

-- an integer of 32 or 64 bits
abbrev pub is_word_type : IrType → Bool
is_word_type type = is_int_type type && nat_le 32 (bits_of type)
