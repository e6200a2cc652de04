-- Which instructions are those of a constant.
use Rattle.std.proofs.Common.{◌≡◌, ℕ, List, [], ◌∷◌, sym}
use Rattle.std.specs.Int.{cast_signed, w64}
use Rattle.rv_base.specs.declared.ir_type.IrType.{IrType}
use Rattle.rv_base.specs.declared.regs.Reg.{Reg}
use Rattle.rv_base.specs.declared.regs.Writable.{Writable}
use Rattle.rv_imms.specs.Splitting.{value_of, IsSplittable}
use Rattle.rv_imms.specs.declared.imm12.Imm12.{Imm12}
use Rattle.rv_imms.specs.declared.imm20.Imm20.{Imm20}
use Rattle.rv_inst.proofs.Immediates.{upper_is, lower_is, made_is_splittable}
use Rattle.rv_inst.specs.Generators.{split_insts, AreConstant}
use Rattle.rv_inst.specs.declared.inst.Inst.{Inst}
use Rattle.rv_inst.specs.declared.inst.Inst.TheVariants.{LoadInlineConst}

-- those of any two immediates that make it, since these are its own two
pub made_constant : (ty : IrType) (rd : Writable Reg) (value : ℕ) (upper : Imm20) (lower : Imm12) (insts : List Inst) → value_of upper.value lower.value ≡ cast_signed w64 value → insts ≡ split_insts rd upper lower → AreConstant ty rd value insts
made_constant ty rd value upper lower insts made in_parts =
    let z = cast_signed w64 value in
    record {
      split = λ fits. record {
        upper = upper;
        lower = lower;
        upper_part = sym (upper_is z upper.value lower.value upper.low upper.high lower.low lower.high made);
        lower_part = sym (lower_is z upper.value lower.value upper.low upper.high lower.low lower.high made);
        in_parts = in_parts;
      };
      inline = λ none_make_it. absurd (none_make_it (made_is_splittable z upper.value lower.value upper.low upper.high lower.low lower.high made));
    }

-- and where no two make it, the constant among the code
pub inline_constant : (ty : IrType) (rd : Writable Reg) (value : ℕ) (insts : List Inst) → ¬ (IsSplittable (cast_signed w64 value)) → insts ≡ LoadInlineConst rd ty value ∷ [] → AreConstant ty rd value insts
inline_constant ty rd value insts none_make_it alone = record { split = λ fits. absurd (none_make_it fits); inline = λ _. alone }
