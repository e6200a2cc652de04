use Rattle.std.proofs.Common.{rules, ◌≡◌, ◌∙◌, sym, ap, refl, lit<, FitsSigned, of_z, Option, Some, None, [], ◌∷◌}
use Rattle.std.proofs.lemmas.Int.{to_z-of_z}
use Rattle.std.specs.Int.{cast_signed, w64}
use Rattle.std.specs.Option.{unwrap_or}
use Rattle.rv_base.specs.declared.regs.Reg.{Reg}
use Rattle.rv_base.specs.declared.regs.RegClass.TheVariants.{Int}
use Rattle.rv_base.specs.declared.regs.Writable.{Writable}
use Rattle.rv_base.specs.Regs.{IsReal}
use Rattle.rv_base.proofs.RegEquality.{int_reg_is}
use Rattle.rv_inst.specs.declared.inst.Inst.TheVariants.{Auipc, Jalr}
use Rattle.rv_inst.specs.Generators.{link_or_zero, AreJump}
use Rattle.rv_inst.proofs.Immediates.{upper_is, lower_is}
use Rattle.rv_inst.proofs.Sequences.{jumps_by}
use Rattle.rv_inst.proofs.inst.Inst.construct_auipc_and_jalr.Goals as goal

linked : (link : Option (Writable Reg)) (zero : Writable Reg) → IsReal zero.reg Int 0 → unwrap_or link zero ≡ link_or_zero link
linked None zero is = ap (λ (r : Reg). record { reg = r }) (int_reg_is zero.reg 0 (lit< tt) is)
linked (Some link) zero is = refl

pub returns : goal.returns
returns c =
    let z = c.args.offset in
    let upper = c.in-Some.upper in
    let lower = c.in-Some.lower in
    let fits : FitsSigned w64 z = search rules in
    let back = to_z-of_z w64 z fits in
    let same : cast_signed w64 c.cast_unsigned.result ≡ z = ap (cast_signed w64) c.cast_unsigned.ensures ∙ ap (λ n. cast_signed w64 (of_z w64 n)) back ∙ back in
    let made = c.in-Some.ensures ∙ same in
    let link = c.unwrap_or.ensures ∙ linked c.args.link c.writable_zero_reg.result c.writable_zero_reg.ensures in
    let jump : AreJump c.args.link c.args.tmp z (Auipc c.args.tmp upper ∷ Jalr c.unwrap_or.result c.to_reg.result lower ∷ []) = record {
      upper = upper;
      lower = lower;
      upper_part = sym (upper_is z upper.value lower.value upper.low upper.high lower.low lower.high made);
      lower_part = sym (lower_is z upper.value lower.value upper.low upper.high lower.low lower.high made);
      in_parts = rw (link, c.to_reg.ensures) refl;
    } in
    record { insts = jump; runs = jumps_by c.args.link c.args.tmp z _ c.requires jump }
