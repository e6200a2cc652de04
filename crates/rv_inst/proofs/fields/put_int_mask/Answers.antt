use Rattle.std.proofs.Common.{◌≡◌, ◌⊎◌, inl, inr, false, [], ◌∷◌, ◌++◌, refl, ap, ◌∙◌, append_assoc}
use Rattle.rv_base.specs.declared.ir_type.IrType.{IrType}
use Rattle.rv_base.specs.declared.ir_type.IrType.TheVariants.{I16, I32}
use Rattle.rv_base.specs.declared.regs.Reg.{Reg}
use Rattle.rv_base.specs.declared.regs.Writable.{Writable}
use Rattle.rv_inst.specs.Fields.{minus_one, byte_mask, extend_of, mask_insts}
use Rattle.rv_inst.specs.Generators.{zero_register, addi_of}
use Rattle.rv_inst.proofs.RegisterParts.{imm12_is}
use Rattle.rv_inst.proofs.fields.put_int_mask.Goals as goal

pub returns-in_ok-push-in-I8-clause-insts : goal.returns-in_ok-push-in-I8-clause-insts
returns-in_ok-push-in-I8-clause-insts c = rw (c.in-I8.is, c.in_ok-push-in-I8.ensures.ok, c.load_imm12.ensures, imm12_is c.from_i16.result byte_mask c.from_i16.ensures) refl

pub returns-in_ok-push-in-I64-clause-insts : goal.returns-in_ok-push-in-I64-clause-insts
returns-in_ok-push-in-I64-clause-insts c =
    rw (c.in-I64.is, c.in_ok-push-in-I64.ensures.ok, c.load_imm12-in-I64.ensures, imm12_is c.from_i16-in-I64.result minus_one c.from_i16-in-I64.ensures) refl

-- of 16 and of 32 bits
narrow : (rd : Writable Reg) (ty : IrType) → (ty ≡ I16) ⊎ (ty ≡ I32) → addi_of rd zero_register minus_one ∷ extend_of false ty rd rd.reg ∷ [] ≡ mask_insts rd ty
narrow rd ty (inl e) = rw e refl
narrow rd ty (inr e) = rw e refl

pub returns-in_ok-push-in-I16-2-clause-insts : goal.returns-in_ok-push-in-I16-2-clause-insts
returns-in_ok-push-in-I16-2-clause-insts c =
    let old = c.args.insts.now.items in
    let all_ones = c.load_imm12-in-I16.ensures ∙ ap (addi_of c.args.rd zero_register) (imm12_is c.from_i16-in-I16.result minus_one c.from_i16-in-I16.ensures) in
    let cut = c.extend.ensures ∙ ap (extend_of false c.args.ty c.args.rd) c.to_reg.ensures in
    rw (c.in_ok-push-in-I16-2.ensures.ok, c.in_ok-push-in-I16.ensures.ok, all_ones, cut) (append_assoc old _ _ ∙ ap (λ insts. old ++ insts) (narrow c.args.rd c.args.ty c.in-I16.is))
