use Rattle.{rv_base.specs.Regs.number_of, rv_compress.proofs.ChosenForms.sp_load_is, rv_ops.specs.declared.memory.LoadOP.TheVariants.Ld, std.proofs.Common.refl}
use Rattle.rv_compress.proofs.compressed_memory.c_ldsp.Goals as goal

pub returns-in-Some : goal.returns-in-Some
returns-in-Some c =
    let e = c.encode_ci_sp_load.ensures in
    λ flags zca. sp_load_is _ _ (number_of c.args.rd.reg) _ Ld _ c.in-Some.ensures e.narrow (e.decodes flags Ld zca refl c.requires.written)
