use Rattle.rv_emit.proofs.Terms.{pos, refl, number_of, Slli, Add, Base, decoded, decoded_rri, decoded_rrr, decoded_jalr, both_alone}
use Rattle.rv_machine.specs.declared.ops.BaseOp.TheVariants as base
use Rattle.rv_emit.proofs.table.put_entry.Goals as goal

pub returns-clause-slots : goal.returns-clause-slots
returns-clause-slots c =
    let flags = c.args.flags in
    let tmp1 = number_of c.args.tmp1.reg in
    let tmp2 = number_of c.args.tmp2.reg in
    both_alone _ _ _ _ _ tt (c.in_ok-put_word.ensures.slot flags (decoded (Base base.Auipc) tmp1 0 0 (pos 0)) refl (c.enc_auipc.ensures.decodes flags))
    (both_alone _ _ _ _ _ tt (c.in_ok-put_word-2.ensures.slot flags (decoded_rri Slli tmp2 31 (pos 3)) refl (c.eights_word.ensures flags))
    (both_alone _ _ _ _ _ tt (c.in_ok-put_word-3.ensures.slot flags (decoded_rrr Add tmp1 tmp1 tmp2) refl (c.encode_alu_rrr.ensures flags))
    (c.in_ok-put_word-4.ensures.slot flags (decoded_jalr 0 tmp1 (pos 16)) refl (c.enter_word.ensures flags))))
