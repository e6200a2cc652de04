use Rattle.{rv_code.specs.Pieces.{Do, Rrr, number_pieces}, rv_ops.specs.declared.alu.AluOPRRR.TheVariants.Add, rv_sequences.proofs.AddressCode.pieces_then}
use Rattle.{rv_code.proofs.LineSlots.number_few, rv_emit.proofs.TailCallCode.real_int, rv_emit.proofs.Terms.{alone_long, alone_sound, number_slots, [], ◌∷◌, even_plain, number_even, ◌≡◌, ◌∙◌, arith, cast_signed, cast_unsigned, w64, to_z-of_z, real_number}}
use Rattle.rv_emit.proofs.stack.put_far_step.Goals as goal

pub put_rrr-requires : goal.put_rrr-requires
put_rrr-requires c =
    let same = to_z-of_z w64 c.args.size c.ranges.size in
    let value : cast_signed w64 c.cast_unsigned.result ≡ c.args.size = (λ i. cast_signed w64 (c.cast_unsigned.ensures i)) ∙ (λ i. cast_signed w64 (cast_unsigned w64 (same i))) ∙ same in
    let number = rw (value, real_number _ _ _ c.writable_spilltmp_reg.ensures) at c.in_ok-put_number.ensures.slots in
    record {
      rd = real_int _ _ c.writable_stack_reg.ensures;
      rs1 = real_int _ _ c.stack_reg.ensures;
      rs2 = real_int _ _ c.spilltmp_reg.ensures;
      room = omega (arith, alone_long _ _ _ number, number_few c.args.flags 31 c.args.size, c.requires.room);
      sound = alone_sound _ _ _ number;
    }

pub returns-clause-slots : goal.returns-clause-slots
returns-clause-slots c =
    let same = to_z-of_z w64 c.args.size c.ranges.size in
    let value : cast_signed w64 c.cast_unsigned.result ≡ c.args.size = (λ i. cast_signed w64 (c.cast_unsigned.ensures i)) ∙ (λ i. cast_signed w64 (cast_unsigned w64 (same i))) ∙ same in
    pieces_then (number_pieces 31 c.args.size) (Do (Rrr Add 2 2 31) ∷ []) _ _ _ (even_plain (number_slots c.args.flags 31 c.args.size) (number_even c.args.flags 31 c.args.size)) (rw (value, real_number _ _ _ c.writable_spilltmp_reg.ensures) at c.in_ok-put_number.ensures.slots)
    (rw (real_number _ _ _ c.writable_stack_reg.ensures, real_number _ _ _ c.stack_reg.ensures, real_number _ _ _ c.spilltmp_reg.ensures) at c.in_ok-put_rrr.ensures.slots)
