use Rattle.std.proofs.Common.{◌*◌, ◌/◌, ◌^◌, arith, ap, subst, ◌∙◌}
use Rattle.std.proofs.lemmas.Int.{ints}
use Rattle.rv_imms.specs.Bits.{low_bits}
use Rattle.rv_ops.specs.Compressed.{space_bits, cj_numbers}
use Rattle.rv_encode.specs.Layouts.{IsCjType}
use Rattle.rv_encode.proofs.Halfwords.{cj_decodes, without_zca}
use Rattle.rv_encode.proofs.Numbers.{low_bits_held}
use Rattle.rv_encode.proofs.compressed.encode_cj_type.Goals as goal
use Rattle.rv_encode.proofs.compressed.encode_cj_type.Goals.{After-cj_half}

holds : (c : After-cj_half) → IsCjType c.cj_half.result (space_bits (cj_numbers c.args.op).space) (low_bits (2 ^ 12) c.args.imm.value) (cj_numbers c.args.op).funct3
holds c =
    let held = low_bits_held (2 ^ 11) c.args.imm.value (omega (arith, ints)) (omega (arith, ints)) c.requires in
    subst (λ n. IsCjType c.cj_half.result (space_bits (cj_numbers c.args.op).space) n (cj_numbers c.args.op).funct3) (ap (λ n. n / 2 * 2) c.bits-2.ensures.value ∙ held) (rw (c.bits.ensures.value, c.op.ensures, c.funct3.ensures.value) at c.cj_half.ensures)

pub returns-clause-layout : goal.returns-clause-layout
returns-clause-layout c = holds c

pub returns-clause-decodes : goal.returns-clause-decodes
returns-clause-decodes c = λ flags zca. cj_decodes flags c.args.op c.cj_half.result c.args.imm zca (holds c)

pub returns-clause-without : goal.returns-clause-without
returns-clause-without c = λ flags off. without_zca flags _ off
