use Rattle.std.proofs.Common.{◌≡◌, ◌*◌, ◌/◌, ◌^◌, arith, ap, subst, ◌∙◌, w32}
use Rattle.std.proofs.lemmas.Int.{ints, to_z-of_z}
use Rattle.rv_base.specs.Regs.{number_of}
use Rattle.rv_imms.specs.Bits.{low_bits}
use Rattle.rv_machine.specs.Opcodes.{JAL}
use Rattle.rv_encode.specs.Layouts.{IsJType}
use Rattle.rv_encode.proofs.Decoding.{jal_decodes}
use Rattle.rv_encode.proofs.Numbers.{low_bits_held}
use Rattle.rv_encode.proofs.jumps.encode_jal.Goals as goal
use Rattle.rv_encode.proofs.jumps.encode_jal.Goals.{After-j_word}

holds : (c : After-j_word) → IsJType c.j_word.result JAL (number_of c.args.rd.reg) (low_bits (2 ^ 21) c.args.distance)
holds c =
    let is : c.jump_bits.result ≡ low_bits (2 ^ 21) c.args.distance = rw (to_z-of_z w32 c.args.distance c.ranges.distance) at c.jump_bits.ensures in
    let held = low_bits_held (2 ^ 20) c.args.distance (omega (arith, ints)) (omega (arith, ints)) c.requires.even in
    subst (λ n. IsJType c.j_word.result JAL (number_of c.args.rd.reg) n) (ap (λ n. n / 2 * 2) is ∙ held) (rw c.reg_to_gpr_num.ensures.value at c.j_word.ensures)

pub returns-clause-layout : goal.returns-clause-layout
returns-clause-layout c = holds (goal.at.returns-clause-layout c).After-j_word

pub returns-clause-decodes : goal.returns-clause-decodes
returns-clause-decodes c = λ flags. jal_decodes flags c.j_word.result (number_of c.args.rd.reg) c.args.distance c.requires.high c.requires.low (holds (goal.at.returns-clause-decodes c).After-j_word)
