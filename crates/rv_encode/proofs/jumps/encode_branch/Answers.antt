use Rattle.std.proofs.Common.{◌≡◌, ◌*◌, ◌/◌, ◌^◌, arith, ap, subst, ◌∙◌, w32}
use Rattle.std.proofs.lemmas.Int.{ints, to_z-of_z}
use Rattle.rv_base.specs.Regs.{number_of}
use Rattle.rv_imms.specs.Bits.{low_bits}
use Rattle.rv_ops.specs.Compare.{funct3_of, branch_of, rs1_of, rs2_of}
use Rattle.rv_machine.specs.Opcodes.{BRANCH}
use Rattle.rv_encode.specs.Layouts.{IsBType}
use Rattle.rv_encode.proofs.Decoding.{branch_decodes}
use Rattle.rv_encode.proofs.Numbers.{low_bits_held}
use Rattle.rv_encode.proofs.jumps.encode_branch.Goals as goal
use Rattle.rv_encode.proofs.jumps.encode_branch.Goals.{After-b_word}

holds : (c : After-b_word) → IsBType c.b_word.result BRANCH (funct3_of (branch_of c.args.kind.kind)) (number_of (rs1_of c.args.kind)) (number_of (rs2_of c.args.kind)) (low_bits (2 ^ 13) c.args.distance)
holds c =
    let is : c.branch_bits.result ≡ low_bits (2 ^ 13) c.args.distance = rw (to_z-of_z w32 c.args.distance c.ranges.distance) at c.branch_bits.ensures in
    let held = low_bits_held (2 ^ 12) c.args.distance (omega (arith, ints)) (omega (arith, ints)) c.requires.even in
    subst (λ n. IsBType c.b_word.result BRANCH (funct3_of (branch_of c.args.kind.kind)) (number_of (rs1_of c.args.kind)) (number_of (rs2_of c.args.kind)) n) (ap (λ n. n / 2 * 2) is ∙ held)
    (rw (c.op_code.ensures, c.funct3.ensures.value, c.funct3-branch.ensures.branch, c.ordered-rs1.ensures.first, c.ordered-rs1.ensures.second) at c.b_word.ensures)

pub returns-clause-layout : goal.returns-clause-layout
returns-clause-layout c = holds (goal.at.returns-clause-layout c).After-b_word

pub returns-clause-decodes : goal.returns-clause-decodes
returns-clause-decodes c = λ flags. branch_decodes flags c.b_word.result c.args.kind c.args.distance c.requires.high c.requires.low (holds (goal.at.returns-clause-decodes c).After-b_word)
