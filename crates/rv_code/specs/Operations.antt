-- Operations of the machine that instructions become.
use Rattle.std.specs.Prelude.{ℕ, ℤ, if◌then◌else◌}
use Rattle.rv_base.specs.declared.flags.IsaFlags.{IsaFlags}
use Rattle.rv_machine.specs.declared.decoding.Decoded.{Decoded}
use Rattle.rv_machine.specs.declared.ops.MOp.TheVariants.{Base, Alu}
use Rattle.rv_machine.specs.declared.ops.BaseOp.TheVariants as base
use Rattle.rv_machine.specs.declared.ops.AluOp.TheVariants.{Int}
use Rattle.rv_machine.specs.declared.ops.IntOp.TheVariants as int
use Rattle.rv_machine.specs.Opcodes.{JAL}
use Rattle.rv_machine.specs.Layout.{compressed}
use Rattle.rv_encode.specs.Operations.{decoded}
pub use Rattle.rv_inst.specs.Forms.{jump_size}

-- rd is rs plus an immediate
abbrev pub decoded_addi : ℕ → ℕ → ℤ → Decoded
decoded_addi rd rs imm = decoded (Alu (Int int.Addi)) rd rs 0 imm

-- to a register's address plus an immediate
abbrev pub decoded_jalr : ℕ → ℕ → ℤ → Decoded
decoded_jalr rd rs imm = decoded (Base base.Jalr) rd rs 0 imm

-- a jump that doesn't link
abbrev pub decoded_jump : ℤ → Decoded
decoded_jump d = decoded (Base base.Jal) 0 0 0 d

-- the same in the shortest form, which is c.j where there is one
abbrev pub short_jump : IsaFlags → ℤ → Decoded
short_jump flags d = if flags.has_zca then compressed (Base base.Jal) 0 0 0 d else decoded_jump d

-- the word of a jump by no distance that links nothing: its opcode alone, since each other field is 0
abbrev pub jump_word : ℕ
jump_word = JAL
