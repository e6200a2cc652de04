-- The sequence of a branch by a table: links of the proof.
use Rattle.std.specs.Prelude.{ℕ, List, [], ◌∷◌, ◌++◌, map, pos}
use Rattle.rv_base.specs.declared.label.MachLabel.{MachLabel}
use Rattle.rv_ops.specs.declared.alu.AluOPRRR.TheVariants.{Add}
use Rattle.rv_ops.specs.declared.alu.AluOPRRI.TheVariants.{Slli}
use Rattle.rv_machine.specs.declared.decoding.Decoded.{Decoded}
use Rattle.rv_machine.specs.declared.ops.MOp.TheVariants.{Base}
use Rattle.rv_machine.specs.declared.ops.BaseOp.TheVariants as base
use Rattle.rv_encode.specs.Operations.{decoded, decoded_rrr, decoded_rri}
use Rattle.rv_inst.specs.declared.label_use.LabelUse.TheVariants.{PCRel32}
use Rattle.rv_code.specs.Immediates.{upper_of, lower_of}
use Rattle.rv_code.specs.Operations.{decoded_jalr}
use Rattle.rv_code.specs.Slots.{Label, Slot, Op, Fixup}

-- a jump in eight bytes, to anywhere in code, by way of a register
abbrev pub far_jump : ℕ → MachLabel → Slot
far_jump tmp label = Fixup PCRel32 (Label label) (λ d. decoded (Base base.Auipc) tmp 0 0 (upper_of d) ∷ decoded_jalr 0 tmp (lower_of d) ∷ [])

-- to the default where x31 isn't below the number of the other labels, else into the table after it: to its own address, with eight
-- bytes for each label before that of the index, and 16 for the four words that make the jump
abbrev pub enter_ops : ℕ → ℕ → List Decoded
enter_ops tmp1 tmp2 =
    decoded (Base base.Auipc) tmp1 0 0 (pos 0) ∷
    decoded_rri Slli tmp2 31 (pos 3) ∷
    decoded_rrr Add tmp1 tmp1 tmp2 ∷
    decoded_jalr 0 tmp1 (pos 16) ∷
    []

abbrev pub bound_op : ℕ → Decoded
bound_op tmp2 = decoded (Base base.Bltu) 0 31 tmp2 (pos 12)

-- the default is the first label
abbrev pub jump_slots : ℕ → ℕ → MachLabel → List MachLabel → List Slot
jump_slots tmp1 tmp2 default labels = Op (bound_op tmp2) ∷ far_jump tmp2 default ∷ map Op (enter_ops tmp1 tmp2) ++ map (far_jump tmp2) labels
