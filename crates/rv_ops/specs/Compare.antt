-- Comparisons as the manual's conditional branches (chapter "RV32I Base Integer Instruction Set", "Conditional Branches").
use Rattle.std.specs.Prelude.{ℕ, ◌+◌, ◌*◌, ◌^◌, if◌then◌else◌, Bool, true, false, List, codes}
use Rattle.rv_base.specs.declared.condcodes.IntCC.{IntCC}
use Rattle.rv_base.specs.declared.condcodes.IntCC.TheVariants.{Equal, NotEqual, SignedLessThan, SignedGreaterThanOrEqual, SignedGreaterThan, SignedLessThanOrEqual, UnsignedLessThan, UnsignedGreaterThanOrEqual, UnsignedGreaterThan, UnsignedLessThanOrEqual}
use Rattle.rv_base.specs.declared.regs.Reg.{Reg}
use Rattle.rv_base.specs.Regs.{number_of}
use Rattle.rv_machine.specs.Opcodes.{BRANCH}
use Rattle.rv_ops.specs.declared.compare.BranchFunct3.{BranchFunct3}
use Rattle.rv_ops.specs.declared.compare.BranchFunct3.TheVariants as branch
use Rattle.rv_ops.specs.declared.compare.IntegerCompare.{IntegerCompare}

abbrev pub funct3_of : BranchFunct3 → ℕ
funct3_of branch.Eq = 0
funct3_of branch.Ne = 1
funct3_of branch.Lt = 4
funct3_of branch.Ge = 5
funct3_of branch.Ltu = 6
funct3_of branch.Geu = 7

abbrev pub branch_of : IntCC → BranchFunct3
branch_of Equal = branch.Eq
branch_of NotEqual = branch.Ne
branch_of SignedLessThan = branch.Lt
branch_of SignedGreaterThanOrEqual = branch.Ge
branch_of SignedGreaterThan = branch.Lt
branch_of SignedLessThanOrEqual = branch.Ge
branch_of UnsignedLessThan = branch.Ltu
branch_of UnsignedGreaterThanOrEqual = branch.Geu
branch_of UnsignedGreaterThan = branch.Ltu
branch_of UnsignedLessThanOrEqual = branch.Geu

-- whether the word has the registers exchanged
abbrev pub is_reversed : IntCC → Bool
is_reversed Equal = false
is_reversed NotEqual = false
is_reversed SignedLessThan = false
is_reversed SignedGreaterThanOrEqual = false
is_reversed SignedGreaterThan = true
is_reversed SignedLessThanOrEqual = true
is_reversed UnsignedLessThan = false
is_reversed UnsignedGreaterThanOrEqual = false
is_reversed UnsignedGreaterThan = true
is_reversed UnsignedLessThanOrEqual = true

-- the registers of the word
abbrev pub rs1_of : IntegerCompare → Reg
rs1_of c = if is_reversed c.kind then c.rs2 else c.rs1

abbrev pub rs2_of : IntegerCompare → Reg
rs2_of c = if is_reversed c.kind then c.rs1 else c.rs2

-- the word of the branch with offset 0: a B-type word, of the opcode BRANCH
abbrev pub branch_word : IntegerCompare → ℕ
branch_word c = BRANCH + funct3_of (branch_of c.kind) * 2 ^ 12 + number_of (rs1_of c) * 2 ^ 15 + number_of (rs2_of c) * 2 ^ 20

abbrev pub branch_name : IntCC → List ℕ
branch_name Equal = codes "beq"
branch_name NotEqual = codes "bne"
branch_name SignedLessThan = codes "blt"
branch_name SignedGreaterThanOrEqual = codes "bge"
branch_name SignedGreaterThan = codes "bgt"
branch_name SignedLessThanOrEqual = codes "ble"
branch_name UnsignedLessThan = codes "bltu"
branch_name UnsignedGreaterThanOrEqual = codes "bgeu"
branch_name UnsignedGreaterThan = codes "bgtu"
branch_name UnsignedLessThanOrEqual = codes "bleu"
