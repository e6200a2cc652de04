-- The major opcodes, bits 6:0 of a word, as the chapter "RV32/64G Instruction Set Listings" names them.
use Rattle.std.specs.Prelude.{ℕ}

abbrev pub LUI : ℕ
LUI = 0x37

abbrev pub AUIPC : ℕ
AUIPC = 0x17

abbrev pub JAL : ℕ
JAL = 0x6f

abbrev pub JALR : ℕ
JALR = 0x67

abbrev pub BRANCH : ℕ
BRANCH = 0x63

abbrev pub LOAD : ℕ
LOAD = 0x03

abbrev pub STORE : ℕ
STORE = 0x23

abbrev pub OP_IMM : ℕ
OP_IMM = 0x13

abbrev pub OP_IMM_32 : ℕ
OP_IMM_32 = 0x1b

abbrev pub OP : ℕ
OP = 0x33

abbrev pub OP_32 : ℕ
OP_32 = 0x3b

abbrev pub MISC_MEM : ℕ
MISC_MEM = 0x0f

abbrev pub SYSTEM : ℕ
SYSTEM = 0x73

abbrev pub LOAD_FP : ℕ
LOAD_FP = 0x07

abbrev pub STORE_FP : ℕ
STORE_FP = 0x27

abbrev pub AMO : ℕ
AMO = 0x2f

abbrev pub MADD : ℕ
MADD = 0x43

abbrev pub MSUB : ℕ
MSUB = 0x47

abbrev pub NMSUB : ℕ
NMSUB = 0x4b

abbrev pub NMADD : ℕ
NMADD = 0x4f

abbrev pub OP_FP : ℕ
OP_FP = 0x53

abbrev pub OP_V : ℕ
OP_V = 0x57
