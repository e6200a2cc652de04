-- The numbers of the System V ABI's object files and of the RISC-V ELF psABI that an object here has, by their own names.
use Rattle.std.specs.Prelude.{ℕ, ◌+◌, ◌*◌}

-- ---- the file's header

-- of 64 bits
abbrev pub ELFCLASS64 : ℕ
ELFCLASS64 = 2

-- the least byte first
abbrev pub ELFDATA2LSB : ℕ
ELFDATA2LSB = 1

-- the one version there is
abbrev pub EV_CURRENT : ℕ
EV_CURRENT = 1

-- System V
abbrev pub ELFOSABI_NONE : ℕ
ELFOSABI_NONE = 0

-- a relocatable object
abbrev pub ET_REL : ℕ
ET_REL = 1

-- RISC-V
abbrev pub EM_RISCV : ℕ
EM_RISCV = 243

-- ---- how many bytes an Elf64_Ehdr, Elf64_Shdr, Elf64_Sym and Elf64_Rela have

abbrev pub EHDR_SIZE : ℕ
EHDR_SIZE = 64

abbrev pub SHDR_SIZE : ℕ
SHDR_SIZE = 64

abbrev pub SYM_SIZE : ℕ
SYM_SIZE = 24

abbrev pub RELA_SIZE : ℕ
RELA_SIZE = 24

-- ---- sections

abbrev pub SHT_PROGBITS : ℕ
SHT_PROGBITS = 1

abbrev pub SHT_SYMTAB : ℕ
SHT_SYMTAB = 2

abbrev pub SHT_STRTAB : ℕ
SHT_STRTAB = 3

abbrev pub SHT_RELA : ℕ
SHT_RELA = 4

-- it takes memory while the program runs
abbrev pub SHF_ALLOC : ℕ
SHF_ALLOC = 2

-- it has instructions
abbrev pub SHF_EXECINSTR : ℕ
SHF_EXECINSTR = 4

-- its sh_info is the number of a section
abbrev pub SHF_INFO_LINK : ℕ
SHF_INFO_LINK = 0x40

-- no section: that of an undefined symbol
abbrev pub SHN_UNDEF : ℕ
SHN_UNDEF = 0

-- ---- symbols

abbrev pub STB_LOCAL : ℕ
STB_LOCAL = 0

abbrev pub STB_GLOBAL : ℕ
STB_GLOBAL = 1

abbrev pub STT_NOTYPE : ℕ
STT_NOTYPE = 0

-- ELF64_ST_INFO: a symbol's binding and type, as one byte
abbrev pub st_info : ℕ → ℕ → ℕ
st_info binding type = binding * 16 + type

-- ---- relocations

abbrev pub R_RISCV_64 : ℕ
R_RISCV_64 = 2

abbrev pub R_RISCV_CALL_PLT : ℕ
R_RISCV_CALL_PLT = 19

abbrev pub R_RISCV_GOT_HI20 : ℕ
R_RISCV_GOT_HI20 = 20

abbrev pub R_RISCV_PCREL_HI20 : ℕ
R_RISCV_PCREL_HI20 = 23

abbrev pub R_RISCV_PCREL_LO12_I : ℕ
R_RISCV_PCREL_LO12_I = 24
