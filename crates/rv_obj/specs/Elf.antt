-- A relocatable object for RISC-V of 64 bits: the chapter "Object Files" of the System V ABI, and the RISC-V ELF psABI. All numbers stand
-- with the least byte first. After the file's header come the contents of the sections, one after the other, and then their headers.
use Rattle.std.specs.Prelude.{ℕ, ◌+◌, ◌-◌, ◌%◌, ◌^◌, List, [], ◌∷◌, ◌++◌, length, replicate, codes, if◌then◌else◌, Option, Some, None}
use Rattle.std.specs.Int.{cast_unsigned, to_le_bytes, w16, w32, w64}
use Rattle.std.specs.List.{flat_map}
use Rattle.rv_obj.specs.declared.elf.Symbol.{Symbol}
use Rattle.rv_obj.specs.declared.elf.Rela.{Rela}
use Rattle.rv_obj.specs.declared.elf.Object.{Object}
use Rattle.rv_obj.specs.declared.headers.Section.{Section}
use Rattle.rv_obj.specs.Numbers.{ELFCLASS64, ELFDATA2LSB, EV_CURRENT, ELFOSABI_NONE, ET_REL, EM_RISCV, EHDR_SIZE, SHDR_SIZE, SYM_SIZE, RELA_SIZE}
use Rattle.rv_obj.specs.Numbers.{SHT_PROGBITS, SHT_SYMTAB, SHT_STRTAB, SHT_RELA, SHF_ALLOC, SHF_EXECINSTR, SHF_INFO_LINK, SHN_UNDEF}
use Rattle.rv_obj.specs.Numbers.{STB_LOCAL, STB_GLOBAL, STT_NOTYPE, st_info}

-- ---- numbers

unfoldable pub bytes_2 : ℕ → List ℕ
bytes_2 n = to_le_bytes w16 n

unfoldable pub bytes_4 : ℕ → List ℕ
bytes_4 n = to_le_bytes w32 n

unfoldable pub bytes_8 : ℕ → List ℕ
bytes_8 n = to_le_bytes w64 n

-- ---- the sections of the file, by their numbers, and how many these are with section 0, which is none

abbrev pub TEXT_SECTION : ℕ
TEXT_SECTION = 1

abbrev pub SYMTAB_SECTION : ℕ
SYMTAB_SECTION = 3

abbrev pub STRTAB_SECTION : ℕ
STRTAB_SECTION = 4

abbrev pub SHSTRTAB_SECTION : ℕ
SHSTRTAB_SECTION = 5

abbrev pub SECTION_COUNT : ℕ
SECTION_COUNT = 6

-- ---- symbols

-- their names, each with a zero byte after it
abbrev pub name_of : Symbol → List ℕ
name_of s = s.name ++ 0 ∷ []

-- the binding, local or global, and no type
abbrev pub info_of : Symbol → ℕ
info_of s = if s.is_global then st_info STB_GLOBAL STT_NOTYPE else st_info STB_LOCAL STT_NOTYPE

-- the section of code, or none
abbrev pub section_of : Option ℕ → ℕ
section_of None = SHN_UNDEF
section_of (Some offset) = TEXT_SECTION

abbrev pub value_of : Option ℕ → ℕ
value_of None = 0
value_of (Some offset) = offset

-- an entry of the symbol table: where its name begins, its binding, its section, its offset, and no size
abbrev pub symbol_entry : ℕ → Symbol → List ℕ
symbol_entry at s = bytes_4 at ++ (info_of s ∷ 0 ∷ []) ++ bytes_2 (section_of s.place) ++ bytes_8 (value_of s.place) ++ bytes_8 0

-- the entries of symbols, the names of the first of which begin there
abbrev pub entries_from : ℕ → List Symbol → List ℕ
entries_from at [] = []
entries_from at (s ∷ symbols) = symbol_entry (at % 2 ^ 32) s ++ entries_from (at + length (name_of s)) symbols

-- the first entry is empty, and so is the first name
abbrev pub symbol_table : List Symbol → List ℕ
symbol_table symbols = replicate SYM_SIZE 0 ++ entries_from 1 symbols

abbrev pub string_table : List Symbol → List ℕ
string_table symbols = 0 ∷ [] ++ flat_map name_of symbols

-- ---- relocations

-- place, symbol's number, kind and addend
abbrev pub rela_entry : Rela → List ℕ
rela_entry r = bytes_8 r.offset ++ bytes_4 r.kind ++ bytes_4 r.symbol ++ bytes_8 (cast_unsigned w64 r.addend)

-- ---- contents

-- so many zero bytes that a multiple of eight follows
abbrev pub padding : ℕ → List ℕ
padding n = replicate ((8 - n % 8) % 8) 0

abbrev pub section_names : List ℕ
section_names = codes "\0.text\0.rela.text\0.symtab\0.strtab\0.shstrtab\0"

-- where each begins among them
abbrev pub TEXT_NAME : ℕ
TEXT_NAME = 1

abbrev pub RELA_NAME : ℕ
RELA_NAME = 7

abbrev pub SYMTAB_NAME : ℕ
SYMTAB_NAME = 18

abbrev pub STRTAB_NAME : ℕ
STRTAB_NAME = 26

abbrev pub SHSTRTAB_NAME : ℕ
SHSTRTAB_NAME = 34

-- the contents up to the relocations, and so on
abbrev pub before_relas : Object → List ℕ
before_relas o = o.text ++ padding (length o.text)

abbrev pub before_symbols : Object → List ℕ
before_symbols o = before_relas o ++ flat_map rela_entry o.relas

abbrev pub before_strings : Object → List ℕ
before_strings o = before_symbols o ++ symbol_table o.symbols

abbrev pub before_names : Object → List ℕ
before_names o = before_strings o ++ string_table o.symbols

abbrev pub named : Object → List ℕ
named o = before_names o ++ section_names

abbrev pub contents : Object → List ℕ
contents o = named o ++ padding (length (named o))

-- ---- headers

-- name, type, flags and no address
abbrev pub section_kind : Section → List ℕ
section_kind s = bytes_4 s.name ++ bytes_4 s.kind ++ bytes_8 s.flags ++ bytes_8 0

-- link, info, alignment and entry size
abbrev pub section_links : Section → List ℕ
section_links s = bytes_4 s.link ++ bytes_4 s.info ++ bytes_8 s.align ++ bytes_8 s.entry

-- with offset and size between
unfoldable pub section_header : Section → List ℕ
section_header s = section_kind s ++ bytes_8 s.offset ++ bytes_8 s.size ++ section_links s

-- the code
abbrev pub text_section : Object → Section
text_section o = record {
  name = TEXT_NAME;
  kind = SHT_PROGBITS;
  flags = SHF_ALLOC + SHF_EXECINSTR;
  offset = EHDR_SIZE;
  size = length o.text;
  link = 0;
  info = 0;
  align = 4;
  entry = 0;
}

-- the relocations of the code, by the symbols
abbrev pub rela_section : Object → Section
rela_section o = record {
  name = RELA_NAME;
  kind = SHT_RELA;
  flags = SHF_INFO_LINK;
  offset = EHDR_SIZE + length (before_relas o);
  size = length (flat_map rela_entry o.relas);
  link = SYMTAB_SECTION;
  info = TEXT_SECTION;
  align = 8;
  entry = RELA_SIZE;
}

-- the symbols, local ones first, by their names
abbrev pub symbol_section : Object → Section
symbol_section o = record {
  name = SYMTAB_NAME;
  kind = SHT_SYMTAB;
  flags = 0;
  offset = EHDR_SIZE + length (before_symbols o);
  size = length (symbol_table o.symbols);
  link = STRTAB_SECTION;
  info = o.locals;
  align = 8;
  entry = SYM_SIZE;
}

abbrev pub string_section : Object → Section
string_section o = record {
  name = STRTAB_NAME;
  kind = SHT_STRTAB;
  flags = 0;
  offset = EHDR_SIZE + length (before_strings o);
  size = length (string_table o.symbols);
  link = 0;
  info = 0;
  align = 1;
  entry = 0;
}

abbrev pub name_section : Object → Section
name_section o = record {
  name = SHSTRTAB_NAME;
  kind = SHT_STRTAB;
  flags = 0;
  offset = EHDR_SIZE + length (before_names o);
  size = length section_names;
  link = 0;
  info = 0;
  align = 1;
  entry = 0;
}

abbrev pub table_headers : Object → List ℕ
table_headers o = section_header (symbol_section o) ++ section_header (string_section o) ++ section_header (name_section o)

-- section 0 is none
abbrev pub section_headers : Object → List ℕ
section_headers o = replicate SHDR_SIZE 0 ++ section_header (text_section o) ++ section_header (rela_section o) ++ table_headers o

-- of 64 bits, the least byte first, version 1, System V
abbrev pub ident : List ℕ
ident = 0x7f ∷ codes "ELF" ++ ELFCLASS64 ∷ ELFDATA2LSB ∷ EV_CURRENT ∷ ELFOSABI_NONE ∷ replicate 8 0

-- relocatable, for RISC-V, version 1, no entry and no program headers
abbrev pub file_kind : List ℕ
file_kind = bytes_2 ET_REL ++ bytes_2 EM_RISCV ++ bytes_4 EV_CURRENT ++ bytes_8 0 ++ bytes_8 0

-- the sizes of headers; no program headers, so many sections, and which of them has their names
abbrev pub header_sizes : List ℕ
header_sizes = bytes_2 EHDR_SIZE ++ bytes_2 0 ++ bytes_2 0 ++ bytes_2 SHDR_SIZE ++ bytes_2 SECTION_COUNT ++ bytes_2 SHSTRTAB_SECTION

-- where the section headers begin, and the flags
abbrev pub file_places : Object → List ℕ
file_places o = bytes_8 (EHDR_SIZE + length (contents o)) ++ bytes_4 o.flags

abbrev pub file_header : Object → List ℕ
file_header o = ident ++ file_kind ++ file_places o ++ header_sizes

abbrev pub object_file : Object → List ℕ
object_file o = file_header o ++ contents o ++ section_headers o
