-- The object of a report, with what the words ask for.
use Rattle.std.specs.Prelude.{◌≡◌, ℕ, ◌+◌, ◌==◌, true, List, [], ◌∷◌, ◌++◌, find, if◌then◌else◌, Option, Some, None, Result, Ok, Err}
use Rattle.mach_uses.specs.declared.uses.LabelPlace.{LabelPlace}
use Rattle.rv_base.specs.declared.flags.IsaFlags.{IsaFlags}
use Rattle.rv_load.specs.declared.program.Program.{Program}
use Rattle.rv_load.specs.Report.{reads_report}
use Rattle.rv_obj.specs.declared.elf.Symbol.{Symbol}
use Rattle.rv_obj.specs.Elf.{object_file}
use Rattle.rv_obj.specs.Symbols.{object_of}
use Rattle.rvobj.specs.declared.making.Abi.{Abi}
use Rattle.rvobj.specs.declared.making.Abi.TheVariants.{Lp64, Lp64d}
use Rattle.rvobj.specs.declared.making.Export.{Export}
use Rattle.rvobj.specs.declared.making.Given.{Given}
use Rattle.rvobj.specs.declared.making.Made.{Made}
use Rattle.rvobj.specs.declared.making.MakeError.{MakeError}
use Rattle.rvobj.specs.declared.making.MakeError.TheVariants as errors

-- ---- flags of the file's header

-- EF_RISCV_FLOAT_ABI_SOFT and EF_RISCV_FLOAT_ABI_DOUBLE
abbrev pub float_abi : Abi → ℕ
float_abi Lp64 = 0
float_abi Lp64d = 4

-- with EF_RISCV_RVC where the code may have compressed instructions
abbrev pub e_flags : IsaFlags → Abi → ℕ
e_flags flags abi = (if flags.has_zca then 1 else 0) + float_abi abi

-- ---- symbols that are asked for

abbrev pub offset_of : ℕ → Option LabelPlace → Result ℕ ℕ
offset_of label None = Err label
offset_of label (Some l) = Ok l.offset

-- the offset of a label of the report, or of the code's first byte; the label that the report hasn't
abbrev pub place_of : List LabelPlace → Option ℕ → Result ℕ ℕ
place_of labels None = Ok 0
place_of labels (Some label) = offset_of label (find (λ l. l.label.number == label) labels)

infixl 10 ◌then◌
abbrev pub ◌then◌ : {A B : Type 0} → Result A ℕ → (A → Result B ℕ) → Result B ℕ
(Ok x) then f = f x
(Err label) then f = Err label

abbrev pub with_symbol : List LabelPlace → List Symbol → Export → Result (List Symbol) ℕ
with_symbol labels symbols e = place_of labels e.label then λ offset. Ok (symbols ++ record { name = e.name.now; place = Some offset; is_global = true } ∷ [])

-- these symbols and those of exports
abbrev pub symbols_from : List LabelPlace → List Symbol → List Export → Result (List Symbol) ℕ
symbols_from labels symbols [] = Ok symbols
symbols_from labels symbols (e ∷ es) = with_symbol labels symbols e then λ more. symbols_from labels more es

-- ---- the object

-- what a search for labels returned; being out of memory says nothing
abbrev pub Finds : {A : Type 0} → Result A ℕ → Result A MakeError → Type 0
Finds made (Ok x) = made ≡ Ok x
Finds made (Err (errors.NoLabel label)) = made ≡ Err label
Finds made (Err (errors.NotReport line)) = ⊥
Finds made (Err errors.OutOfMemory) = Unit {0}

abbrev pub Leaves : {A : Type 0} → Result A ℕ → A → Result Unit MakeError → Type 0
Leaves made new (Ok x) = made ≡ Ok new
Leaves made new (Err (errors.NoLabel label)) = made ≡ Err label
Leaves made new (Err (errors.NotReport line)) = ⊥
Leaves made new (Err errors.OutOfMemory) = Unit {0}

-- the file of a program's object, with these symbols
abbrev pub IsFile : Given → Program → List ℕ → List Symbol → Type 0
IsFile g p bytes symbols = bytes ≡ object_file (object_of p.bytes p.relocs g.imports symbols (e_flags g.flags g.abi))

abbrev pub OfProgram : Given → Program → Result (List ℕ) MakeError → Type 0
OfProgram g p (Ok bytes) = (symbols : List Symbol) × (symbols_from p.labels [] g.exports ≡ Ok symbols) × IsFile g p bytes symbols
OfProgram g p (Err (errors.NoLabel label)) = symbols_from p.labels [] g.exports ≡ Err label
OfProgram g p (Err (errors.NotReport line)) = ⊥
OfProgram g p (Err errors.OutOfMemory) = Unit {0}

-- these bytes, whatever is said of the convention
abbrev pub OfMade : Given → Program → Result Made MakeError → Type 0
OfMade g p (Ok made) = OfProgram g p (Ok made.bytes)
OfMade g p (Err error) = OfProgram g p (Err error)

-- the object of an input, or why there is none; being out of memory says nothing
abbrev pub Makes : Given → List ℕ → Result Made MakeError → Type 0
Makes g input (Ok made) = (p : Program) × (reads_report input ≡ Ok p) × OfMade g p (Ok made)
Makes g input (Err (errors.NotReport line)) = reads_report input ≡ Err line
Makes g input (Err (errors.NoLabel label)) = (p : Program) × (reads_report input ≡ Ok p) × OfMade g p (Err (errors.NoLabel label))
Makes g input (Err errors.OutOfMemory) = Unit {0}
