-- The machine that a run begins with.
use Rattle.std.specs.Prelude.{ℕ, ◌+◌, ◌%◌, ◌^◌, List, [], ◌∷◌, ◌++◌, length, find, Option, Some, None, Result, Ok, Err, option_map, nat_le, nat_lt, ◌==◌, if◌then◌else◌}
use Rattle.rv_inst.specs.declared.code.LineSpan.{LineSpan}
use Rattle.rv_machine.specs.State.{wrap, at, set_reg}
use Rattle.rv_base.specs.declared.regs.RegClass.{RegClass}
use Rattle.rv_base.specs.declared.regs.RegClass.TheVariants.{Int, Float, Vector}
use Rattle.rv_full.specs.declared.answer.Answer.{Answer}
use Rattle.rv_full.specs.declared.units.Setting.{Setting}
use Rattle.rv_full.specs.Units.{FullState, put, set_freg, set_setting, with_units}
use Rattle.rv_full.specs.Steps.{Machine, with_reg, with_bytes, with_full, with_own, with_answers}
use Rattle.rv_full.specs.View.{zero_full}
use Rattle.rv_load.specs.declared.program.Program.{Program}
use Rattle.rv_load.specs.declared.settings.Settings.{Settings}
use Rattle.rv_load.specs.declared.settings.BadWord.{BadWord}
use Rattle.rv_load.specs.declared.settings.BadWord.TheVariants as bad
use Rattle.rv_load.specs.declared.settings.Start.{Start}
use Rattle.rv_load.specs.declared.settings.Start.TheVariants.{Beginning, Offset, Line}
use Rattle.rv_load.specs.declared.settings.RegisterValue.{RegisterValue}
use Rattle.rv_load.specs.declared.settings.Data.{Data as Bytes}
use Rattle.rv_load.specs.Words.{or_bad, ◌then◌}

-- an address outside the code, for ra
abbrev pub outside : ℕ → ℕ
outside base = wrap (base + 2 ^ 63)

-- where the line of a number begins
abbrev pub line_start : List LineSpan → ℕ → Option ℕ
line_start lines index = option_map (λ line. line.start) (find (λ line. line.index == index) lines)

-- the offset that a run begins at: an offset within the code, or that of a line that there is
abbrev pub start_offset : Start → Program → Option ℕ
start_offset Beginning p = Some 0
start_offset (Offset offset) p = if nat_lt offset (length p.bytes) then Some offset else None
start_offset (Line index) p = line_start p.lines index

-- the word that says where to begin
abbrev pub start_word : Start → BadWord
start_word Beginning = bad.At
start_word (Offset offset) = bad.At
start_word (Line index) = bad.From

-- bytes put into memory, one piece after the other
abbrev pub with_memory_of : Machine → List Bytes → Machine
with_memory_of m [] = m
with_memory_of m (d ∷ ds) = with_memory_of (with_bytes m d.address d.bytes) ds

-- registers of either file set, one after the other
abbrev pub set_register : FullState → RegClass → ℕ → ℕ → FullState
set_register b Int n x = put (at b.state.pc (set_reg b.state.values n x)) b
set_register b Float n x = with_units b (set_freg b.units n x)
set_register b Vector n x = b

abbrev pub set_registers : FullState → List RegisterValue → FullState
set_registers b [] = b
set_registers b (r ∷ rs) = set_registers (set_register b r.register.class r.register.number r.value) rs

abbrev pub with_registers_of : Machine → List RegisterValue → Machine
with_registers_of m rs = with_full m (set_registers m.full rs)

-- a vector setting, whose length is below 32
abbrev pub with_setting : Machine → Setting → Machine
with_setting m s = with_own m (set_setting m.full.units (record { avl = s.avl % 32; vtype = s.vtype }))

-- answers given, one after the other
abbrev pub with_answers_of : Machine → List Answer → Machine
with_answers_of m [] = m
with_answers_of m (a ∷ more) = with_answers_of (with_answers m (m.full.answers ++ a ∷ [])) more

-- the machine that stands at the base and an offset, with an address outside the code in ra
abbrev pub bare_machine : Settings → ℕ → Machine
bare_machine s offset = with_reg (record { flags = s.flags; full = zero_full (wrap (s.base + offset)) }) 1 (outside s.base)

-- the same with the code, and the bytes, the registers, the vector setting and the answers that were given, in this order
abbrev pub first_machine : Settings → Program → ℕ → Machine
first_machine s p offset =
    with_answers_of (with_setting (with_registers_of (with_memory_of (with_bytes (bare_machine s offset) s.base p.bytes) s.memory) s.registers) s.setting) s.answers

-- the code ends at 2^64 or below it
abbrev pub fits : Settings → Program → Result ℕ BadWord
fits s p = if nat_le (s.base + length p.bytes) (2 ^ 64) then Ok s.base else Err bad.Base

-- the machine that a run begins with, or the word that doesn't fit the program
abbrev pub begin : Settings → Program → Result Machine BadWord
begin s p = fits s p then λ base. or_bad (start_word s.start) (start_offset s.start p) then λ offset. Ok (first_machine s p offset)
