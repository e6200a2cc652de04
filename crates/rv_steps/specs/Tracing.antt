-- The steps of a run, a line for each.
use Rattle.std.specs.Prelude.{◌≡◌, ℕ, zero, suc, ◌-◌, Bool, true, false, List, [], ◌∷◌, ◌++◌, Option, Some, None, codes}
use Rattle.std.specs.Fmt.{decimal}
use Rattle.rv_base.specs.declared.flags.IsaFlags.{IsaFlags}
use Rattle.rv_base.specs.declared.regs.RegClass.{RegClass}
use Rattle.rv_base.specs.declared.regs.RegClass.TheVariants.{Int, Float, Vector}
use Rattle.rv_disasm.specs.Text.{place_text}
use Rattle.rv_machine.specs.declared.decoding.Decoded.{Decoded}
use Rattle.rv_machine.specs.Decode.{decode, int_decode}
use Rattle.rv_machine.specs.State.{reg}
use Rattle.rv_full.specs.Units.{FullState}
use Rattle.rv_full.specs.Steps.{Machine, fstep}
use Rattle.rv_load.specs.declared.callees.Callee.{Callee}
use Rattle.rv_load.specs.declared.settings.RegisterValue.{RegisterValue}
use Rattle.rv_trace.specs.Instruction.{instruction_text, step_line, written_text}
use Rattle.rv_steps.specs.Callees.{callee_at, steps_with}
use Rattle.rv_steps.specs.Files.{float_text}
use Rattle.rv_steps.specs.Running.{word_at}
use Rattle.rv_steps.specs.Written.{unit_written}
use Rattle.rv_steps.specs.declared.ending.Ending.{Ending}
use Rattle.rv_steps.specs.declared.files.Style.TheVariants.{Step}

-- the line of a step of a unit's operation, from its offset, its word and the vector registers before it to a state
abbrev pub unit_line : ℕ → ℕ → Option Decoded → List ℕ → FullState → List ℕ
unit_line offset word None vectors next = []
unit_line offset word (Some d) vectors next = place_text offset d.len word ++ instruction_text d ++ unit_written d vectors next ++ codes "\n"

-- that of a step of this integer operation, or where the word is none, of a unit's
abbrev pub operation_line : IsaFlags → ℕ → ℕ → Option Decoded → List ℕ → FullState → List ℕ
operation_line flags offset word None vectors next = unit_line offset word (decode flags word) vectors next
operation_line flags offset word (Some d) vectors next = step_line offset word d (reg next.state.values d.rd)

abbrev pub line_to : IsaFlags → ℕ → FullState → Option FullState → List ℕ
line_to flags base b None = []
line_to flags base b (Some next) = operation_line flags (b.state.pc - base) (word_at b.state) (int_decode flags (word_at b.state)) b.units.vectors next

-- the registers that a callee sets
abbrev pub set_text : RegClass → ℕ → ℕ → List ℕ
set_text Int n x = written_text n x
set_text Float n x = float_text Step n x
set_text Vector n x = []

abbrev pub sets_text : List RegisterValue → List ℕ
sets_text [] = []
sets_text (r ∷ rs) = set_text r.register.class r.register.number r.value ++ sets_text rs

-- the line of a callee's step: its name, and the registers that it sets
abbrev pub callee_line : Callee → List ℕ
callee_line c = codes "userextname" ++ decimal c.name.number ++ codes ": returns" ++ sets_text c.registers ++ codes "\n"

-- that of a step of a callee, or else of the machine, to a state
abbrev pub line_after : Option Callee → IsaFlags → ℕ → ℕ → List ℕ → FullState → List ℕ
line_after None flags offset word vectors next = operation_line flags offset word (int_decode flags word) vectors next
line_after (Some c) flags offset word vectors next = callee_line c

-- that of the step from a state, where there is one
abbrev pub line_by : Option Callee → IsaFlags → ℕ → FullState → List ℕ
line_by None flags base b = line_to flags base b (fstep flags b)
line_by (Some c) flags base b = callee_line c

abbrev pub line_from : List Callee → IsaFlags → ℕ → FullState → List ℕ
line_from callees flags base b = line_by (callee_at callees b.state.pc) flags base b

abbrev pub line_at : List Callee → IsaFlags → ℕ → Option FullState → List ℕ
line_at callees flags base None = []
line_at callees flags base (Some b) = line_from callees flags base b

-- the lines of so many steps from a state
abbrev pub trace : List Callee → IsaFlags → ℕ → ℕ → FullState → List ℕ
trace callees flags base zero first = []
trace callees flags base (suc k) first = trace callees flags base k first ++ line_at callees flags base (steps_with callees flags k first)

-- the lines where they are asked for
abbrev pub trace_where : Bool → List Callee → IsaFlags → ℕ → ℕ → FullState → List ℕ
trace_where true callees flags base k first = trace callees flags base k first
trace_where false callees flags base k first = []

-- a line was put for a step, and none where the run ended
abbrev pub PutsLine : List Callee → IsaFlags → ℕ → Machine → List ℕ → List ℕ → Option Ending → Type 0
PutsLine callees flags base old text new None = new ≡ text ++ line_from callees flags base old.full
PutsLine callees flags base old text new (Some ending) = new ≡ text
