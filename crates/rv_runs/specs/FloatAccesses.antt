-- What loads and stores of floating-point registers make of the values of the machine with all units: "Single-Precision Load and Store
-- Instructions" of "F" and "Double-Precision Load and Store Instructions" of "D".
use Rattle.std.specs.Prelude.{ℕ, List, take}
use Rattle.std.specs.Int.{to_le_bytes}
use mir.Syntax.{w64}
use Rattle.rv_machine.specs.declared.ops.FloatFormat.{FloatFormat}
use Rattle.rv_machine.specs.Memory.{load_bytes}
use Rattle.rv_machine.specs.State.{store}
use Rattle.rv_full.specs.Floats.{boxed, format_bytes}
use Rattle.rv_full.specs.Rows.{put_memory, put_units}
use Rattle.rv_full.specs.Units.{FullValues, freg, set_freg}

-- the number of a format that stands at an address goes into a register, boxed
abbrev pub float_loaded : FloatFormat → ℕ → ℕ → FullValues → FullValues
float_loaded format rd a v = put_units (set_freg v.units rd (boxed format (load_bytes v.ints.mem a (format_bytes format)))) v

-- the low bytes of a register, as many as a format has
abbrev pub low_bytes : FloatFormat → ℕ → List ℕ
low_bytes format n = take (format_bytes format) (to_le_bytes w64 n)

-- they go to an address
abbrev pub float_stored : FloatFormat → ℕ → ℕ → FullValues → FullValues
float_stored format src a v = put_memory (store v.ints.mem a (low_bytes format (freg v.units src))) v
