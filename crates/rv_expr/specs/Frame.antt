-- The bytes below the stack pointer that a program's code writes.
use Rattle.std.specs.Prelude.{◌≡◌, ℕ, ◌+◌, ◌-◌, ◌*◌, ◌/◌, ◌^◌, ◌<◌, ◌⊎◌}
use Rattle.rv_machine.specs.State.{wrap}

-- eight for each operation, to a multiple of 16
abbrev pub frame_size : ℕ → ℕ
frame_size operations = 16 * ((operations + 1) / 2)

-- how far an address is below the stack pointer; 0 at the stack pointer itself
abbrev pub depth : ℕ → ℕ → ℕ
depth sp a = wrap (sp + (2 ^ 64 - a))

-- an address is none of so many right below the stack pointer
abbrev pub IsOutside : ℕ → ℕ → ℕ → Type 0
IsOutside sp size a = (depth sp a ≡ 0) ⊎ (size < depth sp a)
