-- What comes from the stack on the machine with all units: before a tail call, and after a call. An integer register is loaded as on the
-- integer machine, and a floating-point one as a load of its format does.
use Rattle.std.specs.Prelude.{ℕ, ◌+◌, List, [], ◌∷◌, Option, Some, None}
use Rattle.rv_base.specs.declared.frame.FrameLayout.{FrameLayout}
use Rattle.rv_machine.specs.declared.ops.FloatFormat.{FloatFormat}
use Rattle.rv_machine.specs.State.{Values, low64, reg, set_reg, wrap}
use Rattle.rv_ops.specs.Memory.{load_format}
use Rattle.rv_inst.specs.Meaning.{fallen, loaded}
use Rattle.rv_inst.specs.Operands.{Return}
use Rattle.rv_inst.specs.Returns.{StackLoad, frame_above, restores}
use Rattle.rv_full.specs.Units.{FullValues}
use Rattle.rv_runs.specs.FloatAccesses.{float_loaded}

-- other integers, with the same units
abbrev pub with_ints : Values → FullValues → FullValues
with_ints w v = record { ints = w; units = v.units }

-- an integer register is written
abbrev pub set_int : FullValues → ℕ → ℕ → FullValues
set_int v n x = with_ints (set_reg v.ints n x) v

-- a register is loaded from an address, by the format of its load where it is a floating-point one
abbrev pub loaded_as : Option FloatFormat → StackLoad → ℕ → FullValues → FullValues
loaded_as None l a v = with_ints (loaded l.op l.register a v.ints) v
loaded_as (Some format) l a v = float_loaded format l.register a v

-- registers are loaded, one after the other, each from so far above an address
abbrev pub full_loaded : ℕ → List StackLoad → FullValues → FullValues
full_loaded sp [] v = v
full_loaded sp (l ∷ loads) v = full_loaded sp loads (loaded_as (load_format l.op) l (wrap (sp + low64 l.offset)) v)

-- a frame is taken away: what it saved is restored, and the stack pointer, which is x2, rises to the next function's arguments
abbrev pub full_left : FrameLayout → ℕ → FullValues → FullValues
full_left frame arguments v = set_int (full_loaded (reg v.ints 2) (restores frame) v) 2 (wrap (reg v.ints 2 + frame_above frame arguments))

-- what a call makes of the values that its callee returns with: the stack pointer falls, and results are loaded from above it
abbrev pub full_resumed : Return → FullValues → FullValues
full_resumed r v = full_loaded (reg (fallen r.popped v.ints) 2) r.loads (with_ints (fallen r.popped v.ints) v)
