-- The text of a run.
use Rattle.std.specs.Prelude.{ℕ, zero, suc, ◌+◌, Bool, true, false, List, [], ◌∷◌, ◌++◌, ◌==◌, if◌then◌else◌, codes, Option, Some, None}
use Rattle.std.specs.Fmt.{decimal, signed_decimal}
use Rattle.std.specs.Int.{w64, cast_signed}
use Rattle.rv_base.specs.RegNames.{int_names, name_at}
use Rattle.rv_base.specs.declared.flags.IsaFlags.{IsaFlags}
use Rattle.rv_machine.specs.declared.decoding.Decoded.{Decoded}
use Rattle.rv_machine.specs.Decode.{decode}
use Rattle.rv_trace.specs.Instruction.{instruction_text}
use Rattle.rv_machine.specs.State.{Values, reg}
use Rattle.rv_steps.specs.declared.ending.Ending.{Ending}
use Rattle.rv_steps.specs.declared.ending.Ending.TheVariants.{Left, Limit, Break, NoOperation, NeedsAnswer}
use Rattle.rv_steps.specs.Files.{hex}
use Rattle.rv_run.specs.declared.result.Run.{Run}

abbrev pub operation_text : Option Decoded → List ℕ
operation_text None = []
operation_text (Some d) = instruction_text d

abbrev pub ending_line : IsaFlags → Ending → List ℕ
ending_line flags (Left address) = codes "left the code to 0x" ++ hex address ++ codes "\n"
ending_line flags Limit = codes "step limit\n"
ending_line flags (Break offset) = codes "ebreak at " ++ decimal offset ++ codes "\n"
ending_line flags (NoOperation offset word) = codes "no operation at " ++ decimal offset ++ codes ": 0x" ++ hex word ++ codes "\n"
ending_line flags (NeedsAnswer offset word) = codes "needs an answer at " ++ decimal offset ++ codes ": " ++ operation_text (decode flags word) ++ codes "\n"

abbrev pub steps_line : ℕ → List ℕ
steps_line k = codes "steps " ++ decimal k ++ codes "\n"

-- how many steps were the callees', where there are any
abbrev pub calls_line : Bool → ℕ → List ℕ
calls_line false n = []
calls_line true n = codes "calls " ++ decimal n ++ codes "\n"

-- the register x1 and on, n of them
abbrev pub file : ℕ → Values → List ℕ
file zero v = []
file (suc n) v = file n v ++ reg v (suc n) ∷ []

-- a register's name, and its value as a signed number and in hexadecimal digits
abbrev pub register_line : ℕ → ℕ → List ℕ
register_line n x = name_at int_names n ++ codes " " ++ signed_decimal (cast_signed w64 x) ++ codes " 0x" ++ hex x ++ codes "\n"

-- a line for each register from number n on that has another value after the run
abbrev pub changes : ℕ → List ℕ → List ℕ → List ℕ
changes n [] after = []
changes n (x ∷ xs) [] = []
changes n (x ∷ xs) (y ∷ ys) = (if x == y then [] else register_line n y) ++ changes (n + 1) xs ys

-- the steps, how the run ended, how many steps it had and how many the callees, and the registers and the memory that changed
abbrev pub run_text : Run → List ℕ
run_text r =
    r.trace ++
    ending_line r.flags r.ending ++
    steps_line r.steps ++
    calls_line r.has_callees r.calls ++
    changes 1 r.before r.after ++
    r.units ++
    r.memory
