-- Where a line is entered, and from there: what it makes of integers, how it is left, and which registers may hold anything then.
use Rattle.std.specs.Prelude.{ℕ, List, []}
use Rattle.rv_machine.specs.State.{Values}
use Rattle.rv_inst.specs.declared.inst.Line.{Line}
use Rattle.rv_inst.specs.Meaning.{Environment, Exit, effect_of, exit_of, return_effect, return_exit, temporaries_of}

-- a line is entered at its start, or, where it is a call, where that returns
pub data Entry : Type 0 where
  AtStart : Entry
  AtReturn : Entry

-- what a line makes of the values from there, how it is left, and which registers may hold anything then
abbrev pub effect_from : Entry → Environment → Line → Values → Values
effect_from AtStart env line v = effect_of env line v
effect_from AtReturn env line v = return_effect env line v

abbrev pub exit_from : Entry → Environment → Line → Values → Exit
exit_from AtStart env line v = exit_of env line v
exit_from AtReturn env line v = return_exit line

abbrev pub temporaries_from : Entry → Line → List ℕ
temporaries_from AtStart line = temporaries_of line
temporaries_from AtReturn line = []
