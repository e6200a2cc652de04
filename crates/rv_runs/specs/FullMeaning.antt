-- What an instruction means on the machine with all units: what it makes of the values with the units' answers. Each family of
-- instructions is a case: those of integers take no answer, and leave the units as they were; a float operation does what its row does. A
-- load or a store of a floating-point register takes no answer either, nor does a call, whose results and restored registers are of both
-- files. A move of a floating-point register does what its operation's row does, and a choice copies its registers exactly, of any class.
use Rattle.std.specs.Prelude.{ℕ, Bool, true, if◌then◌else◌, List, [], Option, Some, None}
use Rattle.rv_base.specs.declared.amode.AMode.{AMode}
use Rattle.rv_base.specs.declared.regs.Reg.{Reg}
use Rattle.rv_base.specs.Regs.{number_of}
use Rattle.rv_inst.specs.Context.{context_by}
use Rattle.rv_inst.specs.declared.inst.Family.{Family}
use Rattle.rv_inst.specs.declared.inst.Family.TheVariants.{Pseudo, Integer, Memory, Control, Loop, Symbols, Calls, Float}
use Rattle.rv_inst.specs.declared.inst.Inst.{Inst}
use Rattle.rv_inst.specs.declared.inst.Inst.TheVariants.{AluRRR, AluRRImm12, Load, Store, Mov, Select}
use Rattle.rv_inst.specs.declared.inst.Line.{Line}
use Rattle.rv_inst.specs.declared.inst.Line.TheVariants.{Inst as Put}
use Rattle.rv_inst.specs.Meaning.{Environment, address_of, addresses_from, writes_of, inst_effect}
use Rattle.rv_inst.specs.declared.inst.SelectInfo.{SelectInfo}
use Rattle.rv_inst.specs.Operands.{family_of, is_float, operands_of, Return, return_of, tail_call_of}
use Rattle.rv_inst.specs.Sizes.{operation_of}
use Rattle.rv_inst.specs.declared.tail_calls.TailCall.{TailCall}
use Rattle.rv_machine.specs.declared.decoding.Decoded.{Decoded}
use Rattle.rv_machine.specs.declared.ops.FloatFormat.{FloatFormat}
use Rattle.rv_ops.specs.Memory.{load_format, store_format}
use Rattle.rv_ops.specs.Operations.{is_carry_line, is_carry_unary}
use Rattle.rv_full.specs.declared.answer.Answer.{Answer}
use Rattle.rv_full.specs.Floats.{format_bytes}
use Rattle.rv_full.specs.Rows.{Row, Absent, Does, Takes, row_takes}
use Rattle.rv_full.specs.UnitRows.{unit_row}
use Rattle.rv_full.specs.Units.{FullValues}
use Rattle.rv_code.specs.UnitWrites.{unit_writes}
pub use Rattle.rv_runs.specs.FloatAccesses.{float_loaded, float_stored}
pub use Rattle.rv_code.specs.FullValues.{SameFull, SameFullBut, chosen}
pub use Rattle.rv_runs.specs.FullReturns.{full_left, full_resumed, with_ints}
use Rattle.rv_runs.specs.Entries.{Entry, AtStart, AtReturn, effect_from}

-- What a line, or an instruction, means from where it is entered: the values that come of values and answers, with the answers that are
-- left; the addresses of the bytes that it writes with these answers; how many answers its own operations take; which of those that the
-- machine took in it are theirs; and whether only they ask, each once, so that where the machine asks, they lack an answer: not so where a
-- setting is put first, or where the line tries again.
pub record FullMeaning : Type 0 where
  pub takes : Environment → FullValues → List Answer → Option (FullValues × List Answer)
  pub writes : Environment → FullValues → List Answer → List ℕ
  pub own_answers : Environment → FullValues → ℕ
  pub own_of : List Answer → List Answer
  pub asks_once : Bool

-- where a call returns, nothing is written
abbrev pub writes_from : Entry → Environment → Line → FullValues → List ℕ
writes_from AtStart env line v = writes_of env line v.ints
writes_from AtReturn env line v = []

-- a line of integers: its effect on them, and no answer
abbrev pub of_integers : Entry → Line → FullMeaning
of_integers entry line = record {
  takes = λ env v answers. Some (record { ints = effect_from entry env line v.ints; units = v.units }, answers);
  writes = λ env v answers. writes_from entry env line v;
  own_answers = λ env v. 0;
  own_of = λ took. took;
  asks_once = true;
}

-- how many answers a row takes
abbrev pub answers_of : Row → ℕ
answers_of Absent = 0
answers_of (Does v) = 0
answers_of (Takes kind f) = 1

abbrev pub operation_row : Option Decoded → FullValues → Row
operation_row None v = Absent
operation_row (Some d) v = unit_row d v

-- the row of a unit's instruction is that of the operation that stands for it, which no constant changes; none returns
abbrev pub row_from : Entry → Environment → Inst → FullValues → Row
row_from AtStart env inst v = operation_row (operation_of (context_by env.flags env.frame []) inst) v
row_from AtReturn env inst v = Absent

-- and what it writes
abbrev pub operation_writes : Option Decoded → FullValues → List Answer → List ℕ
operation_writes None v answers = []
operation_writes (Some d) v answers = unit_writes d v answers

abbrev pub unit_writes_from : Entry → Environment → Inst → FullValues → List Answer → List ℕ
unit_writes_from AtStart env inst v answers = operation_writes (operation_of (context_by env.flags env.frame []) inst) v answers
unit_writes_from AtReturn env inst v answers = []

-- one operation of a unit
abbrev pub of_unit : Entry → Inst → FullMeaning
of_unit entry inst = record {
  takes = λ env v answers. row_takes (row_from entry env inst v) answers;
  writes = λ env v answers. unit_writes_from entry env inst v answers;
  own_answers = λ env v. answers_of (row_from entry env inst v);
  own_of = λ took. took;
  asks_once = true;
}

-- a load of a floating-point register: the number at the address goes into it, boxed
abbrev pub of_float_load : FloatFormat → Reg → AMode → FullMeaning
of_float_load format rd from = record {
  takes = λ env v answers. Some (float_loaded format (number_of rd) (address_of env from v.ints) v, answers);
  writes = λ env v answers. [];
  own_answers = λ env v. 0;
  own_of = λ took. took;
  asks_once = true;
}

-- a store of one: its low bytes go to the address
abbrev pub of_float_store : FloatFormat → Reg → AMode → FullMeaning
of_float_store format src to = record {
  takes = λ env v answers. Some (float_stored format (number_of src) (address_of env to v.ints) v, answers);
  writes = λ env v answers. addresses_from (address_of env to v.ints) (format_bytes format);
  own_answers = λ env v. 0;
  own_of = λ took. took;
  asks_once = true;
}

-- a move of a floating-point register does nothing where it is one to itself, and else the row of its operation
abbrev pub move_row : Option Decoded → FullValues → Row
move_row None v = Does v
move_row (Some d) v = unit_row d v

abbrev pub of_float_move : Inst → FullMeaning
of_float_move inst = record {
  takes = λ env v answers. row_takes (move_row (operation_of (context_by env.flags env.frame []) inst) v) answers;
  writes = λ env v answers. [];
  own_answers = λ env v. answers_of (move_row (operation_of (context_by env.flags env.frame []) inst) v);
  own_of = λ took. took;
  asks_once = true;
}

-- a choice of values of any class is exact
abbrev pub of_choice : SelectInfo → FullMeaning
of_choice info = record {
  takes = λ env v answers. Some (chosen info v, answers);
  writes = λ env v answers. [];
  own_answers = λ env v. 0;
  own_of = λ took. took;
  asks_once = true;
}

-- by the format of the register, where it is a floating-point one; else as of integers
abbrev pub of_access : Option FloatFormat → (FloatFormat → FullMeaning) → FullMeaning → FullMeaning
of_access None of_float integers = integers
of_access (Some format) of_float integers = of_float format

abbrev pub of_memory : Entry → Inst → FullMeaning
of_memory entry (Load rd op flags from) =
    of_access (load_format op) (λ format. of_float_load format rd.reg from) (of_integers entry (Put (Load rd op flags from)))
of_memory entry (Store src op flags to) = of_access (store_format op) (λ format. of_float_store format src to) (of_integers entry (Put (Store src op flags to)))
of_memory entry inst = of_integers entry (Put inst)

-- of the instructions that write integer registers, moves and choices write floating-point registers as well, and an operation of Zbc or
-- Zbkb is one that a unit has
abbrev pub of_integer : Entry → Inst → FullMeaning
of_integer entry (Mov rd rm type) = if is_float rd.reg then of_float_move (Mov rd rm type) else of_integers entry (Put (Mov rd rm type))
of_integer entry (Select info) = if (operands_of (Select info)).leaves_integers then of_choice info else of_integers entry (Put (Select info))
of_integer entry (AluRRR op rd rs1 rs2) = if is_carry_line op (number_of rs2) then of_unit entry (AluRRR op rd rs1 rs2) else of_integers entry (Put (AluRRR op rd rs1 rs2))
of_integer entry (AluRRImm12 op rd rs imm) = if is_carry_unary op then of_unit entry (AluRRImm12 op rd rs imm) else of_integers entry (Put (AluRRImm12 op rd rs imm))
of_integer entry inst = of_integers entry (Put inst)

-- what a call makes of the values: from its start a tail call takes its frame away, and any other does what it does on integers
abbrev pub call_started : Environment → Inst → Option TailCall → FullValues → FullValues
call_started env inst None v = with_ints (inst_effect env inst v.ints) v
call_started env inst (Some tail) v = full_left env.frame tail.stack_arg_size v

-- and from where it returns it loads its results
abbrev pub call_returned : Option Return → FullValues → FullValues
call_returned None v = v
call_returned (Some r) v = full_resumed r v

abbrev pub call_effect : Entry → Environment → Inst → FullValues → FullValues
call_effect AtStart env inst v = call_started env inst (tail_call_of inst) v
call_effect AtReturn env inst v = call_returned (return_of env.flags inst) v

-- registers of both files come from the stack, which takes no answer
abbrev pub of_call : Entry → Inst → FullMeaning
of_call entry inst = record {
  takes = λ env v answers. Some (call_effect entry env inst v, answers);
  writes = λ env v answers. [];
  own_answers = λ env v. 0;
  own_of = λ took. took;
  asks_once = true;
}

abbrev pub meaning_by : Family → Entry → Inst → FullMeaning
meaning_by Pseudo entry inst = of_integers entry (Put inst)
meaning_by Integer entry inst = of_integer entry inst
meaning_by Memory entry inst = of_memory entry inst
meaning_by Control entry inst = of_integers entry (Put inst)
meaning_by Loop entry inst = of_integers entry (Put inst)
meaning_by Symbols entry inst = of_integers entry (Put inst)
meaning_by Calls entry inst = of_call entry inst
meaning_by Float entry inst = of_unit entry inst

abbrev pub inst_meaning : Entry → Inst → FullMeaning
inst_meaning entry inst = meaning_by (family_of inst) entry inst
