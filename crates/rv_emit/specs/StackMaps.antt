-- The map of the values on the stack that is pending, which the next call takes.
use Rattle.std.specs.Prelude.{Option, None}
use Rattle.rv_base.specs.declared.call.CallInfo.{CallInfo}
use Rattle.rv_base.specs.declared.call.UserStackMap.{UserStackMap}
use Rattle.rv_inst.specs.declared.inst.Inst.{Inst}
use Rattle.rv_inst.specs.declared.inst.Inst.TheVariants.{Call, CallInd}

-- a call with a map in place of its own
abbrev pub call_given : {T : Type 0} → Option UserStackMap → CallInfo T → CallInfo T
call_given map info = record info { stack_map = map }

-- what is emitted where a map is pending: only calls that return take one
abbrev pub with_map : Option UserStackMap → Inst → Inst
with_map map (Call info) = Call (call_given map info)
with_map map (CallInd info) = CallInd (call_given map info)
with_map map inst = inst

-- the map that an instruction takes
abbrev pub map_given : Inst → Option UserStackMap → Option UserStackMap
map_given (Call info) map = map
map_given (CallInd info) map = map
map_given inst map = None

-- the map that is pending after an instruction
abbrev pub map_after : Inst → Option UserStackMap → Option UserStackMap
map_after (Call info) map = None
map_after (CallInd info) map = None
map_after inst map = map
