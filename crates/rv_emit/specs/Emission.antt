-- What an instruction puts into a buffer: links of the proof.
use Rattle.std.specs.Prelude.{List, Option}
use Rattle.rv_base.specs.declared.call.UserStackMap.{UserStackMap}
use Rattle.rv_base.specs.declared.constant.Constant.{Constant}
use Rattle.rv_base.specs.declared.flags.IsaFlags.{IsaFlags}
use Rattle.rv_base.specs.declared.frame.FrameLayout.{FrameLayout}
use Rattle.rv_inst.specs.Context.{Context, context_by}
use Rattle.rv_inst.specs.declared.inst.Inst.{Inst}
use Rattle.rv_code.specs.InstParts.{parts_of}
use Rattle.rv_code.specs.declared.state.EmitVState.{EmitVState}
use Rattle.rv_sequences.specs.Emitted.{Buffer}
use Rattle.rv_sequences.specs.Parts.{PutsParts}
use Rattle.rv_emit.specs.StackMaps.{with_map}

-- the parts of an instruction were put
abbrev pub EmitsIn : Context → EmitVState → Inst → Buffer → Buffer → Type 0
EmitsIn context setting inst old new = PutsParts context.flags (parts_of context setting inst) old new

-- whatever the vector unit's setting is
abbrev pub Emits : Context → Inst → Buffer → Buffer → Type 0
Emits context inst old new = (setting : EmitVState) → EmitsIn context setting inst old new

-- and whatever the frame and the constants are
abbrev pub EmitsAnyhow : IsaFlags → Inst → Buffer → Buffer → Type 0
EmitsAnyhow flags inst old new = (frame : FrameLayout) (constants : List Constant) → Emits (context_by flags frame constants) inst old new

-- of a call with the map that is given to it
abbrev pub EmitsGiven : Context → EmitVState → Option UserStackMap → Inst → Buffer → Buffer → Type 0
EmitsGiven context setting map inst old new = EmitsIn context setting (with_map map inst) old new
