-- The pieces of calls and tail calls.
use Rattle.std.specs.Prelude.{ℕ, ◌+◌, Bool, true, false, pos, List, [], ◌∷◌, ◌++◌, Option, Some, None}
use Rattle.rv_base.specs.declared.call.CallInfo.{CallInfo}
use Rattle.rv_base.specs.declared.call.TryCallInfo.{TryCallInfo}
use Rattle.rv_base.specs.declared.call.UserStackMap.{UserStackMap}
use Rattle.rv_base.specs.declared.external_name.ExternalName.{ExternalName}
use Rattle.rv_base.specs.declared.flags.IsaFlags.{IsaFlags}
use Rattle.rv_base.specs.declared.frame.FrameLayout.{FrameLayout}
use Rattle.rv_base.specs.declared.regs.Reg.{Reg}
use Rattle.rv_base.specs.Frame.{sp_to_fp_of}
use Rattle.rv_base.specs.Regs.{number_of}
use Rattle.rv_inst.specs.Records.{site_event}
use Rattle.rv_inst.specs.Sizes.{fall}
use Rattle.mach_records.specs.declared.records.Event.TheVariants as event
use Rattle.rv_code.specs.Accesses.{return_pieces, stack_step_pieces}
use Rattle.rv_code.specs.Pieces.{Piece, Note, Go, Call, Jalr, slots_of}
use Rattle.rv_code.specs.Slots.{size_of}

-- ---- tail calls

-- a frame is taken away, and then a jump goes on: to a symbol by way of x31, at a call site; or to the address in t0
abbrev pub tail_pieces : IsaFlags → FrameLayout → ℕ → ExternalName → List Piece
tail_pieces flags frame arguments name = return_pieces flags frame arguments ++ Note event.CallSite ∷ Call 0 31 name ∷ []

abbrev pub t0_pieces : IsaFlags → FrameLayout → ℕ → List Piece
t0_pieces flags frame arguments = return_pieces flags frame arguments ++ Jalr 0 5 (pos 0) ∷ []

-- ---- calls that return

-- after the words of a call, which are so long: how long that is in all, once the stack pointer has fallen by what the callee took away
abbrev pub call_size : IsaFlags → ℕ → ℕ → ℕ
call_size flags jump popped = jump + size_of (slots_of flags (stack_step_pieces (fall popped)))

-- the record of a call of so many bytes that may be patched, where it is one
abbrev pub patch_notes : Bool → ℕ → List Piece
patch_notes false size = []
patch_notes true size = Note (event.PatchableCallSite size) ∷ []

-- the records of a call where it returns: the values on the stack, where it has a map of them; and the call site, with the handlers
-- where it has some
abbrev pub map_notes : FrameLayout → Option UserStackMap → List Piece
map_notes frame None = []
map_notes frame (Some entries) = Note (event.StackMap (sp_to_fp_of frame) entries) ∷ []

abbrev pub return_notes : FrameLayout → Option UserStackMap → Option TryCallInfo → List Piece
return_notes frame entries t = map_notes frame entries ++ Note (site_event frame t) ∷ []

-- what stands after the words of a call
abbrev pub rest_pieces : FrameLayout → ℕ → Bool → ℕ → Option UserStackMap → Option TryCallInfo → List Piece → List Piece
rest_pieces frame popped patchable n entries t last = return_notes frame entries t ++ (stack_step_pieces (fall popped) ++ (patch_notes patchable n ++ last))

-- a call that ends its block goes on by a jump
abbrev pub try_pieces : Option TryCallInfo → List Piece
try_pieces None = []
try_pieces (Some t) = Go t.continuation ∷ []

-- to a symbol, by way of ra, which links; and these pieces after it
abbrev pub call_pieces : IsaFlags → FrameLayout → CallInfo ExternalName → List Piece → List Piece
call_pieces flags frame info last =
    Call 1 1 info.dest ∷
    rest_pieces frame info.callee_pop_size info.patchable (call_size flags 8 info.callee_pop_size) info.stack_map info.try_call_info last

-- to an address in a register
abbrev pub call_ind_pieces : FrameLayout → CallInfo Reg → List Piece → List Piece
call_ind_pieces frame info last = Jalr 1 (number_of info.dest) (pos 0) ∷ rest_pieces frame info.callee_pop_size false 0 info.stack_map info.try_call_info last
