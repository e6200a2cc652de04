-- Frames that can't be made, or that no tail call can take away.
use Rattle.std.specs.Prelude.{◌^◌, Bool, false, ◌||◌, ◌&&◌, nat_le, Option, Some, None}
use Rattle.std.specs.List.{list_any}
use Rattle.rv_base.specs.declared.frame.FrameLayout.{FrameLayout}
use Rattle.rv_base.specs.declared.regs.PReg.{PReg}
use Rattle.rv_base.specs.declared.regs.Writable.{Writable}
use Rattle.rv_base.specs.Frame.{sp_to_args_end}
use Rattle.rv_inst.specs.Rules.{is_vector_class, is_x, is_stack_or_frame, is_reserved_x}
use Rattle.rv_inst.specs.declared.tail_calls.TailCall.{TailCall}

-- a register that a frame can't save: a vector register, or x0, ra, sp, fp, x30 or x31
abbrev pub is_unsaved : PReg → Bool
is_unsaved p = is_vector_class p.class || (is_x 0 p || (is_x 1 p || (is_stack_or_frame p || is_reserved_x p)))

-- t0, through which a tail call to a register's address goes
abbrev pub is_t0 : PReg → Bool
is_t0 p = is_x 5 p

-- from the stack pointer to the end of the arguments are 2^31 bytes or more, or it saves a register that it can't
abbrev pub is_bad_frame : FrameLayout → Bool
is_bad_frame frame = nat_le (2 ^ 31) (sp_to_args_end frame) || list_any (λ (r : Writable PReg). is_unsaved r.reg) frame.clobbered_callee_saves

-- a frame that a tail call can't restore, since it saves the register through which the call goes
abbrev pub is_unrestorable : FrameLayout → TailCall → Bool
is_unrestorable frame tail = tail.by_register && list_any (λ (r : Writable PReg). is_t0 r.reg) frame.clobbered_callee_saves

abbrev pub is_unrestorable_for : FrameLayout → Option TailCall → Bool
is_unrestorable_for frame None = false
is_unrestorable_for frame (Some tail) = is_unrestorable frame tail

-- a frame that a tail call can't take away: a bad one, too
abbrev pub is_bad_frame_for : FrameLayout → Option TailCall → Bool
is_bad_frame_for frame None = false
is_bad_frame_for frame (Some tail) = is_bad_frame frame || is_unrestorable frame tail
