-- Frames: the one of no bytes, and distances within one.
use Rattle.std.specs.Prelude.{ℕ, ◌+◌, []}
use Rattle.rv_base.specs.declared.frame.FrameLayout.{FrameLayout}

abbrev pub no_frame : FrameLayout
no_frame = record {
  tail_args_size = 0;
  setup_area_size = 0;
  clobber_size = 0;
  fixed_frame_storage_size = 0;
  stackslots_size = 0;
  outgoing_args_size = 0;
  clobbered_callee_saves = [];
}

-- how far the frame pointer is above the stack pointer
abbrev pub sp_to_fp_of : FrameLayout → ℕ
sp_to_fp_of f = f.clobber_size + f.fixed_frame_storage_size + f.outgoing_args_size

-- how far the end of the incoming arguments is above the stack pointer
abbrev pub sp_to_args_end : FrameLayout → ℕ
sp_to_args_end f = f.tail_args_size + f.setup_area_size + f.clobber_size + f.fixed_frame_storage_size + f.outgoing_args_size
