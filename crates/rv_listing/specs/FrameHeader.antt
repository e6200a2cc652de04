-- The header line of the frame.
use Rattle.std.specs.Prelude.{ℕ, List, Option, Some}
use Rattle.rv_base.specs.declared.frame.FrameLayout.{FrameLayout}
use Rattle.rv_base.specs.declared.regs.PReg.{PReg}
use Rattle.rv_base.specs.declared.regs.Writable.{Writable}
use Rattle.rv_listing.specs.Tokens.{◌>>=◌}
use Rattle.rv_listing.specs.Fields.{done, ◌⊛◌, whole}
use Rattle.rv_listing.specs.Operands.{real_register, natural_32}
use Rattle.rv_listing.specs.Pairs.{listed}

-- a register of the machine that a callee saves and this function writes
unfoldable pub saved_register : List ℕ → Option (Writable PReg)
saved_register w = real_register w >>= λ r. Some (record { reg = r })

abbrev pub frame_of : ℕ → ℕ → ℕ → ℕ → ℕ → ℕ → List (Writable PReg) → FrameLayout
frame_of tail_args setup_area clobber fixed_frame_storage stackslots outgoing_args saves =
    record {
      tail_args_size = tail_args;
      setup_area_size = setup_area;
      clobber_size = clobber;
      fixed_frame_storage_size = fixed_frame_storage;
      stackslots_size = stackslots;
      outgoing_args_size = outgoing_args;
      clobbered_callee_saves = saves;
    }

-- six sizes in bytes, and the registers that are saved
unfoldable pub frame_form : List (List ℕ) → Option FrameLayout
frame_form = whole (done frame_of ⊛ natural_32 ⊛ natural_32 ⊛ natural_32 ⊛ natural_32 ⊛ natural_32 ⊛ natural_32 ⊛ listed saved_register)
