-- What the crates above cite of this one's proofs: laws about its definitions, and what these proofs cite of the crates below.

pub use Rattle.{rv_code.{proofs.Courses.bits_back, proofs.Operands.{keeps, listed, listed_targets, listed_try}, proofs.Steps.{iter_none, iter_after}}, rv_emit.{proofs.Bounds.few_ways, proofs.EmitRuns.empty_built, proofs.InstSlots.{appends, emitted_keeps, parts_are_self_contained}}}
pub use Rattle.rv_emit.{proofs.Islands.{asked_by, room_by, room_keeps, room_longer, room_named, room_records, room_sound, deadlines_as}, proofs.IslandsStand.{gap_is, GoesToLabel, label_reached}, proofs.MostBytes.most_counts, proofs.NewConstants.{adds_both, adds_none, adds_end, before_or_last}}
pub use Rattle.rv_emit.{proofs.OwnPieces.{Each, each_none, each_more}, proofs.PartsInBuffer.{gap_last, parts_last, gap_put, parts_put, ends_later, clear_there, slot_fields_end}}
pub use Rattle.rv_emit.{proofs.ReachAfterInst.{first_use, fits_most, pending_adds, pending_at, uses_bare, uses_kinds, direct_never_pending, pending_still, still_pending}, proofs.Standing.{gap_stands, parts_stand, own_stands}, proofs.VeneerRuns.{window_byte, window_length}}
pub use Rattle.rv_runs.{proofs.CallRuns.inst_resumes, proofs.Exits.{same_but, but_then_same}, proofs.FullInstRuns.{inst_full_runs, inst_full_resumes, MeansSame, meaning_agrees}, proofs.InstRuns.inst_runs, proofs.OneOperations.{one_slot, has_operation, reads_operation}}
pub use Rattle.rv_sequences.{proofs.BufferAfterSlots.{lasts_after_slots, puts_bytes, puts_ends}, proofs.PlainSlots.code_long, proofs.Sequences.{no_own, high_kept, bound_kept}}
