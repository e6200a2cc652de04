-- Laws for the crates above, of what a buffer shows and of sound buffers: all of this crate's proofs that they may cite.
pub use Rattle.mach_uses.proofs.Slack.{due_total, total, due_le_length, slack_less, slack_none, slack_same, slack_use, slack_from_reach, reach_from_slack, reaches_from_slack, veneers_reach, slack_not_needed, deadlines_append, due_fewer, bound_pending, none_pending, none_from}
pub use Rattle.mach_uses.proofs.Lists.{append_none, below, both_lists, comes_from, locate, slice_get-append, slice_get-append_last, append_each}
pub use Rattle.mach_buffer.proofs.Links.{recorded_get, OwnWindows, windows_block, windows_bytes, windows_none}
pub use Rattle.mach_buffer.proofs.VeneersAndConstants.{Was, recorded_at, length_padded, aligned_near}
pub use Rattle.mach_buffer.proofs.IslandVeneers.{own_idle, IslandRest}
pub use Rattle.mach_buffer.proofs.SoundBuffers.{even_length, few_allocated, use_usable, bound_usable, ends_within, lasts_island, island_rest, island_takes, island_reserve}
pub use Rattle.mach_buffer.proofs.LastVeneers.{last_near}
pub use Rattle.mach_buffer.proofs.ConstantOrder.{placed_same, placed_other}
pub use Rattle.mach_buffer.proofs.Lasting.{grows_put, lasts_same, lasts_more, lasts_bytes, lasts_use, lasts_allocated, lasts_record, lasts_named, lasts_label}
pub use Rattle.mach_buffer.proofs.Pieces.{windows_with_bytes, windows_with_use, piece_finished, use_finished}
pub use Rattle.mach_buffer.proofs.ConstantsPut.{reserve_other, stands_last}
