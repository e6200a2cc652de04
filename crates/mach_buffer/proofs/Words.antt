-- The lemmas of std that proofs cite, and the words of definitions that they speak of.
pub use Rattle.std.proofs.lemmas.Bool.{and_from, and_left, and_parts, cases_Bool, cases_eq, cases_lt, eq-eqb, false_from_ne_true, le-leb, ne_eqb, or_parts, true_from_ne_false, true≢false}
pub use Rattle.std.proofs.lemmas.Bool.Decides.{nat_tests}
pub use Rattle.std.proofs.lemmas.Cmp.{nat_cmp_total, on_total, then_total}
pub use Rattle.std.proofs.lemmas.Grind.{common_steps}
pub use Rattle.std.proofs.lemmas.List.{append-nil, drop-drop, drop-map, drop-take, drop_at, drop_more, get_or-take, length-append, length-drop, length-map, length-set, length-take-le, length_push, map-append, map-set, nil_from_length, set-append_left, set-get_or, take-append-drop, take-append-le, take-take, take_all, take_at, take_more, take_rest}
pub use Rattle.std.proofs.lemmas.List.Elements.{All-map, filter-append}
pub use Rattle.std.proofs.lemmas.List.Recursion.{is_count_by}
pub use Rattle.std.proofs.lemmas.List.Sorted.{All-permutation, IsPermutation-append_right, IsPermutation-filter_both, IsPermutation-map, IsPermutation-refl, IsPermutation-trans, length_permutation, ranks_by, sorted_far, sum_by-IsPermutation}
pub use Rattle.std.proofs.lemmas.List.Sums.{count_by-le-length, get_or-le-sum_by, sum_by_more_le}
pub use Rattle.std.proofs.lemmas.Option.{get_or_from_slice_get, gets, same_Some, slice_get-get_or, slice_get-map, slice_get_cases, slice_get_read, slice_get_within}
pub use Rattle.std.specs.Cmp.{IsStrictWeakOrder}
pub use Rattle.std.specs.Ordering.{is_lt, nat_cmp, ordering_then}
pub use Rattle.std.specs.Prelude.{count_by, filter, if◌then◌else◌, is_some, IsSomeAnd, option_map, slice_index_or, IsPermutation, IsSorted, nat_eq, nat_le, slice_get, ◌||◌}
pub use Rattle.rv_base.specs.LabelUse.{code_limit, IsFresh, IsFreshFrom, IsVeneer, Kinds, SameOutside, SameOutsideFrom, Veneer}
pub use Rattle.rv_base.specs.declared.constant.ConstAlign.{ConstAlign}
pub use Rattle.rv_base.specs.declared.constant.Constant.{Constant}
pub use Rattle.rv_base.specs.declared.constant.VCodeConstant.{VCodeConstant}
pub use Rattle.rv_base.specs.declared.label.MachLabel.{MachLabel}
pub use Rattle.mach_labels.specs.Table.{first_constant, first_inner}
pub use Rattle.mach_buffer.specs.Buffer.{allocated_of, bytes_of, named_of, place_of, registered_of, shape_of, spoiled_of, uses_of}
unfoldable pub use Rattle.mach_buffer.specs.Buffer.{IsSound}
pub use Rattle.mach_buffer.specs.Constants.{aligned_to, alignment_reserve, AllStand, constant_end, constants_end, ConstantStands, end_after, HasConstants, offset_in, put_constant, put_constant_at, put_constants, put_each, reserve_from, reserve_of, zeros}
pub use Rattle.mach_buffer.specs.Finish.{AllArrive, Arrives, before_last, CanFinish, Finishes, IsVia, last_end, padded_for, pending_in}
pub use Rattle.mach_buffer.specs.Growth.{Grows, Lasts, RecordsLast}
pub use Rattle.mach_buffer.specs.Inside.{AreNoted, AreOrdered, AreSound, Inside, inside_of, IsOrdered, IsWhole}
pub use Rattle.mach_buffer.specs.Islands.{AddsOwn, aligned, CanIsland, first_of, is_far, IsJumpOver, island_veneers, Islanded, IsOwn, needs_own, others_of, padded, padding, with_own}
pub use Rattle.mach_buffer.specs.LastVeneers.{LastPut}
pub use Rattle.mach_buffer.specs.Links.{HasVeneer, IsLinked}
pub use Rattle.mach_buffer.specs.Pieces.{IsPiece, UseFinished}
pub use Rattle.mach_uses.specs.Places.{place_in}
pub use Rattle.mach_uses.specs.Queues.{AreKept, deadline_at, deadline_in, due_in, HoldNone, is_due_at, is_other_queued, is_queued, Keeps, key_number, keys_where, passes, queue_of, shows_slack, slack_after, test_at, use_where}
pub use Rattle.mach_uses.specs.Reach.{AllOf, CanReach, deadline, deadlines, due_by, HasSlack, island_front, island_margin, is_needed, is_needed_from, is_other, is_pending, is_reached, StillReaches, VeneersReach}
pub use Rattle.mach_records.specs.Records.{calls_in, finalized_handler, maps_in, offset_or_zero, patches_in, relocs_in, traps_in, tries_in, unwinds_in}
pub use Rattle.mach_buffer.specs.Shape.{core, IsConstantLabel, IsKnown, IsUsable, recorded, Shape, veneer_use, unplaced_of, with_allocated, with_bytes, with_label, with_named, with_record, with_registered, with_use}
pub use Rattle.mach_uses.specs.Labels.{is_named, name_more}
pub use Rattle.mach_uses.specs.Labels.{constant_label, inner_count, placed}
pub use Rattle.mach_buffer.specs.VeneerConditions.{CanPutAll}
pub use Rattle.mach_uses.specs.Order.{CanPut, CanPutAt, IsNone}
pub use Rattle.mach_buffer.specs.Veneers.{put_all, put_at, put_veneer}
pub use Rattle.mach_uses.specs.Order.{by_deadline, by_number, by_place, IsOrder, numbers_from, numbers_of}
pub use Rattle.mach_buffer.specs.Windows.{AllAim, AllEnd, AllKept, AreWindows, CanPatch, CanPatchAll, ChangesOnly, KeepsOthers, or_place, patch_of, patches_of}
pub use Rattle.mach_uses.specs.Windows.{IsApart, window}
pub use Rattle.mach_buffer.specs.declared.patches.Patch.{Patch}
pub use Rattle.mach_uses.specs.declared.pending.Pending.{Pending}
pub use Rattle.mach_records.specs.declared.records.ConstPlace.{ConstPlace}
pub use Rattle.mach_records.specs.declared.records.Event.{Event}
pub use Rattle.mach_records.specs.declared.records.MachRecord.{MachRecord}
pub use Rattle.mach_uses.specs.declared.uses.PendingKey.{PendingKey}
pub use Rattle.mach_uses.specs.declared.uses.Use.{Use}
