-- The lemmas of std that proofs cite, and the words of definitions that they speak of.
pub use Rattle.std.proofs.lemmas.Bool.{and_left, cases_eq, cases_lt, or_parts, true_from_ne_false, true≢false}
pub use Rattle.std.proofs.lemmas.Bool.Decides.{nat_tests}
pub use Rattle.std.proofs.lemmas.Cmp.{nat_cmp_total, on_total, then_total}
pub use Rattle.std.proofs.lemmas.Grind.{common_steps}
pub use Rattle.std.proofs.lemmas.List.{append-nil, drop-map, get_or-take, length-append, length-map, length-take-le, length_push, map-append, nil_from_length, take_all, take_more}
pub use Rattle.std.proofs.lemmas.List.Elements.{All-map, filter-append}
pub use Rattle.std.proofs.lemmas.List.Recursion.{is_count_by}
pub use Rattle.std.proofs.lemmas.List.Sorted.{All-permutation, IsPermutation-append_right, IsPermutation-filter_both, IsPermutation-map, IsPermutation-refl, IsPermutation-trans, length_permutation, ranks_by, sorted_far, sum_by-IsPermutation}
pub use Rattle.std.proofs.lemmas.List.Sums.{count_by-le-length, get_or-le-sum_by, sum_by_more_le}
pub use Rattle.std.proofs.lemmas.Option.{get_or_from_slice_get, gets, same_Some, slice_get-get_or, slice_get-map, slice_get_cases}
pub use Rattle.std.specs.Cmp.{IsStrictWeakOrder}
pub use Rattle.std.specs.Ordering.{is_lt, nat_cmp, ordering_then}
pub use Rattle.std.specs.Prelude.{count_by, filter, is_some, option_map, slice_index_or, IsPermutation, IsSorted, nat_eq, nat_le, slice_get}
pub use Rattle.rv_base.specs.LabelUse.{Kinds}
pub use Rattle.rv_base.specs.declared.label.MachLabel.{MachLabel}
pub use Rattle.mach_uses.specs.Places.{place_in}
pub use Rattle.mach_uses.specs.Queues.{AreKept, deadline_at, deadline_in, due_in, HoldNone, is_due_at, is_other_queued, is_queued, Keeps, key_number, keys_where, passes, queue_of, shows_slack, slack_after, test_at, use_where}
pub use Rattle.mach_uses.specs.Reach.{AllOf, CanReach, deadline, deadlines, due_by, HasSlack, island_front, island_margin, is_needed, is_needed_from, is_other, is_pending, is_reached, StillReaches, VeneersReach}
pub use Rattle.mach_uses.specs.Order.{CanPut, IsNone}
pub use Rattle.mach_uses.specs.Order.{by_deadline, by_number, by_place, IsOrder, numbers_from, numbers_of}
pub use Rattle.mach_uses.specs.declared.pending.Pending.{Pending}
pub use Rattle.mach_uses.specs.declared.uses.PendingKey.{PendingKey}
pub use Rattle.mach_uses.specs.declared.uses.Use.{Use}
