-- The words of definitions that proofs speak of, and the lemmas of std and of the crates below that they cite.
pub use Rattle.mach_buffer.proofs.Laws.{append_each, append_none, below, both_lists, bound_pending, comes_from, due_total, ends_within, even_length, few_allocated, grows_put, last_near, lasts_more, length_padded, locate, none_pending, piece_finished, placed_other, placed_same}
pub use Rattle.mach_buffer.proofs.Laws.{reach_from_slack, reaches_from_slack, recorded_get, reserve_other, slack_from_reach, slack_same, slice_get-append, slice_get-append_last, stands_last as constants_last, total, use_usable, veneers_reach}
pub use Rattle.mach_buffer.proofs.Words.{aligned, AllEnd, allocated_of, AllStand, AreWindows, before_last, bytes_of, calls_in, CanFinish, CanReach, cases_Bool, cases_eq, cases_lt, code_limit, common_steps, Constant, constant_label, constants_end, ConstPlace, core, deadline}
pub use Rattle.mach_buffer.proofs.Words.{deadlines, due_by, end_after, eq-eqb, Event, false_from_ne_true, finalized_handler, Finishes, first_constant, first_inner, get_or_from_slice_get, HasConstants, HasSlack, if◌then◌else◌, inner_count, is_far, is_pending, is_reached, is_some}
pub use Rattle.mach_buffer.proofs.Words.{IsApart, IsConstantLabel, IsUsable, Kinds, last_end, Lasts, le-leb, length-append, length-drop, length-take-le, MachLabel, MachRecord, map-append, maps_in, named_of, nat_eq, nat_le, nat_tests, ne_eqb, offset_in, offset_or_zero, option_map}
pub use Rattle.mach_buffer.proofs.Words.{or_parts, or_place, padded_for, padding, patches_in, place_of, put_all, put_at, put_constant, put_constant_at, put_each, put_veneer, recorded, registered_of, relocs_in, reserve_from, reserve_of, same_Some, SameOutside, Shape, shape_of}
pub use Rattle.mach_buffer.{proofs.Words.{slice_get, slice_get_read, slice_get_within, slice_index_or, take-append-le, take_all, take_more, traps_in, tries_in, true≢false, unplaced_of, unwinds_in, Use, uses_of, VCodeConstant, window, zeros}, specs.Buffer.{constants_of, labels_of, records_of}}
pub use Rattle.{mach_buffer.specs.Islands.island_end, mach_records.{proofs.OfRecords.{record_relocs, record_traps, record_unwinds}, specs.Records.{event_recorded, no_offsets}, specs.declared.records.MachReloc.MachReloc}, mach_uses.specs.Labels.listed}
pub use Rattle.rv_asm.{specs.AfterLastIsland.{AfterLastIsland, EndsIn, passing}, specs.BoundLabels.is_in, specs.FinishedCode.IsFinished}
pub use Rattle.rv_asm.{specs.FullSimulation.{environment_at, FullRuns, HasFullOperations, IsEntry, IsExit, IsOn, LineAt, Lines, meaning_of, OneFullLine, Overwrites, Placing, Reached, RunsOn, StandsAt, Stops}}
pub use Rattle.rv_asm.{specs.LinesInBuffer.{BindPut, CanPut, GapAsked, is_stuck, IsNamed, LinePut, LinesStand, LineStands, Named, ReturnsWithin, Sized, SpansIn, StandsAfter}, specs.Placed.{address_of_name, Addresses, bytes_from, distance_to, IsFilledAt, IsPlaced}}
pub use Rattle.rv_asm.specs.Reach.{bound_by, constants_taken, constants_waiting, HasTail, InReach, IsDue, island_after, NotEarly, uses_after_island, uses_from, veneers_end, waiting}
pub use Rattle.rv_asm.specs.Refusal.{bad_frame, binds, broken_from, constants_sum, Finds, has_bad_frame, is_bound, is_unfit, lines_sum, malformed, size_limit, size_sum, too_large, twice_from, twice_in, unbound_among, unbound_in}
pub use Rattle.rv_asm.{specs.Reported.{binds_from, FillsInLine, line_records, line_returns, records_from, Reported, return_from, returns_from, StandApart, StandOutside, Stands}, specs.SavedRegisters.{SavesReal, StepSaves}}
pub use Rattle.rv_asm.specs.Simulation.{address_of, At, AtReturn, AtStart, Comes, effect_from, End, Entry, entry_point, environment_of, exit_from, HasOperations, InData, IsBack, IsStopped, Leads, next_point, Out, Point, return_at, Returned, RunsAsListed, Stop, temporaries_from}
pub use Rattle.rv_asm.{specs.Simulation.{Trapped, WritesOutside}, specs.Spans.{binding_line, constants_after, constants_named, end_before, end_of, first_after_island, from_of, Gap, is_after_island, is_island, IsGap, IsGapOf, IsSpan, label_start, line_constant, start_of, to_of}}
pub use Rattle.{rv_asm.{specs.StraightUses.{GoStraight, IsIn}, specs.Survey.{IsPlainLine, IsSurveyed}}, rv_base.{specs.Frame.{sp_to_args_end, sp_to_fp_of}, specs.Regs.{int_reg, IsReal}, specs.declared.reloc.Reloc.Reloc}}
pub use Rattle.{rv_base.specs.declared.reloc.Reloc.TheVariants.{Abs8, RiscvCallPlt, RiscvGotHi20, RiscvPCRelHi20, RiscvPCRelLo12I}, rv_code.{specs.InstParts.{branch_to, trap_bytes}, specs.Sites.LeadsOn, specs.Slots.{Fixup, SlotOf, Symbol, call_event, Here, lower_event, upper_event}}}
pub use Rattle.rv_emit.proofs.Laws.{adds_both, adds_end, adds_none, appends, asked_by, before_or_last, bits_back, bound_kept, but_then_same, clear_there, code_long, deadlines_as, direct_never_pending, Each, each_more, each_none, emitted_keeps, empty_built, ends_later}
pub use Rattle.rv_emit.proofs.Laws.{few_ways, fits_most, gap_is, gap_last, gap_put, gap_stands, GoesToLabel, has_operation, high_kept, inst_full_resumes, inst_full_runs, inst_resumes, inst_runs, iter_after, iter_none, keeps, label_reached, lasts_after_slots, listed_try}
pub use Rattle.rv_emit.proofs.Laws.{meaning_agrees, MeansSame, most_counts, no_own, one_slot, own_stands, parts_are_self_contained, parts_last, parts_put, parts_stand, pending_adds, pending_at, pending_still, puts_bytes, puts_ends, reads_operation, room_by, room_keeps}
pub use Rattle.rv_emit.{proofs.Laws.{room_named, room_records, room_sound, same_but, slot_fields_end, still_pending, uses_bare, uses_kinds, window_byte, window_length}, specs.Emission.EmitsIn, specs.Standing.{IsFinishedTo, PartsIn, SlotsIn}, specs.State.setting_beyond}
pub use Rattle.{rv_encode.specs.Operations.decoded_branch, rv_full.specs.Steps.fiter, rv_inst.{specs.Context.context_of, specs.Forms.{jump_kind, IsOwnForm}, specs.LabelUse.{Aims, backward_of, forward_of, has_veneer_of, label_kinds, marks_of}}}
pub use Rattle.rv_inst.specs.Meaning.{Break, resumed_by, target_exit, Data, effect_of, exit_of, return_exit, temporaries_of, Trap, writes_of}
pub use Rattle.rv_inst.{specs.Operands.{inst_registers, named_labels, handler_label, inst_constant, inst_labels, inst_ways, labels_of as target_names, named_by, table_of, target_labels, targets_of, try_labels}, specs.Records.{access_records, IsRecorded, IsTrapAt, patch_records, return_records}}
pub use Rattle.rv_inst.{specs.Relocations.{field_size, IsOutside}, specs.Rules.{broken_rule, first_of, is_buffer_label}, specs.Sizes.{first_in, inst_code, inst_records, inst_size, inst_sum, IsOfSize, line_size, line_space, line_sum, Request, request_of, space_in, trap_size}}
pub use Rattle.rv_inst.{specs.Uses.{target_uses, use_at, uses_by, uses_in, uses_start}, specs.declared.code.CallReturn.CallReturn, specs.declared.code.Code.Code, specs.declared.code.LineSpan.LineSpan, specs.declared.error.EmitError.EmitError, specs.declared.inst.CondBrTarget.CondBrTarget}
pub use Rattle.rv_inst.{specs.declared.inst.CondBrTarget.TheVariants.{Fallthrough, Label as ToLabel}, specs.declared.inst.Line.Line, specs.declared.inst.Line.TheVariants.Bind}
pub use Rattle.rv_inst.{specs.declared.job.Job.Job, specs.declared.label_use.LabelUse.LabelUse, specs.declared.label_use.LabelUse.TheVariants.{B12, PCRel32, PCRelLo12I, Jal20, PCRelHi20, RVCJump}, specs.declared.targets.Targets.Targets}
pub use Rattle.{rv_inst.specs.declared.targets.Targets.TheVariants.{Branches, Jumps, Nowhere, Refers, RefersConstant}, rv_listing.specs.CodeRanges.{CallFits, CodeFits, ConstFits, EntryFits, HandlerFits, LabelFits, MapFits, PatchFits, RelocFits, ReturnFits, SpanFits, TrapFits, TryFits, UnwindFits}}
pub use Rattle.rv_machine.{specs.Memory.store_bytes, specs.State.{Memory, store}, specs.Steps.iter}
pub use Rattle.rv_runs.proofs.Words.{access_slots, AddressOf, AllByRecursion, Answer, AreOutside, AreValues, AVirtual as Virtual, Base, byte, ComesOut, compares, complement_of, Context, context_by, Decoded, EmitVState, EndsAsMeant, Enters, Environment}
pub use Rattle.rv_runs.proofs.Words.{environment, Exit, ExternalName, fetch, fiter_after, fiter_none, FrameLayout, FullEnds, FullMeaning, FullState, FullValues, GapIn, Inst, inst_exit, inst_meaning, inst_rule, inst_temporaries, Int, integer_decodes, integer_run}
pub use Rattle.rv_runs.proofs.Words.{IntegerCompare, is_integer_op as is_integer, is_virtual, IsaFlags, IsPlacedAt, IsState, Label, Leave, list_any, load_result, low64, low_word, Next, Records, number_of, Op, operation_of, parts_of}
pub use Rattle.rv_runs.proofs.Words.{PartsStand, Put, put, Real, Reg, reg, RegClass, Resumes, Return, return_of, Same, SameBut, Site, size_of, Slot, slots_alone, State, tail_call_of, TailCall, To, TrapCode, try_call_of, try_exit, TryCallInfo}
pub use Rattle.{rv_runs.{proofs.Words.{UserStackMap, Values, wrap}, specs.FullInstRuns.FullyAsks}, rv_sequences.specs.Emitted.{Appends, AppendsIsland, AppendsSequence, Buffer, HasWindows, IsFarUse, IslandAsked, IslandIfNeeded, IsSoundBuffer, pending}}
pub use Rattle.rv_sequences.{specs.Images.{AllClear, EndsWithin, FieldsEnd, FieldsStand, HoldsDistance, IsFilled, IsFilledWith, IsLinkedWith, KeepsOutside}, specs.NewConstants.{AddsConstants, StandInTurn}, specs.Puts.{AllBytes, Puts}}
pub use Rattle.std.proofs.Common.{[], ap, append-nil, append_assoc, arith, Bool, cond, drop, Err, false, inl, inr, length, List, lit<, lit≤, map, None, not, Option, pos, refl, Result, slice_index, Some, subst, suc, sym, take, true, zero, ℕ, ℤ, ⊎_elim, ◌%◌, ◌*◌, ◌++◌, ◌+◌}
pub use Rattle.std.{proofs.Common.{◌-ℤ◌, ◌-◌, ◌<◌, ◌==◌, ◌^◌, ◌||◌, ◌∙◌, ◌∷◌, ◌≡◌, ◌≢◌, ◌≤◌}, proofs.lemmas.Bool.{both_ways, cond-false, cond-true, cond_both, eqb-true, le-ltb, leb-false, lt-leb, lt-ltb, ltb-false, ltb-true, or_left, or_right}}
pub use Rattle.std.{proofs.lemmas.Grind.{flat_map-append, same_number_lists}, proofs.lemmas.List.drop-append-le, proofs.lemmas.Option.none-some, specs.List.flat_map, specs.Prelude.{is_none, nat_lt, unwrap_or, ◌&&◌, ◌⊎◌}}
