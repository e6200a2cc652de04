-- What the proofs of this crate cite of std, of the crates below and of its own definitions, in one place.
pub use Rattle.mach_buffer.proofs.Laws.{aligned_near, append_each, below, bound_usable, deadlines_append, ends_within, even_length, few_allocated, island_reserve, island_rest, island_takes, lasts_allocated, lasts_bytes, lasts_island, lasts_more, lasts_record, lasts_same, locate}
pub use Rattle.mach_buffer.proofs.Laws.{none_from, own_idle, piece_finished, placed_other, placed_same, reach_from_slack, recorded_at, slack_less, slack_not_needed, slack_use, slice_get-append, slice_get-append_last, stands_last, use_finished, use_usable, windows_none}
pub use Rattle.mach_buffer.{proofs.Laws.{windows_with_bytes, windows_with_use}, specs.Buffer.{allocated_of, bytes_of, constants_of, labels_of, named_of, place_of, records_of, registered_of, shape_of, uses_of}}
pub use Rattle.mach_buffer.{specs.Constants.{AllStand, aligned_to, constants_end, end_after, put_constant, put_constant_at, put_constants, put_each, reserve_from, reserve_of, zeros}, specs.Finish.{Finishes, IsVia, padded_for}, specs.Growth.{Grows, Lasts, RecordsLast}}
pub use Rattle.mach_buffer.{specs.Islands.{AddsOwn, CanIsland, IsJumpOver, Islanded, aligned, first_of, is_far, island_end, island_veneers, needs_own, others_of, padded, padding}, specs.Pieces.{ByVeneer, UseFinished}}
pub use Rattle.{mach_buffer.{specs.Shape.{IsUsable, Shape, unplaced_of, veneer_use, with_allocated, with_bytes, with_record, with_use}, specs.Veneers.{put_all, put_at, put_veneer}, specs.Windows.{AllEnd, AreWindows}}, mach_labels.specs.Table.first_inner}
pub use Rattle.{mach_records.{specs.declared.records.ConstPlace.ConstPlace, specs.declared.records.Event.Event, specs.declared.records.Event.TheVariants.{Reloc, StackMap, TryCallSite}, specs.declared.records.MachRecord.MachRecord}, mach_uses.specs.Labels.{constant_label, inner_count}}
pub use Rattle.{mach_uses.{specs.Reach.{AllOf, CanReach, HasSlack, deadline, deadlines, is_needed, is_other, is_pending, is_reached}, specs.Windows.window, specs.declared.uses.Use.Use}, rv_base.{specs.Flags.no_flags, specs.Frame.sp_to_fp_of, specs.IrType.bits_of}}
pub use Rattle.rv_base.{specs.LabelUse.{Kinds, SameOutside, code_limit}, specs.Regs.{IsReal, number_of}, specs.declared.amode.AMode.AMode, specs.declared.amode.AMode.TheVariants.RegOffset, specs.declared.call.CallInfo.CallInfo, specs.declared.call.CallRetPair.CallRetPair}
pub use Rattle.rv_base.{specs.declared.call.RetLocation.RetLocation, specs.declared.call.TryCallInfo.TryCallInfo, specs.declared.call.UserStackMap.UserStackMap, specs.declared.constant.ConstAlign.ConstAlign, specs.declared.constant.ConstAlign.TheVariants.A1}
pub use Rattle.rv_base.{specs.declared.constant.Constant.Constant, specs.declared.constant.VCodeConstant.VCodeConstant, specs.declared.external_name.ExternalName.ExternalName, specs.declared.flags.IsaFlags.IsaFlags, specs.declared.frame.FrameLayout.FrameLayout, specs.declared.ir_type.IrType.IrType}
pub use Rattle.rv_base.{specs.declared.ir_type.IrType.TheVariants.{F16, F32, F64, I16, I32, I64, I8}, specs.declared.label.MachLabel.MachLabel, specs.declared.regs.PReg.PReg, specs.declared.regs.Reg.Reg, specs.declared.regs.Reg.TheVariants.{Real, Virtual}}
pub use Rattle.rv_base.{specs.declared.regs.RegClass.TheVariants.Int, specs.declared.regs.Writable.Writable, specs.declared.trap.TrapCode.TrapCode}
pub use Rattle.rv_code.proofs.LineOperands.{call_ind_kept, call_kept, ints_kept, jump_sum, kept, keeps_rules, load_addr_fine, load_fine, sequence_fine, store_fine, word_fine, tail_kept, tail_sum, target_fine}
pub use Rattle.rv_code.proofs.LineSlots.{HaveContents, IsPlain, IsSummed, access_short, address_contained, at_end, both, closed_even, from_start, load_addr_summed, load_contained, load_over_short, load_summed, marks_even, note_then, real_number, size_append, store_contained}
pub use Rattle.rv_code.proofs.LineSlots.{store_summed, unwind_summed}
pub use Rattle.rv_code.proofs.LongSlots.{number_few, AreShortLoads, count_splits, eight_short, even_plain, extend_even, extend_few, far_jumps_even, far_jumps_long, loads_counted, loads_most, number_even, results_short, return_most, return_short, returns_counted, saves_long}
pub use Rattle.rv_code.proofs.LongSlots.{saves_short, setup_few, setup_short, step_most, steps_counted, t0_contained, t0_contents, table_contained, table_short, tail_contained, tail_contents, unless_short}
pub use Rattle.rv_code.proofs.MadeOfPieces.{IsGiven, IsMadeOf, code_given, given_code, made_contained, mov_from_preg_made, mov_made, pieces_few, pieces_long, pieces_name, select_made, sequence_made, udf_made}
pub use Rattle.rv_code.proofs.Operands.{data_kept, keeps, listed, listed_targets, move_kept, preg_usable, call_usable, listed_try, select_fine, some_in_64, table_fine}
pub use Rattle.rv_code.{proofs.OperationActs.{HasSize, ebreak_sized, jalr_sized, jump_len, least_even, least_few, lui_sized, rri_sized, rrr_sized, window_long}, proofs.Registers.are_values_set, proofs.Steps.{istep_at, comes_both, comes_one, jump_leads, leads_both, leads_here}}
pub use Rattle.rv_code.{specs.Calls.{call_ind_pieces, call_pieces, call_size, map_notes, patch_notes, return_notes, try_pieces}, specs.Choices.extend_pieces, specs.Immediates.{lower_of, upper_of}}
pub use Rattle.rv_code.specs.InstParts.{access_slots, address_slots, after_call, branch_slots, call_ind_slots, call_parts, call_slots, call_to, far_step_slots, load_line_slots, loading_parts, number_slots, parts_of, return_size, return_slots, slots_alone, stack_load_slots}
pub use Rattle.rv_code.{specs.InstParts.{stack_step_slots, t0_slots, table_slots, tail_slots, try_slots, wide_jump_to}, specs.Operations.{decoded_jalr, decoded_jump, jump_word}}
pub use Rattle.rv_code.specs.Pieces.{AreAmong, Bind, Branch, Do, Go, GoNowhere, Jump, New, Piece, Trap, after, op_of, own_labels, piece_size, pieces_size, slots_for, slots_of, trap_bytes}
pub use Rattle.rv_code.specs.Sites.{AimsFrom, BytesAt, CodeHas, FillsFrom, GapIn, HasOps, IsPlacedAt, Leads, LeadsOn, LinksFrom, PartsStand, Reaches, Site, StandsIn, symbol_address}
pub use Rattle.rv_code.specs.Slots.{Address, AddressOf, Fixup, Allocate, AreClosed, AreSelfContained, Ask, CallTo, Data, RelocPair, Here, IsClosed, Label, Records, Op, Own, Part, PartsAreSelfContained, Slot, SlotOf, Slots, Symbol, Target, address_event, between, call_event}
pub use Rattle.rv_code.{specs.Slots.{here_at, label_of, lower_event, names_of, own_label, size_of, slot_size, upper_event}, specs.Tables.{bound_op, enter_ops, far_jump, jump_slots}, specs.Usable.{AreFineResults, AreListed, IsFineResult, IsListed}, specs.declared.state.EmitVState.EmitVState}
pub use Rattle.{rv_code.specs.declared.state.EmitVState.TheVariants.Unknown, rv_emit.{specs.Emission.{Emits, EmitsAnyhow, EmitsGiven, EmitsIn}, specs.EmitRuns.{EmitsRun, GapLeads, HasCode, IsBuilt, RunsBetween}, specs.StackMaps.{call_given, map_given, with_map}}}
pub use Rattle.{rv_emit.{specs.Standing.{GapStandsIn, IsFinishedTo, IslandIn, PartsIn, SlotsIn}, specs.State.{setting_after, setting_beyond}}, rv_encode.{proofs.Decoding.opcode_decodes, specs.Layouts.{IsIType, IsUType}, specs.Operations.{decoded, decoded_rri, decoded_rrr, has_load, has_store}}}
pub use Rattle.{rv_encode.specs.Registers.{IsIntRegister, IsRealRegister}, rv_inst.{proofs.Bridges.decode-patched_pair, proofs.Descriptions.is_unit, proofs.ResultLoads.no_extra, specs.Addresses.{AtLabel, Based, inline_size, is_near, is_splittable, location_of}, specs.Context.{Context, context_by}}}
pub use Rattle.rv_inst.{specs.Core.is_integer_family, specs.Descriptions.{UnitWord, trap_in}, specs.Forms.{IsOwnForm, jump_kind, jump_size, short_jalr, short_lui, short_rri}, specs.Frames.is_bad_frame_for, specs.Islands.{GoesOn, IsIsland, word_in}}
pub use Rattle.rv_inst.{specs.LabelUse.{Aims, backward_of, forward_of, has_veneer_of, label_kinds, marks_of, veneer_of}, specs.LabelUseBridges.{PairDecodes, with_immediate}, specs.LabelUseWords.{AreBytes, word_at, word_bytes}}
pub use Rattle.rv_inst.{specs.Limits.{call_limit, load_limit, sequence_limit, step_limit, store_limit, table_space}, specs.Operands.{family_of, Return, address_targets, inst_constant, inst_ways, named_by, return_of, table_of, tail_call_of, targets_of, try_call_of, ways_by, ways_of}}
pub use Rattle.rv_inst.{specs.Records.{access_records, patch_records, return_records, site_event}, specs.Returns.{StackLoad, frame_above, loads_unless, location_loads, restores, result_load, result_loads, saved_load, saves_from, setup_loads, typed_loads}}
pub use Rattle.rv_inst.{specs.Rules.{inst_rule, is_on_stack, is_stacked, is_word_type}, specs.SameValues.Same}
pub use Rattle.rv_inst.specs.Sizes.{AtMost, Exactly, IsOfSize, Request, Size, branch_size, call_end, call_request, fall, first_in, inst_code, inst_records, inst_size, inst_sum, line_size, line_space, most_bytes, most_of, move_size, request_of, results_space, space_in, trap_size}
pub use Rattle.rv_inst.{specs.Uses.{inst_reach, jump_reach, least_reach, target_reach, target_uses, use_at, uses_by, uses_in, uses_start}, specs.declared.inst.CondBrTarget.CondBrTarget, specs.declared.inst.CondBrTarget.TheVariants.Fallthrough, specs.declared.inst.Family.Family}
pub use Rattle.rv_inst.{specs.declared.inst.Family.TheVariants.Calls, specs.declared.inst.Inst.Inst}
pub use Rattle.rv_inst.specs.declared.label_use.LabelUse.{LabelUse}
pub use Rattle.{rv_inst.{specs.declared.label_use.LabelUse.TheVariants.{B12, Jal20, PCRel32, PCRelHi20, PCRelLo12I, RVCJump}, specs.declared.targets.Targets.Targets, specs.declared.targets.Targets.TheVariants.{Branches, Jumps, Nowhere, Refers, RefersConstant}}, rv_machine.proofs.Images.byte_stored}
pub use Rattle.rv_machine.{proofs.UnitOperations.{integer_decodes, is_integer}, specs.Arithmetic.low_word, specs.Decode.{decode, int_by_opcode, int_decode}, specs.Layout.{i_bits, i_layout, u_bits, word_funct3, word_opcode}, specs.Opcodes.{AUIPC, JALR}}
pub use Rattle.{rv_machine.{specs.State.{Memory, Values, at, byte, low64, reg, set_reg, signed, store, wrap}, specs.Steps.fetch, specs.declared.decoding.Decoded.Decoded, specs.declared.ops.MOp.TheVariants.Base}, rv_ops.specs.Memory.{load_of, load_size}}
pub use Rattle.rv_ops.{specs.declared.alu.AluOPRRI.TheVariants.{Addi, Slli}, specs.declared.alu.AluOPRRR.TheVariants.Add, specs.declared.compare.IntegerCompare.IntegerCompare, specs.declared.memory.LoadOP.LoadOP, specs.declared.memory.LoadOP.TheVariants.Ld, specs.declared.memory.StoreOP.StoreOP}
pub use Rattle.rv_runs.{proofs.CallRuns.inst_resumes, proofs.FullInstRuns.{resumes_fully, runs_fully}, proofs.InstRuns.inst_runs, proofs.OneOperations.reads_operation, proofs.UnitRuns.{parts_are, unit_operation}}
pub use Rattle.rv_sequences.{proofs.AddressCode.{far, load_line_named, longer, lower_is, named_put, near, store_line_named, upper_is}, proofs.BufferAfterSlots.{lasts_after_slots, puts_bytes, puts_constants, puts_named, puts_records, puts_uses, slot_bytes, slot_ends}, proofs.CodePut.int_class}
pub use Rattle.rv_sequences.{proofs.Encoded.{addi_patchable, load_patchable, low_funct3, lower_fresh, upper_fresh, upper_patchable, word_fits, word_there}, proofs.PlainSlots.{adds_alone, code_none, plain_keeps, plain_put, put_long, summed}, proofs.Sequences.{low_kept, named_kept, no_own}}
pub use Rattle.rv_sequences.{proofs.SlotsPut.{alone, alone_long, alone_sound, both_alone, none_put}, specs.Emitted.{Appends, AppendsCode, AppendsIsland, Buffer, CanEmit, HasReturn, HasWindows, IsBounded, IsFarUse, IsOwnUse, IsSoundBuffer, IslandAsked, IslandIfNeeded, filled_last, pending}}
pub use Rattle.rv_sequences.{specs.Images.{AllClear, EndsWithin, FieldsEnd, FieldsStand, IsClear, IsFilled, KeepsOutside}, specs.NewConstants.{AddsConstants, StandInTurn}, specs.Parts.{PutsAlone, PutsParts}, specs.Puts.{AllBytes, AsksNothing, Encodes, IsPatchable, Puts, PutsSlot, eight_zeros}}
pub use Rattle.std.proofs.Common.{Bool, FitsSigned, List, None, OnOk, Option, Result, Some, [], ap, append-nil, append_assoc, arith, cond, drop, false, inl, inr, length, lit<, lit≤, map, negsuc, pos, refl, rules, subst, suc, sym, take, true, zero, ℕ, ℤ, ⊎_elim, ◌%◌, ◌*ℤ◌}
pub use Rattle.std.{proofs.Common.{◌*◌, ◌++◌, ◌+ℤ◌, ◌+◌, ◌-◌, ◌/◌, ◌<◌, ◌^◌, ◌∙◌, ◌∷◌, ◌≡◌, ◌≢◌, ◌≤ℤ◌, ◌≤◌, ◌⊎◌}, proofs.Math.Seq.get_or-set_other, proofs.lemmas.Bool.{eqb-true, le-leb, ltb-true, ne_eqb, or_parts, true≢false}, proofs.lemmas.Bool.Decides.nat_tests, proofs.lemmas.Grind.get_or-set_at}
pub use Rattle.std.{proofs.lemmas.Int.{ints, to_z-of_z}, proofs.lemmas.List.{get_or-drop, get_or-take, length-append, length-drop, length-take, map-append, take_all, take_more}, proofs.lemmas.List.Recursion.is_count_by, proofs.lemmas.Option.same_Some, proofs.lemmas.Result.on_ok_weaker}
pub use Rattle.std.{specs.Int.{cast_signed, cast_unsigned, to_le_bytes, w32, w64}, specs.Option.option_map, specs.Prelude.{IsSome, count_by, get_or, if◌then◌else◌, is_none, is_some, nat_eq, nat_lt, not, slice_get, slice_index, slice_index_or, slice_set, ◌&&◌, ◌-ℤ◌, ◌==◌, ◌||◌}}
