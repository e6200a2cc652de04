-- The words of definitions that several of these proofs speak of, and the lemmas of the crates below that they cite, passed on from one place.
pub use Rattle.{mach_records.specs.declared.records.MachRecord.MachRecord, mach_uses.specs.Labels.{constant_label, name_more}, rv_base.{specs.CondCodes.{complement_of, holds, signed64, signed_below}, specs.Frame.{sp_to_args_end, sp_to_fp_of}, specs.IrType.bits_of}}
pub use Rattle.rv_base.{specs.Regs.{IsReal, class_of, number_of}, specs.declared.amode.AMode.AMode, specs.declared.amode.AMode.TheVariants.{Const, RegOffset}, specs.declared.call.CallInfo.CallInfo, specs.declared.call.CallRetPair.CallRetPair, specs.declared.call.RetLocation.RetLocation}
pub use Rattle.rv_base.{specs.declared.call.RetLocation.TheVariants.{Reg as InReg, Stack as OnStack}, specs.declared.call.TryCallInfo.TryCallInfo, specs.declared.condcodes.IntCC.IntCC, specs.declared.condcodes.IntCC.TheVariants.Equal, specs.declared.constant.VCodeConstant.VCodeConstant}
pub use Rattle.rv_base.{specs.declared.external_name.ExternalName.ExternalName, specs.declared.flags.IsaFlags.IsaFlags, specs.declared.frame.FrameLayout.FrameLayout, specs.declared.ir_type.IrType.IrType, specs.declared.ir_type.IrType.TheVariants.{I64, I8}, specs.declared.label.MachLabel.MachLabel}
pub use Rattle.rv_base.{specs.declared.mem_flags.MemFlagsData.MemFlagsData, specs.declared.regs.PReg.PReg, specs.declared.regs.Reg.Reg, specs.declared.regs.Reg.TheVariants.{Real, Virtual, Virtual as AVirtual}, specs.declared.regs.RegClass.RegClass}
pub use Rattle.{rv_base.{specs.declared.regs.RegClass.TheVariants.{Float, Int, Vector}, specs.declared.regs.Writable.Writable, specs.declared.trap.TrapCode.TrapCode}, rv_code.specs.Chains.{Goes, IsAt}}
pub use Rattle.rv_code.{specs.Choices.{choice_pieces, extend_pieces, move_action, move_pieces, moves_then, same_numbers, select_pieces}, specs.Immediates.{lower_of, lower_of_distance, upper_of, upper_of_distance}}
pub use Rattle.rv_code.specs.InstParts.{access_slots, label_load_slots, address_slots, label_slots, literal_of, boxing_slots, call_to, far_step_slots, half_load_slots, half_store_slots, immediate_slots, load_line_slots, load_over, load_slots, moved_to_float, moved_to_integer}
pub use Rattle.rv_code.{specs.InstParts.{number_slots, offset_slots, return_size, return_slots, stack_load_slots, stack_step_slots, store_line_slots, store_slots, t0_slots, table_slots, tail_slots}, specs.Operations.{decoded_addi, decoded_jump, jump_size, short_jump}}
pub use Rattle.rv_code.specs.Pieces.{Action, AreAmong, AreClosedPieces, AreInRange, Bind, Branch, Constant, Copy, Distant, Do, GoNowhere, IsBoundIn, IsInRange, Jump, Literal, NameAddress, New, OfLabel, OfSymbol, Piece, Rri, Rrr, Take, Trap, Word32, Word64, immediate_pieces}
pub use Rattle.rv_code.specs.Pieces.{number_pieces, offset_pieces, after, distant_slots, literal_load, literal_size, literal_slot, literal_slots, lower_word, slots_for, symbol_slots, upper_word, branches, op_of, own_labels, piece_most, piece_size, pieces_most, pieces_size}
pub use Rattle.rv_code.{specs.Pieces.{slots_of, trap_bytes}, specs.Sites.{AimsFrom, BytesAt, CodeHas, ComesTo, HasOps, IsPlacedAt, LeadsOn, Site, StandsIn}}
pub use Rattle.rv_code.specs.Slots.{AddressOf, Fixup, SlotOf, Symbol, Allocate, AreClosed, AreSelfContained, Data, Here, IsBoundNear, Label, Names, Records, Op, Own, Slot, address_event, between, call_event, here_at, label_of, names_of, own_label, records_of, size_of}
pub use Rattle.rv_code.{specs.Slots.{slot_size, uses_of}, specs.Usable.{AreFineResults, AreListed, AreMoves, IsFineAddress, IsFineChoice, IsFineResult, IsFineTarget, IsFineTry, IsListed, IsMove, IsUsable}}
pub use Rattle.{rv_encode.{specs.Operations.{decoded, decoded_branch, decoded_load, decoded_rri, decoded_rrr, decoded_store, has_load, has_numbers, has_store, load_op, load_row, store_op, store_row}, specs.Registers.{IsIntRegister, IsRealRegister}}, rv_inst.proofs.Rules.breaks_none}
pub use Rattle.rv_inst.{specs.Addresses.{AtConstant, AtLabel, Based, Location, inline_size, is_distant, is_near, is_splittable, load_own_size, location_of, store_own_size}, specs.Bits.{leading_zeros, reversed_bits, reversed_bytes, trailing_zeros, zeros}, specs.Context.Context}
pub use Rattle.rv_inst.{specs.Descriptions.{AreOfClass, AreReal, IsFineUnit, UnitWord, registers_in}, specs.Faults.{has_bad_rounding, has_bad_size, has_bad_type, has_bad_width, has_clash, has_empty_table, has_zero, is_misplaced, is_out_of_range, lacks_constant, lacks_target}}
pub use Rattle.rv_inst.specs.Forms.{chosen, either_form, first_form, form_ebreak, form_jalr, form_load, form_lui, form_rri, form_rrr, form_store, form_where, is_addi, is_addi16sp, is_addi4spn, is_either, is_equal, is_li, is_move, is_short, is_six_bits, jump_kind}
pub use Rattle.rv_inst.{specs.Forms.{other_source, ra, shift_amount, short_ebreak, short_jalr, short_load, short_lui, short_rri, short_rrr, short_store, sp, zca_load, zca_rri, zca_rrr, zca_store, zext_w_form}, specs.Generators.canonical_type}
pub use Rattle.rv_inst.{specs.LabelUse.{backward_of, forward_of, low32, lower_part, marks_of, upper_part}, specs.Meaning.{AreOutside, Environment, address_at, addresses_from, alu_rri, alu_rrr, loaded, put_bytes, stack_loaded}}
pub use Rattle.rv_inst.specs.Operands.{address_targets, all_of, constant_named, def_registers, inst_constant, inst_registers, is_float, is_float_class, labels_of, loads_float, location_registers, named_by, table_of, tail_call_of, target_labels, targets_of, try_call_of}
pub use Rattle.rv_inst.{specs.Operands.{try_labels, use_registers, written_in}, specs.Returns.{StackLoad, frame_above, loads_unless, location_loads, restores, result_load, result_loads, saved_load, saves_from, setup_loads, typed_loads}}
pub use Rattle.rv_inst.specs.Rules.{clash, differ_at_places, differ_in_class, either_into, exceeds_arguments, inst_rule, is_base, is_beyond, is_buffer_label, is_fifth, is_high, is_high_at, is_int_class, is_int_type, is_into_stack, is_loaded_from, is_movable, is_not_of}
pub use Rattle.rv_inst.specs.Rules.{is_on_stack, is_one_of, is_other_class, is_out_of_place, is_real_x, is_reserved, is_shorter, is_stack, is_stack_or_frame, is_uneven, is_unloadable, is_vector, is_vector_class, is_virtual, is_word_type, is_zero, lacks_named}
pub use Rattle.rv_inst.{specs.Rules.{location_differs, results_clash, same_class, same_register, values_differ}, specs.SameValues.{Same, SameBut, is_among}}
pub use Rattle.rv_inst.{specs.Sizes.{AtMost, Exactly, IsOfSize, bit_shift, inst_records, inst_size, inst_sum, is_byte, line_size, move_op, move_size, request_of, right_shift, trap_size}, specs.Uses.{target_uses, use_at, uses_in, uses_start}, specs.declared.inst.Inst.Inst}
pub use Rattle.{rv_inst.{specs.declared.inst.SelectInfo.SelectInfo, specs.declared.label_use.LabelUse.LabelUse, specs.declared.label_use.LabelUse.TheVariants.{B12, Jal20, PCRelHi20, PCRelLo12I, RVCJump}}, rv_machine.{proofs.Ranges.alu_result_fits, specs.Arithmetic.{extend_word, low_word}}}
pub use Rattle.rv_machine.{specs.Effects.{act, act_on, alu_result}, specs.Memory.{load_bytes, load_result, store_bytes}, specs.State.{AreValues, IsState, Memory, State, Values, at, byte, low64, reg, reg_of, set_reg, set_reg_of, signed, store, wrap}, specs.Steps.{fetch, istep, step_on, then_step}}
pub use Rattle.rv_machine.{specs.declared.decoding.Decoded.Decoded, specs.declared.ops.FloatFormat.FloatFormat, specs.declared.ops.MOp.TheVariants.{Alu, Base, FloatLoad, FloatStore}}
pub use Rattle.rv_ops.{specs.Memory.{is_float_load, is_float_store, load_class, load_format, load_size, store_class, store_format, store_size}, specs.Operations.{Amount, Whole, Without, immediate_of, is_exchanged, kept_bits, rri_op, rrr_op, shift_limit}, specs.declared.alu.AluOPRRI.AluOPRRI}
pub use Rattle.rv_ops.{specs.declared.alu.AluOPRRI.TheVariants.{Addi, Andi, Slli, Srli}, specs.declared.alu.AluOPRRR.AluOPRRR, specs.declared.alu.AluOPRRR.TheVariants.{Add, Or, Sub}, specs.declared.compare.IntegerCompare.IntegerCompare, specs.declared.memory.LoadOP.LoadOP}
pub use Rattle.{rv_ops.{specs.declared.memory.LoadOP.TheVariants.{Ld, Lh}, specs.declared.memory.StoreOP.StoreOP, specs.declared.memory.StoreOP.TheVariants.{Sb, Sh}}, std.proofs.Math.Nat.{add_comm, div-div-eq-div-mul, mul_comm, pow-suc}}
pub use Rattle.std.{proofs.lemmas.Bool.{and_parts, cases_eq, cases_lt, eqb-false, leb-false, leb-true, lt-ltb, ltb-false, or_cases, or_parts}, proofs.lemmas.Bool.Decides.nat_tests, proofs.lemmas.Int.ints, proofs.lemmas.List.{append-nil, length-append, set-get_or}}
pub use Rattle.std.{proofs.lemmas.Nat.{and_comm, or_comm, pow-add, pow_below, shr-shr, xor_comm}, proofs.lemmas.Option.{same_Some, slice_get_within}, specs.Int.{bit_at, cast_signed, to_le_bytes, w64}, specs.Int.Bits.{or_add_and, or_zero_r}, specs.List.{AllByRecursion, list_any}}
