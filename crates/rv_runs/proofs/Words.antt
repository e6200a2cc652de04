-- The words of definitions that most of these proofs speak of, and the lemmas of the crates below that they cite, passed on from one place.
pub use Rattle.{mach_records.specs.declared.records.Event.TheVariants.CallSite, rv_base.{specs.CondCodes.{complement_of, holds, signed64, signed_below}, specs.LabelUse.code_limit, specs.Regs.{class_of, number_of}, specs.declared.amode.AMode.AMode, specs.declared.call.TryCallInfo.TryCallInfo}}
pub use Rattle.rv_base.{specs.declared.call.UserStackMap.UserStackMap, specs.declared.condcodes.IntCC.IntCC, specs.declared.condcodes.IntCC.TheVariants.{Equal, NotEqual}, specs.declared.external_name.ExternalName.ExternalName, specs.declared.flags.IsaFlags.IsaFlags}
pub use Rattle.rv_base.{specs.declared.frame.FrameLayout.FrameLayout, specs.declared.ir_type.IrType.IrType, specs.declared.label.MachLabel.MachLabel, specs.declared.mem_flags.MemFlagsData.MemFlagsData, specs.declared.regs.Reg.Reg, specs.declared.regs.Reg.TheVariants.{Real, Virtual as AVirtual}}
pub use Rattle.rv_base.{specs.declared.regs.RegClass.RegClass, specs.declared.regs.RegClass.TheVariants.{Float, Int}, specs.declared.regs.Writable.Writable, specs.declared.trap.TrapCode.TrapCode}
pub use Rattle.rv_code.{proofs.Courses.{Comes, InCourse, IsUsableAt, address_sums, comes_here, comes_on, course_before, goes_ahead, set_at, set_twice, shorter, size_append, stands_split, writes}, proofs.LineOperands.{IsRestorable, is_restorable, t0_other, target_fine}}
pub use Rattle.rv_code.{proofs.MadeOfPieces.pieces_long, proofs.Memories.{load_fits, load_same, placed_after, put_same, put_values}, proofs.Operands.{Keeps, call_usable, keeps}}
pub use Rattle.rv_code.{proofs.OperationActs.{HasSize, IsIntegerLoad, IsIntegerStore, back_number, jalr_acts, jalr_sized, jump_acts, lui_sized, plus_none, set_own, small_number, window_some}, proofs.Reaching.number_comes}
pub use Rattle.rv_code.{proofs.Registers.{are_values_set, count_set, half_power, none_below, not_below, not_zero, reads_back, reads_other, reads_set, same_set, small_shift, spare_set, temporary_set}, proofs.StackLoads.AreStackLoads, proofs.StackRuns.{IsAs, step_comes}}
pub use Rattle.rv_code.{proofs.Steps.{at_next, code_after, comes_goes, decodes_at, goes_at_least, goes_first, goes_none, goes_second, led_on, step_at}, specs.Chains.{Goes, IsAt, IsBeside}, specs.Choices.{extend_pieces, move_action, move_pieces}}
pub use Rattle.rv_code.{specs.Evaluation.{AreShort, StandIn, and_then, evaluate, next, point, to}, specs.FullValues.{SameFull, chosen, put_all, put_in, value_in, value_of}, specs.Immediates.{lower_of, lower_of_distance, upper_of}}
pub use Rattle.rv_code.specs.InstParts.{access_slots, address_slots, call_parts, jump_to, label_base, load_line_slots, load_slots, number_slots, parts_of, return_slots, slots_alone, stack_load_slots, stack_step_slots, store_slots}
pub use Rattle.rv_code.{specs.InstRuns.{Arrives, ComesOut, Enters, Resumes, environment, least_steps}, specs.Operations.{decoded_addi, decoded_jalr, short_jump}, specs.Pieces.{AreInRange, Bind, Branch, Do, Piece, Action, Rri, Rrr, after, op_of, slots_of}}
pub use Rattle.rv_code.{specs.Sites.{AimsFrom, BytesAt, CodeHas, GapIn, IsPlacedAt, PartsStand, Site, StandsIn, symbol_address}, specs.Slots.{AddressOf, Ask, Label, Records, Op, Part, Slot, Slots, between, size_of}, specs.UnitRuns.{AreUsableIn, FullComesOut, IsUsableIn, RowAsks, RowGoes, RowsAgree}}
pub use Rattle.{rv_code.{specs.Usable.IsUsable, specs.declared.state.EmitVState.EmitVState}, rv_encode.{specs.Operations.{decoded, decoded_load, has_load, has_store, load_op}, specs.Registers.IsIntRegister}, rv_full.{proofs.LargerMachine.integer_run, proofs.Runs.{fiter_after, fiter_none}}}
pub use Rattle.rv_full.{specs.Floats.{boxed, extended, format_bytes, inputs_of, low_part, number_row}, specs.Rows.{Does, Row, put_f, put_units, row_takes}, specs.Steps.row_next, specs.UnitRows.unit_row}
pub use Rattle.{rv_full.{specs.Units.{AnswerFits, AreUnits, FullState, FullValues, IsFullState, Units, freg, full_at, put, set_freg, values_of}, specs.declared.answer.Answer.Answer, specs.declared.shapes.FloatShape.TheVariants.Sign}, rv_inst.{proofs.Descriptions.is_unit, proofs.PlainInsts.not_true}}
pub use Rattle.rv_inst.{proofs.Sequences.number_below, specs.Addresses.{AtLabel, Based, Location, is_near, location_of}, specs.Context.{Context, context_by}, specs.Core.{is_integer, is_integer_family, is_integer_in, restores_float}, specs.Forms.{short_jalr, short_lui, short_rri, short_rrr}}
pub use Rattle.rv_inst.{specs.Frames.is_bad_frame_for, specs.Meaning.{AreOutside, Environment, Exit, Leave, Next, To, address_at, addresses_from, alu_rri, alu_rrr, compares, fallen, frame_left, inst_effect, inst_exit, inst_writes, put_bytes, stack_loaded, try_exit}}
pub use Rattle.rv_inst.{specs.Operands.{family_of, Return, all_of, inst_temporaries, is_float, is_float_class, loads_float, operands_of, return_of, tail_call_of, try_call_of, written_in}, specs.Returns.{StackLoad, frame_above, restores}}
pub use Rattle.rv_inst.{specs.Rules.{inst_rule, is_int_class, is_reserved, is_virtual}, specs.SameValues.{Same, SameBut, is_among}, specs.Sizes.{is_byte, operation_of}, specs.declared.inst.Inst.Inst}
pub use Rattle.{rv_inst.{specs.declared.inst.Line.TheVariants.{Inst as Put}, specs.declared.inst.SelectInfo.SelectInfo, specs.declared.tail_calls.TailCall.TailCall}, rv_machine.{proofs.Ranges.alu_result_fits, proofs.UnitOperations.{integer_decodes, is_integer as is_integer_op}}}
pub use Rattle.rv_machine.{specs.Arithmetic.low_word, specs.Effects.{act, act_on}, specs.Memory.{load_bytes, load_result}, specs.State.{AreValues, IsState, Memory, State, Values, at, byte, low64, reg, set_reg, signed, wrap}, specs.Steps.fetch, specs.declared.decoding.Decoded.Decoded}
pub use Rattle.{rv_machine.{specs.declared.ops.FloatFormat.FloatFormat, specs.declared.ops.FloatFormat.TheVariants.{D, H, S}, specs.declared.ops.MOp.TheVariants.Base}, rv_ops.{specs.FloatFields.format_of, specs.Memory.{is_float_load, is_float_store, load_format, store_format}}}
pub use Rattle.rv_ops.{specs.Operations.rri_op, specs.declared.alu.AluOPRRI.AluOPRRI, specs.declared.alu.AluOPRRI.TheVariants.{Addi, Andi, Slli, Srli}, specs.declared.alu.AluOPRRR.TheVariants.{And, Or}, specs.declared.compare.IntegerCompare.IntegerCompare, specs.declared.memory.LoadOP.LoadOP}
pub use Rattle.{rv_ops.{specs.declared.memory.LoadOP.TheVariants.Ld, specs.declared.memory.StoreOP.StoreOP}, rv_runs.{specs.Entries.AtStart, specs.FloatAccesses.float_loaded, specs.FullEnds.{EndsAsMeant, FullEnds}}}
pub use Rattle.{rv_runs.{specs.FullMeaning.{FullMeaning, answers_of, inst_meaning, meaning_by, move_row, of_float_move, of_integers, operation_row}, specs.FullReturns.with_ints}, std.{proofs.lemmas.Bool.{and_parts, or_parts}, proofs.lemmas.Bool.Decides.nat_tests, proofs.lemmas.Int.ints}}
pub use Rattle.std.{proofs.lemmas.Nat.{and_comm, or_lt, pow_below, pow_pos}, proofs.lemmas.Nat.Bits.{and_pow, bit_at-lt}, proofs.lemmas.Option.same_Some, specs.Int.{bit_at, cast_signed, w32, w64}, specs.List.{AllByRecursion, list_any}}
