-- What the proofs of this crate cite of std, of the crates below and of its own definitions, in one place.
pub use Rattle.rv_code.{proofs.LineSlots.{access_is, far_load, far_store, slots_append}, specs.{Accesses.{access_pieces, address_pieces, boxing_pieces, half_load_pieces, half_store_pieces, load_pieces, store_pieces}, Pieces.{Load, Store}}}
pub use Rattle.mach_buffer.{proofs.Laws.{append_each, append_none, few_allocated, lasts_allocated, lasts_bytes, lasts_label, lasts_more, lasts_named, lasts_record, lasts_same, lasts_use}, specs.{Buffer.{allocated_of, bytes_of, named_of, place_of, shape_of}, Growth.Lasts, Shape.{IsUsable, Shape}}}
pub use Rattle.{mach_buffer.specs.{Shape.{with_bytes, with_named, with_record, with_use}, Windows.AllEnd}, mach_labels.specs.Table.{first_constant, first_inner}, mach_records.specs.declared.records.{Event.TheVariants.Trap, MachRecord.MachRecord}, mach_uses.specs.Labels.{constant_label, inner_count}}
pub use Rattle.{mach_uses.specs.declared.uses.Use.Use, rv_base.specs.{CondCodes.complement_of, Flags.no_flags, IrType.bits_of, LabelUse.{IsFresh, SameOutside}, Regs.{class_of, number_of}, declared.{constant.VCodeConstant.VCodeConstant, flags.IsaFlags.IsaFlags, ir_type.IrType.IrType}}}
pub use Rattle.{rv_base.specs.declared.{ir_type.IrType.TheVariants.{F16, F32, F64}, label.MachLabel.MachLabel, regs.{Reg.{Reg, TheVariants.{Real, Virtual}}, RegClass.{RegClass, TheVariants.{Float, Vector}}}, trap.TrapCode.TrapCode}, rv_code.proofs.LineSlots.{IsPlain, IsShort, IsSummed}}
pub use Rattle.rv_code.proofs.{LineSlots.{access_short, address_short, is_low, load_most, load_over_short, loaded, number_by, offset_short, own_word, real_number, slots_by, small_signed}, MadeOfPieces.{move_by, pieces_few, pieces_long}, OperationActs.{has_integer_load, short_load_either}}
pub use Rattle.rv_code.{proofs.OperationActs.short_store_either, specs.{Choices.{choice_pieces, move_action, move_pieces}, Sequences.zeros_pieces, Immediates.{lower_of, lower_of_distance, upper_of, upper_of_distance}, InstParts.{access_slots, address_slots, branch_to, half_load_slots}}}
pub use Rattle.rv_code.specs.InstParts.{half_store_slots, immediate_slots, jump_to, literal_of, literal_slots, load_over, labelled, load_line_slots, load_slots, lower_slots, moved_to_float, moved_to_integer, naming_slots, number_slots, offset_slots, slots_alone, store_line_slots, store_slots, trap_bytes, trap_slots}
pub use Rattle.rv_code.specs.{InstParts.wide_jump_to, Operations.{decoded_addi, decoded_jump, jump_size, jump_word, short_jump}, Pieces.{Action, Branch, Constant, Do, Piece, Rri, branches, immediate_pieces, number_pieces, pieces_most, slots_for, slots_of}, Probes.probe_pieces}
pub use Rattle.rv_code.specs.{Sites.BytesAt, Slots.{Address, Fixup, Allocate, CallTo, Data, RelocPair, Here, Label, Names, Records, Op, Slot, address_event, call_event, label_of, lower_event, names_of, own_label, records_of, size_of, slot_size, upper_event, uses_of}, Usable.IsMove}
pub use Rattle.{rv_compress.specs.{Encoded.{Holds, IsHalf, IsWord, WhereHalf}, declared.compressed.Encoded.{Encoded, TheVariants.{Half, Word}}}, rv_encode.{proofs.{Decoding.{branch_decodes, opcode_decodes}, MemoryDecoding.load_decodes}, specs.Layouts.{IsBType, IsIType, IsUType}}}
pub use Rattle.{rv_encode.specs.{Operations.{branch_op, decoded, decoded_branch, decoded_fpu_rrr, decoded_load, decoded_store, decoded_rri, decoded_rrr, has_load, has_store, load_of_format, load_op, store_of_format, store_op}, Registers.IsIntRegister}, rv_imms.specs.{Bits.IsSigned, Splitting.IsSplittable}}
pub use Rattle.{rv_imms.specs.Splitting.value_of, rv_inst.{proofs.Bridges.{decode-patched_branch, decode-patched_compressed_jump, decode-patched_jump, same_byte, same_low}, specs.{Addresses.{AtConstant, AtLabel, Based, Location, is_near}, Context.Context, Forms.{IsAddi16spFirst, IsOwnForm}}}}
pub use Rattle.rv_inst.specs.Forms.{addi_form, andi_form, chosen, either_form, form_ebreak, form_jalr, form_lui, form_rrr, form_where, is_addi, is_addi16sp, is_addi4spn, is_equal, is_li, is_move, is_scaled, is_short, is_six_bits, move_form, shift_amount, short_ebreak, short_jalr, short_load}
pub use Rattle.rv_inst.specs.{Forms.{short_lui, short_rri, short_rrr, short_store, sp, zca_rri, zca_rrr, zext_w_form}, Generators.canonical_type, LabelUse.{Aims, label_kinds, marks_of}, LabelUseBridges.with_immediate, LabelUseWords.{AreBytes, half_at, word_at, word_bytes}, Operands.all_of}
pub use Rattle.rv_inst.specs.{Operands.{inst_constant, named_by, table_of, written_in}, Rules.{is_float_type, is_movable}, SameValues.is_among, Sizes.{IsOfSize, inst_records, inst_size, move_op, request_of, right_shift, space_in}, Uses.{use_at, uses_in}, declared.inst.Inst.Inst}
pub use Rattle.{rv_inst.specs.declared.label_use.LabelUse.{LabelUse, TheVariants.{B12, Jal20, PCRelHi20, PCRelLo12I, RVCJump}}, rv_machine.{proofs.DecodeLaws.decode_low, specs.{Arithmetic.low_word, Compressed.{decode_half, half_funct3}, Decode.{decode, int_by_opcode}, Layout.bare_form}}}
pub use Rattle.rv_machine.specs.{Layout.{compressed, i_bits, i_layout, u_bits, word_funct3, word_opcode}, Opcodes.{AUIPC, BRANCH, JAL, OP_IMM}, State.{Memory, byte, low64, signed, wrap}, Steps.fetch, declared.{decoding.Decoded.Decoded, ops.AluOp.{AluOp, TheVariants.{Bit, Int, Mul}}}}
pub use Rattle.{rv_machine.specs.declared.ops.{BaseOp.{BaseOp, TheVariants.{Auipc, Ebreak, Jal, Jalr, Lui}}, FloatFormat.FloatFormat, IntOp.IntOp, LoadOp.LoadOp, MOp.{MOp, TheVariants.{Alu, Base}}, StoreOp.StoreOp}, rv_ops.specs.Compare.{branch_of, branch_word, funct3_of, is_reversed, rs1_of}}
pub use Rattle.rv_ops.specs.{Compare.rs2_of, FloatFields.{is_width, width_of}, Memory.{load_format, load_funct3, load_opcode, store_format}, declared.{alu.{AluOPRRI.{AluOPRRI, TheVariants.{Addi, Andi, Slli}}, AluOPRRR.{AluOPRRR, TheVariants.Sub}}, compare.BranchFunct3.BranchFunct3}}
pub use Rattle.rv_ops.specs.declared.{compare.{BranchFunct3.TheVariants.Eq, IntegerCompare.IntegerCompare}, float_fields.{FRM.TheVariants.RNE, FpuOPWidth.TheVariants.D}, fpu.FpuOPRRR.TheVariants.Fsgnj, memory.{LoadOP.{LoadOP, TheVariants.{Ld, Lh, Lw}}, StoreOP.{StoreOP, TheVariants.{Sb, Sh}}}}
pub use Rattle.rv_sequences.specs.{Code.{AreSound, IsBaseFor, IsLabelled, IsNext, code_most, most_of, pieces_of, shown}, Emitted.{Appends, AppendsCode, AppendsSequence, Buffer, HasReturn, IsFarUse, IsOwnUse, IsSoundBuffer}, Parts.{PutsAlone, PutsParts, PutsSlots}, Places.{IsFinePlace, location_at}}
pub use Rattle.{rv_sequences.specs.{Puts.{AllBytes, Encodes, IsPatchable, Puts, PutsSlot, eight_zeros}, declared.{code.{CodePiece.CodePiece, OwnLabels.OwnLabels}, memory.Place.{Place, TheVariants.AtLabel as PlaceLabel}}}, std.proofs.Common.{Bool, FitsSigned, List, None, OnOk, Option, Some, [], ap}}
pub use Rattle.std.proofs.Common.{append-nil, append_assoc, arith, bit_and, drop, drop-cons, eqb-true, false, get_or, inl, inr, length, lit<, map, nat_eq, negsuc, pos, refl, rules, slice_index, subst, suc, sym, true, zero, ℕ, ℤ, ⊎_elim, ◌*◌, ◌++◌, ◌+◌, ◌-◌, ◌/◌, ◌<◌, ◌==◌, ◌^◌, ◌∙◌, ◌∷◌, ◌≡◌, ◌≢◌}
pub use Rattle.std.proofs.{Common.{lit≤, ◌≤ℤ◌, ◌≤◌}, Math.ListN.drop_of_length-le, lemmas.{Bool.{and_parts, or_parts, true≢false, Decides.nat_tests}, Int.{ints, of_z-to_z, to_z-of_z}, List.{length-append, length-drop, take-append-drop}, Nat.{and_comm, and_mask, Bits.and_high}, Result.on_ok_weaker}}
pub use Rattle.std.specs.{Int.{cast_signed, cast_unsigned, to_le_bytes, w16, w32, w64}, Option.option_map, Prelude.{if◌then◌else◌, is_some, not, slice_get, unwrap_or, ◌%◌, ◌&&◌, ◌-ℤ◌, ◌⊎◌}}
