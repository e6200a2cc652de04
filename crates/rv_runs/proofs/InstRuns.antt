-- Every instruction of the integer core that breaks no rule runs as it means.
use Rattle.rv_ops.specs.Operations.{is_carry_line, is_carry_unary}
use Rattle.{rv_base.specs.IrType.bits_of, rv_code.{proofs.OperationActs.{short_ebreak_is, ebreak_sized}, proofs.LineOperands.{load_addr_kept, load_kept, store_kept}, specs.Evaluation.literal_value, specs.InstParts.{literal_of, trap_slots}, specs.InstRuns.{environment, RunsIn}}}
use Rattle.rv_code.{specs.Pieces.{NameAddress, OfLabel, OfSymbol, Word32, Word64}, specs.Slots.{AddressOf, SlotOf}, proofs.Operands.{all_integers, not_false, are_usable, is_count, is_scratch, is_reversal, is_table, move_usable, not_zero, or_left, preg_usable, reversal_of, some_in_64}, proofs.Registers.count_of}
use Rattle.rv_inst.{specs.Descriptions.{counts, sequence_registers}, specs.Meaning.{Environment, constant_of}, specs.declared.sequence.Computation.TheVariants.{Ones, Zeros}, specs.Forms.short_ebreak, specs.Rules.is_zero}
use Rattle.rv_inst.specs.declared.inst.Inst.TheVariants.{Args, AtomicLoad, AtomicStore, Fence, BrTable, Brev8, Cltz, DummyUse, EmitIsland, Jal, LabelAddress, LoadExtNameNear, Popcnt, RawData, Rets, SequencePoint, StackProbeLoop, TrapIf, Udf, Unwind, AluRRImm12, AluRRR, Auipc, Call, CallInd, CondBr, EBreak, Extend, Jalr, Load, LoadAddr, LoadExtNameFar}
use Rattle.{rv_inst.specs.declared.inst.Inst.TheVariants.{LoadExtNameGot, LoadInlineConst, Lui, Mov, MovFromPReg, Nop0, Nop4, Ret, ReturnCall, ReturnCallInd, Select, Store}, rv_machine.specs.Arithmetic.extend_word, rv_inst.specs.Classes.is_int_type, rv_runs.{proofs.FenceRuns.{atomic_load_out, atomic_store_out, fence_out}, proofs.ProbeRuns.probe_out, proofs.ReverseRuns.reverse_out}}
use Rattle.rv_runs.{proofs.SelectRuns.{extend_out, select_runs}, proofs.TableRuns.table_out, proofs.CallRuns.{call_ind_out, call_out, return_call_ind_runs, return_call_runs}}
use Rattle.rv_runs.proofs.Words.{ComesOut, IrType, Next, set_reg, wrap, EmitVState, FrameLayout, GapIn, Inst, Keeps, Label, Op, Site, State, Values, and_parts, call_usable, compares, decoded_addi, goes_none, inst_rule, is_bad_frame_for, is_float_load, is_float_store, is_integer, is_integer_in, jump_to}
use Rattle.rv_runs.{proofs.Words.{keeps, location_of, low_word, not_true, number_of, reg, restores, restores_float, signed, tail_call_of, target_fine, to, window_some}, proofs.CountRuns.{popcnt_out, zeros_out}, proofs.Exits.{RunsHere, break_out, comes_out, gap_out, starts_at, starts_beside, trap_out, trap_some}}
use Rattle.rv_runs.{proofs.MemoryRuns.{address_out, load_runs, store_runs}, proofs.PlainRuns.{alu_rri_runs, alu_rrr_runs, auipc_runs, cond_br_runs, distant_out, jalr_runs, literal_out, jump_out, lui_runs, mov_runs, move_out, next_out, nothing_out, ret_runs, trap_if_out}}
use Rattle.std.proofs.Common.{None, [], arith, false, if◌then◌else◌, lit<, nat_eq, not, pos, refl, subst, true, ℕ, ◌==◌, ◌∷◌, ◌≡◌}

-- a tail call of the integer core restores no floating-point register
none_restored : (frame : FrameLayout) (inst : Inst) → is_integer_in frame inst ≡ true → restores_float frame (tail_call_of inst) ≡ false
none_restored frame inst core = not_true _ (and_parts (not (restores_float frame (tail_call_of inst))) (is_integer inst) core).0

-- a constant of a type is its literal
literal_is : (env : Environment) (type : IrType) (imm : ℕ) → literal_value env (literal_of type imm) ≡ constant_of type imm
literal_is env type imm = elim (bits_of type == 32) as (λ c. literal_value env (if c then Word32 imm else Word64 imm) ≡ (if c then extend_word imm else wrap imm)) [ true ↦ refl | false ↦ refl ]

module _ (site : Site) (setting : EmitVState) (start after : ℕ) (s : State) (v : Values) where
  -- by its family's proof, which gets what the rules say of its operands
  kept_out : (inst : Inst) → is_integer_in site.context.frame inst ≡ true → Keeps inst → is_bad_frame_for site.context.frame (tail_call_of inst) ≡ false → RunsHere site setting inst start after s v
  kept_out Nop0 core k r e clear = nothing_out e.stands e
  kept_out Nop4 core k r e clear = next_out (decoded_addi 0 0 (pos 0)) 0 0 e (lit< tt) refl (lit< tt) (lit< tt)
  kept_out EBreak core k r e clear = break_out (short_ebreak site.context.flags) (short_ebreak_is site.context.flags) (starts_at (Op (short_ebreak site.context.flags) ∷ []) e) (let some = (ebreak_sized site.context.flags).some in omega arith) e.stands.1.0 (starts_beside [] e)
  kept_out SequencePoint core k r e clear = nothing_out e.stands e
  kept_out (Args args) core k r e clear = nothing_out e.stands e
  kept_out (Rets rets) core k r e clear = nothing_out e.stands e
  kept_out (DummyUse reg) core k r e clear = nothing_out e.stands e
  kept_out (EmitIsland needed_space) core k r e clear = gap_out start (subst (GapIn site start) e.stands.2 e.stands.1) e.pc (starts_beside [] e)
  kept_out (RawData bytes) core k r e clear = comes_out s (goes_none site.context.flags s) e.pc (starts_beside [] e)
  kept_out (Lui rd imm) core k r e clear = lui_runs site setting start after s v rd imm (are_usable (rd.reg ∷ []) k.real k.placed k.free).0 e clear
  kept_out (Auipc rd imm) core k r e clear = auipc_runs site setting start after s v rd imm (are_usable (rd.reg ∷ []) k.real k.placed k.free).0 e clear
  kept_out (LoadInlineConst rd type imm) core k r e clear = let h = (are_usable (rd.reg ∷ []) k.real k.placed k.free).0 in subst (λ x. ComesOut site start after Next [] (set_reg v (number_of rd.reg) x) s) (literal_is (environment site start after) type imm) (literal_out (number_of rd.reg) (literal_of type imm) h.1 (not_zero rd.reg h (or_left (is_zero rd.reg) false k.counted)) e)
  kept_out (AluRRR op rd rs1 rs2) core k r e clear = let all = are_usable (rd.reg ∷ rs1 ∷ rs2 ∷ []) k.real k.placed k.free in alu_rrr_runs site setting start after s v op rd rs1 rs2 (not_true (is_carry_line op (number_of rs2)) core) all.0 all.1.0 all.1.1.0 e clear
  kept_out (AluRRImm12 op rd rs imm) core k r e clear = let all = are_usable (rd.reg ∷ rs ∷ []) k.real k.placed k.free in alu_rri_runs site setting start after s v op rd rs imm (not_true (is_carry_unary op) core) all.0 all.1.0 k.ranged e clear
  kept_out (Mov rd rm type) core k r e clear = let both = move_usable rd rm type core k in mov_runs site setting start after s v rd rm type both.0 both.1 e clear
  kept_out (MovFromPReg rd rm) core k r e clear = let both = preg_usable rd rm k in move_out (nat_eq (number_of rd.reg) rm.number) (number_of rd.reg) rm.number refl both.0.1 both.1.1 e
  kept_out (Extend rd rn signed from_bits to_bits) core k r e clear = let all = are_usable (rd.reg ∷ rn ∷ []) k.real k.placed k.free in let bits = some_in_64 from_bits k.ranged in extend_out (number_of rd.reg) (number_of rn) from_bits signed all.0.1 all.1.0.1 bits.0 bits.1 e
  kept_out (Select info) core k r e clear = select_runs site setting start after s v info (all_integers info core k) k e clear
  kept_out (Load rd op flags from) core k r e clear = let integer = not_true (is_float_load op) core in let a = load_kept site.context.frame rd op flags from integer k in load_runs site setting start after s v rd op flags from integer a.usable a.based a.real e clear
  kept_out (Store src op flags to) core k r e clear = let integer = not_true (is_float_store op) core in let a = store_kept site.context.frame to op flags src integer k in store_runs site setting start after s v to op flags src integer a.0 a.1 e clear
  kept_out (LoadAddr rd mem) core k r e clear = let a = load_addr_kept site.context.frame rd mem k in address_out (number_of rd.reg) (location_of site.context.frame mem) a.usable.1 a.real a.based a.apart e
  kept_out (LabelAddress dst label) core k r e clear = let h = (are_usable (dst.reg ∷ []) k.real k.placed k.free).0 in distant_out (number_of dst.reg) (OfLabel label) h.1 (not_zero dst.reg h (or_left (is_zero dst.reg) false k.counted)) e
  kept_out Ret core k r e clear = ret_runs site setting start after s v e clear
  kept_out (TrapIf cmp code) core k r e clear = let all = are_usable (cmp.rs1 ∷ cmp.rs2 ∷ []) k.real k.placed k.free in trap_if_out cmp code (compares cmp v) refl all.0 all.1.0 e
  kept_out (Jal label) core k r e clear = jump_out label (starts_at (jump_to site.context.flags (Label label) ∷ []) e) (let some = window_some site.context.flags in omega arith) e.stands.1.0 (starts_beside [] e)
  kept_out (CondBr t f kind) core k r e clear = let all = are_usable (kind.rs1 ∷ kind.rs2 ∷ []) k.real k.placed k.free in cond_br_runs site setting start after s v kind t f all.0 all.1.0 k.aimed e clear
  kept_out (BrTable index tmp1 tmp2 (default ∷ labels)) core k r e clear = table_out _ (number_of index) (number_of tmp1.reg) (number_of tmp2.reg) default labels (is_table index tmp1 tmp2 (default ∷ labels) k) e
  kept_out (Udf code) core k r e clear = let some = trap_some site.context.flags in trap_out code (starts_at (trap_slots site.context.flags code) e) (omega arith) e.stands.1.0 (e.stands.1.1.0 s.values.mem e.placed) (omega arith) (let ends = e.stands.2 in omega arith) (starts_beside [] e)
  kept_out (Jalr rd base offset) core k r e clear = let all = are_usable (rd.reg ∷ base ∷ []) k.real k.placed k.free in jalr_runs site setting start after s v rd base offset all.0 all.1.0 e clear
  kept_out (Popcnt info) core k r e clear = popcnt_out (count_of info.sum info.tmp info.step info.rs info.ty) (is_count info Ones (are_usable (sequence_registers (counts Ones info)) k.real k.placed k.free) k.counted k.apart k.typed) e
  kept_out (Cltz leading info) core k r e clear = zeros_out leading (count_of info.sum info.tmp info.step info.rs info.ty) (is_count info (Zeros leading) (are_usable (sequence_registers (counts (Zeros leading) info)) k.real k.placed k.free) k.counted k.apart k.typed) e
  kept_out (Brev8 info) core k r e clear = reverse_out (reversal_of info) (is_reversal info k) e
  kept_out (StackProbeLoop guard_size probe_count tmp) core k r e clear = probe_out (number_of tmp.reg) (low_word guard_size) (low_word probe_count) (is_scratch tmp _ k.real k.placed k.free k.counted k.apart) (omega arith) (omega arith) e clear
  kept_out (LoadExtNameGot rd name) core k r e clear = let h = (are_usable (rd.reg ∷ []) k.real k.placed k.free).0 in distant_out (number_of rd.reg) (OfSymbol (SlotOf name)) h.1 (not_zero rd.reg h (or_left (is_zero rd.reg) false k.counted)) e
  kept_out (LoadExtNameNear rd name offset) core k r e clear = let h = (are_usable (rd.reg ∷ []) k.real k.placed k.free).0 in distant_out (number_of rd.reg) (OfSymbol (AddressOf name offset)) h.1 (not_zero rd.reg h (or_left (is_zero rd.reg) false k.counted)) e
  kept_out (LoadExtNameFar rd name offset) core k r e clear = let h = (are_usable (rd.reg ∷ []) k.real k.placed k.free).0 in literal_out (number_of rd.reg) (NameAddress name offset) h.1 (not_zero rd.reg h (or_left (is_zero rd.reg) false k.counted)) e
  kept_out (Call info) core k r e clear = call_out info e
  kept_out (CallInd info) core k r e clear = call_ind_out info (call_usable info k).1 e
  kept_out (ReturnCall info) core k r e clear = return_call_runs site setting start after s v info (none_restored site.context.frame (ReturnCall info) core) r e clear
  kept_out (ReturnCallInd info) core k r e clear = return_call_ind_runs site setting start after s v info (target_fine info k).1 (none_restored site.context.frame (ReturnCallInd info) core) r e clear
  kept_out (Unwind inst) core k r e clear = nothing_out (let ends = e.stands.2 in omega arith) e
  kept_out (Fence pred succ) core k r e clear = fence_out pred succ e
  kept_out (AtomicLoad rd type p) core k r e clear = let all = are_usable (rd.reg ∷ p ∷ []) k.real k.placed k.free in atomic_load_out type (number_of rd.reg) (number_of p) (not_false (is_int_type type) k.typed) all.0.1 all.1.0.1 e
  kept_out (AtomicStore src type p) core k r e clear = let all = are_usable (src ∷ p ∷ []) k.real k.placed k.free in atomic_store_out type (number_of src) (number_of p) (not_false (is_int_type type) k.typed) all.0.1 all.1.0.1 e clear
  kept_out inst core k r e clear = absurd (cc)

-- where a frame that it takes away can be restored
pub inst_runs : (site : Site) (setting : EmitVState) (inst : Inst) → is_integer_in site.context.frame inst ≡ true → inst_rule site.context inst ≡ None → is_bad_frame_for site.context.frame (tail_call_of inst) ≡ false → RunsIn site setting inst
inst_runs site setting inst core rule restores = record { run = λ start after s v e clear. kept_out site setting start after s v inst core (keeps site.context inst rule) restores e clear }
