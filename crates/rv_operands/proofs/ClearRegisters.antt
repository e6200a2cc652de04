-- A test that fails of every register that is chosen fails of all registers of the instruction but those that it names by itself.
use Rattle.std.specs.Prelude.{◌++◌, ◌||◌, Bool, true, false, List, [], ◌∷◌, map, Option, None, Some}
use Rattle.std.proofs.Common.{◌≡◌, refl, ap, sym, ◌∙◌, subst}
use Rattle.std.specs.List.{list_any}
use Rattle.std.proofs.lemmas.List.{map-append}
use Rattle.rv_base.specs.declared.amode.AMode.{AMode}
use Rattle.rv_base.specs.declared.amode.AMode.TheVariants.{RegOffset, SPOffset, FPOffset, SlotOffset, IncomingArg, Const, Label}
use Rattle.rv_base.specs.declared.call.ArgPair.{ArgPair}
use Rattle.rv_base.specs.declared.call.RetPair.{RetPair}
use Rattle.rv_base.specs.declared.call.CallArgPair.{CallArgPair}
use Rattle.rv_base.specs.declared.call.CallRetPair.{CallRetPair}
use Rattle.rv_base.specs.declared.call.RetLocation.{RetLocation}
use Rattle.rv_base.specs.declared.call.RetLocation.TheVariants.{Reg as InReg, Stack as OnStack}
use Rattle.rv_base.specs.declared.constraint.Constraint.{Constraint}
use Rattle.rv_base.specs.declared.regs.Reg.{Reg}
use Rattle.rv_base.specs.declared.regs.Reg.TheVariants.{Real}
use Rattle.rv_base.specs.declared.regs.Writable.{Writable}
use Rattle.rv_base.specs.declared.value_regs.ValueRegs.{ValueRegs}
use Rattle.rv_base.specs.declared.value_regs.ValueRegs.TheVariants.{One, Two}
use Rattle.rv_base.specs.AMode.{registers_of}
use Rattle.rv_ops.specs.declared.compare.IntegerCompare.{IntegerCompare}
use Rattle.rv_inst.specs.declared.inst.Inst.{Inst}
use Rattle.rv_inst.specs.declared.inst.Inst.TheVariants.{Nop0, Nop4, EBreak, SequencePoint, Args, Rets, DummyUse, Unwind, EmitIsland, RawData, Lui, AluRRR, AluRRImm12, Mov, MovFromPReg, Select, Load, Store, LoadAddr, Ret, Jal, CondBr, BrTable, Udf, Jalr, Call, CallInd, ReturnCall, ReturnCallInd}
use Rattle.rv_inst.specs.Operands.{all_of, written_in, location_registers, arg_registers, ret_registers, use_registers, def_registers, inst_registers}
use Rattle.rv_inst.specs.Rules.{is_virtual, is_reserved}
use Rattle.rv_inst.specs.Descriptions.{Description, Word, Computes, Gives, all_in, description_of, registers_in, result_in, sources_in, third}
use Rattle.rv_inst.specs.Operands as described
use Rattle.rv_inst.specs.declared.sequence.Sequence.{Sequence}
use Rattle.rv_inst.specs.declared.units.PlacedReg.{PlacedReg}
use Rattle.rv_operands.specs.Operand.{Operand, reads, reads_at, scratches, writes, writes_at, writes_early, constraint_of}
use Rattle.rv_operands.specs.Operands.{address_operands, select_operands, arg_operand, ret_operand, use_operand, def_operand, located_operand, described_operands, result_operand, own_operands, scratch_operand, unit_operands, row_of, operands_of, constraints_of}
use Rattle.rv_operands.specs.Meeting.{chosen, IsPlaced, ArePlaced, AreUsable}
use Rattle.rv_operands.proofs.Keeping.{either, placed_before, results_placed}

-- the test fails of each
abbrev pub AreClear : (Reg → Bool) → List Reg → Type 0
AreClear test [] = Unit {0}
AreClear test (r ∷ rs) = (test r ≡ false) × AreClear test rs

pub virtual_clear : (rs : List Reg) → AreUsable rs → AreClear is_virtual rs
virtual_clear [] h = tt
virtual_clear (r ∷ rs) h = (h.0.real, virtual_clear rs h.1)

pub reserved_clear : (rs : List Reg) → AreUsable rs → AreClear is_reserved rs
reserved_clear [] h = tt
reserved_clear (r ∷ rs) h = (h.0.not_reserved, reserved_clear rs h.1)

none : (test : Reg → Bool) (rs : List Reg) → AreClear test rs → list_any test rs ≡ false
none test [] h = refl
none test (r ∷ rs) h = either h.0 (none test rs h.1)

neither : (a b : Bool) → (a || b) ≡ false → (a ≡ false) × (b ≡ false)
neither true b h = absurd (cc)
neither false b h = (refl, h)

none_of_both : (test : Reg → Bool) (rs others : List Reg) → list_any test rs ≡ false → list_any test others ≡ false → list_any test (rs ++ others) ≡ false
none_of_both test [] others h k = k
none_of_both test (r ∷ rs) others h k = let parts = neither (test r) (list_any test rs) h in either parts.0 (none_of_both test rs others parts.1 k)

clear_both : (test : Reg → Bool) (a b : List Operand) → AreClear test (chosen (a ++ b)) → AreClear test (chosen a) × AreClear test (chosen b)
clear_both test [] b h = (tt, h)
clear_both test (o ∷ a) b h = let rest = clear_both test a b h.1 in ((h.0, rest.0), rest.1)

-- ---- pairs, of which a fixed register is the chosen one

args_clear : (test : Reg → Bool) (all : List Constraint) (args : List ArgPair) → ArePlaced all (map constraint_of (map arg_operand args)) → AreClear test (chosen (map arg_operand args)) → list_any test (arg_registers args) ≡ false
args_clear test all [] placed c = refl
args_clear test all (p ∷ args) placed c = either c.0 (either (ap test (sym placed.0) ∙ c.0) (args_clear test all args placed.1 c.1))

rets_clear : (test : Reg → Bool) (all : List Constraint) (rets : List RetPair) → ArePlaced all (map constraint_of (map ret_operand rets)) → AreClear test (chosen (map ret_operand rets)) → list_any test (ret_registers rets) ≡ false
rets_clear test all [] placed c = refl
rets_clear test all (p ∷ rets) placed c = either c.0 (either (ap test (sym placed.0) ∙ c.0) (rets_clear test all rets placed.1 c.1))

uses_clear : (test : Reg → Bool) (all : List Constraint) (uses : List CallArgPair) → ArePlaced all (map constraint_of (map use_operand uses)) → AreClear test (chosen (map use_operand uses)) → list_any test (use_registers uses) ≡ false
uses_clear test all [] placed c = refl
uses_clear test all (p ∷ uses) placed c = either c.0 (either (ap test (sym placed.0) ∙ c.0) (uses_clear test all uses placed.1 c.1))

located_clear : (test : Reg → Bool) (all : List Constraint) (r : Reg) (location : RetLocation) (rest : List Reg) → IsPlaced all (constraint_of (located_operand r location)) → test (located_operand r location).register ≡ false → list_any test rest ≡ false → list_any test (r ∷ location_registers location ++ rest) ≡ false
located_clear test all r (InReg s) rest placed c others = either c (either (ap test (sym placed) ∙ c) others)
located_clear test all r (OnStack offset type) rest placed c others = either c others

defs_clear : (test : Reg → Bool) (all : List Constraint) (defs : List CallRetPair) → ArePlaced all (map constraint_of (map def_operand defs)) → AreClear test (chosen (map def_operand defs)) → list_any test (def_registers defs) ≡ false
defs_clear test all [] placed c = refl
defs_clear test all (d ∷ defs) placed c = located_clear test all d.vreg.reg d.location (def_registers defs) placed.0 c.0 (defs_clear test all defs placed.1 c.1)

call_clear : (test : Reg → Bool) (all : List Constraint) (uses : List CallArgPair) (defs : List CallRetPair) (after : List Constraint) → ArePlaced all (map constraint_of (map use_operand uses ++ map def_operand defs) ++ after) → AreClear test (chosen (map use_operand uses ++ map def_operand defs)) → list_any test (use_registers uses ++ def_registers defs) ≡ false
call_clear test all uses defs after placed c =
    let parts = clear_both test (map use_operand uses) (map def_operand defs) c in
    let requests = map constraint_of (map use_operand uses ++ map def_operand defs) in
    let used = placed_before all (map constraint_of (map use_operand uses)) (map constraint_of (map def_operand defs))
    (subst (ArePlaced all) (map-append constraint_of (map use_operand uses) (map def_operand defs)) (placed_before all requests after placed)) in
    none_of_both test (use_registers uses) (def_registers defs) (uses_clear test all uses used parts.0) (defs_clear test all defs (results_placed all uses defs after placed) parts.1)

-- ---- choices and addresses

select_clear : (test : Reg → Bool) (dst : ValueRegs (Writable Reg)) (k : IntegerCompare) (x y : ValueRegs Reg) → AreClear test (chosen (select_operands (record { dst = dst; condition = k; x = x; y = y }))) → AreClear test (written_in dst ++ k.rs1 ∷ k.rs2 ∷ all_of x ++ all_of y)
select_clear test (One w) c (One a) (One b) h = (h.1.1.1.1.0, (h.0, (h.1.0, (h.1.1.0, (h.1.1.1.0, tt)))))
select_clear test (One w) c (One a) (Two b b2) h = (h.1.1.1.1.1.0, (h.0, (h.1.0, (h.1.1.0, (h.1.1.1.0, (h.1.1.1.1.0, tt))))))
select_clear test (One w) c (Two a a2) (One b) h = (h.1.1.1.1.1.0, (h.0, (h.1.0, (h.1.1.0, (h.1.1.1.0, (h.1.1.1.1.0, tt))))))
select_clear test (One w) c (Two a a2) (Two b b2) h = (h.1.1.1.1.1.1.0, (h.0, (h.1.0, (h.1.1.0, (h.1.1.1.0, (h.1.1.1.1.0, (h.1.1.1.1.1.0, tt)))))))
select_clear test (Two v w) c (One a) (One b) h = (h.1.1.1.1.0, (h.1.1.1.1.1.0, (h.0, (h.1.0, (h.1.1.0, (h.1.1.1.0, tt))))))
select_clear test (Two v w) c (One a) (Two b b2) h = (h.1.1.1.1.1.0, (h.1.1.1.1.1.1.0, (h.0, (h.1.0, (h.1.1.0, (h.1.1.1.0, (h.1.1.1.1.0, tt)))))))
select_clear test (Two v w) c (Two a a2) (One b) h = (h.1.1.1.1.1.0, (h.1.1.1.1.1.1.0, (h.0, (h.1.0, (h.1.1.0, (h.1.1.1.0, (h.1.1.1.1.0, tt)))))))
select_clear test (Two v w) c (Two a a2) (Two b b2) h = (h.1.1.1.1.1.1.0, (h.1.1.1.1.1.1.1.0, (h.0, (h.1.0, (h.1.1.0, (h.1.1.1.0, (h.1.1.1.1.0, (h.1.1.1.1.1.0, tt))))))))

address_clear : (test : Reg → Bool) (mode : AMode) (o : Operand) → AreClear test (chosen (address_operands mode ++ o ∷ [])) → (test o.register ≡ false) × (list_any test (registers_of mode) ≡ false)
address_clear test (RegOffset r d) o c = (c.1.0, either c.0 refl)
address_clear test (SPOffset d) o c = (c.0, refl)
address_clear test (FPOffset d) o c = (c.0, refl)
address_clear test (SlotOffset d) o c = (c.0, refl)
address_clear test (IncomingArg d) o c = (c.0, refl)
address_clear test (Const k) o c = (c.0, refl)
address_clear test (Label l) o c = (c.0, refl)

and_address : (test : Reg → Bool) (mode : AMode) (o : Operand) → AreClear test (chosen (address_operands mode ++ o ∷ [])) → list_any test (o.register ∷ registers_of mode) ≡ false
and_address test mode o c = let parts = address_clear test mode o c in either parts.0 parts.1

-- ---- words of units, whose result is asked for last

sources_clear : (test : Reg → Bool) (sources : List PlacedReg) → AreClear test (chosen (map reads_at sources)) → list_any test (registers_in sources) ≡ false
sources_clear test [] c = refl
sources_clear test (p ∷ sources) c = either c.0 (sources_clear test sources c.1)

unit_clear : (test : Reg → Bool) (places : List PlacedReg) → AreClear test (chosen (unit_operands places)) → list_any test (registers_in places) ≡ false
unit_clear test [] c = refl
unit_clear test (result ∷ sources) c =
    let parts = clear_both test (map reads_at sources) (writes_at result ∷ []) c in
    either parts.1.0 (sources_clear test sources parts.0)

-- ---- sequences

third_clear : (test : Reg → Bool) (s : Sequence) (tmp3 : Option (Writable Reg)) → AreClear test (chosen (reads s.rs ∷ scratches s.tmp1 ∷ scratches s.tmp2 ∷ scratch_operand tmp3 ++ writes_early s.rd ∷ [])) → list_any test (s.rs ∷ s.tmp1.reg ∷ s.tmp2.reg ∷ third tmp3 ++ s.rd.reg ∷ []) ≡ false
third_clear test s None c = either c.0 (either c.1.0 (either c.1.1.0 (either c.1.1.1.0 refl)))
third_clear test s (Some w) c = either c.0 (either c.1.0 (either c.1.1.0 (either c.1.1.1.0 (either c.1.1.1.1.0 refl))))

-- ---- those whose description gives their registers

reads_clear : (test : Reg → Bool) (sources : List Reg) → AreClear test (chosen (map reads sources)) → list_any test sources ≡ false
reads_clear test [] c = refl
reads_clear test (r ∷ sources) c = either c.0 (reads_clear test sources c.1)

regs_clear : (test : Reg → Bool) (rd : Option (Writable Reg)) (sources : List Reg) → AreClear test (chosen (map reads sources ++ result_operand rd)) → list_any test (result_in rd ++ sources) ≡ false
regs_clear test None sources c = reads_clear test sources (clear_both test (map reads sources) [] c).0
regs_clear test (Some w) sources c = let parts = clear_both test (map reads sources) (writes w ∷ []) c in either parts.1.0 (reads_clear test sources parts.0)

scratch_clear : (test : Reg → Bool) (scratch : Option (Writable Reg)) (others : List Reg) → AreClear test (chosen (scratch_operand scratch)) → list_any test others ≡ false → list_any test (result_in scratch ++ others) ≡ false
scratch_clear test None others own clear = clear
scratch_clear test (Some w) others own clear = either own.0 clear

-- ---- each by its description

described_clear : (test : Reg → Bool) (d : Description) → AreClear test (chosen (described_operands d)) → AreClear test (chosen (own_operands d)) → list_any test (described.described_operands d).registers ≡ false
described_clear test (Word w) c own = unit_clear test w.places c
described_clear test (Computes s with) c own = third_clear test s s.tmp3 c
described_clear test (Gives g) c own = scratch_clear test g.facts.scratch (all_in g.facts.regs) own (regs_clear test g.facts.regs.rd (sources_in g.facts.regs) c)

-- ---- every kind

pub quiet : (test : Reg → Bool) (inst : Inst) → ArePlaced (constraints_of inst) (constraints_of inst) → AreClear test (chosen (operands_of inst)) → AreClear test (chosen (row_of inst).own) → list_any test (inst_registers inst) ≡ list_any test (row_of inst).named
quiet test Nop0 placed c own = refl
quiet test Nop4 placed c own = refl
quiet test EBreak placed c own = refl
quiet test SequencePoint placed c own = refl
quiet test (Args args) placed c own = args_clear test _ args (placed_before _ (map constraint_of (map arg_operand args)) [] placed) c
quiet test (Rets rets) placed c own = rets_clear test _ rets (placed_before _ (map constraint_of (map ret_operand rets)) [] placed) c
quiet test (DummyUse reg) placed c own = either c.0 refl
quiet test (Unwind inst) placed c own = refl
quiet test (EmitIsland needed_space) placed c own = refl
quiet test (RawData bytes) placed c own = refl
quiet test (Lui rd imm) placed c own = either c.0 refl
quiet test (AluRRR op rd rs1 rs2) placed c own = either c.1.1.0 (either c.0 (either c.1.0 refl))
quiet test (AluRRImm12 op rd rs imm) placed c own = either c.1.0 (either c.0 refl)
quiet test (Mov rd rm type) placed c own = either c.1.0 (either c.0 refl)
quiet test (MovFromPReg rd rm) placed c own = ap (λ b. b || (test (Real rm) || false)) c.0
quiet test (Select info) placed c own = none test (written_in info.dst ++ info.condition.rs1 ∷ info.condition.rs2 ∷ all_of info.x ++ all_of info.y) (select_clear test info.dst info.condition info.x info.y c)
quiet test (Load rd op flags from) placed c own = and_address test from _ c
quiet test (Store src op flags to) placed c own = and_address test to _ c
quiet test (LoadAddr rd mem) placed c own = and_address test mem _ c
quiet test Ret placed c own = refl
quiet test (Jal label) placed c own = refl
quiet test (CondBr taken not_taken kind) placed c own = either c.0 (either c.1.0 refl)
quiet test (BrTable index tmp1 tmp2 targets) placed c own = either c.0 (either c.1.0 (either c.1.1.0 refl))
quiet test (Udf code) placed c own = refl
quiet test (Jalr rd base offset) placed c own = either c.1.0 (either c.0 refl)
quiet test (Call info) placed c own = call_clear test _ info.uses info.defs _ placed c
quiet test (CallInd info) placed c own = either c.0 (call_clear test _ info.uses info.defs _ placed.1 c.1)
quiet test (ReturnCall info) placed c own = uses_clear test _ info.uses (placed_before _ (map constraint_of (map use_operand info.uses)) [] placed) c
quiet test (ReturnCallInd info) placed c own = either c.0 (uses_clear test _ info.uses (placed_before _ (map constraint_of (map use_operand info.uses)) [] placed.1) c.1)
quiet test inst placed c own = described_clear test (description_of inst refl) c own
