-- The temporaries of an instruction are operands that are scratched, or its own.
use Rattle.std.specs.Prelude.{◌++◌, List, [], ◌∷◌, map}
use Rattle.std.proofs.Common.{◌≡◌, refl, ap, sym, ◌∙◌}
use Rattle.std.proofs.lemmas.Grind.{flat_map-append}
use Rattle.rv_base.specs.declared.amode.AMode.{AMode}
use Rattle.rv_base.specs.declared.amode.AMode.TheVariants.{RegOffset, SPOffset, FPOffset, SlotOffset, IncomingArg, Const, Label}
use Rattle.rv_base.specs.declared.call.CallArgPair.{CallArgPair}
use Rattle.rv_base.specs.declared.call.CallRetPair.{CallRetPair}
use Rattle.rv_base.specs.declared.call.RetLocation.{RetLocation}
use Rattle.rv_base.specs.declared.call.RetLocation.TheVariants.{Reg as InReg, Stack as OnStack}
use Rattle.rv_base.specs.declared.regs.Reg.{Reg}
use Rattle.rv_base.specs.declared.regs.Writable.{Writable}
use Rattle.rv_base.specs.declared.value_regs.ValueRegs.{ValueRegs}
use Rattle.rv_base.specs.declared.value_regs.ValueRegs.TheVariants.{One, Two}
use Rattle.rv_base.specs.Regs.{number_of}
use Rattle.rv_inst.specs.declared.inst.Inst.{Inst}
use Rattle.rv_inst.specs.declared.inst.Inst.TheVariants.{Nop0, Nop4, EBreak, SequencePoint, Args, Rets, DummyUse, Unwind, EmitIsland, RawData, Lui, AluRRR, AluRRImm12, Mov, MovFromPReg, Select, Load, Store, LoadAddr, Ret, Jal, CondBr, BrTable, Udf, Jalr, Call, CallInd, ReturnCall, ReturnCallInd}
use Rattle.rv_inst.specs.Operands.{inst_temporaries}
use Rattle.rv_operands.specs.Operand.{Operand}
use Rattle.rv_operands.specs.Operands.{address_operands, read_operands, written_operands, arg_operand, ret_operand, use_operand, def_operand, located_operand, row_of, operands_of}
use Rattle.rv_operands.specs.Meeting.{scratched_by, scratched_in}

none_in : {X : Type 0} (operand : X → Operand) → ((x : X) → scratched_by (operand x).access (operand x).register ≡ []) → (xs : List X) → scratched_in (map operand xs) ≡ []
none_in operand none [] = refl
none_in operand none (x ∷ xs) = ap (λ l. l ++ scratched_in (map operand xs)) (none x) ∙ none_in operand none xs

none_located : (r : Reg) (location : RetLocation) → scratched_by (located_operand r location).access (located_operand r location).register ≡ []
none_located r (InReg s) = refl
none_located r (OnStack offset type) = refl

none_of_call : (uses : List CallArgPair) (defs : List CallRetPair) → scratched_in (map use_operand uses ++ map def_operand defs) ≡ []
none_of_call uses defs =
    flat_map-append (λ (o : Operand). scratched_by o.access o.register) (map use_operand uses) (map def_operand defs)
    ∙ ap (λ l. l ++ scratched_in (map def_operand defs)) (none_in use_operand (λ p. refl) uses)
    ∙ none_in def_operand (λ d. none_located d.vreg.reg d.location) defs

-- so there are none, and none of its own
no_temporaries : (scratched : List Reg) → scratched ≡ [] → [] ≡ map number_of (scratched ++ [])
no_temporaries scratched e = ap (λ l. map number_of (l ++ [])) (sym e)

none_of_value : (x y : ValueRegs Reg) (dst : ValueRegs (Writable Reg)) → scratched_in (read_operands x ++ read_operands y ++ written_operands dst) ≡ []
none_of_value (One a) (One b) (One w) = refl
none_of_value (One a) (One b) (Two v w) = refl
none_of_value (One a) (Two b b2) (One w) = refl
none_of_value (One a) (Two b b2) (Two v w) = refl
none_of_value (Two a a2) (One b) (One w) = refl
none_of_value (Two a a2) (One b) (Two v w) = refl
none_of_value (Two a a2) (Two b b2) (One w) = refl
none_of_value (Two a a2) (Two b b2) (Two v w) = refl

none_of_address : (address : AMode) (o : Operand) → scratched_by o.access o.register ≡ [] → scratched_in (address_operands address ++ o ∷ []) ≡ []
none_of_address (RegOffset r d) o none = ap (λ l. l ++ []) none
none_of_address (SPOffset d) o none = ap (λ l. l ++ []) none
none_of_address (FPOffset d) o none = ap (λ l. l ++ []) none
none_of_address (SlotOffset d) o none = ap (λ l. l ++ []) none
none_of_address (IncomingArg d) o none = ap (λ l. l ++ []) none
none_of_address (Const k) o none = ap (λ l. l ++ []) none
none_of_address (Label l) o none = ap (λ l. l ++ []) none

pub temporaries : (inst : Inst) → inst_temporaries inst ≡ map number_of (scratched_in (operands_of inst) ++ scratched_in (row_of inst).own)
temporaries Nop0 = refl
temporaries Nop4 = refl
temporaries EBreak = refl
temporaries SequencePoint = refl
temporaries (Args args) = no_temporaries _ (none_in arg_operand (λ p. refl) args)
temporaries (Rets rets) = no_temporaries _ (none_in ret_operand (λ p. refl) rets)
temporaries (DummyUse reg) = refl
temporaries (Unwind inst) = refl
temporaries (EmitIsland needed_space) = refl
temporaries (RawData bytes) = refl
temporaries (Lui rd imm) = refl
temporaries (AluRRR op rd rs1 rs2) = refl
temporaries (AluRRImm12 op rd rs imm) = refl
temporaries (Mov rd rm type) = refl
temporaries (MovFromPReg rd rm) = refl
temporaries (Select info) = no_temporaries _ (none_of_value info.x info.y info.dst)
temporaries (Load rd op flags from) = no_temporaries _ (none_of_address from _ refl)
temporaries (Store src op flags to) = no_temporaries _ (none_of_address to _ refl)
temporaries (LoadAddr rd mem) = no_temporaries _ (none_of_address mem _ refl)
temporaries Ret = refl
temporaries (Jal label) = refl
temporaries (CondBr taken not_taken kind) = refl
temporaries (BrTable index tmp1 tmp2 targets) = refl
temporaries (Udf code) = refl
temporaries (Jalr rd base offset) = refl
temporaries (Call info) = no_temporaries _ (none_of_call info.uses info.defs)
temporaries (CallInd info) = no_temporaries _ (none_of_call info.uses info.defs)
temporaries (ReturnCall info) = no_temporaries _ (none_in use_operand (λ p. refl) info.uses)
temporaries (ReturnCallInd info) = no_temporaries _ (none_in use_operand (λ p. refl) info.uses)
temporaries inst = refl
