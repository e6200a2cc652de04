-- What holds of every instruction that is described, since all tables over instructions go by its description.
use Rattle.std.proofs.Common.{◌≡◌, false, List, [], ◌∷◌, None, Some, refl, ap}
use Rattle.std.specs.Prelude.{◌||◌, option_map}
use Rattle.std.specs.List.{list_any}
use Rattle.rv_inst.specs.Context.{Context}
use Rattle.rv_inst.specs.Core.{is_integer_family}
use Rattle.rv_inst.specs.Meaning.{Environment, Next, inst_exit}
use Rattle.rv_machine.specs.State.{Values}
use Rattle.rv_inst.specs.Operands.{family_of, inst_registers, inst_temporaries}
use Rattle.rv_inst.specs.RegisterTests.{place_test, test_of}
use Rattle.rv_inst.specs.Faults.{is_misplaced}
use Rattle.rv_inst.specs.Rules.{faults_of, unit_faults}
use Rattle.rv_inst.specs.Sizes.{inst_code, unit_code}
use Rattle.rv_inst.specs.Descriptions.{Computes, Gives, UnitWord, Word, all_replaced, described, described_regs, facts_in, facts_of, given, in_order, is_idle_in, places_in, registers_in, regs_in, replaced_by, sequence_of, unit_word, word_in, with_registers, with_sequence}
use Rattle.rv_inst.specs.declared.inst.Family.TheVariants.{Float}
use Rattle.rv_inst.specs.declared.inst.Inst.{Inst}
use Rattle.rv_inst.specs.declared.inst.Inst.TheVariants.{Nop0}
use Rattle.rv_inst.specs.declared.registers.RegisterTest.{RegisterTest}
use Rattle.rv_inst.specs.declared.sequence.Sequence.{Sequence}
use Rattle.rv_inst.specs.declared.units.PlacedReg.{PlacedReg}
use Rattle.rv_inst.specs.declared.units.PlaceTest.TheVariants.{Register, OutOfPlace}
use Rattle.rv_inst.specs.declared.units.InstRegs.{InstRegs}

-- a test of registers, wherever they stand
pub places_have : (test : RegisterTest) (places : List PlacedReg) → list_any (place_test (Register test)) places ≡ list_any (test_of test) (registers_in places)
places_have test [] = refl
places_have test (p ∷ places) = ap (λ b. test_of test p.reg || b) (places_have test places)

pub unit_registers : (inst : Inst) → family_of inst ≡ Float → registers_in (places_in (unit_word inst)) ≡ inst_registers inst
unit_registers Nop0 e = absurd (cc)
unit_registers inst e = cc

pub unit_misplaced : (inst : Inst) → family_of inst ≡ Float → (list_any (place_test OutOfPlace) (places_in (unit_word inst)) || is_idle_in (unit_word inst)) ≡ is_misplaced inst
unit_misplaced Nop0 e = absurd (cc)
unit_misplaced inst e = cc

-- one of which no facts are given has a unit's registers, or none
pub regs_without_facts : (inst : Inst) → facts_of inst ≡ None → in_order (registers_in (places_in (unit_word inst))) ≡ described_regs inst
regs_without_facts inst none = (elim (described inst) as (λ d. facts_in d ≡ None → in_order (registers_in (places_in (word_in d))) ≡ regs_in d) [ None ↦ λ e. refl | Some (Word w) ↦ λ e. refl | Some (Computes s with) ↦ λ e. refl | Some (Gives g) ↦ λ e. absurd (cc) ]) none

-- one of no family of the integer core: it goes on to the next line, and has no temporaries
pub record IsUnit (inst : Inst) : Type 0 where
  pub word : UnitWord
  pub is : unit_word inst ≡ Some word
  pub family : family_of inst ≡ Float
  pub registers : inst_registers inst ≡ registers_in word.places
  pub faults : faults_of inst ≡ unit_faults word
  pub code : (context : Context) → inst_code context inst ≡ unit_code word
  pub temporaries : inst_temporaries inst ≡ []
  pub exit : (env : Environment) (v : Values) → inst_exit env inst v ≡ Next

pub is_unit : (inst : Inst) → is_integer_family (family_of inst) ≡ false → IsUnit inst
is_unit Nop0 e = absurd (cc)
is_unit inst e = record { word = given (unit_word inst) (cc); is = cc; family = cc; registers = cc; faults = cc; code = λ context. cc; temporaries = cc; exit = λ env v. cc }

-- ---- registers put back

pub own_put_back : (inst : Inst) → with_registers inst (described_regs inst) ≡ inst
own_put_back Nop0 = refl
own_put_back inst = cc

pub registers_after : (inst : Inst) (registers : InstRegs) → described_regs (with_registers inst registers) ≡ all_replaced registers (described_regs inst)
registers_after Nop0 registers = refl
registers_after inst registers = cc

-- ---- sequences

pub own_sequence : (inst : Inst) (s : Sequence) → sequence_of inst ≡ Some s → with_sequence inst s ≡ inst
own_sequence Nop0 s e = refl
own_sequence inst s e = cc

pub sequence_after : (inst : Inst) (other : Sequence) → sequence_of (with_sequence inst other) ≡ option_map (replaced_by other) (sequence_of inst)
sequence_after Nop0 other = refl
sequence_after inst other = cc
