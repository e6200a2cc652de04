-- The requests of addresses and of choices, part by part.
use Rattle.std.specs.Prelude.{◌++◌, List, [], ◌∷◌, map, Result, Ok, Err, OnOk, OnErr}
use Rattle.std.proofs.Common.{◌≡◌, refl, ap, sym, ◌∙◌, subst, append_assoc}
use Rattle.std.proofs.lemmas.List.{append-nil, map-append}
use Rattle.rv_base.specs.declared.amode.AMode.{AMode}
use Rattle.rv_base.specs.declared.amode.AMode.TheVariants.{RegOffset, SPOffset, FPOffset, SlotOffset, IncomingArg, Const, Label}
use Rattle.rv_base.specs.declared.constraint.Constraint.{Constraint}
use Rattle.rv_base.specs.declared.constraint.Constraint.TheVariants.{RegLateUse}
use Rattle.rv_base.specs.declared.out_of_memory.OutOfMemory.{OutOfMemory}
use Rattle.rv_base.specs.declared.regs.Reg.{Reg}
use Rattle.rv_base.specs.AMode as address
use Rattle.rv_base.specs.Operands.{registers_of}
use Rattle.rv_inst.specs.declared.inst.SelectInfo.{SelectInfo}
use Rattle.rv_operands.specs.Operand.{Operand, constraint_of}
use Rattle.rv_operands.specs.Operands.{address_operands, read_operands, written_operands, select_operands}
use Rattle.rv_operands.specs.Visits.{AreHandedOver}

address_asked : (mode : AMode) → address.operands_of mode ≡ map constraint_of (address_operands mode)
address_asked (RegOffset r o) = refl
address_asked (SPOffset o) = refl
address_asked (FPOffset o) = refl
address_asked (SlotOffset o) = refl
address_asked (IncomingArg o) = refl
address_asked (Const k) = refl
address_asked (Label l) = refl

address_answered : (mode : AMode) → address.registers_of mode ≡ registers_of (map constraint_of (address_operands mode))
address_answered (RegOffset r o) = refl
address_answered (SPOffset o) = refl
address_answered (FPOffset o) = refl
address_answered (SlotOffset o) = refl
address_answered (IncomingArg o) = refl
address_answered (Const k) = refl
address_answered (Label l) = refl

parts : (a b c : List Operand) → map constraint_of (a ++ b ++ c) ≡ map constraint_of a ++ (map constraint_of b ++ map constraint_of c)
parts a b c = map-append constraint_of (a ++ b) c ∙ ap (λ l. l ++ map constraint_of c) (map-append constraint_of a b) ∙ append_assoc (map constraint_of a) (map constraint_of b) (map constraint_of c)

-- the requests of a choice, as they are made
abbrev choice_requests : SelectInfo → List Constraint
choice_requests info = RegLateUse info.condition.rs1 ∷ RegLateUse info.condition.rs2 ∷ (map constraint_of (read_operands info.x) ++ (map constraint_of (read_operands info.y) ++ map constraint_of (written_operands info.dst)))

choice_parts : (info : SelectInfo) → map constraint_of (select_operands info) ≡ choice_requests info
choice_parts info = ap (λ l. RegLateUse info.condition.rs1 ∷ RegLateUse info.condition.rs2 ∷ l) (parts (read_operands info.x) (read_operands info.y) (written_operands info.dst))

module _ {S : Type 0} {recorded : S → List Constraint} {given : S → List Reg} where
  pub choice_handed : {result : Result (Unit {0}) OutOfMemory} {old new : S} (before after : SelectInfo) → AreHandedOver recorded given result old new (choice_requests before) (choice_requests after) → AreHandedOver recorded given result old new (map constraint_of (select_operands before)) (map constraint_of (select_operands after))
  choice_handed {result} {old} {new} before after h =
      subst (λ l. AreHandedOver recorded given result old new l (map constraint_of (select_operands after))) (sym (choice_parts before))
      (subst (λ l. AreHandedOver recorded given result old new (choice_requests before) l) (sym (choice_parts after)) h)

  -- of an address, by what its own call promises
  pub address_handed : {result : Result (Unit {0}) OutOfMemory} {old new : S} (before after : AMode) → OnOk result (recorded new ≡ recorded old ++ address.operands_of before) → OnOk result (given new ≡ given old ++ address.registers_of after) → OnErr result (recorded new ≡ recorded old) → OnErr result (given new ≡ given old) → OnErr result (after ≡ before) → AreHandedOver recorded given result old new (map constraint_of (address_operands before)) (map constraint_of (address_operands after))
  address_handed {result = Ok done} {old} {new} before after asked answered unasked unanswered kept = record {
    all = record {
      recorded_more = asked ∙ ap (λ l. recorded old ++ l) (address_asked before);
      given_more = answered ∙ ap (λ l. given old ++ l) (address_answered after);
    };
    first_ones = tt;
  }
  address_handed {result = Err cause} {old} {new} before after asked answered unasked unanswered kept = record {
    all = tt;
    first_ones = record {
      first_asked = [];
      first_answered = [];
      left = map constraint_of (address_operands before);
      all_asked = refl;
      all_answered = ap (λ m. map constraint_of (address_operands m)) kept;
      visited = record { recorded_more = unasked ∙ sym (append-nil (recorded old)); given_more = unanswered ∙ sym (append-nil (given old)) };
    };
  }
