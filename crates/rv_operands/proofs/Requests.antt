-- What a visitor has done, request by request.
use Rattle.std.specs.Prelude.{List, [], ◌∷◌, ◌++◌, Result, Ok, Err, IsErr}
use Rattle.std.proofs.Common.{refl, ap, sym, ◌∙◌, append_assoc}
use Rattle.rv_base.specs.declared.regs.Reg.{Reg}
use Rattle.rv_base.specs.declared.constraint.Constraint.{Constraint}
use Rattle.rv_base.specs.declared.out_of_memory.OutOfMemory.{OutOfMemory}
use Rattle.rv_base.specs.Operands.{registers_of, register_of}
use Rattle.rv_operands.specs.Visits.{AreVisited, IsStopped, AreHandedOver, IsHandedOver}
use Rattle.std.proofs.lemmas.Grind.{flat_map-append}
use Rattle.std.proofs.lemmas.List.{append-nil}

module _ {S : Type 0} {recorded : S → List Constraint} {given : S → List Reg} where
  -- some, and then others
  pub visited_both : (old mid new : S) (a b c d : List Constraint) → AreVisited recorded given old mid a b → AreVisited recorded given mid new c d → AreVisited recorded given old new (a ++ c) (b ++ d)
  visited_both old mid new a b c d first second = record {
    recorded_more = second.recorded_more ∙ ap (λ l. l ++ c) first.recorded_more ∙ append_assoc (recorded old) a c;
    given_more = second.given_more ∙ ap (λ l. l ++ registers_of d) first.given_more ∙ append_assoc (given old) (registers_of b) (registers_of d) ∙ ap (λ l. given old ++ l) (sym (flat_map-append register_of b d));
  }

  stopped_after : (old mid new : S) (a b c d : List Constraint) → AreVisited recorded given old mid a b → IsStopped recorded given mid new c d → IsStopped recorded given old new (a ++ c) (b ++ d)
  stopped_after old mid new a b c d first second = record {
    first_asked = a ++ second.first_asked;
    first_answered = b ++ second.first_answered;
    left = second.left;
    all_asked = ap (λ l. a ++ l) second.all_asked ∙ sym (append_assoc a second.first_asked second.left);
    all_answered = ap (λ l. b ++ l) second.all_answered ∙ sym (append_assoc b second.first_answered second.left);
    visited = visited_both old mid new a b second.first_asked second.first_answered first second.visited;
  }

  stopped_before : (old new : S) (a b c : List Constraint) → IsStopped recorded given old new a b → IsStopped recorded given old new (a ++ c) (b ++ c)
  stopped_before old new a b c first = record {
    first_asked = first.first_asked;
    first_answered = first.first_answered;
    left = first.left ++ c;
    all_asked = ap (λ l. l ++ c) first.all_asked ∙ append_assoc first.first_asked first.left c;
    all_answered = ap (λ l. l ++ c) first.all_answered ∙ append_assoc first.first_answered first.left c;
    visited = first.visited;
  }

  -- all of some requests, and then others
  pub then_others : (result : Result (Unit {0}) OutOfMemory) (old mid new : S) (a b c d : List Constraint) → AreVisited recorded given old mid a b → AreHandedOver recorded given result mid new c d → AreHandedOver recorded given result old new (a ++ c) (b ++ d)
  then_others (Ok done) old mid new a b c d first second = record { all = visited_both old mid new a b c d first second.all; first_ones = second.first_ones }
  then_others (Err cause) old mid new a b c d first second = record { all = second.all; first_ones = stopped_after old mid new a b c d first second.first_ones }

  -- some, and then others, of calls
  pub both_after : {result : Result (Unit {0}) OutOfMemory} {old mid new : S} {done : Unit {0}} {a b c d : List Constraint} → AreHandedOver recorded given (Ok done) old mid a b → AreHandedOver recorded given result mid new c d → AreHandedOver recorded given result old new (a ++ c) (b ++ d)
  both_after {result} {old} {mid} {new} {done} {a} {b} {c} {d} first second = then_others result old mid new a b c d first.all second

  -- out of memory within some requests: those after them are left
  pub ends_within : {result : Result (Unit {0}) OutOfMemory} {old new : S} {cause : OutOfMemory} {a b : List Constraint} (c : List Constraint) → IsErr result → AreHandedOver recorded given (Err cause) old new a b → AreHandedOver recorded given result old new (a ++ c) (b ++ c)
  ends_within {result = Ok done} c fails first = absurd (cc)
  ends_within {result = Err other} {old} {new} {cause} {a} {b} c fails first = record { all = first.all; first_ones = stopped_before old new a b c first.first_ones }

  -- one request is a list of one
  pub only_one : {result : Result (Unit {0}) OutOfMemory} {old new : S} {a b : Constraint} → IsHandedOver recorded given result old new a b → AreHandedOver recorded given result old new (a ∷ []) (b ∷ [])
  only_one {result = Ok done} one = record { all = one.done; first_ones = one.unasked }
  only_one {result = Err cause} {old} {new} {a} {b} one = record {
    all = one.done;
    first_ones = record {
      first_asked = [];
      first_answered = [];
      left = a ∷ [];
      all_asked = refl;
      all_answered = ap (λ r. r ∷ []) one.unasked.kept;
      visited = record { recorded_more = one.unasked.recorded_same ∙ sym (append-nil (recorded old)); given_more = one.unasked.given_same ∙ sym (append-nil (given old)) };
    };
  }

  -- one, and then others
  pub goes_on : {result : Result (Unit {0}) OutOfMemory} {old mid new : S} {done : Unit {0}} {a b : Constraint} {c d : List Constraint} → IsHandedOver recorded given (Ok done) old mid a b → AreHandedOver recorded given result mid new c d → AreHandedOver recorded given result old new (a ∷ c) (b ∷ d)
  goes_on {result} {old} {mid} {new} {done} {a} {b} {c} {d} first second = then_others result old mid new (a ∷ []) (b ∷ []) c d first.done second

  -- out of memory at one: it and those after it are left
  pub stops_at : {result : Result (Unit {0}) OutOfMemory} {old new : S} {cause : OutOfMemory} {a b : Constraint} (c : List Constraint) → IsErr result → IsHandedOver recorded given (Err cause) old new a b → AreHandedOver recorded given result old new (a ∷ c) (b ∷ c)
  stops_at {a} {b} c fails one = ends_within {a = a ∷ []} {b = b ∷ []} c fails (only_one one)
