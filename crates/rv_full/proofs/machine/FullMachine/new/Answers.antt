use Rattle.std.proofs.Common.{◌≡◌, List, [], arith, sym, subst}
use Rattle.std.specs.Prelude.{replicate, None}
use Rattle.std.specs.List.{AllByRecursion}
use Rattle.rv_full.specs.declared.answer.Answer.{Answer}
use Rattle.rv_full.specs.declared.answer.Entry.{Entry}
use Rattle.rv_full.specs.Units.{AnswerFits, AreUnits}
use Rattle.rv_full.specs.View.{units_of}
use Rattle.rv_full.proofs.Ranges.{are_zero_units}
use Rattle.rv_full.proofs.machine.FullMachine.new.Goals as goal

-- the empty trace that the call gives
begins : (trace : List Entry) → trace ≡ [] → AreUnits (units_of (replicate 32 0) (replicate 32 0) 0 None (record { avl = 0; vtype = 0 }) trace)
begins trace none = subst (λ t. AreUnits (units_of (replicate 32 0) (replicate 32 0) 0 None (record { avl = 0; vtype = 0 }) t)) (sym none) are_zero_units

-- and the empty answers
none_unfit : (answers : List Answer) → answers ≡ [] → AllByRecursion AnswerFits answers
none_unfit answers none = subst (λ given. AllByRecursion AnswerFits given) (sym none) tt

pub invariant_of-result : goal.invariant_of-result
invariant_of-result c = (omega arith, none_unfit c.new-2.result.items c.new-2.ensures.items, begins c.new-3.result c.new-3.ensures)

pub returns-clause-state : goal.returns-clause-state
returns-clause-state c = record { state = c.new.ensures.state; units = begins c.new-3.result c.new-3.ensures; answers = none_unfit c.new-2.result.items c.new-2.ensures.items }
