use Rattle.rv_emit.{proofs.StackMaps.{emits_given, IsOther}, proofs.Terms.{context_by, EmitsAnyhow, IsaFlags, FrameLayout, List, Constant, ◌≡◌, sym, ◌∙◌, on_ok_weaker, registered_of, Buffer, Emits, family_of, Family, Inst, OnOk, Option, Result, UserStackMap, with_map}}
use Rattle.rv_emit.proofs.sequence.put_sequence.Goals as goal

-- an instruction of another family than the calls, whatever map it is given
other_put : {T E : Type 0} (flags : IsaFlags) (frame : FrameLayout) (constants : List Constant) (map : Option UserStackMap) (inst : Inst) (family : Family) (old new : Buffer) (r : Result T E) → family_of inst ≡ family → IsOther family →
    (family_of inst ≡ family → OnOk r (Emits (context_by flags frame constants) inst old new)) → OnOk r (Emits (context_by flags frame constants) (with_map map inst) old new)
other_put flags frame constants map inst family old new r is other put = on_ok_weaker r (emits_given map (context_by flags frame constants) inst family is other old new) (put is)

anyhow_put : {T E : Type 0} (flags : IsaFlags) (frame : FrameLayout) (constants : List Constant) (map : Option UserStackMap) (inst : Inst) (family : Family) (old new : Buffer) (r : Result T E) → family_of inst ≡ family → IsOther family →
    (family_of inst ≡ family → OnOk r (EmitsAnyhow flags inst old new)) → OnOk r (Emits (context_by flags frame constants) (with_map map inst) old new)
anyhow_put flags frame constants map inst family old new r is other put = other_put flags frame constants map inst family old new r is other (λ is. on_ok_weaker r (λ emits. emits frame constants) (put is))

pub returns-in-Pseudo-clause-parts : goal.returns-in-Pseudo-clause-parts
returns-in-Pseudo-clause-parts c = λ asks. other_put c.args.flags c.args.frame.now (registered_of c.args.sink.now) _ _ _ c.args.sink.now c.put_pseudo.new.sink c.put_pseudo.result (sym c.family.ensures ∙ c.in-Pseudo.is) tt (λ family. c.put_pseudo.ensures.parts family c.args.frame.now (registered_of c.args.sink.now) asks)

pub returns-in-Integer-clause-parts : goal.returns-in-Integer-clause-parts
returns-in-Integer-clause-parts c = λ asks. anyhow_put c.args.flags c.args.frame.now (registered_of c.args.sink.now) _ _ _ c.args.sink.now c.put_integer.new.sink c.put_integer.result (sym c.family.ensures ∙ c.in-Integer.is) tt c.put_integer.ensures.parts

pub returns-in-Memory-clause-parts : goal.returns-in-Memory-clause-parts
returns-in-Memory-clause-parts c = λ asks. other_put c.args.flags c.args.frame.now (registered_of c.args.sink.now) _ _ _ c.args.sink.now c.put_memory.new.sink c.put_memory.result (sym c.family.ensures ∙ c.in-Memory.is) tt c.put_memory.ensures.parts

pub returns-in-Control-clause-parts : goal.returns-in-Control-clause-parts
returns-in-Control-clause-parts c = λ asks. other_put c.args.flags c.args.frame.now (registered_of c.args.sink.now) _ _ _ c.args.sink.now c.put_control.new.sink c.put_control.result (sym c.family.ensures ∙ c.in-Control.is) tt (λ family. c.put_control.ensures.parts family c.args.frame.now (registered_of c.args.sink.now) asks)

pub returns-in-Loop-clause-parts : goal.returns-in-Loop-clause-parts
returns-in-Loop-clause-parts c = λ asks. anyhow_put c.args.flags c.args.frame.now (registered_of c.args.sink.now) _ _ _ c.args.sink.now c.put_loop.new.sink c.put_loop.result (sym c.family.ensures ∙ c.in-Loop.is) tt c.put_loop.ensures.parts

pub returns-in-Symbols-clause-parts : goal.returns-in-Symbols-clause-parts
returns-in-Symbols-clause-parts c = λ asks. anyhow_put c.args.flags c.args.frame.now (registered_of c.args.sink.now) _ _ _ c.args.sink.now c.put_symbol.new.sink c.put_symbol.result (sym c.family.ensures ∙ c.in-Symbols.is) tt c.put_symbol.ensures.parts

pub returns-in-Calls-clause-parts : goal.returns-in-Calls-clause-parts
returns-in-Calls-clause-parts c = λ asks. c.put_calls.ensures.parts (sym c.family.ensures ∙ c.in-Calls.is) (registered_of c.args.sink.now) asks

pub returns-in-Float-clause-parts : goal.returns-in-Float-clause-parts
returns-in-Float-clause-parts c = λ asks. anyhow_put c.args.flags c.args.frame.now (registered_of c.args.sink.now) _ _ _ c.args.sink.now c.put_unit.new.sink c.put_unit.result (sym c.family.ensures ∙ c.in-Float.is) tt (λ family. c.put_unit.ensures.parts family c.args.flags)
