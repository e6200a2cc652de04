use Rattle.rv_emit.proofs.{StackMaps.emits_taken, EmitRuns.emits_run, Terms.context_by, Terms.registered_of}
use Rattle.rv_emit.proofs.emit.InstMachInstEmit.emit.Goals as goal

pub returns-in-Ok-clause-emitted : goal.returns-in-Ok-clause-emitted
returns-in-Ok-clause-emitted c =
    emits_taken (context_by c.args.info.now.isa_flags c.args.state.now.frame (registered_of c.args.sink.now)) c.args.state.now.vstate _ c.args.state.now.user_stack_map c.args.self.now c.args.sink.now c.put.new.sink c.take_stack_map-map.ensures.taken c.in-Ok.ensures.emitted

pub returns-in-Ok-clause-promised : goal.returns-in-Ok-clause-promised
returns-in-Ok-clause-promised c = λ built. emits_run _ c.args.state.now.vstate _ _ _ _ c.requires (returns-in-Ok-clause-emitted c) built
