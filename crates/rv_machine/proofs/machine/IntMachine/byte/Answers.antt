use Rattle.std.proofs.Common.{sym, ap, ◌∙◌}
use Rattle.std.specs.Prelude.{unwrap_or}
use Rattle.rv_machine.specs.State.{byte}
use Rattle.rv_machine.specs.Steps.{Machine}
use Rattle.rv_machine.proofs.Memory.{get_at}
use Rattle.rv_machine.proofs.machine.IntMachine.byte.Goals as goal

pub returns : goal.returns
returns c =
    c.unwrap_or.ensures
    ∙ ap (λ o. unwrap_or o 0) (c.copied.ensures ∙ c.get.ensures.value ∙ sym (get_at c.self.inside.bytes.entries c.args.at))
    ∙ ap (λ (m : Machine). byte m.state.values.mem c.args.at) c.self.view_is
