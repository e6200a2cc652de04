use Rattle.std.proofs.Common.{◌++◌, ap, sym, ◌∙◌}
use Rattle.std.proofs.lemmas.List.{append-nil}
use Rattle.std.specs.FinMap as map
use Rattle.rv_machine.specs.Steps.{Machine}
use Rattle.rv_machine.proofs.Memory.{has_keys}
use Rattle.rv_machine.proofs.machine.IntMachine.addresses.Goals as goal

pub returns : goal.returns
returns c =
    sym (append-nil _)
    ∙ ap (λ rest. c.loop-address.addresses.items ++ rest) (sym c.in-None.ensures.steps.0)
    ∙ c.loop-address.invariant
    ∙ c.into_iter-address-iterator.ensures.into_iter_gives
    ∙ c.keys-address-items.ensures.rest
    ∙ sym (has_keys c.self.inside.bytes.entries c.keys-address-items.ensures.ordered)
    ∙ ap (λ (m : Machine). map.keys m.state.values.mem) c.self.view_is
