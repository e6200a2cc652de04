use Rattle.mach_uses.proofs.OrderOfVeneers.{order_is}
use Rattle.mach_uses.proofs.pending.Pending.order.Goals as goal

pub returns : goal.returns
returns g c = order_is c.args.after_island _ _ _ _ c.requires (rw c.new-keys.ensures.items at c.in_ok-collect.ensures) c.in_ok-collect-2.ensures c.in_ok-collect-3.ensures c.sort_unstable.ensures.permutation c.sort_unstable.ensures.sorted
