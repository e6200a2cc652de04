use Rattle.std.proofs.Common.{◌≡◌, drop}
use Rattle.rv_listing.specs.Calls.{no_registers, with_registers}
use Rattle.rv_listing.proofs.calls.set_of.Given as goal

abbrev pub invariant-loop-reg : goal.invariant-loop-reg
invariant-loop-reg l = with_registers l.set (drop l.reg-index l.regs) ≡ with_registers no_registers l.regs
