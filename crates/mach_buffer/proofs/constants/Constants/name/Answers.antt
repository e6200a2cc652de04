use Rattle.std.proofs.Common.{◌∙◌, sym, arith}
use Rattle.mach_buffer.proofs.Words.{append-nil, same_Some, slice_get-get_or}
use Rattle.mach_buffer.proofs.ConstantOrder.{noted_more}
use Rattle.mach_buffer.proofs.constants.Constants.name.Goals as goal

pub returns-in_ok-push-clause-noted : goal.returns-in_ok-push-clause-noted
returns-in_ok-push-clause-noted c = rw c.in_ok-push.ensures.items (noted_more c.args.self.now.registered.items c.args.self.now.named.items c.args.self.now.seen.items c.args.constant c.requires.noted c.requires.known)

pub returns-else-not-index-clause-named : goal.returns-else-not-index-clause-named
returns-else-not-index-clause-named c =
    let there = slice_get-get_or c.args.self.now.seen.items c.args.constant.number c.index.result.now (omega (arith, c.requires.known, c.requires.noted.long)) in
    rw (same_Some _ _ (sym (c.requires.noted.each _ c.requires.known) ∙ there) ∙ sym c.index.ensures ∙ c.if-not-index.false, append-nil)
