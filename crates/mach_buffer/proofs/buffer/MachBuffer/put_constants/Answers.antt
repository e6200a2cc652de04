use Rattle.std.proofs.Common.{◌≡◌, ◌+◌, ◌∷◌, ◌∙◌, drop, arith}
use Rattle.mach_buffer.proofs.Words.{shape_of, named_of, common_steps}
use Rattle.mach_buffer.proofs.ConstantsPut.{ends_is, putting_next}
use Rattle.mach_buffer.proofs.buffer.MachBuffer.put_constants.Goals as goal

pub put_constant-requires-clause-room : goal.put_constant-requires-clause-room
put_constant-requires-clause-room g c =
    let next : drop c.loop-index.index (named_of c.args.self.now) ≡ c.index-constant.result.now ∷ drop (c.loop-index.index + 1) (named_of c.args.self.now) = grind (arith, common_steps) in
    grind (arith, ends_is, rw next at c.loop-index.invariant.0.room)

pub loop-index-preserved : goal.loop-index-preserved
loop-index-preserved g c =
    let p = c.in_ok-put_constant.ensures in
    let was = c.loop-index.invariant in
    (putting_next g.L.MachInstLabelUse.kinds was.0 (grind (arith, common_steps)) (shape_of c.put_constant.new.self) p.shape, p.named ∙ was.1, p.inside ∙ was.2, p.spoiled ∙ was.3)
