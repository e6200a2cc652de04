use Rattle.std.proofs.Common.{◌≡◌, [], ◌∷◌, ◌++◌}
use Rattle.rv_gen.specs.Generated.{line_at}
use Rattle.rv_gen.proofs.Lines.{first_line, next_line, last_line}
use Rattle.rv_gen.proofs.generator.gen_lines.Goals as goal

pub loop-i-init : goal.loop-i-init
loop-i-init c = first_line _ _ c.new-lines.ensures.items

pub loop-i-preserved : goal.loop-i-preserved
loop-i-preserved c =
    let put : c.push.new.self.items ≡ c.loop-i.lines.items ++ line_at c.loop-i.i c.loop-i.state ∷ [] = rw (← c.line_at.ensures) c.in_ok-push.ensures.items in
    rw c.state_after-state.ensures (next_line c.loop-i.lines.items c.push.new.self.items _ c.loop-i.i c.loop-i.state c.loop-i-test.true put c.loop-i.invariant)

pub returns : goal.returns
returns c = last_line _ _ _ _ c.loop-i-test.false c.loop-i.invariant
