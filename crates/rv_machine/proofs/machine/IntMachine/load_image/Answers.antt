use Rattle.std.proofs.Common.{◌≡◌, ◌≤◌, length, ap, refl, sym, subst, arith, get_or, ◌∙◌}
use Rattle.std.proofs.lemmas.List.{take_all}
use Rattle.std.specs.FinMap as map
use Rattle.rv_machine.specs.Steps.{Machine, with_memory, with_bytes, HasBytes}
use Rattle.rv_machine.proofs.Images.{image-push, has_bytes}
use Rattle.rv_machine.proofs.machine.IntMachine.load_image.Goals as goal

pub loop-byte-preserved : goal.loop-byte-preserved
loop-byte-preserved c =
    let i = c.loop-byte.byte-index in
    let b = get_or c.args.bytes.now i 0 in
    record {
      image =
          c.in_ok-set_byte.ensures.ok
          ∙ ap (λ (m : Machine). with_memory m (map.insert m.state.values.mem c.loop-byte.place b)) c.loop-byte.invariant.image
          ∙ image-push c.args.self.now c.args.at c.loop-byte.place b i c.args.bytes.now c.ranges.at.fits c.loop-byte.invariant.place c.loop-byte-test.true refl;
      place = omega arith;
    }

pub returns-clause-there : goal.returns-clause-there
returns-clause-there c =
    let come : length c.args.bytes.now ≤ c.loop-byte.byte-index = omega (arith, c.loop-byte-test.false) in
    let whole : c.loop-byte.self ≡ with_bytes c.args.self.now c.args.at c.args.bytes.now = c.loop-byte.invariant.image ∙ ap (with_bytes c.args.self.now c.args.at) (take_all c.loop-byte.byte-index c.args.bytes.now come) in
    λ room. subst (λ (m : Machine). HasBytes m c.args.at c.args.bytes.now) (sym whole) (has_bytes c.args.self.now c.args.at c.args.bytes.now room)
