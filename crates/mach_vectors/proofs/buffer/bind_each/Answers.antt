use Rattle.std.proofs.Common.{◌≡◌, ◌∙◌, true}
use Rattle.std.specs.Prelude.{is_some}
use Rattle.mach_buffer.specs.Buffer.{place_of}
use Rattle.mach_buffer.proofs.Kept.{each_of_four}
use Rattle.mach_vectors.proofs.buffer.bind_each.Goals as goal

pub returns : goal.returns
returns g c =
    let b = c.bind-4.new.buffer in
    let e1 = c.in_ok-bind.ensures in
    let e2 = c.in_ok-bind-2.ensures in
    let e3 = c.in_ok-bind-3.ensures in
    let e4 = c.in_ok-bind-4.ensures in
    record {
      kept = e4.kept;
      bound = each_of_four (λ n. is_some (place_of b n) ≡ true) (e4.still 0 (e3.still 0 (e2.still 0 e1.bound))) (e4.still 1 (e3.still 1 e2.bound)) (e4.still 2 e3.bound) e4.bound;
      registered = e4.registered ∙ e3.registered ∙ e2.registered ∙ e1.registered;
    }
