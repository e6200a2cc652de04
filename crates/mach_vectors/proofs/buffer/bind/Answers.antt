use Rattle.std.proofs.Common.{◌≡◌, None, ap, sym, ◌∙◌}
use Rattle.std.specs.Prelude.{is_some}
use Rattle.mach_buffer.specs.Buffer.{place_of}
use Rattle.mach_vectors.proofs.Found.{none_there}
use Rattle.mach_buffer.proofs.Kept.{kept_bound}
use Rattle.mach_vectors.proofs.buffer.bind.Goals as goal

pub returns-clause-kept : goal.returns-clause-kept
returns-clause-kept g c =
    let e = c.in_ok-bind_label.ensures in
    let none : place_of c.args.buffer.now c.from_u32-named.result.number ≡ None = sym c.label_offset.ensures ∙ none_there c.label_offset.result (sym c.is_some.ensures ∙ c.if-is_some.false) in
    (kept_bound c.requires.kept c.bind_label.new.self e.sound c.from_u32-named.result none e.bound.2 e.fewer).kept

pub returns-clause-bound : goal.returns-clause-bound
returns-clause-bound g c =
    let e = c.in_ok-bind_label.ensures in
    let none : place_of c.args.buffer.now c.from_u32-named.result.number ≡ None = sym c.label_offset.ensures ∙ none_there c.label_offset.result (sym c.is_some.ensures ∙ c.if-is_some.false) in
    ap (λ n. is_some (place_of c.bind_label.new.self n)) (sym c.from_u32-named.ensures) ∙ (kept_bound c.requires.kept c.bind_label.new.self e.sound c.from_u32-named.result none e.bound.2 e.fewer).bound

pub returns-clause-still : goal.returns-clause-still
returns-clause-still g c =
    let e = c.in_ok-bind_label.ensures in
    let none : place_of c.args.buffer.now c.from_u32-named.result.number ≡ None = sym c.label_offset.ensures ∙ none_there c.label_offset.result (sym c.is_some.ensures ∙ c.if-is_some.false) in
    (kept_bound c.requires.kept c.bind_label.new.self e.sound c.from_u32-named.result none e.bound.2 e.fewer).still
