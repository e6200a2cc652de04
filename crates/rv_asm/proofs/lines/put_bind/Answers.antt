use Rattle.rv_asm.proofs.Words.{ap, bytes_of, length, place_of, placed_other, placed_same, ◌∙◌}
use Rattle.rv_asm.proofs.lines.put_bind.Goals as goal

pub returns-clause-put : goal.returns-clause-put
returns-clause-put c =
    let here = c.cur_offset-here.ensures in
    let b = c.in_ok-bind_label.ensures in
    let s = b.bound.2 in
    let old = c.args.sink.now in
    let label = c.args.label.number in
    record {
      low = c.requires.listed;
      bound = ap (λ x. x.place label) s ∙ placed_same (place_of old) label (length (bytes_of old));
      kept = λ other ne. ap (λ x. x.place other) s ∙ placed_other (place_of old) label (length (bytes_of old)) other ne;
      unbound = c.requires.unbound;
      labels = ap (λ x. x.labels) s;
      bytes = ap (λ x. x.bytes) s;
      uses = ap (λ x. x.uses) s;
      allocated = ap (λ x. x.allocated) s;
      records = ap (λ x. x.records) s;
      registered = ap (λ x. x.registered) s;
      named = ap (λ x. x.named) s;
      constants = ap (λ x. x.constants) s;
      fewer = b.fewer;
      sound = b.sound;
      start = here;
      end = here;
    }
