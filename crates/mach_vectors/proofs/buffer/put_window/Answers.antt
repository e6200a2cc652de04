use Rattle.std.proofs.Common.{arith, ◌∙◌, ◌∷◌, [], ◌+◌, ◌≤◌, None, refl, ap, length, ◌≡◌}
use Rattle.mach_uses.specs.declared.uses.Use.{Use}
use Rattle.mach_buffer.specs.Buffer.{shape_of, bytes_of, pending_of}
use Rattle.mach_buffer.specs.Shape.{Shape, with_bytes, with_use}
use Rattle.mach_buffer.proofs.Kept.{kept_use}
use Rattle.mach_buffer.proofs.Laws.{slack_less}
use Rattle.mach_vectors.proofs.buffer.put_window.Goals as goal

pub returns : goal.returns
returns g c =
    let K = g.L.MachInstLabelUse in
    let b = c.args.buffer.now in
    let e = c.in_ok-use_label_at_offset.ensures in
    let p = c.in_ok-put2.ensures in
    let u : Use g.row.L.Denot = record { offset = c.cur_offset-at.result; label = c.args.label; kind = c.args.kind; veneer = None } in
    let reach = c.requires.kind.far in
    let far : 24 ≤ K.kinds.forward c.args.kind = omega (arith, reach) in
    let same : shape_of c.put2.new.self ≡ with_bytes (0 ∷ 17 ∷ []) (with_use u (shape_of b)) = p.put.2 ∙ ap (with_bytes (0 ∷ 17 ∷ [])) e.recorded.2 in
    record {
      kept = kept_use c.requires.kept c.put2.new.self p.sound u (17 ∷ []) c.cur_offset-at.ensures refl c.requires.kind.one c.requires.kind.supported c.requires.met far
          same
          (slack_less (length (bytes_of b) + 2) 30 (length (bytes_of b) + 2) 22 (pending_of K.kinds b) (omega arith) c.requires.slack);
      registered = ap (λ (x : Shape g.row.L.Denot). x.registered) same;
    }
