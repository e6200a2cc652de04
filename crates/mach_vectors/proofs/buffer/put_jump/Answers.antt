use Rattle.std.proofs.Common.{arith, ◌≡◌, ◌∙◌, ◌∷◌, [], ◌++◌, ◌+◌, ◌*◌, ◌<◌, ◌≤◌, None, refl, ap, length, ℕ}
use Rattle.std.proofs.lemmas.List.{length-append}
use Rattle.rv_base.specs.LabelUse.{code_limit}
use Rattle.mach_labels.specs.Table.{first_inner, first_constant}
use Rattle.mach_uses.specs.declared.uses.Use.{Use}
use Rattle.mach_buffer.specs.Buffer.{shape_of, bytes_of, uses_of, place_of, allocated_of, pending_of}
use Rattle.mach_buffer.specs.Shape.{Shape, IsKnown, with_bytes, with_use, with_allocated}
use Rattle.mach_buffer.specs.Constants.{reserve_of}
use Rattle.mach_buffer.proofs.Kept.{can_island, island_near, kept_island, kept_allocated, same_pending, windows_one, windows_as}
use Rattle.mach_buffer.proofs.Laws.{island_rest}
use Rattle.mach_vectors.proofs.buffer.put_jump.Goals as goal

pub emit_island-requires-clause-ready : goal.emit_island-requires-clause-ready
emit_island-requires-clause-ready g c =
    let K = g.L.MachInstLabelUse in
    let b = c.args.buffer.now in
    let b1 = c.get_label.new.self in
    let mid = c.put4.new.self in
    let d = c.in_ok-after_island.ensures in
    let e = c.in_ok-use_label_at_offset.ensures in
    let p = c.in_ok-put4.ensures in
    let allocated : shape_of b1 ≡ with_allocated (shape_of b) = d.allocated.2 in
    let k1 = kept_allocated c.requires.kept b1 d.sound allocated in
    let u : Use g.row.L.Denot = record { offset = c.cur_offset-at.result; label = c.in_ok-after_island.after_island; kind = c.args.kind; veneer = None } in
    let put : shape_of mid ≡ with_bytes (0 ∷ 170 ∷ 170 ∷ 170 ∷ []) (with_use u (shape_of b1)) = p.put.2 ∙ ap (with_bytes (0 ∷ 170 ∷ 170 ∷ 170 ∷ [])) e.recorded.2 in
    let reach = c.requires.kind.far in
    let number = d.number in
    let more : allocated_of b1 ≡ allocated_of b + 1 = ap (λ (x : Shape g.row.L.Denot). x.allocated) allocated in
    let still : allocated_of mid ≡ allocated_of b1 = ap (λ (x : Shape g.row.L.Denot). x.allocated) put in
    let inner : first_inner ≤ c.in_ok-after_island.after_island.number = omega (arith, number) in
    let known : IsKnown c.in_ok-after_island.after_island.number (allocated_of mid) = omega (arith, number, more, still) in
    let uses : uses_of b1 ≡ uses_of b = ap (λ (x : Shape g.row.L.Denot). x.uses) allocated in
    let places : place_of b1 ≡ place_of b = ap (λ (x : Shape g.row.L.Denot). x.place) allocated in
    let bytes : bytes_of b1 ≡ bytes_of b = ap (λ (x : Shape g.row.L.Denot). x.bytes) allocated in
    let pending = ap (length {A = ℕ}) (same_pending K.kinds b b1 uses places) in
    let long = ap (length {A = ℕ}) bytes in
    let fits = c.requires.room d.allocated.0 in
    let kept : reserve_of (shape_of b1) ≡ reserve_of (shape_of b) = ap reserve_of allocated in
    let room : length (bytes_of b1) + 8 * length (pending_of K.kinds b1) + reserve_of (shape_of b1) + 17 < code_limit = omega (arith, pending, long, fits, kept) in
    λ unspoiled. can_island k1 mid p.sound u (0 ∷ 170 ∷ 170 ∷ 170 ∷ []) refl c.cur_offset-at.ensures c.requires.kind.supported refl (omega (arith, reach)) c.in_ok-after_island.after_island refl inner known d.unbound d.unnamed put room

pub returns-clause-kept : goal.returns-clause-kept
returns-clause-kept g c =
    let K = g.L.MachInstLabelUse in
    let b = c.args.buffer.now in
    let b1 = c.get_label.new.self in
    let mid = c.put4.new.self in
    let d = c.in_ok-after_island.ensures in
    let e = c.in_ok-use_label_at_offset.ensures in
    let p = c.in_ok-put4.ensures in
    let i = c.in_ok-emit_island.ensures in
    let allocated : shape_of b1 ≡ with_allocated (shape_of b) = d.allocated.2 in
    let k1 = kept_allocated c.requires.kept b1 d.sound allocated in
    let u : Use g.row.L.Denot = record { offset = c.cur_offset-at.result; label = c.in_ok-after_island.after_island; kind = c.args.kind; veneer = None } in
    let put : shape_of mid ≡ with_bytes (0 ∷ 170 ∷ 170 ∷ 170 ∷ []) (with_use u (shape_of b1)) = p.put.2 ∙ ap (with_bytes (0 ∷ 170 ∷ 170 ∷ 170 ∷ [])) e.recorded.2 in
    let bytes : bytes_of mid ≡ bytes_of b1 ++ 0 ∷ 170 ∷ 170 ∷ 170 ∷ [] = ap (λ (x : Shape g.row.L.Denot). x.bytes) put in
    let uses : uses_of mid ≡ uses_of b1 ++ u ∷ [] = ap (λ (x : Shape g.row.L.Denot). x.uses) put in
    let places : place_of mid ≡ place_of b1 = ap (λ (x : Shape g.row.L.Denot). x.place) put in
    let windows = windows_as (windows_one b1 k1.windows k1.sound u (170 ∷ 170 ∷ 170 ∷ []) c.cur_offset-at.ensures refl c.requires.kind.one) bytes uses in
    let reach = c.requires.kind.far in
    let number = d.number in
    let more : allocated_of b1 ≡ allocated_of b + 1 = ap (λ (x : Shape g.row.L.Denot). x.allocated) allocated in
    let still : allocated_of mid ≡ allocated_of b1 = ap (λ (x : Shape g.row.L.Denot). x.allocated) put in
    let inner : first_inner ≤ c.in_ok-after_island.after_island.number = omega (arith, number) in
    let known : IsKnown c.in_ok-after_island.after_island.number (allocated_of mid) = omega (arith, number, more, still) in
    let uses_1 : uses_of b1 ≡ uses_of b = ap (λ (x : Shape g.row.L.Denot). x.uses) allocated in
    let places_1 : place_of b1 ≡ place_of b = ap (λ (x : Shape g.row.L.Denot). x.place) allocated in
    let bytes_1 : bytes_of b1 ≡ bytes_of b = ap (λ (x : Shape g.row.L.Denot). x.bytes) allocated in
    let pending = ap (length {A = ℕ}) (same_pending K.kinds b b1 uses_1 places_1) in
    let long = ap (length {A = ℕ}) bytes_1 in
    let fits = c.requires.room d.allocated.0 in
    let kept : reserve_of (shape_of b1) ≡ reserve_of (shape_of b) = ap reserve_of allocated in
    let room : length (bytes_of b1) + 8 * length (pending_of K.kinds b1) + reserve_of (shape_of b1) + 17 < code_limit = omega (arith, pending, long, fits, kept) in
    let can = can_island k1 mid p.sound u (0 ∷ 170 ∷ 170 ∷ 170 ∷ []) refl c.cur_offset-at.ensures c.requires.kind.supported refl (omega (arith, reach)) c.in_ok-after_island.after_island refl inner known d.unbound d.unnamed put room in
    kept_island mid c.emit_island.new.self k1 u (0 ∷ 170 ∷ 170 ∷ 170 ∷ []) c.requires.kind.supported refl c.cur_offset-at.ensures put p.sound can i.sound (i.windows windows) i.own (i.constants windows) i.island.2

pub returns-clause-near : goal.returns-clause-near
returns-clause-near g c =
    let K = g.L.MachInstLabelUse in
    let b = c.args.buffer.now in
    let b1 = c.get_label.new.self in
    let mid = c.put4.new.self in
    let d = c.in_ok-after_island.ensures in
    let e = c.in_ok-use_label_at_offset.ensures in
    let p = c.in_ok-put4.ensures in
    let allocated : shape_of b1 ≡ with_allocated (shape_of b) = d.allocated.2 in
    let u : Use g.row.L.Denot = record { offset = c.cur_offset-at.result; label = c.in_ok-after_island.after_island; kind = c.args.kind; veneer = None } in
    let put : shape_of mid ≡ with_bytes (0 ∷ 170 ∷ 170 ∷ 170 ∷ []) (with_use u (shape_of b1)) = p.put.2 ∙ ap (with_bytes (0 ∷ 170 ∷ 170 ∷ 170 ∷ [])) e.recorded.2 in
    let bytes : bytes_of mid ≡ bytes_of b1 ++ 0 ∷ 170 ∷ 170 ∷ 170 ∷ [] = ap (λ (x : Shape g.row.L.Denot). x.bytes) put in
    let uses : uses_of mid ≡ uses_of b1 ++ u ∷ [] = ap (λ (x : Shape g.row.L.Denot). x.uses) put in
    let places : place_of mid ≡ place_of b1 = ap (λ (x : Shape g.row.L.Denot). x.place) put in
    let long : length (bytes_of mid) ≡ length (bytes_of b1) + 4 = ap (length {A = ℕ}) bytes ∙ length-append (bytes_of b1) (0 ∷ 170 ∷ 170 ∷ 170 ∷ []) in
    let few = c.requires.few d.allocated.0 in
    let number = d.number in
    let low : c.in_ok-after_island.after_island.number < first_constant = omega (arith, few, number) in
    let near = island_near K.kinds b1 mid c.emit_island.new.self u (0 ∷ 170 ∷ 170 ∷ 170 ∷ []) refl refl put p.sound low c.in_ok-emit_island.ensures.island.2 in
    let pending = ap (length {A = ℕ}) (same_pending K.kinds b b1 (ap (λ (x : Shape g.row.L.Denot). x.uses) allocated) (ap (λ (x : Shape g.row.L.Denot). x.place) allocated)) in
    let same = ap (length {A = ℕ}) (ap (λ (x : Shape g.row.L.Denot). x.bytes) allocated) in
    let kept : reserve_of (shape_of b1) ≡ reserve_of (shape_of b) = ap reserve_of allocated in
    omega (arith, near, pending, same, kept)

pub returns-clause-registered : goal.returns-clause-registered
returns-clause-registered g c =
    let d = c.in_ok-after_island.ensures in
    let e = c.in_ok-use_label_at_offset.ensures in
    let p = c.in_ok-put4.ensures in
    let registered = λ (x : Shape g.row.L.Denot). x.registered in
    (island_rest g.L.MachInstLabelUse.kinds c.put4.new.self p.sound c.in_ok-emit_island.ensures.island.2).registered ∙ ap registered p.put.2 ∙ ap registered e.recorded.2 ∙ ap registered d.allocated.2

pub returns-clause-unspoiled : goal.returns-clause-unspoiled
returns-clause-unspoiled g c = c.in_ok-after_island.ensures.allocated.0
