use Rattle.{rv_emit.proofs.Islands.{can_island, jump_put, puts_island, same_windows, appends}, rv_emit.proofs.Terms.{[], ◌∷◌, ap, subst, ◌∙◌, shape_of, Shape, LabelUse, Label, Puts, wide_jump_to}}
use Rattle.rv_emit.proofs.island.put_island.Goals as goal

pub emit_island-requires-clause-ready : goal.emit_island-requires-clause-ready
emit_island-requires-clause-ready c =
    let e = c.in_ok-after_island.ensures in
    let s = e.allocated.2 in
    let j = c.in_ok-put_wide_jump.ensures in
    λ h. can_island _ _ _
    (jump_put _ c.get_label.new.self _ _ c.requires.sound e.number (ap (λ x. x.allocated) s) (ap (λ x. x.bytes) s) (ap (λ x. x.uses) s) (ap (λ x. x.place) s) (ap (λ x. x.registered) s) (appends c.get_label.new.self _ _ _ j.word j.sound))
    c.requires.reach c.requires.room

pub returns-clause-island : goal.returns-clause-island
returns-clause-island c =
    let e = c.in_ok-after_island.ensures in
    let s = e.allocated.2 in
    let j = c.in_ok-put_wide_jump.ensures in
    let i = c.in_ok-emit_island.ensures in
    let a = appends _ _ _ _ j.word j.sound in
    let p = jump_put _ _ _ _ c.requires.sound e.number (ap (λ x. x.allocated) s) (ap (λ x. x.bytes) s) (ap (λ x. x.uses) s) (ap (λ x. x.place) s) (ap (λ x. x.registered) s) a in
    puts_island _ _ _ _ _ p
    (ap (λ x. x.labels) s) e.sound (ap (λ x. x.bytes) s)
    (same_windows c.args.sink.now c.get_label.new.self (ap (λ x. x.bytes) s) (ap (λ x. x.uses) s))
    a i.island.2 i.grows i.own i.windows i.constants i.sound
    (λ flags. subst (λ (x : Shape LabelUse). Puts flags x.allocated (wide_jump_to (Label c.in_ok-after_island.after_island) ∷ []) x (shape_of c.put_wide_jump.new.sink)) s (j.slot flags).puts)
    (can_island _ _ _ p c.requires.reach c.requires.room)
    (ap (λ x. x.records) j.word ∙ ap (λ x. x.records) s)

pub returns-clause-unspoiled : goal.returns-clause-unspoiled
returns-clause-unspoiled c = c.in_ok-after_island.ensures.allocated.0
