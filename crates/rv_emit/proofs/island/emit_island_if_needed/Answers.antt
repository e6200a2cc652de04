use Rattle.rv_emit.proofs.{EmitRuns.gap_leads, Terms.false, Terms.true, Terms.refl, Terms.sym, Terms.ap, Terms.◌∙◌, Terms.inl, Terms.inr, Terms.length, Terms.◌||◌, Terms.or_parts, Terms.bytes_of, Terms.is_needed, Terms.pending}
use Rattle.rv_emit.proofs.island.emit_island_if_needed.Goals as goal

pub returns-then-not-island_needed-clause-made : goal.returns-then-not-island_needed-clause-made
returns-then-not-island_needed-clause-made c = let asked = or_parts _ _ (sym c.island_needed.ensures ∙ c.if-not-island_needed.true) in record { asked = sym asked.1; put = inl (refl, refl) }

pub returns-then-not-island_needed-clause-promised : goal.returns-then-not-island_needed-clause-promised
returns-then-not-island_needed-clause-promised c = gap_leads _ _ _ false (returns-then-not-island_needed-clause-made c)

pub returns-clause-made : goal.returns-clause-made
returns-clause-made c =
    let put = c.in_ok-put_island.ensures in
    let sink = c.args.sink.now in
    record {
      asked = sym c.if-not-island_needed.false ∙ c.island_needed.ensures ∙ ap (λ spoiled. spoiled || is_needed (length (bytes_of sink)) c.args.distance (pending sink)) put.unspoiled;
      put = inr (refl, put.island);
    }

pub returns-clause-promised : goal.returns-clause-promised
returns-clause-promised c = gap_leads _ _ _ true (returns-clause-made c)
