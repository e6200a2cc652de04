-- What callers may know of a sound buffer.
use Rattle.std.proofs.Common.{◌≡◌, ℕ, ◌+◌, ◌*◌, ◌%◌, ◌<◌, ◌≤◌, length, Some, refl, ap, arith, sym, ◌∙◌}
use Rattle.mach_records.specs.declared.records.ConstPlace.{ConstPlace}
use Rattle.mach_buffer.specs.declared.buffer.MachBuffer.{MachBuffer}
use Rattle.mach_buffer.proofs.Words.{nat_tests, length-map, unplaced_of, aligned, first_of, deadline, reserve_from, IsSound, slice_get, first_constant, Kinds, MachLabel, Use, Shape, inner_count, IsUsable, IsWhole, Lasts, CanIsland, Islanded, others_of, end_after, put_constants, reserve_of, shape_of, bytes_of, uses_of, place_of, allocated_of}
use Rattle.mach_buffer.proofs.ConstantsPut.{each_done, ends_within as ends_before, reserve_other}
use Rattle.mach_buffer.proofs.ConstantOrder.{placed_other, all_listed}
use Rattle.mach_uses.proofs.Lists.{append_none}
use Rattle.mach_buffer.proofs.VeneersAndConstants.{aligned_near}
use Rattle.mach_buffer.proofs.IslandVeneers.{IslandRest, veneered, island_is, lasts_island as lasts_over}

module _ {L : Type 0} (kinds : Kinds L) (b : MachBuffer L) where
  whole : IsSound kinds b → IsWhole kinds (shape_of b)
  unfolding IsSound
  whole sound = sound.whole

  -- its length is even
  pub even_length : IsSound kinds b → length (bytes_of b) % 2 ≡ 0
  even_length sound = (whole sound).even

  pub few_allocated : IsSound kinds b → allocated_of b ≤ inner_count
  few_allocated sound = (whole sound).ordered.few

  -- a use names a label that it may, and so does a label that is bound
  pub use_usable : IsSound kinds b → (j : ℕ) (u : Use L) → slice_get (uses_of b) j ≡ Some u → IsUsable (shape_of b) u.label.number
  use_usable sound = (whole sound).known

  pub bound_usable : IsSound kinds b → (label at : ℕ) → place_of b label ≡ Some at → IsUsable (shape_of b) label
  bound_usable sound label at h = ((whole sound).places label at h).2

  -- the constants that are still to be put take no more room than is kept for them
  pub ends_within : IsSound kinds b → (n : ℕ) → end_after (shape_of b) n + reserve_of (put_constants (shape_of b)) ≤ n + reserve_of (shape_of b)
  ends_within sound = ends_before (shape_of b) (whole sound).ordered

  -- ---- what an island leaves

  module _ {label : MachLabel} {new : Shape L} where
    pub lasts_island : IsSound kinds b → CanIsland kinds (shape_of b) label → Islanded kinds label (shape_of b) new → Lasts kinds (shape_of b) new
    lasts_island sound = lasts_over (whole sound).ordered

    pub island_rest : IsSound kinds b → Islanded kinds label (shape_of b) new → IslandRest label (shape_of b) new
    island_rest sound i =
        let c = each_done {kinds = kinds} (unplaced_of (veneered i)) (veneered i) refl (whole sound).ordered in
        rw (island_is i, c.same) (grind (arith, nat_tests, append_none, c.others))

    -- all constants that were named stand
    pub island_takes : IsSound kinds b → Islanded kinds label (shape_of b) new → length new.constants ≡ length new.named
    island_takes sound i =
        let d = put_constants (veneered i) in
        let c = each_done {kinds = kinds} (unplaced_of (veneered i)) (veneered i) refl (whole sound).ordered in
        let stand : length d.constants ≡ length d.named = sym (length-map d.constants (λ (k : ConstPlace). k.constant)) ∙ ap length (all_listed d c.ordered c.unplaced) in
        ap (λ (x : Shape L). length x.constants) (island_is i) ∙ stand ∙ sym (ap (λ (x : Shape L). length x.named) (island_is i))

    -- its constants take no more than was kept for them; before them come at most two zero bytes, the veneers and the jump's own
    -- one, and after them at most three zero bytes
    pub island_reserve : IsSound kinds b → label.number < first_constant → Islanded kinds label (shape_of b) new → length new.bytes + reserve_of new ≤ length (bytes_of b) + 13 + 8 * length (others_of kinds (shape_of b) label) + reserve_of (shape_of b)
    island_reserve sound low i =
        let d = put_constants (veneered i) in
        let count = length (others_of kinds (shape_of b) label) in
        let start = aligned (length (bytes_of b)) in
        let n = first_of (end_after (shape_of b)) start count (deadline kinds i.jump) + 8 * count in
        let first : first_of (end_after (shape_of b)) start count (deadline kinds i.jump) ≤ start + 8 = grind (arith, nat_tests) in
        let same : reserve_from new.place 0 d.registered ≡ reserve_of d = reserve_other d.place new.place 0 d.registered (λ m le. rw (island_is i) (placed_other d.place label.number _ (first_constant + m) (λ q. absurd (omega arith)))) in
        let reserve : reserve_of new ≡ reserve_of d = ap (λ (x : Shape L). reserve_from new.place 0 x.registered) (island_is i) ∙ same in
        omega (arith, i.end, ends_before (veneered i) (whole sound).ordered n, first, aligned_near (length (bytes_of b)) (whole sound).even, reserve)
