-- Islands in the finished code, and where jumps and branches aim.
use Rattle.rv_emit.proofs.{VeneerRuns.window_length, VeneerRuns.window_there, VeneerRuns.via_decodes, VeneerRuns.veneer_there, VeneerRuns.rest_there, Standing.aim_finished, Standing.aim_has, Standing.within}
use Rattle.rv_emit.proofs.Terms.{◌≡◌, ◌⊎◌, ℕ, ◌+◌, ◌^◌, ◌≤◌, inl, inr, ⊎_elim, [], ◌∷◌, List, length, Some, pos, ◌-ℤ◌, arith, refl, ap, sym, subst, ◌∙◌, true, ℤ, same_Some, IsaFlags, Decoded, int_decode, decode, is_integer, integer_decodes, Memory, store, fetch, byte_stored, Context, word_in}
use Rattle.rv_emit.proofs.Terms.{GoesOn, IsIsland, LabelUse, Jal20, label_kinds, veneer_of, use_at, Use, Shape, IsVia, Lasts, window, ByVeneer, lasts_more, wide_jump_to, decoded_jump, Label, between, Fixup, Site, BytesAt, CodeHas, KeepsOutside, FieldsEnd, AllBytes, PutsSlot, IslandIn}
use Rattle.rv_emit.proofs.Terms.{GapStandsIn, IsFinishedTo, slot_bytes, lasts_after_slots, slice_get, MachLabel, is_reached, get_or, drop, get_or-drop, length-drop, slice_index, word_there}
use Rattle.std.specs.FinMap as map

-- ---- bytes in a memory of their own

memory_of : List ℕ → Memory
memory_of bytes = store map.empty 0 bytes

stored : (bytes : List ℕ) → length bytes ≤ 2 ^ 64 → BytesAt (memory_of bytes) 0 bytes
unfolding memory_of
stored bytes le = record { room = omega arith; there = λ k lt. byte_stored map.empty 0 k bytes (omega arith) lt }

word_fetched : (mem : Memory) (bytes : List ℕ) (at : ℕ) → at + 4 ≤ length bytes → BytesAt mem 0 bytes → fetch mem (0 + at) ≡ word_in bytes at
word_fetched mem bytes at le placed =
    let there = word_there mem (0 + at) (drop at bytes) (omega (arith, length-drop at bytes)) (rest_there mem 0 bytes at (omega arith) placed) in
    let first : get_or (drop at bytes) 0 0 ≡ slice_index bytes at = get_or-drop at bytes 0 0 ∙ ap (slice_index bytes) (omega arith) in
    omega (arith, get_or-drop at bytes 1 0, get_or-drop at bytes 2 0, get_or-drop at bytes 3 0)

-- an operation that stands there stands in the bytes
op_in : (flags : IsaFlags) (mem : Memory) (bytes : List ℕ) (at a : ℕ) (d : Decoded) → is_integer d.op ≡ true → at + 4 ≤ length bytes → BytesAt mem 0 bytes → a ≡ 0 + at → decode flags (fetch mem a) ≡ Some d → int_decode flags (word_in bytes at) ≡ Some d
op_in flags mem bytes at a d integer le placed here is =
    integer_decodes flags (word_in bytes at) d integer (ap (decode flags) (sym (word_fetched mem bytes at le placed)) ∙ ap (λ n. decode flags (fetch mem n)) (sym here) ∙ is)

-- ---- a veneer

via_goes_on : (flags : IsaFlags) (bytes : List ℕ) (kind : LabelUse) (u : Use LabelUse) (to : ℕ) (g : IsVia label_kinds (veneer_of kind) bytes u to) → AllBytes bytes → length bytes ≤ 2 ^ 64 → GoesOn flags bytes g.at to
via_goes_on flags bytes kind u to g fits small =
    let le = g.inside in
    let p = via_decodes flags bytes kind u to g fits in
    let placed = stored bytes small in
    let has = veneer_there flags (memory_of bytes) (0 + g.at) (window bytes g.at 8) (pos to -ℤ pos g.at) (window_length bytes g.at 8 le) (window_there (memory_of bytes) 0 bytes g.at 8 le placed) p in
    record {
      upper = p.upper;
      lower = p.lower;
      first = op_in flags (memory_of bytes) bytes g.at (0 + g.at) _ refl (omega arith) placed refl has.0;
      second = op_in flags (memory_of bytes) bytes (g.at + 4) (0 + g.at + 4) _ refl (omega arith) placed (omega arith) has.1.0;
      sum = p.sum;
    }

-- what a use that goes by a veneer of the buffer finds there
pub veneer_goes_on : (context : Context) (f : Shape LabelUse) (bytes : List ℕ) (fin : IsFinishedTo f bytes) → length bytes ≤ 2 ^ 64 → (u : Use LabelUse) (at to : ℕ) → fin.finishes.put.place u.label.number ≡ Some to → ByVeneer label_kinds fin.finishes.put bytes u at → GoesOn context.flags bytes at to
veneer_goes_on context f bytes fin small u at to bound g =
    subst (λ n. GoesOn context.flags bytes n to) g.here
    (subst (GoesOn context.flags bytes g.via.at) (same_Some g.to to (sym g.bound ∙ bound)) (via_goes_on context.flags bytes u.kind u g.to g.via fin.all_bytes small))

-- ---- labels

-- operations stand at an offset, by the distance to a label's place or to a veneer that goes there; straight where the use still had
-- none in a buffer, and its label in reach
pub record GoesToLabel (site : Site) (f : Shape LabelUse) (final : List ℕ) (index at : ℕ) (kind : LabelUse) (label : MachLabel) (ops : ℤ → List Decoded) (to : ℕ) : Type 0 where
  pub target : ℕ
  pub has : CodeHas site at (ops (between at target))
  pub leads : (target ≡ to) ⊎ GoesOn site.context.flags final target to
  pub straight : slice_get f.uses index ≡ Some (use_at at label kind) → is_reached label_kinds (f.place label.number) (use_at at label kind) ≡ true → target ≡ to

pub label_reached : (site : Site) (f : Shape LabelUse) (final : List ℕ) (fin : IsFinishedTo f final) → KeepsOutside site final → site.place ≡ fin.finishes.put.place → site.records ≡ f.records → length final ≤ 2 ^ 64 → (allocated : ℕ) (kind : LabelUse) (label : MachLabel) (ops : ℤ → List Decoded) (s mid : Shape LabelUse) → PutsSlot site.context.flags allocated (Fixup kind (Label label) ops) s mid → FieldsEnd s → Lasts label_kinds mid f → (to : ℕ) → fin.finishes.put.place label.number ≡ Some to → GoesToLabel site f final (length s.uses) (length s.bytes) kind label ops to
label_reached site f final fin keeps same same_records small allocated kind label ops s mid p fields lasts to bound =
    let x = aim_finished site f final fin keeps same same_records allocated kind (Label label) ops s mid p lasts in
    record {
      target = x.target;
      has = aim_has site f final fin keeps same same_records allocated kind (Label label) ops s mid p fields lasts (omega (arith, within site f final fin keeps same same_records mid lasts, slot_bytes site.context.flags allocated (Fixup kind (Label label) ops) s mid p)) x;
      leads = ⊎_elim (λ here. inl (same_Some x.target to (sym here ∙ bound))) (λ g. inr (veneer_goes_on site.context f final fin small (use_at (length s.bytes) label kind) x.target to bound g)) x.goes;
      straight = λ there reached. same_Some x.target to (sym (x.straight there reached) ∙ bound);
    }

-- ---- an island

module _ (context : Context) (f : Shape LabelUse) (bytes : List ℕ) (fin : IsFinishedTo f bytes) (small : length bytes ≤ 2 ^ 64) where
  pub island_is : (from to : ℕ) → IslandIn context.flags f from to → IsIsland context.flags bytes from to
  island_is from to i =
      let site : Site = record { context = context; base = 0; bytes = bytes; place = fin.finishes.put.place; records = f.records; symbol = λ name. 0; slot = λ name. 0 } in
      let unfilled : KeepsOutside site bytes = record { long = refl; bytes = fin.all_bytes; same = λ from size le clear. refl } in
      let bound : fin.finishes.put.place i.after_island.number ≡ Some to = fin.finishes.grows.places i.after_island.number to i.bound in
      let placed : BytesAt (memory_of bytes) 0 bytes = stored bytes small in
      let old : Shape LabelUse = i.jump.old in
      let mid : Shape LabelUse = i.jump.puts.0 in
      let lasts : Lasts label_kinds mid f = lasts_more (lasts_after_slots context.flags old.allocated [] mid i.jump.new i.jump.puts.2) i.jump.lasts in
      let room : length old.bytes + 4 ≤ length bytes = let l = slot_bytes context.flags old.allocated (wide_jump_to (Label i.after_island)) old mid i.jump.puts.1 in let w = within site f bytes fin unfilled refl refl mid lasts in omega arith in
      let reached = label_reached site f bytes fin unfilled refl refl small old.allocated Jal20 i.after_island (λ d. decoded_jump d ∷ []) old mid i.jump.puts.1 i.jump.fields lasts to bound in
      subst (λ n. IsIsland context.flags bytes n to) (sym i.jump.starts) (record {
        longer = let l = i.longer in let e = i.jump.starts in omega arith;
        target = reached.target;
        jump = op_in context.flags (memory_of bytes) bytes (length old.bytes) (0 + length old.bytes) (decoded_jump (between (length old.bytes) reached.target)) refl room placed refl (reached.has (memory_of bytes) (record { aligned = refl; bytes = placed })).0;
        leads = reached.leads;
      })

  -- nothing, or an island
  pub gap_is : (from to : ℕ) → GapStandsIn context.flags f from to → (from ≡ to) ⊎ IsIsland context.flags bytes from to
  gap_is from to gap = ⊎_elim (λ here. inl here) (λ i. inr (island_is from to i)) gap
