-- A piece of code, with one use or none, as it is put and in finished code.
use Rattle.std.proofs.Common.{[], ◌≡◌, ℕ, ◌+◌, ◌%◌, ◌≤◌, inl, inr, ⊎_elim, List, ◌∷◌, ◌++◌, length, Option, Some, None, refl, ap, sym, ◌∙◌, subst, arith}
use Rattle.mach_buffer.proofs.Words.{false_from_ne_true, same_Some, length-append, take_all, slice_get, Kinds, Veneer, IsFresh, Patch, Use, Shape, with_bytes, with_use, core, recorded, HasVeneer, window, IsApart, AreWindows, AllEnd, KeepsOthers, patch_of, patches_of, is_pending, IsVia, Arrives, Finishes, Grows, Lasts, IsPiece, UseFinished, AllStand, HasConstants}
use Rattle.mach_buffer.proofs.Lasting.{grows_more}
use Rattle.mach_buffer.proofs.LastVeneers.{some_place, finish_keeps}
use Rattle.mach_buffer.proofs.Links.{window_stays, window_last, recorded_get, windows_bytes, windows_use}
use Rattle.mach_uses.proofs.Lists.{comes_from, map_each, slice_get-append, slice_get-append_last, mapped}
use Rattle.mach_uses.proofs.OrderOfVeneers.{not_pending}
use Rattle.mach_buffer.proofs.VeneersAndConstants.{recorded_at}

-- windows, as a piece is put
pub windows_with_bytes : {L : Type 0} {kinds : Kinds L} (s : Shape L) → AreWindows kinds s.bytes s.uses → (piece : List ℕ) → AreWindows kinds (with_bytes piece s).bytes (with_bytes piece s).uses
windows_with_bytes s w piece = windows_bytes w piece

pub windows_with_use : {L : Type 0} {kinds : Kinds L} (s : Shape L) → AreWindows kinds s.bytes s.uses → length s.bytes % 2 ≡ 0 → (piece : List ℕ) (u : Use L) → IsPiece kinds s piece u → IsFresh (kinds.fields u.kind) piece →
    AreWindows kinds (with_bytes piece (with_use u s)).bytes (with_bytes piece (with_use u s)).uses
windows_with_use {L} {kinds} s w even piece u is fresh =
    let whole = take_all (length (kinds.fields u.kind)) piece (omega (arith, is.long)) in
    windows_use w piece u 0 is.bare (omega (arith, is.at)) (omega (arith, is.at)) (omega (arith, is.long)) (rw whole fresh)

-- ---- a piece with no use

-- bytes that were put where all windows before them end, and that later windows begin after, are kept by the patches
piece_kept : {L : Type 0} (kinds : Kinds L) (place : ℕ → Option ℕ) (s : Shape L) {piece bytes put_bytes : List ℕ} {put_uses : List (Use L)} {put_place : ℕ → Option ℕ} → AllEnd kinds s → Grows (s.bytes ++ piece) s.uses s.place put_bytes put_uses put_place → KeepsOthers kinds put_bytes bytes (patches_of place put_uses) →
    window bytes (length s.bytes) (length piece) ≡ piece
piece_kept {L} kinds place s {piece} {bytes} {put_bytes} {put_uses} ends x others =
    let long = length-append s.bytes piece in
    let Apart : Patch L → Type 0 = λ q. IsApart (length s.bytes) (length piece) q.offset (length (kinds.fields q.kind)) in
    let apart : (j : ℕ) (u : Use L) → slice_get put_uses j ≡ Some u → IsApart (length s.bytes) (length piece) u.offset (length (kinds.fields u.kind)) = λ j u h. ⊎_elim
    (λ w. inr (subst (λ (y : Use L). y.offset + length (kinds.fields y.kind) ≤ length s.bytes) w.alike (ends j w.was w.there)))
    (λ r. inl (omega (arith, long, x.after r.0 (core u) r.2)))
    (recorded_at put_uses s.uses x.more x.grown j u h) in
    others (length s.bytes) (length piece) (map_each Apart (patch_of place) put_uses apart)
    ∙ window_stays (s.bytes ++ piece) put_bytes (length s.bytes) (length piece) (omega (arith, long)) x.before ∙ window_last s.bytes piece

pub piece_finished : {L : Type 0} {kinds : Kinds L} (s : Shape L) {f : Shape L} {piece bytes : List ℕ} → AllEnd kinds s → Lasts kinds (with_bytes piece s) f → Finishes kinds f bytes → window bytes (length s.bytes) (length piece) ≡ piece
piece_finished {kinds = kinds} s ends lasts fin = piece_kept kinds fin.put.place s ends (grows_more lasts.grows fin.grows) fin.others

-- so constants that stand have their bytes
pub constants_kept : {L : Type 0} (kinds : Kinds L) (place : ℕ → Option ℕ) (put : Shape L) (bytes : List ℕ) → length bytes ≡ length put.bytes → AllStand kinds put → KeepsOthers kinds put.bytes bytes (patches_of place put.uses) → HasConstants put.registered bytes put.constants
constants_kept kinds place put bytes same stand others j c h =
    let w = stand j c h in
    let kept : window bytes (length w.before.bytes) (length w.constant.bytes) ≡ w.constant.bytes = piece_kept kinds place w.before w.ends w.lasts.grows others in
    record { constant = w.constant; there = w.there; aligned = w.aligned; stands = ap (λ n. window bytes n (length w.constant.bytes)) w.at ∙ kept; inside = omega (arith, w.at, length-append w.before.bytes w.constant.bytes, w.lasts.grows.longer, same) }

-- ---- a piece with one use

abbrev via_core : {L : Type 0} {kinds : Kinds L} {v : Veneer L} {bytes : List ℕ} {u : Use L} {to : ℕ} → IsVia kinds v bytes u to → IsVia kinds v bytes (core u) to
via_core v = record { at = v.at; there = v.there; even = v.even; inside = v.inside; front = v.front; own = v.own; back = v.back; on = v.on }

abbrev has_core : {L : Type 0} {kinds : Kinds L} {bytes : List ℕ} {uses : List (Use L)} {u : Use L} {at : ℕ} → HasVeneer kinds bytes uses u at → HasVeneer kinds bytes uses (core u) at
has_core h = record { inside = h.inside; code = h.code; index = h.index; own = h.own; near = h.near; after = h.after; supported = h.supported; even = h.even }

module _ {L : Type 0} {kinds : Kinds L} {s f : Shape L} {piece bytes : List ℕ} where
  pub use_finished : {u : Use L} → IsPiece kinds s piece u → Lasts kinds (with_bytes piece (with_use u s)) f → (fin : Finishes kinds f bytes) → UseFinished kinds s f fin.put bytes piece u
  use_finished {u} is lasts fin =
      let x = grows_more lasts.grows fin.grows in
      let J = length s.uses in
      let here = recorded_get (s.uses ++ u ∷ []) J u (slice_get-append_last s.uses u) in
      -- the use before the patches
      let w = comes_from core fin.put.uses J (core u) (ap (λ us. slice_get us J) x.grown ∙ slice_get-append (recorded (s.uses ++ u ∷ [])) x.more J (core u) here) in
      let same : core w.from ≡ u = w.is ∙ (λ i. record u { veneer = sym is.bare i }) in
      let to = some_place (fin.put.place w.from.label.number) (fin.bound J w.from w.there) in
      let there = fin.places w.from.label.number to.0 to.1 in
      let as_put = (λ i. window fin.put.bytes (is.at i) (sym is.long i)) ∙ window_stays (s.bytes ++ piece) fin.put.bytes (length s.bytes) (length piece) (omega (arith, length-append s.bytes piece)) x.before ∙ window_last s.bytes piece in
      let stood : window fin.put.bytes w.from.offset (length (kinds.fields w.from.kind)) ≡ piece = subst (λ (y : Use L). window fin.put.bytes y.offset (length (kinds.fields y.kind)) ≡ piece) (sym same) as_put in
      let kept = rw stood at (fin.kept J (patch_of fin.put.place w.from) (mapped (patch_of fin.put.place) fin.put.uses J w.from w.there)) in
      let Finished : Option ℕ → Type 0 = λ o. w.from.veneer ≡ o → Arrives kinds bytes w.from to.0 o → UseFinished kinds s f fin.put bytes piece (core w.from) in
      let finished : Finished w.from.veneer = elim w.from.veneer as Finished [
        | None ↦ λ e a. record { target = to.0; aimed = a; kept = kept; even = there.1; inside = omega (arith, fin.same_length, there.0); goes = inl to.1; straight = λ h reached. to.1 }
        | Some at ↦ λ e a.
            let has = fin.linked.each J w.from at w.there e in
            record {
              target = a.0.at;
              aimed = a.0.there;
              kept = kept;
              even = a.0.even;
              inside = omega (arith, a.0.inside);
              goes = inr (record { supported = has.supported; to = to.0; bound = to.1; via = via_core a.0; here = refl; stood = rw a.1 (has_core has) });
              -- one in reach of its label has no veneer
              straight = λ h reached.
                  let put = finish_keeps fin J (core w.from) h (false_from_ne_true (is_pending kinds f.place (core w.from)) (not_pending kinds f.place (core w.from) reached)) in
                  absurd (let bare = ap (λ (y : Use L). y.veneer) (same_Some (core w.from) w.from (sym put ∙ w.there)) in cc);
            }
      ] in
      subst (UseFinished kinds s f fin.put bytes piece) same (finished refl (fin.arrive J w.from to.0 w.there to.1))
