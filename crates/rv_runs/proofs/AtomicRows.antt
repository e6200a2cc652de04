-- Atomic operations do the same with values that are the same: a number goes to rd, and maybe bytes to the address in rs1.
use Rattle.rv_code.{proofs.Memories.{load_fits, load_same, placed_after, put_values, store_same}, specs.UnitRuns.{Agree, RowsAgree}, specs.UnitWrites.{at_source, atomic_writes, conditional_writes}}
use Rattle.rv_full.specs.Atomics.{amo_result, atomic_row, conditional, exchange, has_reserved, old_of, operand, reservation_of, width_bytes}
use Rattle.rv_full.{specs.Rows.{x_of, y_of, put_memory, put_units, put_x, success_of}, specs.Units.set_reserved, specs.declared.units.Reservation.Reservation}
use Rattle.rv_machine.specs.declared.ops.AtomicOp.{AtomicOp}
use Rattle.rv_machine.specs.declared.ops.AtomicOp.TheVariants.{Lr, Sc}
use Rattle.rv_machine.specs.declared.ops.AtomicWidth.{AtomicWidth}
use Rattle.rv_machine.specs.declared.ops.AtomicWidth.TheVariants.{W, D}
use Rattle.rv_machine.specs.declared.ops.LoadOp.TheVariants.{Lw, Ld}
use Rattle.rv_runs.proofs.Words.{AllByRecursion, Answer, AreUnits, AreValues, Decoded, FullValues, SameFull, Units, addresses_from, are_values_set, load_result, put_bytes, same_set, set_reg}
use Rattle.std.{proofs.Common.{Bool, List, None, Option, Some, [], ap, arith, false, if◌then◌else◌, inl, inr, length, refl, subst, sym, true, unwrap_or, ℕ, ◌+◌, ◌&&◌, ◌<◌, ◌^◌, ◌∙◌, ◌∷◌, ◌≡◌, ◌≤◌, ◌⊎◌}, specs.Prelude.take, specs.Int.to_le_bytes, specs.Int.w64}

-- the low bytes of a number, as many as a width has
abbrev low_bytes : AtomicWidth → ℕ → List ℕ
low_bytes width n = take (width_bytes width) (to_le_bytes w64 n)

low_fit : (width : AtomicWidth) (n : ℕ) → AllByRecursion (λ b. b < 256) (low_bytes width n)
low_fit W n = (omega arith, (omega arith, (omega arith, (omega arith, tt))))
low_fit D n = (omega arith, (omega arith, (omega arith, (omega arith, (omega arith, (omega arith, (omega arith, (omega arith, tt))))))))

low_long : (width : AtomicWidth) (n : ℕ) → length (low_bytes width n) ≡ width_bytes width
low_long W n = refl
low_long D n = refl

-- its registers are below x30
pub record IsUsableAtomic (d : Decoded) : Type 0 where
  pub rd : d.rd < 30
  pub rs1 : d.rs1 < 30
  pub rs2 : d.rs2 < 30

reserve : (u : Units) (r : Option Reservation) → AreUnits u → AreUnits (set_reserved u None)
reserve u r h = record { float_count = h.float_count; float_fits = h.float_fits; vector_count = h.vector_count; vector_fits = h.vector_fits; frm_fits = h.frm_fits; reserved_fits = tt; avl_fits = h.avl_fits; vtype_fits = h.vtype_fits }

module _ (d : Decoded) (v w : FullValues) (same : SameFull v w) (are_values : AreValues v.ints) (is_values : AreValues w.ints) (are_units : AreUnits w.units) (usable : IsUsableAtomic d) where
  put_agree : (a : ℕ) (bytes : List ℕ) (x : ℕ) (t u : Units) → AllByRecursion (λ b. b < 256) bytes → x < 2 ^ 64 → t ≡ u → AreUnits u → u.setting ≡ w.units.setting →
      Agree (addresses_from a (length bytes)) w (record { ints = set_reg (put_bytes v.ints a bytes) d.rd x; units = t }) (record { ints = set_reg (put_bytes w.ints a bytes) d.rd x; units = u })
  put_agree a bytes x t u fit small equal h setting =
      let to = put_values v.ints a bytes are_values fit in
      let own = put_values w.ints a bytes is_values fit in
      let lt : d.rd < 32 = let below = usable.rd in omega arith in
      record {
        same = record { ints = same_set (put_bytes v.ints a bytes) (put_bytes w.ints a bytes) d.rd x to own lt (record { regs = same.ints.regs; mem = store_same v.ints.mem w.ints.mem a bytes same.ints.mem }); units = equal };
        placed = λ site out placed. placed_after site w.ints.mem a bytes placed out;
        setting = setting;
        are_values = are_values_set (put_bytes v.ints a bytes) d.rd x to lt small;
        is_values = are_values_set (put_bytes w.ints a bytes) d.rd x own lt small;
        units = h;
      }

  address_same : x_of d v ≡ x_of d w
  address_same = same.ints.regs d.rs1 usable.rs1

  source_same : y_of d v ≡ y_of d w
  source_same = same.ints.regs d.rs2 usable.rs2

  old_same : (width : AtomicWidth) → old_of width d v ≡ old_of width d w
  old_same W = load_same Lw v.ints.mem w.ints.mem (x_of d v) same.ints.mem ∙ ap (load_result Lw w.ints.mem) address_same
  old_same D = load_same Ld v.ints.mem w.ints.mem (x_of d v) same.ints.mem ∙ ap (load_result Ld w.ints.mem) address_same

  old_small : (width : AtomicWidth) → old_of width d w < 2 ^ 64
  old_small W = load_fits Lw w.ints.mem (x_of d w) is_values.bytes
  old_small D = load_fits Ld w.ints.mem (x_of d w) is_values.bytes

  -- the low bytes of a number go to the address, and another into rd
  stored_agree : (width : AtomicWidth) (n x y z : ℕ) (t u : Units) → n ≡ z → x ≡ y → y < 2 ^ 64 → t ≡ u → AreUnits u → u.setting ≡ w.units.setting →
      Agree (at_source width d v) w (record { ints = set_reg (put_bytes v.ints (x_of d v) (low_bytes width n)) d.rd x; units = t }) (record { ints = set_reg (put_bytes w.ints (x_of d w) (low_bytes width z)) d.rd y; units = u })
  stored_agree width n x y z t u number is small equal h setting =
      let gives = λ (a k m : ℕ) (size : ℕ). Agree (addresses_from a size) w (record { ints = set_reg (put_bytes v.ints a (low_bytes width k)) d.rd m; units = t }) (record { ints = set_reg (put_bytes w.ints (x_of d w) (low_bytes width z)) d.rd y; units = u }) in
      subst (λ a. gives a n x (width_bytes width)) (sym address_same)
      (subst (λ k. gives (x_of d w) k x (width_bytes width)) (sym number)
      (subst (λ m. gives (x_of d w) z m (width_bytes width)) (sym is)
      (subst (λ size. gives (x_of d w) z y size) (low_long width z) (put_agree (x_of d w) (low_bytes width z) y t u (low_fit width z) small equal h setting))))

  -- a number goes into rd
  loaded_agree : (x y : ℕ) (t u : Units) → x ≡ y → y < 2 ^ 64 → t ≡ u → AreUnits u → u.setting ≡ w.units.setting → Agree [] w (record { ints = set_reg v.ints d.rd x; units = t }) (record { ints = set_reg w.ints d.rd y; units = u })
  loaded_agree x y t u is small equal h setting =
      subst (λ m. Agree [] w (record { ints = set_reg v.ints d.rd m; units = t }) (record { ints = set_reg w.ints d.rd y; units = u })) (sym is) (put_agree 0 [] y t u tt small equal h setting)

  conditional_agrees : (width : AtomicWidth) (through : Bool) → Agree (conditional_writes width d v through) w (conditional width d v through) (conditional width d w through)
  conditional_agrees width through =
      let may : (through && has_reserved v.units.reserved (reservation_of width d v)) ≡ (through && has_reserved w.units.reserved (reservation_of width d w)) = λ i. through && has_reserved (same.units i).reserved (record { address = address_same i; size = width_bytes width }) in
      let none : AreUnits (set_reserved w.units None) = reserve w.units None are_units in
      let equal : set_reserved v.units None ≡ set_reserved w.units None = ap (λ u. set_reserved u None) same.units in
      let through_v = through && has_reserved v.units.reserved (reservation_of width d v) in
      subst (λ c. Agree (if through_v then at_source width d v else []) w (conditional width d v through) (put_units (set_reserved w.units None) (if c then put_x d 0 (stored w) else put_x d 1 w))) may
      (elim through_v as (λ c. Agree (if c then at_source width d v else []) w (put_units (set_reserved v.units None) (if c then put_x d 0 (stored v) else put_x d 1 v)) (put_units (set_reserved w.units None) (if c then put_x d 0 (stored w) else put_x d 1 w))) [
        | true ↦ stored_agree width (y_of d v) 0 0 (y_of d w) (set_reserved v.units None) (set_reserved w.units None) source_same refl (omega arith) equal none refl
        | false ↦ loaded_agree 1 1 (set_reserved v.units None) (set_reserved w.units None) refl (omega arith) equal none refl
      ])
    where
      stored : FullValues → FullValues
      stored x = put_memory (put_bytes x.ints (x_of d x) (low_bytes width (y_of d x))).mem x

  exchanged : (op : AtomicOp) (width : AtomicWidth) → Agree (at_source width d v) w (exchange width d v (amo_result op (old_of width d v) (operand width (y_of d v)))) (exchange width d w (amo_result op (old_of width d w) (operand width (y_of d w))))
  exchanged op width =
      stored_agree width _ (old_of width d v) (old_of width d w) _ v.units w.units (λ i. amo_result op (old_same width i) (operand width (source_same i))) (old_same width) (old_small width) same.units are_units refl

  pub atomic_agrees : (width : AtomicWidth) (op : AtomicOp) → RowsAgree (atomic_writes op width d v) w (atomic_row op width d v) (atomic_row op width d w)
  atomic_agrees width Lr =
      let reserved : AreUnits (set_reserved w.units (Some (reservation_of width d w))) = record { float_count = are_units.float_count; float_fits = are_units.float_fits; vector_count = are_units.vector_count; vector_fits = are_units.vector_fits; frm_fits = are_units.frm_fits; reserved_fits = record { address = is_values.fits d.rs1; size = elim width as (λ k. (width_bytes k ≡ 4) ⊎ (width_bytes k ≡ 8)) [ W ↦ inl refl | D ↦ inr refl ] }; avl_fits = are_units.avl_fits; vtype_fits = are_units.vtype_fits } in
      loaded_agree (old_of width d v) (old_of width d w) (set_reserved v.units (Some (reservation_of width d v))) (set_reserved w.units (Some (reservation_of width d w))) (old_same width) (old_small width) (λ i. set_reserved (same.units i) (Some (record { address = address_same i; size = width_bytes width }))) reserved refl
  atomic_agrees width Sc = (refl, λ a fit answer. conditional_agrees width (unwrap_or (success_of a) false))
  atomic_agrees width op = exchanged op width
