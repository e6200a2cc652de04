-- An atomic loop of a listing runs as its definition says, by what each of its passes gives.
use Rattle.std.proofs.Common.{◌≡◌, ◌≢◌, ◌⊎◌, inl, inr, ℕ, zero, suc, ◌+◌, ◌^◌, ◌<◌, Bool, true, false, if◌then◌else◌, List, [], ◌∷◌, ◌++◌, length, Some, None, arith, refl, sym, ap, subst, ◌∙◌, pos, negsuc, ◌-◌, ◌==◌, ◌%◌}
use Rattle.std.proofs.lemmas.List.{length-set}
use Rattle.std.specs.List.{AllByRecursion}
use Rattle.rv_base.specs.declared.condcodes.IntCC.TheVariants.{NotEqual}
use Rattle.rv_base.specs.declared.flags.IsaFlags.{IsaFlags}
use Rattle.rv_base.specs.declared.regs.Reg.{Reg}
use Rattle.rv_base.specs.IrType.{bits_of}
use Rattle.rv_base.specs.Regs.{number_of}
use Rattle.rv_machine.specs.State.{AreValues, Memory, State, Values, reg, reg_of, set_reg_of, wrap}
use Rattle.rv_machine.specs.declared.ops.AtomicWidth.{AtomicWidth}
use Rattle.rv_machine.specs.Steps.{iter}
use Rattle.rv_ops.specs.declared.alu.AluOPRRI.TheVariants.{Addi, Andi, Slli}
use Rattle.rv_ops.specs.declared.atomic.AtomicRmwOp.{AtomicRmwOp}
use Rattle.rv_ops.specs.declared.atomic.AtomicRmwOp.TheVariants as rmw
use Rattle.rv_full.specs.declared.answer.Answer.{Answer}
use Rattle.rv_full.specs.Atomics.{number_put}
use Rattle.rv_full.specs.Shared.{Shared, interfere}
use Rattle.rv_full.specs.Units.{FullState}
use Rattle.rv_inst.specs.AtomicLoops.{changed_number, expected_in, field_start, held, is_whole, is_wide, loop_inputs, takes_signed}
use Rattle.rv_inst.specs.Fields.{IsNoneOf}
use Rattle.rv_inst.specs.Meaning.{AreOutside, Environment, addresses_from}
use Rattle.rv_inst.specs.Sizes.{is_byte, right_shift}
use Rattle.rv_inst.specs.declared.atomic_loop.AtomicLoop.{AtomicLoop}
use Rattle.rv_inst.specs.declared.atomic_loop.Change.{Change}
use Rattle.rv_inst.specs.declared.atomic_loop.Change.TheVariants.{Combines, Swaps}
use Rattle.rv_code.proofs.Evaluation.{pieces_run}
use Rattle.rv_code.proofs.Registers.{reads_other, reads_set}
use Rattle.rv_code.specs.AtomicLoops.{after_load, choose_pieces, combine_pieces, combined_in, combining, extract_pieces, loop_labels, loop_load, loop_pieces, loop_store, mask_pieces, merge_pieces, set_pieces, store_and_retry, swapping, take_field, unset_pieces, width_for}
use Rattle.rv_code.specs.Choices.{extend_pieces}
use Rattle.rv_code.specs.Evaluation.{IsAtPoint, Point, StandIn, evaluate, point, steps_of}
use Rattle.rv_code.specs.InstRuns.{environment}
use Rattle.rv_code.specs.Pieces.{Bind, Branch, Do, New, Piece, Rri, after, pieces_size}
use Rattle.rv_code.specs.Usable.{IsFineAtomicLoop, IsUsable}
use Rattle.rv_full.proofs.Runs.{fiter_after}
use Rattle.rv_full.specs.Steps.{fiter}
use Rattle.rv_loops.proofs.Alone.{alone_passes, alone_quiet, first_step, joined as joined_alone, untouched}
use Rattle.rv_loops.proofs.AtomicWords.{are_words}
use Rattle.rv_loops.proofs.Passes.{evaluate_unique}
use Rattle.rv_loops.proofs.SharedLoops.{loop_runs, still_quiet}
use Rattle.rv_loops.proofs.SharedRuns.{no_step}
use Rattle.rv_loops.specs.Alone.{Alone, AlonePasses}
use Rattle.rv_loops.specs.AtomicRuns.{AsksAlone, AsksAtStore, AtomicLoopsAlone, AtomicLoopsRun, ChangesAlone, ChangesOnce, Entered, HasEnded, LastOf, Leads, ReadsAlone, ReadsOnce, address_in, bits_in, field_in, number_in, reserved_in, size_in}
use Rattle.rv_loops.specs.Passes.{AtLeave, AtStore, Differs, GoesOn, KeepsOthers, PassEnds, PassesEnd, Leaves as AtEnd, Stores as AtItsStore, after_retry, field_of, store_on, stored_in}
use Rattle.rv_loops.specs.SharedLoops.{EachMiddle, LastPass, Leaves, LoopEnds, Middle, OneAsks, Stores, OneChange, OneRead}
use Rattle.rv_loops.specs.SharedRuns.{AllClear, AreQuiet, OnPieces}

-- ---- its pieces read and write no memory

quiet_both : (ps qs : List Piece) → AreQuiet ps → AreQuiet qs → AreQuiet (ps ++ qs)
quiet_both [] qs a b = b
quiet_both (p ∷ ps) qs a b = (a.0, quiet_both ps qs a.1 b)

extend_quiet : (rd rn : ℕ) (signed : Bool) (bits : ℕ) → AreQuiet (extend_pieces rd rn signed bits)
extend_quiet rd rn signed bits =
    elim (is_byte signed bits) as (λ c. AreQuiet (if c then Do (Rri Andi rd rn (pos 255)) ∷ [] else Do (Rri Slli rd rn (pos (64 - bits))) ∷ Do (Rri (right_shift signed) rd rd (pos (64 - bits))) ∷ []))
    [ true ↦ (refl, tt) | false ↦ (refl, (refl, tt)) ]

mask_quiet : (rd bits : ℕ) → AreQuiet (mask_pieces rd bits)
mask_quiet rd bits =
    elim (bits == 8) as (λ c. AreQuiet (if c then Do (Rri Addi rd 0 (pos 255)) ∷ [] else Do (Rri Addi rd 0 (negsuc 0)) ∷ (if bits == 64 then [] else extend_pieces rd rd false bits))) [
      | true ↦ (refl, tt)
      | false ↦ (refl, elim (bits == 64) as (λ c. AreQuiet (if c then [] else extend_pieces rd rd false bits)) [ true ↦ tt | false ↦ extend_quiet rd rd false bits ])
    ]

merge_quiet : (rd tmp offset rs bits : ℕ) → AreQuiet (merge_pieces rd tmp offset rs bits)
merge_quiet rd tmp offset rs bits =
    quiet_both (unset_pieces rd tmp offset bits) (set_pieces rd tmp offset rs bits)
    (quiet_both (mask_pieces tmp bits) _ (mask_quiet tmp bits) (refl, (refl, (refl, tt))))
    (quiet_both (extend_pieces tmp rs false bits) _ (extend_quiet tmp rs false bits) (refl, (refl, tt)))

take_quiet : (dst offset : ℕ) (signed : Bool) (bits : ℕ) → AreQuiet (take_field dst offset signed bits)
take_quiet dst offset signed bits = (refl, (refl, extend_quiet dst dst signed bits))

combine_quiet : (op : AtomicRmwOp) (t0 dst x : ℕ) → AreQuiet (combine_pieces op t0 dst x)
combine_quiet rmw.Add t0 dst x = (refl, tt)
combine_quiet rmw.Sub t0 dst x = (refl, tt)
combine_quiet rmw.And t0 dst x = (refl, tt)
combine_quiet rmw.Nand t0 dst x = (refl, (refl, tt))
combine_quiet rmw.Or t0 dst x = (refl, tt)
combine_quiet rmw.Xor t0 dst x = (refl, tt)
combine_quiet rmw.Xchg t0 dst x = tt
combine_quiet rmw.Umin t0 dst x = (refl, (refl, (refl, (refl, (refl, (refl, tt))))))
combine_quiet rmw.Umax t0 dst x = (refl, (refl, (refl, (refl, (refl, (refl, tt))))))
combine_quiet rmw.Smin t0 dst x = (refl, (refl, (refl, (refl, (refl, (refl, tt))))))
combine_quiet rmw.Smax t0 dst x = (refl, (refl, (refl, (refl, (refl, (refl, tt))))))

store_quiet : (bits t0 p value : ℕ) (tail : List Piece) → AreQuiet tail → AreQuiet (store_and_retry bits t0 p value tail)
store_quiet bits t0 p value tail h = (refl, (refl, h))

combining_quiet : (op : AtomicRmwOp) (bits dst offset p x t0 : ℕ) → AreQuiet (combining op bits dst offset p x t0)
combining_quiet op bits dst offset p x t0 =
    let combine = combine_pieces op t0 dst x in
    let merge = merge_pieces 30 31 offset (combined_in op t0 x) bits in
    let take = take_field dst offset (takes_signed op) bits in
    let whole = store_and_retry bits t0 p t0 [] in
    let field = store_and_retry bits t0 p 30 [] in
    elim (is_whole (Combines op) bits) as (λ c. AreQuiet (if c then combine ++ whole else take ++ combine ++ merge ++ field)) [
      | true ↦ quiet_both combine whole (combine_quiet op t0 dst x) (store_quiet bits t0 p t0 [] tt)
      | false ↦ quiet_both (take ++ combine ++ merge) field (quiet_both (take ++ combine) merge (quiet_both take combine (take_quiet dst offset (takes_signed op) bits) (combine_quiet op t0 dst x)) (merge_quiet 30 31 offset (combined_in op t0 x) bits)) (store_quiet bits t0 p 30 [] tt)
    ]

swapping_quiet : (e bits dst offset p x t0 : ℕ) → AreQuiet (swapping e bits dst offset p x t0)
swapping_quiet e bits dst offset p x t0 =
    let merge = merge_pieces 30 31 offset x bits in
    let take = take_field dst offset false bits in
    let narrowed = if bits == 64 then [] else extend_pieces dst dst false bits in
    let differs = Branch NotEqual e dst 1 in
    let whole = store_and_retry bits t0 p x (Bind 1 ∷ []) in
    let field = store_and_retry bits t0 p 30 (Bind 1 ∷ []) in
    let narrowed_quiet : AreQuiet narrowed = elim (bits == 64) as (λ c. AreQuiet (if c then [] else extend_pieces dst dst false bits)) [ true ↦ tt | false ↦ extend_quiet dst dst false bits ] in
    elim (is_wide bits) as (λ c. AreQuiet (if c then narrowed ++ differs ∷ whole else take ++ differs ∷ merge ++ field)) [
      | true ↦ quiet_both narrowed (differs ∷ whole) narrowed_quiet (refl, store_quiet bits t0 p x (Bind 1 ∷ []) (refl, tt))
      | false ↦ quiet_both (take ++ differs ∷ merge) field (quiet_both take (differs ∷ merge) (take_quiet dst offset false bits) (refl, merge_quiet 30 31 offset x bits)) (store_quiet bits t0 p 30 (Bind 1 ∷ []) (refl, tt))
    ]

after_quiet : (l : AtomicLoop) → AreQuiet (after_load l)
after_quiet l = elim l.change as (λ (c : Change). AreQuiet (after_load (record l { change = c }))) [
  | Combines op ↦ combining_quiet op (bits_of l.ty) (number_of l.dst.reg) (number_of l.offset) (number_of l.address) (number_of l.operand) (number_of l.t0.reg)
  | Swaps expected ↦ swapping_quiet (number_of expected) (bits_of l.ty) (number_of l.dst.reg) (number_of l.offset) (number_of l.address) (number_of l.operand) (number_of l.t0.reg)
]

labels_quiet : (change : Change) → AreQuiet (loop_labels change)
labels_quiet (Combines op) = elim op as (λ op. AreQuiet (loop_labels (Combines op))) [ rmw.Umin ↦ (refl, (refl, (refl, tt))) | rmw.Umax ↦ (refl, (refl, (refl, tt))) | rmw.Smin ↦ (refl, (refl, (refl, tt))) | rmw.Smax ↦ (refl, (refl, (refl, tt))) | _ ↦ (refl, tt) ]
labels_quiet (Swaps expected) = (refl, (refl, tt))

retry_quiet : (change : Change) → AreQuiet (after_retry change)
retry_quiet (Combines op) = tt
retry_quiet (Swaps expected) = (refl, tt)

loop_quiet : (l : AtomicLoop) → AreQuiet (loop_pieces l)
loop_quiet l = quiet_both (loop_labels l.change) _ (labels_quiet l.change) (refl, (refl, after_quiet l))

-- ---- its labels, at no byte

-- own label 0 stands before the load
begins : (change : Change) (more : List Piece) → after 0 (loop_labels change ++ Bind 0 ∷ more) ≡ Some more
begins (Combines op) more = elim op as (λ op. after 0 (loop_labels (Combines op) ++ Bind 0 ∷ more) ≡ Some more) [ rmw.Add ↦ refl | _ ↦ refl ]
begins (Swaps expected) more = refl

-- which is reached at once
record AtOnce (env : Environment) (whole more : List Piece) (p : Point) (v : Values) : Type 0 where
  count : ℕ
  ran : evaluate env count whole p ≡ Some (point more v)
  none : steps_of env count whole p ≡ 0

reached : (env : Environment) (whole : List Piece) (change : Change) (more : List Piece) (v : Values) → AtOnce env whole more (point (loop_labels change ++ Bind 0 ∷ more) v) v
reached env whole (Combines op) more v = elim op as (λ op. AtOnce env whole more (point (loop_labels (Combines op) ++ Bind 0 ∷ more) v) v) [
  | rmw.Umin ↦ record { count = 4; ran = refl; none = refl }
  | rmw.Umax ↦ record { count = 4; ran = refl; none = refl }
  | rmw.Smin ↦ record { count = 4; ran = refl; none = refl }
  | rmw.Smax ↦ record { count = 4; ran = refl; none = refl }
  | _ ↦ record { count = 2; ran = refl; none = refl }
]
reached env whole (Swaps expected) more v = record { count = 3; ran = refl; none = refl }

retry_size : (flags : IsaFlags) (change : Change) → pieces_size flags (after_retry change) ≡ 0
retry_size flags (Combines op) = refl
retry_size flags (Swaps expected) = refl

-- ---- registers

count_back : (regs : List ℕ) (n x : ℕ) → length (set_reg_of regs n x) ≡ length regs
count_back regs zero x = refl
count_back regs (suc n) x = length-set regs n x

goes_same : (change : Change) (v w : Values) (old : ℕ) → AllByRecursion (λ (r : Reg). reg v (number_of r) ≡ reg w (number_of r)) (expected_in change) → GoesOn change v old → GoesOn change w old
goes_same (Combines op) v w old same h = tt
goes_same (Swaps expected) v w old same h = sym same.0 ∙ h

differs_same : (change : Change) (v w : Values) (old : ℕ) → AllByRecursion (λ (r : Reg). reg v (number_of r) ≡ reg w (number_of r)) (expected_in change) → Differs change v old → Differs change w old
differs_same (Combines op) v w old same h = h
differs_same (Swaps expected) v w old same h = λ is. h (same.0 ∙ is)

-- ---- the loop

module _ (passes : PassesEnd) (e : Entered) (allocated start : ℕ) (k : StandIn e.site allocated start e.end (loop_pieces e.loop)) (fine : IsFineAtomicLoop e.loop) (clear : AreOutside e.site.base (length e.site.bytes) (addresses_from (address_in e) (size_in e))) (small : address_in e < 2 ^ 64) where
  abbrev l : AtomicLoop
  l = e.loop

  abbrev dst : ℕ
  dst = number_of l.dst.reg

  abbrev t0 : ℕ
  t0 = number_of l.t0.reg

  abbrev width : AtomicWidth
  width = width_for (bits_in e)

  abbrev env : Environment
  env = environment e.site start e.end

  abbrev flags : IsaFlags
  flags = e.site.context.flags

  abbrev whole : List Piece
  whole = loop_pieces l

  -- what registers hold wherever a pass begins
  record Again (regs : List ℕ) : Type 0 where
    others : (k : ℕ) → k < 30 → k ≢ dst → k ≢ t0 → reg_of regs k ≡ reg e.values k

  -- registers once a number is loaded
  module _ (regs : List ℕ) (again : Again regs) (n : ℕ) (v : Values) (loaded : v.regs ≡ set_reg_of regs dst n) where
    other_kept : (k : ℕ) → k < 30 → k ≢ dst → k ≢ t0 → reg v k ≡ reg e.values k
    other_kept k lt not_dst not_t0 = ap (λ rs. reg_of rs k) loaded ∙ reads_other (record { regs = regs; mem = v.mem }) dst k n not_dst ∙ again.others k lt not_dst not_t0

    inputs_kept : (rs : List Reg) → AllByRecursion IsUsable rs → IsNoneOf l.dst.reg rs → IsNoneOf l.t0.reg rs → AllByRecursion (λ (r : Reg). reg v (number_of r) ≡ reg e.values (number_of r)) rs
    inputs_kept [] usable not_dst not_t0 = tt
    inputs_kept (r ∷ rs) usable not_dst not_t0 = (other_kept (number_of r) usable.0.1 (λ is. not_dst.0 (sym is)) (λ is. not_t0.0 (sym is)), inputs_kept rs usable.1 not_dst.1 not_t0.1)

    kept : AllByRecursion (λ (r : Reg). reg v (number_of r) ≡ reg e.values (number_of r)) (loop_inputs l)
    kept = inputs_kept (loop_inputs l) fine.inputs fine.dst_apart fine.t0_apart.1

    same_start : field_start l v ≡ field_start l e.values
    same_start = ap (λ x. if is_whole l.change (bits_in e) then 0 else x % 64) kept.0

    number_read : AreValues v → reg v dst ≡ n
    number_read fits =
        let count : length regs ≡ 31 = sym (count_back regs dst n) ∙ sym (ap (λ rs. length {A = ℕ} rs) loaded) ∙ fits.count in
        let lt = fine.dst.1 in
        ap (λ rs. reg_of rs dst) loaded ∙ reads_set (record { regs = regs; mem = v.mem }) dst n count fine.some_dst (omega arith)

  -- ---- each pass

  by_pass : (regs : List ℕ) (n : ℕ) (mem : Memory) → Again regs → PassEnds env l (record { regs = set_reg_of regs dst n; mem = mem }) → Middle env 17 whole (after_load l) (store_on l) [] (number_of l.address) t0 (address_in e) Again (record { regs = set_reg_of regs dst n; mem = mem })
  by_pass regs n mem again (AtItsStore c w le ran at) =
      let v : Values = record { regs = set_reg_of regs dst n; mem = mem } in
      let usable = fine.inputs.1.0.1 in
      Stores c w le ran
      (at.others.regs (number_of l.address) usable (λ is. fine.dst_apart.1.0 (sym is)) (λ is. fine.t0_apart.1.1.0 (sym is)) ∙ (kept regs again n v refl).1.0)
      (λ x. record { others = λ j lt not_dst not_t0. reads_other w t0 j x not_t0 ∙ at.others.regs j lt not_dst not_t0 ∙ other_kept regs again n v refl j lt not_dst not_t0 })
  by_pass regs n mem again (AtEnd c w le ran at) = Leaves c w le ran

  each : EachMiddle env 17 whole (after_load l) (store_on l) [] dst (number_of l.address) t0 (address_in e) Again
  each regs n mem again lt fits = by_pass regs n mem again (passes env l (record { regs = set_reg_of regs dst n; mem = mem }) fine fits)

  -- ---- how it ends

  abbrev Last : List Piece → List Answer → Shared → Type 0
  Last qs took a = LastPass e.site env 17 whole (after_load l) qs width dst (address_in e) Again took a

  last_of : {qs : List Piece} {took : List Answer} {a : Shared} → Last qs took a → LastOf e took a
  last_of p = record { first = p.first; earlier = p.earlier; between = p.between; touched = p.touched; last = p.last; still = p.still; short = p.short; keeps = p.keeps }

  -- what the last pass gives where it stores, and where it leaves
  at_store : {took : List Answer} {a : Shared} (p : Last (store_on l) took a) → AtStore l p.loaded p.values
  at_store p = by (passes env l p.loaded fine p.fits)
    where
      by : PassEnds env l p.loaded → AtStore l p.loaded p.values
      by (AtItsStore c w le ran at) =
          let same = (evaluate_unique env c p.count whole (point (after_load l) p.loaded) (point (store_on l) w) (point (store_on l) p.values) ran p.ran refl refl).1 in
          subst (AtStore l p.loaded) (ap (λ (q : Point). q.values) same) at
      by (AtEnd c w le ran at) =
          let same = (evaluate_unique env c p.count whole (point (after_load l) p.loaded) (point [] w) (point (store_on l) p.values) ran p.ran refl refl).1 in
          let never : [] ≡ store_on l = ap (λ (q : Point). q.ahead) same in
          absurd (cc)

  at_leave : {took : List Answer} {a : Shared} (p : Last [] took a) → AtLeave l p.loaded p.values
  at_leave p = by (passes env l p.loaded fine p.fits)
    where
      by : PassEnds env l p.loaded → AtLeave l p.loaded p.values
      by (AtEnd c w le ran at) =
          let same = (evaluate_unique env c p.count whole (point (after_load l) p.loaded) (point [] w) (point [] p.values) ran p.ran refl refl).1 in
          subst (AtLeave l p.loaded) (ap (λ (q : Point). q.values) same) at
      by (AtItsStore c w le ran at) =
          let same = (evaluate_unique env c p.count whole (point (after_load l) p.loaded) (point (store_on l) w) (point [] p.values) ran p.ran refl refl).1 in
          let never : store_on l ≡ [] = ap (λ (q : Point). q.ahead) same in
          absurd (cc)

  module _ {qs : List Piece} {took : List Answer} {a : Shared} (p : Last qs took a) where
    abbrev n : ℕ
    n = number_in e p.first.full.state.values.mem

    inputs : AllByRecursion (λ (r : Reg). reg p.loaded (number_of r) ≡ reg e.values (number_of r)) (loop_inputs l)
    inputs = kept p.regs p.again n p.loaded p.with_number

    number_of_pass : reg p.loaded dst ≡ n
    number_of_pass = number_read p.regs p.again n p.loaded p.with_number p.fits

    start_same : field_start l p.loaded ≡ field_start l e.values
    start_same = same_start p.regs p.again n p.loaded p.with_number

    field_same : field_of l p.loaded ≡ field_in e p.first.full.state.values.mem
    field_same = λ i. held l.change (bits_in e) (start_same i) (number_of_pass i)

    -- where it has come to the end, with registers that are those, but for t0
    ended : (ps : List Piece) (values : Values) (x : ℕ) (more : List Answer) (b : FullState) → pieces_size flags ps ≡ 0 → reg values dst ≡ field_of l p.loaded → KeepsOthers l p.loaded values → (regs : List ℕ) → ((j : ℕ) → j ≢ t0 → reg_of regs j ≡ reg values j) →
        OnPieces e.site allocated start e.end ps regs e.units more b → HasEnded e (field_in e p.first.full.state.values.mem) more b
    ended ps values x more b none old others regs same h =
        let at_end : h.ints.offset ≡ e.end = (let ends = h.ints.stand.ends in omega arith) in
        record {
          pc = h.ints.here.pc ∙ ap (λ m. wrap (e.site.base + m)) at_end;
          placed = h.ints.here.placed;
          is_state = h.ints.is_state;
          dst = ap (λ (v : Values). reg v dst) h.ints.values ∙ same dst (λ is. fine.t0_apart.0 (sym is)) ∙ old ∙ field_same;
          others = λ j lt not_dst not_t0. ap (λ (v : Values). reg v j) h.ints.values ∙ same j not_t0 ∙ others.regs j lt not_dst not_t0 ∙ other_kept p.regs p.again n p.loaded p.with_number j lt not_dst not_t0;
          units = h.units;
          answers = h.answers;
        }

  changes : (answers : List Answer) (a : Shared) → OneChange e.site env allocated start e.end 17 (loop_store (bits_in e) t0 (number_of l.address) (stored_in l)) whole (after_load l) (after_retry l.change) width dst (stored_in l) t0 (address_in e) Again e.units answers a → ChangesOnce e answers a
  unfolding last_of
  changes answers a c =
      let p = c.pass in
      let at = at_store p in
      record {
        took = c.took;
        more = c.more;
        parted = c.parted;
        pass = last_of p;
        same = c.same;
        goes_on = subst (GoesOn l.change e.values) (field_same p) (goes_same l.change p.loaded e.values (field_of l p.loaded) (inputs p).1.1.1 at.goes_on);
        stored = c.stored;
        stores_it = c.stores_it;
        memory = c.memory ∙ ap (λ x. number_put width x p.last.full.state.values.mem (address_in e)) (at.number ∙ (λ i. changed_number l.change (bits_in e) (start_same p i) (number_of_pass p i) ((inputs p).1.1.0 i)));
        none = c.none;
        final = c.final;
        rest = c.rest;
        little = c.little;
        leaves = c.leaves;
        ended = ended p (after_retry l.change) p.values 0 c.more c.final.full (retry_size flags l.change) at.old at.others (set_reg_of p.values.regs t0 0) (λ j other. reads_other p.values t0 j 0 other) c.there;
      }

  reads : (answers : List Answer) (a : Shared) → OneRead e.site env allocated start e.end 17 whole (after_load l) [] width dst (address_in e) Again e.units answers a → ReadsOnce e answers a
  unfolding last_of
  reads answers a c =
      let p = c.pass in
      let at = at_leave p in
      record {
        took = c.took;
        more = c.more;
        parted = c.parted;
        pass = last_of p;
        differs = subst (Differs l.change e.values) (field_same p) (differs_same l.change p.loaded e.values (field_of l p.loaded) (inputs p).1.1.1 at.differs);
        ended = ended p [] p.values 0 c.more p.last.full refl at.old at.others p.values.regs (λ j other. refl) c.there;
      }

  asks : (answers : List Answer) (a : Shared) → OneAsks e.site env 17 whole (after_load l) (store_on l) width dst (address_in e) Again answers a → AsksAtStore e answers a
  unfolding last_of
  asks answers a c = record { took = c.took; more = c.more; parted = c.parted; pass = last_of c.pass; asks = c.asks; left = c.left }

  abbrev Ended : List Answer → Shared → Type 0
  Ended answers a = ChangesOnce e answers a ⊎ (ReadsOnce e answers a ⊎ AsksAtStore e answers a)

  joined : (answers : List Answer) (a : Shared) → LoopEnds e.site env allocated start e.end 17 (loop_store (bits_in e) t0 (number_of l.address) (stored_in l)) whole (after_load l) (after_retry l.change) [] width dst (stored_in l) t0 (address_in e) Again e.units answers a → Ended answers a
  joined answers a (inl c) = inl (changes answers a c)
  joined answers a (inr (inl c)) = inr (inl (reads answers a c))
  joined answers a (inr (inr c)) = inr (inr (asks answers a c))

  -- from its load on, where it is at once
  runs : (answers : List Answer) (a : Shared) → OnPieces e.site allocated start e.end whole e.values.regs e.units answers a.full → AllClear e.site a.later → Ended answers a
  runs answers a on_it clear_it =
      let load = loop_load (bits_in e) dst (number_of l.address) in
      let v : Values = record { regs = e.values.regs; mem = a.full.state.values.mem } in
      let r = reached env whole l.change (load ∷ after_load l) v in
      let c = pieces_run e.site start e.end allocated start e.end whole k r.count (point whole v) (point (load ∷ after_load l) v) a.full.state r.ran tt on_it.ints in
      let steps : c.steps ≡ 0 = (let few = c.few in let none = r.none in omega arith) in
      let here : a.full.state ≡ c.state = no_step flags a.full.state c.state (subst (λ n. iter flags n a.full.state ≡ Some c.state) steps c.ran) in
      let words = are_words flags width (number_of l.address) in
      let dst_lt = fine.dst.1 in
      let t0_lt = fine.t0.1 in
      joined answers a
      (loop_runs Again e.site start e.end allocated start e.end 17 load (loop_store (bits_in e) t0 (number_of l.address) (stored_in l)) whole (after_load l) (after_retry l.change) [] width dst (number_of l.address) (stored_in l) t0 (address_in e)
      k (loop_quiet l) (after_quiet l) (retry_quiet l.change) (begins l.change (load ∷ after_load l)) (words.load dst) (words.store t0 (stored_in l)) (omega arith) fine.some_t0 (omega arith) small clear
      (λ regs again. again.others (number_of l.address) fine.inputs.1.0.1 (λ is. fine.dst_apart.1.0 (sym is)) (λ is. fine.t0_apart.1.1.0 (sym is)))
      each e.units answers e.values.regs a
      (record { ints = subst (λ (s : State). IsAtPoint e.site allocated start e.end (point (load ∷ after_load l) v) s) (sym here) c.there; units = on_it.units; answers = on_it.answers })
      clear_it (record { others = λ j lt not_dst not_t0. refl }))

-- ---- where no one else writes

-- the last pass, alone, after those that failed
module _ {e : Entered} {took : List Answer} {b : FullState} (p : LastOf e took (record { full = b; later = [] })) where
  abbrev flags_of : IsaFlags
  flags_of = e.site.context.flags

  failures : AlonePasses flags_of 17 took (record { full = b; later = [] }) p.first
  failures = alone_passes flags_of (reserved_in e) 17 took (record { full = b; later = [] }) p.first refl p.earlier

  last_pass : Alone flags_of p.between p.first p.last
  last_pass = alone_quiet flags_of p.between p.first p.last failures.alone.later (still_quiet flags_of (reserved_in e) p.between p.first p.last p.touched p.still)

  untouched_by : p.touched ≡ false
  untouched_by = untouched flags_of (reserved_in e) p.between p.first p.last p.touched failures.alone.later p.still

  up_to_last : Alone flags_of (p.between + failures.steps) (record { full = b; later = [] }) p.last
  up_to_last = joined_alone flags_of failures.steps p.between (record { full = b; later = [] }) p.first p.last failures.alone last_pass

  leads_to_last : Leads e took b p.last.full
  leads_to_last = record { steps = p.between + failures.steps; few = (let few = failures.few in let short = p.short in omega arith); ran = up_to_last.ran }

alone_ends : {e : Entered} {answers : List Answer} {b : FullState} →
    ChangesOnce e answers (record { full = b; later = [] }) ⊎ (ReadsOnce e answers (record { full = b; later = [] }) ⊎ AsksAtStore e answers (record { full = b; later = [] })) →
    ChangesAlone e answers b ⊎ (ReadsAlone e answers b ⊎ AsksAlone e answers b)
alone_ends {e} {answers} {b} (inl c) =
    let p = c.pass in
    let flags = e.site.context.flags in
    let f = failures p in
    let up = up_to_last p in
    let begins : p.first.full.state.values.mem ≡ b.state.values.mem = f.alone.mem in
    let rest = alone_quiet flags c.rest (interfere p.last.later c.stored) c.final (ap (λ later. (interfere later c.stored).later) up.later) c.leaves in
    let stored : (interfere p.last.later c.stored).full ≡ c.stored = ap (λ later. (interfere later c.stored).full) up.later in
    let ran : fiter flags (c.rest + (1 + (p.between + f.steps))) b ≡ Some c.final.full =
    fiter_after flags c.rest (1 + (p.between + f.steps)) b c.stored (fiter_after flags 1 (p.between + f.steps) b p.last.full up.ran ∙ first_step flags p.last.full c.stored c.stores_it)
    ∙ sym (ap (fiter flags c.rest) stored)
    ∙ rest.ran in
    inl (record {
      took = c.took;
      more = c.more;
      parted = c.parted;
      failed = f.told;
      goes_on = subst (λ mem. GoesOn e.loop.change e.values (field_in e mem)) begins c.goes_on;
      final = c.final.full;
      leads = record { steps = c.rest + (1 + (p.between + f.steps)); few = (let few = f.few in let short = p.short in let little = c.little in omega arith); ran = ran };
      memory = rest.mem ∙ ap (λ (s : FullState). s.state.values.mem) stored ∙ c.memory
          ∙ (λ i. number_put (width_for (bits_in e)) (changed_number e.loop.change (bits_in e) (field_start e.loop e.values) (number_in e (begins i)) (reg e.values (number_of e.loop.operand))) ((up.mem) i) (address_in e));
      none = c.none;
      ended = subst (λ mem. HasEnded e (field_in e mem) c.more c.final.full) begins c.ended;
    })
alone_ends {e} {answers} {b} (inr (inl c)) =
    let p = c.pass in
    let f = failures p in
    let begins : p.first.full.state.values.mem ≡ b.state.values.mem = f.alone.mem in
    inr (inl (record {
      took = c.took;
      more = c.more;
      parted = c.parted;
      failed = f.told;
      differs = subst (λ mem. Differs e.loop.change e.values (field_in e mem)) begins c.differs;
      final = p.last.full;
      leads = leads_to_last p;
      memory = (up_to_last p).mem;
      reserved = p.keeps.alive (untouched_by p);
      ended = subst (λ mem. HasEnded e (field_in e mem) c.more p.last.full) begins c.ended;
    }))
alone_ends {e} {answers} {b} (inr (inr c)) =
    let p = c.pass in
    inr (inr (record { took = c.took; more = c.more; parted = c.parted; failed = (failures p).told; final = p.last.full; leads = leads_to_last p; asks = c.asks; left = c.left }))

pub atomic_loops_run : PassesEnd → AtomicLoopsRun
atomic_loops_run passes e allocated start k fine clear answers a on_it clear_it =
    let is = on_it.ints in
    let small : address_in e < 2 ^ 64 = subst (λ (v : Values). reg v (number_of e.loop.address) < 2 ^ 64) is.values (is.is_state.values.fits (number_of e.loop.address)) in
    runs passes e allocated start k fine clear small answers a on_it clear_it

pub atomic_loops_alone : PassesEnd → AtomicLoopsAlone
atomic_loops_alone passes e allocated start k fine clear answers b on_it = alone_ends (atomic_loops_run passes e allocated start k fine clear answers (record { full = b; later = [] }) on_it tt)
