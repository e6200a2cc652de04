-- What a line of a program leaves: a number in a register, or in a place.
use Rattle.std.proofs.Common.{◌≡◌, ◌≢◌, ℕ, zero, suc, ◌+◌, ◌-◌, ◌*◌, ◌^◌, ◌<◌, ◌≤◌, ◌⊎◌, ⊎_elim, inl, inr, true, false, List, [], ◌∷◌, length, Some, slice_get, slice_index, refl, arith, ap, sym, subst, ◌∙◌, lit<}
use Rattle.std.proofs.lemmas.Bool.{cases_lt}
use Rattle.std.proofs.lemmas.Grind.{get_or-set_at}
use Rattle.std.proofs.Math.Seq.{get_or-set_other}
use Rattle.rv_inst.specs.declared.inst.Line.{Line}
use Rattle.rv_inst.specs.Meaning.{Environment, Next, exit_of, effect_of, writes_of, temporaries_of, AreOutside, addresses_from, put_bytes}
use Rattle.rv_machine.specs.State.{State, Values, AreValues, byte, reg, set_reg, store, wrap}
use Rattle.rv_machine.specs.Memory.{load_result, store_bytes}
use Rattle.rv_machine.specs.declared.ops.LoadOp.TheVariants.{Ld}
use Rattle.rv_machine.specs.declared.ops.StoreOp.TheVariants.{Sd}
use Rattle.rv_asm.specs.Simulation.{At}
use Rattle.rv_asm.specs.Users.{int_reg, is_integer_line}
use Rattle.rv_asm.proofs.Laws.{stored_is_loaded, same_are_loaded_alike, elsewhere_unchanged}
use Rattle.rv_expr.specs.Listing.{load_from, store_to}
use Rattle.rv_expr.proofs.Places.{place, places_apart, place_inside}
use Rattle.rv_expr.proofs.Steps.{job_in, Run, IsRun, Stands, Goes, is_changed, sp_of, line_runs, to_next}

-- ---- a register that is written, and the others

reads_back : (v : Values) (n x : ℕ) → AreValues v → 0 < n → n < 32 → reg (set_reg v n x) n ≡ x
reads_back v zero x h some lt = absurd (omega arith)
reads_back v (suc n) x h some lt = get_or-set_at v.regs n n x 0 refl (omega (arith, h.count))

reads_other : (v : Values) (n m x : ℕ) → m ≢ n → reg (set_reg v n x) m ≡ reg v m
reads_other v (suc n) (suc m) x other = get_or-set_other v.regs n m x 0 (λ e. other (ap suc e))
reads_other v _ _ x other = refl

-- ---- a line that puts a number into a register

pub record Computed (r : Run) (s : State) (k n x : ℕ) : Type 0 where
  pub state : State
  pub reached : Goes r s (At k) state
  pub stands : Stands r k state
  pub here : reg state.values n ≡ x
  pub others : (m : ℕ) → m < 30 → m ≢ n → reg state.values m ≡ reg s.values m
  pub mem : (a : ℕ) → byte state.values.mem a ≡ byte s.values.mem a

writes_none : (base size : ℕ) (addresses : List ℕ) → addresses ≡ [] → AreOutside base size addresses
writes_none base size [] e = λ k below. absurd (omega arith)
writes_none base size (a ∷ addresses) e = absurd (cc)

pub computes : (r : Run) (k : ℕ) (line : Line) (s : State) (n x : ℕ) → IsRun r → Stands r k s → slice_get r.lines k ≡ Some line → suc k < length r.lines → 0 < n → n < 30 → is_changed n ≡ true → is_integer_line (job_in r).frame line ≡ true → temporaries_of line ≡ [] →
    ((env : Environment) → exit_of env line s.values ≡ Next) → ((env : Environment) → writes_of env line s.values ≡ []) → ((env : Environment) → effect_of env line s.values ≡ set_reg s.values n x) → Computed r s (suc k) n x
computes r k line s n x h at listed more some low changed core temps exits writes effects =
    let c = line_runs r k line s (set_reg s.values n x) Next (At (suc k)) h at listed core temps exits effects (λ env. writes_none r.base (length r.code.bytes) (writes_of env line s.values) (writes env)) (to_next r k more) in
    let others : (m : ℕ) → m < 30 → m ≢ n → reg c.state.values m ≡ reg s.values m = λ m below other. sym (c.same.regs m below) ∙ reads_other s.values n m x other in
    let mem : (a : ℕ) → byte c.state.values.mem a ≡ byte s.values.mem a = λ a. sym (c.same.mem a) in
    record {
      state = c.state;
      reached = c.reached;
      stands = record {
        at = c.reached.stands;
        regs = λ m below still. others m below (λ e. differ m still (ap is_changed e)) ∙ at.regs m below still;
        mem = λ a fits outside. mem a ∙ at.mem a fits outside;
      };
      here = sym (c.same.regs n low) ∙ reads_back s.values n x at.at.state.values some (omega arith);
      others = others;
      mem = mem;
    }
  where
    differ : (m : ℕ) → is_changed m ≡ false → is_changed m ≡ is_changed n → ⊥
    differ m still e = absurd (cc)

-- a line that loads from a place
pub loads : (r : Run) (k : ℕ) (s : State) (n i : ℕ) (in_file : n < 32) → IsRun r → Stands r k s → slice_get r.lines k ≡ Some (load_from (int_reg n in_file) i) → suc k < length r.lines → 0 < n → n < 30 → is_changed n ≡ true → Computed r s (suc k) n (load_result Ld s.values.mem (place (sp_of r) i))
loads r k s n i in_file h at listed more some low changed =
    let sp : reg s.values 2 ≡ sp_of r = at.regs 2 (lit< tt) refl in
    computes r k (load_from (int_reg n in_file) i) s n (load_result Ld s.values.mem (place (sp_of r) i)) h at listed more some low changed refl refl (λ env. refl) (λ env. refl)
    (λ env. ap (λ (p : ℕ). set_reg s.values n (load_result Ld s.values.mem (place p i))) sp)

-- ---- a line that stores into a place

pub record Stored (r : Run) (s : State) (k i x : ℕ) : Type 0 where
  pub state : State
  pub reached : Goes r s (At k) state
  pub stands : Stands r k state
  pub here : load_result Ld state.values.mem (place (sp_of r) i) ≡ x
  pub others : (j : ℕ) → j < 254 → j ≢ i → load_result Ld state.values.mem (place (sp_of r) j) ≡ load_result Ld s.values.mem (place (sp_of r) j)
  pub regs : (m : ℕ) → m < 30 → reg state.values m ≡ reg s.values m

address_at : (a n j : ℕ) → a < 2 ^ 64 → j < n → slice_index (addresses_from a n) j ≡ wrap (a + j)
address_at a zero j fits below = absurd (omega arith)
address_at a (suc n) zero fits below = omega arith
address_at a (suc n) (suc j) fits below = let next : wrap (a + 1) < 2 ^ 64 = omega arith in let moved : wrap (wrap (a + 1) + j) ≡ wrap (a + suc j) = omega arith in address_at (wrap (a + 1)) n j next (omega arith) ∙ moved

-- an address that no address of the code is, is outside the code
outside_code : (base size x : ℕ) → ((k : ℕ) → k < size → base + k ≢ x) → (x < base) ⊎ (base + size ≤ x)
outside_code base size x apart =
    ⊎_elim (λ (low : x < base). inl low)
    (λ (high : base ≤ x).
    ⊎_elim (λ (inside : x < base + size). absurd (apart (x - base) (omega arith) (omega arith))) (λ (above : base + size ≤ x). inr above) (cases_lt x (base + size)))
    (cases_lt x base)

pub stores : (r : Run) (k : ℕ) (s : State) (n i : ℕ) (in_file : n < 32) → IsRun r → Stands r k s → slice_get r.lines k ≡ Some (store_to (int_reg n in_file) i) → suc k < length r.lines → n < 30 → i < 254 → 8 * i + 8 ≤ r.size → Stored r s (suc k) i (reg s.values n)
stores r k s n i in_file h at listed more low few room =
    let sp : reg s.values 2 ≡ sp_of r = at.regs 2 (lit< tt) refl in
    let a = place (sp_of r) i in
    let x = reg s.values n in
    let small = h.small in
    let sp_fits : sp_of r < 2 ^ 64 = h.state.values.fits 2 in
    let fits : a < 2 ^ 64 = omega arith in
    let x_fits : x < 2 ^ 64 = at.at.state.values.fits n in
    let code : (j : ℕ) → j < 8 → (p : ℕ) → p < length r.code.bytes → r.base + p ≢ wrap (a + j) = λ j below p inside. place_inside (sp_of r) r.size i j sp_fits room small below (r.base + p) (h.apart p inside) in
    let c = line_runs r k (store_to (int_reg n in_file) i) s (put_bytes s.values a (store_bytes Sd x)) Next (At (suc k)) h at listed refl refl (λ env. refl)
    (λ env. ap (λ (p : ℕ). put_bytes s.values (place p i) (store_bytes Sd x)) sp)
    (λ env. subst (λ (p : ℕ). AreOutside r.base (length r.code.bytes) (addresses_from (place p i) 8)) (sym sp)
    (λ j below. subst (λ (q : ℕ). (q < r.base) ⊎ (r.base + length r.code.bytes ≤ q)) (sym (address_at a 8 j fits below)) (outside_code r.base (length r.code.bytes) (wrap (a + j)) (code j below))))
    (to_next r k more) in
    let mem : (b : ℕ) → byte (store s.values.mem a (store_bytes Sd x)) b ≡ byte c.state.values.mem b = c.same.mem in
    record {
      state = c.state;
      reached = c.reached;
      stands = record {
        at = c.reached.stands;
        regs = λ m below still. sym (c.same.regs m below) ∙ at.regs m below still;
        mem = λ b b_fits outside. sym (mem b) ∙ elsewhere_unchanged s.values.mem a b (store_bytes Sd x) fits (λ j below. place_inside (sp_of r) r.size i j sp_fits room small below b outside) ∙ at.mem b b_fits outside;
      };
      here = same_are_loaded_alike c.state.values.mem (store s.values.mem a (store_bytes Sd x)) a (λ j below. sym (mem (wrap (a + j)))) ∙ stored_is_loaded s.values.mem a x fits x_fits;
      others = λ j j_few other. same_are_loaded_alike c.state.values.mem s.values.mem (place (sp_of r) j) (λ b below. sym (mem (wrap (place (sp_of r) j + b))) ∙ elsewhere_unchanged s.values.mem a (wrap (place (sp_of r) j + b)) (store_bytes Sd x) fits (λ l l_below. places_apart (sp_of r) j i b l sp_fits (omega arith) (omega arith) below l_below other));
      regs = λ m below. sym (c.same.regs m below);
    }
