-- Fences, and loads and stores of integers among them.
use Rattle.rv_base.specs.declared.ir_type.IrType.TheVariants.{I8, I16, I32, I64}
use Rattle.rv_code.{proofs.Memories.{put_values, stored_bytes}, specs.Accesses.{atomic_load_pieces, atomic_store_pieces}, specs.Evaluation.{address, at as points}, specs.Pieces.Fence}
use Rattle.{rv_encode.specs.Operations.store_op, rv_inst.specs.Descriptions.{load_for, store_for}, rv_inst.specs.Classes.is_int_type, rv_machine.specs.Memory.store_bytes}
use Rattle.rv_runs.proofs.Exits.{pieces_out, same_but, writes_out}
use Rattle.rv_runs.proofs.Words.{AreOutside, AreValues, ComesOut, Do, Enters, IrType, IsIntegerLoad, IsIntegerStore, Next, Same, SameBut, Site, State, Values, addresses_from, and_then, are_values_set, environment, evaluate, load_fits, load_op, load_result, load_same, low64, point, put_bytes, put_same, reg, same_set, set_reg, slots_alone, slots_of, wrap}
use Rattle.std.proofs.Common.{Bool, List, None, Option, Some, [], ap, arith, if◌then◌else◌, length, not, pos, refl, subst, sym, true, ℕ, ◌+◌, ◌<◌, ◌∙◌, ◌∷◌, ◌≡◌}

pub fence_out : {site : Site} {start after : ℕ} {s : State} {v : Values} (pred succ : ℕ) → Enters site start after (slots_alone (slots_of site.context.flags (Do (Fence pred succ) ∷ []))) s v → ComesOut site start after Next [] v s
fence_out {s = s} {v} pred succ e = pieces_out (Do (Fence pred succ) ∷ []) [] v (tt, tt) e (record { count = 1; values = s.values; ran = refl; such = same_but [] e.same }) (λ all. e.are_values)

-- an integer type's load and store are of integer registers
int_load : (type : IrType) → is_int_type type ≡ true → IsIntegerLoad (load_for type)
int_load I8 e = refl
int_load I16 e = refl
int_load I32 e = refl
int_load I64 e = refl
int_load _ e = absurd (cc)

int_store : (type : IrType) → is_int_type type ≡ true → IsIntegerStore (store_for type)
int_store I8 e = refl
int_store I16 e = refl
int_store I32 e = refl
int_store I64 e = refl
int_store _ e = absurd (cc)

-- the address in a register of values that are the same
in_register : {v w : Values} (p : ℕ) → p < 30 → Same v w → address w p (pos 0) ≡ wrap (reg v p)
in_register {v} {w} p usable same = ap (λ n. wrap (n + low64 (pos 0))) (sym (same.regs p usable)) ∙ omega arith

pub atomic_load_out : {site : Site} {start after : ℕ} {s : State} {v : Values} (type : IrType) (rd p : ℕ) → is_int_type type ≡ true → rd < 30 → p < 30 → Enters site start after (slots_alone (slots_of site.context.flags (atomic_load_pieces type rd p))) s v →
    ComesOut site start after Next [] (set_reg v rd (load_result (load_op (load_for type)) v.mem (wrap (reg v p)))) s
atomic_load_out {site} {start} {after} {s} {v} type rd p typed usable from e =
    let env = environment site start after in
    let op = load_for type in
    let ps = atomic_load_pieces type rd p in
    let x = load_result (load_op op) v.mem (wrap (reg v p)) in
    let y = load_result (load_op op) s.values.mem (address s.values p (pos 0)) in
    let is : x ≡ y = load_same (load_op op) v.mem s.values.mem (wrap (reg v p)) e.same.mem ∙ ap (load_result (load_op op) s.values.mem) (sym (in_register p from e.same)) in
    let fits = load_fits (load_op op) v.mem (wrap (reg v p)) e.are_values.bytes in
    pieces_out ps [] (set_reg v rd x) (tt, (omega arith, (tt, tt))) e
    (record {
      count = 3;
      values = set_reg s.values rd y;
      ran = ap (λ c. and_then (if not c then Some (points (Do (Fence 2 3) ∷ []) (set_reg s.values rd y) []) else None) (evaluate env 1 ps)) (int_load type typed);
      such = same_but [] (subst (λ z. Same (set_reg v rd x) (set_reg s.values rd z)) is (same_set v s.values rd x e.are_values e.is_state.values (omega arith) e.same));
    })
    (λ all. are_values_set v rd x e.are_values (omega arith) fits)

pub atomic_store_out : {site : Site} {start after : ℕ} {s : State} {v : Values} (type : IrType) (src p : ℕ) → is_int_type type ≡ true → src < 30 → p < 30 → Enters site start after (slots_alone (slots_of site.context.flags (atomic_store_pieces type src p))) s v →
    AreOutside site.base (length site.bytes) (addresses_from (wrap (reg v p)) (length (store_bytes (store_op (store_for type)) (reg v src)))) →
    ComesOut site start after Next [] (put_bytes v (wrap (reg v p)) (store_bytes (store_op (store_for type)) (reg v src))) s
atomic_store_out {site} {start} {after} {s} {v} type src p typed usable to e clear =
    let env = environment site start after in
    let op = store_for type in
    let ps = atomic_store_pieces type src p in
    let a = wrap (reg v p) in
    let bytes = store_bytes (store_op op) (reg v src) in
    let put = λ (b : ℕ) (n : ℕ). Some (points [] (put_bytes s.values b (store_bytes (store_op op) n)) (addresses_from b (length (store_bytes (store_op op) n)) ∷ [])) in
    writes_out ps (addresses_from a (length bytes) ∷ []) [] (put_bytes v a bytes) (tt, (tt, tt)) (clear, tt) e
    (record {
      count = 2;
      values = put_bytes s.values a bytes;
      ran = ap (λ c. and_then (if not c then put (address s.values p (pos 0)) (reg s.values src) else None) (evaluate env 0 ps)) (int_store type typed)
          ∙ (λ i. put (in_register p to e.same i) (sym (e.same.regs src usable) i));
      such = put_same v s.values a bytes (same_but [] e.same);
    })
    (λ all. put_values v a bytes e.are_values (stored_bytes op (reg v src)))
