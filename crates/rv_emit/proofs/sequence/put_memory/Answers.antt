use Rattle.std.proofs.lemmas.Bool.{or_parts}
use Rattle.rv_emit.proofs.Terms.{nat_tests}
use Rattle.std.specs.Prelude.{nat_lt}
use Rattle.rv_code.proofs.Operands.{not_false}
use Rattle.rv_inst.specs.Classes.{is_int_type}
use Rattle.rv_emit.proofs.{StackMaps.put_as, Terms.arith, Terms.false, Terms.refl, Terms.rules, Terms.ints_kept, Terms.kept, Terms.listed, Terms.load_addr_fine, Terms.load_fine, Terms.store_fine, Terms.number_of, Terms.context_by, Terms.registered_of, Terms.Emits, Terms.address_slots, Terms.load_line_slots, Terms.named_put, Terms.load_line_named, Terms.store_line_named}
use Rattle.rv_emit.proofs.sequence.put_memory.Goals as goal

pub returns-in_ok-place-in-Load-clause-parts : goal.returns-in_ok-place-in-Load-clause-parts
returns-in_ok-place-in-Load-clause-parts c =
    λ family. put_as _ (λ i. Emits (context_by c.args.flags c.args.frame.now (registered_of c.args.sink.now)) i c.args.sink.now c.put_load_line.new.sink) c.in-Load.is
    (λ p setting. named_put (load_line_slots c.args.flags (number_of c.in-Load.rd.reg) c.in-Load.op c.in-Load.access.trap) (load_line_named c.args.flags (number_of c.in-Load.rd.reg) c.in-Load.op c.in-Load.access.trap) _ _ _ _ (c.in_ok-place-in-Load.ensures.slots c.args.flags) p)
    (rw (c.trap_code.ensures, c.in_ok-place-in-Load.ensures.place) at c.put_load_line.ensures.slots)

pub returns-in_ok-place-in-Store-clause-parts : goal.returns-in_ok-place-in-Store-clause-parts
returns-in_ok-place-in-Store-clause-parts c =
    λ family. put_as _ (λ i. Emits (context_by c.args.flags c.args.frame.now (registered_of c.args.sink.now)) i c.args.sink.now c.put_store_line.new.sink) c.in-Store.is (λ p setting. store_line_named _ _ _ _ _ _ _ (c.in_ok-place-in-Store.ensures.slots c.args.flags) p)
    (rw (c.trap_code-in-Store.ensures, c.in_ok-place-in-Store.ensures.place) at c.put_store_line.ensures.slots)

pub returns-in_ok-place-in-LoadAddr-clause-parts : goal.returns-in_ok-place-in-LoadAddr-clause-parts
returns-in_ok-place-in-LoadAddr-clause-parts c =
    λ family. put_as _ (λ i. Emits (context_by c.args.flags c.args.frame.now (registered_of c.args.sink.now)) i c.args.sink.now c.put_address.new.sink) c.in-LoadAddr.is
    (λ p setting. named_put (address_slots c.args.flags (number_of c.in-LoadAddr.rd.reg)) (λ k. refl) _ _ _ _ (c.in_ok-place-in-LoadAddr.ensures.slots c.args.flags) p) (rw (c.in_ok-place-in-LoadAddr.ensures.place) at c.put_address.ensures.slots)

pub returns-in-LabelAddress-clause-parts : goal.returns-in-LabelAddress-clause-parts
returns-in-LabelAddress-clause-parts c = λ family. put_as _ (λ i. Emits (context_by c.args.flags c.args.frame.now (registered_of c.args.sink.now)) i c.args.sink.now c.put_label_address.new.sink) c.in-LabelAddress.is (λ p setting. p c.args.flags) c.put_label_address.ensures.slots

pub resolved_address-requires-clause-fine : goal.resolved_address-requires-clause-fine
resolved_address-requires-clause-fine c = (load_fine c.in-Load.is c.requires.rule).2

pub resolved_address-requires-in-Store-clause-fine : goal.resolved_address-requires-in-Store-clause-fine
resolved_address-requires-in-Store-clause-fine c = (store_fine c.in-Store.is c.requires.rule).1

pub resolved_address-requires-in-LoadAddr-clause-fine : goal.resolved_address-requires-in-LoadAddr-clause-fine
resolved_address-requires-in-LoadAddr-clause-fine c = (load_addr_fine c.in-LoadAddr.is c.requires.rule).1

pub put_load_line-requires : goal.put_load_line-requires
put_load_line-requires c = let h = load_fine c.in-Load.is c.requires.rule in record { rd = h.0; base = h.1; fine = search rules; room = search rules; sound = search rules }

pub put_store_line-requires-clause-src : goal.put_store_line-requires-clause-src
put_store_line-requires-clause-src c = (store_fine c.in-Store.is c.requires.rule).0

pub put_address-requires-clause-rd : goal.put_address-requires-clause-rd
put_address-requires-clause-rd c = (load_addr_fine c.in-LoadAddr.is c.requires.rule).0

pub put_label_address-requires : goal.put_label_address-requires
put_label_address-requires c =
    let label = listed c.in-LabelAddress.label false (kept c.in-LabelAddress.is c.requires.rule).listed in
    record { rd = (ints_kept c.in-LabelAddress.is c.requires.rule refl).0.0; label = search (rules, label); room = omega (arith, c.requires.room); sound = c.requires.sound }

pub returns-in-StackProbeLoop-clause-parts : goal.returns-in-StackProbeLoop-clause-parts
returns-in-StackProbeLoop-clause-parts c = λ family. put_as _ (λ i. Emits (context_by c.args.flags c.args.frame.now (registered_of c.args.sink.now)) i c.args.sink.now c.put_probe_loop.new.sink) c.in-StackProbeLoop.is (λ p setting. p) c.put_probe_loop.ensures.slots

pub put_probe_loop-requires-clause-tmp : goal.put_probe_loop-requires-clause-tmp
put_probe_loop-requires-clause-tmp c = (ints_kept c.in-StackProbeLoop.is c.requires.rule refl).0.0

pub returns-in-Fence-clause-parts : goal.returns-in-Fence-clause-parts
returns-in-Fence-clause-parts c = λ family. put_as _ (λ i. Emits (context_by c.args.flags c.args.frame.now (registered_of c.args.sink.now)) i c.args.sink.now c.put_fence.new.sink) c.in-Fence.is (λ p setting. p) c.put_fence.ensures.slots

pub put_fence-requires : goal.put_fence-requires
put_fence-requires c =
    let both = or_parts (nat_lt 15 c.in-Fence.pred) (nat_lt 15 c.in-Fence.succ) (kept c.in-Fence.is c.requires.rule).ranged in
    record { pred = grind (arith, nat_tests, both.0); succ = grind (arith, nat_tests, both.1); room = omega (arith, c.requires.room); sound = c.requires.sound }

pub returns-in-AtomicLoad-clause-parts : goal.returns-in-AtomicLoad-clause-parts
returns-in-AtomicLoad-clause-parts c = λ family. put_as _ (λ i. Emits (context_by c.args.flags c.args.frame.now (registered_of c.args.sink.now)) i c.args.sink.now c.put_atomic_load.new.sink) c.in-AtomicLoad.is (λ p setting. p) c.put_atomic_load.ensures.slots

pub put_atomic_load-requires : goal.put_atomic_load-requires
put_atomic_load-requires c =
    let all = ints_kept c.in-AtomicLoad.is c.requires.rule refl in
    record { ty = not_false (is_int_type c.in-AtomicLoad.ty) (kept c.in-AtomicLoad.is c.requires.rule).typed; rd = all.0.0; p = all.1.0.0; few = omega (arith, c.requires.few); room = omega (arith, c.requires.room); sound = c.requires.sound }

pub returns-in-AtomicStore-clause-parts : goal.returns-in-AtomicStore-clause-parts
returns-in-AtomicStore-clause-parts c = λ family. put_as _ (λ i. Emits (context_by c.args.flags c.args.frame.now (registered_of c.args.sink.now)) i c.args.sink.now c.put_atomic_store.new.sink) c.in-AtomicStore.is (λ p setting. p) c.put_atomic_store.ensures.slots

pub put_atomic_store-requires : goal.put_atomic_store-requires
put_atomic_store-requires c =
    let all = ints_kept c.in-AtomicStore.is c.requires.rule refl in
    record { ty = not_false (is_int_type c.in-AtomicStore.ty) (kept c.in-AtomicStore.is c.requires.rule).typed; src = all.0.0; p = all.1.0.0; few = omega (arith, c.requires.few); room = omega (arith, c.requires.room); sound = c.requires.sound }
