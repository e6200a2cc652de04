-- No step of the integer machine takes a byte's entry away.
use Rattle.std.proofs.Common.{◌≡◌, ◌∙◌, ℕ, ◌+◌, Bool, true, false, cond, List, [], ◌∷◌, Option, sym}
use Rattle.std.specs.Prelude.{Some, None, IfSome, if◌then◌else◌, nat_eq, ◌%◌}
use Rattle.std.specs.Cmp.{nat_cmp_total}
use Rattle.std.specs.Ordering.{nat_cmp, eq_by_cmp}
use Rattle.std.specs.FinMap as map
use Rattle.rv_base.specs.declared.flags.IsaFlags.{IsaFlags}
use Rattle.rv_machine.specs.declared.decoding.Decoded.{Decoded}
use Rattle.rv_machine.specs.declared.ops.MOp.{MOp}
use Rattle.rv_machine.specs.declared.ops.MOp.TheVariants.{Base, Load, Store, Alu, Carry, Atomic, Csr, FloatLoad, FloatStore, Float, VecMem, Vec}
use Rattle.rv_machine.specs.declared.ops.BaseOp.{BaseOp}
use Rattle.rv_machine.specs.declared.ops.BaseOp.TheVariants.{Lui, Auipc, Jal, Jalr, Beq, Bne, Blt, Bge, Bltu, Bgeu, Fence, Ebreak}
use Rattle.rv_machine.specs.Decode.{int_decode}
use Rattle.rv_machine.specs.Effects.{act_on, base_act, address_of, y_of}
use Rattle.rv_machine.specs.Memory.{store_bytes}
use Rattle.rv_machine.specs.State.{Memory, State, store, wrap}
use Rattle.rv_machine.specs.Steps.{fetch, istep, step_on}

-- what has no entry in one memory has none in the memory before it
abbrev pub Grows : Memory → Memory → Type 0
Grows old new = (a : ℕ) → map.get new a ≡ None → map.get old a ≡ None

pub insert_grows : (mem : Memory) (k v : ℕ) → Grows mem (map.insert mem k v)
insert_grows mem k v a e = on (eq_by_cmp nat_cmp a k) (sym (map.get-insert nat_cmp_total mem k v a) ∙ e)
  where
    on : (b : Bool) → cond b (Some v) (map.get mem a) ≡ None → map.get mem a ≡ None
    on true e = absurd (cc)
    on false e = e

pub store_grows : (bytes : List ℕ) (mem : Memory) (at : ℕ) → Grows mem (store mem at bytes)
store_grows [] mem at a e = e
store_grows (b ∷ bs) mem at a e = insert_grows mem at b a (store_grows bs (map.insert mem at b) (wrap (at + 1)) a e)

-- a state, where there is one, has a memory that grew from this one
abbrev pub Has : Memory → Option State → Type 0
Has mem next = IfSome next (λ s. Grows mem s.values.mem)

base_grows : (op : BaseOp) (d : Decoded) (s : State) → Has s.values.mem (base_act op d s)
base_grows Lui d s = λ a e. e
base_grows Auipc d s = λ a e. e
base_grows Jal d s = λ a e. e
base_grows Jalr d s = λ a e. e
base_grows Beq d s = λ a e. e
base_grows Bne d s = λ a e. e
base_grows Blt d s = λ a e. e
base_grows Bge d s = λ a e. e
base_grows Bltu d s = λ a e. e
base_grows Bgeu d s = λ a e. e
base_grows Fence d s = λ a e. e
base_grows Ebreak d s = tt

op_grows : (op : MOp) (d : Decoded) (s : State) → Has s.values.mem (act_on op d s)
op_grows (Base op) d s = base_grows op d s
op_grows (Load op) d s = λ a e. e
op_grows (Store op) d s = store_grows (store_bytes op (y_of d s)) s.values.mem (address_of d s)
op_grows (Alu op) d s = λ a e. e
op_grows (Carry op) d s = tt
op_grows (Atomic op width) d s = tt
op_grows (Csr op) d s = tt
op_grows (FloatLoad format) d s = tt
op_grows (FloatStore format) d s = tt
op_grows (Float format op) d s = tt
op_grows (VecMem op) d s = tt
op_grows (Vec funct6 funct3) d s = tt

decoded_grows : (o : Option Decoded) (s : State) → Has s.values.mem (step_on o s)
decoded_grows None s = tt
decoded_grows (Some d) s = op_grows d.op d s

where_grows : (b : Bool) (mem : Memory) (next : Option State) → Has mem next → Has mem (if b then next else None)
where_grows true mem next has = has
where_grows false mem next has = tt

pub step_grows : (flags : IsaFlags) (s : State) → Has s.values.mem (istep flags s)
unfolding istep
step_grows flags s =
    where_grows (nat_eq (s.pc % 2) 0) s.values.mem (step_on (int_decode flags (fetch s.values.mem s.pc)) s) (decoded_grows (int_decode flags (fetch s.values.mem s.pc)) s)
