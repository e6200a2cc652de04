-- A step of the machine with all units keeps its numbers in their ranges.
use Rattle.std.proofs.Common.{◌≡◌, ℕ, ◌+◌, ◌*◌, ◌/◌, ◌%◌, ◌^◌, ◌<◌, nat_eq, Bool, true, false, Option, Some, None, if◌then◌else◌, List, [], ◌∷◌, refl, rules, arith, mod-lt, pow_pos, subst}
use Rattle.std.specs.Prelude.{IfSome}
use Rattle.std.specs.List.{AllByRecursion}
use Rattle.rv_base.specs.declared.flags.IsaFlags.{IsaFlags}
use Rattle.rv_machine.specs.declared.decoding.Decoded.{Decoded}
use Rattle.rv_machine.specs.declared.ops.BaseOp.{BaseOp}
use Rattle.rv_machine.specs.declared.ops.BaseOp.TheVariants.{Lui, Auipc, Jal, Jalr, Beq, Bne, Blt, Bge, Bltu, Bgeu, Fence, Ebreak}
use Rattle.rv_machine.specs.declared.ops.MOp.{MOp}
use Rattle.rv_machine.specs.declared.ops.MOp.TheVariants.{Base, Load, Store, Alu, Carry, Atomic, Csr, FloatLoad, FloatStore, Float, VecMem, Vec}
use Rattle.rv_machine.specs.declared.ops.StoreOp.{StoreOp}
use Rattle.rv_machine.specs.declared.ops.StoreOp.TheVariants.{Sb, Sh, Sw, Sd}
use Rattle.rv_machine.specs.State.{IsState, State, at, set_reg, wrap}
use Rattle.rv_machine.specs.Memory.{store_bytes}
use Rattle.rv_machine.specs.Effects.{act_on, address_of, base_act, branches, imm_of, x_of, y_of}
use Rattle.rv_machine.specs.Decode.{decode, int_decode}
use Rattle.rv_machine.specs.Steps.{fetch, istep, step_on}
use Rattle.rv_machine.proofs.Ranges.{alu_result_fits}
use Rattle.rv_machine.proofs.States.{are_values_set}
use Rattle.rv_full.specs.declared.answer.Answer.{Answer}
use Rattle.rv_full.specs.Units.{AnswerFits, FullState, FullValues, IsFullState, values_of}
use Rattle.rv_full.specs.Rows.{Kind, Row, Absent, Does, Takes, first, fits, rest}
use Rattle.rv_full.specs.UnitRows.{unit_row}
use Rattle.rv_full.specs.Steps.{Asks, Goes, Halts, Next, fnext, fstep, next_by, row_next, stepped, taken, unit_next, unit_on}
use Rattle.rv_full.proofs.DecodedRanges.{IsRanged, decoded_ranged, integer_ranged}
use Rattle.rv_full.proofs.RowsKeep.{AreFull, IsKept, load_fits, row_kept, stored_fit}

-- ---- operations of the integer machine

wrapped : (n : ℕ) → wrap n < 2 ^ 64
wrapped n = mod-lt n (pow_pos 64)

put_kept : (d : Decoded) (s : State) (pc x : ℕ) → IsRanged d → IsState s → pc < 2 ^ 64 → x < 2 ^ 64 → IsState (at pc (set_reg s.values d.rd x))
put_kept d s pc x r h fits_pc fits = record { pc = fits_pc; values = are_values_set s.values d.rd x h.values r.rd fits }

branch_kept : (d : Decoded) (s : State) (c : Bool) → IsState s → IsState (branches d s c)
branch_kept d s true h = record { pc = wrapped _; values = h.values }
branch_kept d s false h = record { pc = wrapped _; values = h.values }

-- an even address
halved : (n : ℕ) → n < 2 ^ 64 → n / 2 * 2 < 2 ^ 64
halved n lt = omega arith

base_kept : (op : BaseOp) (d : Decoded) (s : State) → IsRanged d → IsState s → IfSome (base_act op d s) IsState
base_kept Lui d s r h = put_kept d s _ _ r h (wrapped _) (wrapped _)
base_kept Auipc d s r h = put_kept d s _ _ r h (wrapped _) (wrapped _)
base_kept Jal d s r h = put_kept d s _ _ r h (wrapped _) (wrapped _)
base_kept Jalr d s r h = put_kept d s _ _ r h (halved (wrap (x_of d s + imm_of d)) (wrapped _)) (wrapped _)
base_kept Beq d s r h = branch_kept d s _ h
base_kept Bne d s r h = branch_kept d s _ h
base_kept Blt d s r h = branch_kept d s _ h
base_kept Bge d s r h = branch_kept d s _ h
base_kept Bltu d s r h = branch_kept d s _ h
base_kept Bgeu d s r h = branch_kept d s _ h
base_kept Fence d s r h = record { pc = wrapped _; values = h.values }
base_kept Ebreak d s r h = tt

store_bytes_fit : (op : StoreOp) (x : ℕ) → AllByRecursion (λ b. b < 256) (store_bytes op x)
store_bytes_fit Sb x = search (rules, arith)
store_bytes_fit Sh x = search (rules, arith)
store_bytes_fit Sw x = search (rules, arith)
store_bytes_fit Sd x = search (rules, arith)

act_kept : (op : MOp) (d : Decoded) (s : State) → IsRanged d → IsState s → IfSome (act_on op d s) IsState
act_kept (Base op) d s r h = base_kept op d s r h
act_kept (Load op) d s r h = put_kept d s _ _ r h (wrapped _) (load_fits op s.values.mem (address_of d s) h.values.bytes)
act_kept (Store op) d s r h = record { pc = wrapped _; values = stored_fit s.values.regs s.values.mem (address_of d s) (store_bytes op (y_of d s)) (store_bytes_fit op (y_of d s)) h.values }
act_kept (Alu op) d s r h = put_kept d s _ _ r h (wrapped _) (alu_result_fits op (x_of d s) (y_of d s) (imm_of d) (h.values.fits d.rs1) (h.values.fits d.rs2) r.imm)
act_kept (Carry op) d s r h = tt
act_kept (Atomic op width) d s r h = tt
act_kept (Csr op) d s r h = tt
act_kept (FloatLoad format) d s r h = tt
act_kept (FloatStore format) d s r h = tt
act_kept (Float format op) d s r h = tt
act_kept (VecMem op) d s r h = tt
act_kept (Vec funct6 funct3) d s r h = tt

on_kept : (o : Option Decoded) (s : State) → ((d : Decoded) → o ≡ Some d → IsRanged d) → IsState s → IfSome (step_on o s) IsState
on_kept None s r h = tt
on_kept (Some d) s r h = act_kept d.op d s (r d refl) h

integer_kept : (flags : IsaFlags) (s : State) → IsState s → IfSome (istep flags s) IsState
unfolding istep
integer_kept flags s h = at_even (nat_eq (s.pc % 2) 0)
  where
    at_even : (c : Bool) → IfSome (if c then step_on (int_decode flags (fetch s.values.mem s.pc)) s else None) IsState
    at_even true = on_kept (int_decode flags (fetch s.values.mem s.pc)) s (integer_ranged flags (fetch s.values.mem s.pc)) h
    at_even false = tt

-- ---- what comes next

abbrev IsNext : Next → Type 0
IsNext (Goes b) = IsFullState b
IsNext Asks = Unit {0}
IsNext Halts = Unit {0}

full_kept : (pc : ℕ) (v : FullValues) (answers : List Answer) → pc < 2 ^ 64 → AreFull v → AllByRecursion AnswerFits answers → IsNext (row_next pc (Does v) answers)
full_kept pc v answers fits h left = record { state = record { pc = fits; values = h.ints }; units = h.units; answers = left }

taken_kept : (pc : ℕ) (kind : Kind) (f : Answer → FullValues) (answers : List Answer) → pc < 2 ^ 64 → IsKept (Takes kind f) → AllByRecursion AnswerFits answers → IsNext (taken pc kind f (first answers) (rest answers))
taken_kept pc kind f [] lt h left = tt
taken_kept pc kind f (a ∷ more) lt h left = on (fits kind a)
  where
    on : (c : Bool) → IsNext (if c then row_next pc (Does (f a)) more else Asks)
    on true = full_kept pc (f a) more lt (h a left.0) left.1
    on false = tt

row_next_kept : (pc : ℕ) (row : Row) (answers : List Answer) → pc < 2 ^ 64 → IsKept row → AllByRecursion AnswerFits answers → IsNext (row_next pc row answers)
row_next_kept pc Absent answers lt h left = tt
row_next_kept pc (Does v) answers lt h left = full_kept pc v answers lt h left
row_next_kept pc (Takes kind f) answers lt h left = taken_kept pc kind f answers lt h left

unit_on_kept : (o : Option Decoded) (b : FullState) → ((d : Decoded) → o ≡ Some d → IsRanged d) → IsFullState b → IsNext (unit_on o b)
unit_on_kept None b r h = tt
unit_on_kept (Some d) b r h = row_next_kept _ (unit_row d (values_of b)) b.answers (wrapped _) (row_kept d.op d (values_of b) (r d refl) (record { ints = h.state.values; units = h.units })) h.answers

unit_kept : (flags : IsaFlags) (b : FullState) → IsFullState b → IsNext (unit_next flags b)
unit_kept flags b h = at_even (nat_eq (b.state.pc % 2) 0)
  where
    at_even : (c : Bool) → IsNext (if c then unit_on (decode flags (fetch b.state.values.mem b.state.pc)) b else Halts)
    at_even true = unit_on_kept (decode flags (fetch b.state.values.mem b.state.pc)) b (decoded_ranged flags (fetch b.state.values.mem b.state.pc)) h
    at_even false = tt

next_kept : (flags : IsaFlags) (o : Option State) (b : FullState) → IfSome o IsState → IsFullState b → IsNext (next_by flags o b)
next_kept flags None b integer h = unit_kept flags b h
next_kept flags (Some t) b integer h = record { state = integer; units = h.units; answers = h.answers }

stepped_kept : (next : Next) (c : FullState) → IsNext next → stepped next ≡ Some c → IsFullState c
stepped_kept (Goes b) c h is = let same : b ≡ c = cc in subst IsFullState same h
stepped_kept Asks c h is = absurd (cc)
stepped_kept Halts c h is = absurd (cc)

pub step_kept : (flags : IsaFlags) (b c : FullState) → IsFullState b → fstep flags b ≡ Some c → IsFullState c
unfolding fnext
step_kept flags b c h went = stepped_kept (fnext flags b) c (next_kept flags (istep flags b.state) b (integer_kept flags b.state h.state) h) went
