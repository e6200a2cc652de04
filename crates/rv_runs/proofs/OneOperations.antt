-- Instructions that become one operation, on either machine.
use Rattle.std.proofs.Common.{ℤ}
use Rattle.rv_code.proofs.Operands.{Keeps}
use Rattle.rv_ops.specs.Operations.{is_carry_line, is_carry_unary}
use Rattle.{rv_code.proofs.Operands.are_usable, rv_encode.specs.Operations.decoded, rv_imms.specs.declared.imm12.Imm12.Imm12, rv_inst.specs.Forms.{chosen, short_rri, short_rrr}, rv_runs.proofs.UnitRuns.carry_agrees, rv_runs.specs.FullMeaning.of_unit}
use Rattle.{rv_machine.specs.declared.ops.AluOp.TheVariants.Bit, rv_machine.specs.declared.ops.BitOp.TheVariants.ZextH, rv_machine.specs.declared.ops.CarryOp.CarryOp, rv_machine.specs.declared.ops.MOp.TheVariants.{Alu, Carry}}
use Rattle.rv_machine.specs.declared.ops.CarryOp.TheVariants as carry
use Rattle.rv_ops.specs.declared.alu.{AluOPRRI.AluOPRRI, AluOPRRR.AluOPRRR}
use Rattle.rv_ops.specs.declared.alu.AluOPRRI.TheVariants as rri
use Rattle.rv_ops.specs.declared.alu.AluOPRRR.TheVariants as rrr
use Rattle.rv_code.{proofs.LineSlots.access_is, proofs.Operands.{are_usable_in, or_left}, proofs.OperationActs.{Does, short_ebreak_is, short_jalr_does, short_load_does, short_lui_does, short_rri_does, short_rrr_does, short_store_does}, specs.Accesses.access_pieces, specs.Pieces.Action, specs.UnitWrites.unit_writes}
use Rattle.rv_inst.{proofs.Descriptions.IsUnit, specs.Rules.{Faults, is_out_of_place}, specs.Meaning.AreOutside, specs.Sizes.{address_operation, load_operation, move_op, move_operation, store_operation}, specs.declared.inst.Inst.TheVariants.{Fence, AluRRImm12, AluRRR, Auipc, EBreak, Extend, Jalr, Load, LoadAddr, Lui, Mov, MovFromPReg, Nop4, Ret, Store}}
use Rattle.{rv_machine.{proofs.States.zero_state, proofs.UnitOperations.acts_integer, specs.Decode.{decode, int_decode}, specs.Steps.zero_at}, rv_ops.{specs.FloatFields.width_of, specs.declared.float_fields.FpuOPWidth.TheVariants.D}, rv_runs.proofs.Exits.{comes_out, same_but}}
use Rattle.rv_runs.{proofs.FullCallRuns.ends_at_once, proofs.PlainRuns.nothing_out, proofs.UnitRuns.{fiter_one, parts_are, row_comes, shape_agrees, unit_next_at, unit_operation}}
use Rattle.rv_runs.proofs.Words.{Addi, Andi, Answer, AreUsableIn, AtStart, Based, CodeHas, Context, Decoded, Do, EmitVState, EndsAsMeant, Enters, Environment, Exit, Float, FullComesOut, FullEnds, FullMeaning, FullState, FullValues, Inst, IrType, IsAt, IsFullState, IsIntegerLoad, IsIntegerStore}
use Rattle.rv_runs.proofs.Words.{IsPlacedAt, IsaFlags, LoadOP, Location, Memory, Next, Op, Part, PartsStand, Piece, Put, Reg, RegClass, Row, RowAsks, RowGoes, RowsAgree, Rri, SameFull, Sign, Site, State, StoreOP, TrapCode, Writable, access_slots, act, address_slots, answers_of, class_of, context_by}
use Rattle.rv_runs.proofs.Words.{environment, family_of, fetch, fiter_none, format_of, full_at, goes_none, has_load, has_store, inst_exit, inst_meaning, inst_rule, inst_temporaries, integer_decodes, is_byte, is_float, is_float_class, is_float_load, is_float_store, is_integer, is_integer_family}
use Rattle.rv_runs.proofs.Words.{is_integer_op, is_near, is_reserved, is_unit, is_virtual, keeps, list_any, load_slots, location_of, meaning_by, move_action, move_pieces, move_row, not_true, number_below, number_of, of_float_move, of_integers, op_of, operands_of, operation_of, operation_row, parts_of}
use Rattle.rv_runs.{proofs.Words.{row_takes, same_Some, slots_alone, slots_of, store_slots, unit_row, values_of, wrap}, specs.FullInstRuns.{FullyAsks, WritesElsewhere}, specs.FullMeaning.operation_writes}
use Rattle.std.proofs.Common.{Bool, List, None, Option, Some, [], ap, arith, false, if◌then◌else◌, inl, inr, length, lit<, nat_eq, not, pos, refl, rules, subst, sym, true, unwrap_or, ℕ, ⊎_elim, ◌&&◌, ◌*◌, ◌++◌, ◌+◌, ◌<◌, ◌∙◌, ◌∷◌, ◌≡◌, ◌⊎◌}
use Rattle.rv_code.specs.Pieces as piece

-- An instruction of one machine word becomes one operation, which is read where it starts.

-- what has a step is an integer operation
does_integer : {work : State → ℕ → State} {d : Decoded} → Does work d → is_integer_op d.op ≡ true
does_integer {work} {d} h = acts_integer d.op d (zero_at 0) _ (h.acts (zero_at 0) (zero_state 0 (lit< tt)).values)

-- An instruction of one machine word becomes its operation alone, after the record of its trap where it may trap; of the integer core, the
-- operation is one of integers.
pub record IsAlone (core : Bool) (parts : List Part) (d : Decoded) : Type 0 where
  pub trap : Option TrapCode
  pub only : parts ≡ slots_alone (access_slots trap ++ Op d ∷ [])
  pub integer : core ≡ true → is_integer_op d.op ≡ true

after_trap : {core : Bool} {d : Decoded} (trap : Option TrapCode) (x : Decoded) → (core ≡ true → is_integer_op x.op ≡ true) → Some x ≡ Some d → IsAlone core (slots_alone (access_slots trap ++ Op x ∷ [])) d
after_trap {core} {d} trap x integer e = subst (λ (y : Decoded). IsAlone core (slots_alone (access_slots trap ++ Op x ∷ [])) y) (same_Some x d e) (record { trap = trap; only = refl; integer = integer })

alone : {core : Bool} {d : Decoded} (x : Decoded) → is_integer_op x.op ≡ true → Some x ≡ Some d → IsAlone core (slots_alone (Op x ∷ [])) d
alone x integer e = after_trap None x (λ core. integer) e

-- one of integers in the core
maybe : {core : Bool} {d : Decoded} (x : Decoded) → (core ≡ true → is_integer_op x.op ≡ true) → Some x ≡ Some d → IsAlone core (slots_alone (Op x ∷ [])) d
maybe x integer e = after_trap None x integer e

unless : {core : Bool} {d : Decoded} (flags : IsaFlags) (c : Bool) (a : Action) → (core ≡ true → is_integer_op (op_of flags a).op ≡ true) → (if c then None else Some (op_of flags a)) ≡ Some d → IsAlone core (slots_alone (slots_of flags (if c then [] else Do a ∷ []))) d
unless flags true a integer e = absurd (cc)
unless flags false a integer e = after_trap None (op_of flags a) integer e

moves : {d : Decoded} (flags : IsaFlags) (class : RegClass) (type : IrType) (rd rs : ℕ) → move_operation flags class type rd rs ≡ Some d → IsAlone (not (is_float_class class)) (slots_alone (slots_of flags (move_pieces class type rd rs))) d
moves flags Float type rd rs e = unless flags (nat_eq rd rs) (move_action Float type rd rs) (λ core. absurd (cc)) e
moves flags _ type rd rs e = unless flags (nat_eq rd rs) (Rri Addi rd rs (pos 0)) (λ core. does_integer (short_rri_does flags Addi rd rs (pos 0) refl)) e

either : {core : Bool} {d : Decoded} (flags : IsaFlags) (c : Bool) (o : Option Decoded) (ps others : List Piece) → (o ≡ Some d → IsAlone core (slots_alone (slots_of flags ps)) d) → (if c then o else None) ≡ Some d → IsAlone core (slots_alone (slots_of flags (if c then ps else others))) d
either flags true o ps others alone e = alone e
either flags false o ps others alone e = absurd (cc)

near : {core : Bool} {d : Decoded} (flags : IsaFlags) (c : Bool) (trap : Option TrapCode) (a : Action) (far : List Piece) → (core ≡ true → is_integer_op (op_of flags a).op ≡ true) → (if c then Some (op_of flags a) else None) ≡ Some d → IsAlone core (slots_alone (slots_of flags (if c then access_pieces trap ++ Do a ∷ [] else far))) d
near {core} {d} flags c trap a far integer e = either flags c (Some (op_of flags a)) (access_pieces trap ++ Do a ∷ []) far (λ e. subst (λ slots. IsAlone core (slots_alone slots) d) (sym (access_is flags trap (Do a ∷ []))) (after_trap trap (op_of flags a) integer e)) e

loads : {core : Bool} {d : Decoded} (flags : IsaFlags) (op : LoadOP) (rd : ℕ) (trap : Option TrapCode) (location : Location) → (core ≡ true → IsIntegerLoad op) → load_operation flags op rd location ≡ Some d → IsAlone core (slots_alone (load_slots flags rd op trap location)) d
loads flags op rd trap (Based r o) integer e = near flags (is_near o) trap (piece.Load op rd r o) _ (λ core. does_integer (short_load_does flags op rd r o (integer core))) e
loads flags op rd trap _ integer e = absurd (cc)

stores : {core : Bool} {d : Decoded} (flags : IsaFlags) (op : StoreOP) (src : ℕ) (trap : Option TrapCode) (location : Location) → (core ≡ true → IsIntegerStore op) → store_operation flags op src location ≡ Some d → IsAlone core (slots_alone (store_slots flags op src trap location)) d
stores flags op src trap (Based r o) integer e = near flags (is_near o) trap (piece.Store op r src o) _ (λ core. does_integer (short_store_does flags op r src o (integer core))) e
stores flags op src trap _ integer e = absurd (cc)

addresses : {core : Bool} {d : Decoded} (flags : IsaFlags) (rd : ℕ) (location : Location) → address_operation flags rd location ≡ Some d → IsAlone core (slots_alone (address_slots flags rd location)) d
addresses flags rd (Based r o) e = near flags (is_near o) None (Rri Addi rd r o) _ (λ core. does_integer (short_rri_does flags Addi rd r o refl)) e
addresses flags rd _ e = absurd (cc)

-- of the families of integers
of_integer_family : (context : Context) (setting : EmitVState) (inst : Inst) (d : Decoded) → is_integer_family (family_of inst) ≡ true → operation_of context inst ≡ Some d → IsAlone (is_integer inst) (parts_of context setting inst) d
of_integer_family context setting Nop4 d family e = alone _ refl e
of_integer_family context setting EBreak d family e = alone _ (ap is_integer_op (short_ebreak_is context.flags)) e
of_integer_family context setting (Lui rd imm) d family e = alone _ (does_integer (short_lui_does context.flags (number_of rd.reg) imm.value)) e
of_integer_family context setting (Auipc rd imm) d family e = alone _ refl e
of_integer_family context setting (Fence pred succ) d family e = alone _ refl e
of_integer_family context setting (AluRRR op rd rs1 rs2) d family e = maybe _ (λ core. does_integer (short_rrr_does context.flags op (number_of rd.reg) (number_of rs1) (number_of rs2) (not_true (is_carry_line op (number_of rs2)) core))) e
of_integer_family context setting (AluRRImm12 op rd rs imm) d family e = maybe _ (λ core. does_integer (short_rri_does context.flags op (number_of rd.reg) (number_of rs) imm.value (not_true (is_carry_unary op) core))) e
of_integer_family context setting (Mov rd rm type) d family e = moves context.flags (class_of rd.reg) type (number_of rd.reg) (number_of rm) e
of_integer_family context setting (MovFromPReg rd rm) d family e = unless context.flags (nat_eq (number_of rd.reg) rm.number) (Rri Addi (number_of rd.reg) rm.number (pos 0)) (λ core. does_integer (short_rri_does context.flags Addi (number_of rd.reg) rm.number (pos 0) refl)) e
of_integer_family context setting (Extend rd rn signed from_bits to_bits) d family e = near context.flags (is_byte signed from_bits) None (Rri Andi (number_of rd.reg) (number_of rn) (pos 255)) _ (λ core. does_integer (short_rri_does context.flags Andi (number_of rd.reg) (number_of rn) (pos 255) refl)) e
of_integer_family context setting (Load rd op flags from) d family e = either context.flags (has_load context.flags op) _ _ _ (loads context.flags op (number_of rd.reg) flags.trap (location_of context.frame from) (not_true (is_float_load op))) e
of_integer_family context setting (Store src op flags to) d family e = either context.flags (has_store context.flags op) _ _ _ (stores context.flags op (number_of src) flags.trap (location_of context.frame to) (not_true (is_float_store op))) e
of_integer_family context setting (LoadAddr rd mem) d family e = addresses context.flags (number_of rd.reg) (location_of context.frame mem) e
of_integer_family context setting Ret d family e = alone _ (does_integer (short_jalr_does context.flags 0 1 (pos 0))) e
of_integer_family context setting (Jalr rd base offset) d family e = alone _ (does_integer (short_jalr_does context.flags (number_of rd.reg) (number_of base) offset.value)) e
of_integer_family context setting inst d family e = absurd (cc)

pub one_slot : (context : Context) (setting : EmitVState) (inst : Inst) (d : Decoded) → operation_of context inst ≡ Some d → IsAlone (is_integer inst) (parts_of context setting inst) d
one_slot context setting inst d e =
    (elim (is_integer_family (family_of inst)) as (λ c. is_integer_family (family_of inst) ≡ c → IsAlone (is_integer inst) (parts_of context setting inst) d) [
      | true ↦ λ family. of_integer_family context setting inst d family e
      | false ↦ λ family. let u = is_unit inst family in subst (λ parts. IsAlone (is_integer inst) parts d) (sym (parts_are context setting inst u.word u.is))
          (after_trap u.word.trap u.word.operation (λ core. let none : false ≡ true = sym (ap (λ c. c && not (operands_of inst).leaves_integers) family) ∙ core in absurd (cc)) (sym (λ i. (u.code context i).operation) ∙ e))
    ]) refl

module _ (site : Site) (start : ℕ) (d : Decoded) where
  pub stands_alone : (trap : Option TrapCode) (after : ℕ) → PartsStand site start after (slots_alone (access_slots trap ++ Op d ∷ [])) → CodeHas site start (d ∷ [])
  stands_alone None after p = p.1.0
  stands_alone (Some code) after p = p.1.1.0

  -- the operation is read there by the decoder of all units' operations
  pub reads_operation : (setting : EmitVState) (inst : Inst) (after : ℕ) → operation_of site.context inst ≡ Some d → PartsStand site start after (parts_of site.context setting inst) → (mem : Memory) → IsPlacedAt site mem → decode site.context.flags (fetch mem (site.base + start)) ≡ Some d
  reads_operation setting inst after e p mem placed =
      let a = one_slot site.context setting inst d e in
      (stands_alone a.trap after (subst (PartsStand site start after) a.only p) mem placed).0

  -- and by that of integer operations, where it is one
  pub has_operation : (setting : EmitVState) (inst : Inst) (after : ℕ) → is_integer inst ≡ true → operation_of site.context inst ≡ Some d → PartsStand site start after (parts_of site.context setting inst) → (mem : Memory) → IsPlacedAt site mem → int_decode site.context.flags (fetch mem (site.base + start)) ≡ Some d
  has_operation setting inst after core e p mem placed = integer_decodes site.context.flags (fetch mem (site.base + start)) d ((one_slot site.context setting inst d e).integer core) (reads_operation setting inst after e p mem placed)

-- Instructions that do one operation's row: the machine with all units does it, comes to where the instruction ends, and takes the answer
-- that the row takes; or it asks for one, where those that are left don't begin with one of its kind. They are the words of units, and
-- moves of a floating-point register, but for one to itself, which does nothing.

-- the machine with all units comes out of an instruction, from its start, as that means
abbrev pub OutAsMeant : Site → ℕ → ℕ → Inst → FullValues → FullState → Type 0
OutAsMeant site start after inst v b = EndsAsMeant site start after (inst_meaning AtStart inst) (inst_exit (environment site start after) inst v.ints) (inst_temporaries inst) v b

-- or it asks for an answer
abbrev pub ComesAsMeant : Site → ℕ → ℕ → Inst → FullValues → FullState → Type 0
ComesAsMeant site start after inst v b = OutAsMeant site start after inst v b ⊎ FullyAsks site start after (inst_meaning AtStart inst) v b

-- where the parts end, it is out
pub out_at_end : {site : Site} {after : ℕ} {made : FullValues} {took : List Answer} {b : FullState} (start : ℕ) (inst : Inst) (v : FullValues) → FullComesOut site after (inst_temporaries inst) made took b → inst_exit (environment site start after) inst v.ints ≡ Next → (inst_meaning AtStart inst).takes (environment site start after) v ((inst_meaning AtStart inst).own_of took) ≡ Some (made, []) → OutAsMeant site start after inst v b
out_at_end {site} {after} {made} {took} {b} start inst v g exit takes = record {
  took = took;
  made = made;
  takes = takes;
  ends = subst (λ (x : Exit). FullEnds site start after x (inst_temporaries inst) made took b) (sym exit) (record {
    steps = g.steps;
    state = g.state;
    ran = g.ran;
    last = comes_out g.state.state (goes_none site.context.flags g.state.state) g.pc (search (rules, g));
    units = g.same.units;
    is_state = g.is_state;
    answers = g.answers;
    setting = g.setting;
  });
}

-- ---- rows

-- an instruction that means what an operation's row does
abbrev of_row : (Environment → FullValues → Row) → (Environment → FullValues → List Answer → List ℕ) → FullMeaning
of_row row writes = record { takes = λ env v answers. row_takes (row env v) answers; writes = writes; own_answers = λ env v. answers_of (row env v); own_of = λ took. took; asks_once = true }

-- The operation is all of the instruction's code, none of integers, and its rows agree; the instruction means its row, writes what that
-- writes, which is elsewhere, and goes on.
record IsRow (site : Site) (start after : ℕ) (inst : Inst) (d : Decoded) (v : FullValues) (b : FullState) : Type 0 where
  has : CodeHas site start (d ∷ [])
  long : d.len ≡ 4
  ends : start + 4 ≡ after
  none : act d b.state ≡ None
  agree : RowsAgree (unit_writes d v) (values_of b) (unit_row d v) (unit_row d (values_of b))
  means : inst_meaning AtStart inst ≡ of_row (λ env v. unit_row d v) (λ env v. unit_writes d v)
  clear : WritesElsewhere site.base (length site.bytes) (inst_meaning AtStart inst) (environment site start after) v b.answers
  temporaries : inst_temporaries inst ≡ []
  exit : inst_exit (environment site start after) inst v.ints ≡ Next

-- the address after an operation's word
abbrev pc_after : Decoded → FullState → ℕ
pc_after d b = wrap (b.state.pc + d.len)

module _ {site : Site} {start after : ℕ} {parts : List Part} (inst : Inst) {v : FullValues} {b : FullState} (e : Enters site start after parts b.state v.ints) (full : IsFullState b) (d : Decoded) where
  row_runs : IsRow site start after inst d v b → ComesAsMeant site start after inst v b
  row_runs h =
      let is_at : IsAt site start 4 b.state = record { even = e.even; room = let w = e.within in let ends = h.ends in omega arith; placed = e.placed; pc = e.pc } in
      let next = unit_next_at b d [] h.none is_at (lit< tt) h.has in
      ⊎_elim
      (λ (g : RowGoes (unit_writes d v) (pc_after d b) (values_of b) (unit_row d v) (unit_row d (values_of b)) b.answers).
      let takes = subst (λ (m : FullMeaning). m.takes (environment site start after) v (m.own_of g.took) ≡ Some (g.made, [])) (sym h.means) g.takes in
      inl (out_at_end start inst v (subst (λ free. FullComesOut site after free g.made g.took b) (sym h.temporaries) (record {
        steps = 1;
        state = full_at (pc_after d b) g.after g.left;
        ran = fiter_one site.context.flags b (full_at (pc_after d b) g.after g.left) (next ∙ g.next);
        pc = let here = e.pc in let ends = h.ends in let long = h.long in omega arith;
        same = record { ints = same_but [] g.agree.same.ints; units = g.agree.same.units };
        are_values = g.agree.are_values;
        is_state = record { state = record { pc = omega arith; values = g.agree.is_values }; units = g.agree.units; answers = g.fit };
        answers = g.parted;
        setting = g.agree.setting;
        placed = g.agree.placed site (subst (λ (m : FullMeaning). AreOutside site.base (length site.bytes) (m.writes (environment site start after) v (m.own_of g.took))) h.means (h.clear g.took g.left g.made g.parted takes)) e.placed;
      })) h.exit takes))
      (λ (a : RowAsks (pc_after d b) (unit_row d v) (unit_row d (values_of b)) b.answers). inr (record {
        steps = 0;
        state = b;
        ran = fiter_none site.context.flags b;
        asks = next ∙ a.asks;
        took = [];
        answers = refl;
        lacks = subst (λ (m : FullMeaning). m.takes (environment site start after) v (m.own_of b.answers) ≡ None) (sym h.means) a.lacks;
        few = subst (λ (m : FullMeaning). 0 < 2 * m.own_answers (environment site start after) v) (sym h.means) (subst (λ (r : Row). 0 < 2 * answers_of r) (sym a.takes) (lit< tt));
      }))
      (row_comes (unit_writes d v) (pc_after d b) (values_of b) (unit_row d v) (unit_row d (values_of b)) b.answers h.agree full.answers)

-- ---- words of units

pub unit_runs : {site : Site} {start after : ℕ} {v : FullValues} {b : FullState} (setting : EmitVState) (inst : Inst) → IsUnit inst → inst_rule site.context inst ≡ None → Enters site start after (parts_of site.context setting inst) b.state v.ints → SameFull v (values_of b) → IsFullState b →
    WritesElsewhere site.base (length site.bytes) (inst_meaning AtStart inst) (environment site start after) v b.answers → ComesAsMeant site start after inst v b
unit_runs {site} {start} {after} {v} {b} setting inst u rule e same full clear =
    let operation = unit_operation inst u.word u.is in
    let parts = subst (PartsStand site start after) (parts_are site.context setting inst u.word u.is) e.stands in
    let k = keeps site.context inst rule in
    let usable : AreUsableIn u.word.places = are_usable_in u.word.places (subst (λ rs. list_any is_virtual rs ≡ false) u.registers k.real) (or_left (list_any is_out_of_place u.word.places) _ (subst (λ (f : Faults). f.class ≡ false) u.faults k.placed)) (subst (λ rs. list_any is_reserved rs ≡ false) u.registers k.free) in
    row_runs inst e full u.word.operation (record {
      has = stands_alone site start u.word.operation u.word.trap after parts;
      long = operation.long;
      ends = (let long = operation.long in elim u.word.trap as (λ trap. PartsStand site start after (slots_alone (access_slots trap ++ Op u.word.operation ∷ [])) → start + 4 ≡ after) [ None ↦ λ p. let e = p.2 in omega arith | Some code ↦ λ p. let e = p.2 in omega arith ]) parts;
      none = operation.none b.state;
      agree = operation.agrees v (values_of b) same e.are_values full.state.values full.units usable;
      means = ap (λ f. meaning_by f AtStart inst) u.family ∙ (λ k. of_row (λ env v. operation_row (u.code (context_by env.flags env.frame []) k).operation v) (λ env v. operation_writes (u.code (context_by env.flags env.frame []) k).operation v));
      clear = clear;
      temporaries = u.temporaries;
      exit = u.exit (environment site start after) v.ints;
    })

-- ---- operations of Zbc and Zbkb, which have no form of 16 bits

no_form : (c : Bool) (d : Decoded) → chosen (if c then None else None) d ≡ d
no_form true d = refl
no_form false d = refl

carry_word : (op : AluOPRRR) (rd rs1 rs2 : ℕ) → is_carry_line op rs2 ≡ true → (c : CarryOp) × ((flags : IsaFlags) → short_rrr flags op rd rs1 rs2 ≡ decoded (Carry c) rd rs1 rs2 (pos 0))
carry_word rrr.Clmul rd rs1 rs2 e = (carry.Clmul, λ flags. no_form flags.has_zca _)
carry_word rrr.Clmulh rd rs1 rs2 e = (carry.Clmulh, λ flags. no_form flags.has_zca _)
carry_word rrr.Clmulr rd rs1 rs2 e = (carry.Clmulr, λ flags. no_form flags.has_zca _)
carry_word rrr.Pack rd rs1 rs2 e = (carry.Pack, λ flags. no_form flags.has_zca _)
carry_word rrr.Packw rd rs1 rs2 e = (carry.Packw, λ flags. no_form flags.has_zca _ ∙ ap (λ c. decoded (if c then Carry carry.Packw else Alu (Bit ZextH)) rd rs1 rs2 (pos 0)) e)
carry_word rrr.Packh rd rs1 rs2 e = (carry.Packh, λ flags. no_form flags.has_zca _)
carry_word _ rd rs1 rs2 e = absurd (cc)

unary_word : (op : AluOPRRI) (rd rs : ℕ) (imm : ℤ) → is_carry_unary op ≡ true → (c : CarryOp) × ((flags : IsaFlags) → short_rri flags op rd rs imm ≡ decoded (Carry c) rd rs 0 (pos 0))
unary_word rri.Brev8 rd rs imm e = (carry.Brev8, λ flags. no_form flags.has_zca _)
unary_word _ rd rs imm e = absurd (cc)

-- an instruction that is such an operation, whatever the flags, and goes on
carry_runs : {site : Site} {start after : ℕ} {v : FullValues} {b : FullState} (inst : Inst) (c : CarryOp) (rd rs1 rs2 : ℕ) (short : IsaFlags → Decoded) → ((flags : IsaFlags) → short flags ≡ decoded (Carry c) rd rs1 rs2 (pos 0)) → rd < 30 → rs1 < 30 → rs2 < 30 → inst_meaning AtStart inst ≡ of_row (λ env v. unit_row (short env.flags) v) (λ env v. unit_writes (short env.flags) v) → inst_temporaries inst ≡ [] → inst_exit (environment site start after) inst v.ints ≡ Next →
    Enters site start after (slots_alone (Op (short site.context.flags) ∷ [])) b.state v.ints → SameFull v (values_of b) → IsFullState b →
    WritesElsewhere site.base (length site.bytes) (inst_meaning AtStart inst) (environment site start after) v b.answers → ComesAsMeant site start after inst v b
carry_runs {site} {start} {after} {v} {b} inst c rd rs1 rs2 short is low first second means temporaries exit e same full clear =
    let d = decoded (Carry c) rd rs1 rs2 (pos 0) in
    let p = subst (λ x. PartsStand site start after (slots_alone (Op x ∷ []))) (is site.context.flags) e.stands in
    row_runs inst e full d (record {
      has = stands_alone site start d None after p;
      long = refl;
      ends = let ends = p.2 in omega arith;
      none = refl;
      agree = carry_agrees d v (values_of b) same e.are_values full.state.values full.units c low first second;
      means = means ∙ (λ k. of_row (λ env v. unit_row (is env.flags k) v) (λ env v. unit_writes (is env.flags k) v));
      clear = clear;
      temporaries = temporaries;
      exit = exit;
    })

pub carry_rrr_runs : {site : Site} {start after : ℕ} {v : FullValues} {b : FullState} (setting : EmitVState) (op : AluOPRRR) (rd : Writable Reg) (rs1 rs2 : Reg) → is_carry_line op (number_of rs2) ≡ true → Keeps (AluRRR op rd rs1 rs2) → Enters site start after (parts_of site.context setting (AluRRR op rd rs1 rs2)) b.state v.ints → SameFull v (values_of b) → IsFullState b →
    WritesElsewhere site.base (length site.bytes) (inst_meaning AtStart (AluRRR op rd rs1 rs2)) (environment site start after) v b.answers → ComesAsMeant site start after (AluRRR op rd rs1 rs2) v b
carry_rrr_runs setting op rd rs1 rs2 test k e same full clear =
    let inst = AluRRR op rd rs1 rs2 in
    let all = are_usable (rd.reg ∷ rs1 ∷ rs2 ∷ []) k.real k.placed k.free in
    let word = carry_word op (number_of rd.reg) (number_of rs1) (number_of rs2) test in
    carry_runs inst word.0 (number_of rd.reg) (number_of rs1) (number_of rs2) (λ flags. short_rrr flags op (number_of rd.reg) (number_of rs1) (number_of rs2)) word.1 all.0.1 all.1.0.1 all.1.1.0.1
    (ap (λ c. if c then of_unit AtStart inst else of_integers AtStart (Put inst)) test) refl refl e same full clear

pub carry_rri_runs : {site : Site} {start after : ℕ} {v : FullValues} {b : FullState} (setting : EmitVState) (op : AluOPRRI) (rd : Writable Reg) (rs : Reg) (imm : Imm12) → is_carry_unary op ≡ true → Keeps (AluRRImm12 op rd rs imm) → Enters site start after (parts_of site.context setting (AluRRImm12 op rd rs imm)) b.state v.ints → SameFull v (values_of b) → IsFullState b →
    WritesElsewhere site.base (length site.bytes) (inst_meaning AtStart (AluRRImm12 op rd rs imm)) (environment site start after) v b.answers → ComesAsMeant site start after (AluRRImm12 op rd rs imm) v b
carry_rri_runs setting op rd rs imm test k e same full clear =
    let inst = AluRRImm12 op rd rs imm in
    let all = are_usable (rd.reg ∷ rs ∷ []) k.real k.placed k.free in
    let word = unary_word op (number_of rd.reg) (number_of rs) imm.value test in
    carry_runs inst word.0 (number_of rd.reg) (number_of rs) 0 (λ flags. short_rri flags op (number_of rd.reg) (number_of rs) imm.value) word.1 all.0.1 all.1.0.1 (lit< tt)
    (ap (λ c. if c then of_unit AtStart inst else of_integers AtStart (Put inst)) test) refl refl e same full clear

-- ---- moves of a floating-point register

pub move_runs : {site : Site} {start after : ℕ} {v : FullValues} {b : FullState} (setting : EmitVState) (rd : Writable Reg) (rm : Reg) (type : IrType) → Enters site start after (parts_of site.context setting (Mov rd rm type)) b.state v.ints → SameFull v (values_of b) → IsFullState b → is_float rd.reg ≡ true →
    WritesElsewhere site.base (length site.bytes) (inst_meaning AtStart (Mov rd rm type)) (environment site start after) v b.answers → ComesAsMeant site start after (Mov rd rm type) v b
move_runs {site} {start} {after} {v} {b} setting rd rm type e same full float clear =
    let inst = Mov rd rm type in
    let to = number_of rd.reg in
    let from = number_of rm in
    let d = op_of site.context.flags (move_action Float type to from) in
    let class = (elim (class_of rd.reg) as (λ c. is_float_class c ≡ true → c ≡ Float) [ Float ↦ λ e. refl | _ ↦ λ e. absurd (cc) ]) float in
    let means : inst_meaning AtStart inst ≡ of_float_move inst = ap (λ c. if c then of_float_move inst else of_integers AtStart (Put inst)) float in
    (elim (nat_eq to from) as (λ own. nat_eq to from ≡ own → PartsStand site start after (slots_alone (slots_of site.context.flags (if own then [] else Do (move_action Float type to from) ∷ []))) → ComesAsMeant site start after inst v b) [
      | true ↦ λ test p. inl (record {
        took = [];
        made = v;
        takes = ap (λ (m : FullMeaning). m.takes (environment site start after) v (m.own_of [])) means ∙ ap (λ c. row_takes (move_row (if c then None else Some (move_op site.context.flags (class_of rd.reg) type to from)) v) []) test;
        ends = ends_at_once v same.units full (nothing_out (let ends = p.2 in omega arith) e);
      })
      | false ↦ λ test p. row_runs inst e full d (record {
        has = stands_alone site start d None after p;
        long = refl;
        ends = let ends = p.2 in omega arith;
        none = refl;
        agree = shape_agrees d v (values_of b) same e.are_values full.state.values full.units Sign (format_of (unwrap_or (width_of type) D)) (number_below rd.reg);
        means = means ∙ (λ k. of_row (λ env v. move_row (if test k then None else Some (move_op env.flags (class k) type to from)) v) (λ env v answers. []));
        clear = clear;
        temporaries = refl;
        exit = refl;
      })
    ]) refl (subst (λ c. PartsStand site start after (slots_alone (slots_of site.context.flags (move_pieces c type to from)))) class e.stands)
