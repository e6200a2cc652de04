-- What instructions mean on the machine with all units, and that each runs as it means.
use Rattle.rv_ops.specs.Operations.{is_carry_line, is_carry_unary}
use Rattle.{rv_code.{proofs.LineOperands.{full_load_kept, full_store_kept}, proofs.OperationActs.no_format}, rv_inst.{proofs.Meaning.{effect_agrees, load_address_agrees, store_address_agrees, writes_agree}, specs.Environments.AgreeOn, specs.Meaning.{address_of, resumed_by}, specs.Operands.named_labels}}
use Rattle.{rv_inst.{specs.declared.inst.Family.Family, specs.declared.inst.Family.TheVariants.{Calls, Float, Integer, Memory}}, rv_runs.{proofs.FloatMemory.{line_load, line_store}, proofs.FullCallRuns.{call_starts, ends_at_once, full_leaves, full_resumes, left_integers}}}
use Rattle.rv_runs.{proofs.FullChoices.full_select, proofs.InstRuns.inst_runs, proofs.OneOperations.{ComesAsMeant, OutAsMeant, carry_rri_runs, carry_rrr_runs, move_runs, out_at_end, unit_runs}}
use Rattle.rv_runs.proofs.Words.{AMode, Answer, AreOutside, AtStart, EmitVState, EndsAsMeant, Enters, Environment, Exit, FloatFormat, FullComesOut, FullEnds, FullMeaning, FullState, FullValues, Inst, IsFullState, IsaFlags, LoadOP, MemFlagsData}
use Rattle.rv_runs.proofs.Words.{Next, PartsStand, Put, Reg, Resumes, Return, SameFull, Site, StoreOP, TailCall, Writable, addresses_from, and_parts, answers_of, code_limit, context_by, environment, family_of, fiter_after}
use Rattle.rv_runs.proofs.Words.{format_bytes, inst_effect, inst_exit, inst_meaning, inst_rule, inst_temporaries, inst_writes, integer_run, is_bad_frame_for, is_float, is_integer, is_integer_family, is_integer_in, is_unit, keeps, load_format, location_of, meaning_by}
use Rattle.rv_runs.{proofs.Words.{move_row, not_true, number_of, of_float_move, of_integers, operands_of, operation_of, operation_row, parts_of, put, restores_float, return_of, row_takes, store_format, tail_call_of, to, try_call_of, try_exit, values_of}, specs.Entries.{AtReturn, Entry}}
use Rattle.rv_runs.{specs.FullInstRuns.{FullyOut, RunsFully, WritesElsewhere}, specs.FullMeaning.{call_returned, call_started, float_loaded, float_stored, full_left, full_resumed, of_access, of_call, of_choice, of_float_load, of_float_store, of_integer, of_memory, of_unit, operation_writes, with_ints}}
use Rattle.std.{proofs.Common.{Bool, List, None, Option, Some, [], ap, arith, false, if◌then◌else◌, inl, inr, is_some, length, not, refl, subst, sym, true, ℕ, ⊎_elim, ◌%◌, ◌&&◌, ◌+◌, ◌<◌, ◌∙◌, ◌≡◌, ◌≤◌}, proofs.lemmas.Bool.not-false}
use Rattle.rv_inst.specs.declared.inst.Inst.TheVariants.{AluRRImm12, AluRRR, Call, CallInd, Load, Mov, Nop0, ReturnCall, ReturnCallInd, Select, Store}

-- An instruction of the integer core means on the machine with all units what it means on integers, with the units as they were.

memory_is_of_integers : (inst : Inst) → not (operands_of inst).leaves_integers ≡ true → of_memory AtStart inst ≡ of_integers AtStart (Put inst)
memory_is_of_integers (Load rd op flags from) core = ap (λ f. of_access f (λ format. of_float_load format rd.reg from) (of_integers AtStart (Put (Load rd op flags from)))) (no_format (load_format op) (not_true _ core))
memory_is_of_integers (Store src op flags to) core = ap (λ f. of_access f (λ format. of_float_store format src to) (of_integers AtStart (Put (Store src op flags to)))) (no_format (store_format op) (not_true _ core))
memory_is_of_integers _ core = refl

integer_is_of_integers : (inst : Inst) → not (operands_of inst).leaves_integers ≡ true → of_integer AtStart inst ≡ of_integers AtStart (Put inst)
integer_is_of_integers (Mov rd rm type) other = ap (λ c. if c then of_float_move (Mov rd rm type) else of_integers AtStart (Put (Mov rd rm type))) (not_true _ other)
integer_is_of_integers (Select info) other = ap (λ c. if c then of_choice info else of_integers AtStart (Put (Select info))) (not_true _ other)
integer_is_of_integers (AluRRR op rd rs1 rs2) other = ap (λ c. if c then of_unit AtStart (AluRRR op rd rs1 rs2) else of_integers AtStart (Put (AluRRR op rd rs1 rs2))) (not_true _ other)
integer_is_of_integers (AluRRImm12 op rd rs imm) other = ap (λ c. if c then of_unit AtStart (AluRRImm12 op rd rs imm) else of_integers AtStart (Put (AluRRImm12 op rd rs imm))) (not_true _ other)
integer_is_of_integers _ other = refl

-- what an instruction means from these values is what it means on integers
pub record IsOfIntegers (env : Environment) (inst : Inst) (v : FullValues) : Type 0 where
  pub takes : (inst_meaning AtStart inst).takes env v ((inst_meaning AtStart inst).own_of []) ≡ Some (with_ints (inst_effect env inst v.ints) v, [])
  pub writes : (answers : List Answer) → (inst_meaning AtStart inst).writes env v ((inst_meaning AtStart inst).own_of answers) ≡ inst_writes env inst v.ints

as_integers : {inst : Inst} (env : Environment) (v : FullValues) → inst_meaning AtStart inst ≡ of_integers AtStart (Put inst) → IsOfIntegers env inst v
as_integers env v e = record { takes = ap (λ (m : FullMeaning). m.takes env v (m.own_of [])) e; writes = λ answers. ap (λ (m : FullMeaning). m.writes env v (m.own_of answers)) e }

-- a call leaves with the integers that it does, and a tail call that restores no floating-point register, too
call_is : (env : Environment) (inst : Inst) (v : FullValues) → family_of inst ≡ Calls → restores_float env.frame (tail_call_of inst) ≡ false → IsOfIntegers env inst v
call_is env (Call info) v e core = record { takes = refl; writes = λ answers. refl }
call_is env (CallInd info) v e core = record { takes = refl; writes = λ answers. refl }
call_is env (ReturnCall info) v e core = record { takes = ap (λ (w : FullValues). Some (w, [])) (left_integers env.frame (record { stack_arg_size = info.new_stack_arg_size; by_register = false }) info.new_stack_arg_size v core); writes = λ answers. refl }
call_is env (ReturnCallInd info) v e core = record { takes = ap (λ (w : FullValues). Some (w, [])) (left_integers env.frame (record { stack_arg_size = info.new_stack_arg_size; by_register = true }) info.new_stack_arg_size v core); writes = λ answers. refl }
call_is env _ v e core = absurd (cc)

family_is : (family : Family) (env : Environment) (inst : Inst) (v : FullValues) → family_of inst ≡ family → is_integer_family family ≡ true → restores_float env.frame (tail_call_of inst) ≡ false → not (operands_of inst).leaves_integers ≡ true → IsOfIntegers env inst v
family_is Integer env inst v e core kept other = as_integers env v (ap (λ f. meaning_by f AtStart inst) e ∙ integer_is_of_integers inst other)
family_is Memory env inst v e core kept other = as_integers env v (ap (λ f. meaning_by f AtStart inst) e ∙ memory_is_of_integers inst other)
family_is Calls env inst v e core kept other = call_is env inst v e kept
family_is Float env inst v e core kept other = absurd (cc)
family_is family env inst v e core kept other = as_integers env v (ap (λ f. meaning_by f AtStart inst) e)

pub is_of_integers : (env : Environment) (inst : Inst) (v : FullValues) → is_integer_in env.frame inst ≡ true → IsOfIntegers env inst v
is_of_integers env inst v core =
    let kept = and_parts (not (restores_float env.frame (tail_call_of inst))) (is_integer inst) core in
    let both = and_parts (is_integer_family (family_of inst)) (not (operands_of inst).leaves_integers) kept.1 in
    family_is (family_of inst) env inst v refl both.0 (not_true _ kept.0) both.1

-- An instruction means the same in environments that agree on what it names.

-- what it makes of these values, what it writes, and how many answers it takes
pub record MeansSame (m : FullMeaning) (e f : Environment) (v : FullValues) : Type 0 where
  pub takes : (answers : List Answer) → m.takes e v answers ≡ m.takes f v answers
  pub writes : (answers : List Answer) → m.writes e v answers ≡ m.writes f v answers
  pub own : m.own_answers e v ≡ m.own_answers f v

module _ {e f : Environment} (v : FullValues) where
  integers_same : (entry : Entry) (inst : Inst) → AgreeOn (named_labels (Put inst)) e f → MeansSame (of_integers entry (Put inst)) e f v
  integers_same AtStart inst a = record { takes = λ answers. ap (λ w. Some (with_ints w v, answers)) (effect_agrees (Put inst) v.ints a); writes = λ answers. writes_agree (Put inst) v.ints a; own = refl }
  integers_same AtReturn inst a = record { takes = λ answers. (λ i. Some (with_ints (resumed_by (return_of (a.flags i) inst) v.ints) v, answers)); writes = λ answers. refl; own = refl }

  either_same : (c : Bool) (m n : FullMeaning) → MeansSame m e f v → MeansSame n e f v → MeansSame (if c then m else n) e f v
  either_same true m n h g = h
  either_same false m n h g = g

  access_same : (o : Option FloatFormat) (of_float : FloatFormat → FullMeaning) (integers : FullMeaning) → ((format : FloatFormat) → MeansSame (of_float format) e f v) → MeansSame integers e f v → MeansSame (of_access o of_float integers) e f v
  access_same None of_float integers h g = g
  access_same (Some format) of_float integers h g = h format

  memory_same : (entry : Entry) (inst : Inst) → AgreeOn (named_labels (Put inst)) e f → MeansSame (of_memory entry inst) e f v
  memory_same entry (Load rd op flags from) a =
      access_same (load_format op) (λ format. of_float_load format rd.reg from) (of_integers entry (Put (Load rd op flags from)))
      (λ format. record { takes = λ answers. ap (λ n. Some (float_loaded format (number_of rd.reg) n v, answers)) (load_address_agrees rd op flags from v.ints a); writes = λ answers. refl; own = refl })
      (integers_same entry (Load rd op flags from) a)
  memory_same entry (Store src op flags to) a =
      let same = store_address_agrees to op flags src v.ints a in
      access_same (store_format op) (λ format. of_float_store format src to) (of_integers entry (Put (Store src op flags to)))
      (λ format. record { takes = λ answers. ap (λ n. Some (float_stored format (number_of src) n v, answers)) same; writes = λ answers. ap (λ n. addresses_from n (format_bytes format)) same; own = refl })
      (integers_same entry (Store src op flags to) a)
  memory_same entry inst a = integers_same entry inst a

  operation_same : (inst : Inst) → AgreeOn (named_labels (Put inst)) e f → operation_of (context_by e.flags e.frame []) inst ≡ operation_of (context_by f.flags f.frame []) inst
  operation_same inst a = λ i. operation_of (context_by (a.flags i) (a.frame i) []) inst

  unit_same : (entry : Entry) (inst : Inst) → AgreeOn (named_labels (Put inst)) e f → MeansSame (of_unit entry inst) e f v
  unit_same AtStart inst a = record { takes = λ answers. ap (λ o. row_takes (operation_row o v) answers) (operation_same inst a); writes = λ answers. ap (λ o. operation_writes o v answers) (operation_same inst a); own = ap (λ o. answers_of (operation_row o v)) (operation_same inst a) }
  unit_same AtReturn inst a = record { takes = λ answers. refl; writes = λ answers. refl; own = refl }

  integer_same : (entry : Entry) (inst : Inst) → AgreeOn (named_labels (Put inst)) e f → MeansSame (of_integer entry inst) e f v
  integer_same entry (Mov rd rm type) a = either_same (is_float rd.reg) (of_float_move (Mov rd rm type)) (of_integers entry (Put (Mov rd rm type)))
      (record { takes = λ answers. ap (λ o. row_takes (move_row o v) answers) (operation_same (Mov rd rm type) a); writes = λ answers. refl; own = ap (λ o. answers_of (move_row o v)) (operation_same (Mov rd rm type) a) }) (integers_same entry (Mov rd rm type) a)
  integer_same entry (Select info) a = either_same (operands_of (Select info)).leaves_integers (of_choice info) (of_integers entry (Put (Select info))) (record { takes = λ answers. refl; writes = λ answers. refl; own = refl }) (integers_same entry (Select info) a)
  integer_same entry (AluRRR op rd rs1 rs2) a = either_same (is_carry_line op (number_of rs2)) (of_unit entry (AluRRR op rd rs1 rs2)) (of_integers entry (Put (AluRRR op rd rs1 rs2))) (unit_same entry (AluRRR op rd rs1 rs2) a) (integers_same entry (AluRRR op rd rs1 rs2) a)
  integer_same entry (AluRRImm12 op rd rs imm) a = either_same (is_carry_unary op) (of_unit entry (AluRRImm12 op rd rs imm)) (of_integers entry (Put (AluRRImm12 op rd rs imm))) (unit_same entry (AluRRImm12 op rd rs imm) a) (integers_same entry (AluRRImm12 op rd rs imm) a)
  integer_same entry inst a = integers_same entry inst a

  call_same : (entry : Entry) (inst : Inst) → AgreeOn (named_labels (Put inst)) e f → MeansSame (of_call entry inst) e f v
  call_same AtStart inst a = record { takes = λ answers. ap (λ w. Some (w, answers)) (elim (tail_call_of inst) as (λ o. call_started e inst o v ≡ call_started f inst o v) [ None ↦ ap (λ w. with_ints w v) (effect_agrees (Put inst) v.ints a) | Some tail ↦ ap (λ frame. full_left frame tail.stack_arg_size v) a.frame ]); writes = λ answers. refl; own = refl }
  call_same AtReturn inst a = record { takes = λ answers. (λ i. Some (call_returned (return_of (a.flags i) inst) v, answers)); writes = λ answers. refl; own = refl }

  by_family : (family : Family) (entry : Entry) (inst : Inst) → AgreeOn (named_labels (Put inst)) e f → MeansSame (meaning_by family entry inst) e f v
  by_family Integer entry inst a = integer_same entry inst a
  by_family Memory entry inst a = memory_same entry inst a
  by_family Calls entry inst a = call_same entry inst a
  by_family Float entry inst a = unit_same entry inst a
  by_family family entry inst a = integers_same entry inst a

  pub meaning_agrees : (entry : Entry) (inst : Inst) → AgreeOn (named_labels (Put inst)) e f → MeansSame (inst_meaning entry inst) e f v
  meaning_agrees entry inst a = by_family (family_of inst) entry inst a

-- Every instruction that breaks no rule runs as it means on the machine with all units, wherever its parts stand in finished code: from its
-- start, and from where a call returns.

-- a tail call is a call
tail_calls : (inst : Inst) (tail : TailCall) → tail_call_of inst ≡ Some tail → family_of inst ≡ Calls
tail_calls Nop0 tail is = absurd (cc)
tail_calls inst tail is = cc

-- one that returns is a call, and no tail call
returns_call : (flags : IsaFlags) (inst : Inst) (r : Return) → return_of flags inst ≡ Some r → (family_of inst ≡ Calls) × (tail_call_of inst ≡ None)
returns_call flags Nop0 r e = absurd (cc)
returns_call flags inst r e = (cc, cc)

-- ---- what else leaves the integers

format_in : (format : Option FloatFormat) → not (is_some format) ≡ false → (f : FloatFormat) × (format ≡ Some f)
format_in None some = absurd (cc)
format_in (Some f) some = (f, refl)

-- ---- from its start

module _ (site : Site) (start after : ℕ) (v : FullValues) (b : FullState) (setting : EmitVState) (same : SameFull v (values_of b)) (full : IsFullState b) where
  abbrev env : Environment
  env = environment site start after

  -- the machine enters the parts of an instruction, which breaks no rule, and writes on no byte of the code
  record Begins (inst : Inst) : Type 0 where
    rule : inst_rule site.context inst ≡ None
    restores : is_bad_frame_for site.context.frame (tail_call_of inst) ≡ false
    enters : Enters site start after (parts_of site.context setting inst) b.state v.ints
    clear : WritesElsewhere site.base (length site.bytes) (inst_meaning AtStart inst) env v b.answers

  abbrev Comes : Inst → Type 0
  Comes inst = ComesAsMeant site start after inst v b

  abbrev Out : Inst → Type 0
  Out inst = OutAsMeant site start after inst v b

  integers_out : (inst : Inst) → Begins inst → is_integer_in site.context.frame inst ≡ true → Out inst
  integers_out inst h core =
      let means = is_of_integers env inst v core in
      record {
        took = [];
        made = with_ints (inst_effect env inst v.ints) v;
        takes = means.takes;
        ends = ends_at_once v same.units full ((inst_runs site setting inst core h.rule h.restores).run start after b.state v.ints h.enters (subst (AreOutside site.base (length site.bytes)) (means.writes []) (h.clear [] b.answers (with_ints (inst_effect env inst v.ints) v) refl means.takes)));
      }

  -- no answer is taken, and it goes on
  exact : {made : FullValues} (inst : Inst) (m : FullMeaning) → inst_meaning AtStart inst ≡ m → FullComesOut site after (inst_temporaries inst) made [] b → inst_exit env inst v.ints ≡ Next → m.takes env v (m.own_of []) ≡ Some (made, []) → Out inst
  exact {made} inst m means out exit takes = out_at_end start inst v out exit (subst (λ (m : FullMeaning). m.takes env v (m.own_of []) ≡ Some (made, [])) (sym means) takes)

  load_out : (rd : Writable Reg) (op : LoadOP) (flags : MemFlagsData) (from : AMode) (format : FloatFormat) → load_format op ≡ Some format → Begins (Load rd op flags from) → Out (Load rd op flags from)
  load_out rd op flags from format is h =
      let inst = Load rd op flags from in
      let kept = full_load_kept site.context.frame rd op flags from (keeps site.context inst h.rule) in
      exact inst (of_float_load format rd.reg from) (ap (λ f. of_access f (λ format. of_float_load format rd.reg from) (of_integers AtStart (Put inst))) is)
      (line_load (number_of rd.reg) op flags.trap (location_of site.context.frame from) format is kept.0 kept.1 h.enters same.units full) refl refl

  store_out : (to : AMode) (op : StoreOP) (flags : MemFlagsData) (src : Reg) (format : FloatFormat) → store_format op ≡ Some format → Begins (Store src op flags to) → Out (Store src op flags to)
  store_out to op flags src format is h =
      let inst = Store src op flags to in
      let means : inst_meaning AtStart inst ≡ of_float_store format src to = ap (λ f. of_access f (λ format. of_float_store format src to) (of_integers AtStart (Put inst))) is in
      let made = float_stored format (number_of src) (address_of env to v.ints) v in
      exact inst (of_float_store format src to) means
      (line_store op (number_of src) flags.trap (location_of site.context.frame to) format is (full_store_kept site.context.frame to op flags src (keeps site.context inst h.rule)) h.enters same.units full
      (subst (λ (m : FullMeaning). AreOutside site.base (length site.bytes) (m.writes env v (m.own_of []))) means
      (h.clear [] b.answers made refl (subst (λ (m : FullMeaning). m.takes env v (m.own_of []) ≡ Some (made, [])) (sym means) refl)))) refl refl

  -- with values that the meaning gives
  left : (inst : Inst) → family_of inst ≡ Calls → (made : FullValues) → call_started env inst (tail_call_of inst) v ≡ made → FullEnds site start after (inst_exit env inst v.ints) (inst_temporaries inst) made [] b → Out inst
  left inst call made gives ends = record {
    took = [];
    made = made;
    takes = ap (λ f. (meaning_by f AtStart inst).takes env v ((meaning_by f AtStart inst).own_of [])) call ∙ ap (λ w. Some (w, [])) gives;
    ends = ends;
  }

  tail_out : (inst : Inst) (tail : TailCall) → tail_call_of inst ≡ Some tail → Begins inst → Out inst
  tail_out inst tail is h =
      left inst (tail_calls inst tail is) (full_left site.context.frame tail.stack_arg_size v) (ap (λ o. call_started env inst o v) is)
      (full_leaves h.enters.short h.enters.labels same.units full setting inst tail (keeps site.context inst h.rule) is h.restores h.enters)

  call_out : (inst : Inst) (r : Return) → return_of site.context.flags inst ≡ Some r → Begins inst → Out inst
  call_out inst r is h =
      let c = returns_call site.context.flags inst r is in
      left inst c.0 (with_ints (inst_effect env inst v.ints) v) (ap (λ o. call_started env inst o v) c.1)
      (ends_at_once v same.units full (call_starts setting inst r (keeps site.context inst h.rule) is h.enters))

  -- of a family of integers
  floating : (inst : Inst) → Begins inst → is_integer_family (family_of inst) ≡ true → is_integer inst ≡ false → Comes inst
  floating (Load rd op flags from) h family other = let f = format_in (load_format op) other in inl (load_out rd op flags from f.0 f.1 h)
  floating (Store src op flags to) h family other = let f = format_in (store_format op) other in inl (store_out to op flags src f.0 f.1 h)
  floating (Mov rd rm type) h family other = move_runs setting rd rm type h.enters same full (not-false (is_float rd.reg) other) h.clear
  floating (Select info) h family other = inl (exact (Select info) (of_choice info) (ap (λ c. if c then of_choice info else of_integers AtStart (Put (Select info))) (not-false _ other)) (full_select setting info (keeps site.context (Select info) h.rule) h.enters same.units full) refl refl)
  floating (AluRRR op rd rs1 rs2) h family other = carry_rrr_runs setting op rd rs1 rs2 (not-false (is_carry_line op (number_of rs2)) other) (keeps site.context (AluRRR op rd rs1 rs2) h.rule) h.enters same full h.clear
  floating (AluRRImm12 op rd rs imm) h family other = carry_rri_runs setting op rd rs imm (not-false (is_carry_unary op) other) (keeps site.context (AluRRImm12 op rd rs imm) h.rule) h.enters same full h.clear
  floating (Call info) h family other = inl (call_out (Call info) _ refl h)
  floating (CallInd info) h family other = inl (call_out (CallInd info) _ refl h)
  floating inst h family other = absurd (cc)

  -- in the integer core, where a floating-point register is restored, of a family of integers, or a word of a unit
  begun : (inst : Inst) → Begins inst → (core restores family : Bool) → is_integer_in site.context.frame inst ≡ core → restores_float site.context.frame (tail_call_of inst) ≡ restores → is_integer_family (family_of inst) ≡ family → Comes inst
  begun inst h true restores family core e f = inl (integers_out inst h core)
  begun inst h false true family other e f = (elim (tail_call_of inst) as (λ o. tail_call_of inst ≡ o → restores_float site.context.frame o ≡ true → Comes inst) [ None ↦ λ is some. absurd (cc) | Some tail ↦ λ is some. inl (tail_out inst tail is h) ]) refl e
  begun inst h false false true other e f = floating inst h f (subst (λ c. (not c && is_integer inst) ≡ false) e other)
  begun inst h false false false other e f = unit_runs setting inst (is_unit inst f) h.rule h.enters same full h.clear

pub inst_full_runs : {site : Site} {start after : ℕ} {v : FullValues} {b : FullState} (setting : EmitVState) (inst : Inst) → inst_rule site.context inst ≡ None → is_bad_frame_for site.context.frame (tail_call_of inst) ≡ false → Enters site start after (parts_of site.context setting inst) b.state v.ints → SameFull v (values_of b) → IsFullState b → WritesElsewhere site.base (length site.bytes) (inst_meaning AtStart inst) (environment site start after) v b.answers → ComesAsMeant site start after inst v b
inst_full_runs {site} {start} {after} {v} {b} setting inst rule restores e same full clear = begun site start after v b setting same full inst (record { rule = rule; restores = restores; enters = e; clear = clear }) _ _ _ refl refl refl

-- ---- from where it returns

pub inst_full_resumes : {site : Site} {start after : ℕ} {v : FullValues} {b : FullState} (setting : EmitVState) (inst : Inst) (r : Return) → inst_rule site.context inst ≡ None → return_of site.context.flags inst ≡ Some r → ((label at : ℕ) → site.place label ≡ Some at → at ≤ length site.bytes) → Resumes site start after (start + r.offset) (parts_of site.context setting inst) b.state v.ints → SameFull v (values_of b) → IsFullState b → EndsAsMeant site start after (inst_meaning AtReturn inst) (try_exit (try_call_of inst)) [] v b
inst_full_resumes {site} {start} {after} {v} {b} setting inst r rule is labels e same full = record {
  took = [];
  made = full_resumed r v;
  takes = ap (λ f. (meaning_by f AtReturn inst).takes (environment site start after) v ((meaning_by f AtReturn inst).own_of [])) (returns_call site.context.flags inst r is).0 ∙ ap (λ o. Some (call_returned o v, [])) is;
  ends = full_resumes e.short labels same.units full setting inst r (keeps site.context inst rule) is e;
}

-- ---- both, of an instruction whose parts stand in the code

-- its last integer words run on this machine, too
out_fully : {site : Site} {start after : ℕ} {m : FullMeaning} {exit : Exit} {free : List ℕ} {v : FullValues} {b : FullState} → EndsAsMeant site start after m exit free v b → FullyOut site start after m exit free v b
out_fully {site} {b = b} h =
    let g = h.ends in
    let out = g.last in
    record {
      steps = out.steps + g.steps;
      state = put out.state g.state;
      moved = let moved = out.moved in omega arith;
      ran = fiter_after site.context.flags out.steps g.steps b g.state g.ran ∙ integer_run site.context.flags out.steps out.state g.state out.ran;
      arrives = out.arrives;
      took = h.took;
      answers = g.answers;
      made = h.made;
      takes = h.takes;
      same = record { ints = out.same; units = g.units };
      is_state = record { state = out.is_state; units = g.is_state.units; answers = g.is_state.answers };
      are_values = out.are_values;
      setting = g.setting;
      placed = out.placed;
    }

module _ (site : Site) (setting : EmitVState) (inst : Inst) (start after : ℕ) (rule : inst_rule site.context inst ≡ None) (even : start % 2 ≡ 0) (within : after ≤ length site.bytes) (short : length site.bytes < code_limit) (labels : (label at : ℕ) → site.place label ≡ Some at → at ≤ length site.bytes) (stands : PartsStand site start after (parts_of site.context setting inst)) where
  pub runs_fully : is_bad_frame_for site.context.frame (tail_call_of inst) ≡ false → RunsFully site start after inst AtStart start
  runs_fully restores v b a clear = ⊎_elim (λ out. inl (out_fully out)) (λ asks. inr asks)
      (inst_full_runs setting inst rule restores (record { even = even; within = within; short = short; labels = labels; stands = stands; placed = a.placed; pc = a.pc; is_state = a.is_state.state; are_values = a.are_values; same = a.same.ints }) a.same a.is_state clear)

  pub resumes_fully : (r : Return) → return_of site.context.flags inst ≡ Some r → RunsFully site start after inst AtReturn (start + r.offset)
  resumes_fully r is v b a clear = inl (out_fully (inst_full_resumes setting inst r rule is labels (record { even = even; within = within; short = short; stands = stands; placed = a.placed; pc = a.pc; is_state = a.is_state.state; are_values = a.are_values; same = a.same.ints }) a.same a.is_state))
