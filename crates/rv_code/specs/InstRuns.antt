-- What it is for the parts of an instruction to run as the instruction means: links of the proof.
use Rattle.std.specs.Prelude.{◌≡◌, ℕ, ◌+◌, ◌%◌, ◌<◌, ◌≤◌, List, [], length, Some, unwrap_or}
use Rattle.rv_base.specs.LabelUse.{code_limit}
use Rattle.mach_labels.specs.Table.{first_constant}
use Rattle.rv_machine.specs.State.{State, IsState, Values, AreValues, wrap}
use Rattle.rv_machine.specs.Steps.{iter, IsBreak, IsZeroHalf}
use Rattle.rv_inst.specs.declared.inst.Inst.{Inst}
use Rattle.rv_inst.specs.Operands.{Return, inst_temporaries, try_call_of}
use Rattle.rv_inst.specs.Meaning.{resumed, try_exit, Environment, Exit, Next, To, Leave, Break, Trap, Data, inst_exit, inst_effect, inst_writes, AreOutside}
use Rattle.rv_inst.specs.SameValues.{Same, SameBut}
use Rattle.rv_code.specs.declared.state.EmitVState.{EmitVState}
use Rattle.mach_records.specs.declared.records.Event.TheVariants as event
use Rattle.rv_code.specs.Slots.{Part}
use Rattle.rv_code.specs.Sites.{Site, IsPlacedAt, PartsStand}
use Rattle.rv_inst.specs.Records.{IsRecorded}
use Rattle.rv_code.specs.InstParts.{parts_of}

-- a machine at the start of parts that stand between two offsets, beside the listing's values; the code is short enough for every
-- distance in it, and labels are bound in it
pub record Enters (site : Site) (start after : ℕ) (parts : List Part) (s : State) (v : Values) : Type 0 where
  pub even : start % 2 ≡ 0
  pub within : after ≤ length site.bytes
  pub short : length site.bytes < code_limit
  pub labels : (label at : ℕ) → site.place label ≡ Some at → at ≤ length site.bytes
  pub stands : PartsStand site start after parts
  pub placed : IsPlacedAt site s.values.mem
  pub pc : s.pc ≡ wrap (site.base + start)
  pub is_state : IsState s
  pub are_values : AreValues v
  pub same : Same v s.values

-- a jump takes a step; the next line may be reached in none, and a break, a trap and data may have none
abbrev pub least_steps : Exit → ℕ
least_steps Next = 0
least_steps (To label) = 1
least_steps (Leave a) = 1
least_steps Break = 0
least_steps (Trap code) = 0
least_steps Data = 0

-- a machine where an exit leads, from parts that stand between two offsets; at a break stands an ebreak, and at a trap, which is recorded,
-- the halfword 0
abbrev pub Arrives : Site → ℕ → ℕ → Exit → State → Type 0
Arrives site start after Next t = t.pc ≡ wrap (site.base + after)
Arrives site start after (To label) t = (at : ℕ) × (site.place label ≡ Some at) × (t.pc ≡ wrap (site.base + at))
Arrives site start after (Leave a) t = t.pc ≡ a
Arrives site start after (Trap code) t =
    (at : ℕ) ×
    IsRecorded site.records at (event.Trap code) ×
    (start ≤ at) ×
    (at < after) ×
    (t.pc ≡ wrap (site.base + at)) ×
    IsZeroHalf t.values.mem t.pc
Arrives site start after Data t = t.pc ≡ wrap (site.base + start)
Arrives site start after Break t = (t.pc ≡ wrap (site.base + start)) × IsBreak site.context.flags t.values.mem t.pc

-- in some steps the machine comes where an exit leads, with values that are these, declared temporaries apart
pub record ComesOut (site : Site) (start after : ℕ) (exit : Exit) (free : List ℕ) (v : Values) (s : State) : Type 0 where
  pub steps : ℕ
  pub state : State
  pub moved : least_steps exit ≤ steps
  pub ran : iter site.context.flags steps s ≡ Some state
  pub arrives : Arrives site start after exit state
  pub same : SameBut free v state.values
  pub is_state : IsState state
  pub are_values : AreValues v
  pub placed : IsPlacedAt site state.values.mem

-- what the parts of an instruction are read among that stand between two offsets; a label that isn't bound, and a constant whose
-- label isn't, is at the base
abbrev pub environment : Site → ℕ → ℕ → Environment
environment site start after = record {
  start = wrap (site.base + start);
  after = wrap (site.base + after);
  label = λ label. wrap (site.base + unwrap_or (site.place label) 0);
  constant = λ number. wrap (site.base + unwrap_or (site.place (first_constant + number)) 0);
  flags = site.context.flags;
  frame = site.context.frame;
  symbol = site.symbol;
  slot = site.slot;
}

-- a machine where a call returns, at an offset within its parts, beside the values that its callee returns with
pub record Resumes (site : Site) (start after from : ℕ) (parts : List Part) (s : State) (v : Values) : Type 0 where
  pub even : start % 2 ≡ 0
  pub within : after ≤ length site.bytes
  pub short : length site.bytes < code_limit
  pub stands : PartsStand site start after parts
  pub placed : IsPlacedAt site s.values.mem
  pub pc : s.pc ≡ wrap (site.base + from)
  pub is_state : IsState s
  pub are_values : AreValues v
  pub same : Same v s.values

-- what is left of a call then runs as the call means, wherever it stands in the code
pub record ResumesIn (site : Site) (setting : EmitVState) (inst : Inst) (r : Return) : Type 0 where
  pub run :
      (start after : ℕ) (s : State) (v : Values) →
      Resumes site start after (start + r.offset) (parts_of site.context setting inst) s v →
      ComesOut site start after (try_exit (try_call_of inst)) [] (resumed r v) s

-- the parts of an instruction run as it means, wherever they stand in the code, where it writes no byte of the code
pub record RunsIn (site : Site) (setting : EmitVState) (inst : Inst) : Type 0 where
  pub run :
      (start after : ℕ) (s : State) (v : Values) →
      Enters site start after (parts_of site.context setting inst) s v →
      AreOutside site.base (length site.bytes) (inst_writes (environment site start after) inst v) →
      ComesOut site start after (inst_exit (environment site start after) inst v) (inst_temporaries inst) (inst_effect (environment site start after) inst v) s
