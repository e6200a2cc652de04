-- What it is for code to run as its job says.
use Rattle.std.specs.Prelude.{◌≡◌, ℕ, suc, true, ◌+◌, ◌<◌, ◌≤◌, nat_eq, nat_lt, if◌then◌else◌, List, [], ◌∷◌, length, slice_get, Some, unwrap_or}
use Rattle.rv_base.specs.declared.trap.TrapCode.{TrapCode}
use Rattle.mach_buffer.specs.Constants.{offset_in}
use Rattle.rv_inst.specs.Records.{IsTrapAt}
use Rattle.rv_inst.specs.declared.inst.Inst.{Inst}
use Rattle.rv_inst.specs.declared.inst.Line.{Line}
use Rattle.rv_inst.specs.declared.inst.Line.TheVariants.{Inst as Put}
use Rattle.rv_inst.specs.declared.job.Job.{Job}
use Rattle.rv_inst.specs.Context.{context_of}
use Rattle.rv_inst.specs.Core.{is_integer, is_integer_line}
use Rattle.rv_inst.specs.Sizes.{operation_of}
use Rattle.rv_inst.specs.declared.code.Code.{Code}
use Rattle.rv_inst.specs.declared.code.CallReturn.{CallReturn}
use Rattle.rv_inst.specs.Operands.{Return, return_of}
use Rattle.rv_inst.specs.Meaning.{Environment, Exit, Next, To, Leave, Break, Trap, Data, writes_of, AreOutside}
use Rattle.rv_machine.specs.State.{State, IsState, Values, AreValues, Memory, wrap}
use Rattle.rv_base.specs.declared.flags.IsaFlags.{IsaFlags}
use Rattle.rv_machine.specs.declared.decoding.Decoded.{Decoded}
use Rattle.rv_machine.specs.Decode.{int_decode}
use Rattle.rv_machine.specs.Steps.{IsBreak, IsZeroHalf, fetch, iter}
use Rattle.rv_inst.specs.Forms.{IsOwnForm}
use Rattle.rv_inst.specs.SameValues.{Same, SameBut}
pub use Rattle.rv_runs.specs.Entries.{Entry, AtStart, AtReturn, effect_from, exit_from, temporaries_from}
use Rattle.rv_asm.specs.Placed.{Addresses, address_of_name, IsPlaced}
use Rattle.rv_asm.specs.Reported.{start_of, end_of, binding_line, label_start}

-- the start of a line, by its number; where the call of a line returns; an address; the end of the last line;
-- the break of a line; the trap of a line, which is recorded at an offset; or the data of a line
pub data Point : Type 0 where
  At : ℕ → Point
  Returned : ℕ → Point
  Out : ℕ → Point
  End : Point
  Stop : ℕ → Point
  Trapped : ℕ → ℕ → Point
  InData : ℕ → Point

abbrev pub next_point : List Line → ℕ → Point
next_point lines i = if nat_lt (suc i) (length lines) then At (suc i) else End

-- a trap of line i for a cause is recorded at an offset
pub record IsTrapOf (code : Code) (i at : ℕ) (cause : TrapCode) : Type 0 where
  pub recorded : IsTrapAt code.traps at cause
  pub first : start_of code.lines i ≤ at
  pub last : at < end_of code.lines i

-- where an exit from line i leads
abbrev pub Leads : List Line → Code → ℕ → Exit → Point → Type 0
Leads lines code i Next q = q ≡ next_point lines i
Leads lines code i (To label) q = q ≡ At (binding_line lines label)
Leads lines code i (Leave a) q = q ≡ Out a
Leads lines code i Break q = q ≡ Stop i
Leads lines code i (Trap cause) q = (at : ℕ) × (q ≡ Trapped i at) × IsTrapOf code i at cause
Leads lines code i Data q = q ≡ InData i

-- what a line is read among, for code that stands at a base: a label has the address of the first line that binds it, and a
-- constant that of its offset
abbrev pub environment_of : Job → Code → ℕ → Addresses → Addresses → ℕ → Environment
environment_of job code base symbols slots i = record {
  start = wrap (base + start_of code.lines i);
  after = wrap (base + end_of code.lines i);
  label = λ label. wrap (base + label_start code.lines job.lines label);
  constant = λ number. wrap (base + unwrap_or (offset_in code.constants number) 0);
  flags = job.flags;
  frame = job.frame;
  symbol = λ number. unwrap_or (address_of_name symbols number) 0;
  slot = λ number. unwrap_or (address_of_name slots number) 0;
}

-- a line writes no byte of the code, which stands at a base
abbrev pub WritesOutside : Job → Code → ℕ → Addresses → Addresses → ℕ → Line → Values → Type 0
WritesOutside job code base symbols slots i line v = AreOutside base (length code.bytes) (writes_of (environment_of job code base symbols slots i) line v)

-- the point where a line is entered
abbrev pub entry_point : Entry → ℕ → Point
entry_point AtStart i = At i
entry_point AtReturn i = Returned i

-- one line of the integer core at once, from a point and values to a point and values; the line's temporaries may hold anything after it
pub record OneLine (job : Job) (code : Code) (base : ℕ) (symbols slots : Addresses) (p : Point) (v : Values) (q : Point) (w : Values) : Type 0 where
  pub index : ℕ
  pub line : Line
  pub entry : Entry
  pub at : p ≡ entry_point entry index
  pub listed : slice_get job.lines index ≡ Some line
  pub core : is_integer_line job.frame line ≡ true
  pub leads : Leads job.lines code index (exit_from entry (environment_of job code base symbols slots index) line v) q
  pub effect : SameBut (temporaries_from entry line) (effect_from entry (environment_of job code base symbols slots index) line v) w

-- the offset where the call of a line returns
abbrev pub return_at : List CallReturn → ℕ → ℕ
return_at [] i = 0
return_at (r ∷ returns) i = if nat_eq r.index i then r.offset else return_at returns i

-- the address of a point, for code that stands at a base
abbrev pub address_of : Code → ℕ → Point → ℕ
address_of code base (At i) = wrap (base + start_of code.lines i)
address_of code base (Returned i) = wrap (base + return_at code.returns i)
address_of code base End = wrap (base + code.end)
address_of code base (Out a) = a
address_of code base (Stop i) = wrap (base + start_of code.lines i)
address_of code base (Trapped i at) = wrap (base + at)
address_of code base (InData i) = wrap (base + start_of code.lines i)

-- at a break stands ebreak, and at a trap the halfword 0, so the machine has no step
abbrev pub IsStopped : IsaFlags → Point → State → Type 0
IsStopped flags (Stop i) s = IsBreak flags s.values.mem s.pc
IsStopped flags (At i) s = Unit {0}
IsStopped flags (Returned i) s = Unit {0}
IsStopped flags (Out a) s = Unit {0}
IsStopped flags End s = Unit {0}
IsStopped flags (Trapped i at) s = IsZeroHalf s.values.mem s.pc
IsStopped flags (InData i) s = Unit {0}

-- the start of the line of an index, or of one before it, or an address, which may be that of any line
abbrev pub IsBack : ℕ → Point → Type 0
IsBack index (At j) = j ≤ index
IsBack index (Returned j) = ⊥
IsBack index (Out a) = Unit {0}
IsBack index End = ⊥
IsBack index (Stop i) = ⊥
IsBack index (Trapped i at) = ⊥
IsBack index (InData i) = ⊥

-- From this point the machine comes, in some steps, where one line leads, with values that are the same; and the code still stands
-- placed, so a run goes on from there. To a line that doesn't stand after this one it takes a step: so where the listing runs without
-- end, the machine does.
pub record Comes (job : Job) (code : Code) (base : ℕ) (symbols slots : Addresses) (p : Point) (v : Values) (s : State) : Type 0 where
  pub steps : ℕ
  pub point : Point
  pub values : Values
  pub state : State
  pub line : OneLine job code base symbols slots p v point values
  pub ran : iter job.flags steps s ≡ Some state
  pub moved : IsBack line.index point → 1 ≤ steps
  pub stands : state.pc ≡ address_of code base point
  pub stopped : IsStopped job.flags point state
  pub same : Same values state.values
  pub is_state : IsState state
  pub are_values : AreValues values
  pub placed : IsPlaced code base symbols slots state.values.mem

-- The code runs as its job says: from the start of every line of the integer core, wherever the code is placed and its symbols are, and
-- from all values from which the line doesn't write on the code; and from where each call of the core returns, with all values. What other lines
-- mean is said of the machine with all units.
pub record RunsAsListed (job : Job) (code : Code) : Type 0 where
  pub from :
      (base : ℕ) (symbols slots : Addresses) (i : ℕ) (line : Line) (s : State) (v : Values) →
      slice_get job.lines i ≡ Some line →
      is_integer_line job.frame line ≡ true →
      WritesOutside job code base symbols slots i line v →
      IsPlaced code base symbols slots s.values.mem →
      IsState s →
      AreValues v →
      s.pc ≡ address_of code base (At i) →
      Same v s.values →
      Comes job code base symbols slots (At i) v s
  pub back :
      (base : ℕ) (symbols slots : Addresses) (i : ℕ) (inst : Inst) (r : Return) (s : State) (v : Values) →
      slice_get job.lines i ≡ Some (Put inst) →
      is_integer inst ≡ true →
      return_of job.flags inst ≡ Some r →
      IsPlaced code base symbols slots s.values.mem →
      IsState s →
      AreValues v →
      s.pc ≡ address_of code base (Returned i) →
      Same v s.values →
      Comes job code base symbols slots (Returned i) v s

-- Wherever the code is placed, the machine reads at the start of a line of the integer core of one machine word the operation that stands
-- for it: in two bytes where the instruction has a form of sixteen bits, and then that form's own, else in four.
pub record HasOperations (job : Job) (code : Code) : Type 0 where
  pub each :
      (i : ℕ) (inst : Inst) (d : Decoded) (base : ℕ) (symbols slots : Addresses) (mem : Memory) →
      slice_get job.lines i ≡ Some (Put inst) →
      is_integer inst ≡ true →
      operation_of (context_of job) inst ≡ Some d →
      IsPlaced code base symbols slots mem →
      (int_decode job.flags (fetch mem (base + start_of code.lines i)) ≡ Some d) × IsOwnForm d (fetch mem (base + start_of code.lines i))
