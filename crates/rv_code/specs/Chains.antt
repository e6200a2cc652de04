-- Chains of machine steps over exact states, and where a machine stands in finished code: links of the proof.
use Rattle.std.specs.Prelude.{◌≡◌, ℕ, ◌+◌, ◌%◌, ◌≤◌, List, length, Some}
use Rattle.rv_base.specs.declared.flags.IsaFlags.{IsaFlags}
use Rattle.rv_machine.specs.State.{State, IsState, Values, AreValues, wrap}
use Rattle.rv_machine.specs.Steps.{iter}
use Rattle.rv_inst.specs.SameValues.{SameBut}
use Rattle.rv_code.specs.Sites.{Site, IsPlacedAt}

-- in some steps, at least so many, the machine goes from one state to another
pub record Goes (flags : IsaFlags) (least : ℕ) (s t : State) : Type 0 where
  pub steps : ℕ
  pub moved : least ≤ steps
  pub ran : iter flags steps s ≡ Some t

-- a machine at an offset of finished code, before so many of its bytes
pub record IsAt (site : Site) (offset size : ℕ) (s : State) : Type 0 where
  pub even : offset % 2 ≡ 0
  pub room : offset + size ≤ length site.bytes
  pub placed : IsPlacedAt site s.values.mem
  pub pc : s.pc ≡ wrap (site.base + offset)

-- a machine whose values are the same as these, declared temporaries apart
pub record IsBeside (site : Site) (free : List ℕ) (v : Values) (s : State) : Type 0 where
  pub same : SameBut free v s.values
  pub is_state : IsState s
  pub are_values : AreValues v
  pub placed : IsPlacedAt site s.values.mem
