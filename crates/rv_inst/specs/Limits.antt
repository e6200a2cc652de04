-- How many bytes sequences have at most, an island that they ask for apart.
use Rattle.std.specs.Prelude.{ℕ, ◌+◌, ◌-◌, ◌*◌, if◌then◌else◌, List, length}
use Rattle.rv_base.specs.declared.flags.IsaFlags.{IsaFlags}
use Rattle.rv_base.specs.declared.frame.FrameLayout.{FrameLayout}
use Rattle.rv_ops.specs.declared.memory.LoadOP.{LoadOP}
use Rattle.rv_ops.specs.declared.memory.StoreOP.{StoreOP}
use Rattle.rv_encode.specs.Operations.{has_load, has_store}
use Rattle.rv_inst.specs.Returns.{StackLoad, restores}

-- a number that stands among the code: auipc, a load and a jump over it, four bytes each, and its own eight
abbrev pub number_limit : ℕ
number_limit = 20

-- an address that is far from its register: a number, and the sum of both
abbrev pub address_limit : ℕ
address_limit = number_limit + 4

-- a load or a store: its address, and its own word
abbrev pub access_limit : ℕ
access_limit = address_limit + 4

-- one of a half by integer registers: three words after the load, or one before the store
abbrev pub load_limit : IsaFlags → LoadOP → ℕ
load_limit flags op = if has_load flags op then access_limit else access_limit + 12

abbrev pub store_limit : IsaFlags → StoreOP → ℕ
store_limit flags op = if has_store flags op then access_limit else access_limit + 4

-- a step of the stack pointer: a number, and the sum of both
abbrev pub step_limit : ℕ
step_limit = number_limit + 4

-- what takes a frame away: a load for each register that it restores, and a step
abbrev pub return_limit : FrameLayout → ℕ
return_limit frame = access_limit * length (restores frame) + step_limit

-- a call: its own words, a step, a load for each result, and a jump where it goes on elsewhere
abbrev pub call_limit : ℕ → List StackLoad → ℕ
call_limit own loads = own + step_limit + access_limit * length loads + 4

-- A branch by a table: twelve words of four bytes, and two for each label beside the default. It asks for an island before so many.
abbrev pub table_space : ℕ → ℕ
table_space labels = 4 * (12 + 2 * (labels - 1))

-- No instruction that asks for no island has more bytes. Before each line there is room for so many, and for a jump over an island;
-- a line that might have more asks for an island itself.
abbrev pub sequence_limit : ℕ
sequence_limit = 84
