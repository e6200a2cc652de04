-- Calls that return.
use Rattle.std.specs.Prelude.{ℕ, ◌^◌, bit_or, Bool, List, [], ◌∷◌, take, drop, Option, Some, None, if◌then◌else◌, codes}
use Rattle.std.specs.Str.{bytes_eq}
use Rattle.rv_base.specs.declared.call.CallArgPair.{CallArgPair}
use Rattle.rv_base.specs.declared.call.CallInfo.{CallInfo}
use Rattle.rv_base.specs.declared.call.CallRetPair.{CallRetPair}
use Rattle.rv_base.specs.declared.call.RetLocation.TheVariants.{Reg as InReg, Stack as OnStack}
use Rattle.rv_base.specs.declared.call.TryCallHandler.{TryCallHandler}
use Rattle.rv_base.specs.declared.call.TryCallHandler.TheVariants.{Tag, Default}
use Rattle.rv_base.specs.declared.call.TryCallInfo.{TryCallInfo}
use Rattle.rv_base.specs.declared.call.UserStackMap.{UserStackMap}
use Rattle.rv_base.specs.declared.ir_type.IrType.{IrType}
use Rattle.rv_base.specs.declared.label.MachLabel.{MachLabel}
use Rattle.rv_base.specs.declared.preg_set.PRegSet.{PRegSet}
use Rattle.rv_base.specs.declared.regs.PReg.{PReg}
use Rattle.rv_base.specs.declared.regs.RegClass.{RegClass}
use Rattle.rv_base.specs.declared.regs.RegClass.TheVariants.{Int, Float, Vector}
use Rattle.rv_listing.specs.Tokens.{◌>>=◌, or_else, parts_of, as_pair, below, decimal}
use Rattle.rv_listing.specs.Fields.{done, ◌⊛◌, whole}
use Rattle.rv_listing.specs.Registers.{register}
use Rattle.rv_listing.specs.Operands.{real_register, natural_32, either, label}
use Rattle.rv_listing.specs.Pairs.{call_arg_pair, each_after, listed}
use Rattle.rv_listing.specs.Types.{type_named}

-- ---- results

-- two registers around a colon
unfoldable pub in_register : List ℕ → Option CallRetPair
in_register w =
    as_pair (parts_of 58 w) >>= λ p. register p.0 >>= λ vreg. register p.1 >>= λ preg.
    Some (record { vreg = record { reg = vreg }; location = InReg preg })

-- a register, @, and an offset and a type around a colon
unfoldable pub on_stack : List ℕ → Option CallRetPair
on_stack w =
    as_pair (parts_of 64 w) >>= λ p. register p.0 >>= λ vreg. as_pair (parts_of 58 p.1) >>= λ q. natural_32 q.0 >>= λ offset.
    type_named q.1 >>= λ type. Some (record { vreg = record { reg = vreg }; location = OnStack offset type })

unfoldable pub call_ret_pair : List ℕ → Option CallRetPair
call_ret_pair w = or_else (in_register w) (on_stack w)

-- ---- sets of registers

abbrev pub no_registers : PRegSet
no_registers = record { int = 0; float = 0; vector = 0 }

-- a set with these numbers, each as a bit, in the file of a class
abbrev pub with_bits : PRegSet → RegClass → ℕ → PRegSet
with_bits set Int bits = record { int = bit_or set.int bits; float = set.float; vector = set.vector }
with_bits set Float bits = record { int = set.int; float = bit_or set.float bits; vector = set.vector }
with_bits set Vector bits = record { int = set.int; float = set.float; vector = bit_or set.vector bits }

abbrev pub with_register : PRegSet → PReg → PRegSet
with_register set r = with_bits set r.class (2 ^ r.number)

abbrev pub with_registers : PRegSet → List PReg → PRegSet
with_registers set [] = set
with_registers set (r ∷ rs) = with_registers (with_register set r) rs

-- registers a comma apart, or - for none
abbrev pub register_set : List ℕ → Option PRegSet
register_set w = listed real_register w >>= λ rs. Some (with_registers no_registers rs)

-- ---- calls

-- 1 where the call may be patched, and 0 where not
unfoldable pub patchable : List ℕ → Option Bool
patchable = either (codes "1") (codes "0")

-- a type, @, and an offset
unfoldable pub map_entry : List ℕ → Option (IrType × ℕ)
map_entry w = as_pair (parts_of 64 w) >>= λ p. type_named p.0 >>= λ type. natural_32 p.1 >>= λ offset. Some (type, offset)

-- values on the stack, a comma apart, or - for no map of them
unfoldable pub stack_map : List ℕ → Option (Option UserStackMap)
stack_map w = if bytes_eq w (codes "-") then Some None else each_after map_entry [] (parts_of 44 w) >>= λ entries. Some (Some (record { entries = entries }))

-- default, or tag and the tag's number
unfoldable pub handler_to : List ℕ → MachLabel → Option TryCallHandler
handler_to w l =
    if bytes_eq w (codes "default") then Some (Default l) else
    if bytes_eq (take 3 w) (codes "tag") then (decimal (drop 3 w) >>= below (2 ^ 32) >>= λ n. Some (Tag n l)) else None

-- which exceptions a handler takes, a colon, and its label
unfoldable pub handler : List ℕ → Option TryCallHandler
handler w = as_pair (parts_of 58 w) >>= λ p. label p.1 >>= handler_to p.0

-- a label, and handlers
abbrev pub continued : List (List ℕ) → Option TryCallInfo
continued [] = None
continued (w ∷ ws) = label w >>= λ l. each_after handler [] ws >>= λ handlers. Some (record { continuation = l; handlers = handlers })

-- a semicolon apart; or - where the call doesn't end its block
unfoldable pub try_call : List ℕ → Option (Option TryCallInfo)
try_call w = if bytes_eq w (codes "-") then Some None else continued (parts_of 59 w) >>= λ t. Some (Some t)

abbrev pub call_of : {T : Type 0} → T → List CallArgPair → List CallRetPair → PRegSet → ℕ → Bool → Option UserStackMap → Option TryCallInfo → CallInfo T
call_of dest uses defs clobbers size patch entries t =
    record { dest = dest; uses = uses; defs = defs; clobbers = clobbers; callee_pop_size = size; patchable = patch; stack_map = entries; try_call_info = t }

-- a call of what this token names
unfoldable pub call_info : {T : Type 0} → (List ℕ → Option T) → List (List ℕ) → Option (CallInfo T)
call_info token = whole (done call_of ⊛ token ⊛ listed call_arg_pair ⊛ listed call_ret_pair ⊛ register_set ⊛ natural_32 ⊛ patchable ⊛ stack_map ⊛ try_call)
