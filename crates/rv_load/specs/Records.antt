-- The words of a report's lines of labels, of relocations, of calls that may throw, of values on the stack and of steps in the making of the
-- frame.
use Rattle.std.specs.Prelude.{ℕ, ◌+◌, ◌^◌, List, [], ◌∷◌, take, drop, Option, Some, None, is_some, Bool, true, false, ◌&&◌, nat_le, if◌then◌else◌, codes, ℤ, pos, ◌-ℤ◌}
use Rattle.std.specs.Str.{bytes_eq}
use Rattle.mach_records.specs.declared.records.FinalizedRelocTarget.{FinalizedRelocTarget}
use Rattle.mach_records.specs.declared.records.FinalizedRelocTarget.TheVariants.{ExternalName, Func}
use Rattle.mach_records.specs.declared.records.FinalizedMachExceptionHandler.{FinalizedMachExceptionHandler}
use Rattle.mach_records.specs.declared.records.FinalizedMachExceptionHandler.TheVariants.{Tag, Default}
use Rattle.mach_records.specs.declared.records.MachReloc.{MachReloc}
use Rattle.mach_uses.specs.declared.uses.LabelPlace.{LabelPlace}
use Rattle.rv_base.specs.declared.ir_type.IrType.{IrType}
use Rattle.rv_base.specs.declared.regs.Reg.TheVariants.{Real}
use Rattle.rv_base.specs.declared.unwind.UnwindInst.{UnwindInst}
use Rattle.rv_base.specs.declared.unwind.UnwindInst.TheVariants.{PushFrameRegs, DefineNewFrame, StackAlloc, SaveReg}
use Rattle.rv_listing.specs.Tokens.{◌>>=◌, as_pair, below, decimal, parts_of, starts}
use Rattle.rv_listing.specs.Fields.{field, no_more}
use Rattle.rv_listing.specs.Operands.{real_register, symbol}
use Rattle.rv_listing.specs.Relocations.{kind_named}
use Rattle.rv_listing.specs.Types.{type_named}

-- a number of 32 bits
abbrev pub number_32 : List ℕ → Option ℕ
number_32 w = decimal w >>= below (2 ^ 32)

-- ---- relocations

-- a symbol, or `@` and an offset
abbrev pub reloc_target : List ℕ → Option FinalizedRelocTarget
reloc_target w =
    if starts 64 w then (number_32 (drop 1 w) >>= λ n. Some (Func n)) else
    symbol w >>= λ name. Some (ExternalName name)

-- a signed number of 64 bits
abbrev pub addend : List ℕ → Option ℤ
addend w =
    if starts 45 w then (decimal (drop 1 w) >>= below (2 ^ 63 + 1) >>= λ n. Some (pos 0 -ℤ pos n)) else
    decimal w >>= below (2 ^ 63) >>= λ n. Some (pos n)

-- the offset of a relocation, its kind, what it refers to and its addend, which is the last word
abbrev pub reloc_words : List (List ℕ) → Option MachReloc
reloc_words ws =
    field number_32 ws >>= λ offset. field kind_named offset.1 >>= λ kind. field reloc_target kind.1 >>= λ target.
    field addend target.1 >>= λ addend. no_more (record { offset = offset.0; kind = kind.0; target = target.0; addend = addend.0 }, addend.1)

-- ---- labels

-- `L` and a number
abbrev pub label : List ℕ → Option ℕ
label w = if starts 76 w then number_32 (drop 1 w) else None

-- a label and its offset, which is the last word
abbrev pub label_words : List (List ℕ) → Option LabelPlace
label_words ws =
    field label ws >>= λ l. field number_32 l.1 >>= λ o. no_more (record { label = record { number = l.0 }; offset = o.0 }, o.1)

-- a place in the code is at most its length
abbrev pub is_within : ℕ → FinalizedRelocTarget → Bool
is_within count (ExternalName name) = true
is_within count (Func offset) = nat_le offset count

-- ---- calls that may throw

-- how far the frame pointer is above the stack pointer, or `-`
abbrev pub frame : List ℕ → Option (Option ℕ)
frame w = if bytes_eq w (codes "-") then Some None else number_32 w >>= λ n. Some (Some n)

-- the offset of a call and that of the frame, before handlers
abbrev pub try_words : List (List ℕ) → Option (ℕ × List (List ℕ))
try_words ws = field decimal ws >>= λ offset. field frame offset.1 >>= λ f. Some (offset.0, f.1)

-- `default`, or `tag` and the tag's number
abbrev pub handler_at : List ℕ → ℕ → Option FinalizedMachExceptionHandler
handler_at w offset =
    if bytes_eq w (codes "default") then Some (Default offset) else
    if bytes_eq (take 3 w) (codes "tag") then (number_32 (drop 3 w) >>= λ tag. Some (Tag tag offset)) else None

-- which exceptions a handler takes, a colon, and its offset
abbrev pub handler : List ℕ → Option FinalizedMachExceptionHandler
handler w = as_pair (parts_of 58 w) >>= λ p. number_32 p.1 >>= handler_at p.0

-- its place is at most the code's length
abbrev pub is_placed : ℕ → Option FinalizedMachExceptionHandler → Bool
is_placed count None = false
is_placed count (Some (Tag tag offset)) = nat_le offset count
is_placed count (Some (Default offset)) = nat_le offset count

abbrev pub are_handlers : ℕ → List (List ℕ) → Bool
are_handlers count [] = true
are_handlers count (w ∷ ws) = is_placed count (handler w) && are_handlers count ws

-- ---- values on the stack

-- the offset where a call returns, and how many bytes of the frame its map tells of, before the map's values
abbrev pub map_words : List (List ℕ) → Option (ℕ × List (List ℕ))
map_words ws = field decimal ws >>= λ offset. field number_32 offset.1 >>= λ span. Some (offset.0, span.1)

-- a type, `@`, and an offset
abbrev pub map_entry : List ℕ → Option (IrType × ℕ)
map_entry w = as_pair (parts_of 64 w) >>= λ p. type_named p.0 >>= λ type. number_32 p.1 >>= λ offset. Some (type, offset)

abbrev pub are_entries : List (List ℕ) → Bool
are_entries [] = true
are_entries (w ∷ ws) = is_some (map_entry w) && are_entries ws

-- ---- steps in the making of the frame

abbrev pub push_step : List (List ℕ) → Option UnwindInst
push_step ws = field number_32 ws >>= λ n. no_more (PushFrameRegs n.0, n.1)

abbrev pub frame_step : List (List ℕ) → Option UnwindInst
frame_step ws = field number_32 ws >>= λ m. field number_32 m.1 >>= λ n. no_more (DefineNewFrame m.0 n.0, n.1)

abbrev pub alloc_step : List (List ℕ) → Option UnwindInst
alloc_step ws = field number_32 ws >>= λ n. no_more (StackAlloc n.0, n.1)

abbrev pub save_step : List (List ℕ) → Option UnwindInst
save_step ws = field number_32 ws >>= λ n. field real_register n.1 >>= λ r. no_more (SaveReg n.0 (Real r.0), r.1)

abbrev pub step_of_kind : List ℕ → List (List ℕ) → Option UnwindInst
step_of_kind kind ws =
    if bytes_eq kind (codes "push") then push_step ws else
    if bytes_eq kind (codes "frame") then frame_step ws else
    if bytes_eq kind (codes "alloc") then alloc_step ws else
    if bytes_eq kind (codes "save") then save_step ws else None

abbrev pub step_of : List (List ℕ) → Option UnwindInst
step_of [] = None
step_of (kind ∷ ws) = step_of_kind kind ws

-- an offset and a step, which is the last words
abbrev pub unwind_words : List (List ℕ) → Option (ℕ × UnwindInst)
unwind_words ws = field decimal ws >>= λ offset. step_of offset.1 >>= λ step. Some (offset.0, step)
