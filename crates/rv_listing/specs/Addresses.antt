-- Addresses of loads and stores.
use Rattle.std.specs.Prelude.{ℕ, List, [], ◌∷◌, Option, Some, None, if◌then◌else◌, codes}
use Rattle.std.specs.Str.{bytes_eq}
use Rattle.rv_base.specs.declared.amode.AMode.{AMode}
use Rattle.rv_base.specs.declared.amode.AMode.TheVariants.{RegOffset, SPOffset, FPOffset, SlotOffset, IncomingArg, Const, Label}
use Rattle.rv_listing.specs.Tokens.{◌>>=◌, parts_of}
use Rattle.rv_listing.specs.Registers.{register}
use Rattle.rv_listing.specs.Operands.{natural_32, offset, label}

-- An address of one part after its kind: in the frame, among the constants or in the code. Offsets are in bytes.
unfoldable pub by_kind : List ℕ → List ℕ → Option AMode
by_kind kind w =
    if bytes_eq kind (codes "sp") then (offset w >>= λ n. Some (SPOffset n)) else
    if bytes_eq kind (codes "fp") then (offset w >>= λ n. Some (FPOffset n)) else
    if bytes_eq kind (codes "slot") then (offset w >>= λ n. Some (SlotOffset n)) else
    if bytes_eq kind (codes "in") then (offset w >>= λ n. Some (IncomingArg n)) else
    if bytes_eq kind (codes "const") then (natural_32 w >>= λ n. Some (Const (record { number = n }))) else
    if bytes_eq kind (codes "label") then (label w >>= λ l. Some (Label l)) else None

-- r, a register and an offset from it
unfoldable pub from_register : List ℕ → List ℕ → List ℕ → Option AMode
from_register kind base w = if bytes_eq kind (codes "r") then (register base >>= λ r. offset w >>= λ n. Some (RegOffset r n)) else None

abbrev pub by_parts : List (List ℕ) → Option AMode
by_parts [] = None
by_parts (kind ∷ []) = None
by_parts (kind ∷ w ∷ []) = by_kind kind w
by_parts (kind ∷ base ∷ w ∷ []) = from_register kind base w
by_parts (kind ∷ base ∷ w ∷ other ∷ rest) = None

-- an address: its kind and its parts, a colon apart
unfoldable pub amode : List ℕ → Option AMode
amode w = by_parts (parts_of 58 w)
