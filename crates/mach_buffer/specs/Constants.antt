-- For callers: where constants are put, and what stands there.
use Rattle.std.specs.Prelude.{◌≡◌, ℕ, zero, suc, ◌+◌, ◌-◌, ◌*◌, ◌/◌, ◌≤◌, List, [], ◌∷◌, ◌++◌, length, Option, Some, None, is_some, if◌then◌else◌, slice_get, nat_eq}
use Rattle.rv_base.specs.declared.constant.ConstAlign.{ConstAlign}
use Rattle.rv_base.specs.declared.constant.ConstAlign.TheVariants.{A1, A2, A4, A8, A16}
use Rattle.rv_base.specs.declared.constant.Constant.{Constant}
use Rattle.rv_base.specs.declared.constant.VCodeConstant.{VCodeConstant}
use Rattle.rv_base.specs.LabelUse.{Kinds}
use Rattle.mach_labels.specs.Table.{first_constant}
use Rattle.mach_records.specs.declared.records.ConstPlace.{ConstPlace}
use Rattle.mach_buffer.specs.Shape.{Shape, with_bytes, unplaced_of}
use Rattle.mach_uses.specs.Labels.{placed, constant_label}
use Rattle.mach_buffer.specs.Windows.{AllEnd}
use Rattle.mach_uses.specs.Windows.{window}
use Rattle.mach_buffer.specs.Growth.{Lasts}

-- zero bytes
abbrev pub zeros : ℕ → List ℕ
zeros zero = []
zeros (suc n) = 0 ∷ zeros n

-- the next multiple of an alignment, which is two at least, since instructions stand at even offsets
abbrev pub aligned_to : ConstAlign → ℕ → ℕ
aligned_to A1 n = (n + 1) / 2 * 2
aligned_to A2 n = (n + 1) / 2 * 2
aligned_to A4 n = (n + 3) / 4 * 4
aligned_to A8 n = (n + 7) / 8 * 8
aligned_to A16 n = (n + 15) / 16 * 16

-- where a constant ends that is put at an offset or after it
abbrev pub constant_end : Option Constant → ℕ → ℕ
constant_end None n = n
constant_end (Some c) n = aligned_to c.align n + length c.bytes

-- and several, one after the other
abbrev pub constants_end : List Constant → List VCodeConstant → ℕ → ℕ
constants_end registered [] n = n
constants_end registered (k ∷ ks) n = constants_end registered ks (constant_end (slice_get registered k.number) n)

-- and those of a buffer that don't stand yet
abbrev pub end_after : {L : Type 0} → Shape L → ℕ → ℕ
end_after s n = constants_end s.registered (unplaced_of s) n

-- a constant is put: its bytes after zero bytes to its alignment, with its label and its offset where they begin
abbrev pub put_constant_at : {L : Type 0} → Option Constant → VCodeConstant → Shape L → Shape L
put_constant_at None k s = s
put_constant_at (Some c) k s = record s {
  bytes = s.bytes ++ zeros (aligned_to c.align (length s.bytes) - length s.bytes) ++ c.bytes;
  place = placed s.place (constant_label k).number (aligned_to c.align (length s.bytes));
  constants = s.constants ++ record { constant = k; offset = aligned_to c.align (length s.bytes) } ∷ [];
}

-- the registered constant of that number is
abbrev pub put_constant : {L : Type 0} → VCodeConstant → Shape L → Shape L
put_constant k s = put_constant_at (slice_get s.registered k.number) k s

-- and those of several, in turn
abbrev pub put_each : {L : Type 0} → List VCodeConstant → Shape L → Shape L
put_each [] s = s
put_each (k ∷ ks) s = put_each ks (put_constant k s)

-- and all that don't stand yet
abbrev pub put_constants : {L : Type 0} → Shape L → Shape L
put_constants s = put_each (unplaced_of s) s

-- where a constant stands, by its number
abbrev pub offset_in : List ConstPlace → ℕ → Option ℕ
offset_in [] number = None
offset_in (c ∷ constants) number = if nat_eq c.constant.number number then Some c.offset else offset_in constants number

-- ---- room for constants that don't stand yet

-- what is kept for the alignment of a constant: less than that many zero bytes are put before it
abbrev pub alignment_reserve : ℕ
alignment_reserve = 16

-- of each constant from a number on that doesn't stand: its bytes, and what its alignment may take
abbrev pub reserve_from : (ℕ → Option ℕ) → ℕ → List Constant → ℕ
reserve_from place i [] = 0
reserve_from place i (c ∷ cs) = (if is_some (place (first_constant + i)) then 0 else length c.bytes + alignment_reserve) + reserve_from place (suc i) cs

abbrev pub reserve_of : {L : Type 0} → Shape L → ℕ
reserve_of s = reserve_from s.place 0 s.registered

-- ---- what stands

-- a constant stands: its bytes were put at its offset, a multiple of its alignment, after which all windows before it end, and
-- what stood then lasts
pub record ConstantStands {L : Type 0} (kinds : Kinds L) (s : Shape L) (c : ConstPlace) : Type 0 where
  pub constant : Constant
  pub there : slice_get s.registered c.constant.number ≡ Some constant
  pub before : Shape L
  pub ends : AllEnd kinds before
  pub at : c.offset ≡ length before.bytes
  pub aligned : aligned_to constant.align c.offset ≡ c.offset
  pub lasts : Lasts kinds (with_bytes constant.bytes before) s

-- each of them does
abbrev pub AllStand : {L : Type 0} → Kinds L → Shape L → Type 0
AllStand kinds s = (j : ℕ) (c : ConstPlace) → slice_get s.constants j ≡ Some c → ConstantStands kinds s c

-- finished code has a registered constant's bytes at its offset, a multiple of its alignment
pub record HasConstant (registered : List Constant) (bytes : List ℕ) (c : ConstPlace) : Type 0 where
  pub constant : Constant
  pub there : slice_get registered c.constant.number ≡ Some constant
  pub aligned : aligned_to constant.align c.offset ≡ c.offset
  pub stands : window bytes c.offset (length constant.bytes) ≡ constant.bytes
  pub inside : c.offset + length constant.bytes ≤ length bytes

-- all of these constants
abbrev pub HasConstants : List Constant → List ℕ → List ConstPlace → Type 0
HasConstants registered bytes constants = (j : ℕ) (c : ConstPlace) → slice_get constants j ≡ Some c → HasConstant registered bytes c
