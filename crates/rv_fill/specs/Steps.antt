-- A link of the proof: an image with one field filled, and with the fields of several relocations, one after the other.
use Rattle.std.specs.Prelude.{ℕ, ◌+◌, ◌*◌, ◌/◌, ◌%◌, ◌^◌, List, [], ◌∷◌, ◌++◌, take, drop, Option, Some, None}
use Rattle.mach_records.specs.declared.records.MachReloc.{MachReloc}
use Rattle.mach_uses.specs.Windows.{window}
use Rattle.rv_machine.specs.State.{wrap}
use Rattle.rv_inst.specs.LabelUseWords.{upper_bits}
use Rattle.rv_inst.specs.Relocations.{field_size}
use Rattle.rv_fill.specs.Filled.{Table, course_of, distance, filled_field}

-- the same as with_upper and with_lower, by the low 32 bits of a distance
abbrev pub with_upper_bits : ℕ → ℕ → ℕ
with_upper_bits n word = word % 4096 + upper_bits n * 4096

abbrev pub with_lower_bits : ℕ → ℕ → ℕ
with_lower_bits n word = word % 1048576 + n % 4096 * 1048576

-- other bytes at an offset
abbrev pub put : ℕ → List ℕ → ℕ → List ℕ → List ℕ
put offset field size image = take offset image ++ (field ++ drop (offset + size) image)

abbrev pub put_course : ℕ → MachReloc → Option (ℕ × ℕ) → List ℕ → List ℕ
put_course base r None image = image
put_course base r (Some c) image =
    put r.offset (filled_field r.kind (distance (wrap (base + c.0)) c.1) c.1 (window image r.offset (field_size r.kind))) (field_size r.kind) image

unfoldable pub put_field : List MachReloc → ℕ → Table → Table → MachReloc → List ℕ → List ℕ
put_field relocs base symbols slots r image = put_course base r (course_of relocs symbols slots r) image

abbrev pub put_fields : List MachReloc → ℕ → Table → Table → List MachReloc → List ℕ → List ℕ
put_fields relocs base symbols slots [] image = image
put_fields relocs base symbols slots (r ∷ rs) image = put_fields relocs base symbols slots rs (put_field relocs base symbols slots r image)
