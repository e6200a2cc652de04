-- What emission knows of the vector unit's setting after an instruction. Nothing is known where a new basic block begins, and after code in
-- which a `jalr` stands, or a `jal` of four bytes, that over an island among them; other code leaves what was known.
use Rattle.std.specs.Prelude.{Bool, true, false, ◌||◌, List, [], ◌∷◌, length}
use Rattle.std.specs.List.{list_any}
use Rattle.mach_buffer.specs.Buffer.{bytes_of}
use Rattle.mach_uses.specs.Reach.{is_needed}
use Rattle.rv_inst.specs.Context.{Context}
use Rattle.rv_inst.specs.declared.inst.Inst.{Inst}
use Rattle.rv_sequences.specs.Emitted.{Buffer, pending}
use Rattle.rv_code.specs.InstParts.{parts_of}
use Rattle.rv_code.specs.Slots.{Part, Ask, Slots}
use Rattle.rv_code.specs.declared.state.EmitVState.{EmitVState}
use Rattle.rv_code.specs.declared.state.EmitVState.TheVariants.{Unknown}
use Rattle.rv_code.specs.Forgetting.{slot_forgets}

-- the setting known where a new basic block may begin
abbrev pub setting_beyond : Bool → EmitVState → EmitVState
setting_beyond true setting = Unknown
setting_beyond false setting = setting

-- whether one of the parts put after a buffer forgets, or an island is put, which is jumped over; an island that isn't asked for first is
-- asked for after a call's `jalr`, which forgets already
abbrev pub parts_forget : Buffer → List Part → Bool
parts_forget b [] = false
parts_forget b (Ask space ∷ parts) = is_needed (length (bytes_of b)) space (pending b) || parts_forget b parts
parts_forget b (Slots slots ∷ parts) = list_any slot_forgets slots || parts_forget b parts

-- by the buffer and the setting known before an instruction, that known after it
abbrev pub setting_after : Context → Buffer → Inst → EmitVState → EmitVState
setting_after context b inst setting = setting_beyond (parts_forget b (parts_of context setting inst)) setting
