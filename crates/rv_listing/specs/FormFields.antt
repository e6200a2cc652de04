-- What the readers of a form's fields return. No public clause cites these.
use Rattle.std.specs.Prelude.{◌≡◌, ℕ, List, Option, Some, None, Result, Ok, Err}
use Rattle.std.specs.Borrow.{Bor}
use Rattle.rv_inst.specs.declared.inst.Inst.{Inst}
use Rattle.rv_inst.specs.declared.inst.Line.{Line}
use Rattle.rv_inst.specs.declared.inst.Line.TheVariants as kinds
use Rattle.rv_listing.specs.declared.fields.LineError.{LineError}
use Rattle.rv_listing.specs.declared.fields.LineError.TheVariants as bad
use Rattle.rv_listing.specs.Tokens.{words_after}
use Rattle.rv_listing.specs.Fields.{Makes}

-- what a reader of one field returned, where its word says a value; out of memory says nothing
abbrev pub ReadsValue : {X V : Type 0} → Result X LineError → (X → V) → Option V → Type 0
ReadsValue (Ok x) value said = said ≡ Some (value x)
ReadsValue (Err bad.NotAllowed) value said = said ≡ None
ReadsValue (Err bad.OutOfMemory) value said = Unit {0}

-- the same, with the words after
abbrev pub TakesValue : {X V : Type 0} → Result (X × Bor (List ℕ)) LineError → (X → V) → Option (V × List (List ℕ)) → Type 0
TakesValue (Ok x) value said = said ≡ Some (value x.0, words_after x.1.now)
TakesValue (Err bad.NotAllowed) value said = said ≡ None
TakesValue (Err bad.OutOfMemory) value said = Unit {0}

-- What a reader of all fields of a line returned: whatever instruction a function makes of their values, the line of its form is that
-- instruction.
abbrev pub ReadsFields : {X M : Type 0} → Result X LineError → (M → X → Inst) → (M → Option Line) → Type 0
ReadsFields (Ok x) made said = (make : _) → said make ≡ Some (kinds.Inst (made make x))
ReadsFields (Err bad.NotAllowed) made said = (make : _) → said make ≡ None
ReadsFields (Err bad.OutOfMemory) made said = Unit {0}

-- what a reader returned that has code make the instruction: the line of the form whose function makes what the code does
abbrev pub MakesBy : {X M : Type 0} → Result Line LineError → (X → Inst → Type 0) → (M → X → Inst) → (M → Option Line) → Type 0
MakesBy result code made said = (make : _) → ((x : _) (i : Inst) → code x i → i ≡ made make x) → Makes result (said make)

-- the same, where the code first makes what the instruction has on the heap
abbrev pub MakesBoxedBy : {X Y M : Type 0} → Result Line LineError → (X → Y → Type 0) → (Y → Inst → Type 0) → (M → X → Inst) → (M → Option Line) → Type 0
MakesBoxedBy result info code made said = (make : _) → ((x : _) (y : _) (i : Inst) → info x y → code y i → i ≡ made make x) → Makes result (said make)
