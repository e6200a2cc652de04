-- What a compiler may rest on that calls `emit` itself: wherever what was put stands in finished code it runs as the instruction means,
-- and what it left in the buffer beside its bytes.
use Rattle.std.specs.Prelude.{◌≡◌, ℕ, ◌+◌, ◌<◌, true, List, [], ◌++◌, length, Option, Some}
use Rattle.rv_base.specs.declared.call.UserStackMap.{UserStackMap}
use Rattle.mach_labels.specs.Table.{first_inner}
use Rattle.rv_machine.specs.declared.decoding.Decoded.{Decoded}
use Rattle.rv_machine.specs.Decode.{decode}
use Rattle.rv_machine.specs.State.{State, IsState, Values, AreValues, Memory, wrap}
use Rattle.rv_machine.specs.Steps.{fetch}
use Rattle.rv_inst.specs.Sizes.{inst_records, operation_of}
use Rattle.rv_inst.specs.Operands.{Return, return_of, inst_temporaries, inst_constant, named_by, try_call_of}
use Rattle.rv_inst.specs.Context.{Context}
use Rattle.rv_inst.specs.Core.{is_integer, is_integer_in}
use Rattle.rv_inst.specs.LabelUse.{label_kinds}
use Rattle.rv_inst.specs.Meaning.{AreOutside, inst_effect, inst_exit, inst_writes, resumed, try_exit}
use Rattle.rv_inst.specs.SameValues.{Same}
use Rattle.rv_inst.specs.declared.inst.Inst.{Inst}
use Rattle.rv_inst.specs.declared.label_use.LabelUse.{LabelUse}
use Rattle.mach_buffer.specs.Buffer.{shape_of, bytes_of, place_of, labels_of, records_of, named_of}
use Rattle.mach_buffer.specs.Constants.{AllStand}
use Rattle.mach_buffer.specs.Growth.{Lasts}
use Rattle.mach_buffer.specs.Shape.{Shape}
use Rattle.rv_runs.specs.Entries.{AtReturn, AtStart}
use Rattle.rv_runs.specs.FullInstRuns.{RunsFully}
use Rattle.rv_code.specs.InstRuns.{ComesOut, environment}
use Rattle.rv_code.specs.Sites.{Site, IsPlacedAt, LeadsOn}
use Rattle.rv_sequences.specs.Emitted.{Buffer, IsSoundBuffer, HasWindows}
use Rattle.rv_sequences.specs.Images.{FieldsStand, KeepsOutside, IsFilled}
use Rattle.rv_emit.specs.StackMaps.{with_map}
use Rattle.rv_emit.specs.Standing.{IsFinishedTo}

-- what a buffer keeps, from an empty one on: the windows of uses stand apart and fresh, what relocations fill stands apart from them, and
-- constants that stand keep their bytes
pub record IsBuilt (b : Buffer) : Type 0 where
  pub sound : IsSoundBuffer b
  pub windows : HasWindows b
  pub fields : FieldsStand (shape_of b)
  pub constants : AllStand label_kinds (shape_of b)

-- A site has the code of a buffer that shows this: `finish` made its bytes, labels stand where they are bound in the end, and relocations
-- are filled.
pub record HasCode (context : Context) (f : Shape LabelUse) (site : Site) : Type 0 where
  pub bytes : List ℕ
  pub finished : IsFinishedTo f bytes
  pub fields : FieldsStand f
  pub read_in : site.context ≡ context
  pub place : site.place ≡ finished.finishes.put.place
  pub records : site.records ≡ f.records
  pub keeps : KeepsOutside site bytes
  pub filled : IsFilled site bytes

-- From the first of two offsets, and from where a call returns, on the machine with all units: the machine comes out as the instruction means
-- with the answers that it took, or asks for one that its meaning takes. Where the instruction is of the integer core, the integer machine
-- comes out as it means. That is where it writes on no byte of the code. And where one operation stands for it, that is read at the first
-- offset.
pub record RunsBetween (site : Site) (inst : Inst) (start end : ℕ) : Type 0 where
  pub run :
      (s : State) (v : Values) →
      is_integer_in site.context.frame inst ≡ true →
      IsPlacedAt site s.values.mem →
      s.pc ≡ wrap (site.base + start) →
      IsState s →
      AreValues v →
      Same v s.values →
      AreOutside site.base (length site.bytes) (inst_writes (environment site start end) inst v) →
      ComesOut site start end (inst_exit (environment site start end) inst v) (inst_temporaries inst) (inst_effect (environment site start end) inst v) s
  pub back :
      (r : Return) (s : State) (v : Values) →
      is_integer inst ≡ true →
      return_of site.context.flags inst ≡ Some r →
      IsPlacedAt site s.values.mem →
      s.pc ≡ wrap (site.base + (start + r.offset)) →
      IsState s →
      AreValues v →
      Same v s.values →
      ComesOut site start end (try_exit (try_call_of inst)) [] (resumed r v) s
  pub full : RunsFully site start end inst AtStart start
  pub full_back : (r : Return) → return_of site.context.flags inst ≡ Some r → RunsFully site start end inst AtReturn (start + r.offset)
  pub reads :
      (d : Decoded) (mem : Memory) →
      operation_of site.context inst ≡ Some d →
      IsPlacedAt site mem →
      decode site.context.flags (fetch mem (site.base + start)) ≡ Some d

-- What was put between the ends of two buffers runs so wherever the second one's code is finished, with what came after it; what stood
-- lasts; and the records, with the pending map in place of a call's own, the constant and no label of a listing were added.
pub record EmitsRun (context : Context) (map : Option UserStackMap) (inst : Inst) (old new : Buffer) : Type 0 where
  pub runs :
      (f : Shape LabelUse) (site : Site) →
      Lasts label_kinds (shape_of new) f →
      HasCode context f site →
      RunsBetween site inst (length (bytes_of old)) (length (bytes_of new))
  pub built : IsBuilt new
  pub lasts : Lasts label_kinds (shape_of old) (shape_of new)
  pub records : records_of new ≡ records_of old ++ inst_records context (length (bytes_of old)) (length (bytes_of new)) (with_map map inst)
  pub named : named_of new ≡ named_by (inst_constant inst) (named_of old)
  pub labels : labels_of new ≡ labels_of old
  pub places : (label : ℕ) → label < first_inner → place_of new label ≡ place_of old label

-- of a buffer that was built by such calls
abbrev pub Promises : Context → Option UserStackMap → Inst → Buffer → Buffer → Type 0
Promises context map inst old new = IsBuilt old → EmitsRun context map inst old new

-- Between the ends of two buffers stands nothing, or an island: wherever the second one's code is finished, what stands there leads on.
pub record GapLeads (old new : Buffer) : Type 0 where
  pub leads :
      (context : Context) (f : Shape LabelUse) (site : Site) →
      Lasts label_kinds (shape_of new) f →
      HasCode context f site →
      LeadsOn site (length (bytes_of old)) (length (bytes_of new))
  pub built : IsBuilt new
  pub lasts : Lasts label_kinds (shape_of old) (shape_of new)
