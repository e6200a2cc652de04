-- Code that was built line by line, and finished: a link of the proof.
use Rattle.std.specs.Prelude.{◌≡◌, ◌<◌, length, List}
use Rattle.std.specs.List.{AllByRecursion}
use Rattle.rv_inst.specs.Context.{Context}
use Rattle.rv_inst.specs.declared.inst.Line.{Line}
use Rattle.rv_inst.specs.declared.code.Code.{Code}
use Rattle.rv_inst.specs.LabelUse.{label_kinds}
use Rattle.mach_buffer.specs.Buffer.{shape_of, bytes_of, place_of, labels_of, records_of}
use Rattle.mach_records.specs.Ranges.{RecordedFits}
use Rattle.mach_records.specs.Records.{by_kind, relocs_in, traps_in, calls_in, tries_in, patches_in, maps_in, unwinds_in, offset_or_zero}
use Rattle.mach_buffer.specs.Finish.{CanFinish, Finishes}
use Rattle.rv_sequences.specs.Emitted.{Buffer}
use Rattle.rv_listing.specs.CodeRanges.{SpanFits, ReturnFits}
use Rattle.rv_asm.specs.LinesInBuffer.{LinesStand, Named, Sized}
use Rattle.rv_asm.specs.Reported.{returns_from}
use Rattle.rv_asm.specs.AfterLastIsland.{AfterLastIsland}
use Rattle.rv_asm.specs.Reach.{NotEarly}
use Rattle.rv_asm.specs.Spans.{Gap}
use Rattle.rv_asm.specs.StraightUses.{GoStraight}

pub record IsFinished (context : Context) (lines : List Line) (code : Code) : Type 0 where
  pub sink : Buffer
  pub gaps : List Gap
  pub built : LinesStand context lines code.lines gaps sink
  pub named : Named lines code.lines sink
  pub sized : Sized context lines sink
  pub since : AfterLastIsland context lines code.lines gaps sink
  pub early : NotEarly context lines code.lines gaps
  pub straight : GoStraight context lines code.lines gaps sink
  pub ready : CanFinish label_kinds (shape_of sink)
  pub finished : Finishes label_kinds (shape_of sink) code.bytes
  pub constants : code.constants ≡ finished.put.constants
  pub returns : code.returns ≡ returns_from context.flags code.lines 0 lines
  pub labels : code.labels ≡ labels_of sink
  pub relocs : code.relocs ≡ relocs_in (records_of sink)
  pub traps : code.traps ≡ traps_in (records_of sink)
  pub call_sites : code.call_sites ≡ calls_in (records_of sink)
  pub try_call_sites : code.try_call_sites ≡ tries_in (offset_or_zero (place_of sink)) (records_of sink)
  pub patchable_call_sites : code.patchable_call_sites ≡ patches_in (records_of sink)
  pub stack_maps : code.stack_maps ≡ maps_in (records_of sink)
  pub unwinds : code.unwinds ≡ unwinds_in (records_of sink)
  pub end : code.end ≡ length (bytes_of sink)
  pub bytes_fit : AllByRecursion (λ b. b < 256) code.bytes
  pub spans_fit : AllByRecursion SpanFits code.lines
  pub returns_fit : AllByRecursion ReturnFits code.returns
  pub records_fit : RecordedFits (by_kind (place_of sink) (records_of sink))
