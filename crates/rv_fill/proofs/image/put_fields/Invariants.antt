use Rattle.std.proofs.Common.{◌≡◌, drop}
use Rattle.rv_fill.specs.Filled.{table_of}
use Rattle.rv_fill.specs.Steps.{put_fields}
use Rattle.rv_fill.proofs.image.put_fields.Given as goal

abbrev pub invariant-loop-reloc : goal.invariant-loop-reloc
invariant-loop-reloc l = put_fields l.relocs l.base (table_of l.symbols) (table_of l.slots) (drop l.reloc-index l.relocs) l.image ≡ put_fields l.relocs l.base (table_of l.symbols) (table_of l.slots) l.relocs l.initial.image
