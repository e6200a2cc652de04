use Rattle.std.proofs.Common.{◌≡◌, drop}
use Rattle.rv_fill.specs.Filled.{table_of}
use Rattle.rv_fill.specs.Refusal.{records_refusal}
use Rattle.rv_fill.proofs.refusal.refuse_records.Given as goal

abbrev pub invariant-loop-index : goal.invariant-loop-index
invariant-loop-index l = records_refusal l.count l.relocs l.base (table_of l.symbols) (table_of l.slots) l.index (drop l.index l.relocs) ≡ records_refusal l.count l.relocs l.base (table_of l.symbols) (table_of l.slots) 0 l.relocs
