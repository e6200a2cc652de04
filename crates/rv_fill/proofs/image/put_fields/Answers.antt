use Rattle.std.proofs.Common.{◌≡◌, ℕ, length, pos, arith}
use Rattle.std.proofs.lemmas.Option.{slice_get-get_or}
use Rattle.mach_records.specs.declared.records.FinalizedRelocTarget.TheVariants.{ExternalName as Named}
use Rattle.mach_records.specs.declared.records.MachReloc.{MachReloc}
use Rattle.rv_base.specs.declared.reloc.Reloc.TheVariants.{RiscvCallPlt}
use Rattle.rv_fill.specs.Filled.{table_of}
use Rattle.rv_fill.proofs.Accepted.{each_fine}
use Rattle.rv_fill.proofs.image.put_fields.Goals as goal

pub put_field-requires : goal.put_field-requires
put_field-requires c =
    let blank : MachReloc = record { offset = 0; kind = RiscvCallPlt; target = Named (record { number = 0 }); addend = pos 0 } in
    let within = (each_fine (length c.args.image.now) c.args.relocs.now c.args.base (table_of c.args.symbols.now) (table_of c.args.slots.now) c.requires c.loop-reloc.reloc-index _ (slice_get-get_or c.args.relocs.now c.loop-reloc.reloc-index blank c.loop-reloc-test.true)).within in
    omega (arith, within, c.loop-reloc.auto.image)
