use Rattle.std.proofs.Common.{List, ap, ◌∙◌}
use Rattle.mach_records.specs.declared.records.MachReloc.{MachReloc}
use Rattle.rv_obj.specs.declared.elf.Object.{Object}
use Rattle.rv_obj.specs.Elf.{object_file}
use Rattle.rv_obj.specs.Symbols.{object_of}
use Rattle.rvobj.proofs.making.file_of.Goals as goal

pub returns : goal.returns
returns c =
    let with_relocs = ap (λ (relocs : List MachReloc). object_of c.args.program.bytes relocs c.args.imports.now c.args.symbols c.args.flags) c.as_slice.ensures in
    c.from_vec.ensures ∙ c.in_ok-file.ensures ∙ ap (λ (o : Object). object_file o) (c.in_ok-object.ensures ∙ with_relocs)
