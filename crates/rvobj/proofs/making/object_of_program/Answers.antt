use Rattle.std.proofs.Common.{◌≡◌, [], Ok, sym, ◌∙◌}
use Rattle.rv_obj.specs.Elf.{object_file}
use Rattle.rv_obj.specs.Symbols.{object_of}
use Rattle.rvobj.specs.Making.{symbols_from}
use Rattle.rvobj.proofs.making.object_of_program.Goals as goal

pub returns : goal.returns
returns c =
    let symbols = c.in_ok-symbols.symbols in
    let program = c.args.program in
    let found : symbols_from program.labels [] c.args.given.now.exports ≡ Ok symbols = (λ i. symbols_from (sym c.as_slice.ensures i) [] (sym c.as_slice-2.ensures i)) ∙ c.in_ok-symbols.ensures in
    (symbols, found, c.in_ok-bytes.ensures ∙ (λ i. object_file (object_of program.bytes program.relocs (c.as_slice-3.ensures i) symbols (c.e_flags-flags.ensures i))))
