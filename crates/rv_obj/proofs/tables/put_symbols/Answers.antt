use Rattle.std.proofs.Common.{◌≡◌, ◌%◌, ◌^◌, ◌++◌, length, ap, ◌∙◌, arith}
use Rattle.std.proofs.lemmas.Grind.{common_steps}
use Rattle.rv_obj.specs.declared.elf.Symbol.{Symbol}
use Rattle.rv_obj.specs.Elf.{name_of, symbol_entry}
use Rattle.rv_obj.proofs.Entries.{more_entries, all_entries}
use Rattle.rv_obj.proofs.tables.put_symbols.Goals as goal

pub loop-symbol-preserved : goal.loop-symbol-preserved
loop-symbol-preserved c =
    let is = c.symbol-item.is in
    let count = c.len.ensures in
    let low : c.low.result ≡ length c.loop-symbol.names.items % 2 ^ 32 = omega (arith, c.low.ensures, count) in
    record {
      names_so_far = grind (arith, common_steps);
      entries_to_come = more_entries c.loop-symbol.entries.items c.loop-symbol.names.items c.put_symbol.new.out.items c.put_name.new.out.items _ c.args.symbols.now c.loop-symbol.symbol-index c.low.result c.symbol-item.result c.loop-symbol-test.true low (c.in_ok-put_symbol.ensures ∙ ap (λ (s : Symbol). c.loop-symbol.entries.items ++ symbol_entry c.low.result s) is) (c.in_ok-put_name.ensures ∙ ap (λ (s : Symbol). c.loop-symbol.names.items ++ name_of s) is) c.loop-symbol.invariant.entries_to_come;
    }

pub returns : goal.returns
returns c = record {
  entries = all_entries _ _ _ c.args.symbols.now c.loop-symbol.symbol-index c.loop-symbol-test.false c.loop-symbol.invariant.entries_to_come;
  names = grind (arith, common_steps);
}
