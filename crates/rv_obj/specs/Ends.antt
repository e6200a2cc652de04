-- A link of the proof: how many bytes of the contents come before each part.
use Rattle.std.specs.Prelude.{◌≡◌, ◌+◌, ◌^◌, ◌<◌, length}
use Rattle.std.specs.List.{flat_map}
use Rattle.rv_obj.specs.declared.elf.Object.{Object}
use Rattle.rv_obj.specs.declared.tables.Ends.{Ends}
use Rattle.rv_obj.specs.Elf.{rela_entry, symbol_table, string_table, section_names, before_relas, before_symbols, before_strings, before_names, named, contents}

pub record AreEnds (o : Object) (e : Ends) : Type 0 where
  pub relas : e.relas ≡ length (before_relas o)
  pub symbols : e.symbols ≡ length (before_symbols o)
  pub strings : e.strings ≡ length (before_strings o)
  pub names : e.names ≡ length (before_names o)
  pub named : e.named ≡ length (named o)
  pub all : e.all ≡ length (contents o)
  pub small : e.all < 2 ^ 63
  pub size_relas : e.symbols ≡ e.relas + length (flat_map rela_entry o.relas)
  pub size_symbols : e.strings ≡ e.symbols + length (symbol_table o.symbols)
  pub size_strings : e.names ≡ e.strings + length (string_table o.symbols)
  pub size_names : e.named ≡ e.names + length section_names
  pub within : e.named < 2 ^ 63
