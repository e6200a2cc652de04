use Rattle.std.proofs.Common.{◌≡◌, drop}
use Rattle.std.specs.List.{flat_map}
use Rattle.rv_disasm.specs.Text.{further_text}
use Rattle.rv_disasm.specs.Strip.{strip}
use Rattle.rv_disasm.proofs.stripping.strip_further.Given as goal

abbrev pub invariant-loop-field : goal.invariant-loop-field
invariant-loop-field l = strip (flat_map (further_text l.d) (drop l.field-index l.fields)) l.rest ≡ strip (flat_map (further_text l.d) l.fields) l.text
