use Rattle.std.proofs.Common.{◌≡◌, ◌++◌, drop, string_bytes}
use Rattle.rv_text.specs.Lines.{texts_from, texts}
use Rattle.rv_text.proofs.lines.texts.Given as goal

abbrev pub invariant-loop-index : goal.invariant-loop-index
invariant-loop-index l = string_bytes l.out ++ texts_from l.index (drop l.index l.lines) ≡ texts l.lines
