-- The texts of a listing's instructions, a line for each, by its place among the lines.
use Rattle.std.specs.Prelude.{ℕ, suc, ◌+◌, List, [], ◌∷◌, ◌++◌, codes}
use Rattle.std.specs.Fmt.{decimal}
use Rattle.rv_inst.specs.declared.inst.Line.{Line}
use Rattle.rv_inst.specs.declared.inst.Line.TheVariants.{Inst as Put, Bind}
use Rattle.rv_text.specs.Texts.{text_of}

abbrev pub line_text : ℕ → Line → List ℕ
line_text index (Put inst) = codes "text " ++ decimal index ++ codes " " ++ text_of inst ++ codes "\n"
line_text index (Bind label) = []

-- from the line at a place on
abbrev pub texts_from : ℕ → List Line → List ℕ
texts_from index [] = []
texts_from index (line ∷ lines) = line_text index line ++ texts_from (suc index) lines

abbrev pub texts : List Line → List ℕ
texts lines = texts_from 0 lines
