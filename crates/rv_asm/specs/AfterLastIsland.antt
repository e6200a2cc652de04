-- What is pending in the buffer since the last island, by the lines and their spans: a link of the proof.
use Rattle.std.specs.Prelude.{◌≡◌, ℕ, ◌<◌, Bool, cond, List, [], ◌∷◌, length, Some, None, slice_get}
use Rattle.mach_labels.specs.Table.{first_inner}
use Rattle.rv_inst.specs.Context.{Context}
use Rattle.rv_inst.specs.declared.code.LineSpan.{LineSpan}
use Rattle.rv_inst.specs.declared.inst.Line.{Line}
use Rattle.rv_inst.specs.declared.label_use.LabelUse.{LabelUse}
use Rattle.rv_inst.specs.LabelUse.{label_kinds}
use Rattle.rv_inst.specs.Rules.{broken_rule}
use Rattle.mach_uses.specs.declared.uses.Use.{Use}
use Rattle.mach_uses.specs.Reach.{is_pending}
use Rattle.mach_buffer.specs.Buffer.{uses_of, place_of, constants_of}
use Rattle.rv_sequences.specs.Emitted.{Buffer}
use Rattle.rv_asm.specs.Spans.{Gap}
use Rattle.rv_asm.specs.Reach.{uses_after_island, bound_by, constants_taken}

-- those uses for which a test holds
abbrev pub passing : (Use LabelUse → Bool) → List (Use LabelUse) → List (Use LabelUse)
passing test [] = []
passing test (u ∷ uses) = cond (test u) (u ∷ passing test uses) (passing test uses)

-- what is pending is so of these uses, and so many constants stand
pub record EndsIn (uses : List (Use LabelUse)) (count : ℕ) (b : Buffer) : Type 0 where
  pub same : passing (is_pending label_kinds (place_of b)) (uses_of b) ≡ passing (is_pending label_kinds (place_of b)) uses
  pub stand : length (constants_of b) ≡ count

-- no use of a line before the last island is pending, the constants that stand are those that lines before it named, and each label
-- stands where a line binds it
pub record AfterLastIsland (context : Context) (lines : List Line) (spans : List LineSpan) (gaps : List Gap) (b : Buffer) : Type 0 where
  pub ends : EndsIn (uses_after_island context lines spans gaps) (length (constants_taken context lines spans gaps)) b
  pub places : (label : ℕ) → label < first_inner → place_of b label ≡ bound_by spans 0 lines label
  pub ruled : (i : ℕ) (line : Line) → slice_get lines i ≡ Some line → broken_rule context line ≡ None
