-- Where lines stand, by the spans that the code reports, and the gap in each in which an island may stand.
use Rattle.std.specs.Prelude.{◌≡◌, ℕ, zero, suc, ◌+◌, ◌-◌, ◌≤◌, ◌⊎◌, Bool, ◌||◌, nat_eq, nat_lt, if◌then◌else◌, List, [], ◌∷◌, slice_get, Option, Some, None, option_map, unwrap_or}
use Rattle.rv_base.specs.declared.flags.IsaFlags.{IsaFlags}
use Rattle.rv_machine.specs.declared.decoding.Decoded.{Decoded}
use Rattle.rv_inst.specs.Context.{Context}
use Rattle.rv_inst.specs.declared.code.LineSpan.{LineSpan}
use Rattle.rv_inst.specs.declared.inst.Inst.{Inst}
use Rattle.rv_inst.specs.declared.inst.Line.{Line}
use Rattle.rv_inst.specs.declared.inst.Line.TheVariants.{Inst as Put, Bind}
use Rattle.rv_base.specs.declared.constant.VCodeConstant.{VCodeConstant}
use Rattle.rv_inst.specs.Islands.{IsIsland}
use Rattle.rv_inst.specs.Operands.{inst_constant, named_by}
use Rattle.rv_inst.specs.Sizes.{Request, IsOfSize, first_in, inst_size, operation_of, request_of}

abbrev pub start_of : List LineSpan → ℕ → ℕ
start_of spans i = unwrap_or (option_map (λ (s : LineSpan). s.start) (slice_get spans i)) 0

abbrev pub end_of : List LineSpan → ℕ → ℕ
end_of spans i = unwrap_or (option_map (λ (s : LineSpan). s.end) (slice_get spans i)) 0

-- where the line before this one ends
abbrev pub end_before : List LineSpan → ℕ → ℕ
end_before spans zero = 0
end_before spans (suc i) = end_of spans i

-- the gap of a line: two offsets within its span
pub record Gap : Type 0 where
  pub from : ℕ
  pub to : ℕ

abbrev pub from_of : List Gap → ℕ → ℕ
from_of gaps i = unwrap_or (option_map (λ (g : Gap). g.from) (slice_get gaps i)) 0

abbrev pub to_of : List Gap → ℕ → ℕ
to_of gaps i = unwrap_or (option_map (λ (g : Gap). g.to) (slice_get gaps i)) 0

-- the number of the first line that binds a label
abbrev pub binding_line : List Line → ℕ → ℕ
binding_line [] label = 0
binding_line (Bind l ∷ lines) label = if nat_eq l.number label then 0 else suc (binding_line lines label)
binding_line (Put inst ∷ lines) label = suc (binding_line lines label)

-- where a label stands: the start of the line that binds it
abbrev pub label_start : List LineSpan → List Line → ℕ → ℕ
label_start spans lines label = start_of spans (binding_line lines label)

-- nothing stands between two offsets, or an island
abbrev pub IsGap : IsaFlags → List ℕ → ℕ → ℕ → Type 0
IsGap flags bytes from to = (from ≡ to) ⊎ IsIsland flags bytes from to

-- in a line, only where its instruction asks for an island
abbrev pub IsGapOf : IsaFlags → List ℕ → Option Request → ℕ → ℕ → Type 0
IsGapOf flags bytes None from to = from ≡ to
IsGapOf flags bytes (Some r) from to = IsGap flags bytes from to

-- An instruction's bytes stand between two offsets, and between them its gap. Before it, and around it, stand as many as the instruction
-- may have; and one of one machine word is as long as the word.
pub record IsSized (context : Context) (bytes : List ℕ) (inst : Inst) (start from to end : ℕ) : Type 0 where
  pub first : start ≤ from
  pub gap : IsGapOf context.flags bytes (request_of context inst) from to
  pub last : to ≤ end
  pub begins : IsOfSize (first_in (request_of context inst)) (from - start)
  pub size : IsOfSize (inst_size context inst) (from - start + (end - to))
  pub word : (d : Decoded) → operation_of context inst ≡ Some d → end ≡ start + d.len

-- that of a bind is empty
abbrev pub IsSpan : Context → List ℕ → Line → ℕ → ℕ → ℕ → ℕ → Type 0
IsSpan context bytes (Put inst) start from to end = IsSized context bytes inst start from to end
IsSpan context bytes (Bind label) start from to end = (end ≡ start) × (from ≡ to)

-- ---- islands

-- an island stands before a line: the line starts past the end of the one before it
abbrev pub is_after_island : List LineSpan → ℕ → Bool
is_after_island spans i = nat_lt (end_before spans i) (start_of spans i)

-- an island stands in the gap of a line
abbrev pub is_island : List Gap → ℕ → Bool
is_island gaps i = nat_lt (from_of gaps i) (to_of gaps i)

-- the first of so many lines whose uses no island stands after; those of a line in which an island stands come after it
abbrev pub first_after_island : List LineSpan → List Gap → ℕ → ℕ
first_after_island spans gaps zero = 0
first_after_island spans gaps (suc i) = if is_island gaps i || is_after_island spans i then i else first_after_island spans gaps i

-- ---- constants

-- the constant that a line names
abbrev pub line_constant : Line → Option VCodeConstant
line_constant (Put inst) = inst_constant inst
line_constant (Bind label) = None

-- constants that were named, and those that these lines name
abbrev pub constants_after : List VCodeConstant → List Line → List VCodeConstant
constants_after named [] = named
constants_after named (line ∷ lines) = constants_after (named_by (line_constant line) named) lines

-- the constants that lines name, each once, in the order of their first use
abbrev pub constants_named : List Line → List VCodeConstant
constants_named lines = constants_after [] lines
