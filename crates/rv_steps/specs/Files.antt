-- Registers of the units, as text.
use Rattle.std.specs.Prelude.{ℕ, ◌+◌, List, [], ◌∷◌, ◌++◌, ◌==◌, ◌&&◌, if◌then◌else◌, codes, false}
use Rattle.std.specs.Fmt.{decimal, digits}
use Rattle.std.specs.Int.{w128, to_be_bytes}
use Rattle.hex.specs.Hex.{encode_lower}
use Rattle.rv_base.specs.RegNames.{real_name}
use Rattle.rv_base.specs.declared.regs.RegClass.{RegClass}
use Rattle.rv_base.specs.declared.regs.RegClass.TheVariants.{Float, Vector}
use Rattle.rv_full.specs.declared.units.Setting.{Setting}
use Rattle.rv_full.specs.Units.{Units}
use Rattle.rv_steps.specs.declared.files.Style.{Style}
use Rattle.rv_steps.specs.declared.files.Style.TheVariants.{Line, Step}

-- hexadecimal digits, without leading zeros
abbrev pub hex : ℕ → List ℕ
hex n = digits 16 false n

-- what stands before a register's name, between it and its value, and after that: in a line of its own, or in the line of a step
abbrev pub before_name : Style → List ℕ
before_name Line = []
before_name Step = codes "  "

abbrev pub before_value : Style → List ℕ
before_value Line = codes " 0x"
before_value Step = codes "=0x"

abbrev pub after_value : Style → List ℕ
after_value Line = codes "\n"
after_value Step = []

-- a register's name, and the digits of its value
abbrev pub register_text : Style → RegClass → ℕ → List ℕ → List ℕ
register_text style class n digits = before_name style ++ real_name class n ++ before_value style ++ digits ++ after_value style

-- in hexadecimal digits; of a vector register all 32
abbrev pub float_text : Style → ℕ → ℕ → List ℕ
float_text style n x = register_text style Float n (hex x)

abbrev pub vector_text : Style → ℕ → ℕ → List ℕ
vector_text style n x = register_text style Vector n (encode_lower (to_be_bytes w128 x))

-- the registers of a file from number n on that have another value than before, with the text of a number and a value
abbrev pub file_changes : (ℕ → ℕ → List ℕ) → ℕ → List ℕ → List ℕ → List ℕ
file_changes text n [] after = []
file_changes text n (x ∷ xs) [] = []
file_changes text n (x ∷ xs) (y ∷ ys) = (if x == y then [] else text n y) ++ file_changes text (n + 1) xs ys

-- the rounding mode, where it is another
abbrev pub frm_line : ℕ → ℕ → List ℕ
frm_line old new = if old == new then [] else codes "frm " ++ decimal new ++ codes "\n"

-- the vector setting, where it is another: the length, and vtype in hexadecimal digits
abbrev pub setting_line : Setting → Setting → List ℕ
setting_line old new =
    if old.avl == new.avl && old.vtype == new.vtype
    then []
    else codes "setting " ++ decimal new.avl ++ codes ",0x" ++ hex new.vtype ++ codes "\n"

-- a line for each of these registers of the units that has another value after the run
abbrev pub lines_from : List ℕ → List ℕ → ℕ → Setting → Units → List ℕ
lines_from floats vectors frm setting new =
    file_changes (float_text Line) 0 floats new.floats ++ file_changes (vector_text Line) 0 vectors new.vectors ++ frm_line frm new.frm ++ setting_line setting new.setting

abbrev pub unit_lines : Units → Units → List ℕ
unit_lines old new = lines_from old.floats old.vectors old.frm old.setting new
