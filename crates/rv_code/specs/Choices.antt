-- The pieces that move a register, that extend a number, and that choose one of two values.
use Rattle.std.specs.Prelude.{ℕ, ◌-◌, ◌&&◌, nat_eq, Bool, true, false, if◌then◌else◌, List, [], ◌∷◌, ◌++◌, map, pos, unwrap_or}
use Rattle.rv_base.specs.declared.condcodes.IntCC.{IntCC}
use Rattle.rv_base.specs.declared.ir_type.IrType.{IrType}
use Rattle.rv_base.specs.declared.regs.Reg.{Reg}
use Rattle.rv_base.specs.declared.regs.RegClass.{RegClass}
use Rattle.rv_base.specs.declared.regs.RegClass.TheVariants.{Int, Float, Vector}
use Rattle.rv_base.specs.CondCodes.{complement_of}
use Rattle.rv_base.specs.Regs.{class_of, number_of}
use Rattle.rv_ops.specs.declared.alu.AluOPRRI.TheVariants.{Addi, Andi, Slli}
use Rattle.rv_ops.specs.declared.float_fields.FpuOPWidth.TheVariants.{D}
use Rattle.rv_ops.specs.FloatFields.{width_of}
use Rattle.rv_inst.specs.Generators.{canonical_type}
use Rattle.rv_inst.specs.Operands.{all_of, written_in}
use Rattle.rv_inst.specs.Sizes.{is_byte, right_shift}
use Rattle.rv_inst.specs.declared.inst.SelectInfo.{SelectInfo}
use Rattle.rv_code.specs.Pieces.{Action, Rri, Copy, Piece, Do, Branch, New, Bind}

-- the low byte by andi, and any other low bits by two shifts
abbrev pub extend_pieces : ℕ → ℕ → Bool → ℕ → List Piece
extend_pieces rd rn signed bits =
    if is_byte signed bits then Do (Rri Andi rd rn (pos 255)) ∷ [] else
    Do (Rri Slli rd rn (pos (64 - bits))) ∷ Do (Rri (right_shift signed) rd rd (pos (64 - bits))) ∷ []

-- the operation that moves a register of a class, as one of a type
abbrev pub move_action : RegClass → IrType → ℕ → ℕ → Action
move_action Int type rd rs = Rri Addi rd rs (pos 0)
move_action Float type rd rs = Copy (unwrap_or (width_of type) D) rd rs
move_action Vector type rd rs = Rri Addi rd rs (pos 0)

-- a move of one register to another of its class; none is a move to itself
abbrev pub move_pieces : RegClass → IrType → ℕ → ℕ → List Piece
move_pieces class type rd rs = if nat_eq rd rs then [] else Do (move_action class type rd rs) ∷ []

-- moves of whole registers, each to its own, and these pieces after them
abbrev pub moves_then : List Reg → List Reg → List Piece → List Piece
moves_then [] sources more = more
moves_then (rd ∷ rds) [] more = more
moves_then (rd ∷ rds) (rs ∷ sources) more =
    move_pieces (class_of rd) (canonical_type (class_of rd)) (number_of rd) (number_of rs) ++ moves_then rds sources more

-- one value is moved, and then the other, unless a branch leads over that
abbrev pub choice_pieces : List Reg → List Reg → List Reg → IntCC → ℕ → ℕ → List Piece
choice_pieces rds first second how a b = New ∷ moves_then rds first (Branch how a b 0 ∷ moves_then rds second (Bind 0 ∷ []))

abbrev pub same_numbers : List ℕ → List ℕ → Bool
same_numbers [] [] = true
same_numbers [] (n ∷ ns) = false
same_numbers (m ∷ ms) [] = false
same_numbers (m ∷ ms) (n ∷ ns) = nat_eq m n && same_numbers ms ns

-- where the results are the second value's registers already, that one isn't moved, and a branch leads over the move of the first
abbrev pub chosen_pieces : List Reg → IntCC → ℕ → ℕ → List Reg → List Reg → List Piece
chosen_pieces rds how a b xs ys =
    if same_numbers (map number_of ys) (map number_of rds)
    then choice_pieces rds ys xs (complement_of how) a b
    else choice_pieces rds xs ys how a b

abbrev pub select_pieces : SelectInfo → List Piece
select_pieces info =
    chosen_pieces (written_in info.dst) info.condition.kind (number_of info.condition.rs1) (number_of info.condition.rs2) (all_of info.x) (all_of info.y)
