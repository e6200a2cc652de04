-- The pieces of a loop that probes the stack: links of the proof.
use Rattle.std.specs.Prelude.{ℕ, ◌*◌, List, [], ◌∷◌, ◌++◌, pos}
use Rattle.std.specs.Int.{cast_signed, w64}
use Rattle.rv_base.specs.declared.condcodes.IntCC.TheVariants.{UnsignedGreaterThanOrEqual}
use Rattle.rv_ops.specs.declared.alu.AluOPRRR.TheVariants.{Sub}
use Rattle.rv_ops.specs.declared.memory.StoreOP.TheVariants.{Sb}
use Rattle.rv_code.specs.Pieces.{Piece, Rrr, Store, Do, Branch, Jump, New, Bind, number_pieces}

-- a turn, after its label 0: x31 is how far below the stack pointer the next probe is; the sequence ends where at most one guard is left,
-- else a byte 0 goes there by x30, and the next is a guard nearer
abbrev pub probe_turn : ℕ → List Piece
probe_turn tmp = Branch UnsignedGreaterThanOrEqual tmp 31 1 ∷ Do (Rrr Sub 30 2 31) ∷ Do (Store Sb 30 0 (pos 0)) ∷ Do (Rrr Sub 31 31 tmp) ∷ Jump 0 ∷ Bind 1 ∷ []

-- x31 counts down from the farthest probe's distance, by a guard each turn
abbrev pub probe_pieces : ℕ → ℕ → ℕ → List Piece
probe_pieces tmp guard count = New ∷ New ∷ (number_pieces 31 (cast_signed w64 (guard * count)) ++ (number_pieces tmp (pos guard) ++ Bind 0 ∷ probe_turn tmp))
