-- The pieces of sequences that compute one register of another, bit by bit: they count bits, or reverse those of bytes.
use Rattle.std.specs.Prelude.{ℕ, ◌-◌, Bool, true, if◌then◌else◌, List, [], ◌∷◌, ◌++◌, pos, negsuc, unwrap_or}
use Rattle.rv_base.specs.declared.condcodes.IntCC.TheVariants.{Equal, NotEqual, SignedGreaterThanOrEqual}
use Rattle.rv_base.specs.IrType.{bits_of}
use Rattle.rv_base.specs.Regs.{number_of}
use Rattle.rv_ops.specs.declared.alu.AluOPRRR.TheVariants.{And, Or, Rem}
use Rattle.rv_ops.specs.declared.alu.AluOPRRI.{AluOPRRI}
use Rattle.rv_ops.specs.declared.alu.AluOPRRI.TheVariants.{Addi, Slli, Srli}
use Rattle.rv_inst.specs.Sizes.{bit_shift}
use Rattle.rv_inst.specs.declared.sequence.Computation.{Computation}
use Rattle.rv_inst.specs.declared.sequence.Computation.TheVariants.{Ones, Zeros, ReversedBytes}
use Rattle.rv_inst.specs.declared.sequence.Sequence.{Sequence}
use Rattle.rv_code.specs.Pieces.{Piece, Rrr, Rri, Do, Branch, Jump, New, Bind}

-- ---- counts

-- before the loop: none is counted, all bits are left, and the highest is the next where they are counted downward, else the lowest
abbrev pub count_start : Bool → ℕ → ℕ → ℕ → ℕ → List Piece
count_start downward sum tmp step bits =
    Do (Rri Addi sum 0 (pos 0)) ∷
    Do (Rri Addi step 0 (pos bits)) ∷
    Do (Rri Addi tmp 0 (pos 1)) ∷
    (if downward then Do (Rri Slli tmp tmp (pos (bits - 1))) ∷ [] else [])

-- to label 1 where no bit is left, else the next one goes to x30
abbrev pub count_test : ℕ → ℕ → ℕ → List Piece → List Piece
count_test tmp step rs tail = Branch SignedGreaterThanOrEqual 0 step 1 ∷ Do (Rrr And 30 tmp rs) ∷ tail

-- one bit less is left, another is the next, and a turn begins
abbrev pub count_down : AluOPRRI → ℕ → ℕ → List Piece
count_down shift tmp step = Do (Rri Addi step step (negsuc 0)) ∷ Do (Rri shift tmp tmp (pos 1)) ∷ Jump 0 ∷ Bind 1 ∷ []

-- the zeros before the first one are counted, from the highest of so many low bits on or from the lowest: the sequence ends at a one
abbrev pub zeros_turn : Bool → ℕ → ℕ → ℕ → ℕ → List Piece
zeros_turn leading sum tmp step rs = count_test tmp step rs (Branch NotEqual 0 30 1 ∷ Do (Rri Addi sum sum (pos 1)) ∷ count_down (bit_shift leading) tmp step)

abbrev pub zeros_pieces : Bool → ℕ → ℕ → ℕ → ℕ → ℕ → List Piece
zeros_pieces leading sum tmp step rs bits = New ∷ New ∷ count_start leading sum tmp step bits ++ Bind 0 ∷ zeros_turn leading sum tmp step rs

-- the ones of so many low bits are counted, from the highest on: a zero is passed
abbrev pub ones_turn : ℕ → ℕ → ℕ → ℕ → List Piece
ones_turn sum tmp step rs = count_test tmp step rs (Branch Equal 0 30 2 ∷ Do (Rri Addi sum sum (pos 1)) ∷ Bind 2 ∷ count_down Srli tmp step)

abbrev pub ones_pieces : ℕ → ℕ → ℕ → ℕ → ℕ → List Piece
ones_pieces sum tmp step rs bits = New ∷ New ∷ New ∷ count_start true sum tmp step bits ++ Bind 0 ∷ ones_turn sum tmp step rs

-- ---- bytes whose bits are reversed

-- before the loop: no bit is set, all are left, the highest is the next, and it goes to the lowest bit of its byte
abbrev pub reverse_start : ℕ → ℕ → ℕ → ℕ → ℕ → List Piece
reverse_start rd tmp tmp2 step bits =
    Do (Rri Addi rd 0 (pos 0)) ∷ Do (Rri Addi step 0 (pos bits)) ∷ Do (Rri Addi tmp 0 (pos 1)) ∷ Do (Rri Slli tmp tmp (pos (bits - 1)))
    ∷ Do (Rri Addi tmp2 0 (pos 1)) ∷ Do (Rri Slli tmp2 tmp2 (pos (bits - 8))) ∷ []

-- where the next bit goes: by how many bits are left of its byte, which is in x30, to the lowest bit of the byte below, or to the bit above
-- the last one in the same byte; and a turn begins
abbrev pub reverse_move : ℕ → List Piece
reverse_move tmp2 =
    Branch NotEqual 30 0 3 ∷
    Do (Rri Srli tmp2 tmp2 (pos 15)) ∷
    Jump 4 ∷
    Bind 3 ∷
    Do (Rri Slli tmp2 tmp2 (pos 1)) ∷
    Bind 4 ∷
    Jump 0 ∷
    Bind 1 ∷
    []

-- one bit less is left, the one below is the next, and x30 holds how many are left of its byte
abbrev pub reverse_down : ℕ → ℕ → ℕ → List Piece
reverse_down tmp tmp2 step =
    Do (Rri Addi step step (negsuc 0)) ∷
    Do (Rri Srli tmp tmp (pos 1)) ∷
    Do (Rri Addi 30 0 (pos 8)) ∷
    Do (Rrr Rem 30 step 30) ∷
    reverse_move tmp2

-- to label 1 where no bit is left; a bit is set where the next one is one
abbrev pub reverse_turn : ℕ → ℕ → ℕ → ℕ → ℕ → List Piece
reverse_turn rd tmp tmp2 step rs =
    Branch SignedGreaterThanOrEqual 0 step 1 ∷ Do (Rrr And 30 tmp rs) ∷ Branch Equal 0 30 2 ∷ Do (Rrr Or rd rd tmp2) ∷ Bind 2 ∷ reverse_down tmp tmp2 step

abbrev pub reverse_pieces : ℕ → ℕ → ℕ → ℕ → ℕ → ℕ → List Piece
reverse_pieces rd tmp tmp2 step rs bits = New ∷ New ∷ New ∷ New ∷ New ∷ reverse_start rd tmp tmp2 step bits ++ Bind 0 ∷ reverse_turn rd tmp tmp2 step rs

-- ---- each of them

-- of a result, three temporaries, a source, and so many bits
abbrev pub pieces_by : Computation → ℕ → ℕ → ℕ → ℕ → ℕ → ℕ → List Piece
pieces_by Ones rd tmp1 tmp2 tmp3 rs bits = ones_pieces rd tmp1 tmp2 rs bits
pieces_by (Zeros leading) rd tmp1 tmp2 tmp3 rs bits = zeros_pieces leading rd tmp1 tmp2 rs bits
pieces_by ReversedBytes rd tmp1 tmp2 tmp3 rs bits = reverse_pieces rd tmp2 tmp3 tmp1 rs bits

-- where there are two temporaries, the second stands for the third, which none of these has then
abbrev pub sequence_pieces : Sequence → List Piece
sequence_pieces s =
    pieces_by s.computation (number_of s.rd.reg) (number_of s.tmp1.reg) (number_of s.tmp2.reg) (number_of (unwrap_or s.tmp3 s.tmp2).reg) (number_of s.rs) (bits_of s.ty)
