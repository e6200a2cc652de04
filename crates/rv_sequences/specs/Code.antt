-- The code of an instruction as a value: the pieces that it is, and what these ask of the buffer into which they are put.
use Rattle.std.specs.Prelude.{◌≡◌, ℕ, ◌+◌, ◌<◌, ◌≤◌, ◌^◌, true, false, List, [], ◌∷◌, ◌++◌, None}
use Rattle.std.specs.Int.{cast_signed, w64}
use Rattle.rv_base.specs.Regs.{class_of, number_of}
use Rattle.mach_labels.specs.Table.{first_inner}
use Rattle.rv_encode.specs.Registers.{IsIntRegister}
use Rattle.rv_inst.specs.Generators.{canonical_type}
use Rattle.rv_inst.specs.SameValues.{is_among}
use Rattle.rv_inst.specs.declared.label_use.LabelUse.{LabelUse}
use Rattle.mach_buffer.specs.Shape.{Shape, IsKnown}
use Rattle.rv_sequences.specs.declared.code.CodePiece.{CodePiece}
use Rattle.rv_sequences.specs.declared.code.OwnLabels.{OwnLabels}
use Rattle.rv_sequences.specs.declared.code.CodePiece.TheVariants as code
use Rattle.rv_code.specs.AtomicLoops.{extract_pieces, merge_pieces}
use Rattle.rv_code.specs.Choices.{extend_pieces, move_pieces}
use Rattle.rv_code.specs.Usable.{IsMove}
use Rattle.rv_machine.specs.UnitDecode.{is_source}
use Rattle.rv_ops.specs.Atomic.{atomic_op}
use Rattle.rv_ops.specs.declared.atomic.AMO.TheVariants.{SeqCst}
use Rattle.rv_ops.specs.Memory.{is_float_load, is_float_store}
use Rattle.rv_code.specs.Pieces.{Piece, Rrr, Rri, Amo, Fence, Load, Store, Do, Branch, Jump, New, Bind, Trap, number_pieces}

-- the pieces that it is: one, but of a move of a register to itself none, and of a number those that make it
abbrev pub shown : CodePiece → List Piece
shown (code.Rrr op rd rs1 rs2) = Do (Rrr op (number_of rd.reg) (number_of rs1) (number_of rs2)) ∷ []
shown (code.Rri op rd rs imm) = Do (Rri op (number_of rd.reg) (number_of rs) imm.value) ∷ []
shown (code.Fence pred succ) = Do (Fence pred succ) ∷ []
shown (code.Load op rd base offset) = Do (Load op (number_of rd.reg) (number_of base) offset.value) ∷ []
shown (code.Store op base src offset) = Do (Store op (number_of base) (number_of src) offset.value) ∷ []
shown (code.Number rd value) = number_pieces (number_of rd.reg) (cast_signed w64 value)
shown (code.Extend rd rn signed bits) = extend_pieces (number_of rd.reg) (number_of rn) signed bits
shown (code.Extract rd offset rs signed bits) = extract_pieces (number_of rd.reg) (number_of offset) (number_of rs) signed bits
shown (code.Merge rd tmp offset rs bits) = merge_pieces (number_of rd.reg) (number_of tmp.reg) (number_of offset) (number_of rs) bits
shown (code.Atomic op rd addr src) = Do (Amo op SeqCst (number_of rd.reg) (number_of addr) (number_of src)) ∷ []
shown (code.Move rd rs) = move_pieces (class_of rd.reg) (canonical_type (class_of rd.reg)) (number_of rd.reg) (number_of rs)
shown (code.Branch kind label) = Branch kind.kind (number_of kind.rs1) (number_of kind.rs2) label ∷ []
shown (code.Jump label) = Jump label ∷ []
shown code.New = New ∷ []
shown (code.Bind label) = Bind label ∷ []
shown (code.Trap code) = Trap code ∷ []

abbrev pub pieces_of : List CodePiece → List Piece
pieces_of [] = []
pieces_of (p ∷ ps) = shown p ++ pieces_of ps

-- how many bytes it has at most
abbrev pub most_of : CodePiece → ℕ
most_of (code.Rrr op rd rs1 rs2) = 4
most_of (code.Rri op rd rs imm) = 4
most_of (code.Fence pred succ) = 4
most_of (code.Load op rd base offset) = 4
most_of (code.Store op base src offset) = 4
most_of (code.Number rd value) = 20
most_of (code.Extend rd rn signed bits) = 8
most_of (code.Extract rd offset rs signed bits) = 12
most_of (code.Merge rd tmp offset rs bits) = 40
most_of (code.Atomic op rd addr src) = 4
most_of (code.Move rd rs) = 4
most_of (code.Branch kind label) = 4
most_of (code.Jump label) = 4
most_of code.New = 0
most_of (code.Bind label) = 0
most_of (code.Trap code) = 4

abbrev pub code_most : List CodePiece → ℕ
code_most [] = 0
code_most (p ∷ ps) = most_of p + code_most ps

-- integer registers, a load or a store of integers, sets of four bits in a fence, parts of at most 64 bits, no source of a load-reserved,
-- and two registers of one class in a move
abbrev pub IsSound : CodePiece → Type 0
IsSound (code.Rrr op rd rs1 rs2) = IsIntRegister rd.reg × IsIntRegister rs1 × IsIntRegister rs2
IsSound (code.Rri op rd rs imm) = IsIntRegister rd.reg × IsIntRegister rs
IsSound (code.Fence pred succ) = (pred < 2 ^ 4) × (succ < 2 ^ 4)
IsSound (code.Load op rd base offset) = (is_float_load op ≡ false) × IsIntRegister rd.reg × IsIntRegister base
IsSound (code.Store op base src offset) = (is_float_store op ≡ false) × IsIntRegister base × IsIntRegister src
IsSound (code.Number rd value) = IsIntRegister rd.reg
IsSound (code.Extend rd rn signed bits) = IsIntRegister rd.reg × IsIntRegister rn × (1 ≤ bits) × (bits ≤ 64)
IsSound (code.Extract rd offset rs signed bits) = IsIntRegister rd.reg × IsIntRegister offset × IsIntRegister rs × (1 ≤ bits) × (bits ≤ 64)
IsSound (code.Merge rd tmp offset rs bits) = IsIntRegister rd.reg × IsIntRegister tmp.reg × IsIntRegister offset × IsIntRegister rs × (1 ≤ bits) × (bits ≤ 64)
IsSound (code.Atomic op rd addr src) = IsIntRegister rd.reg × IsIntRegister addr × IsIntRegister src × (is_source (atomic_op op) (number_of src) ≡ true)
IsSound (code.Move rd rs) = IsMove rd.reg rs (canonical_type (class_of rd.reg))
IsSound (code.Branch kind label) = IsIntRegister kind.rs1 × IsIntRegister kind.rs2
IsSound (code.Jump label) = Unit {0}
IsSound code.New = Unit {0}
IsSound (code.Bind label) = Unit {0}
IsSound (code.Trap code) = Unit {0}

-- an own label is used and bound after it was allocated, and bound once: so many were allocated before, and these are bound
abbrev pub IsLabelled : ℕ → List ℕ → List CodePiece → Type 0
IsLabelled news bound [] = Unit {0}
IsLabelled news bound (code.Rrr op rd rs1 rs2 ∷ ps) = IsLabelled news bound ps
IsLabelled news bound (code.Rri op rd rs imm ∷ ps) = IsLabelled news bound ps
IsLabelled news bound (code.Fence pred succ ∷ ps) = IsLabelled news bound ps
IsLabelled news bound (code.Load op rd base offset ∷ ps) = IsLabelled news bound ps
IsLabelled news bound (code.Store op base src offset ∷ ps) = IsLabelled news bound ps
IsLabelled news bound (code.Number rd value ∷ ps) = IsLabelled news bound ps
IsLabelled news bound (code.Extend rd rn signed bits ∷ ps) = IsLabelled news bound ps
IsLabelled news bound (code.Extract rd offset rs signed bits ∷ ps) = IsLabelled news bound ps
IsLabelled news bound (code.Merge rd tmp offset rs bits ∷ ps) = IsLabelled news bound ps
IsLabelled news bound (code.Atomic op rd addr src ∷ ps) = IsLabelled news bound ps
IsLabelled news bound (code.Move rd rs ∷ ps) = IsLabelled news bound ps
IsLabelled news bound (code.Branch kind label ∷ ps) = (label < news) × IsLabelled news bound ps
IsLabelled news bound (code.Jump label ∷ ps) = (label < news) × IsLabelled news bound ps
IsLabelled news bound (code.New ∷ ps) = IsLabelled (1 + news) bound ps
IsLabelled news bound (code.Trap code ∷ ps) = IsLabelled news bound ps
IsLabelled news bound (code.Bind label ∷ ps) = (label < news) × (is_among bound label ≡ false) × IsLabelled news (label ∷ bound) ps

abbrev pub AreSound : List CodePiece → Type 0
AreSound [] = Unit {0}
AreSound (p ∷ ps) = IsSound p × AreSound ps

-- what a piece asks where the sequence's first own label has that number: its label is known, and one that it binds isn't bound
abbrev pub IsUsableAt : ℕ → CodePiece → Shape LabelUse → Type 0
IsUsableAt base (code.Rrr op rd rs1 rs2) s = Unit {0}
IsUsableAt base (code.Rri op rd rs imm) s = Unit {0}
IsUsableAt base (code.Fence pred succ) s = Unit {0}
IsUsableAt base (code.Load op rd register offset) s = Unit {0}
IsUsableAt base (code.Store op register src offset) s = Unit {0}
IsUsableAt base (code.Number rd value) s = Unit {0}
IsUsableAt base (code.Extend rd rn signed bits) s = Unit {0}
IsUsableAt base (code.Extract rd offset rs signed bits) s = Unit {0}
IsUsableAt base (code.Merge rd tmp offset rs bits) s = Unit {0}
IsUsableAt base (code.Atomic op rd addr src) s = Unit {0}
IsUsableAt base (code.Move rd rs) s = Unit {0}
IsUsableAt base (code.Branch kind label) s = IsKnown (base + label) s.allocated
IsUsableAt base (code.Jump label) s = IsKnown (base + label) s.allocated
IsUsableAt base code.New s = Unit {0}
IsUsableAt base (code.Bind label) s = IsKnown (base + label) s.allocated × (s.place (base + label) ≡ None)
IsUsableAt base (code.Trap code) s = Unit {0}

-- whether it needs to know that number
abbrev pub IsBaseFor : ℕ → ℕ → CodePiece → Type 0
IsBaseFor base allocated (code.Rrr op rd rs1 rs2) = Unit {0}
IsBaseFor base allocated (code.Rri op rd rs imm) = Unit {0}
IsBaseFor base allocated (code.Fence pred succ) = Unit {0}
IsBaseFor base allocated (code.Load op rd register offset) = Unit {0}
IsBaseFor base allocated (code.Store op register src offset) = Unit {0}
IsBaseFor base allocated (code.Number rd value) = Unit {0}
IsBaseFor base allocated (code.Extend rd rn signed bits) = Unit {0}
IsBaseFor base allocated (code.Extract rd offset rs signed bits) = Unit {0}
IsBaseFor base allocated (code.Merge rd tmp offset rs bits) = Unit {0}
IsBaseFor base allocated (code.Atomic op rd addr src) = Unit {0}
IsBaseFor base allocated (code.Move rd rs) = Unit {0}
IsBaseFor base allocated (code.Branch kind label) = base ≡ first_inner + allocated
IsBaseFor base allocated (code.Jump label) = base ≡ first_inner + allocated
IsBaseFor base allocated code.New = Unit {0}
IsBaseFor base allocated (code.Bind label) = base ≡ first_inner + allocated
IsBaseFor base allocated (code.Trap code) = Unit {0}

-- the own labels after a piece: one more after one that is allocated, which isn't bound; else the same
abbrev pub IsNext : OwnLabels → OwnLabels → CodePiece → Shape LabelUse → Shape LabelUse → Type 0
IsNext own next (code.Rrr op rd rs1 rs2) s t = next ≡ own
IsNext own next (code.Rri op rd rs imm) s t = next ≡ own
IsNext own next (code.Fence pred succ) s t = next ≡ own
IsNext own next (code.Load op rd base offset) s t = next ≡ own
IsNext own next (code.Store op base src offset) s t = next ≡ own
IsNext own next (code.Number rd value) s t = next ≡ own
IsNext own next (code.Extend rd rn signed bits) s t = next ≡ own
IsNext own next (code.Extract rd offset rs signed bits) s t = next ≡ own
IsNext own next (code.Merge rd tmp offset rs bits) s t = next ≡ own
IsNext own next (code.Atomic op rd addr src) s t = next ≡ own
IsNext own next (code.Move rd rs) s t = next ≡ own
IsNext own next (code.Branch kind label) s t = next ≡ own
IsNext own next (code.Jump label) s t = next ≡ own
IsNext own next code.New s t = (next.count ≡ 1 + own.count) × (next.base + own.count ≡ first_inner + s.allocated) × (t.place (first_inner + s.allocated) ≡ None)
IsNext own next (code.Bind label) s t = next ≡ own
IsNext own next (code.Trap code) s t = next ≡ own
