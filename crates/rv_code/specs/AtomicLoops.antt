-- The pieces of atomic loops: a number is loaded and reserved, another is made of it on registers alone, and it is stored where no one else
-- wrote to it meanwhile; otherwise the loop begins again.
use Rattle.std.specs.Prelude.{ℕ, ◌==◌, Bool, false, if◌then◌else◌, List, [], ◌∷◌, ◌++◌, pos, negsuc}
use Rattle.rv_base.specs.declared.condcodes.IntCC.{IntCC}
use Rattle.rv_base.specs.declared.condcodes.IntCC.TheVariants.{NotEqual, SignedLessThan, SignedGreaterThan, UnsignedLessThan, UnsignedGreaterThan}
use Rattle.rv_base.specs.IrType.{bits_of}
use Rattle.rv_base.specs.Regs.{number_of}
use Rattle.rv_machine.specs.declared.ops.AtomicWidth.{AtomicWidth}
use Rattle.rv_machine.specs.declared.ops.AtomicWidth.TheVariants.{W, D}
use Rattle.rv_ops.specs.declared.alu.AluOPRRR.TheVariants as alu
use Rattle.rv_ops.specs.declared.alu.AluOPRRI.TheVariants.{Addi, Xori}
use Rattle.rv_ops.specs.declared.atomic.AMO.TheVariants.{SeqCst}
use Rattle.rv_ops.specs.declared.atomic.AtomicOP.{AtomicOP}
use Rattle.rv_ops.specs.declared.atomic.AtomicOP.TheVariants.{LrW, LrD, ScW, ScD}
use Rattle.rv_ops.specs.declared.atomic.AtomicRmwOp.{AtomicRmwOp}
use Rattle.rv_ops.specs.declared.atomic.AtomicRmwOp.TheVariants.{Add, Sub, And, Nand, Or, Xor, Xchg, Umin, Umax, Smin, Smax}
use Rattle.rv_inst.specs.AtomicLoops.{is_whole, is_wide, takes_signed}
use Rattle.rv_inst.specs.declared.atomic_loop.AtomicLoop.{AtomicLoop}
use Rattle.rv_inst.specs.declared.atomic_loop.Change.{Change}
use Rattle.rv_inst.specs.declared.atomic_loop.Change.TheVariants.{Combines, Swaps}
use Rattle.rv_code.specs.Choices.{extend_pieces}
use Rattle.rv_code.specs.Pieces.{Piece, Rrr, Rri, Amo, Do, Branch, Jump, New, Bind}

-- ---- the load and the store

-- a word holds fields of up to 32 bits
abbrev pub width_for : ℕ → AtomicWidth
width_for bits = if bits == 64 then D else W

abbrev pub load_reserved : AtomicWidth → AtomicOP
load_reserved W = LrW
load_reserved D = LrD

abbrev pub store_conditional : AtomicWidth → AtomicOP
store_conditional W = ScW
store_conditional D = ScD

-- both with both ordering bits: a register gets the number at the address in another, which is reserved; and a register is stored there,
-- which tells in t0 whether it failed
abbrev pub loop_load : ℕ → ℕ → ℕ → Piece
loop_load bits dst p = Do (Amo (load_reserved (width_for bits)) SeqCst dst p 0)

abbrev pub loop_store : ℕ → ℕ → ℕ → ℕ → Piece
loop_store bits t0 p value = Do (Amo (store_conditional (width_for bits)) SeqCst t0 p value)

-- ---- parts of registers

-- a part is taken out, so many bits from the bit on that a register says
abbrev pub extract_pieces : ℕ → ℕ → ℕ → Bool → ℕ → List Piece
extract_pieces rd offset rs signed bits = Do (Rrr alu.Srl rd rs offset) ∷ extend_pieces rd rd signed bits

-- so many ones
abbrev pub mask_pieces : ℕ → ℕ → List Piece
mask_pieces rd bits =
    if bits == 8 then Do (Rri Addi rd 0 (pos 255)) ∷ [] else Do (Rri Addi rd 0 (negsuc 0)) ∷ (if bits == 64 then [] else extend_pieces rd rd false bits)

-- it is cleared, by its mask
abbrev pub unset_pieces : ℕ → ℕ → ℕ → ℕ → List Piece
unset_pieces rd tmp offset bits = mask_pieces tmp bits ++ Do (Rrr alu.Sll tmp tmp offset) ∷ Do (Rri Xori tmp tmp (negsuc 0)) ∷ Do (Rrr alu.And rd rd tmp) ∷ []

-- and the low bits of a register are put there
abbrev pub set_pieces : ℕ → ℕ → ℕ → ℕ → ℕ → List Piece
set_pieces rd tmp offset rs bits = extend_pieces tmp rs false bits ++ Do (Rrr alu.Sll tmp tmp offset) ∷ Do (Rrr alu.Or rd rd tmp) ∷ []

abbrev pub merge_pieces : ℕ → ℕ → ℕ → ℕ → ℕ → List Piece
merge_pieces rd tmp offset rs bits = unset_pieces rd tmp offset bits ++ set_pieces rd tmp offset rs bits

-- ---- what is made of the number

-- one of two registers goes to t0: dst where it compares so with the operand, else that; label 1 stands before the move of dst, and label 2
-- after it
abbrev pub choose_pieces : IntCC → ℕ → ℕ → ℕ → List Piece
choose_pieces how t0 dst x = Branch how dst x 1 ∷ Do (Rri Addi t0 x (pos 0)) ∷ Jump 2 ∷ Bind 1 ∷ Do (Rri Addi t0 dst (pos 0)) ∷ Bind 2 ∷ []

-- what the field in dst and the operand give goes to t0
abbrev pub combine_pieces : AtomicRmwOp → ℕ → ℕ → ℕ → List Piece
combine_pieces Add t0 dst x = Do (Rrr alu.Add t0 dst x) ∷ []
combine_pieces Sub t0 dst x = Do (Rrr alu.Sub t0 dst x) ∷ []
combine_pieces And t0 dst x = Do (Rrr alu.And t0 dst x) ∷ []
combine_pieces Nand t0 dst x = Do (Rrr alu.And t0 x dst) ∷ Do (Rri Xori t0 t0 (negsuc 0)) ∷ []
combine_pieces Or t0 dst x = Do (Rrr alu.Or t0 dst x) ∷ []
combine_pieces Xor t0 dst x = Do (Rrr alu.Xor t0 dst x) ∷ []
combine_pieces Xchg t0 dst x = []
combine_pieces Umin t0 dst x = choose_pieces UnsignedLessThan t0 dst x
combine_pieces Umax t0 dst x = choose_pieces UnsignedGreaterThan t0 dst x
combine_pieces Smin t0 dst x = choose_pieces SignedLessThan t0 dst x
combine_pieces Smax t0 dst x = choose_pieces SignedGreaterThan t0 dst x

-- the register of which the field is then made: that of the operand itself where it is exchanged
abbrev pub combined_in : AtomicRmwOp → ℕ → ℕ → ℕ
combined_in Add t0 x = t0
combined_in Sub t0 x = t0
combined_in And t0 x = t0
combined_in Nand t0 x = t0
combined_in Or t0 x = t0
combined_in Xor t0 x = t0
combined_in Xchg t0 x = x
combined_in Umin t0 x = t0
combined_in Umax t0 x = t0
combined_in Smin t0 x = t0
combined_in Smax t0 x = t0

-- how many own labels there are: that of the loop, and of a choice two more
abbrev pub labels_for : AtomicRmwOp → List Piece
labels_for Add = New ∷ []
labels_for Sub = New ∷ []
labels_for And = New ∷ []
labels_for Nand = New ∷ []
labels_for Or = New ∷ []
labels_for Xor = New ∷ []
labels_for Xchg = New ∷ []
labels_for Umin = New ∷ New ∷ New ∷ []
labels_for Umax = New ∷ New ∷ New ∷ []
labels_for Smin = New ∷ New ∷ New ∷ []
labels_for Smax = New ∷ New ∷ New ∷ []

-- ---- the loops

-- a store of a register, a branch back to label 0 where it failed, and these after it
abbrev pub store_and_retry : ℕ → ℕ → ℕ → ℕ → List Piece → List Piece
store_and_retry bits t0 p value tail = loop_store bits t0 p value ∷ Branch NotEqual t0 0 0 ∷ tail

-- x30 keeps the number while its field is taken out to dst
abbrev pub take_field : ℕ → ℕ → Bool → ℕ → List Piece
take_field dst offset signed bits = Do (Rri Addi 30 dst (pos 0)) ∷ extract_pieces dst offset dst signed bits

-- what comes after the load
abbrev pub combining : AtomicRmwOp → ℕ → ℕ → ℕ → ℕ → ℕ → ℕ → List Piece
combining op bits dst offset p x t0 =
    if is_whole (Combines op) bits then combine_pieces op t0 dst x ++ store_and_retry bits t0 p t0 []
    else take_field dst offset (takes_signed op) bits ++ combine_pieces op t0 dst x ++ merge_pieces 30 31 offset (combined_in op t0 x) bits ++ store_and_retry bits t0 p 30 []

-- to label 1, at the end, where the field isn't the expected number; a doubleword is compared as it is, and a word zero-extended
abbrev pub swapping : ℕ → ℕ → ℕ → ℕ → ℕ → ℕ → ℕ → List Piece
swapping e bits dst offset p x t0 =
    if is_wide bits then (if bits == 64 then [] else extend_pieces dst dst false bits) ++ Branch NotEqual e dst 1 ∷ store_and_retry bits t0 p x (Bind 1 ∷ [])
    else take_field dst offset false bits ++ Branch NotEqual e dst 1 ∷ merge_pieces 30 31 offset x bits ++ store_and_retry bits t0 p 30 (Bind 1 ∷ [])

abbrev pub changing : Change → ℕ → ℕ → ℕ → ℕ → ℕ → ℕ → List Piece
changing (Combines op) bits dst offset p x t0 = combining op bits dst offset p x t0
changing (Swaps expected) bits dst offset p x t0 = swapping (number_of expected) bits dst offset p x t0

abbrev pub after_load : AtomicLoop → List Piece
after_load l = changing l.change (bits_of l.ty) (number_of l.dst.reg) (number_of l.offset) (number_of l.address) (number_of l.operand) (number_of l.t0.reg)

abbrev pub loop_labels : Change → List Piece
loop_labels (Combines op) = labels_for op
loop_labels (Swaps expected) = New ∷ New ∷ []

abbrev pub loop_pieces : AtomicLoop → List Piece
loop_pieces l = loop_labels l.change ++ Bind 0 ∷ loop_load (bits_of l.ty) (number_of l.dst.reg) (number_of l.address) ∷ after_load l
