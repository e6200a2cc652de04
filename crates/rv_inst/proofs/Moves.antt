-- Moves of registers, by pairs.
use Rattle.std.proofs.Common.{◌≡◌, ◌⊎◌, inl, inr, IsTrue, suc, ◌+◌, List, [], ◌∷◌, ◌++◌, length, sym, ap, ◌∙◌, refl, arith}
use Rattle.std.proofs.lemmas.List.{append_assoc, append-nil, length_push}
use Rattle.smallvec.specs.SmallVec.{SmallVec, HasRoomFor}
use Rattle.std.proofs.Math.Bool.{Bool-set}
use Rattle.rv_base.specs.declared.ir_type.IrType.TheVariants.{Vector as VectorOf}
use Rattle.rv_base.specs.declared.ir_type.LaneType.TheVariants as lane
use Rattle.rv_base.specs.declared.regs.Reg.{Reg}
use Rattle.rv_base.specs.declared.regs.RegClass.TheVariants.{Vector}
use Rattle.rv_base.specs.declared.regs.Writable.{Writable}
use Rattle.rv_base.specs.LaneCount.{is_lane_count}
use Rattle.rv_inst.specs.declared.inst.Inst.{Inst}
use Rattle.rv_inst.specs.Generators.{canonical_type, move_of, moves_of}

-- that sixteen lanes are counted has one proof
pub bytes_type : (counted : IsTrue (is_lane_count 16)) → VectorOf (record { lane = lane.I8; lanes = 16; counted = counted }) ≡ canonical_type Vector
bytes_type counted = λ i. VectorOf (record { lane = lane.I8; lanes = 16; counted = Bool-set _ _ counted refl i })

pub no_more_moves : (rds : List (Writable Reg)) → moves_of rds [] ≡ []
no_more_moves [] = refl
no_more_moves (rd ∷ rds) = refl

-- ---- a list of moves, as pairs are taken from its front

pub one_more_move : (items made : List Inst) (rd : Writable Reg) (rm : Reg) (rds next_rds : List (Writable Reg)) (src next_src : List Reg) → rds ≡ rd ∷ next_rds → src ≡ rm ∷ next_src → items ++ moves_of rds src ≡ made → (items ++ move_of rd rm ∷ []) ++ moves_of next_rds next_src ≡ made
one_more_move items made rd rm rds next_rds src next_src first second kept =
    append_assoc items (move_of rd rm ∷ []) (moves_of next_rds next_src) ∙ (λ i. items ++ moves_of (sym first i) (sym second i)) ∙ kept

pub all_moves : (items made : List Inst) (rds : List (Writable Reg)) (src : List Reg) → (rds ≡ []) ⊎ (src ≡ []) → items ++ moves_of rds src ≡ made → items ≡ made
all_moves items made rds src (inl e) kept = sym (append-nil items) ∙ ap (λ ds. items ++ moves_of ds src) (sym e) ∙ kept
all_moves items made rds src (inr e) kept = sym (append-nil items) ∙ ap (λ moves. items ++ moves) (sym (no_more_moves rds)) ∙ ap (λ rms. items ++ moves_of rds rms) (sym e) ∙ kept

-- there is room for one, and then for the others
pub room_for_one : (insts : SmallVec Inst) (rd : Writable Reg) (rds next_rds : List (Writable Reg)) → rds ≡ rd ∷ next_rds → HasRoomFor insts (length rds) → HasRoomFor insts 1
room_for_one insts rd rds next_rds first room = let long : length rds ≡ suc (length next_rds) = ap length first in omega arith

pub room_for_others : (insts next : SmallVec Inst) (inst : Inst) (rd : Writable Reg) (rds next_rds : List (Writable Reg)) → rds ≡ rd ∷ next_rds → next.items ≡ insts.items ++ inst ∷ [] → next.capacity ≡ insts.capacity → HasRoomFor insts (length rds) → HasRoomFor next (length next_rds)
room_for_others insts next inst rd rds next_rds first items capacity room =
    let long : length rds ≡ suc (length next_rds) = ap length first in
    let longer : length next.items ≡ length insts.items + 1 = ap length items ∙ length_push insts.items inst in
    omega arith
