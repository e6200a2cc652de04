use Rattle.rv_code.specs.AtomicLoops.{extract_pieces, merge_pieces}
use Rattle.rv_code.specs.Choices.{extend_pieces}
use Rattle.rv_sequences.proofs.{CodePut.{branch_puts, move_puts, number_puts}, PartsCode.{actions_put, extend_few, extract_few, merge_few}, Terms.{cast_signed, number_of, w64, sym, subst, ℕ, on_ok_weaker, shape_of, slots_of, shown, IsBaseFor, Puts, CodePiece}}
use Rattle.rv_sequences.proofs.code.put_piece.Goals as goal

pub returns-in-Branch-clause-slot : goal.returns-in-Branch-clause-slot
returns-in-Branch-clause-slot c = on_ok_weaker c.put_compare.result (λ puts. subst (λ (p : CodePiece). (allocated : ℕ) → IsBaseFor c.args.first allocated p → Puts c.args.flags allocated (slots_of c.args.flags (shown p)) (shape_of c.args.sink.now) (shape_of c.put_compare.new.sink)) (sym c.in-Branch.is)
    (λ allocated base. branch_puts _ _ _ _ _ _ _ _ c.own_label.ensures base (puts c.args.flags))) c.put_compare.ensures.slot

pub returns-in-Move-clause-slot : goal.returns-in-Move-clause-slot
returns-in-Move-clause-slot c = on_ok_weaker c.put_whole_move.result (λ put. subst (λ (p : CodePiece). (allocated : ℕ) → IsBaseFor c.args.first allocated p → Puts c.args.flags allocated (slots_of c.args.flags (shown p)) (shape_of c.args.sink.now) (shape_of c.put_whole_move.new.sink)) (sym c.in-Move.is)
    (λ allocated base. move_puts _ _ _ _ _ _ _ put)) c.put_whole_move.ensures.slots

pub returns-in-Number-clause-slot : goal.returns-in-Number-clause-slot
returns-in-Number-clause-slot c = on_ok_weaker c.put_number.result (λ put. subst (λ (p : CodePiece). (allocated : ℕ) → IsBaseFor c.args.first allocated p → Puts c.args.flags allocated (slots_of c.args.flags (shown p)) (shape_of c.args.sink.now) (shape_of c.put_number.new.sink)) (sym c.in-Number.is)
    (λ allocated base. number_puts allocated (number_of c.in-Number.rd.reg) (cast_signed w64 c.in-Number.value) _ _ put)) c.put_number.ensures.slots

pub returns-in-Extend-clause-slot : goal.returns-in-Extend-clause-slot
returns-in-Extend-clause-slot c = on_ok_weaker c.put_extend.result (λ put. subst (λ (p : CodePiece). (allocated : ℕ) → IsBaseFor c.args.first allocated p → Puts c.args.flags allocated (slots_of c.args.flags (shown p)) (shape_of c.args.sink.now) (shape_of c.put_extend.new.sink)) (sym c.in-Extend.is)
    (λ allocated base. actions_put allocated (extend_pieces (number_of c.in-Extend.rd.reg) (number_of c.in-Extend.rn) c.in-Extend.signed c.in-Extend.bits) _ _ (extend_few (number_of c.in-Extend.rd.reg) (number_of c.in-Extend.rn) c.in-Extend.signed c.in-Extend.bits).actions put)) c.put_extend.ensures.slots

pub returns-in-Extract-clause-slot : goal.returns-in-Extract-clause-slot
returns-in-Extract-clause-slot c = on_ok_weaker c.put_extract.result (λ put. subst (λ (p : CodePiece). (allocated : ℕ) → IsBaseFor c.args.first allocated p → Puts c.args.flags allocated (slots_of c.args.flags (shown p)) (shape_of c.args.sink.now) (shape_of c.put_extract.new.sink)) (sym c.in-Extract.is)
    (λ allocated base. actions_put allocated (extract_pieces (number_of c.in-Extract.rd.reg) (number_of c.in-Extract.offset) (number_of c.in-Extract.rs) c.in-Extract.signed c.in-Extract.bits) _ _ (extract_few (number_of c.in-Extract.rd.reg) (number_of c.in-Extract.offset) (number_of c.in-Extract.rs) c.in-Extract.signed c.in-Extract.bits).actions put)) c.put_extract.ensures.slots

pub returns-in-Merge-clause-slot : goal.returns-in-Merge-clause-slot
returns-in-Merge-clause-slot c = on_ok_weaker c.put_merge.result (λ put. subst (λ (p : CodePiece). (allocated : ℕ) → IsBaseFor c.args.first allocated p → Puts c.args.flags allocated (slots_of c.args.flags (shown p)) (shape_of c.args.sink.now) (shape_of c.put_merge.new.sink)) (sym c.in-Merge.is)
    (λ allocated base. actions_put allocated (merge_pieces (number_of c.in-Merge.rd.reg) (number_of c.in-Merge.tmp.reg) (number_of c.in-Merge.offset) (number_of c.in-Merge.rs) c.in-Merge.bits) _ _ (merge_few (number_of c.in-Merge.rd.reg) (number_of c.in-Merge.tmp.reg) (number_of c.in-Merge.offset) (number_of c.in-Merge.rs) c.in-Merge.bits).actions put)) c.put_merge.ensures.slots
