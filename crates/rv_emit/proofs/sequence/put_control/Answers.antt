use Rattle.rv_emit.proofs.{StackMaps.put_as, Terms.context_by, Terms.Emits, Terms.alone, Terms.arith, Terms.refl, Terms.ints_kept, Terms.kept, Terms.listed, Terms.listed_targets, Terms.real_number}
use Rattle.rv_emit.proofs.sequence.put_control.Goals as goal

pub returns-in-Jal-clause-parts : goal.returns-in-Jal-clause-parts
returns-in-Jal-clause-parts c = λ family frame constants asks. put_as _ (λ i. Emits (context_by c.args.flags frame constants) i c.args.sink.now c.put_jump.new.sink) c.in-Jal.is (λ p setting. alone p) c.put_jump.ensures.slot

pub returns-in-CondBr-clause-parts : goal.returns-in-CondBr-clause-parts
returns-in-CondBr-clause-parts c = λ family frame constants asks. put_as _ (λ i. Emits (context_by c.args.flags frame constants) i c.args.sink.now c.put_branch.new.sink) c.in-CondBr.is (λ p setting. p) c.put_branch.ensures.slots

pub returns-in-TrapIf-clause-parts : goal.returns-in-TrapIf-clause-parts
returns-in-TrapIf-clause-parts c = λ family frame constants asks. put_as _ (λ i. Emits (context_by c.args.flags frame constants) i c.args.sink.now c.put_trap_if.new.sink) c.in-TrapIf.is (λ p setting. p) c.put_trap_if.ensures.slots

pub returns-in-Ret-clause-parts : goal.returns-in-Ret-clause-parts
returns-in-Ret-clause-parts c =
    λ family frame constants asks. put_as _ (λ i. Emits (context_by c.args.flags frame constants) i c.args.sink.now c.put_jalr.new.sink) c.in-Ret.is (λ p setting. rw ((real_number _ _ _ c.link_reg.ensures), (real_number _ _ _ c.writable_zero_reg.ensures)) at p) c.put_jalr.ensures.slots

pub returns-in-Jalr-clause-parts : goal.returns-in-Jalr-clause-parts
returns-in-Jalr-clause-parts c = λ family frame constants asks. put_as _ (λ i. Emits (context_by c.args.flags frame constants) i c.args.sink.now c.put_jalr-in-Jalr.new.sink) c.in-Jalr.is (λ p setting. p) c.put_jalr-in-Jalr.ensures.slots

pub returns-in-Udf-clause-parts : goal.returns-in-Udf-clause-parts
returns-in-Udf-clause-parts c = λ family frame constants asks. put_as _ (λ i. Emits (context_by c.args.flags frame constants) i c.args.sink.now c.put_trap.new.sink) c.in-Udf.is (λ p setting. p) c.put_trap.ensures.slots

pub put_trap_if-requires : goal.put_trap_if-requires
put_trap_if-requires c = let all = ints_kept c.in-TrapIf.is c.requires.rule refl in record { rs1 = all.0.0; rs2 = all.1.0.0; few = c.requires.few; room = omega (arith, c.requires.room); sound = c.requires.sound }

pub put_jump-requires-clause-label : goal.put_jump-requires-clause-label
put_jump-requires-clause-label c = listed _ _ (kept c.in-Jal.is c.requires.rule).listed

pub put_branch-requires-clause-fine : goal.put_branch-requires-clause-fine
put_branch-requires-clause-fine c = let all = ints_kept c.in-CondBr.is c.requires.rule refl in let both = listed_targets _ _ (kept c.in-CondBr.is c.requires.rule).listed in (all.0.0, all.1.0.0, both.0, both.1)

pub put_jalr-requires-in-Jalr : goal.put_jalr-requires-in-Jalr
put_jalr-requires-in-Jalr c = let all = ints_kept c.in-Jalr.is c.requires.rule refl in record { rd = all.0.0; base = all.1.0.0; room = omega (arith, c.requires.room); sound = c.requires.sound }
