use Rattle.rv_emit.proofs.{StackMaps.put_as, Terms.sym, Terms.arith, Terms.refl, Terms.rules, Terms.ap, Terms.◌∙◌, Terms.EmitsAnyhow, Terms.int_class, Terms.ints_kept, Terms.kept, Terms.move_kept, Terms.preg_usable, Terms.select_fine, Terms.some_in_64}
use Rattle.rv_emit.proofs.sequence.put_integer.Goals as goal
use Rattle.rv_inst.specs.declared.inst.Inst.TheVariants.{Select}

pub returns-in-AluRRR-clause-parts : goal.returns-in-AluRRR-clause-parts
returns-in-AluRRR-clause-parts c = λ family. put_as _ (λ i. EmitsAnyhow c.args.flags i c.args.sink.now c.put_rrr.new.sink) c.in-AluRRR.is (λ p frame constants setting. p) c.put_rrr.ensures.slots

pub returns-in-Mov-clause-parts : goal.returns-in-Mov-clause-parts
returns-in-Mov-clause-parts c = λ family. put_as _ (λ i. EmitsAnyhow c.args.flags i c.args.sink.now c.put_move.new.sink) c.in-Mov.is (λ p frame constants setting. p) c.put_move.ensures.slots

pub returns-in-MovFromPReg-clause-parts : goal.returns-in-MovFromPReg-clause-parts
returns-in-MovFromPReg-clause-parts c =
    let int = int_class _ (preg_usable _ _ (kept c.in-MovFromPReg.is c.requires.rule)).0.0 in
    λ family. put_as _ (λ i. EmitsAnyhow c.args.flags i c.args.sink.now c.put_move-in-MovFromPReg.new.sink) c.in-MovFromPReg.is (λ p frame constants setting. rw int at p) c.put_move-in-MovFromPReg.ensures.slots

pub returns-in-LoadInlineConst-clause-parts : goal.returns-in-LoadInlineConst-clause-parts
returns-in-LoadInlineConst-clause-parts c = λ family. put_as _ (λ i. EmitsAnyhow c.args.flags i c.args.sink.now c.put_constant.new.sink) c.in-LoadInlineConst.is (λ p frame constants setting. p) c.put_constant.ensures.slots

pub returns-in-AluRRImm12-clause-parts : goal.returns-in-AluRRImm12-clause-parts
returns-in-AluRRImm12-clause-parts c = λ family. put_as _ (λ i. EmitsAnyhow c.args.flags i c.args.sink.now c.put_rri.new.sink) c.in-AluRRImm12.is (λ p frame constants setting. p) c.put_rri.ensures.slots

pub returns-in-Lui-clause-parts : goal.returns-in-Lui-clause-parts
returns-in-Lui-clause-parts c = λ family. put_as _ (λ i. EmitsAnyhow c.args.flags i c.args.sink.now c.put_lui.new.sink) c.in-Lui.is (λ p frame constants setting. p) c.put_lui.ensures.slots

pub returns-in-Extend-clause-parts : goal.returns-in-Extend-clause-parts
returns-in-Extend-clause-parts c = λ family. put_as _ (λ i. EmitsAnyhow c.args.flags i c.args.sink.now c.put_extend.new.sink) c.in-Extend.is (λ p frame constants setting. p) c.put_extend.ensures.slots

pub returns-in-Select-clause-parts : goal.returns-in-Select-clause-parts
returns-in-Select-clause-parts c = λ family. put_as _ (λ i. EmitsAnyhow c.args.flags i c.args.sink.now c.put_select.new.sink) (c.in-Select.is ∙ sym (ap Select c.as_ref-info.ensures)) (λ p frame constants setting. p) c.put_select.ensures.slots

pub put_lui-requires-clause-rd : goal.put_lui-requires-clause-rd
put_lui-requires-clause-rd c = (ints_kept c.in-Lui.is c.requires.rule refl).0.0

pub enc_auipc-requires : goal.enc_auipc-requires
enc_auipc-requires c = search (rules, (ints_kept c.in-Auipc.is c.requires.rule refl))

pub put_constant-requires-clause-rd : goal.put_constant-requires-clause-rd
put_constant-requires-clause-rd c = (ints_kept c.in-LoadInlineConst.is c.requires.rule refl).0.0

pub put_rrr-requires : goal.put_rrr-requires
put_rrr-requires c = let all = ints_kept c.in-AluRRR.is c.requires.rule refl in record { rd = all.0.0; rs1 = all.1.0.0; rs2 = all.1.1.0.0; room = omega (arith, c.requires.room); sound = c.requires.sound }

pub put_rri-requires : goal.put_rri-requires
put_rri-requires c = let all = ints_kept c.in-AluRRImm12.is c.requires.rule refl in record { rd = all.0.0; rs = all.1.0.0; room = omega (arith, c.requires.room); sound = c.requires.sound }

pub put_move-requires-clause-fine : goal.put_move-requires-clause-fine
put_move-requires-clause-fine c = move_kept _ _ _ (kept c.in-Mov.is c.requires.rule)

pub put_move-requires-in-MovFromPReg-clause-fine : goal.put_move-requires-in-MovFromPReg-clause-fine
put_move-requires-in-MovFromPReg-clause-fine c = search (rules, (preg_usable _ _ (kept c.in-MovFromPReg.is c.requires.rule)))

pub put_extend-requires : goal.put_extend-requires
put_extend-requires c =
    let all = ints_kept c.in-Extend.is c.requires.rule refl in
    let bits = some_in_64 _ (kept c.in-Extend.is c.requires.rule).ranged in
    record { rd = all.0.0; rn = all.1.0.0; some = bits.0; few = bits.1; room = omega (arith, c.requires.room); sound = c.requires.sound }

pub put_select-requires-clause-fine : goal.put_select-requires-clause-fine
put_select-requires-clause-fine c = rw c.as_ref-info.ensures (select_fine _ _ _ _ (kept c.in-Select.is c.requires.rule))
