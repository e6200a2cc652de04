use Rattle.rv_emit.proofs.{StackMaps.put_as, Terms.Emits, Terms.data_kept, Terms.kept, Terms.context_by}
use Rattle.rv_emit.proofs.sequence.put_pseudo.Goals as goal

pub returns-in-RawData-clause-parts : goal.returns-in-RawData-clause-parts
returns-in-RawData-clause-parts c =
    λ family frame constants asks. put_as _ (λ i. Emits (context_by c.args.flags frame constants) i c.args.sink.now c.put_bytes.new.sink) c.in-RawData.is (λ p setting. rw c.as_slice.ensures at (p c.args.flags)) c.put_bytes.ensures.slots

pub returns-in-EBreak-clause-parts : goal.returns-in-EBreak-clause-parts
returns-in-EBreak-clause-parts c = λ family frame constants asks. put_as _ (λ i. Emits (context_by c.args.flags frame constants) i c.args.sink.now c.put_ebreak.new.sink) c.in-EBreak.is (λ p setting. p) c.put_ebreak.ensures.slots

pub returns-in-Unwind-clause-parts : goal.returns-in-Unwind-clause-parts
returns-in-Unwind-clause-parts c = λ family frame constants asks. put_as _ (λ i. Emits (context_by c.args.flags frame constants) i c.args.sink.now c.put_unwind.new.sink) c.in-Unwind.is (λ p setting. p c.args.flags) c.put_unwind.ensures.slots

pub put_bytes-requires-clause-size : goal.put_bytes-requires-clause-size
put_bytes-requires-clause-size c = rw c.as_slice.ensures (data_kept _ (kept c.in-RawData.is c.requires.rule))
