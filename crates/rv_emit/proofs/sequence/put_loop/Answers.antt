use Rattle.{rv_code.{specs.Sequences.sequence_pieces, specs.Usable.IsFineSequence}, rv_emit.{proofs.StackMaps.put_as, proofs.Terms.{sym, ints_kept, kept, sequence_fine, ◌∙◌, arith, Context, EmitVState, EmitsAnyhow, Inst, PutsParts, parts_of, slots_alone, slots_of, context_by}}}
use Rattle.{rv_inst.{specs.Descriptions.sequence_of, specs.declared.sequence.Sequence.Sequence}, std.{proofs.Common.{◌≡◌, refl, subst}, specs.Prelude.{IfSome, Some}}}
use Rattle.rv_emit.proofs.sequence.put_loop.Goals as goal
use Rattle.rv_inst.specs.declared.inst.Inst.TheVariants.{Nop0}

sequence_parts : (context : Context) (setting : EmitVState) (inst : Inst) (s : Sequence) → sequence_of inst ≡ Some s → slots_alone (slots_of context.flags (sequence_pieces s)) ≡ parts_of context setting inst
sequence_parts context setting Nop0 s e = absurd (cc)
sequence_parts context setting inst s e = cc

pub put_computation-requires : goal.put_computation-requires
put_computation-requires c = record { fine = subst (λ o. IfSome o (λ (s : Sequence). IsFineSequence s)) (sym c.sequence.ensures ∙ c.in-Some.is) (sequence_fine _ (kept refl c.requires.rule)); few = c.requires.few; room = omega (arith, c.requires.room); sound = c.requires.sound }

pub returns-in-Some-clause-parts : goal.returns-in-Some-clause-parts
returns-in-Some-clause-parts c = λ family. put_as {inst = c.args.inst.now} c.put_computation.result (λ i. EmitsAnyhow c.args.flags i c.args.sink.now c.put_computation.new.sink) refl
    (λ p frame constants setting. subst (λ parts. PutsParts c.args.flags parts c.args.sink.now c.put_computation.new.sink) (sequence_parts (context_by c.args.flags frame constants) setting c.args.inst.now c.in-Some.sequence (sym c.sequence.ensures ∙ c.in-Some.is)) p) c.put_computation.ensures.slots
