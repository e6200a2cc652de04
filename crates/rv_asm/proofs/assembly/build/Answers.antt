use Rattle.rv_asm.{proofs.AssemblyLoop.{can_put, code_short, finished, line_read, ready, returns_so_far, so_far_next, so_far_none, within_line}, proofs.CodeRanges.returns_fit, proofs.RefusalOrder.{all_both, constants_few}}
use Rattle.rv_asm.proofs.Words.{AllByRecursion, ReturnFits, SpanFits, ap, arith, CanPut, common_steps, Constant, context_by, FrameLayout, IsaFlags, line_returns, LinePut, List, ReturnsWithin, subst, sym, ◌++◌, ◌∙◌, ◌≡◌}
use Rattle.rv_asm.proofs.assembly.build.Goals as goal

-- the context by what the state and the buffer know is that of the call
same_context : {known flags : IsaFlags} {of_state frame : FrameLayout} {registered constants : List Constant} → known ≡ flags → of_state ≡ frame → registered ≡ constants → context_by known of_state registered ≡ context_by flags frame constants
same_context a b c = λ j. context_by (a j) (b j) (c j)

pub register_constants-requires-clause-few : goal.register_constants-requires-clause-few
register_constants-requires-clause-few c = grind (arith, common_steps, constants_few)

-- no line was put into a new buffer, in which the constants were registered
pub loop-index-init : goal.loop-index-init
loop-index-init c =
    let new = c.new-sink.ensures in
    let s = c.in_ok-register_constants.ensures.registered.2 in
    record {
      frame = grind (arith, common_steps);
      so_far = rw c.in_ok-spans.ensures.items (so_far_none _ c.args.lines.now _
          (ap (λ x. x.bytes) s ∙ new.bytes) (ap (λ x. x.uses) s ∙ new.uses) (λ label. ap (λ x. x.place label) s ∙ new.places label) (ap (λ x. x.labels) s ∙ new.labels)
          (ap (λ x. x.allocated) s ∙ new.allocated) (ap (λ x. x.records) s ∙ new.records) (ap (λ x. x.registered) s ∙ ap (λ x. x.constants) c.context.view_is) (ap (λ x. x.named) s ∙ new.named) (ap (λ x. x.constants) s ∙ new.constants)
          c.in_ok-register_constants.ensures.sound);
      returns = grind (arith, common_steps);
      spans_fit = subst (AllByRecursion SpanFits) (sym c.in_ok-spans.ensures.items) tt;
      returns_fit = subst (AllByRecursion ReturnFits) (sym c.new-returns.ensures.items) tt;
    }

pub put_line-requires : goal.put_line-requires
put_line-requires c =
    let known = c.loop-index.invariant in
    subst (λ context. CanPut context c.index-lines-index.result c.loop-index.sink) (sym (same_context (c.new-info.ensures ∙ ap (λ x. x.flags) c.context.view_is) known.frame known.so_far.built.registered))
    (can_put _ c.args.lines.now _ _ _ _ c.requires.frame c.requires.accepted known.so_far (line_read _ _ _ c.loop-index-test.true c.index-lines-index.is))

pub add_return-requires : goal.add_return-requires
add_return-requires c =
    let known = c.loop-index.invariant in
    subst (λ flags. ReturnsWithin flags c.index-lines-index.result c.in_ok-span.span) (sym (ap (λ x. x.flags) c.context.view_is))
    (within_line _ c.loop-index.state.vstate c.args.lines.now _ _ _ c.put_line.new.sink _ _ c.requires.accepted known.so_far (line_read _ _ _ c.loop-index-test.true c.index-lines-index.is)
    (subst (λ context. LinePut context c.loop-index.state.vstate c.index-lines-index.result c.loop-index.sink c.put_line.new.sink c.in_ok-span.span) (same_context (c.new-info.ensures ∙ ap (λ x. x.flags) c.context.view_is) known.frame known.so_far.built.registered) c.in_ok-span.ensures.put))

pub loop-index-preserved : goal.loop-index-preserved
loop-index-preserved c =
    let known = c.loop-index.invariant in
    let there = line_read c.args.lines.now c.loop-index.index c.index-lines-index.result c.loop-index-test.true c.index-lines-index.is in
    let put = subst (λ context. LinePut context c.loop-index.state.vstate c.index-lines-index.result c.loop-index.sink c.put_line.new.sink c.in_ok-span.span) (same_context (c.new-info.ensures ∙ ap (λ x. x.flags) c.context.view_is) known.frame known.so_far.built.registered) c.in_ok-span.ensures.put in
    let fits = c.in_ok-span.ensures.fits in
    let returned = c.in_ok-add_return.ensures ∙ ap (λ flags. c.loop-index.returns.items ++ line_returns flags c.in_ok-span.span.index c.in_ok-span.span.start c.index-lines-index.result) (ap (λ x. x.flags) c.context.view_is) in
    record {
      frame = grind (arith, common_steps);
      so_far = so_far_next _ c.loop-index.state.vstate c.args.lines.now _ _ _ _ _ _ _ c.requires.accepted known.so_far there c.in_ok-span.ensures.index put c.in_ok-push.ensures.items;
      returns = returns_so_far _ c.args.context.now.flags c.args.lines.now _ _ _ _ _ _ _ _ known.so_far there c.in_ok-span.ensures.index c.in_ok-push.ensures.items known.returns returned;
      spans_fit = subst (AllByRecursion SpanFits) (sym c.in_ok-push.ensures.items) (all_both SpanFits _ _ known.spans_fit (fits, tt));
      returns_fit = subst (AllByRecursion ReturnFits) (sym returned)
          (all_both ReturnFits _ _ known.returns_fit (returns_fit c.args.context.now.flags _ _ fits (within_line _ c.loop-index.state.vstate c.args.lines.now _ _ _ _ _ _ c.requires.accepted known.so_far there put)));
    }

pub finish-requires-clause-ready : goal.finish-requires-clause-ready
finish-requires-clause-ready c = λ sound. ready _ c.args.lines.now c.loop-index.index _ c.loop-index.sink c.requires.accepted c.loop-index-test.false c.loop-index.invariant.so_far

pub invariant_of-result : goal.invariant_of-result
invariant_of-result c = record { small = code_short _ c.args.lines.now _ _ _ _ c.requires.accepted c.loop-index-test.false c.loop-index.invariant.so_far c.in_ok-finished.ensures.code.0 }

pub returns : goal.returns
returns c =
    let f = c.in_ok-finished.ensures in
    finished _ c.args.lines.now c.loop-index.index _ c.loop-index.sink c.requires.accepted c.loop-index-test.false (rw c.from_vec.ensures c.loop-index.invariant.so_far) (rw (c.from_vec-2.ensures, c.from_vec.ensures) c.loop-index.invariant.returns)
    f.code.0 f.code.1 f.labels f.relocs f.traps f.call_sites f.try_call_sites f.patchable_call_sites f.stack_maps f.unwinds c.cur_offset-end.ensures
    f.bytes (rw c.from_vec.ensures c.loop-index.invariant.spans_fit) (rw c.from_vec-2.ensures c.loop-index.invariant.returns_fit) f.fits
