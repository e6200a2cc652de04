use Rattle.rv_asm.{proofs.AssemblyLoop.SoFar, proofs.Words.{returns_from, take, ◌≡◌, AllByRecursion, ReturnFits, SpanFits}}
use Rattle.rv_asm.proofs.assembly.build.Given as goal

abbrev pub invariant-loop-index : goal.invariant-loop-index
invariant-loop-index l = record {
  frame : l.state.frame ≡ l.context.frame;
  so_far : SoFar l.context l.lines l.index l.spans.items l.sink;
  returns : l.returns.items ≡ returns_from l.context.flags l.spans.items 0 (take l.index l.lines);
  spans_fit : AllByRecursion SpanFits l.spans.items;
  returns_fit : AllByRecursion ReturnFits l.returns.items;
}
