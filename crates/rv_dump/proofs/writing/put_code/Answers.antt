use Rattle.std.proofs.Common.{sym}
use Rattle.rv_dump.proofs.Fronts.{code_step}
use Rattle.rv_dump.proofs.writing.put_code.Goals as goal

pub code-preserved : goal.code-preserved
code-preserved c = code_step c.args.flags c.code.at c.code.noted.now c.code.rest.now _ c.code.out.items c.put_word.new.out.items (c.in-Some.word, c.in-Some.len) c.in-Some.ensures.within (sym c.in-Some.ensures.value) c.in_ok-put_word.ensures c.code.invariant
