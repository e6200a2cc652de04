use Rattle.std.proofs.Common.{arith, refl}
use Rattle.std.proofs.KnownBytes.{Consumes-kept, Consumes-nil, Consumes-trans}
use Rattle.rv_stream.proofs.Known.{read_whole}
use Rattle.rv_stream.proofs.whole.read_on.Goals as goal

pub reading-init : goal.reading-init
reading-init g c = (rw c.requires.fresh (Consumes-nil _), omega arith)

pub returns-in-Ok-eq0-clause-all : goal.returns-in-Ok-eq0-clause-all
returns-in-Ok-eq0-clause-all g c =
    let bytes = rw c.in-Ok-eq0.field-0-test at c.in-Ok-eq0.ensures.bytes in
    read_whole _ (g.S.Source.left c.reading.source) (g.S.Source.left c.read.new.self) c.reading.text.items c.read.new.buf c.reading.invariant.0 bytes.0 (bytes.1 refl (omega arith))

pub returns-in-Ok-eq0-clause-end : goal.returns-in-Ok-eq0-clause-end
returns-in-Ok-eq0-clause-end g c = let bytes = rw c.in-Ok-eq0.field-0-test at c.in-Ok-eq0.ensures.bytes in bytes.1 refl (omega arith)

pub reading-preserved : goal.reading-preserved
reading-preserved g c = (rw c.in-Ok-kept.ensures.items (Consumes-trans _ _ _ _ _ c.reading.invariant.0 c.in-Ok.ensures.bytes.0), omega (arith, c.in-Ok.ensures.count.later))

pub returns-clause-long : goal.returns-clause-long
returns-clause-long g c = λ _. (c.reading.text.items, c.reading.invariant.0, omega arith)

pub returns-in-Err-clause-early : goal.returns-in-Err-clause-early
returns-in-Err-clause-early g c = λ _. (c.reading.text.items, Consumes-kept _ _ _ c.reading.text.items c.reading.invariant.0 c.in-Err.ensures.bytes, omega arith)
