use Rattle.std.proofs.Common.{sym, ◌∙◌, arith}
use Rattle.rv_disasm.specs.Text.{word_at}
use Rattle.rv_disasm.proofs.Words.{is_word, below, same_number, no_number}
use Rattle.rv_disasm.proofs.reading.reasm.Goals as goal

pub returns-then-bits-lt4294967296-clause-complete : goal.returns-then-bits-lt4294967296-clause-complete
returns-then-bits-lt4294967296-clause-complete c = λ word low e. let same = same_number c.in-Some.bits (word_at word).bits (sym c.in-Some.is ∙ is_word c.args.flags c.args.text.now c.candidate.result (record { instruction = c.candidate.ensures.instruction; word = c.candidate.ensures.word; half = c.candidate.ensures.half }) word low e) in c.checked.ensures.complete word low (same) e

pub returns-else-bits-lt4294967296-clause-complete : goal.returns-else-bits-lt4294967296-clause-complete
returns-else-bits-lt4294967296-clause-complete c = λ word low e. let same = same_number c.in-Some.bits (word_at word).bits (sym c.in-Some.is ∙ is_word c.args.flags c.args.text.now c.candidate.result (record { instruction = c.candidate.ensures.instruction; word = c.candidate.ensures.word; half = c.candidate.ensures.half }) word low e) in let small = below word low in absurd (omega (arith, same, small))

pub returns-in-None-clause-complete : goal.returns-in-None-clause-complete
returns-in-None-clause-complete c = λ word low e. absurd (no_number (word_at word).bits (sym c.in-None.is ∙ is_word c.args.flags c.args.text.now c.candidate.result (record { instruction = c.candidate.ensures.instruction; word = c.candidate.ensures.word; half = c.candidate.ensures.half }) word low e))
