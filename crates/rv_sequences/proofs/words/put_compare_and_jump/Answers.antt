use Rattle.rv_sequences.proofs.{SlotsPut.{branch_and_jump, word_longer}, Terms.{◌≡◌, ◌+◌, length, arith, bytes_of}}
use Rattle.rv_sequences.proofs.words.put_compare_and_jump.Goals as goal

pub put_jump-requires-clause-room : goal.put_jump-requires-clause-room
put_jump-requires-clause-room c = let l : length (bytes_of c.put_compare.new.sink) ≡ length (bytes_of c.args.sink.now) + 4 = word_longer c.args.sink.now c.put_compare.new.sink _ _ _ c.in_ok-put_compare.ensures.word in let r = c.requires.room in omega arith

pub returns-clause-slots : goal.returns-clause-slots
returns-clause-slots c = branch_and_jump _ _ _ _ _ _ (c.in_ok-put_compare.ensures.slot c.args.flags) c.in_ok-put_jump.ensures.slot
