use Rattle.std.proofs.Common.{◌≡◌, ◌++◌, ◌*◌, ◌%◌, drop, bit_or}
use Rattle.std.proofs.lemmas.List.{take_rest}
use Rattle.rv_inst.specs.LabelUseWords.{word_at, word_bytes}
use Rattle.rv_inst.specs.LabelUseWords.{upper_bits}
use Rattle.rv_inst.proofs.PatchPair.{pair_upper, pair_lower, pair_keeps}
use Rattle.rv_inst.proofs.label_use.patch_pair.Goals as goal
use Rattle.rv_inst.proofs.label_use.patch_pair.Goals.{After-write_pair}

-- what the buffer holds
written : (c : After-write_pair) →
    c.write_pair.new.buffer ≡
    word_bytes (bit_or (word_at c.args.buffer.now) (upper_bits c.args.distance * 4096)) ++ word_bytes (bit_or (word_at (drop 4 c.args.buffer.now)) (c.args.distance % 4096 * 1048576)) ++ drop 8 c.args.buffer.now
written c =
    rw (c.read_word-first.ensures.value, c.read_word-second.ensures.value, c.upper_field.ensures, c.lower_field.ensures, take_rest c.args.buffer.now 4) at c.write_pair.ensures

pub returns-clause-upper : goal.returns-clause-upper
returns-clause-upper c = pair_upper c.args.buffer.now c.write_pair.new.buffer c.args.distance (written (goal.at.returns-clause-upper c).After-write_pair) c.read_word-first.ensures.in_range (rw (take_rest c.args.buffer.now 4) at c.read_word-second.ensures.in_range) c.requires.fresh

pub returns-clause-lower : goal.returns-clause-lower
returns-clause-lower c = pair_lower c.args.buffer.now c.write_pair.new.buffer c.args.distance (written (goal.at.returns-clause-lower c).After-write_pair) c.read_word-first.ensures.in_range (rw (take_rest c.args.buffer.now 4) at c.read_word-second.ensures.in_range) c.requires.fresh

pub returns-clause-others : goal.returns-clause-others
returns-clause-others c = pair_keeps c.args.buffer.now c.write_pair.new.buffer c.args.distance (written (goal.at.returns-clause-others c).After-write_pair) c.read_word-first.ensures.in_range (rw (take_rest c.args.buffer.now 4) at c.read_word-second.ensures.in_range) c.requires.fresh
