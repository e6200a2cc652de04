use Rattle.std.proofs.Common.{List, map}
use Rattle.std.specs.Prelude.{string_bytes}
use Rattle.clap.specs.Words.{Text, app_of, kind_of}
use Rattle.rv_program.proofs.Mistakes.{parsed_error}
use Rattle.rv_program.proofs.parsing.parse.Goals as goal

pub returns-in-Err : goal.returns-in-Err
returns-in-Err c =
    let words : List Text = map string_bytes c.args.words.now in
    parsed_error (app_of c.args.command) words (kind_of c.in-Err.error) c.words_error.result c.words_error.ensures (c.in-Err.ensures.kinds c.requires.free)

pub returns-in-Ok : goal.returns-in-Ok
returns-in-Ok c =
    let facts = c.in-Ok.ensures in
    (facts.kinds c.requires.free, (facts.matches c.requires.simple).0)
