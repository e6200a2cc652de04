-- What a parser has read.
use Rattle.rv_formula.specs.declared.parser.Parser.{Parser}
use Rattle.rv_formula.specs.Parsing.{Parse}

abbrev pub parse_of : Parser → Parse
parse_of p = record { ops = p.ops.items; pending = p.pending.items; operand = p.operand }
