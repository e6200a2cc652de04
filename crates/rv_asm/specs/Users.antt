-- What the contract of `assemble` speaks of and stands in crates below: who stands on `assemble` cites it from here. Types, what an
-- instruction means (rv_inst/specs/Meaning.antt) and the machine (rv_machine/specs) it cites where they stand.

-- registers by their numbers, and what a call that returns one says of it
pub use Rattle.rv_base.specs.Regs.{int_reg, number_of, IsReal}
-- values that are taken as the same, and the same but for registers that may hold anything
pub use Rattle.rv_inst.specs.SameValues.{Same, SameBut, is_among}
-- lines of the integer core
pub use Rattle.rv_inst.specs.Core.{is_integer, is_integer_line}
-- the rules that a line has to keep, in what context, and which distances are out of range
pub use Rattle.rv_inst.specs.Context.{Context, context_of}
pub use Rattle.rv_inst.specs.Rules.{broken_rule}
unfoldable pub use Rattle.rv_inst.specs.Rules.{every_rule}
pub use Rattle.rv_inst.specs.Addresses.{is_distant}
