use Rattle.std.proofs.Common.{◌≡◌, ℕ, ◌+◌, ◌∷◌, [], List, length, drop, sym, ◌∙◌, ap, arith}
use Rattle.std.proofs.lemmas.List.{at_drop_more}
use Rattle.std.proofs.lemmas.Grind.{common_steps}
use Rattle.rv_base.specs.declared.external_name.ExternalName.{ExternalName}
use Rattle.rv_fill.specs.Filled.{table_of, address_in}
use Rattle.rv_fill.proofs.Tables.{no_address, first_address, later_address}
use Rattle.rv_fill.proofs.addresses.address_in.Goals as goal

pub returns-then-other-name : goal.returns-then-other-name
returns-then-other-name c = sym (c.loop-other.invariant ∙ at_drop_more (λ rest. address_in (table_of rest) c.args.name.number) c.args.table.now c.loop-other.other-index (record { number = 0 }, 0) c.loop-other-test.true ∙ first_address _ _ c.args.name.number c.if-other-name.true (omega arith))

pub loop-other-preserved : goal.loop-other-preserved
loop-other-preserved c = c.loop-other.invariant ∙ at_drop_more (λ rest. address_in (table_of rest) c.args.name.number) c.args.table.now c.loop-other.other-index (record { number = 0 }, 0) c.loop-other-test.true ∙ later_address _ _ c.args.name.number c.if-other-name.false

pub returns : goal.returns
returns c =
    let past = c.loop-other-test.false in
    let none : drop c.loop-other.other-index c.args.table.now ≡ [] = grind (arith, common_steps) in
    sym (c.loop-other.invariant ∙ ap (λ rest. address_in (table_of rest) c.args.name.number) none ∙ no_address c.args.name.number)
