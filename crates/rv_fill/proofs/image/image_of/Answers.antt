use Rattle.std.proofs.Common.{◌≡◌, ℕ, List, sym, ap, subst, ◌∙◌, arith}
use Rattle.std.proofs.lemmas.Grind.{common_steps}
use Rattle.rv_fill.specs.Filled.{table_of, IsFilled}
use Rattle.rv_fill.specs.Steps.{put_fields}
use Rattle.rv_fill.proofs.Images.{filled_image}
use Rattle.rv_fill.proofs.image.image_of.Goals as goal

pub returns : goal.returns
returns c =
    let result : c.from_vec.result ≡ c.put_fields.new.image = grind (arith, common_steps) in
    let before : c.deref_mut.result.now ≡ c.args.bytes.now = c.deref_mut.ensures.value ∙ c.in_ok-image.ensures.items in
    subst (IsFilled c.args.bytes.now c.args.relocs.now c.args.base (table_of c.args.symbols.now) (table_of c.args.slots.now))
    (sym (result ∙ c.put_fields.ensures ∙ ap (put_fields c.args.relocs.now c.args.base (table_of c.args.symbols.now) (table_of c.args.slots.now) c.args.relocs.now) before))
    (filled_image c.args.bytes.now c.args.relocs.now c.args.base (table_of c.args.symbols.now) (table_of c.args.slots.now) c.requires)
