use Rattle.std.proofs.Common.{rules, ◌≡◌, ◌∙◌, ◌++◌, List, ℕ, get_or, length, ap, Some, arith}
use Rattle.mach_buffer.proofs.Words.{gets, slice_get, get_or_from_slice_get}
use Rattle.mach_buffer.proofs.Links.{uses_veneered}
use Rattle.mach_buffer.proofs.code.Code.put_veneer.Goals as goal

pub returns : goal.returns
returns g c =
    let uses = c.args.self.now.uses.items in
    let u = c.index.result.now in
    let there : slice_get uses c.args.index ≡ Some u = grind (arith, gets, c.requires.may, c.index.ensures) in
    let changed = c.index_mut.result.now in
    let kept : c.append.new.self.uses.items ≡ uses = λ i. (c.append.ensures.uses i).items in
    let same : changed ≡ u = c.index_mut.ensures.value ∙ ap (λ us. get_or us c.args.index changed) kept ∙ get_or_from_slice_get uses c.args.index u changed there in
    let at : c.len-at.result ≡ length c.args.self.now.bytes.items = search rules in
    rw there (record {
      bytes = (λ i. (c.in_ok-record_use.ensures.bytes i).items) ∙ c.in_ok-append.ensures.bytes ∙ ap (λ (v : List ℕ). c.args.self.now.bytes.items ++ v) c.veneer_at-own.ensures.bytes;
      uses = uses_veneered (g.L.MachInstLabelUse.kinds.veneer u.kind) c.args.index kept same at c.veneer_at-own.ensures.own c.in_ok-record_use.ensures.uses;
    })
