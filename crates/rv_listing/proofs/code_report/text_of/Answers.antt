use Rattle.std.proofs.Common.{◌≡◌, ◌∙◌, ◌++◌, List, ℕ, ap, refl, append_assoc}
use Rattle.std.specs.Prelude.{codes}
use Rattle.std.specs.Fmt.{decimal}
use Rattle.rv_listing.specs.Report.{lf}
use Rattle.rv_listing.proofs.code_report.text_of.Goals as goal

regroup : (xs texts word number : List ℕ) → xs ++ texts ++ word ++ number ++ lf ≡ xs ++ (texts ++ word) ++ number ++ lf
regroup xs texts word number = simp append_assoc

pub returns : goal.returns
returns c =
    let texts = c.args.texts.now in
    let before : c.put.new.out.items ≡ c.put_unwinds.new.out.items ++ texts = c.in_ok-put.ensures in
    let last : c.end_line-2.new.out.items ≡ c.put.new.out.items ++ codes "end " ++ decimal c.args.code.now.end ++ lf = c.in_ok-end_line-2.ensures in
    let both : c.end_line-2.new.out.items ≡ c.put_unwinds.new.out.items ++ (texts ++ codes "end ") ++ decimal c.args.code.now.end ++ lf =
    last ∙ ap (λ (xs : List ℕ). xs ++ codes "end " ++ decimal c.args.code.now.end ++ lf) before ∙ regroup c.put_unwinds.new.out.items texts (codes "end ") (decimal c.args.code.now.end) in
    rw (both, c.in_ok-put_unwinds.ensures, c.in_ok-put_maps.ensures, c.in_ok-put_patches.ensures, c.in_ok-put_tries.ensures, c.in_ok-put_calls.ensures, c.in_ok-put_traps.ensures, c.in_ok-put_relocs.ensures, c.in_ok-put_constants.ensures, c.in_ok-put_labels.ensures, c.in_ok-put_returns.ensures, c.in_ok-put_spans.ensures, c.in_ok-put_hex_lines.ensures, c.in_ok-end_line.ensures, c.in_ok-out.ensures.items, c.len.ensures, c.as_slice.ensures, c.as_slice-2.ensures, c.as_slice-3.ensures, c.as_slice-4.ensures, c.as_slice-5.ensures, c.as_slice-6.ensures, c.as_slice-7.ensures, c.as_slice-8.ensures, c.as_slice-9.ensures, c.as_slice-10.ensures, c.as_slice-11.ensures, c.as_slice-12.ensures) refl
