use Rattle.std.proofs.Common.{◌≡◌, drop}
use Rattle.std.specs.List.{find}
use Rattle.std.specs.Str.{bytes_eq}
use Rattle.rv_disasm.specs.Text.{form_name}
use Rattle.rv_disasm.proofs.naming.first_named.Given as goal

abbrev pub invariant-loop-form : goal.invariant-loop-form
invariant-loop-form l = find (λ f. bytes_eq (form_name f) l.name) (drop l.form-index l.forms) ≡ find (λ f. bytes_eq (form_name f) l.name) l.forms
