use Rattle.std.proofs.Common.{Some, sym, ap, ◌∙◌, w16}
use Rattle.std.specs.Int.{from_be_bytes}
use Rattle.std.proofs.lemmas.Nat.{from_be_bytes-to_be_bytes_2}
use Rattle.rv_disasm.proofs.Data.{half_read}
use Rattle.rv_disasm.proofs.reading.half_digits.Goals as goal

pub returns-in-Ok : goal.returns-in-Ok
returns-in-Ok c = λ n low e. let got = half_read _ _ c.args.digits.now n low e c.decode_to_slice.ensures.value in ap Some (c.from.ensures ∙ c.from_be_bytes.ensures ∙ ap (from_be_bytes w16) got.1 ∙ from_be_bytes-to_be_bytes_2 n low)

pub returns-in-Err : goal.returns-in-Err
returns-in-Err c = λ n low e. let got = half_read _ _ c.args.digits.now n low e c.decode_to_slice.ensures.value in let clash = sym c.in-Err.is ∙ got.0 in absurd (cc)
