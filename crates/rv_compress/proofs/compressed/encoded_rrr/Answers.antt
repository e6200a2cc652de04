use Rattle.rv_compress.proofs.ChosenForms.{half_holds}
use Rattle.rv_compress.proofs.compressed.encoded_rrr.Goals as goal

pub returns-in-Some : goal.returns-in-Some
returns-in-Some c = half_holds _ _ _ _ c.in-Some.ensures
