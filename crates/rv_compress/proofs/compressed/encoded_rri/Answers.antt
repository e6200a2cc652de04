use Rattle.rv_compress.proofs.ChosenForms.{half_holds}
use Rattle.rv_compress.proofs.compressed.encoded_rri.Goals as goal

pub returns-in-Some-clause-holds : goal.returns-in-Some-clause-holds
returns-in-Some-clause-holds c = half_holds _ _ _ _ c.in-Some.ensures.form
