-- The setting of the vector unit, as text.
use Rattle.std.specs.Prelude.{ℕ, List, ◌++◌, codes}
use Rattle.std.specs.Fmt.{decimal}
use Rattle.rv_vector.specs.declared.vstate.VState.{VState}
use Rattle.rv_vector.specs.VType.{vtype_text}

abbrev pub vstate_text : VState → List ℕ
vstate_text state = codes "#avl=" ++ decimal (state.avl.size.value) ++ codes ", #vtype=(" ++ vtype_text state.vtype ++ codes ")"
