-- The kinds of use that the toy's assembler takes.
use Rattle.std.specs.Prelude.{◌≡◌, ◌≤◌, true, [], ◌∷◌}
use Rattle.rv_base.specs.LabelUse.{Kinds}

-- a kind of use of one byte that reaches a little way forward, and may go by a veneer
pub record IsOneByte {L : Type 0} (kinds : Kinds L) (kind : L) : Type 0 where
  pub one : kinds.fields kind ≡ 255 ∷ []
  pub supported : kinds.has_veneer kind ≡ true
  pub far : 32 ≤ kinds.forward kind
