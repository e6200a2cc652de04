-- What a box lends for writing.
use Rattle.std.specs.Borrow.{Lends, MutBor, Fml, RattleType}
use Rattle.rv_inst.specs.contracts.boxed.Boxed.{the_row}

module _ (T : RattleType) where
  -- the box ends with the last value behind what it lends
  abbrev pub LendsHeld : MutBor T.Denot → MutBor T.Denot → Fml
  LendsHeld held lent = Lends (the_row T) T held lent (λ w. w)
