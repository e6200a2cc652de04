-- What comes of a program is what comes of it once its relocations are filled.
use Rattle.std.proofs.Common.{inr, List, ℕ, Ok}
use Rattle.rv_load.specs.declared.given.Given.{Given}
use Rattle.rv_load.specs.declared.program.Program.{Program}
use Rattle.rv_load.specs.declared.settings.Settings.{Settings}
use Rattle.rv_run.specs.declared.outcome.Outcome.{Outcome}
use Rattle.rv_run.specs.declared.outcome.Outcome.TheVariants as ends
use Rattle.rv_run.specs.Outcomes.{Loads, IsLinked, OfLinked, OfProgram, Means}
use Rattle.rv_run.proofs.Beginning.{unfit_linked}

pub of_linked : (g : Given) (s : Settings) (p q : Program) (outcome : Outcome) → IsLinked s p q → OfLinked g s q outcome → OfProgram g s p outcome
of_linked g s p q (ends.Ran run) linked h = (q, linked, h)
of_linked g s p q (ends.BadWord cause word) linked h = (inr (linked.placed, unfit_linked s p q cause linked h.0), h.1)
of_linked g s p q (ends.Unplaced error reloc) linked h = absurd h
of_linked g s p q (ends.NotReport line) linked h = absurd h
of_linked g s p q ends.NotHex linked h = absurd h
of_linked g s p q (ends.Help text) linked h = absurd h
of_linked g s p q (ends.Version text) linked h = absurd h
of_linked g s p q (ends.Usage text) linked h = absurd h
of_linked g s p q ends.TooLong linked h = absurd h
of_linked g s p q ends.ReadFault linked h = absurd h
of_linked g s p q ends.WriteFault linked h = absurd h
of_linked g s p q ends.OutOfMemory linked h = absurd h

pub of_program : (g : Given) (s : Settings) (input : List ℕ) (p : Program) (outcome : Outcome) → Loads g.hex input (Ok p) → OfProgram g s p outcome → Means g s input outcome
of_program g s input p (ends.Ran run) loads h = (p, loads, h)
of_program g s input p (ends.BadWord cause word) loads h = (p, loads, h)
of_program g s input p (ends.Unplaced error reloc) loads h = (p, loads, h)
of_program g s input p (ends.NotReport line) loads h = absurd h
of_program g s input p ends.NotHex loads h = absurd h
of_program g s input p (ends.Help text) loads h = absurd h
of_program g s input p (ends.Version text) loads h = absurd h
of_program g s input p (ends.Usage text) loads h = absurd h
of_program g s input p ends.TooLong loads h = absurd h
of_program g s input p ends.ReadFault loads h = absurd h
of_program g s input p ends.WriteFault loads h = absurd h
of_program g s input p ends.OutOfMemory loads h = absurd h
