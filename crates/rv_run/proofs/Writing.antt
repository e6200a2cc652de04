-- What was due and was written ends a call.
use Rattle.std.proofs.Common.{ℕ, Bool, true, false, ◌⊎◌, inl, inr, List, sym, subst}
use Rattle.std.specs.Io.KnownBytes.{Appends}
use Rattle.rv_load.specs.declared.given.Given.{Given}
use Rattle.rv_load.specs.declared.settings.Settings.{Settings}
use Rattle.rv_run.specs.declared.outcome.Outcome.{Outcome}
use Rattle.rv_run.specs.declared.outcome.Outcome.TheVariants as ends
use Rattle.rv_run.specs.Outcomes.{Call, Read, Due, IsFault, IsUntouched, Means, Taken, WritesText, is_asked, other, own, own_of, text_of, Ended}

-- nothing is due of an outcome that no input means
abbrev IsMeant : Outcome → Type 0
IsMeant outcome = (g : Given) × (s : Settings) × (input : List ℕ) × Means g s input outcome

meant : (c : Call) (outcome : Outcome) → Read c outcome → IsMeant outcome
meant c outcome read = (read.0, read.1, read.3, read.6)

written : (c : Call) (outcome : Outcome) → Due c outcome → Appends (own outcome c).taken (own outcome c).taken_after (text_of outcome) → IsUntouched (other outcome c) → Ended c outcome
written c (ends.Ran run) due appended same = (due, appended, same)
written c (ends.Help text) due appended same = (due, appended, same)
written c (ends.Version text) due appended same = (due, appended, same)
written c (ends.Usage text) due appended same = (due, appended, same)
written c (ends.BadWord cause word) due appended same = (due, appended, same)
written c (ends.NotReport line) due appended same = (due, appended, same)
written c ends.NotHex due appended same = (due, appended, same)
written c (ends.Unplaced error reloc) due appended same = (due, appended, same)
written c ends.TooLong due appended same = (due, appended, same)
written c ends.ReadFault due appended same = absurd (meant c ends.ReadFault due).3
written c ends.WriteFault due appended same = absurd (meant c ends.WriteFault due).3
written c ends.OutOfMemory due appended same = absurd (meant c ends.OutOfMemory due).3

a_fault : (is_output : Bool) (output errors : Taken) → IsFault (own_of is_output output errors) → IsFault output ⊎ IsFault errors
a_fault true output errors rose = inl rose
a_fault false output errors rose = inr rose

pub ended_written : (c : Call) (outcome returned : Outcome) → Due c outcome → WritesText outcome c.output c.errors returned → Ended c returned
ended_written c outcome returned due (inl (is, appended), same) = subst (λ (o : Outcome). Ended c o) (sym is) (written c outcome due appended same)
ended_written c outcome returned due (inr (inl (is, rose, front)), same) =
    subst (λ (o : Outcome). Ended c o) (sym is) (a_fault (is_asked outcome) c.output c.errors rose, (outcome, due, front, same))
ended_written c outcome returned due (inr (inr (is, front)), same) = subst (λ (o : Outcome). Ended c o) (sym is) (inr (outcome, due, front, same))

-- an outcome that an input means is due where the input was read
pub due_read : (c : Call) (outcome : Outcome) → Read c outcome → Due c outcome
due_read c (ends.Ran run) read = read
due_read c (ends.BadWord cause word) read = inr read
due_read c (ends.NotReport line) read = read
due_read c ends.NotHex read = read
due_read c (ends.Unplaced error reloc) read = read
due_read c (ends.Help text) read = absurd (meant c (ends.Help text) read).3
due_read c (ends.Version text) read = absurd (meant c (ends.Version text) read).3
due_read c (ends.Usage text) read = absurd (meant c (ends.Usage text) read).3
due_read c ends.TooLong read = absurd (meant c ends.TooLong read).3
due_read c ends.ReadFault read = read
due_read c ends.WriteFault read = read
due_read c ends.OutOfMemory read = read
