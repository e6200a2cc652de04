-- Whether a run begins, and the word that doesn't fit where it doesn't, are the same of a program whose relocations are filled: that has
-- the same length and the same lines.
use Rattle.std.proofs.Common.{◌≡◌, ℕ, ◌+◌, ◌^◌, length, Some, None, Result, Ok, Err, refl, sym, ap, ◌∙◌}
use Rattle.std.specs.Prelude.{nat_le, nat_lt, if◌then◌else◌}
use Rattle.rv_full.specs.Steps.{Machine}
use Rattle.rv_load.specs.declared.program.Program.{Program}
use Rattle.rv_load.specs.declared.settings.BadWord.{BadWord}
use Rattle.rv_load.specs.declared.settings.BadWord.TheVariants as bad
use Rattle.rv_load.specs.declared.settings.Settings.{Settings}
use Rattle.rv_load.specs.declared.settings.Start.{Start}
use Rattle.rv_load.specs.declared.settings.Start.TheVariants.{Beginning, Offset, Line}
use Rattle.rv_load.specs.Words.{or_bad, ◌then◌}
use Rattle.rv_run.specs.Outcomes.{IsLinked}
use Rattle.rv_steps.specs.Starting.{begin, first_machine, fits, line_start, start_offset, start_word}

-- the offset that a run begins at
abbrev offset_of : Settings → Program → Result ℕ BadWord
offset_of s p = fits s p then λ base. or_bad (start_word s.start) (start_offset s.start p)

fits_alike : (s : Settings) (p q : Program) → length q.bytes ≡ length p.bytes → fits s q ≡ fits s p
fits_alike s p q e = ap (λ n. if nat_le (s.base + n) (2 ^ 64) then Ok s.base else Err bad.Base) e

start_alike : (start : Start) (p q : Program) → length q.bytes ≡ length p.bytes → q.lines ≡ p.lines → start_offset start q ≡ start_offset start p
start_alike Beginning p q e f = refl
start_alike (Offset offset) p q e f = ap (λ n. if nat_lt offset n then Some offset else None) e
start_alike (Line index) p q e f = ap (λ lines. line_start lines index) f

offset_alike : (s : Settings) (p q : Program) → IsLinked s p q → offset_of s q ≡ offset_of s p
offset_alike s p q linked =
    let e = linked.filled.long in
    λ j. fits_alike s p q e j then λ base. or_bad (start_word s.start) (start_alike s.start p q e linked.lines j)

-- a machine is made where there is an offset
by_offset : (a b : Result ℕ BadWord) (f : ℕ → Machine) → (a then λ base. b then λ offset. Ok (f offset)) ≡ ((a then λ base. b) then λ offset. Ok (f offset))
by_offset (Ok base) b f = refl
by_offset (Err word) b f = refl

begin_by_offset : (s : Settings) (p : Program) → begin s p ≡ (offset_of s p then λ offset. Ok (first_machine s p offset))
begin_by_offset s p = by_offset (fits s p) (or_bad (start_word s.start) (start_offset s.start p)) (first_machine s p)

no_offset : (a : Result ℕ BadWord) (f : ℕ → Machine) (cause : BadWord) → (a then λ offset. Ok (f offset)) ≡ Err cause → a ≡ Err cause
no_offset (Ok offset) f cause e = absurd (cc)
no_offset (Err word) f cause e = let same : word ≡ cause = cc in ap (λ (w : BadWord). Err w) same

ends_so : (s : Settings) (p q : Program) (cause : BadWord) → offset_of s q ≡ offset_of s p → begin s q ≡ Err cause → begin s p ≡ Err cause
ends_so s p q cause same e =
    let own : offset_of s q ≡ Err cause = no_offset (offset_of s q) (first_machine s q) cause (sym (begin_by_offset s q) ∙ e) in
    begin_by_offset s p ∙ ap (λ r. r then λ offset. Ok (first_machine s p offset)) (sym same ∙ own)

pub unfit_linked : (s : Settings) (p q : Program) (cause : BadWord) → IsLinked s p q → begin s q ≡ Err cause → begin s p ≡ Err cause
unfit_linked s p q cause linked e = ends_so s p q cause (offset_alike s p q linked) e

pub unfit_unlinked : (s : Settings) (p q : Program) (cause : BadWord) → IsLinked s p q → begin s p ≡ Err cause → begin s q ≡ Err cause
unfit_unlinked s p q cause linked e = ends_so s q p cause (sym (offset_alike s p q linked)) e
