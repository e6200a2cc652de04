-- Without a fault the words and the input settle how a call ends.
use Rattle.std.proofs.Common.{◌≡◌, ◌⊎◌, inl, inr, ⊎_elim, ℕ, ◌<◌, ◌≤◌, Bool, true, false, List, length, Option, Some, None, Ok, Err, refl, sym, ap, ◌∙◌, subst, length-append, arith}
use Rattle.std.specs.Prelude.{IfSome}
use Rattle.std.proofs.lemmas.Option.{same_Some}
use Rattle.std.specs.Io.KnownBytes.{Consumes}
use Rattle.rv_stream.specs.Ends.{Rose}
use Rattle.rv_full.specs.Steps.{Machine}
use Rattle.rv_fill.specs.declared.error.PlaceError.{PlaceError}
use Rattle.rv_fill.specs.declared.error.PlaceError.TheVariants as place
use Rattle.rv_load.specs.declared.given.Given.{Given}
use Rattle.rv_load.specs.declared.program.Program.{Program}
use Rattle.rv_load.specs.declared.program.ProgramError.TheVariants as program_errors
use Rattle.rv_load.specs.declared.settings.BadWord.{BadWord}
use Rattle.rv_load.specs.declared.settings.Settings.{Settings}
use Rattle.rv_load.specs.Command.{Parses}
use Rattle.rv_load.specs.Words.{settings_of}
use Rattle.rv_run.specs.Outcomes.{Call, Loads, OfProgram, Means, Asked, Read, IsBadWord, Ended, limit, word_text, unplaced, IsLinked, IsUnfit, IsRefused, WriteFaults, reloc_of}
use Rattle.rv_run.specs.Settled.{IsOrOutOfMemory, IsOfWords, IsRan, NoFault, IsSettled}
use Rattle.rv_steps.specs.Starting.{begin}
use Rattle.rv_run.specs.declared.outcome.Outcome.{Outcome}
use Rattle.rv_run.specs.declared.outcome.Outcome.TheVariants as ends
use Rattle.rv_run.proofs.Beginning.{unfit_unlinked}
use Rattle.rv_run.proofs.SameWords.{Alike, alike, not_both, one_Err, settings_alike, same_settings, word_alike}

-- ---- what was left

where_left : (left : Option (List ℕ)) (P : List ℕ → Type 0) → ((input : List ℕ) → left ≡ Some input → P input) → IfSome left P
where_left None P f = tt
where_left (Some input) P f = f input refl

at_left : (left : Option (List ℕ)) (P : List ℕ → Type 0) (input : List ℕ) → IfSome left P → left ≡ Some input → P input
at_left left P input holds is = subst (λ (l : Option (List ℕ)). IfSome l P) is holds

gave_more : (a b : Option (List ℕ)) (bytes : List ℕ) (n : ℕ) → Consumes a b bytes → n < length bytes → IfSome a (λ left. n < length left)
gave_more None b bytes n took more = tt
gave_more (Some xs) None bytes n took more = absurd took
gave_more (Some xs) (Some ys) bytes n took more = omega (arith, ap length took, length-append bytes ys)

-- ---- by the words and the input

loads_alike : (g h : Given) (input : List ℕ) (p : Program) → Alike g h → Loads g.hex input (Ok p) → Loads h.hex input (Ok p)
loads_alike g h input p a loads = subst (λ (hex : Bool). Loads hex input (Ok p)) a.hex loads

-- another reading of the same words means the same
means_alike : (g h : Given) (s t : Settings) (input : List ℕ) (outcome : Outcome) → Alike h g → t ≡ s → Means h t input outcome → Means g s input outcome
means_alike g h s t input (ends.Ran run) a same (p, loads, made) = (p, loads_alike h g input p a loads, subst (λ (x : Settings). OfProgram g x p (ends.Ran run)) same made)
means_alike g h s t input (ends.BadWord cause word) a same (p, loads, (unfit, is)) = (p, loads_alike h g input p a loads, (subst (λ (x : Settings). IsUnfit x p cause) same unfit, is ∙ word_alike h g a cause))
means_alike g h s t input (ends.Unplaced error reloc) a same (p, loads, (refused, is)) = (p, loads_alike h g input p a loads, (subst (λ (x : Settings). IsRefused x p error) same refused, is))
means_alike g h s t input (ends.NotReport line) a same loads = subst (λ (hex : Bool). Loads hex input (Err (program_errors.NotReport line))) a.hex loads
means_alike g h s t input ends.NotHex a same loads = subst (λ (hex : Bool). Loads hex input (Err program_errors.NotHex)) a.hex loads
means_alike g h s t input (ends.Help text) a same m = absurd m
means_alike g h s t input (ends.Version text) a same m = absurd m
means_alike g h s t input (ends.Usage text) a same m = absurd m
means_alike g h s t input ends.TooLong a same m = absurd m
means_alike g h s t input ends.ReadFault a same m = absurd m
means_alike g h s t input ends.WriteFault a same m = absurd m
means_alike g h s t input ends.OutOfMemory a same m = absurd m

-- out of memory; too long an input; or what the input means
abbrev Settles : Given → Settings → List ℕ → Outcome → Type 0
Settles g s input returned = (returned ≡ ends.OutOfMemory) ⊎ ((returned ≡ ends.TooLong) × (limit < length input)) ⊎ ((length input ≤ limit) × Means g s input returned)

module _ (c : Call) (g : Given) (s : Settings) (asked : Asked c.words g s) (fine : NoFault c) (input : List ℕ) (is : c.left ≡ Some input) where
  by_read : (returned : Outcome) → Read c returned → Settles g s input returned
  by_read returned (h, t, other, read, whole, short, means) =
      let same : read ≡ input = at_left c.left (λ left. read ≡ left) input whole is in
      inr (inr (subst (λ (xs : List ℕ). length xs ≤ limit) same short, means_alike g h s t input returned (alike c.words h g other.parsed asked.parsed) (same_settings c.words h g t s other asked) (subst (λ (xs : List ℕ). Means h t xs returned) same means)))

  by_word : (cause : BadWord) (word : List ℕ) → IsBadWord c cause word → ⊥
  by_word cause word (h, parsed, set, text) =
      not_both (settings_of h) s cause (settings_alike h g (alike c.words h g parsed asked.parsed) ∙ asked.set) set

  settles : (returned : Outcome) → Ended c returned → Settles g s input returned
  settles (ends.Ran run) ended = by_read (ends.Ran run) ended.0
  settles (ends.Help text) ended = absurd (rw asked.parsed.0 at ended.0)
  settles (ends.Version text) ended = absurd (rw asked.parsed.0 at ended.0)
  settles (ends.Usage text) ended = absurd (rw asked.parsed.0 at ended.0.2)
  settles (ends.BadWord cause word) ended = ⊎_elim (λ bad. absurd (by_word cause word bad)) (λ read. by_read (ends.BadWord cause word) read) ended.0
  settles (ends.NotReport line) ended = by_read (ends.NotReport line) ended.0
  settles (ends.Unplaced error reloc) ended = by_read (ends.Unplaced error reloc) ended.0
  settles ends.NotHex ended = by_read ends.NotHex ended.0
  settles ends.TooLong ended = inr (inl (refl, at_left c.left (λ left. limit < length left) input (gave_more c.left c.left_after ended.0.1.0 limit ended.0.1.1 ended.0.1.2) is))
  settles ends.ReadFault ended = absurd (fine.0 ended.1)
  settles ends.WriteFault ended = absurd (fine.1 ended.0)
  settles ends.OutOfMemory ended = inl refl

-- ---- one meaning

-- an input gives one program, or one reason why it gives none
one_program : (hex : Bool) (input : List ℕ) (p q : Program) → Loads hex input (Ok p) → Loads hex input (Ok q) → p ≡ q
one_program true input p q a b = cc
one_program false input p q a b = cc

no_line : (hex : Bool) (input : List ℕ) (p : Program) (line : ℕ) → Loads hex input (Ok p) → Loads hex input (Err (program_errors.NotReport line)) → ⊥
no_line true input p line a b = b
no_line false input p line a b = absurd (cc)

no_digits : (hex : Bool) (input : List ℕ) (p : Program) → Loads hex input (Ok p) → Loads hex input (Err program_errors.NotHex) → ⊥
no_digits true input p a b = absurd (cc)
no_digits false input p a b = b

one_line : (hex : Bool) (input : List ℕ) (line other : ℕ) → Loads hex input (Err (program_errors.NotReport line)) → Loads hex input (Err (program_errors.NotReport other)) → line ≡ other
one_line true input line other a b = absurd a
one_line false input line other a b = cc

line_or_digits : (hex : Bool) (input : List ℕ) (line : ℕ) → Loads hex input (Err (program_errors.NotReport line)) → Loads hex input (Err program_errors.NotHex) → ⊥
line_or_digits true input line a b = a
line_or_digits false input line a b = b

-- a program is refused for one relocation, or doesn't fit by one word, or neither
found_first : (s : Settings) (p : Program) (error : PlaceError) → IsRefused s p error → unplaced s p ≡ Some error
found_first s p place.BadBase h = absurd h
found_first s p (place.BadRecord index) h = h
found_first s p (place.NoSymbol index) h = h
found_first s p (place.OutOfReach index) h = h
found_first s p place.OutOfMemory h = absurd h

not_base : (s : Settings) (p : Program) (error : PlaceError) → IsRefused s p error → unplaced s p ≡ Some place.BadBase → ⊥
not_base s p place.BadBase h e = h
not_base s p (place.BadRecord index) h e = absurd (cc)
not_base s p (place.NoSymbol index) h e = absurd (cc)
not_base s p (place.OutOfReach index) h e = absurd (cc)
not_base s p place.OutOfMemory h e = h

never_both : (o : Option PlaceError) (error : PlaceError) → o ≡ Some error → o ≡ None → ⊥
never_both o error e f = absurd (cc)

one_found : (o : Option PlaceError) (error other : PlaceError) → o ≡ Some error → o ≡ Some other → error ≡ other
one_found o error other e f = same_Some error other (sym e ∙ f)

refused_or_unfit : (s : Settings) (p : Program) (error : PlaceError) (cause : BadWord) → IsRefused s p error → IsUnfit s p cause → ⊥
refused_or_unfit s p error cause refused (inl (found, is)) = not_base s p error refused found
refused_or_unfit s p error cause refused (inr (placed, begins)) = never_both (unplaced s p) error (found_first s p error refused) placed

one_unfit : (s : Settings) (p : Program) (cause other : BadWord) → IsUnfit s p cause → IsUnfit s p other → cause ≡ other
one_unfit s p cause other (inl (found, is)) (inl (again, same)) = is ∙ sym same
one_unfit s p cause other (inl (found, is)) (inr (placed, begins)) = absurd (never_both (unplaced s p) place.BadBase found placed)
one_unfit s p cause other (inr (placed, begins)) (inl (found, is)) = absurd (never_both (unplaced s p) place.BadBase found placed)
one_unfit s p cause other (inr (placed, begins)) (inr (again, same)) = one_Err (begin s p) cause other begins same

begins_run : (s : Settings) (p q : Program) (first : Machine) (cause : BadWord) → IsLinked s p q → begin s q ≡ Ok first → IsUnfit s p cause → ⊥
begins_run s p q first cause linked begins (inl (found, is)) = never_both (unplaced s p) place.BadBase found linked.placed
begins_run s p q first cause linked begins (inr (placed, e)) = not_both (begin s q) first cause begins (unfit_unlinked s p q cause linked e)

begins_or_unfit : (s : Settings) (p : Program) (first : Machine) (cause : BadWord) → unplaced s p ≡ None → begin s p ≡ Ok first → IsUnfit s p cause → ⊥
begins_or_unfit s p first cause placed e (inl (found, is)) = never_both (unplaced s p) place.BadBase found placed
begins_or_unfit s p first cause placed e (inr (again, begins)) = not_both (begin s p) first cause e begins

module _ (g : Given) (s : Settings) (input : List ℕ) where
  to_long : (returned : Outcome) → limit < length input → Settles g s input returned → IsOrOutOfMemory returned ends.TooLong
  to_long returned long (inl e) = inr e
  to_long returned long (inr (inl (e, more))) = inl e
  to_long returned long (inr (inr (short, means))) = absurd (omega arith)

  -- what a short input means is returned, or out of memory
  meant : (returned : Outcome) → length input ≤ limit → Settles g s input returned → (returned ≡ ends.OutOfMemory) ⊎ Means g s input returned
  meant returned short (inl e) = inl e
  meant returned short (inr (inl (e, more))) = absurd (omega arith)
  meant returned short (inr (inr (le, means))) = inr means

  to_line : (returned : Outcome) (line : ℕ) → Loads g.hex input (Err (program_errors.NotReport line)) → Means g s input returned → returned ≡ ends.NotReport line
  to_line (ends.Ran run) line loads (p, own, ran) = absurd (no_line g.hex input p line own loads)
  to_line (ends.BadWord cause word) line loads (p, own, (unfit, is)) = absurd (no_line g.hex input p line own loads)
  to_line (ends.Unplaced error reloc) line loads (p, own, (refused, is)) = absurd (no_line g.hex input p line own loads)
  to_line (ends.NotReport other) line loads own = ap (λ (n : ℕ). ends.NotReport n) (one_line g.hex input other line own loads)
  to_line ends.NotHex line loads own = absurd (line_or_digits g.hex input line loads own)
  to_line (ends.Help text) line loads m = absurd m
  to_line (ends.Version text) line loads m = absurd m
  to_line (ends.Usage text) line loads m = absurd m
  to_line ends.TooLong line loads m = absurd m
  to_line ends.ReadFault line loads m = absurd m
  to_line ends.WriteFault line loads m = absurd m
  to_line ends.OutOfMemory line loads m = absurd m

  to_digits : (returned : Outcome) → Loads g.hex input (Err program_errors.NotHex) → Means g s input returned → returned ≡ ends.NotHex
  to_digits (ends.Ran run) loads (p, own, ran) = absurd (no_digits g.hex input p own loads)
  to_digits (ends.BadWord cause word) loads (p, own, (unfit, is)) = absurd (no_digits g.hex input p own loads)
  to_digits (ends.Unplaced error reloc) loads (p, own, (refused, is)) = absurd (no_digits g.hex input p own loads)
  to_digits (ends.NotReport other) loads own = absurd (line_or_digits g.hex input other own loads)
  to_digits ends.NotHex loads own = refl
  to_digits (ends.Help text) loads m = absurd m
  to_digits (ends.Version text) loads m = absurd m
  to_digits (ends.Usage text) loads m = absurd m
  to_digits ends.TooLong loads m = absurd m
  to_digits ends.ReadFault loads m = absurd m
  to_digits ends.WriteFault loads m = absurd m
  to_digits ends.OutOfMemory loads m = absurd m

  -- what is meant is of this program
  is_own : (p q : Program) → Loads g.hex input (Ok p) → Loads g.hex input (Ok q) → q ≡ p
  is_own p q loads own = one_program g.hex input q p own loads

  to_refusal : (returned : Outcome) (p : Program) (error : PlaceError) → Loads g.hex input (Ok p) → IsRefused s p error → Means g s input returned → returned ≡ ends.Unplaced error (reloc_of error p.relocs)
  to_refusal (ends.Ran run) p error loads refused (q, own, (r, linked, ran)) =
      absurd (never_both (unplaced s p) error (found_first s p error refused) (ap (λ (x : Program). unplaced s x) (sym (is_own p q loads own)) ∙ linked.placed))
  to_refusal (ends.BadWord other word) p error loads refused (q, own, (unfit, is)) =
      absurd (refused_or_unfit s p error other refused (subst (λ (x : Program). IsUnfit s x other) (is_own p q loads own) unfit))
  to_refusal (ends.Unplaced other reloc) p error loads refused (q, own, (others, is)) =
      let mine = is_own p q loads own in
      let same : other ≡ error = one_found (unplaced s p) other error (found_first s p other (subst (λ (x : Program). IsRefused s x other) mine others)) (found_first s p error refused) in
      (λ j. ends.Unplaced other (is j)) ∙ (λ j. ends.Unplaced (same j) (reloc_of (same j) (mine j).relocs))
  to_refusal (ends.NotReport other) p error loads refused own = absurd (no_line g.hex input p other loads own)
  to_refusal ends.NotHex p error loads refused own = absurd (no_digits g.hex input p loads own)
  to_refusal (ends.Help text) p error loads refused m = absurd m
  to_refusal (ends.Version text) p error loads refused m = absurd m
  to_refusal (ends.Usage text) p error loads refused m = absurd m
  to_refusal ends.TooLong p error loads refused m = absurd m
  to_refusal ends.ReadFault p error loads refused m = absurd m
  to_refusal ends.WriteFault p error loads refused m = absurd m
  to_refusal ends.OutOfMemory p error loads refused m = absurd m

  to_word : (returned : Outcome) (p : Program) (cause : BadWord) → Loads g.hex input (Ok p) → IsUnfit s p cause → Means g s input returned → returned ≡ ends.BadWord cause (word_text g cause)
  to_word (ends.Ran run) p cause loads unfit (q, own, (r, linked, ran)) =
      absurd (begins_run s p r ran.first cause (subst (λ (x : Program). IsLinked s x r) (is_own p q loads own) linked) ran.begins unfit)
  to_word (ends.BadWord other word) p cause loads unfit (q, own, (others, is)) =
      let same = one_unfit s p other cause (subst (λ (x : Program). IsUnfit s x other) (is_own p q loads own) others) unfit in
      (λ j. ends.BadWord other (is j)) ∙ (λ j. ends.BadWord (same j) (word_text g (same j)))
  to_word (ends.Unplaced error reloc) p cause loads unfit (q, own, (refused, is)) =
      absurd (refused_or_unfit s p error cause (subst (λ (x : Program). IsRefused s x error) (is_own p q loads own) refused) unfit)
  to_word (ends.NotReport other) p cause loads unfit own = absurd (no_line g.hex input p other loads own)
  to_word ends.NotHex p cause loads unfit own = absurd (no_digits g.hex input p loads own)
  to_word (ends.Help text) p cause loads unfit m = absurd m
  to_word (ends.Version text) p cause loads unfit m = absurd m
  to_word (ends.Usage text) p cause loads unfit m = absurd m
  to_word ends.TooLong p cause loads unfit m = absurd m
  to_word ends.ReadFault p cause loads unfit m = absurd m
  to_word ends.WriteFault p cause loads unfit m = absurd m
  to_word ends.OutOfMemory p cause loads unfit m = absurd m

  to_run : (returned : Outcome) (p : Program) (first : Machine) → Loads g.hex input (Ok p) → unplaced s p ≡ None → begin s p ≡ Ok first → Means g s input returned → IsRan returned
  to_run (ends.Ran run) p first loads placed e m = tt
  to_run (ends.BadWord other word) p first loads placed e (q, own, (unfit, is)) =
      absurd (begins_or_unfit s p first other placed e (subst (λ (x : Program). IsUnfit s x other) (is_own p q loads own) unfit))
  to_run (ends.Unplaced error reloc) p first loads placed e (q, own, (refused, is)) =
      absurd (never_both (unplaced s p) error (found_first s p error (subst (λ (x : Program). IsRefused s x error) (is_own p q loads own) refused)) placed)
  to_run (ends.NotReport other) p first loads placed e own = absurd (no_line g.hex input p other loads own)
  to_run ends.NotHex p first loads placed e own = absurd (no_digits g.hex input p loads own)
  to_run (ends.Help text) p first loads placed e m = absurd m
  to_run (ends.Version text) p first loads placed e m = absurd m
  to_run (ends.Usage text) p first loads placed e m = absurd m
  to_run ends.TooLong p first loads placed e m = absurd m
  to_run ends.ReadFault p first loads placed e m = absurd m
  to_run ends.WriteFault p first loads placed e m = absurd m
  to_run ends.OutOfMemory p first loads placed e m = absurd m

  or_memory : (returned outcome : Outcome) → (Means g s input returned → returned ≡ outcome) → (returned ≡ ends.OutOfMemory) ⊎ Means g s input returned → IsOrOutOfMemory returned outcome
  or_memory returned outcome f (inl e) = inr e
  or_memory returned outcome f (inr m) = inl (f m)

-- ---- by the words alone

asks_none : (c : Call) (returned : Outcome) → Ended c returned → ((g : Given) → ¬ Parses c.words (Ok g)) → ¬ WriteFaults c → IsOfWords returned
asks_none c (ends.Help text) ended none fine = tt
asks_none c (ends.Version text) ended none fine = tt
asks_none c (ends.Usage text) ended none fine = tt
asks_none c ends.OutOfMemory ended none fine = tt
asks_none c (ends.Ran run) ended none fine = absurd (none ended.0.0 ended.0.2.parsed)
asks_none c (ends.BadWord cause word) ended none fine = ⊎_elim (λ bad. absurd (none bad.0 bad.1)) (λ read. absurd (none read.0 read.2.parsed)) ended.0
asks_none c (ends.NotReport line) ended none fine = absurd (none ended.0.0 ended.0.2.parsed)
asks_none c (ends.Unplaced error reloc) ended none fine = absurd (none ended.0.0 ended.0.2.parsed)
asks_none c ends.NotHex ended none fine = absurd (none ended.0.0 ended.0.2.parsed)
asks_none c ends.TooLong ended none fine = absurd (none ended.0.0.0 ended.0.0.2.parsed)
asks_none c ends.ReadFault ended none fine = absurd (none ended.0.0 ended.0.2.parsed)
asks_none c ends.WriteFault ended none fine = absurd (fine ended.0)

module _ (c : Call) (g : Given) (cause : BadWord) (parsed : Parses c.words (Ok g)) (set : settings_of g ≡ Err cause) (fine : ¬ WriteFaults c) where
  -- no run is asked for
  not_asked : (h : Given) (t : Settings) → Asked c.words h t → ⊥
  not_asked h t a =
      not_both (settings_of h) t cause a.set (settings_alike h g (alike c.words h g a.parsed parsed) ∙ set)

  says_word : (returned : Outcome) → Ended c returned → IsOrOutOfMemory returned (ends.BadWord cause (word_text g cause))
  says_word (ends.Help text) ended = absurd (rw parsed.0 at ended.0)
  says_word (ends.Version text) ended = absurd (rw parsed.0 at ended.0)
  says_word (ends.Usage text) ended = absurd (rw parsed.0 at ended.0.2)
  says_word ends.OutOfMemory ended = inr refl
  says_word (ends.Ran run) ended = absurd (not_asked ended.0.0 ended.0.1 ended.0.2)
  says_word (ends.NotReport line) ended = absurd (not_asked ended.0.0 ended.0.1 ended.0.2)
  says_word (ends.Unplaced error reloc) ended = absurd (not_asked ended.0.0 ended.0.1 ended.0.2)
  says_word ends.NotHex ended = absurd (not_asked ended.0.0 ended.0.1 ended.0.2)
  says_word ends.TooLong ended = absurd (not_asked ended.0.0.0 ended.0.0.1 ended.0.0.2)
  says_word ends.ReadFault ended = absurd (not_asked ended.0.0 ended.0.1 ended.0.2)
  says_word ends.WriteFault ended = absurd (fine ended.0)
  says_word (ends.BadWord other word) ended = ⊎_elim
      (λ (h, own, bad, is).
      let a = alike c.words h g own parsed in
      let same : other ≡ cause = one_Err (settings_of h) other cause bad (settings_alike h g a ∙ set) in
      inl ((λ j. ends.BadWord other (is j)) ∙ (λ j. ends.BadWord (same j) (word_alike h g a (same j) j))))
      (λ read. absurd (not_asked read.0 read.1 read.2))
      ended.0

pub settled : (c : Call) (returned : Outcome) → Ended c returned → IsSettled c returned
settled c returned ended = record {
  of_words = asks_none c returned ended;
  bad_word = λ g cause parsed set fine. says_word c g cause parsed set fine returned ended;
  too_long = λ g s asked fine. where_left c.left _ (λ input is long. to_long g s input returned long (settles c g s asked fine input is returned ended));
  not_report = λ g s line asked fine. where_left c.left _ (λ input is short loads. or_memory g s input returned _ (to_line g s input returned line loads) (meant g s input returned short (settles c g s asked fine input is returned ended)));
  not_hex = λ g s asked fine. where_left c.left _ (λ input is short loads. or_memory g s input returned _ (to_digits g s input returned loads) (meant g s input returned short (settles c g s asked fine input is returned ended)));
  not_placed = λ g s p error asked fine. where_left c.left _ (λ input is short loads refused. or_memory g s input returned _ (to_refusal g s input returned p error loads refused) (meant g s input returned short (settles c g s asked fine input is returned ended)));
  no_start = λ g s p cause asked fine. where_left c.left _ (λ input is short loads unfit. or_memory g s input returned _ (to_word g s input returned p cause loads unfit) (meant g s input returned short (settles c g s asked fine input is returned ended)));
  complete = λ g s p first asked fine. where_left c.left _ (λ input is short loads placed e. ran_or_memory g s input returned p first loads placed e (meant g s input returned short (settles c g s asked fine input is returned ended)));
}
  where
    ran_or_memory : (g : Given) (s : Settings) (input : List ℕ) (o : Outcome) (p : Program) (first : Machine) → Loads g.hex input (Ok p) → unplaced s p ≡ None → begin s p ≡ Ok first → (o ≡ ends.OutOfMemory) ⊎ Means g s input o → IsRan o
    ran_or_memory g s input o p first loads placed e (inl is) = subst (λ (x : Outcome). IsRan x) (sym is) tt
    ran_or_memory g s input o p first loads placed e (inr m) = to_run g s input o p first loads placed e m
